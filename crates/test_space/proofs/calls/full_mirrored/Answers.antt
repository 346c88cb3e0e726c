use Rattle.std.proofs.Common.{◌≡◌, false, is_some, Option, None, Some, sym, ◌∙◌, refl, true≢false, arith}
use Rattle.ar_book.specs.declared.class.Slot.{Slot}
use Rattle.test_space.proofs.calls.full_mirrored.Goals as goal

none_if : (o : Option Slot) → is_some o ≡ false → o ≡ None
none_if None e = refl
none_if (Some s) e = absurd (true≢false e)

pub full_mirrored-requires-clause-waiting : goal.full_mirrored-requires-clause-waiting
full_mirrored-requires-clause-waiting c = record {
  key = c.args.waiting;
  block = omega (arith, c.blocks-2.ensures, c.if-waiting-blocks.false);
  unplaced = sym c.home.ensures ∙ none_if c.home.result (sym c.is_some.ensures ∙ c.if-is_some.false);
}
