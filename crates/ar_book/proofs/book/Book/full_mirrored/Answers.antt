use Rattle.std.proofs.Common.{◌≡◌, ◌<◌, length, arith, sym, ◌∙◌, true≢false}
use Rattle.ar_book.specs.Tables.{class_of}
use Rattle.ar_book.specs.declared.class.Class.TheVariants.{Mirrored}
use Rattle.ar_book.proofs.CountLemmas.{some_mirrored, full_group}
use Rattle.ar_book.proofs.book.Book.full_mirrored.Goals.{in-Mirrored, in_default}
use Rattle.ar_book.proofs.book.Book.full_mirrored.Goals as goal

pub unreachable-requires : goal.unreachable-requires
unreachable-requires c =
    some_mirrored c.args.self.now c.groups-number-end.ensures.sound c.requires.waiting c.requires.parity c.requires.free
    (λ h l e. c.loop-number.invariant.0 h (omega (arith, l, c.groups-number-end.ensures.count)) e)

pub returns-then-matches-clause-full : goal.returns-then-matches-clause-full
returns-then-matches-clause-full c =
    let there : c.loop-number.number < length c.args.self.now.groups =
    omega (arith, c.groups-number-end.ensures.count) in
    let class : class_of c.args.self.now c.loop-number.number ≡ Mirrored =
    elim c.match-matches.branch [
      | in-Mirrored w ↦ sym c.class.ensures ∙ w.in-Mirrored.is
      | in_default w ↦ absurd (true≢false (sym c.if-matches.true ∙ w.matches-is))
    ] in
    record {
      there = there;
      mirrored = class;
      full = full_group c.args.self.now c.groups-number-end.ensures.sound Mirrored c.loop-number.number there class
          c.requires.mirrored;
      least = c.loop-number.invariant.0;
    }
