use Rattle.std.proofs.Common.{◌≡◌, ◌+◌, ◌<◌, ◌++◌, ◌∙◌, drop, get_or, length, map, slice_set, subst, sym, take}
use Rattle.std.proofs.lemmas.List.{get_or_default, length-set}
use Rattle.std.proofs.lemmas.List.Edits.{map_over_more}
use Rattle.ar_attached.specs.Names.{shown_byte}
use Rattle.ar_attached.proofs.initiator_name.show.Goals as goal

pub loop-at-preserved : goal.loop-at-preserved
loop-at-preserved c =
    let long : length c.loop-at.bytes ≡ 223 = c.loop-at.invariant.0 in
    let inside : c.loop-at.at < length c.loop-at.bytes = subst (λ n. c.loop-at.at < n) (sym long) c.loop-at-test.true in
    let first : c.loop-at.at < length c.args.bytes.now =
    subst (λ n. c.loop-at.at < n) (sym c.told-bytes) c.loop-at-test.true in (
      length-set c.loop-at.bytes c.loop-at.at c.shown_byte.result ∙ long,
      subst
          (λ byte. slice_set c.loop-at.bytes c.loop-at.at byte
          ≡ map shown_byte (take (c.loop-at.at + 1) c.args.bytes.now) ++ drop (c.loop-at.at + 1) c.args.bytes.now)
          (sym c.shown_byte.ensures)
          (map_over_more shown_byte c.args.bytes.now c.loop-at.bytes c.loop-at.at
          (get_or c.loop-at.bytes c.loop-at.at 0) first
          c.loop-at.invariant.1
          (get_or_default c.loop-at.bytes c.loop-at.at 0 (get_or c.loop-at.bytes c.loop-at.at 0) inside)),
    )
