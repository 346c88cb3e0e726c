use Rattle.std.proofs.Common.{sym, ap, ◌∙◌}
use Rattle.ar_disks.specs.Block.{part_at}
use Rattle.ar_disks.specs.Geometry.{block_len_of}
use Rattle.ar_extents.proofs.Outcomes.{done_sound}
use Rattle.ar_parity.proofs.PartSums.{part_at-whole}
use Rattle.ar_store.specs.Slots.{stands}
use Rattle.ar_store.proofs.Accesses.{get_accessed}
use Rattle.ar_store.proofs.Overwriting.{all_within}
use Rattle.ar_store.proofs.Standing.{was_sound}
use Rattle.ar_store.proofs.store.Store.get.Goals as goal

pub get_part-requires : goal.get_part-requires
get_part-requires g c = record {
  within = all_within _ (block_len_of c.args.self.now.disks.geometry) c.requires.whole;
}

pub returns-clause-given : goal.returns-clause-given
returns-clause-given g c = λ done.
    let s = c.args.self.now in
    let k = c.args.key in
    let new = c.get_part.new.self.disks in
    let got = c.get_part.ensures in
    let sound = was_sound s.disks new (get_accessed s k new got.plan).follows
    (done_sound new.health (sym done ∙ got.outcome)) in
    let len = c.health-health.ensures.whole (λ broken. sound (sym c.health-health.ensures.health ∙ broken)) k in
    got.given done ∙ ap (λ n. part_at (stands s k) 0 n) (c.requires.whole ∙ sym len) ∙ part_at-whole (stands s k)
