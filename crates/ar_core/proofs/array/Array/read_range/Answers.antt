use Rattle.std.proofs.Common.{◌≡◌, length, refl, subst, sym, ap, ◌∙◌, arith}
use Rattle.ar_disks.specs.declared.address.Key.{Key}
use Rattle.ar_disks.specs.declared.geometry.Geometry.{Geometry}
use Rattle.ar_disks.specs.Geometry.{block_len_of}
use Rattle.ar_scsi.specs.Reply.{good, check}
use Rattle.ar_scsi.specs.Sense.{internal_target_failure}
use Rattle.ar_unit.specs.Unit.{leaving}
use Rattle.ar_volume.specs.Image.{ArrayState, geometry_of, seen_at}
use Rattle.ar_volume.specs.Following.{ArrayFollows}
use Rattle.std.specs.List.{concat}
use Rattle.ar_volume.specs.Sectors.{sectors_in, unit_block}
use Rattle.ar_volume.specs.Seen.{present_at, sectors_read}
use Rattle.ar_core.specs.Served.{Serves}
use Rattle.ar_core.proofs.Events.{padded_follows}
use Rattle.ar_core.proofs.Serving.{serves_read, sectors_read-some}
use Rattle.ar_core.proofs.array.Array.read_range.Goals as goal

pub invariant_of-self : goal.invariant_of-self
invariant_of-self g c =
    let follows : ArrayFollows c.self.inside.blocks c.fetch_sectors.new.blocks =
    c.fetch_sectors.ensures.keeps.joined in (
      padded_follows c.self.inside.blocks c.fetch_sectors.new.blocks c.self.invariant.0 follows
          (λ now. record {
            same = (c.fetch_sectors.ensures.blocks
                (λ failed. (let lost = c.fetch_sectors.ensures.broken failed in absurd (cc)))).same;
          }),
      c.self.invariant.1 ∙ ap block_len_of (sym follows.store.accessed.follows.geometry),
    )

pub returns-clause-serves : goal.returns-clause-serves
returns-clause-serves g c =
    let whole = subst (λ (s : ArrayState). (k : Key)
    → length (seen_at s k) ≡ block_len_of (geometry_of s)) (sym c.self.view_is) c.requires.blocks in
    subst
    (λ (s : ArrayState). Serves s c.args.addr
    (leaving (present_at s c.args.addr) (good (sectors_read s c.args.addr c.args.lba c.args.count)))
    (check internal_target_failure) c.fetch_sectors.result c.fetch_sectors.new.blocks)
    c.self.view_is
    (serves_read c.self.inside.blocks c.fetch_sectors.new.blocks c.args.addr c.args.lba c.args.count
    c.fetch_sectors.result c.fetch_sectors.result.status refl
    c.fetch_sectors.ensures.keeps.joined
    (sectors_read-some c.self.inside.blocks c.args.addr c.args.lba c.args.count whole (omega arith))
    (λ fine. record { same = (c.fetch_sectors.ensures.blocks fine).same })
    c.fetch_sectors.ensures.sound c.fetch_sectors.ensures.broken
    (λ done. c.fetch_sectors.ensures.done done
    ∙ ap (λ (h : Geometry). good
    (concat (sectors_in h (unit_block (seen_at c.self.inside.blocks) c.args.addr) c.args.lba c.args.count)))
    c.geometry-geometry.ensures)
    c.fetch_sectors.ensures.busy c.fetch_sectors.ensures.failed)
