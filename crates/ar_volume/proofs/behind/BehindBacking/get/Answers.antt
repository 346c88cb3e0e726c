use Rattle.std.proofs.Common.{◌≡◌, sym, ◌∙◌}
use Rattle.ar_extents.specs.Changes.{is_broken_set}
use Rattle.ar_disks.specs.declared.completion.Completion.TheVariants.{Done}
use Rattle.ar_cache.specs.Backing.{stored}
use Rattle.ar_store.proofs.Accesses.{get_accessed, get_keeps}
use Rattle.ar_volume.specs.declared.behind.Behind.{Behind}
use Rattle.ar_volume.proofs.Breaking.{not_broken}
use Rattle.ar_volume.proofs.Seeing.{heard, keeps_store, done_reported, units_same}
use Rattle.ar_volume.proofs.behind.BehindBacking.get.Goals as goal

pub returns : goal.returns
returns g c =
    let old = c.args.self.now.store in
    let new = c.get.new.self in
    let got = c.get.ensures in
    let answer : c.get.result ≡ stored (is_broken_set new.disks.health) = got.outcome ∙ heard new.disks.health in
    let sound = λ (done : c.get.result ≡ Done). not_broken new.disks.health
    (done_reported (is_broken_set new.disks.health) (sym done ∙ answer)) in
    record {
      answer = answer;
      content = got.given;
      blocks = λ done. record { same = λ k. got.keeps.stands.blocks (sound done) k };
      keeps =
          keeps_store (λ (b : Behind g.row.D.Denot). b.store) c.args.self.now _
          (record {
            units = units_same old.book new.book got.keeps.book;
            accessed = get_accessed old c.args.key new.disks got.plan;
          });
      gets = record {
        reads = record { tables = got.keeps.book; rows = get_keeps old c.args.key new.disks got.plan };
        plan = got.plan;
      };
    }
