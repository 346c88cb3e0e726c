use Rattle.std.proofs.Common.{◌≢◌, sym, ap, subst, ◌∙◌, arith}
use Rattle.ar_disks.specs.Geometry.{block_len_of}
use Rattle.ar_extents.specs.declared.health.Health.TheVariants.{Broken}
use Rattle.ar_book.specs.Tables.{HasBlock}
use Rattle.ar_store.specs.Store.{StoreState}
use Rattle.ar_store.specs.Slots.{OthersStand}
use Rattle.ar_store.specs.Spaces.{store_in}
use Rattle.ar_store.proofs.Standing.{was_sound}
use Rattle.ar_store.proofs.Changes.{block_then}
use Rattle.ar_store.proofs.Fills.{none_stands, done_not_broken, put_others}
use Rattle.ar_store.proofs.Stays.{stays_then}
use Rattle.ar_store.proofs.Fields.{ready_in, fields_stay}
use Rattle.ar_store.proofs.Putting.{put_is, put_none}
use Rattle.ar_store.proofs.store.Store.put.Goals as goal

pub find_way-way-requires : goal.find_way-way-requires
find_way-way-requires g c =
    let a = c.self.inside.space in
    let sound : a.disks.health ≢ Broken = λ broken. c.in_default.not-Broken (c.health.ensures.same ∙ broken) in
    record {
      ready = ready_in a c.self.inside.block c.self.invariant;
      unit = subst (λ (s : StoreState). HasBlock s.book c.args.key) (sym c.self.view_is) c.requires.block;
      free = c.self.invariant.kept.free sound;
      sound = sound;
      whole = c.self.invariant.block_len;
    }

pub write-completion-requires : goal.write-completion-requires
write-completion-requires g c =
    let a = c.self.inside.space in
    let way = c.find_way-way.ensures.found in
    record {
      ready = way.stays.ready;
      block = block_then a.book c.find_way-way.new.self.book c.args.key way.stays.units
          (subst (λ (s : StoreState). HasBlock s.book c.args.key) (sym c.self.view_is) c.requires.block);
      way = way.ready;
      whole = c.requires.whole ∙ ap (λ (s : StoreState). block_len_of s.disks.geometry) (sym c.self.view_is)
          ∙ ap block_len_of (sym way.stays.accessed.follows.geometry);
    }

pub invariant_of-self : goal.invariant_of-self
invariant_of-self g c =
    let a = c.self.inside.space in
    let b = c.find_way-way.new.self in
    let d = c.write-completion.new.self in
    let way = c.find_way-way.ensures.found in
    let wrote = c.write-completion.ensures.puts in
    fields_stay a d c.self.inside.block c.find_way-way.new.block c.self.invariant
    (stays_then a b d way.stays wrote.stays)
    (λ sound. (let before = way.free (was_sound b.disks d.disks wrote.stays.accessed.follows sound) in
    let after = wrote.free in omega arith)) c.find_way-way.ensures.len

pub returns : goal.returns
returns g c =
    let a = c.self.inside.space in
    let b = c.find_way-way.new.self in
    let d = c.write-completion.new.self in
    let k = c.args.key in
    let way = c.find_way-way.ensures.found in
    let wrote = c.write-completion.ensures.puts in
    record {
      done = put_is a b d k c.find_way-way.result _ c.write-completion.result
          (λ broken. c.in_default.not-Broken (c.health.ensures.same ∙ broken)) way c.write-completion.ensures
          c.args.self.now c.self.view_is;
      put = wrote.here;
      others = subst (λ (s : StoreState). OthersStand s (store_in d) k) c.self.view_is
          (put_others (store_in a) (store_in b) (store_in d) k wrote.stays.accessed.follows way.stand wrote.others);
    }

pub returns-in-Broken : goal.returns-in-Broken
returns-in-Broken g c =
    let s = c.args.self.now in
    let broken =
    ap (λ (x : StoreState). x.disks.health) (sym c.self.view_is) ∙ sym c.health.ensures.same ∙ c.in-Broken.is in
    record {
      done = put_none s c.args.key broken;
      put = λ done. absurd (done_not_broken (sym done));
      others = none_stands s s c.args.key broken;
    }
