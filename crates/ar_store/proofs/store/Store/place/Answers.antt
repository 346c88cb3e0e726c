use Rattle.std.proofs.Common.{◌≢◌, length, refl, sym, ap, subst, ◌∙◌, arith}
use Rattle.ar_disks.specs.Block.{zeros}
use Rattle.ar_disks.specs.Geometry.{block_len_of}
use Rattle.ar_extents.specs.declared.health.Health.TheVariants.{Broken}
use Rattle.ar_extents.proofs.Outcomes.{done_sound, sound_done}
use Rattle.ar_book.specs.Tables.{home, HasBlock}
use Rattle.ar_store.specs.Store.{StoreState}
use Rattle.ar_store.specs.Slots.{AllStand}
use Rattle.ar_store.specs.Spaces.{store_in}
use Rattle.ar_store.proofs.Standing.{was_sound}
use Rattle.ar_store.proofs.Changes.{block_then}
use Rattle.ar_store.proofs.Fills.{done_not_broken, put_others}
use Rattle.ar_store.proofs.Stays.{stays_then}
use Rattle.ar_store.proofs.Fields.{ready_in, fields_stay, way_sound, placed_stand, written_home}
use Rattle.ar_store.proofs.Putting.{put_is, put_none}
use Rattle.ar_store.proofs.store.Store.place.Goals as goal

pub find_way-way-requires : goal.find_way-way-requires
find_way-way-requires g c =
    let a = c.self.inside.space in
    let sound : a.disks.health ≢ Broken = λ broken. c.in_default.not-Broken (c.health.ensures.same ∙ broken) in
    record {
      ready = ready_in a c.self.inside.block c.self.invariant;
      unit = subst (λ (s : StoreState). HasBlock s.book c.args.key) (sym c.self.view_is) c.requires.block;
      free = c.self.invariant.kept.free sound;
      sound = sound;
      whole = c.self.invariant.block_len;
    }

pub write-requires : goal.write-requires
write-requires g c =
    let a = c.self.inside.space in
    let way = c.find_way-way.ensures.found in
    record {
      ready = way.stays.ready;
      block = block_then a.book c.find_way-way.new.self.book c.args.key way.stays.units
          (subst (λ (s : StoreState). HasBlock s.book c.args.key) (sym c.self.view_is) c.requires.block);
      way = way.ready;
      whole = ap length c.bytes.ensures ∙ c.zero.ensures.len ∙ c.find_way-way.ensures.len ∙ c.self.invariant.block_len
          ∙ ap block_len_of (sym way.stays.accessed.follows.geometry);
    }

pub invariant_of-self : goal.invariant_of-self
invariant_of-self g c =
    let a = c.self.inside.space in
    let b = c.find_way-way.new.self in
    let d = c.write.new.self in
    let way = c.find_way-way.ensures.found in
    let wrote = c.write.ensures.puts in
    fields_stay a d c.self.inside.block c.zero.new.self c.self.invariant (stays_then a b d way.stays wrote.stays)
    (λ sound. (let before = way.free (was_sound b.disks d.disks wrote.stays.accessed.follows sound) in
    let after = wrote.free in omega arith))
    (c.zero.ensures.len ∙ c.find_way-way.ensures.len)

pub returns : goal.returns
returns g c =
    let a = c.self.inside.space in
    let b = c.find_way-way.new.self in
    let d = c.write.new.self in
    let k = c.args.key in
    let way = c.find_way-way.ensures.found in
    let wrote = c.write.ensures.puts in
    let view = c.self.view_is in
    let none = ap (λ (s : StoreState). home s.book k) view ∙ c.requires.unplaced in
    let zero = c.zero.ensures.zero ∙ ap zeros (c.find_way-way.ensures.len ∙ c.self.invariant.block_len) in
    record {
      done = put_is a b d k c.find_way-way.result _ c.write.result
          (λ broken. c.in_default.not-Broken (c.health.ensures.same ∙ broken)) way c.write.ensures c.args.self.now view;
      placed = λ done.
          written_home (store_in b) d.book k c.find_way-way.result
          (block_then a.book b.book k way.stays.units
          (subst (λ (s : StoreState). HasBlock s.book k) (sym view) c.requires.block))
          way.ready (wrote.tables done)
          (way_sound (store_in b) d.disks k c.find_way-way.result way.ready wrote.stays.accessed.follows
          (done_sound d.disks.health (sym done ∙ wrote.outcome)));
      stands = subst (λ (s : StoreState). AllStand s (store_in d)) view
          (placed_stand (store_in a) (store_in d) k c.zero.new.self none zero
          (put_others (store_in a) (store_in b) (store_in d) k wrote.stays.accessed.follows way.stand wrote.others)
          (λ sound. wrote.here (wrote.outcome ∙ sound_done d.disks.health sound) ∙ c.bytes.ensures));
    }

pub returns-in-Broken : goal.returns-in-Broken
returns-in-Broken g c =
    let s = c.args.self.now in
    let broken =
    ap (λ (x : StoreState). x.disks.health) (sym c.self.view_is) ∙ sym c.health.ensures.same ∙ c.in-Broken.is in
    record {
      done = put_none s c.args.key broken;
      placed = λ done. absurd (done_not_broken (sym done));
      stands = record { blocks = λ _ k. refl };
    }
