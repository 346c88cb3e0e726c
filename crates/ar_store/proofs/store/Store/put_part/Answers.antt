use Rattle.std.proofs.Common.{◌≡◌, ◌+◌, ◌*◌, ◌≤◌, inl, true, length, refl, sym, ap, subst, ◌∙◌}
use Rattle.ar_disks.specs.Block.{with_sectors}
use Rattle.ar_disks.specs.Geometry.{block_len_of}
use Rattle.ar_book.specs.Tables.{home, HasBlock}
use Rattle.ar_store.specs.declared.way.Way.TheVariants.{Home}
use Rattle.ar_store.specs.Store.{StoreState}
use Rattle.ar_store.specs.Slots.{stands, OthersStand}
use Rattle.ar_store.specs.Placing.{put_case, is_put_in_place}
use Rattle.ar_store.specs.Spaces.{store_in}
use Rattle.ar_store.proofs.Fills.{none_stands, done_not_broken}
use Rattle.ar_store.proofs.Fields.{ready_in, fields_stay, free_then}
use Rattle.ar_store.proofs.Stays.{stays_refl}
use Rattle.ar_store.proofs.Ways.{somewhere, way_home, direct_search}
use Rattle.ar_store.proofs.Putting.{put_is, put_none}
use Rattle.ar_store.proofs.store.Store.put_part.Goals as goal

pub unreachable-requires : goal.unreachable-requires
unreachable-requires g c =
    somewhere c.args.self.now.book c.args.key c.requires.in_place
    (ap (λ (s : StoreState). home s.book c.args.key) (sym c.self.view_is) ∙ sym c.home.ensures ∙ c.in_default-home.is)

pub rewrite_part-requires : goal.rewrite_part-requires
rewrite_part-requires g c =
    let a = c.self.inside.space in
    let view = c.self.view_is in
    let there = sym c.home.ensures ∙ c.in-Some.is in
    record {
      ready = ready_in a c.self.inside.block c.self.invariant;
      block = subst (λ (s : StoreState). HasBlock s.book c.args.key) (sym view) c.requires.block;
      home = there;
      within = subst (λ (s : StoreState). 512 * c.args.first + length c.args.from.now
          ≤ block_len_of s.disks.geometry) (sym view) c.requires.within;
    }

pub invariant_of-self : goal.invariant_of-self
invariant_of-self g c =
    let a = c.self.inside.space in
    let b = c.rewrite_part.new.self in
    let wrote = c.rewrite_part.ensures.puts in
    fields_stay a b c.self.inside.block c.self.inside.block c.self.invariant wrote.stays
    (free_then a b c.self.invariant.kept.free wrote.stays wrote.free) refl

pub returns : goal.returns
returns g c =
    let a = c.self.inside.space in
    let d = c.rewrite_part.new.self in
    let k = c.args.key in
    let view = c.self.view_is in
    let wrote = c.rewrite_part.ensures.puts in
    let there = sym c.home.ensures ∙ c.in-Some.is in
    let is = subst (λ (s : StoreState). is_put_in_place s.book k ≡ true) (sym view) c.requires.in_place in
    let way = way_home a.book k c.in-Some.slot there is in
    let done = put_is a a d k (Home c.in-Some.slot) _ c.rewrite_part.result
    (λ broken. c.in_default.not-Broken (c.health.ensures.same ∙ broken)) (record {
      finds = inl (way.goes, way.tables);
      ready = there;
      zeros = λ squeeze. absurd (way.direct squeeze);
      search = direct_search (put_case a.book k) (store_in a) (store_in a) way.direct refl;
      home_same = refl;
      free = c.self.invariant.kept.free;
      stand = record { blocks = λ _ j. refl };
      stays = stays_refl a (ready_in a c.self.inside.block c.self.invariant);
    }) (record { puts = wrote; beside = tt; writes = c.rewrite_part.ensures.writes }) c.args.self.now view in
    record {
      done = done;
      put = λ done. wrote.here done
          ∙ ap (λ (s : StoreState). with_sectors (stands s k) c.args.first c.args.from.now) view;
      others = subst (λ (s : StoreState). OthersStand s (store_in d) k) view wrote.others;
    }

pub returns-in-Broken : goal.returns-in-Broken
returns-in-Broken g c =
    let s = c.args.self.now in
    let broken =
    ap (λ (x : StoreState). x.disks.health) (sym c.self.view_is) ∙ sym c.health.ensures.same ∙ c.in-Broken.is in
    record {
      done = put_none s c.args.key broken;
      put = λ done. absurd (done_not_broken (sym done));
      others = none_stands s s c.args.key broken;
    }
