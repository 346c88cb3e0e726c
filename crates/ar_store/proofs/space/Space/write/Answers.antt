use Rattle.std.proofs.Common.{sym, refl, ap, subst}
use Rattle.ar_disks.specs.Geometry.{block_len_of}
use Rattle.ar_disks.specs.declared.completion.Completion.TheVariants.{Broken as BrokenOff}
use Rattle.ar_extents.specs.Groups.{outcome_of}
use Rattle.ar_store.specs.declared.way.Way.{Way}
use Rattle.ar_store.specs.Placing.{IsReadyFor}
use Rattle.ar_store.specs.Spaces.{store_in, PutsOn}
use Rattle.ar_store.proofs.Fills.{none_stands, done_not_broken, same_free, puts_whole}
use Rattle.ar_store.proofs.Overwriting.{all_within}
use Rattle.ar_store.proofs.Stays.{stays_refl}
use Rattle.ar_store.proofs.space.Space.write.Goals as goal

pub rewrite_part-requires : goal.rewrite_part-requires
rewrite_part-requires g c = record {
  ready = c.requires.ready;
  block = c.requires.block;
  home = subst (λ (w : Way). IsReadyFor (store_in c.args.self.now) c.args.key w) c.in-Home.is c.requires.way;
  within = all_within _ (block_len_of c.args.self.now.disks.geometry) c.requires.whole;
}

pub returns-in-Home : goal.returns-in-Home
returns-in-Home g c =
    let s = c.args.self.now in
    let new = c.rewrite_part.new.self in
    let wrote = c.rewrite_part.ensures in
    let bytes = c.args.from.now in
    subst (λ (w : Way). PutsOn s new c.args.key w bytes c.rewrite_part.result) (sym c.in-Home.is) (record {
      puts = puts_whole s new c.args.key _ bytes c.rewrite_part.result c.requires.ready.space c.requires.whole
          wrote.puts;
      beside = tt;
      writes = wrote.writes;
    })

pub put_in-requires : goal.put_in-requires
put_in-requires g c = record {
  ready = c.requires.ready;
  block = c.requires.block;
  hole = subst (λ (w : Way). IsReadyFor (store_in c.args.self.now) c.args.key w) c.in-Hole.is c.requires.way;
  whole = c.requires.whole;
}

pub returns-in-Hole : goal.returns-in-Hole
returns-in-Hole g c =
    let wrote = c.put_in.ensures in
    subst (λ (w : Way). PutsOn c.args.self.now c.put_in.new.self c.args.key w c.args.from.now c.put_in.result)
    (sym c.in-Hole.is) (record { puts = wrote.puts; beside = wrote.beside; writes = wrote.writes })

pub returns-in-Broken : goal.returns-in-Broken
returns-in-Broken g c =
    let s = c.args.self.now in
    let broken = subst (λ (w : Way). IsReadyFor (store_in s) c.args.key w) c.in-Broken.is c.requires.way in
    subst (λ (w : Way). PutsOn s s c.args.key w c.args.from.now BrokenOff) (sym c.in-Broken.is) (record {
      puts = record {
        outcome = sym (ap outcome_of broken);
        tables = λ done. absurd (done_not_broken (sym done));
        unwritten = λ _. refl;
        free = same_free s.book s.book refl;
        here = λ done. absurd (done_not_broken (sym done));
        others = none_stands (store_in s) (store_in s) c.args.key broken;
        stays = stays_refl s c.requires.ready;
      };
      beside = tt;
      writes = refl;
    })
