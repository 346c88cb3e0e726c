use Rattle.std.proofs.Common.{◌≡◌, ℕ, ◌-◌, ◌≤◌, [], ◌∷◌, None, sym, ap, subst, ◌∙◌, inl, inr, arith}
use Rattle.std.proofs.lemmas.Bool.{cases_lt}
use Rattle.ar_disks.specs.declared.address.Key.{Key}
use Rattle.ar_cache.specs.Backing.{InTurn}
use Rattle.ar_cache.proofs.Turns.{in_turn_then, in_turn_one}
use Rattle.ar_cache.specs.Cache.{cached}
use Rattle.ar_volume.specs.Sectors.{key_of, keys_from}
use Rattle.ar_volume.specs.Image.{is_broken}
use Rattle.ar_volume.specs.Laws.{follows_then}
use Rattle.ar_volume.specs.Storing.{BreaksForced, ForcesBlock}
use Rattle.ar_volume.proofs.Putting.{blocks-stop, keys_from-more}
use Rattle.ar_volume.proofs.Sparing.{kept_sound, spared_then}
use Rattle.ar_volume.proofs.blocks.Blocks.force.Goals as goal

pub loop-rb-preserved : goal.loop-rb-preserved
loop-rb-preserved g c =
    let sofar = c.loop-rb.invariant in
    let call = c.flush_key.ensures in
    let rb : ℕ = c.loop-rb.rb in
    let more : rb ≤ c.args.last = c.loop-rb-test.true in
    let ordered : c.args.first ≤ rb = sofar.ordered in
    record {
      sound = kept_sound (is_broken c.flush_key.new.self) (sym c.in-Done.is ∙ call.answer);
      forced = λ k from below.
          elim (cases_lt k rb) [
            | inl less ↦
                call.others c.in-Done.is (key_of c.args.addr k)
                (λ same. (let equal = ap (λ (x : Key). x.rb) same in omega arith))
                ∙ sofar.forced k from less
            | inr other ↦
                (let equal : rb ≡ k = omega arith in
                subst (λ n. cached c.flush_key.new.self.cache (key_of c.args.addr n) ≡ None) equal
                (call.gone c.in-Done.is))
          ];
      ordered = omega arith;
      spared =
          spared_then c.args.self.now.cache c.loop-rb.self.cache c.flush_key.new.self.cache c.args.addr c.args.first rb
          sofar.spared ordered
          (call.others c.in-Done.is);
      in_turn =
          subst (λ ks. InTurn ForcesBlock ks c.args.self.now c.flush_key.new.self)
          (sym (keys_from-more c.args.addr c.args.first rb ordered))
          (in_turn_then ForcesBlock (keys_from c.args.addr c.args.first (rb - c.args.first))
          (key_of c.args.addr rb ∷ []) c.args.self.now c.loop-rb.self c.flush_key.new.self
          sofar.in_turn
          (in_turn_one ForcesBlock (key_of c.args.addr rb) c.loop-rb.self c.flush_key.new.self
          (call.forces c.in-Done.is)));
      within = λ _. omega arith;
      seen = record { same = λ k. (call.seen c.in-Done.is).same k ∙ sofar.seen.same k };
      follows = follows_then c.args.self.now c.loop-rb.self c.flush_key.new.self sofar.follows call.follows;
    }

pub returns-in-Broken-clause-follows : goal.returns-in-Broken-clause-follows
returns-in-Broken-clause-follows g c =
    follows_then c.args.self.now c.loop-rb.self c.flush_key.new.self c.loop-rb.invariant.follows
    c.flush_key.ensures.follows

pub returns-in-Broken-clause-stopped : goal.returns-in-Broken-clause-stopped
returns-in-Broken-clause-stopped g c = λ lost.
    blocks-stop ForcesBlock BreaksForced c.args.addr c.args.first c.loop-rb.rb c.args.last c.args.self.now
    c.loop-rb.self c.flush_key.new.self
    c.loop-rb.invariant.ordered c.loop-rb-test.true c.loop-rb.invariant.in_turn
    (c.flush_key.ensures.breaks c.in-Broken.is)
