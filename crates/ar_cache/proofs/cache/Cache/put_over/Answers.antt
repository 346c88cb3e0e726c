use Rattle.std.proofs.Common.{◌≡◌, ◌≢◌, ◌≤◌, [], ◌∷◌, ◌++◌, length, IsTrue, Some, None, inl, inr, refl, sym, ap, ◌∙◌}
use Rattle.std.proofs.Common.{subst, rules}
use Rattle.std.proofs.lemmas.Bool.{false≢true}
use Rattle.ar_disks.specs.declared.address.Key.{Key}
use Rattle.ar_cache.specs.Backing.{InTurn, StopsInTurn}
use Rattle.ar_cache.specs.Cache.{cached, last_key, last_keys, put_through, Sees, SameReads, KnowsAll, with_entries}
use Rattle.ar_cache.specs.Cache.{without_last}
use Rattle.ar_cache.proofs.Lookups.{others_given, absent_apart, seen_given, seen_front, seen_through, sees_after}
use Rattle.ar_cache.proofs.Lookups.{absent_without_last, known_front, known_without_last, known_kept}
use Rattle.ar_cache.proofs.Keys.{same_key_refl}
use Rattle.ar_cache.proofs.Turns.{in_turn_then, in_turn_one, in_turn_last, stops_among, stops_then}
use Rattle.ar_cache.proofs.Uses.{pushed_full, with_room_full, fits_put, fits_without_last, ≤_antisym}
use Rattle.ar_cache.proofs.cache.Cache.put_over.Goals as goal

pub returns-then-insert-clause-puts : goal.returns-then-insert-clause-puts
returns-then-insert-clause-puts g c =
    let old = c.args.self.now in
    let from = c.args.backing.now in
    let mid = c.destage_last.new.backing in
    let f = g.B.Backing.block_at from in
    let h = g.B.Backing.block_at mid in
    let step = g.B.Backing.puts in
    let d = c.destage_last.ensures in
    let left = with_entries old (without_last old.entries) in
    let full = ≤_antisym d.sound.fits c.requires.full in
    let new = c.if-insert.ensures.put
    ∙ ap (λ es. with_entries old ((c.args.key, c.args.block.now) ∷ es)) (with_room_full old full) in
    let given : SameReads old f left h =
    seen_given c.destage_last.result old f h c.in_default.not-Broken d.sound.distinct d.behind.given
    (λ e. ap g.B.Backing.block_at (d.behind.quiet e)) in
    let same = λ (q : Key) (apart : last_key old.entries ≢ Some q). others_given c.destage_last.result old.entries
    f h q c.in_default.not-Broken d.behind.given (λ e. ap g.B.Backing.block_at (d.behind.quiet e)) apart in
    let held : put_through c.insert.new.self c.args.key ≡ [] =
    ap (λ s. put_through s c.args.key) c.if-insert.ensures.put ∙ rw (same_key_refl c.args.key) in
    record {
      seen = λ done. record {
        sees = subst (λ s. Sees old f s h c.args.key c.args.block.now) (sym new)
            (sees_after old left (with_entries left ((c.args.key, c.args.block.now) ∷ left.entries)) f h h c.args.key
            c.args.block.now given (seen_front left h c.args.key c.args.block.now));
        behind = record {
          others = λ q ne apart. same q (apart c.requires.full);
          held = λ is. same c.args.key (absent_apart old.entries c.args.key d.sound.distinct c.requires.absent);
        };
      };
      entries = record {
        present = λ is. absurd (false≢true (rw c.requires.absent at is));
        absent = λ miss done. inl c.if-insert.ensures.put;
        broken = λ lost. cc;
        fits = subst (λ s. length s.entries ≤ s.capacity) (sym c.if-insert.ensures.put)
            (fits_put old c.args.key c.args.block.now c.requires.some);
      };
      behind = record {
        present = λ is. absurd (false≢true (rw c.requires.absent at is));
        put = λ done.
            subst (λ ks. InTurn step (ks ++ put_through c.insert.new.self c.args.key) from mid)
            (sym (pushed_full old c.args.key c.requires.absent c.requires.full))
            (in_turn_then step (last_keys old.entries) (put_through c.insert.new.self c.args.key) from mid mid
            (in_turn_last step c.destage_last.result old.entries f h from mid
            c.in_default.not-Broken d.behind.given d.behind.put d.behind.quiet)
            (subst (λ ks. InTurn step ks mid mid) (sym held) refl));
        stopped = λ lost. cc;
      };
      answer = search rules;
    }

pub returns-then-insert-clause-all_known : goal.returns-then-insert-clause-all_known
returns-then-insert-clause-all_known g c =
    let old = c.args.self.now in
    let knows = g.B.Backing.knows in
    let d = c.destage_last.ensures in
    let left = with_entries old (without_last old.entries) in
    let full = ≤_antisym d.sound.fits c.requires.full in
    let new = c.if-insert.ensures.put
    ∙ ap (λ es. with_entries old ((c.args.key, c.args.block.now) ∷ es)) (with_room_full old full) in
    let kept = known_kept (knows c.args.backing.now) (knows c.destage_last.new.backing) old d.keeps.same_keys
    c.requires.all_known in
    let this = subst IsTrue (sym (d.keeps.same_keys c.args.key)) c.requires.known in
    subst (KnowsAll (knows c.destage_last.new.backing)) (sym new)
    (known_front (knows c.destage_last.new.backing) left c.args.key c.args.block.now this
    (known_without_last (knows c.destage_last.new.backing) old d.sound.distinct kept))

pub returns-in-Done-clause-puts : goal.returns-in-Done-clause-puts
returns-in-Done-clause-puts g c =
    let old = c.args.self.now in
    let from = c.args.backing.now in
    let mid = c.destage_last.new.backing in
    let f = g.B.Backing.block_at from in
    let h = g.B.Backing.block_at mid in
    let j = g.B.Backing.block_at c.put.new.self in
    let step = g.B.Backing.puts in
    let d = c.destage_last.ensures in
    let left = with_entries old (without_last old.entries) in
    let new = c.drop_destaged.ensures ∙ ap (λ s. with_entries s (without_last s.entries)) c.if-insert.ensures.refused in
    let given : SameReads old f left h =
    seen_given c.destage_last.result old f h c.in_default.not-Broken d.sound.distinct d.behind.given
    (λ e. ap g.B.Backing.block_at (d.behind.quiet e)) in
    let absent = absent_without_last old.entries c.args.key d.sound.distinct c.requires.absent in
    let gone : cached c.drop_destaged.new.self c.args.key ≡ None =
    subst (λ s. cached s c.args.key ≡ None) (sym new) absent in
    let through : put_through c.drop_destaged.new.self c.args.key ≡ c.args.key ∷ [] = rw gone in
    record {
      seen = λ done. record {
        sees = subst (λ s. Sees old f s j c.args.key c.args.block.now) (sym new)
            (sees_after old left left f h j c.args.key c.args.block.now given
            (seen_through left h j c.args.key c.args.block.now absent (c.in-Done.ensures.written refl)));
        behind = record {
          others = λ q ne apart.
              (c.in-Done.ensures.written refl).others q ne
              ∙ others_given c.destage_last.result old.entries f h q c.in_default.not-Broken d.behind.given
              (λ e. ap g.B.Backing.block_at (d.behind.quiet e)) (apart c.requires.full);
          held = λ is. absurd (false≢true (rw gone at is));
        };
      };
      entries = record {
        present = λ is. absurd (false≢true (rw c.requires.absent at is));
        absent = λ miss done.
            inr (new ∙ ap (with_entries old) (sym (with_room_full old (≤_antisym d.sound.fits c.requires.full))));
        broken = λ lost. cc;
        fits = subst (λ s. length s.entries ≤ s.capacity) (sym new) (fits_without_last old d.sound.fits);
      };
      behind = record {
        present = λ is. absurd (false≢true (rw c.requires.absent at is));
        put = λ done.
            subst (λ ks. InTurn step (ks ++ put_through c.drop_destaged.new.self c.args.key) from c.put.new.self)
            (sym (pushed_full old c.args.key c.requires.absent c.requires.full))
            (in_turn_then step (last_keys old.entries) (put_through c.drop_destaged.new.self c.args.key) from mid
            c.put.new.self
            (in_turn_last step c.destage_last.result old.entries f h from mid
            c.in_default.not-Broken d.behind.given d.behind.put d.behind.quiet)
            (subst (λ ks. InTurn step ks mid c.put.new.self) (sym through)
            (in_turn_one step c.args.key mid c.put.new.self (c.in-Done.ensures.puts refl))));
        stopped = λ lost. cc;
      };
      answer = search rules;
    }

pub returns-in-Done-clause-all_known : goal.returns-in-Done-clause-all_known
returns-in-Done-clause-all_known g c =
    let old = c.args.self.now in
    let knows = g.B.Backing.knows in
    let d = c.destage_last.ensures in
    let new = c.drop_destaged.ensures ∙ ap (λ s. with_entries s (without_last s.entries)) c.if-insert.ensures.refused in
    let first = known_kept (knows c.args.backing.now) (knows c.destage_last.new.backing) old d.keeps.same_keys
    c.requires.all_known in
    let then = known_kept (knows c.destage_last.new.backing) (knows c.put.new.self) old
    c.in-Done.ensures.keeps.same_keys first in
    subst (KnowsAll (knows c.put.new.self)) (sym new)
    (known_without_last (knows c.put.new.self) old d.sound.distinct then)

pub returns-in-Broken-clause-puts : goal.returns-in-Broken-clause-puts
returns-in-Broken-clause-puts g c =
    let old = c.args.self.now in
    let step = g.B.Backing.puts in
    let stop = g.B.Backing.breaks in
    let from = c.args.backing.now in
    let mid = c.destage_last.new.backing in
    record {
      seen = search rules;
      entries = search rules;
      behind = record {
        present = λ is. absurd (false≢true (rw c.requires.absent at is));
        put = λ done. cc;
        stopped = λ lost.
            subst (λ ks. StopsInTurn step stop (ks ++ c.args.key ∷ []) from mid)
            (sym (pushed_full old c.args.key c.requires.absent c.requires.full))
            (stops_among step stop (last_keys old.entries) (c.args.key ∷ []) from mid
            (c.in-Broken.ensures.behind.stopped refl));
      };
      answer = search rules;
    }

pub returns-in-Broken-put-clause-puts : goal.returns-in-Broken-put-clause-puts
returns-in-Broken-put-clause-puts g c =
    let old = c.args.self.now in
    let d = c.destage_last.ensures in
    let step = g.B.Backing.puts in
    let stop = g.B.Backing.breaks in
    let from = c.args.backing.now in
    let mid = c.destage_last.new.backing in
    record {
      seen = search rules;
      entries = search rules;
      behind = record {
        present = λ is. absurd (false≢true (rw c.requires.absent at is));
        put = λ done. cc;
        stopped = λ lost.
            subst (λ ks. StopsInTurn step stop (ks ++ c.args.key ∷ []) from c.put.new.self)
            (sym (pushed_full old c.args.key c.requires.absent c.requires.full))
            (stops_then step stop (last_keys old.entries) c.args.key [] from mid c.put.new.self
            (in_turn_last step c.destage_last.result old.entries (g.B.Backing.block_at from) (g.B.Backing.block_at mid)
            from mid c.in_default.not-Broken d.behind.given d.behind.put d.behind.quiet)
            (c.in-Broken-put.ensures.breaks refl));
      };
      answer = search rules;
    }
