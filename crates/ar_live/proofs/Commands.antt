-- What a host's command, or a discard, leaves of a live array's history.
use Rattle.std.proofs.Common.{◌≡◌, ◌≢◌, ◌⊎◌, ℕ, Bool, true, false, cond, List, [], ◌∷◌, ◌++◌, length, refl, sym}
use Rattle.std.proofs.Common.{ap, subst, ◌∙◌, inl, inr, append-nil}
use Rattle.std.specs.Prelude.{◌==◌, ◌&&◌, not, ◌+◌}
use Rattle.std.proofs.lemmas.Bool.{eqb-true}
use Rattle.ar_disks.specs.declared.address.Addr.{Addr}
use Rattle.ar_disks.specs.declared.address.Host.{Host}
use Rattle.ar_scsi.specs.declared.reply.Reply.{Reply}
use Rattle.ar_scsi.specs.declared.reply.Status.{Status}
use Rattle.ar_scsi.specs.declared.reply.Status.TheVariants.{Good, CheckCondition, Busy}
use Rattle.ar_unit.specs.Unit.{UnitState, Absent, Present, UnitEntry, Cmd as UnitCmd, answer, after, unit_run, IsGiven}
use Rattle.ar_unit.specs.Unit.{Unmap as UnitUnmap, unmap_answer}
use Rattle.ar_unit.specs.Broken.{Shape, shape_of, shape_after, where_broken, broken_answer, broken_unmap}
use Rattle.ar_unit.proofs.Laws.{after-shape, answer-with_bytes, broken_answer-is, broken_unmap-is}
use Rattle.ar_volume.specs.Sectors.{Address, address_of, same_address}
use Rattle.ar_volume.specs.Image.{ArrayState, is_broken, image, image_at}
use Rattle.ar_volume.proofs.Images.{image_here}
use Rattle.ar_core.specs.Step.{Steps, is_busy, addr_in, entry_at}
use Rattle.ar_core.specs.declared.event.EventOf.TheVariants.{Cmd as CmdEvent, Unmap as UnmapEvent}
use Rattle.ar_core.specs.declared.event.OutcomeOf.TheVariants.{Cmd as CmdOutcome, Unmap as UnmapOutcome}
use Rattle.ar_core.proofs.Causes.{was_sound}
use Rattle.ar_served.specs.declared.entry.Entry.{Entry}
use Rattle.ar_served.specs.declared.entry.Entry.TheVariants.{Cmd, Unmap}
use Rattle.ar_served.specs.History.{replay}
use Rattle.ar_served.specs.Kept.{SameLength, HistoryAgrees, with_attention, replayed_unit, exchange_of}
use Rattle.ar_served.specs.Serving.{ServesCommand, is_recorded, ServesUnmap, unmap_entry}
use Rattle.ar_live.proofs.Keeping.{kept_more}

abbrev no_entry : List UnitEntry
no_entry = []

-- a reply that changes no unit: BUSY, or one with bytes
abbrev pub IsBusyFor : Reply → Type 0
IsBusyFor reply = (is_busy reply.status ≡ true) ⊎ (reply.payload ≢ [])

pub busy_is : (s : Status) → is_busy s ≡ true → s ≡ Busy
busy_is Busy e = refl
busy_is Good e = absurd (cc)
busy_is CheckCondition e = absurd (cc)

not_busy : (s : Status) → is_busy s ≡ false → s ≢ Busy
not_busy Busy e same = absurd (cc)
not_busy Good e same = absurd (cc)
not_busy CheckCondition e same = absurd (cc)

both : (p q : Bool) → p && q ≡ true → (p ≡ true) × (q ≡ true)
both true true e = (refl, refl)
both true false e = absurd (cc)
both false q e = absurd (cc)

same_is : (a b : Address) → same_address a b ≡ true → a ≡ b
same_is (x, y) (u, v) e =
    let p = both (x == u) (y == v) e in
    ap (λ (n : ℕ). (n, y)) (eqb-true x u p.0) ∙ ap (λ (n : ℕ). (u, n)) (eqb-true y v p.1)

-- a unit that a command leaves, at every address
left_at : (u : UnitState) (cdb bytes : List ℕ) (b quiet : Bool)
    → (b ≡ true → quiet ≡ false → (answer u cdb bytes).state ≡ u)
    → unit_run u (cond b (cond quiet no_entry (UnitCmd cdb bytes ∷ [])) no_entry) ≡ u
left_at u cdb bytes false quiet left = refl
left_at u cdb bytes true true left = refl
left_at u cdb bytes true false left = left refl refl

-- a reply that isn't recorded leaves every unit
pub same_images : (old new : ArrayState) (host : Host) (lun : ℕ) (cdb payload : List ℕ) (reply : Reply)
    → Steps old (CmdEvent host lun cdb payload) (CmdOutcome reply) new → IsBusyFor reply → is_broken new ≡ false
    → (a : Address) → image new a ≡ image old a
same_images old new host lun cdb payload reply steps none now a =
    let here = image_here (image_at old) (addr_in host lun) in
    steps.images now a
    ∙ left_at (image old a) cdb payload (same_address (host.number, lun) a) (is_busy reply.status)
    (λ same answered.
    elim none [
      | inl is ↦ absurd (let no : true ≡ false = sym is ∙ answered in cc)
      | inr bytes ↦
          (let table : reply ≡ (answer (image_at old (addr_in host lun)) cdb payload).reply =
          (steps.answers.sound now).given.answered (not_busy reply.status answered) in
          let unit : image_at old (addr_in host lun) ≡ image old a =
          sym here ∙ ap (λ (x : Address). image old x) (same_is (host.number, lun) a same) in
          let is : reply ≡ (answer (image old a) cdb payload).reply =
          table ∙ ap (λ (u : UnitState). (answer u cdb payload).reply) unit in
          answer-with_bytes (image old a) cdb payload (λ empty. bytes (ap (λ (r : Reply). r.payload) is ∙ empty)))
    ])

-- whether a unit is there, and its length, no command changes
lengths_if : (b quiet : Bool) (u : UnitState) (cdb bytes : List ℕ)
    → SameLength (unit_run u (cond b (cond quiet no_entry (UnitCmd cdb bytes ∷ [])) no_entry)) u
lengths_if false quiet u cdb bytes = record { present = refl; sectors = refl }
lengths_if true true u cdb bytes = record { present = refl; sectors = refl }
lengths_if true false u cdb bytes = record {
  present = ap (λ (s : Shape). s.present) (after-shape u (UnitCmd cdb bytes));
  sectors = ap (λ (s : Shape). s.sectors) (after-shape u (UnitCmd cdb bytes));
}

-- so the history stays what the array holds, where each unit stays or the data are lost
pub kept_unrecorded : (old new : ArrayState) (host : Host) (lun : ℕ) (cdb payload : List ℕ) (reply : Reply)
    (history : List Entry) → HistoryAgrees old history
    → Steps old (CmdEvent host lun cdb payload) (CmdOutcome reply) new
    → (is_broken new ≡ false → (a : Address) → image new a ≡ image old a) → HistoryAgrees new history
kept_unrecorded old new host lun cdb payload reply history kept steps same = record {
  legal = kept.legal;
  images = λ now a. same now a ∙ kept.images (was_sound (CmdEvent host lun cdb payload) old new steps.disks now) a;
  lengths = λ a.
      (let after = lengths_if (same_address (host.number, lun) a) (is_busy reply.status) (image old a) cdb payload in
      record {
        present = ap (λ (s : Shape). s.present) (steps.shapes a) ∙ after.present ∙ (kept.lengths a).present;
        sectors = ap (λ (s : Shape). s.sectors) (steps.shapes a) ∙ after.sectors ∙ (kept.lengths a).sectors;
      });
}

pub broken_unrecorded : (old new : ArrayState) (host : Host) (lun : ℕ) (cdb payload : List ℕ) (reply : Reply)
    (history : List Entry) → HistoryAgrees old history
    → Steps old (CmdEvent host lun cdb payload) (CmdOutcome reply) new → is_broken new ≡ true
    → HistoryAgrees new history
broken_unrecorded old new host lun cdb payload reply history kept steps lost =
    kept_unrecorded old new host lun cdb payload reply history kept steps
    (λ now. absurd (let no : true ≡ false = sym lost ∙ now in cc))

-- the reply of a command that was answered
pub reply_kept : (old new : ArrayState) (host : Host) (lun : ℕ) (cdb payload : List ℕ) (reply : Reply)
    (history : List Entry) → HistoryAgrees old history
    → Steps old (CmdEvent host lun cdb payload) (CmdOutcome reply) new → is_busy reply.status ≡ false
    → is_broken new ≡ false
    → reply ≡ (answer (replay history (host.number, lun)) cdb payload).reply
reply_kept old new host lun cdb payload reply history kept steps answered now =
    (steps.answers.sound now).given.answered (not_busy reply.status answered)
    ∙ ap (λ (u : UnitState). (answer u cdb payload).reply)
    (sym (image_here (image_at old) (addr_in host lun))
    ∙ kept.images (was_sound (CmdEvent host lun cdb payload) old new steps.disks now) (host.number, lun))

-- and the history with it
pub kept_recorded : (old new : ArrayState) (host : Host) (lun : ℕ) (cdb payload : List ℕ) (reply : Reply)
    (history : List Entry) → HistoryAgrees old history
    → Steps old (CmdEvent host lun cdb payload) (CmdOutcome reply) new → is_busy reply.status ≡ false
    → is_broken new ≡ false
    → HistoryAgrees new (history ++ Cmd host (exchange_of lun cdb payload reply) ∷ [])
kept_recorded old new host lun cdb payload reply history kept steps answered now =
    kept_more old new (CmdEvent host lun cdb payload) (CmdOutcome reply) history
    (Cmd host (exchange_of lun cdb payload reply)) kept steps
    (λ a. ap (λ (b : Bool). cond (same_address (host.number, lun) a) (cond b no_entry (UnitCmd cdb payload ∷ []))
    no_entry) answered)
    (reply_kept old new host lun cdb payload reply history kept steps answered now)

-- a unit's shape, by what is known of it
shape_marked : (u v : UnitState) → SameLength u v → shape_of (with_attention (shape_of u).attention v) ≡ shape_of u
shape_marked Absent Absent same = refl
shape_marked Absent (Present t l) same = let p = same.present in absurd (cc)
shape_marked (Present s m) Absent same = let p = same.present in absurd (cc)
shape_marked (Present s m) (Present t l) same =
    ap (λ n. record { present = true; sectors = n; attention = m }) (sym same.sectors)

-- what a broken array answers, by the history
broken_reply : (old new : ArrayState) (host : Host) (lun : ℕ) (cdb payload : List ℕ) (reply : Reply)
    (history : List Entry) → HistoryAgrees old history
    → Steps old (CmdEvent host lun cdb payload) (CmdOutcome reply) new → is_broken new ≡ true
    → IsGiven (where_broken cdb (answer (replayed_unit old history (host.number, lun)) cdb payload).reply) reply
broken_reply old new host lun cdb payload reply history kept steps lost =
    let a : Address = (host.number, lun) in
    let unit : shape_of (image_at old (addr_in host lun)) ≡ shape_of (replayed_unit old history a) =
    ap shape_of (sym (image_here (image_at old) (addr_in host lun)))
    ∙ sym (shape_marked (image old a) (replay history a) (kept.lengths a)) in
    subst (λ (r : Reply). IsGiven r reply)
    (ap (λ (s : Shape). broken_answer s cdb (length payload)) unit
    ∙ broken_answer-is (replayed_unit old history a) cdb payload)
    (steps.answers.broken lost)

-- what is there of a unit after entries, by what was there before
shape_run : (entries : List UnitEntry) (u v : UnitState) → shape_of u ≡ shape_of v
    → shape_of (unit_run u entries) ≡ shape_of (unit_run v entries)
shape_run [] u v same = same
shape_run (entry ∷ entries) u v same =
    shape_run entries (after u entry) (after v entry)
    (after-shape u entry ∙ ap (λ (s : Shape). shape_after s entry) same ∙ sym (after-shape v entry))

-- when a command is recorded, and when not
pub recorded_parts : (lost quiet : Bool) → not lost && not quiet ≡ true → (lost ≡ false) × (quiet ≡ false)
recorded_parts true quiet is = absurd (cc)
recorded_parts false true is = absurd (cc)
recorded_parts false false is = (refl, refl)

abbrev pub command_entry : Host → ℕ → List ℕ → List ℕ → Reply → List Entry
command_entry host lun cdb payload reply = Cmd host (exchange_of lun cdb payload reply) ∷ []

-- the same growth, by what is known of the test and of the data
pub grown_as : (new : ArrayState) (host : Host) (lun : ℕ) (cdb payload seen : List ℕ) (reply : Reply)
    (was now : List Entry) (test : Bool)
    → test ≡ is_recorded new reply → seen ≡ payload → now ≡ was ++ cond test (command_entry host lun cdb seen reply) []
    → now ≡ was ++ cond (is_recorded new reply) (command_entry host lun cdb payload reply) []
grown_as new host lun cdb payload seen reply was now test tested same grown =
    grown ∙ ap (λ (b : Bool). was ++ cond b (command_entry host lun cdb seen reply) []) tested
    ∙ ap (λ (l : List ℕ). was ++ cond (is_recorded new reply) (command_entry host lun cdb l reply) []) same

-- a command to a live array, whose history is then `now`
pub served : (old new : ArrayState) (host : Host) (lun : ℕ) (cdb payload : List ℕ) (reply : Reply)
    (was now : List Entry) → HistoryAgrees old was
    → Steps old (CmdEvent host lun cdb payload) (CmdOutcome reply) new
    → now ≡ was ++ cond (is_recorded new reply) (command_entry host lun cdb payload reply) []
    → ServesCommand old was host lun cdb payload reply new now
served old new host lun cdb payload reply was now kept steps grown = record {
  history = grown;
  reply_is = λ is.
      (let parts = recorded_parts (is_broken new) (is_busy reply.status) is in
      reply_kept old new host lun cdb payload reply was kept steps parts.1 parts.0);
  busy_is = λ sound is. (steps.answers.sound sound).given.refused (busy_is reply.status is);
  images = λ sound is. same_images old new host lun cdb payload reply steps (inl is) sound;
  broken = λ lost. broken_reply old new host lun cdb payload reply was kept steps lost;
  shapes = λ _ a.
      steps.shapes a
      ∙ shape_run (entry_at a (CmdEvent host lun cdb payload) (CmdOutcome reply)) (image old a)
      (replayed_unit old was a)
      (sym (shape_marked (image old a) (replay was a) (kept.lengths a)));
}

-- and the array is what that history makes it
pub kept_served : (old new : ArrayState) (host : Host) (lun : ℕ) (cdb payload : List ℕ) (reply : Reply)
    (was now : List Entry) → HistoryAgrees old was
    → Steps old (CmdEvent host lun cdb payload) (CmdOutcome reply) new
    → now ≡ was ++ cond (is_recorded new reply) (command_entry host lun cdb payload reply) [] → HistoryAgrees new now
kept_served old new host lun cdb payload reply was now kept steps grown =
    subst (λ (l : List Entry). HistoryAgrees new l) (sym grown) (by (is_broken new) (is_busy reply.status) refl refl)
  where
    by : (lost quiet : Bool) → is_broken new ≡ lost → is_busy reply.status ≡ quiet
        → HistoryAgrees new (was ++ cond (not lost && not quiet) (command_entry host lun cdb payload reply) [])
    by true quiet lost is =
        subst (λ (l : List Entry). HistoryAgrees new l) (sym (append-nil was))
        (broken_unrecorded old new host lun cdb payload reply was kept steps lost)
    by false true sound is =
        subst (λ (l : List Entry). HistoryAgrees new l) (sym (append-nil was))
        (kept_unrecorded old new host lun cdb payload reply was kept steps
        (same_images old new host lun cdb payload reply steps (inl is)))
    by false false sound is = kept_recorded old new host lun cdb payload reply was kept steps is sound

-- and if the reply has bytes, it is what the history before makes it, too
pub kept_bytes : (old new : ArrayState) (host : Host) (lun : ℕ) (cdb payload : List ℕ) (reply : Reply)
    (was : List Entry) → HistoryAgrees old was
    → Steps old (CmdEvent host lun cdb payload) (CmdOutcome reply) new → reply.payload ≢ [] → HistoryAgrees new was
kept_bytes old new host lun cdb payload reply was kept steps bytes =
    kept_unrecorded old new host lun cdb payload reply was kept steps
    (same_images old new host lun cdb payload reply steps (inr bytes))

-- whether a unit is there, and its length, no discard changes
lengths_unmapped : (b : Bool) (u : UnitState) (lba count : ℕ)
    → SameLength (unit_run u (cond b (UnitUnmap lba count ∷ []) no_entry)) u
lengths_unmapped false u lba count = record { present = refl; sectors = refl }
lengths_unmapped true u lba count = record {
  present = ap (λ (s : Shape). s.present) (after-shape u (UnitUnmap lba count));
  sectors = ap (λ (s : Shape). s.sectors) (after-shape u (UnitUnmap lba count));
}

-- a discard, whose history is then `now`
pub served_unmap : (old new : ArrayState) (addr : Addr) (lba count : ℕ) (reply : Reply) (was now : List Entry)
    → HistoryAgrees old was → Steps old (UnmapEvent addr lba count) (UnmapOutcome reply) new
    → now ≡ was ++ unmap_entry addr lba count new
    → ServesUnmap old was addr lba count reply new now
served_unmap old new addr lba count reply was now kept steps grown = record {
  history = grown;
  reply_is = λ sound.
      steps.answers.sound sound
      ∙ ap (λ (u : UnitState). (unmap_answer u lba count).reply)
      (sym (image_here (image_at old) addr)
      ∙ kept.images (was_sound (UnmapEvent addr lba count) old new steps.disks sound) (address_of addr));
  broken = λ lost.
      (let a : Address = address_of addr in
      let unit : shape_of (image_at old addr) ≡ shape_of (replayed_unit old was a) =
      ap shape_of (sym (image_here (image_at old) addr))
      ∙ sym (shape_marked (image old a) (replay was a) (kept.lengths a)) in
      steps.answers.broken lost
      ∙ ap (λ (s : Shape). broken_unmap s lba count) unit
      ∙ broken_unmap-is (replayed_unit old was a) lba count);
}

-- and the array is what that history makes it
pub kept_unmap : (old new : ArrayState) (addr : Addr) (lba count : ℕ) (reply : Reply) (was now : List Entry)
    → HistoryAgrees old was → Steps old (UnmapEvent addr lba count) (UnmapOutcome reply) new
    → now ≡ was ++ unmap_entry addr lba count new → HistoryAgrees new now
kept_unmap old new addr lba count reply was now kept steps grown =
    subst (λ (l : List Entry). HistoryAgrees new l) (sym grown) (by (is_broken new) refl)
  where
    by : (lost : Bool) → is_broken new ≡ lost
        → HistoryAgrees new (was ++ cond lost [] (Unmap addr lba count ∷ []))
    by true lost =
        subst (λ (l : List Entry). HistoryAgrees new l) (sym (append-nil was)) (record {
          legal = kept.legal;
          images = λ now. absurd (let no : true ≡ false = sym lost ∙ now in cc);
          lengths = λ a.
              (let after = lengths_unmapped (same_address (address_of addr) a) (image old a) lba count in
              record {
                present = ap (λ (s : Shape). s.present) (steps.shapes a) ∙ after.present ∙ (kept.lengths a).present;
                sectors = ap (λ (s : Shape). s.sectors) (steps.shapes a) ∙ after.sectors ∙ (kept.lengths a).sectors;
              });
        })
    by false sound =
        kept_more old new (UnmapEvent addr lba count) (UnmapOutcome reply) was (Unmap addr lba count) kept steps
        (λ a. refl) tt
