-- Batches of records that are executed again, one after another.
use Rattle.std.proofs.Common.{◌≡◌, ◌≢◌, ◌<◌, ◌+◌, ℕ, List, [], ◌∷◌, ◌++◌, Vec, length, take, get_or, refl, sym, ◌∙◌, ap}
use Rattle.std.proofs.Common.{subst, append_assoc}
use Rattle.std.specs.declared.alloc.Global.{Global}
use Rattle.std.proofs.lemmas.List.{map_push, take_more}
use Rattle.ar_unit.specs.Unit.{UnitEntry}
use Rattle.ar_volume.specs.Sectors.{Address}
use Rattle.ar_log.specs.Codec.{Batch, items_of}
use Rattle.ar_served.specs.declared.entry.Entry.{Entry}
use Rattle.ar_record.specs.Reading.{all_decoded, decoded, with_record}
use Rattle.ar_record.proofs.Records.{all_decoded-append}
use Rattle.ar_record.specs.Record.{RecordData}
use Rattle.ar_record.specs.Replay.{own_of}
use Rattle.ar_record.proofs.Replaying.{own_of-append}
use Rattle.ar_compaction.specs.Makes.{makes_after, makes_noted}
use Rattle.ar_recovery.specs.Logging.{records_of}
use Rattle.ar_recovery.specs.Recovering.{RedoesAll}
use Rattle.ar_recovery.proofs.Recovering.{redoes_none}
use Rattle.ar_checkpoint.specs.Successor.{IsHeadAlone, log_records}
use Rattle.ar_recovery.specs.Stored.{IsReplayed}
use Rattle.ar_checkpoint.proofs.Storing.{log_records-push}

-- records and then others
pub redoes_both : (old middle new : List Entry) (records more : List RecordData) → RedoesAll old records middle
    → RedoesAll middle more new → RedoesAll old (records ++ more) new
redoes_both old middle new records more one two = record {
  own = λ a.
      two.own a
      ∙ ap (λ (l : List UnitEntry). l ++ own_of a more) (one.own a)
      ∙ append_assoc (own_of a (records_of old)) (own_of a records) (own_of a more)
      ∙ ap (λ (l : List UnitEntry). own_of a (records_of old) ++ l) (sym (own_of-append a records more));
}

-- after the head there is nothing yet
pub replayed_head : (batches : List Batch) (history : List Entry) → IsHeadAlone batches → history ≡ []
    → IsReplayed batches history
replayed_head batches history only none =
    subst (λ (h : List Entry). IsReplayed batches h) (sym none) (record {
      head = only.0;
      more = [];
      batches_are = only.1;
      redone = subst (λ (l : List Batch). RedoesAll [] (log_records l) []) (sym only.1) (redoes_none []);
    })

-- one batch more
pub replayed_more : (batches now : List Batch) (batch : Batch) (old new : List Entry) → IsReplayed batches old
    → now ≡ batches ++ batch ∷ [] → RedoesAll old (all_decoded batch) new → IsReplayed now new
replayed_more batches now batch old new before is one =
    let some : batches ≢ [] =
    λ none. (let e : before.head ∷ before.more ≡ [] = sym before.batches_are ∙ none in cc e) in
    record {
      head = before.head;
      more = before.more ++ batch ∷ [];
      batches_are = is ∙ ap (λ (l : List Batch). l ++ batch ∷ []) before.batches_are;
      redone =
          subst (λ (l : List RecordData). RedoesAll [] l new)
          (sym (ap log_records is ∙ log_records-push batches batch some))
          (redoes_both [] old new (log_records batches) (all_decoded batch) before.redone one);
    }

-- units made by records and then others
makes_both : (bytes : List ℕ) (records more : List RecordData)
    → makes_after bytes (records ++ more) ≡ makes_after (makes_after bytes records) more
makes_both bytes [] more = refl
makes_both bytes (r ∷ records) more = makes_both (makes_noted bytes r) records more

-- after the head no unit is made yet
pub made_head : (batches : List Batch) (bytes : List ℕ) → IsHeadAlone batches
    → bytes ≡ makes_after bytes (log_records batches)
made_head batches bytes only =
    subst (λ (l : List Batch). bytes ≡ makes_after bytes (log_records l)) (sym only.1) refl

-- those of one batch more
pub made_more : (batches now : List Batch) (batch : Batch) (bytes old new : List ℕ) (history : List Entry)
    → IsReplayed batches history → now ≡ batches ++ batch ∷ [] → old ≡ makes_after bytes (log_records batches)
    → new ≡ makes_after old (all_decoded batch) → new ≡ makes_after bytes (log_records now)
made_more batches now batch bytes old new history before is was one =
    let some : batches ≢ [] =
    λ none. (let e : before.head ∷ before.more ≡ [] = sym before.batches_are ∙ none in cc e) in
    one
    ∙ ap (λ (l : List ℕ). makes_after l (all_decoded batch)) was
    ∙ sym (makes_both bytes (log_records batches) (all_decoded batch))
    ∙ ap (makes_after bytes) (sym (ap log_records is ∙ log_records-push batches batch some))

-- those of one item more
pub made_item : (bytes : List ℕ) (items more now : List RecordData) (old new : List ℕ)
    → now ≡ items ++ more → old ≡ makes_after bytes items → new ≡ makes_after old more
    → new ≡ makes_after bytes now
made_item bytes items more now old new is was one =
    one ∙ ap (λ (l : List ℕ). makes_after l more) was ∙ sym (makes_both bytes items more)
    ∙ ap (makes_after bytes) (sym is)

-- the records of one item more
pub decoded_more : (vs : List (Vec ℕ Global)) (i : ℕ) (v : Vec ℕ Global) → i < length vs → v ≡ get_or vs i v
    → all_decoded (items_of (take (i + 1) vs)) ≡ all_decoded (items_of (take i vs)) ++ with_record (decoded v.items) []
decoded_more vs i v lt is =
    ap (λ (l : List (Vec ℕ Global)). all_decoded (items_of l))
    (take_more vs i v lt ∙ ap (λ (w : Vec ℕ Global). take i vs ++ w ∷ []) (sym is))
    ∙ ap all_decoded (map_push (λ (w : Vec ℕ Global). w.items) (take i vs) v)
    ∙ all_decoded-append (items_of (take i vs)) (v.items ∷ [])
