-- What the loops of a compaction keep.
use Rattle.std.proofs.Common.{◌≡◌, ◌<◌, ◌≤◌, ◌+◌, ℕ, false, List, [], ◌∷◌, ◌++◌, length, get_or, take, sym, ap, subst}
use Rattle.std.proofs.Common.{◌∙◌, append-nil, append_assoc}
use Rattle.std.proofs.lemmas.List.{take_all, take_more}
use Rattle.ar_unit.specs.Unit.{UnitState, UnitEntry, unit_run}
use Rattle.ar_record.specs.Record.{RecordData, AreEncodable}
use Rattle.ar_record.specs.Replay.{own_in, unit_of}
use Rattle.ar_record.proofs.Replaying.{unit_of-append}
use Rattle.ar_compaction.specs.Addresses.{is_among, AreDistinct, AreAddresses}
use Rattle.ar_compaction.specs.Compaction.{disk_records, IsCompaction, Compacts, AppendsCheckpoint}
use Rattle.ar_compaction.specs.Replaying.{ReplayState, replayed}
use Rattle.ar_compaction.proofs.Building.{begins, goes_on, ends}
use Rattle.ar_compaction.proofs.Creation.{fit-append}
use Rattle.ar_compaction.proofs.Noting.{distinct_at}

-- one record more is replayed
pub replay_more : (s : ReplayState) (a : ℕ × ℕ) (done : List RecordData) (r : RecordData) → s.addr ≡ a
    → s.unit ≡ unit_of done a → (replayed s r).unit ≡ unit_of (done ++ r ∷ []) a
replay_more s a done r here unit =
    ap (λ (x : ℕ × ℕ). unit_run s.unit (own_in x r)) here
    ∙ ap (λ (u : UnitState). unit_run u (own_in a r)) unit
    ∙ ap (λ (l : List UnitEntry). unit_run (unit_of done a) l) (sym (append-nil (own_in a r)))
    ∙ sym (unit_of-append a done (r ∷ []))

pub replay_is : (s : ReplayState) (a : ℕ × ℕ) (u : UnitState) → s.addr ≡ a → s.unit ≡ u
    → s ≡ record { addr = a; unit = u }
replay_is s a u here unit =
    ap (λ (x : ℕ × ℕ). make x s.unit) here ∙ ap (λ (x : UnitState). make a x) unit
  where
    make : ℕ × ℕ → UnitState → ReplayState
    make x y = record { addr = x; unit = y }

-- records that are moved from those that are left
pub moved_more : (out rest records after now all : List RecordData) → out ++ rest ≡ all → rest ≡ records ++ after
    → now ≡ out ++ records → now ++ after ≡ all
moved_more out rest records after now all before split added =
    ap (λ (l : List RecordData). l ++ after) added
    ∙ append_assoc out records after
    ∙ ap (λ (l : List RecordData). out ++ l) (sym split)
    ∙ before

-- one unit more is compacted
pub compact_more : (addresses : List (ℕ × ℕ)) (i : ℕ) (a : ℕ × ℕ) (old out new : List RecordData)
    → AreDistinct addresses → i < length addresses → a ≡ get_or addresses i a → Compacts (take i addresses) old out
    → AppendsCheckpoint a old out new → Compacts (take (i + 1) addresses) old new
compact_more addresses i a old out new distinct lt is so_far appends =
    let fresh : is_among a (take i addresses) ≡ false =
    subst (λ (x : ℕ × ℕ). is_among x (take i addresses) ≡ false) (sym is) (distinct_at addresses i a lt distinct) in
    let more : take (i + 1) addresses ≡ take i addresses ++ a ∷ [] =
    take_more addresses i a lt ∙ ap (λ (x : ℕ × ℕ). take i addresses ++ x ∷ []) (sym is) in
    subst (λ (l : List RecordData). Compacts (take (i + 1) addresses) old l) (sym appends.appended)
    (subst (λ (l : List (ℕ × ℕ)). Compacts l old (out ++ appends.part)) (sym more)
    (goes_on (take i addresses) a old out appends.part so_far fresh appends.checkpoint))

pub fit_more : (a : ℕ × ℕ) (old out new : List RecordData) → AreEncodable out → AppendsCheckpoint a old out new
    → AreEncodable new
fit_more a old out new fit appends =
    subst AreEncodable (sym appends.appended) (fit-append out appends.part fit appends.checkpoint.fit)

pub compact_first : (addresses : List (ℕ × ℕ)) (old out : List RecordData) → out ≡ disk_records old
    → Compacts (take 0 addresses) old out
compact_first addresses old out is = subst (λ (l : List RecordData). Compacts [] old l) (sym is) (begins old)

pub compact_last : (addresses : List (ℕ × ℕ)) (i : ℕ) (old out : List RecordData) → length addresses ≤ i
    → AreAddresses old addresses → Compacts (take i addresses) old out → IsCompaction old out
compact_last addresses i old out all are done =
    ends addresses old out
    (subst (λ (l : List (ℕ × ℕ)). Compacts l old out) (take_all i addresses all) done) are
