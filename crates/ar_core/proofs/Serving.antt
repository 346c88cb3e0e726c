-- What commands do to the sectors of the unit.
use Rattle.std.proofs.Common.{◌≡◌, ◌≢◌, ◌⊎◌, ℕ, zero, suc, ◌+◌, ◌-◌, ◌*◌, ◌/◌, ◌%◌, ◌<◌, ◌≤◌, Bool, true, false, IsTrue}
use Rattle.std.proofs.Common.{nat_lt, List, [], ◌∷◌, ◌++◌, length, take, drop, map, Result, Ok, refl, sym, ap, subst}
use Rattle.std.proofs.Common.{◌∙◌, inl, inr, true≢false, arith}
use Rattle.std.specs.Prelude.{◌==◌}
use Rattle.std.specs.List.{range_with_len, concat}
use Rattle.std.proofs.lemmas.List.{drop-drop, length-append}
use Rattle.std.proofs.lemmas.List.FromFn.{take-map-range_with_len}
use Rattle.std.proofs.lemmas.Bool.Decides.{nat_tests}
use Rattle.ar_disks.specs.declared.address.Addr.{Addr}
use Rattle.ar_disks.specs.declared.address.Key.{Key}
use Rattle.ar_disks.specs.declared.geometry.Geometry.{Geometry}
use Rattle.ar_disks.specs.declared.geometry.Geometry.TheVariants.{Paper, Small}
use Rattle.ar_disks.specs.Geometry.{sectors_of, block_len_of}
use Rattle.ar_disks.specs.Block.{sectors_at}
use Rattle.ar_disks.proofs.Sectors.{sectors_at_is}
use Rattle.ar_scsi.specs.declared.command.Command.{Command}
use Rattle.ar_scsi.specs.declared.command.Command.TheVariants.{Read, Write}
use Rattle.ar_scsi.specs.declared.reply.Reply.{Reply}
use Rattle.ar_scsi.specs.declared.reply.Status.{Status}
use Rattle.ar_scsi.specs.declared.reply.Status.TheVariants.{Good, CheckCondition, Busy}
use Rattle.ar_scsi.specs.declared.sense.Sense.{Sense}
use Rattle.ar_scsi.specs.Reply.{good, check, busy}
use Rattle.ar_scsi.specs.Sense.{internal_target_failure, logical_block_address_out_of_range, data_phase_error}
use Rattle.ar_unit.specs.Sectors.{cut, written, joined}
use Rattle.ar_unit.specs.Unit.{Present, Answered, leaving, read_reply, write_answer, IsGiven}
use Rattle.ar_book.specs.Tables.{unit_in, blocks_of as blocks_for}
use Rattle.ar_cache.specs.Backing.{InTurn, stored}
use Rattle.ar_volume.specs.Sectors.{sector_in, sectors_in, unit_block, key_of, keys_in}
use Rattle.ar_volume.specs.Image.{ArrayState, is_broken, geometry_of, seen_at, knows_in, length_at, attention_at}
use Rattle.ar_volume.specs.Image.{unit_sectors, IsPadded}
use Rattle.ar_volume.specs.Following.{ArrayFollows}
use Rattle.ar_volume.specs.Laws.{follows_refl, places_refl, places_in_turn}
use Rattle.ar_volume.specs.Seen.{IsUnit, SamePlaces, SameSeen, WritesSectors, present_at, sectors_read}
use Rattle.ar_core.specs.Served.{Serves, Settles}
use Rattle.ar_volume.specs.Seen.{IsForced}
use Rattle.ar_volume.specs.Storing.{ReadsBlock, ReadsFirst, StopsStoring, StoresBlocks}
use Rattle.ar_disks.specs.declared.completion.Completion.{Completion}
use Rattle.ar_disks.specs.declared.completion.Completion.TheVariants.{Done as Kept, Broken as Lost}
use Rattle.ar_disks.proofs.Addresses.{addr_tells}
use Rattle.ar_volume.proofs.Images.{length-sector_in, length-unit_sectors, map-range-same, map-range-add, present_same}
use Rattle.ar_volume.proofs.Images.{sector_same}
use Rattle.ar_volume.proofs.Sparing.{kept_sound}

-- what is left of a range
pub drop-map-range : {X : Type 0} (f : ℕ → X) (a k m : ℕ)
    → drop k (map f (range_with_len a (k + m))) ≡ map f (range_with_len (a + k) m)
drop-map-range f a zero m =
    let none : 0 + m ≡ m = omega arith in
    let here : a ≡ a + 0 = omega arith in
    ap (λ n. map f (range_with_len a n)) none ∙ ap (λ n. map f (range_with_len n m)) here
drop-map-range f a (suc k) m =
    let count : suc k + m ≡ suc (k + m) = omega arith in
    let next : a + 1 + k ≡ a + suc k = omega arith in
    ap (λ n. drop (suc k) (map f (range_with_len a n))) count ∙ drop-map-range f (a + 1) k m
    ∙ ap (λ n. map f (range_with_len n m)) next

-- bytes cut into sectors
pub cut-range : (f : ℕ → List ℕ) (bytes : List ℕ) (a n : ℕ)
    → ((i : ℕ) → a ≤ i → i < a + n → f i ≡ sectors_at bytes (i - a) 1) → map f (range_with_len a n) ≡ cut 512 n bytes
cut-range f bytes a zero is = refl
cut-range f bytes a (suc n) is =
    let here : a - a ≡ 0 = omega arith in
    ap (λ x. x ∷ map f (range_with_len (a + 1) n)) (is a (omega arith) (omega arith)
    ∙ ap (λ k. sectors_at bytes k 1) here ∙ sectors_at_is bytes 0 1)
    ∙ ap (λ xs. take 512 bytes ∷ xs)
    (cut-range f (drop 512 bytes) (a + 1) n
    (λ i low high.
    (let later : 512 * (i - a) ≡ 512 + 512 * (i - (a + 1)) = omega arith in
    is i (omega arith) (omega arith)
    ∙ sectors_at_is bytes (i - a) 1
    ∙ ap (λ l. take 512 l) (ap (λ k. drop k bytes) later ∙ sym (drop-drop (512 * (i - (a + 1))) 512 bytes))
    ∙ sym (sectors_at_is (drop 512 bytes) (i - (a + 1)) 1))))

-- some sectors of the unit, as a READ returns them
pub read_range : (s : ArrayState) (addr : Addr) (lba count : ℕ) → lba + count ≤ length_at s.store.book addr
    → joined (take count (drop lba (unit_sectors s addr))) ≡ sectors_read s addr lba count
read_range s addr lba count within =
    let f : ℕ → List ℕ = sector_in (geometry_of s) (unit_block (seen_at s) addr) in
    let n : ℕ = length_at s.store.book addr in
    let whole : n ≡ lba + (n - lba) = omega arith in
    let at : 0 + lba ≡ lba = omega arith in
    ap (λ k. concat (take count (drop lba (map f (range_with_len 0 k))))) whole
    ∙ ap (λ l. concat (take count l)) (drop-map-range f 0 lba (n - lba)
    ∙ ap (λ k. map f (range_with_len k (n - lba))) at)
    ∙ ap concat (take-map-range_with_len f lba (n - lba) count (omega arith))

-- the unit's sectors after a WRITE
pub written_range : (old new : ℕ → List ℕ) (n lba count : ℕ) (bytes : List ℕ) → lba + count ≤ n
    → ((i : ℕ) → lba ≤ i → i < lba + count → new i ≡ sectors_at bytes (i - lba) 1)
    → ((i : ℕ) → (i < lba) ⊎ (lba + count ≤ i) → new i ≡ old i)
    → map new (range_with_len 0 n) ≡ written (map old (range_with_len 0 n)) lba count bytes
written_range old new n lba count bytes within inside outside =
    let rest : ℕ = n - (lba + count) in
    let whole : n ≡ lba + count + rest = omega arith in
    let at : 0 + lba ≡ lba = omega arith in
    let behind : 0 + (lba + count) ≡ lba + count = omega arith in
    let front : take lba (map old (range_with_len 0 n)) ≡ map old (range_with_len 0 lba) =
    take-map-range_with_len old 0 n lba (omega arith) in
    let back : drop (lba + count) (map old (range_with_len 0 n)) ≡ map old (range_with_len (lba + count) rest) =
    ap (λ k. drop (lba + count) (map old (range_with_len 0 k))) whole ∙ drop-map-range old 0 (lba + count) rest
    ∙ ap (λ k. map old (range_with_len k rest)) behind in
    ap (λ k. map new (range_with_len 0 k)) whole
    ∙ map-range-add new 0 (lba + count) rest
    ∙ ap (λ l. l ++ map new (range_with_len (0 + (lba + count)) rest)) (map-range-add new 0 lba count)
    ∙ ap (λ k. (map new (range_with_len 0 lba) ++ map new (range_with_len (0 + lba) count))
    ++ map new (range_with_len k rest)) behind
    ∙ ap (λ k. (map new (range_with_len 0 lba) ++ map new (range_with_len k count))
    ++ map new (range_with_len (lba + count) rest)) at
    ∙ ap (λ l. (l ++ map new (range_with_len lba count)) ++ map new (range_with_len (lba + count) rest))
    (map-range-same new old 0 lba (λ i low high. outside i (inl (omega arith))) ∙ sym front)
    ∙ ap (λ l. (take lba (map old (range_with_len 0 n)) ++ l) ++ map new (range_with_len (lba + count) rest))
    (cut-range new bytes lba count inside)
    ∙ ap (λ l. (take lba (map old (range_with_len 0 n)) ++ cut 512 count bytes) ++ l)
    (map-range-same new old (lba + count) rest (λ i low high. outside i (inr low)) ∙ sym back)

-- a reply that isn't BUSY is given
pub given_same : (reply : Reply) → reply.status ≢ Busy → IsGiven reply reply
given_same reply served =
    record { answered = λ _. refl; refused = λ busy. absurd (served busy); memory = λ busy. absurd (served busy) }

pub given_check : (sense : Sense) → IsGiven (check sense) (check sense)
given_check sense = given_same (check sense) (λ busy. cc)

pub given_good : IsGiven (good []) (good [])
given_good = given_same (good []) (λ busy. cc)

-- BUSY stands in place of a reply with bytes
pub given_busy : (payload : List ℕ) → payload ≢ [] → IsGiven (good payload) busy
given_busy payload some = record { answered = λ served. absurd (served refl); refused = λ _. refl; memory = λ _. some }

busy_good : (reply : Reply) → reply ≡ good [] → reply.status ≡ Busy → ⊥
busy_good reply reported_to busy = let status = sym (ap (λ (r : Reply). r.status) reported_to) ∙ busy in cc

-- an answer that left the array as it was
pub serves_quiet : (s : ArrayState) (addr : Addr) (table otherwise reply : Reply)
    → (is_broken s ≡ false → IsGiven table reply) → (IsTrue (is_broken s) → IsGiven otherwise reply)
    → Serves s addr (leaving (present_at s addr) table) otherwise reply s
serves_quiet s addr table otherwise reply sound broken = record {
  follows = follows_refl s;
  sound = λ now. record { given = sound now; left = λ _. refl; unchanged = λ _. refl };
  others = λ now k _. refl;
  broken = broken;
}

-- a check that leaves the array as it was
pub serves_check : (s : ArrayState) (addr : Addr) (sense : Sense) (reply : Reply) → reply ≡ check sense
    → Serves s addr (leaving (present_at s addr) (check sense)) (check sense) reply s
serves_check s addr sense reply is =
    let given : IsGiven (check sense) reply =
    subst (λ (r : Reply). IsGiven (check sense) r) (sym is) (given_check sense) in
    serves_quiet s addr (check sense) (check sense) reply (λ _. given) (λ _. given)

-- a broken array's answer
pub serves_broken : (s : ArrayState) (addr : Addr) (table : Answered) (reply : Reply) → IsTrue (is_broken s)
    → reply ≡ check internal_target_failure
    → Serves s addr table (check internal_target_failure) reply s
serves_broken s addr table reply lost is = record {
  follows = follows_refl s;
  sound = λ now. absurd (cc);
  others = λ now. absurd (cc);
  broken = λ _. subst (λ (r : Reply). IsGiven (check internal_target_failure) r) (sym is)
      (given_check internal_target_failure);
}

pub read_past : (sectors : List (List ℕ)) (n lba count : ℕ) → length sectors ≡ n → nat_lt n (lba + count) ≡ true
    → read_reply sectors lba count ≡ check logical_block_address_out_of_range
read_past sectors n lba count len past = rw (len, past) refl

pub read_within : (s : ArrayState) (addr : Addr) (n lba count : ℕ) → length_at s.store.book addr ≡ n
    → nat_lt n (lba + count) ≡ false → lba + count ≤ n
    → read_reply (unit_sectors s addr) lba count ≡ good (sectors_read s addr lba count)
read_within s addr n lba count len within fits =
    rw (length-unit_sectors s addr ∙ len, within) (ap good (read_range s addr lba count (omega arith)))

pub write_past : (sectors : List (List ℕ)) (mark : Bool) (n lba count : ℕ) (bytes : List ℕ) → length sectors ≡ n
    → nat_lt n (lba + count) ≡ true
    → write_answer sectors mark lba count bytes
    ≡ leaving (Present sectors mark) (check logical_block_address_out_of_range)
write_past sectors mark n lba count bytes len past = rw (len, past) refl

pub write_wrong : (sectors : List (List ℕ)) (mark : Bool) (n lba count : ℕ) (bytes : List ℕ) → length sectors ≡ n
    → nat_lt n (lba + count) ≡ false → length bytes == count * 512 ≡ false
    → write_answer sectors mark lba count bytes ≡ leaving (Present sectors mark) (check data_phase_error)
write_wrong sectors mark n lba count bytes len within wrong = rw (len, within, wrong) refl

pub write_within : (sectors : List (List ℕ)) (mark : Bool) (n lba count : ℕ) (bytes : List ℕ) → length sectors ≡ n
    → nat_lt n (lba + count) ≡ false → length bytes == count * 512 ≡ true
    → write_answer sectors mark lba count bytes ≡ leaving (Present (written sectors lba count bytes) mark) (good [])
write_within sectors mark n lba count bytes len within right = rw (len, within, right) refl

-- while the data are there, some sectors have some bytes
pub sectors_read-some : (s : ArrayState) (addr : Addr) (lba count : ℕ)
    → ((k : Key) → length (seen_at s k) ≡ block_len_of (geometry_of s)) → 0 < count → sectors_read s addr lba count ≢ []
sectors_read-some s addr lba zero whole some = absurd (omega arith)
sectors_read-some s addr lba (suc count) whole some = λ none.
    let first : List ℕ = sector_in (geometry_of s) (unit_block (seen_at s) addr) lba in
    let rest : List ℕ = concat (sectors_in (geometry_of s) (unit_block (seen_at s) addr) (lba + 1) count) in
    let len : length first ≡ 512 =
    length-sector_in (geometry_of s) (unit_block (seen_at s) addr) lba (λ rb. whole (key_of addr rb)) in
    let parts : length (first ++ rest) ≡ 0 = ap length none in
    omega (arith, length-append first rest)

-- a unit that was read is as it was
unit_read : (old new : ArrayState) (addr : Addr) → ArrayFollows old new → SameSeen old new
    → present_at new addr ≡ present_at old addr
unit_read old new addr follows seen =
    present_same old new addr (follows.store.units.sectors addr) (follows.store.units.attention addr)
    follows.store.accessed.follows.geometry (λ k _. seen.same k)

pub lost_broken : (broken : Bool) → Lost ≡ stored broken → broken ≡ true
lost_broken true is = refl
lost_broken false is = absurd (cc)

-- a reply that is the table's is given
given_as : (payload : List ℕ) (reply : Reply) → reply ≡ good payload → IsGiven (good payload) reply
given_as payload reply is =
    subst (λ (r : Reply). IsGiven (good payload) r) (sym is)
    (record { answered = λ _. refl; refused = λ e. absurd (cc); memory = λ e. absurd (cc) })

-- how a READ ends
pub serves_read : (old new : ArrayState) (addr : Addr) (lba count : ℕ) (reply : Reply) (status : Status)
    → reply.status ≡ status
    → ArrayFollows old new → sectors_read old addr lba count ≢ []
    → (reply.status ≢ CheckCondition → SameSeen old new) → (reply.status ≢ CheckCondition → is_broken new ≡ false)
    → (reply.status ≡ CheckCondition → IsTrue (is_broken new))
    → (reply.status ≡ Good → reply ≡ good (sectors_read old addr lba count)) → (reply.status ≡ Busy → reply ≡ busy)
    → (reply.status ≡ CheckCondition → reply ≡ check internal_target_failure)
    → Serves old addr (leaving (present_at old addr) (good (sectors_read old addr lba count)))
    (check internal_target_failure) reply new
serves_read old new addr lba count reply CheckCondition is follows some seen sound broken done refused failed = record {
  follows = follows;
  sound = λ now. (let gone = broken is in absurd (cc));
  others = λ now. (let gone = broken is in absurd (cc));
  broken = λ now. subst (λ (r : Reply). IsGiven (check internal_target_failure) r) (sym (failed is))
      (given_check internal_target_failure);
}
serves_read old new addr lba count reply Good is follows some seen sound broken done refused failed =
    let here : SameSeen old new = seen (λ e. cc) in
    let same = unit_read old new addr follows here in
    record {
      follows = follows;
      sound = λ now. record {
        given = given_as (sectors_read old addr lba count) reply (done is);
        left = λ _. same;
        unchanged = λ _. same;
      };
      others = λ now k _. here.same k;
      broken = λ now. (let still = sound (λ e. cc) in absurd (cc));
    }
serves_read old new addr lba count reply Busy is follows some seen sound broken done refused failed =
    let here : SameSeen old new = seen (λ e. cc) in
    let same = unit_read old new addr follows here in
    record {
      follows = follows;
      sound = λ now. record {
        given = subst (λ (r : Reply). IsGiven (good (sectors_read old addr lba count)) r) (sym (refused is))
            (given_busy (sectors_read old addr lba count) some);
        left = λ _. same;
        unchanged = λ _. same;
      };
      others = λ now k _. here.same k;
      broken = λ now. (let still = sound (λ e. cc) in absurd (cc));
    }

-- how a WRITE ends
pub serves_write : (old new : ArrayState) (addr : Addr) (lba count : ℕ) (bytes : List ℕ) (answer : Completion)
    (reply : Reply)
    → ArrayFollows old new → lba + count ≤ length_at old.store.book addr → answer ≡ stored (is_broken new)
    → (answer ≡ Kept → WritesSectors old addr lba count bytes new)
    → (answer ≡ Kept → reply ≡ good []) → (answer ≡ Lost → reply ≡ check internal_target_failure)
    → Serves old addr
    (leaving (Present (written (unit_sectors old addr) lba count bytes) (attention_at old.store.book addr)) (good []))
    (check internal_target_failure) reply new
serves_write old new addr lba count bytes Kept reply follows within answer writes done lost =
    let w : WritesSectors old addr lba count bytes new = writes refl in
    let sound : is_broken new ≡ false = kept_sound (is_broken new) answer in
    let sectors : unit_sectors new addr ≡ written (unit_sectors old addr) lba count bytes =
    ap (λ (g : Geometry). map (sector_in g (unit_block (seen_at new) addr))
    (range_with_len 0 (length_at new.store.book addr))) follows.store.accessed.follows.geometry
    ∙ ap (λ n. map (sector_in (geometry_of old) (unit_block (seen_at new) addr)) (range_with_len 0 n))
    (follows.store.units.sectors addr)
    ∙ written_range (sector_in (geometry_of old) (unit_block (seen_at old) addr))
    (sector_in (geometry_of old) (unit_block (seen_at new) addr)) (length_at old.store.book addr) lba count bytes
    within w.inside w.outside in
    record {
      follows = follows;
      sound = λ now. record {
        given = subst (λ (r : Reply). IsGiven (good []) r) (sym (done refl)) given_good;
        left = λ _. ap (λ l. Present l (attention_at new.store.book addr)) sectors
            ∙ ap (λ m. Present (written (unit_sectors old addr) lba count bytes) m)
            (follows.store.units.attention addr);
        unchanged = λ busy. (let reported_to = done refl in absurd (busy_good reply reported_to busy));
      };
      others = λ now k other. w.others k other;
      broken = λ now. absurd (cc);
    }
serves_write old new addr lba count bytes Lost reply follows within answer writes done lost =
    let gone : is_broken new ≡ true = lost_broken (is_broken new) answer in
    record {
      follows = follows;
      sound = λ now. absurd (cc);
      others = λ now. absurd (cc);
      broken = λ now. subst (λ (r : Reply). IsGiven (check internal_target_failure) r) (sym (lost refl))
          (given_check internal_target_failure);
    }

pub same_false : (a b : ℕ) → a ≢ b → a == b ≡ false
same_false a b other = grind (arith, nat_tests)

pub same_true : (a b : ℕ) → a ≡ b → a == b ≡ true
same_true a b same = grind (arith, nat_tests)

pub not_below : (a b : ℕ) → nat_lt a b ≡ false → b ≤ a
not_below a b test = grind (arith, nat_tests)

no_more : (n : ℕ) → nat_lt 0 n ≡ false → n ≡ 0
no_more n test = grind (arith, nat_tests)

-- the blocks of no sector were read
pub first_none : (s : ArrayState) (addr : Addr) (lba count : ℕ)
    → ReadsFirst ReadsBlock (geometry_of s) addr lba count s s
first_none s addr lba count = record { many = 0; within = omega arith; in_turn = refl }

-- a command that has changed nothing
pub settles_same : (s : ArrayState) (addr : Addr) (command : Result Command Sense) (reply : Reply)
    → ((lba count : ℕ) (fua : Bool) → command ≡ Ok (Write lba count fua) → reply.status ≡ Good → ⊥)
    → ((lba count : ℕ) → command ≡ Ok (Read lba count) → reply.status ≡ Good → ⊥) → Settles s addr command reply s
settles_same s addr command reply no_write no_read = record {
  still = λ _. refl;
  refused = λ _ _. refl;
  lost = λ _. refl;
  reads = λ _. places_refl s;
  busy = λ _. places_refl s;
  begun = λ lba count _. first_none s addr lba count;
  got = λ lba count is good. absurd (no_read lba count is good);
  busy_read = λ lba count _ _. inl refl;
  forced = λ lba count is good. absurd (no_write lba count true is good);
  stored = λ lba count fua is good. absurd (no_write lba count fua is good);
  stopped = λ lba count fua is now gone. absurd (true≢false (sym gone ∙ now));
}

-- a command was refused, or met a broken array
pub settles_check : (s : ArrayState) (addr : Addr) (command : Result Command Sense) (sense : Sense) (reply : Reply)
    → reply ≡ check sense → Settles s addr command reply s
settles_check s addr command sense reply is =
    settles_same s addr command reply (λ lba count fua _ good. not_good good) (λ lba count _ good. not_good good)
  where
    not_good : reply.status ≡ Good → ⊥
    not_good good = let status = sym (ap (λ (r : Reply). r.status) is) ∙ good in cc

-- the blocks of no sector are none
read_none : (old new : ArrayState) (addr : Addr) (lba count : ℕ) → count ≡ 0
    → ReadsFirst ReadsBlock (geometry_of old) addr lba count old new → new ≡ old
read_none old new addr lba count none first =
    let many : first.many ≡ 0 = omega (arith, first.within, none) in
    subst (λ n. InTurn ReadsBlock (keys_in (geometry_of old) addr lba n) old new) many first.in_turn

abbrev read_of : ℕ → ℕ → Result Command Sense
read_of lba count = Ok (Read lba count)

first_same : (addr : Addr) (lba count l n : ℕ) (old new : ArrayState) → read_of lba count ≡ read_of l n
    → ReadsFirst ReadsBlock (geometry_of old) addr lba count old new
    → ReadsFirst ReadsBlock (geometry_of old) addr l n old new
first_same addr lba count l n old new is first =
    let at : lba ≡ l = cc in
    let many : count ≡ n = cc in
    subst (λ k. ReadsFirst ReadsBlock (geometry_of old) addr l k old new) many
    (subst (λ k. ReadsFirst ReadsBlock (geometry_of old) addr k count old new) at first)

got_same : (addr : Addr) (lba count l n : ℕ) (old new : ArrayState) → read_of lba count ≡ read_of l n
    → InTurn ReadsBlock (keys_in (geometry_of old) addr lba count) old new
    → InTurn ReadsBlock (keys_in (geometry_of old) addr l n) old new
got_same addr lba count l n old new is got =
    let at : lba ≡ l = cc in
    let many : count ≡ n = cc in
    subst (λ k. InTurn ReadsBlock (keys_in (geometry_of old) addr l k) old new) many
    (subst (λ k. InTurn ReadsBlock (keys_in (geometry_of old) addr k count) old new) at got)

-- a READ that was not refused
pub settles_read : (old new : ArrayState) (addr : Addr) (lba count : ℕ) (reply : Reply) → is_broken old ≡ false
    → ReadsFirst ReadsBlock (geometry_of old) addr lba count old new
    → (reply.status ≡ Good → InTurn ReadsBlock (keys_in (geometry_of old) addr lba count) old new)
    → (reply.status ≡ Busy → (new ≡ old) ⊎ InTurn ReadsBlock (keys_in (geometry_of old) addr lba count) old new)
    → (reply.status ≡ CheckCondition → reply ≡ check internal_target_failure)
    → Settles old addr (Ok (Read lba count)) reply new
settles_read old new addr lba count reply sound first got busy failed = record {
  still = λ none. read_none old new addr lba count (no_more count none) first;
  refused = λ status other. absurd (other (failed status));
  lost = λ gone. absurd (cc);
  reads = λ _. places;
  busy = λ _. places;
  begun = λ l n is. first_same addr lba count l n old new is first;
  got = λ l n is good. got_same addr lba count l n old new is (got good);
  busy_read = λ l n is status. elim (busy status) [
    | inl same ↦ inl same
    | inr all ↦
        inr (got_same addr lba count l n old new is all)
  ];
  forced = λ l n is good. absurd (cc);
  stored = λ l n fua is good. absurd (cc);
  stopped = λ l n fua is now gone. absurd (cc);
}
  where
    places : SamePlaces old new
    places = places_in_turn (keys_in (geometry_of old) addr lba first.many) old new first.in_turn

-- a block that has some of the unit's sectors is the unit's
block_counted : (g : Geometry) (rb n : ℕ) → rb * sectors_of g < n → rb < blocks_for g n
block_counted Paper rb n within = omega arith
block_counted Small rb n within = omega arith

below : (a b : ℕ) → a < b → nat_lt a b ≡ true
below a b lt = grind (arith, nat_tests)

-- a unit, with its length in the tables
pub unit_itself : (s : ArrayState) (addr : Addr) (n : ℕ) → IsUnit s addr n
    → IsUnit s addr (length_at s.store.book addr)
unit_itself s addr n unit = subst (λ k. IsUnit s addr k) (sym unit.sectors_same) unit

pub key_known : (s : ArrayState) (addr : Addr) (n rb : ℕ) → IsUnit s addr n → rb * sectors_of (geometry_of s) < n
    → knows_in s.store (key_of addr rb) ≡ true
key_known s addr n rb unit within =
    let counted : rb < blocks_for (geometry_of s) n = block_counted (geometry_of s) rb n within in
    below rb (length (unit_in s.store.book.units addr).homes) (omega (arith, unit.blocks))

-- a transfer's sectors, in the array's own geometry
pub range_written : (old new : ArrayState) (addr : Addr) (lba count : ℕ) (bytes : List ℕ) (g : Geometry)
    → g ≡ geometry_of old
    → ((i : ℕ) → lba ≤ i → i < lba + count → sector_in g (unit_block (seen_at new) addr) i
    ≡ sectors_at bytes (i - lba) 1)
    → ((i : ℕ) → (i < lba) ⊎ (lba + count ≤ i) → sector_in g (unit_block (seen_at new) addr) i
    ≡ sector_in g (unit_block (seen_at old) addr) i)
    → ((k : Key) → k.addr ≢ addr → seen_at new k ≡ seen_at old k) → WritesSectors old addr lba count bytes new
range_written old new addr lba count bytes g shape inside outside others = record {
  inside = λ i low high. ap (λ (h : Geometry). sector_in h (unit_block (seen_at new) addr) i) (sym shape)
      ∙ inside i low high;
  outside = λ i apart.
      ap (λ (h : Geometry). sector_in h (unit_block (seen_at new) addr) i) (sym shape)
      ∙ outside i apart
      ∙ ap (λ (h : Geometry). sector_in h (unit_block (seen_at old) addr) i) shape;
  others = others;
}

-- what was not written past the unit's end is zeros still
pub padded_written : (old new : ArrayState) (addr : Addr) (n lba count : ℕ) (bytes : List ℕ) (answer : Completion)
    → IsPadded old → IsUnit old addr n → lba + count ≤ n
    → is_broken old ≡ false → ArrayFollows old new → answer ≡ stored (is_broken new)
    → (answer ≡ Kept → WritesSectors old addr lba count bytes new) → IsPadded new
padded_written old new addr n lba count bytes answer padded unit within sound follows reported_to writes = record {
  zeros = λ now b i past.
      (let w : WritesSectors old addr lba count bytes new = writes (reported_to ∙ ap stored now) in
      let shape : geometry_of new ≡ geometry_of old = follows.store.accessed.follows.geometry in
      let same : length_at new.store.book b ≡ length_at old.store.book b = follows.store.units.sectors b in
      elim (addr_tells b addr) [
        | inl one ↦
            (let len : length_at old.store.book b ≡ n = ap (length_at old.store.book) one.1 ∙ unit.sectors_same in
            ap (λ (g : Geometry). sector_in g (unit_block (seen_at new) b) i) shape
            ∙ ap (λ (x : Addr). sector_in (geometry_of old) (unit_block (seen_at new) x) i) one.1
            ∙ w.outside i (inr (omega arith))
            ∙ ap (λ (x : Addr). sector_in (geometry_of old) (unit_block (seen_at old) x) i) (sym one.1)
            ∙ padded.zeros sound b i (omega arith))
        | inr two ↦
            sector_same old new b i shape (λ k at. w.others k (λ e. two.1 (sym at ∙ e)))
            ∙ padded.zeros sound b i (omega arith)
      ]);
}

-- writes that were then forced are the same writes
pub writes_then : (old mid new : ArrayState) (addr : Addr) (lba count : ℕ) (bytes : List ℕ)
    → WritesSectors old addr lba count bytes mid → SameSeen mid new → WritesSectors old addr lba count bytes new
unfolding sector_in
writes_then old mid new addr lba count bytes w seen = record {
  inside = λ i low high. same i ∙ w.inside i low high;
  outside = λ i apart. same i ∙ w.outside i apart;
  others = λ k other. seen.same k ∙ w.others k other;
}
  where
    same : (i : ℕ) → sector_in (geometry_of old) (unit_block (seen_at new) addr) i
        ≡ sector_in (geometry_of old) (unit_block (seen_at mid) addr) i
    same i = ap (λ b. sectors_at b (i % sectors_of (geometry_of old)) 1)
        (seen.same (key_of addr (i / sectors_of (geometry_of old))))

abbrev write_of : ℕ → ℕ → Bool → Result Command Sense
write_of lba count fua = Ok (Write lba count fua)

forced_same : (addr : Addr) (lba count l n : ℕ) (new : ArrayState) (fua : Bool)
    → write_of lba count fua ≡ write_of l n true → (IsTrue fua → IsForced new addr lba count) → IsForced new addr l n
forced_same addr lba count l n new fua is forced =
    let first : lba ≡ l = cc in
    let many : count ≡ n = cc in
    let set : fua ≡ true = cc in
    subst (λ k. IsForced new addr l k) many (subst (λ k. IsForced new addr k count) first (forced set))

stored_same : (addr : Addr) (lba count l n : ℕ) (old new : ArrayState) (fua f : Bool)
    → write_of lba count fua ≡ write_of l n f
    → StoresBlocks addr lba count fua old new → StoresBlocks addr l n f old new
stored_same addr lba count l n old new fua f is stored =
    let first : lba ≡ l = cc in
    let many : count ≡ n = cc in
    let same : fua ≡ f = cc in
    subst (λ b. StoresBlocks addr l n b old new) same
    (subst (λ k. StoresBlocks addr l k fua old new) many
    (subst (λ k. StoresBlocks addr k count fua old new) first stored))

stopped_same : (addr : Addr) (lba count l n : ℕ) (old new : ArrayState) (fua f : Bool)
    → write_of lba count fua ≡ write_of l n f
    → StopsStoring addr lba count fua old new → StopsStoring addr l n f old new
stopped_same addr lba count l n old new fua f is stopped =
    let first : lba ≡ l = cc in
    let many : count ≡ n = cc in
    let same : fua ≡ f = cc in
    subst (λ b. StopsStoring addr l n b old new) same
    (subst (λ k. StopsStoring addr l k fua old new) many
    (subst (λ k. StopsStoring addr k count fua old new) first stopped))

-- a WRITE that was not refused
pub settles_write : (old new : ArrayState) (addr : Addr) (lba count : ℕ) (fua : Bool) (answer : Completion)
    (reply : Reply) → is_broken old ≡ false
    → (answer ≡ Kept → reply ≡ good []) → (answer ≡ Lost → reply ≡ check internal_target_failure)
    → (answer ≡ Kept → IsTrue fua → IsForced new addr lba count)
    → (answer ≡ Kept → StoresBlocks addr lba count fua old new) → answer ≡ stored (is_broken new)
    → (answer ≡ Lost → StopsStoring addr lba count fua old new)
    → (count ≡ 0 → new ≡ old) → Settles old addr (Ok (Write lba count fua)) reply new
settles_write old new addr lba count fua Kept reply sound done lost forced stores reported_to stops none = record {
  still = λ nothing. none (no_more count nothing);
  reads = λ other. absurd (cc);
  begun = λ l n is. absurd (cc);
  got = λ l n is good. absurd (cc);
  busy_read = λ l n is status. absurd (cc);
  refused = λ status _. (let reported_to = sym (ap (λ (r : Reply). r.status) (done refl)) ∙ status in absurd (cc));
  lost = λ gone. absurd (cc);
  busy = λ status. (let reported_to = sym (ap (λ (r : Reply). r.status) (done refl)) ∙ status in absurd (cc));
  forced = λ l n is good. forced_same addr lba count l n new fua is (forced refl);
  stored = λ l n f is good. stored_same addr lba count l n old new fua f is (stores refl);
  stopped = λ l n f is now gone. (let kept = reported_to ∙ ap stored gone in absurd (cc));
}
settles_write old new addr lba count fua Lost reply sound done lost forced stores reported_to stops none = record {
  still = λ nothing. none (no_more count nothing);
  reads = λ other. absurd (cc);
  begun = λ l n is. absurd (cc);
  got = λ l n is good. absurd (cc);
  busy_read = λ l n is status. absurd (cc);
  refused = λ _ other. absurd (other (lost refl));
  lost = λ gone. absurd (cc);
  busy = λ status. (let reported_to = sym (ap (λ (r : Reply). r.status) (lost refl)) ∙ status in absurd (cc));
  forced = λ l n is good. (let reported_to = sym (ap (λ (r : Reply). r.status) (lost refl)) ∙ good in absurd (cc));
  stored = λ l n f is good. (let status = sym (ap (λ (r : Reply). r.status) (lost refl)) ∙ good in absurd (cc));
  stopped = λ l n f is now gone. stopped_same addr lba count l n old new fua f is (stops refl);
}
