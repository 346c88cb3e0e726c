-- What a store keeps of its fields, and what it shows of them.
use Rattle.std.proofs.Common.{◌≡◌, ◌≢◌, ℕ, ◌<◌, ◌≤◌, List, IsSome, length, None, Some, refl, sym, ap, subst}
use Rattle.std.proofs.Common.{◌∙◌, arith}
use Rattle.ar_disks.specs.Geometry.{block_len_of}
use Rattle.ar_disks.specs.declared.address.Key.{Key}
use Rattle.ar_extents.specs.declared.health.Health.TheVariants.{Broken}
use Rattle.ar_disks.specs.declared.completion.Completion.{Completion}
use Rattle.ar_disks.specs.declared.completion.Completion.TheVariants.{Done}
use Rattle.ar_extents.specs.Set.{SetState}
use Rattle.ar_extents.specs.Follows.{Follows, Keeps, Anywhere}
use Rattle.ar_book.specs.declared.class.Slot.{Slot}
use Rattle.ar_book.specs.Tables.{Tables, home, free_groups, HasBlock}
use Rattle.ar_book.specs.Changes.{assigned, stamped}
use Rattle.ar_book.proofs.AfterAssign.{assigned_home}
use Rattle.ar_book.proofs.AfterStamp.{stamped_home}
use Rattle.ar_disks.specs.Block.{zeros}
use Rattle.ar_book.proofs.Homes.{home_key}
use Rattle.ar_store.specs.Store.{StoreState, store_of}
use Rattle.ar_store.specs.Slots.{SlotHolds, stands, AllStand, OthersStand}
use Rattle.ar_extents.proofs.Losses.{stays_broken}
use Rattle.ar_store.specs.declared.way.Way.{Way}
use Rattle.ar_store.specs.declared.way.Way.TheVariants.{Home, Hole, Broken as NoWay}
use Rattle.ar_store.specs.Placing.{IsReadyFor, placed_by}
use Rattle.ar_disks.specs.Endings.{OnDone}
use Rattle.ar_store.specs.Calls.{IsAccessed}
use Rattle.ar_store.specs.Kept.{IsSpace, FieldsAgree}
use Rattle.ar_store.specs.declared.space.Space.{Space}
use Rattle.ar_store.specs.Spaces.{store_in, IsReady, Stays}
use Rattle.ar_store.proofs.Fills.{one_stands}
use Rattle.ar_store.proofs.Spaces.{space_read}
use Rattle.ar_store.proofs.Standing.{stands_held, stands_nowhere, was_sound}
use Rattle.ar_store.proofs.Options.{some_is}

-- a store's space is ready for a call
pub ready_in : {X : Type 0} (s : Space X) (block : List ℕ) → FieldsAgree (store_in s) block s.scratch.geometry
    → IsReady s
ready_in s block fields = record { space = fields.kept.space; scratch = fields.scratch_same }

-- calls of the space that leave a group free
pub fields_stay : {X : Type 0} (a b : Space X) (block_a block_b : List ℕ)
    → FieldsAgree (store_in a) block_a a.scratch.geometry → Stays a b
    → (b.disks.health ≢ Broken → 0 < free_groups b.book) → length block_b ≡ length block_a
    → FieldsAgree (store_in b) block_b b.scratch.geometry
fields_stay a b block_a block_b old stays free len = record {
  kept = record { space = stays.ready.space; free = free };
  block_len = len ∙ old.block_len ∙ ap block_len_of (sym stays.accessed.follows.geometry);
  scratch_same = stays.ready.scratch;
}

-- a group that was free before is one afterwards, where none was taken
pub free_then : {X : Type 0} (a b : Space X) → (a.disks.health ≢ Broken → 0 < free_groups a.book) → Stays a b
    → free_groups a.book ≤ free_groups b.book
    → b.disks.health ≢ Broken → 0 < free_groups b.book
free_then a b free stays le sound = let before =
    free (was_sound a.disks b.disks stays.accessed.follows sound) in omega arith

-- a read of the disks alone
pub fields_read : {X : Type 0} (a : Space X) (b : SetState) (block : List ℕ)
    → FieldsAgree (store_in a) block a.scratch.geometry → IsAccessed a.disks b → Keeps Anywhere a.disks b
    → FieldsAgree (store_of b a.book) block a.scratch.geometry
fields_read a b block old access keeps = record {
  kept = record {
    space = space_read a.disks b a.book old.kept.space access keeps;
    free = λ sound. old.kept.free (was_sound a.disks b access.follows sound);
  };
  block_len = old.block_len ∙ ap block_len_of (sym access.follows.geometry);
  scratch_same = old.scratch_same ∙ sym access.follows.geometry;
}

-- the block that was read from a home, or a part of it, is of the one that stands for its key
pub given_stands : (s : StoreState) (a b : SetState) (t : Tables) (k : Key) (slot : Slot) (part : List ℕ → List ℕ)
    (bytes : List ℕ) → store_of a t ≡ s → IsSpace (store_of a t) → home t k ≡ Some slot
    → Follows a b → b.health ≢ Broken → ((block : List ℕ) → SlotHolds (store_of a t) slot block → bytes ≡ part block)
    → bytes ≡ part (stands s k)
given_stands s a b t k slot part bytes view space is ab sound read =
    let held = space.named slot k (home_key t space.tables k slot is) in
    subst (λ (x : StoreState). bytes ≡ part (stands x k)) view
    (read held.block held.holds
    ∙ ap part (sym (stands_held (store_of a t) k slot held.block space (was_sound a b ab sound) is held.holds)))

-- what is said of a call that is done
pub given_done : (o : Completion) (P : Type 0) → o ≡ Done → OnDone o P → P
given_done o P is given = subst (λ (x : Completion). OnDone x P) is given

-- a way was found, if the disks are sound after the write
pub way_sound : (s : StoreState) (d : SetState) (k : Key) (way : Way) → IsReadyFor s k way → Follows s.disks d
    → d.health ≢ Broken → way ≢ NoWay
way_sound s d k way ready follows sound none =
    sound (stays_broken s.disks d follows (subst (λ (w : Way). IsReadyFor s k w) none ready))

-- a block that was written has a home
pub written_home : (s : StoreState) (u : Tables) (k : Key) (way : Way) → HasBlock s.book k → IsReadyFor s k way
    → u ≡ stamped (placed_by s.book k way) k → way ≢ NoWay
    → IsSome (home u k)
written_home s u k (Home to) block ready is found =
    some_is (home u k) to (ap (λ (x : Tables). home x k) is ∙ stamped_home s.book k k ∙ ready)
written_home s u k (Hole to) block ready is found =
    some_is (home u k) to (ap (λ (x : Tables). home x k) is ∙ stamped_home (assigned s.book k to) k k
    ∙ assigned_home s.book k to block)
written_home s u k NoWay block ready is found = absurd (found refl)

-- zeros were written for a block without a home: it stands as it did
pub placed_stand : (a d : StoreState) (k : Key) (bytes : List ℕ) → home a.book k ≡ None
    → bytes ≡ zeros (block_len_of a.disks.geometry) → OthersStand a d k
    → (d.disks.health ≢ Broken → stands d k ≡ bytes) → AllStand a d
placed_stand a d k bytes none zero others here =
    one_stands a d k others (λ sound. here sound ∙ zero ∙ sym (stands_nowhere a k none))
