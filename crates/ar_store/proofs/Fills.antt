-- What a write to a slot and a change of a home come to.
use Rattle.std.proofs.Common.{◌≡◌, ◌≢◌, ◌≤◌, inl, inr, ℕ, Bool, List, length, Some, refl, sym, ap, subst, ◌∙◌, arith}
use Rattle.ar_disks.specs.declared.address.Key.{Key}
use Rattle.ar_disks.specs.declared.address.Place.{Place}
use Rattle.ar_disks.specs.Block.{part_at, with_sectors}
use Rattle.ar_disks.specs.Geometry.{block_len_of}
use Rattle.ar_disks.specs.declared.completion.Completion.{Completion}
use Rattle.ar_extents.specs.Groups.{outcome_of}
use Rattle.ar_extents.proofs.Outcomes.{done_sound, broken_is}
use Rattle.ar_parity.proofs.PartSums.{with_sectors-whole}
use Rattle.ar_store.specs.declared.space.Space.{Space}
use Rattle.ar_store.specs.Spaces.{store_in, WritesAt, PutsAt}
use Rattle.ar_store.proofs.Overwriting.{all_given}
use Rattle.ar_extents.specs.declared.health.Health.TheVariants.{Broken}
use Rattle.ar_disks.specs.declared.completion.Completion.TheVariants.{Done, Broken as NotDone}
use Rattle.ar_extents.specs.Set.{SetState, IsLost}
use Rattle.ar_extents.specs.Follows.{Follows, Keeps, Anywhere, IsPlace, WorksOn}
use Rattle.ar_extents.specs.Plans.{Attempts, read_at}
use Rattle.ar_extents.proofs.Follows.{follows_refl, follows_then, keeps_refl, lost_then}
use Rattle.ar_extents.proofs.Asking.{read_works}
use Rattle.ar_book.specs.declared.class.Slot.{Slot}
use Rattle.ar_book.specs.Tables.{Tables, home, class_of, free_groups, HasBlock, HasSlot}
use Rattle.ar_book.specs.Changes.{assigned, stamped}
use Rattle.ar_book.proofs.AfterAssign.{assigned_free_groups, assigned_members, assigned_class_here}
use Rattle.ar_book.proofs.Homes.{home_key}
use Rattle.ar_disks.proofs.Addresses.{key_tells}
use Rattle.ar_store.specs.Store.{StoreState, store_of}
use Rattle.ar_store.specs.Slots.{SlotHolds, HoldsBlock, stands, AllStand, OthersStand, OtherSlotsHold, BesideHold}
use Rattle.ar_store.specs.Kept.{IsSpace}
use Rattle.ar_store.specs.Calls.{IsAccessed}
use Rattle.ar_store.specs.Placing.{IsVacant, SameUnits}
use Rattle.ar_store.proofs.Standing.{holds_same, hole_stand, others_stand, home_apart, stands_held, stands_whole}
use Rattle.ar_store.proofs.Standing.{was_sound}
use Rattle.ar_store.proofs.Spaces.{slots_read}
use Rattle.ar_store.proofs.Changes.{space_moved, others_moved, block_moved, units_assigned, space_stamped, all_stamped}
use Rattle.ar_store.proofs.Changes.{others_stamped, units_stamped, units_then, block_then}

-- no access
pub accessed_refl : (s : SetState) → IsAccessed s s
accessed_refl s = record { follows = follows_refl s; loose = refl; lost = keeps_refl (IsLost s) s }

-- accesses one after another
pub accessed_then : (a b c : SetState) → IsAccessed a b → IsAccessed b c → IsAccessed a c
accessed_then a b c ab bc = record {
  follows = follows_then a b c ab.follows bc.follows;
  loose = bc.loose ∙ ab.loose;
  lost = lost_then a b c ab.follows ab.lost bc.lost;
}

-- work on some extents
pub accessed_work : (these : Place → Type 0) (a b : SetState) → WorksOn these a b → IsAccessed a b
accessed_work these a b works = record { follows = works.follows; loose = works.loose; lost = works.lost }

-- the read of one
pub accessed_read : (place : Place) (row : ℕ) (answered : Bool) (a b : SetState)
    → Attempts (read_at place row) answered a b → IsAccessed a b
accessed_read place row answered a b made = accessed_work (IsPlace place) a b (read_works place row answered a b made)

-- what stands, over two calls
pub stand_then : (a b c : StoreState) → Follows b.disks c.disks → AllStand a b → AllStand b c → AllStand a c
stand_then a b c bc first second =
    record { blocks = λ sound k. second.blocks sound k ∙ first.blocks (was_sound b.disks c.disks bc sound) k }

-- A block was written to a hole, which is its home from then on.
pub record IsFilled (a b : SetState) (t u : Tables) (k : Key) (block : List ℕ) : Type 0 where
  pub space : IsSpace (store_of b u)
  pub units : SameUnits t u
  pub free : free_groups t ≤ free_groups u
  pub here : b.health ≢ Broken → stands (store_of b u) k ≡ block
  pub others : OthersStand (store_of a t) (store_of b u) k

pub filled : (a b : SetState) (t u : Tables) (k : Key) (s : Slot) (block : List ℕ) → IsSpace (store_of a t)
    → IsSpace (store_of b t) → HasBlock t k → IsVacant t s
    → length block ≡ block_len_of a.geometry → IsAccessed a b → OtherSlotsHold (store_of a t) (store_of b t) s
    → SlotHolds (store_of b t) s block
    → u ≡ assigned t k s → IsFilled a b t u k block
filled a b t u k s block space_a space_b has vacant len access slots here is =
    let held : HoldsBlock (store_of b t) s =
    record { block = block; len = len ∙ ap block_len_of (sym access.follows.geometry); holds = here } in
    let after = space_moved b t k s space_b has vacant held in
    subst (λ (x : Tables). IsFilled a b t x k block) (sym is) (record {
      space = after;
      units = units_assigned t k s has;
      free = assigned_free_groups t k s;
      here = λ sound. block_moved b t k s space_b has vacant block after sound here;
      others = record {
        blocks = λ sound j ne.
            others_moved b t k s space_b has vacant j ne
            ∙ (hole_stand a b t s space_a space_b access.follows slots vacant.empty).blocks sound j;
      };
    })

-- and the other slots of the hole's group hold what they held
pub beside_filled : (a b : SetState) (t u : Tables) (k : Key) (s : Slot) → IsSpace (store_of a t) → HasBlock t k
    → IsVacant t s
    → OtherSlotsHold (store_of a t) (store_of b t) s → u ≡ assigned t k s → BesideHold (store_of a t) (store_of b u) s
beside_filled a b t u k s space has vacant slots is =
    subst (λ (x : Tables). BesideHold (store_of a t) (store_of b x) s) (sym is) (record {
      slots = λ slot block there same ne holds.
          holds_same b t (assigned t k s) slot block (subst (λ n. class_of (assigned t k s) n ≡ class_of t n) (sym same)
          (assigned_class_here t k s space.tables has vacant.there vacant.empty)) (assigned_members t k s slot.group)
          (slots.slots slot block there ne holds);
    })

-- Where the tables are the same they do as well.
pub beside_same : (a b : StoreState) (s : Slot) → OtherSlotsHold a b s → BesideHold a b s
beside_same a b s slots = record { slots = λ slot block there same ne holds. slots.slots slot block there ne holds }

-- So it is after a read before the write,
pub beside_then : (a b : SetState) (t u : Tables) (c : StoreState) (s : Slot) → u ≡ t → Follows a b → Keeps Anywhere a b
    → BesideHold (store_of b u) c s → BesideHold (store_of a t) c s
beside_then a b t u c s is ab keeps beside = record {
  slots = λ slot block there same ne holds.
      beside.slots slot block (subst (λ (x : Tables). HasSlot x slot) (sym is) there) same ne
      (subst (λ (x : Tables). SlotHolds (store_of b x) slot block) (sym is)
      ((slots_read a b t ab keeps).slots slot block there holds));
}

-- and after a read alone.
pub beside_read : (a b : SetState) (t u : Tables) (s : Slot) → u ≡ t → Follows a b → Keeps Anywhere a b
    → BesideHold (store_of a t) (store_of b u) s
beside_read a b t u s is ab keeps =
    beside_then a b t u (store_of b u) s is ab keeps (record { slots = λ slot block there same ne holds. holds })

-- A block was written to its home.
pub record IsRewritten (a b : SetState) (t : Tables) (k : Key) (block : List ℕ) : Type 0 where
  pub here : b.health ≢ Broken → stands (store_of b t) k ≡ block
  pub others : OthersStand (store_of a t) (store_of b t) k

pub rewritten : (a b : SetState) (t : Tables) (k : Key) (s : Slot) (block : List ℕ) → IsSpace (store_of a t)
    → IsSpace (store_of b t) → home t k ≡ Some s
    → Follows a b → OtherSlotsHold (store_of a t) (store_of b t) s → SlotHolds (store_of b t) s block
    → IsRewritten a b t k block
rewritten a b t k s block space_a space_b is ab slots here = record {
  here = λ sound. stands_held (store_of b t) k s block space_b sound is here;
  others = others_stand a b t k s space_a space_b ab slots (home_apart t a k s space_a is);
}

-- A block was written, and then the tables changed.
pub record IsWrittenAs (a : StoreState) (b : SetState) (t v : Tables) (k : Key) (block : List ℕ) : Type 0 where
  pub space : IsSpace (store_of b v)
  pub units : SameUnits t v
  pub here : stands (store_of b v) k ≡ block
  pub others : OthersStand a (store_of b v) k

pub stamped_then : (a : StoreState) (b : SetState) (t u v : Tables) (k : Key) (block : List ℕ) → IsSpace (store_of b u)
    → HasBlock t k → SameUnits t u
    → stands (store_of b u) k ≡ block → OthersStand a (store_of b u) k → v ≡ stamped u k → IsWrittenAs a b t v k block
stamped_then a b t u v k block space has units here others is =
    let has_u = block_then t u k units has in
    subst (λ (x : Tables). IsWrittenAs a b t x k block) (sym is) (record {
      space = space_stamped b u k space has_u;
      units = units_then t u (stamped u k) units (units_stamped b u k space has_u);
      here = all_stamped b u k space has_u k ∙ here;
      others = others_stamped a b u k space has_u others;
    })

-- on broken disks nothing is said of the others
pub none_stands : (a b : StoreState) (k : Key) → b.disks.health ≡ Broken → OthersStand a b k
none_stands a b k broken = record { blocks = λ sound. absurd (sound broken) }

-- first every block stood as it did, then every one but one
pub put_others : (a b d : StoreState) (k : Key) → Follows b.disks d.disks → AllStand a b → OthersStand b d k
    → OthersStand a d k
put_others a b d k bd first second =
    record { blocks = λ sound j ne. second.blocks sound j ne ∙ first.blocks (was_sound b.disks d.disks bd sound) j }

-- every block stands as it did, if the others and this one do
pub one_stands : (a d : StoreState) (k : Key) → OthersStand a d k
    → (d.disks.health ≢ Broken → stands d k ≡ stands a k) → AllStand a d
one_stands a d k others here = record {
  blocks = λ sound j.
      elim (key_tells j k) [
        | inl same ↦
            (let P : Key → Type 0 = λ x. stands d x ≡ stands a x in subst P (sym same) (here sound))
        | inr ne ↦ others.blocks sound j ne
      ];
}

-- The block that was read from a block's home was written to the hole: every block stands as it did.
pub moved_stand : (a b c : StoreState) (k : Key) (from : Slot) (bytes : List ℕ) → IsSpace a → home a.book k ≡ Some from
    → Follows a.disks b.disks → Follows b.disks c.disks → AllStand a b
    → length bytes ≡ block_len_of a.disks.geometry
    → ((block : List ℕ) → SlotHolds a from block → bytes ≡ part_at block 0 (length bytes))
    → (c.disks.health ≢ Broken → stands c k ≡ bytes) → OthersStand b c k → AllStand a c
moved_stand a b c k from bytes space is ab bc first len read here others =
    one_stands a c k (put_others a b c k bc first others)
    (λ sound.
    let held = space.named from k (home_key a.book space.tables k from is) in
    let sound_a = was_sound a.disks b.disks ab (was_sound b.disks c.disks bc sound) in
    here sound ∙ all_given held.block bytes (len ∙ sym held.len) (read held.block held.holds)
    ∙ sym (stands_held a k from held.block space sound_a is held.holds))

-- as many groups are free in the same tables
pub same_free : (t u : Tables) → u ≡ t → free_groups t ≤ free_groups u
same_free t u is = subst (λ (x : Tables). free_groups t ≤ free_groups x) (sym is) (omega arith)

-- a call that is done isn't one that found the disks broken
pub done_not_broken : Done ≢ NotDone
done_not_broken e = cc

-- A block was written, and the tables changed as they should,
pub puts_done : {X : Type 0} (old new : Space X) (k : Key) (after : Tables) (block : List ℕ)
    → Done ≡ outcome_of new.disks.health → new.book ≡ after → free_groups old.book ≤ free_groups new.book
    → IsWrittenAs (store_in old) new.disks old.book new.book k block → new.scratch.geometry ≡ new.disks.geometry
    → IsAccessed old.disks new.disks → PutsAt old new k after block Done
puts_done old new k after block answer tables free written scratch accessed = record {
  outcome = answer;
  tables = λ _. tables;
  unwritten = λ broke. absurd (done_not_broken broke);
  free = free;
  here = λ _. written.here;
  others = written.others;
  stays = record {
    ready = record { space = written.space; scratch = scratch };
    units = written.units;
    accessed = accessed;
  };
}

-- or the array failed in the write;
pub puts_none : {X : Type 0} (old new : Space X) (k : Key) (slot : Slot) (after : Tables) (block : List ℕ)
    (o : Completion) → o ≡ NotDone → WritesAt old new slot o → PutsAt old new k after block NotDone
puts_none old new k slot after block o is wrote = record {
  outcome = sym is ∙ wrote.outcome;
  tables = λ done. absurd (done_not_broken (sym done));
  unwritten = λ _. wrote.book;
  free = same_free old.book new.book wrote.book;
  here = λ done. absurd (done_not_broken (sym done));
  others = none_stands (store_in old) (store_in new) k (broken_is new.disks.health (sym is ∙ wrote.outcome));
  stays = wrote.stays;
}

-- and a part that is all of the block is the block.
pub puts_whole : {X : Type 0} (old new : Space X) (k : Key) (after : Tables) (bytes : List ℕ) (o : Completion)
    → IsSpace (store_in old) → length bytes ≡ block_len_of old.disks.geometry
    → PutsAt old new k after (with_sectors (stands (store_in old) k) 0 bytes) o → PutsAt old new k after bytes o
puts_whole old new k after bytes o space len puts = record {
  outcome = puts.outcome;
  tables = puts.tables;
  unwritten = puts.unwritten;
  free = puts.free;
  here = λ done.
      let sound = was_sound old.disks new.disks puts.stays.accessed.follows
      (done_sound new.disks.health (sym done ∙ puts.outcome)) in
      puts.here done
      ∙ with_sectors-whole (stands (store_in old) k) bytes (len ∙ sym (stands_whole (store_in old) k space sound));
  others = puts.others;
  stays = puts.stays;
}
