-- What slots go on holding, whatever becomes of the set around them.
use Rattle.std.proofs.Common.{◌≡◌, ℕ, ◌<◌, List, sym, ◌∙◌, ap, subst, refl}
use Rattle.ar_disks.specs.declared.geometry.Geometry.{Geometry}
use Rattle.ar_disks.specs.declared.address.Place.{Place}
use Rattle.ar_disks.specs.declared.address.Members.{Members}
use Rattle.ar_disks.specs.Disk.{DiskState}
use Rattle.ar_disks.specs.Geometry.{block_len_of}
use Rattle.ar_disks.specs.Members.{member, AreDisjoint}
use Rattle.ar_extents.specs.declared.health.Health.TheVariants.{Broken as AllBroken}
use Rattle.ar_extents.specs.Set.{SetState, content}
use Rattle.ar_extents.specs.Changes.{with_done}
use Rattle.ar_extents.specs.Follows.{Follows, Keeps, Anywhere}
use Rattle.ar_extents.specs.Access.{next_place}
use Rattle.ar_extents.specs.Groups.{IsGroup, IsMember, IsOutside, without_disk}
use Rattle.ar_extents.proofs.Follows.{keeps_fewer}
use Rattle.ar_extents.proofs.GroupLemmas.{disjoint_keeps, content_without, content_with_done}
use Rattle.ar_parity.specs.Row.{Blocks, block, AddUp, row_of}
use Rattle.ar_parity.specs.Group.{RowAgrees, Holds, KeepsButRow}
use Rattle.ar_parity.proofs.Agrees.{agrees_kept, broken_agrees}

-- where the members' contents stay, a slot holds what it held, whatever disk is lost meanwhile
pub holds_kept : (a b : SetState) (m : Members) (slot : ℕ) (bytes : List ℕ) → Follows a b → Keeps (IsMember m) a b
    → Holds a m slot bytes → Holds b m slot bytes
holds_kept a b m slot bytes ab keeps has = record {
  blocks = has.blocks;
  agrees = agrees_kept a b m (row_of slot) has.blocks ab
      (λ i lt. keeps.rows (member m i) (record { position = i; below = lt; is = refl }) (row_of slot)) has.agrees;
  here = has.here;
}

-- so it does where only a group without a common extent was written
pub disjoint_holds : (a b : SetState) (m n : Members) (slot : ℕ) (bytes : List ℕ) → Follows a b
    → Keeps (IsOutside n) a b → AreDisjoint m n
    → Holds a m slot bytes → Holds b m slot bytes
disjoint_holds a b m n slot bytes ab keeps apart has =
    holds_kept a b m slot bytes ab (disjoint_keeps a b m n apart keeps) has

-- and after reads
pub read_holds : (a b : SetState) (m : Members) (slot : ℕ) (bytes : List ℕ) → Follows a b → Keeps Anywhere a b
    → Holds a m slot bytes → Holds b m slot bytes
read_holds a b m slot bytes ab keeps has =
    holds_kept a b m slot bytes ab (keeps_fewer Anywhere (IsMember m) a b (λ p is. tt) keeps) has

-- a slot's put leaves all that is outside of its group
pub keeps_outside : (a b : SetState) (m : Members) (slot : ℕ) → KeepsButRow m (row_of slot) a b
    → Keeps (IsOutside m) a b
keeps_outside a b m slot keeps = keeps.other_places

-- a row agrees on its blocks also without any one disk
pub agrees_without : (s : SetState) (m : Members) (row : ℕ) (blocks : Blocks) (d : ℕ) (disk : DiskState)
    → RowAgrees s m row blocks
    → RowAgrees (without_disk s d disk) m row blocks
agrees_without s m row blocks d disk agrees = record {
  add_up = agrees.add_up;
  stand = λ i lt. record {
    content_is = content_without s d disk (member m i) row (block blocks i) (agrees.stand i lt).content_is;
  };
}

-- a slot outlives the loss of any one disk
pub holds_without : (s : SetState) (m : Members) (slot : ℕ) (bytes : List ℕ) (d : ℕ) (disk : DiskState)
    → Holds s m slot bytes
    → Holds (without_disk s d disk) m slot bytes
holds_without s m slot bytes d disk has = record {
  blocks = has.blocks;
  agrees = agrees_without s m (row_of slot) has.blocks d disk has.agrees;
  here = has.here;
}

-- on a broken set a slot holds what it held, whatever was written
pub broken_holds : (a b : SetState) (m : Members) (slot : ℕ) (bytes : List ℕ) → b.geometry ≡ a.geometry
    → b.health ≡ AllBroken
    → Holds a m slot bytes → Holds b m slot bytes
broken_holds a b m slot bytes same is has =
    let P : Geometry → Type 0 = λ g. AddUp (block_len_of g) has.blocks in
    record {
      blocks = has.blocks;
      agrees = broken_agrees b m (row_of slot) has.blocks is (subst P (sym same) has.agrees.add_up);
      here = has.here;
    }

-- Once the next extent counts as done, a row agrees on its blocks, if that extent is no member or has its block by now.
pub done_agrees : (s : SetState) (m : Members) (row : ℕ) (blocks : Blocks) → IsGroup s m → RowAgrees s m row blocks
    → ((i : ℕ) → i < 4 → member m i ≡ next_place s → content s (next_place s) row ≡ block blocks i)
    → RowAgrees (with_done s) m row blocks
done_agrees s m row blocks group agrees rebuilt = record {
  add_up = agrees.add_up;
  stand = λ i lt. record {
    content_is =
        content_with_done s (member m i) row (block blocks i) (group.extents i lt) (agrees.stand i lt).content_is
        (λ same. ap (λ (p : Place). content s p row) same ∙ rebuilt i lt same);
  };
}

-- And so a slot holds its block, if that extent is no member or has its block of the row by now.
pub done_holds : (s : SetState) (m : Members) (slot : ℕ) (bytes : List ℕ) → IsGroup s m → (has : Holds s m slot bytes)
    → ((i : ℕ) → i < 4 → member m i ≡ next_place s → content s (next_place s) (row_of slot) ≡ block has.blocks i)
    → Holds (with_done s) m slot bytes
done_holds s m slot bytes group has rebuilt = record {
  blocks = has.blocks;
  agrees = done_agrees s m (row_of slot) has.blocks group has.agrees rebuilt;
  here = has.here;
}
