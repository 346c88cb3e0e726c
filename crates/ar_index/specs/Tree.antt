-- The search tree over the groups: the numbers of groups that a search may choose, as bits, and the oldest block of
-- each group in the leaves of a complete binary tree in a list, as in a heap.
use Rattle.std.specs.Prelude.{◌≡◌, ◌≢◌, ℕ, zero, suc, ◌+◌, ◌-◌, ◌*◌, ◌/◌, ◌^◌, ◌<◌, ◌≤◌, List, [], ◌∷◌, length}
use Rattle.std.specs.Prelude.{slice_index_or, count_by, is_some, if◌then◌else◌, Bool, true, false, Option, None, Some}
use Rattle.ar_disks.specs.declared.address.Addr.{Addr}
use Rattle.ar_index.specs.declared.choices.Age.{Age}
use Rattle.ar_index.specs.declared.choices.Choices.{Choices}
use Rattle.ar_index.specs.Bits.{has}
use Rattle.ar_index.specs.Choices.{older}

-- node i: the root is 1, and the children of i are 2i and 2i + 1
abbrev pub node_at : List (Option Age) → ℕ → Option Age
node_at nodes i = slice_index_or nodes i None

-- the older of a node's children, for units at these places in order of creation
abbrev pub joined_at : (Addr → ℕ) → List (Option Age) → ℕ → Option Age
joined_at place nodes i = older place (node_at nodes (2 * i)) (node_at nodes (2 * i + 1))

-- each inner node but perhaps one is the older of its children
abbrev pub AreJoinedBut : (Addr → ℕ) → ℕ → List (Option Age) → ℕ → Type 0
AreJoinedBut place size nodes but =
    (i : ℕ) → 0 < i → i < size → i ≢ but → node_at nodes i ≡ joined_at place nodes i

-- each inner node is the older of its children, but perhaps the parent of a node that has changed
abbrev pub AreJoinedAfter : (Addr → ℕ) → ℕ → List (Option Age) → Bool → ℕ → Type 0
AreJoinedAfter place size nodes false i = AreJoinedBut place size nodes 0
AreJoinedAfter place size nodes true i = AreJoinedBut place size nodes (i / 2)

-- the two blocks differ exactly if this is true
abbrev pub IsChangedTo : Option Age → Option Age → Bool → Type 0
IsChangedTo old new false = new ≡ old
IsChangedTo old new true = new ≢ old

-- the ancestor of a node, a number of levels above it; at 0 the node itself
abbrev pub above : ℕ → ℕ → ℕ
above zero i = i
above (suc h) i = above h i / 2

-- each ancestor of the node, from one level up to below another, has changed
abbrev pub HaveChanged : List (Option Age) → List (Option Age) → ℕ → ℕ → ℕ → Type 0
HaveChanged old new i from to = (h : ℕ) → from ≤ h → h < to → node_at new (above h i) ≢ node_at old (above h i)

-- each ancestor of the node above a number of levels is as it was
abbrev pub HaveStayed : List (Option Age) → List (Option Age) → ℕ → ℕ → Type 0
HaveStayed old new i levels = (h : ℕ) → levels < h → node_at new (above h i) ≡ node_at old (above h i)

-- `size` leaves after as many nodes: node 0, which is unused, and the inner nodes, each the older of its children
pub record IsTree (place : Addr → ℕ) (size : ℕ) (nodes : List (Option Age)) : Type 0 where
  pub twice : length nodes ≡ 2 * size
  pub joined : AreJoinedBut place size nodes 0

-- the number of leaves under a node of a height
abbrev pub leaves_under : ℕ → ℕ
leaves_under zero = 1
leaves_under (suc h) = 2 * leaves_under h

-- the nodes of a tree of `size` leaves, a power of two or none, the first `count` of them in use
pub record IsGrown (size count : ℕ) (nodes : List (Option Age)) : Type 0 where
  pub twice : length nodes ≡ 2 * size
  pub height : 0 < size → (h : ℕ) × (leaves_under h ≡ size)
  pub within : count ≤ size
  -- the leaves past those in use are blank
  pub empty : (i : ℕ) → size + count ≤ i → node_at nodes i ≡ None

-- a set has room for `size` numbers, in no more words than they need, and is of the first `count` of them
pub record IsOfGroups (size count : ℕ) (words : List ℕ) : Type 0 where
  pub room : size ≤ 64 * length words
  pub close : 64 * length words ≤ size + 63
  pub past : (i : ℕ) → count ≤ i → has words i ≡ false

-- a tree as contracts see it: its nodes, the number of leaves that they have room for, how many of those are in use,
-- and the numbers of the mirrored groups with a hole, of the parity groups with one, and of the free groups
pub record TreeState : Type 0 where
  pub size : ℕ
  pub count : ℕ
  pub nodes : List (Option Age)
  pub mirrored : List ℕ
  pub parity : List ℕ
  pub free : List ℕ

-- a number, if it is in the set
abbrev pub if_in : List ℕ → ℕ → Option ℕ
if_in words i = if has words i then Some i else None

-- the choices of a group
abbrev pub leaf_of : TreeState → ℕ → Choices
leaf_of t i = record {
  mirrored = if_in t.mirrored i;
  parity = if_in t.parity i;
  free = if_in t.free i;
  oldest = node_at t.nodes (t.size + i);
}

-- the choices of this many groups from one on
abbrev pub leaves_up : TreeState → ℕ → ℕ → List Choices
leaves_up t i zero = []
leaves_up t i (suc n) = leaf_of t i ∷ leaves_up t (suc i) n

-- the leaves of a tree: the choices of groups 0, 1, ..
abbrev pub leaves : TreeState → List Choices
leaves t = leaves_up t 0 t.count

-- the number of free groups
abbrev pub free_in : List Choices → ℕ
free_in leaves = count_by (λ c. is_some c.free) leaves

-- the tree's invariant: no leaf, or fewer than twice as many as groups, and the free groups are counted
pub record IsValidTree (t : TreeState) (free : ℕ) : Type 0 where
  pub grown : IsGrown t.size t.count t.nodes
  pub close : t.size ≤ 2 * t.count - 1
  pub few : t.count < 2 ^ 32
  pub mirrored : IsOfGroups t.size t.count t.mirrored
  pub parity : IsOfGroups t.size t.count t.parity
  pub frees : IsOfGroups t.size t.count t.free
  pub counted : free ≡ free_in (leaves t)

-- the tree is right for this order of units: each inner node is the older of its children, and the leaves past those in
-- use are blank
pub record IsRight (place : Addr → ℕ) (t : TreeState) : Type 0 where
  pub joined : AreJoinedBut place t.size t.nodes 0
  pub behind : (i : ℕ) → t.size + t.count ≤ i → node_at t.nodes i ≡ None

-- the steps of setting a leaf, one for each node that is joined: each below the last has changed, none above it has
pub record CountsJoins (old new : TreeState) (leaf before after : ℕ) : Type 0 where
  pub on : before ≤ after
  pub changed : HaveChanged old.nodes new.nodes (old.size + leaf) 0 (after - before)
  pub stayed : HaveStayed old.nodes new.nodes (old.size + leaf) (after - before)
  pub height : 2 ^ (after - before) ≤ old.size + leaf
  pub few : length (leaves old) ≤ 4096 → after ≤ before + 12
