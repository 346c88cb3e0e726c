-- What a search finds in some groups, and how the choices of two adjacent ranges are joined.
use Rattle.std.specs.Prelude.{◌≡◌, ℕ, Bool, not, is_some, ◌&&◌, ◌||◌, ◌==◌, nat_lt, nat_le}
use Rattle.std.specs.Prelude.{if◌then◌else◌, List, [], ◌∷◌, Option, None, Some}
use Rattle.std.specs.List.{position_or_len}
use Rattle.std.specs.Map.{keys_of}
use Rattle.std.specs.Option.{option_or, ForSome}
use Rattle.ar_disks.specs.Addresses.{same_addr}
use Rattle.ar_disks.specs.declared.address.Addr.{Addr}
use Rattle.ar_disks.specs.declared.address.Key.{Key}
use Rattle.ar_index.specs.declared.choices.Age.{Age}
use Rattle.ar_index.specs.declared.choices.Choices.{Choices}

-- a unit's place among these, in order of creation; past the last if it isn't one of them
abbrev pub place_in : {V : Type 0} → List (Addr × V) → Addr → ℕ
place_in units a = position_or_len (same_addr a) (keys_of units)

-- whether the first block's unit was created earlier, or it is the lower block of one unit, or both are the same
abbrev pub comes_no_later : (Addr → ℕ) → Key → Key → Bool
comes_no_later place k j = nat_lt (place k.addr) (place j.addr) || ((place k.addr == place j.addr) && nat_le k.rb j.rb)

-- whether the first block has the lower stamp, or on ties comes no later
abbrev pub is_no_newer : (Addr → ℕ) → Age → Age → Bool
is_no_newer place a b = nat_lt a.stamp b.stamp || ((a.stamp == b.stamp) && comes_no_later place a.key b.key)

-- the older of two blocks, or the one that there is
abbrev pub older : (Addr → ℕ) → Option Age → Option Age → Option Age
older place None o = o
older place (Some a) None = Some a
older place (Some a) (Some b) = Some (if is_no_newer place a b then a else b)

-- the oldest of a list
abbrev pub oldest : (Addr → ℕ) → List (Option Age) → Option Age
oldest place [] = None
oldest place (o ∷ os) = older place o (oldest place os)

-- the choices among no groups
abbrev pub nothing : Choices
nothing = record { mirrored = None; parity = None; free = None; oldest = None }

-- these choices but for the oldest block
abbrev pub with_oldest : Choices → Option Age → Choices
with_oldest c oldest = record c { oldest = oldest }

-- these are choices of one group: they name no other
pub record AreOfGroup (number : ℕ) (c : Choices) : Type 0 where
  pub mirrored : ForSome c.mirrored (λ n. n ≡ number)
  pub parity : ForSome c.parity (λ n. n ≡ number)
  pub free : ForSome c.free (λ n. n ≡ number)

-- whether there is no choice: a blank leaf
abbrev pub is_nothing : Choices → Bool
is_nothing c = not (is_some c.mirrored) && not (is_some c.parity) && not (is_some c.free) && not (is_some c.oldest)

-- the choices of two adjacent ranges: of each kind the left one's group, if it has one, and the older of the oldest
-- blocks
abbrev pub join : (Addr → ℕ) → Choices → Choices → Choices
join place l r = record {
  mirrored = option_or l.mirrored r.mirrored;
  parity = option_or l.parity r.parity;
  free = option_or l.free r.free;
  oldest = older place l.oldest r.oldest;
}

-- a plain scan from the first to the last
abbrev pub search_all : (Addr → ℕ) → List Choices → Choices
search_all place [] = nothing
search_all place (c ∷ cs) = join place c (search_all place cs)
