-- What calls of a space leave, one after another.
use Rattle.ar_store.specs.declared.space.Space.{Space}
use Rattle.ar_store.specs.Spaces.{IsReady, Stays}
use Rattle.ar_store.proofs.Changes.{units_refl, units_then}
use Rattle.ar_store.proofs.Fills.{accessed_refl, accessed_then}

-- no call
pub stays_refl : {X : Type 0} (s : Space X) → IsReady s → Stays s s
stays_refl s ready = record { ready = ready; units = units_refl s.book; accessed = accessed_refl s.disks }

-- two calls
pub stays_then : {X : Type 0} (a b c : Space X) → Stays a b → Stays b c → Stays a c
stays_then a b c ab bc = record {
  ready = bc.ready;
  units = units_then a.book b.book c.book ab.units bc.units;
  accessed = accessed_then a.disks b.disks c.disks ab.accessed bc.accessed;
}
