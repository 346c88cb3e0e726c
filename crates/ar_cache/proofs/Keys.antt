-- Keys are told apart by their numbers.
use Rattle.std.proofs.Common.{◌≡◌, ◌≢◌, ◌==◌, true, false, refl, sym, eqb-true}
use Rattle.std.specs.Cmp.{IsEquivalence, nat_eq_equiv, on_equiv, and_equiv}
use Rattle.std.proofs.lemmas.Bool.{and_parts}
use Rattle.ar_disks.specs.declared.address.Key.{Key}
use Rattle.ar_disks.specs.Addresses.{same_addr}
use Rattle.ar_disks.proofs.Addresses.{addr_same, make_key, addr_laws}
use Rattle.ar_cache.specs.Cache.{same_key}

-- keys whose numbers are equal are one
pub same_key_true : (a b : Key) → same_key a b ≡ true → a ≡ b
same_key_true a b h =
    let parts = and_parts (same_addr a.addr b.addr) (a.rb == b.rb) h in
    let addr : a.addr ≡ b.addr = addr_same a.addr b.addr parts.0 in
    let rb : a.rb ≡ b.rb = eqb-true a.rb b.rb parts.1 in
    make_key a b addr rb

pub key_equiv : IsEquivalence same_key
key_equiv = and_equiv (on_equiv (λ (a : Key). a.addr) addr_laws) (on_equiv (λ (a : Key). a.rb) nat_eq_equiv)

-- different keys differ in a number
pub same_key_false : (a b : Key) → b ≢ a → same_key a b ≡ false
same_key_false a b differ =
    (elim (same_key a b) as (λ y. same_key a b ≡ y → y ≡ false) [
      | true ↦ λ t. absurd (differ (sym (same_key_true a b t)))
      | false ↦ λ t. refl
    ]) refl

pub same_key_refl : (a : Key) → same_key a a ≡ true
same_key_refl a = key_equiv.refl a
