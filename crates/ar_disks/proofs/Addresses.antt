-- Addresses and keys are equal where their numbers are.
use std.HLevel.{prop→path_p}
use Rattle.std.proofs.Common.{◌≡◌, ◌≢◌, ◌⊎◌, Bool, true, false, eqb, ◌<◌, refl, sym, ap, subst, inl, inr, true≢false}
use Rattle.std.proofs.Common.{◌∙◌, eq-eqb}
use Rattle.std.proofs.lemmas.Bool.{eqb-true, and_parts, and_from}
use Rattle.std.proofs.lemmas.Bool.Decides.{eqb_tells}
use Rattle.std.proofs.Math.Bridge.{le_prop}
use Rattle.std.specs.Cmp.{IsEquivalence}
use Rattle.ar_disks.specs.declared.address.Host.{Host}
use Rattle.ar_disks.specs.declared.address.Addr.{Addr}
use Rattle.ar_disks.specs.declared.address.Key.{Key}
use Rattle.ar_disks.specs.Addresses.{same_addr}

pub same_host : (h k : Host) → h.number ≡ k.number → h ≡ k
same_host h k e = λ j. record { number = e j; in_range = prop→path_p (λ i. e i < 4) le_prop h.in_range k.in_range j }

pub make_addr : (a b : Addr) → a.host ≡ b.host → a.lun ≡ b.lun → a ≡ b
make_addr a b p q = λ j. record { host = p j; lun = q j }

pub make_key : (k j : Key) → k.addr ≡ j.addr → k.rb ≡ j.rb → k ≡ j
make_key k j p q = λ i. record { addr = p i; rb = q i }

-- the test tells equal addresses
pub addr_same : (a b : Addr) → same_addr a b ≡ true → a ≡ b
addr_same a b h =
    let p = and_parts (eqb a.host.number b.host.number) (eqb a.lun b.lun) h in
    make_addr a b (same_host a.host b.host (eqb-true _ _ p.0)) (eqb-true _ _ p.1)

pub same_addr_self : (a : Addr) → same_addr a a ≡ true
same_addr_self a = and_from _ _ (eq-eqb a.host.number a.host.number refl) (eq-eqb a.lun a.lun refl)

pub same_addr_of : (a b : Addr) → a ≡ b → same_addr a b ≡ true
same_addr_of a b e = subst (λ x. same_addr a x ≡ true) e (same_addr_self a)

bool_cases : (b : Bool) → (b ≡ true) ⊎ (b ≡ false)
bool_cases true = inl refl
bool_cases false = inr refl

pub addr_tells : (a b : Addr) → ((same_addr a b ≡ true) × (a ≡ b)) ⊎ ((same_addr a b ≡ false) × (a ≢ b))
addr_tells a b =
    elim (bool_cases (same_addr a b)) [
      | inl y ↦ inl (y, addr_same a b y)
      | inr n ↦ inr (n, λ e. true≢false (sym (same_addr_of a b e) ∙ n))
    ]

pub addr_apart : (a b : Addr) → a ≢ b → same_addr a b ≡ false
addr_apart a b ne = elim (addr_tells a b) [ inl y ↦ absurd (ne y.1) | inr n ↦ n.0 ]

pub same_addr_flips : (a b : Addr) → same_addr a b ≡ same_addr b a
same_addr_flips a b =
    elim (addr_tells a b) [
      | inl y ↦ y.0 ∙ sym (same_addr_of b a (sym y.1))
      | inr n ↦ n.0 ∙ sym (addr_apart b a (λ e. n.1 (sym e)))
    ]

pub addr_laws : IsEquivalence same_addr
addr_laws = record {
  refl = same_addr_self;
  symm = same_addr_flips;
  congr = λ a b c h. ap (λ x. same_addr x c) (addr_same a b h);
}

pub key_tells : (k j : Key) → (k ≡ j) ⊎ (k ≢ j)
key_tells k j =
    elim (addr_tells k.addr j.addr) [
      | inl y ↦
          elim (eqb_tells k.rb j.rb) [ inl e ↦ inl (make_key k j y.1 e.1) | inr n ↦ inr (λ e. n.1 (ap (λ x. x.rb) e)) ]
      | inr n ↦ inr (λ e. n.1 (ap (λ x. x.addr) e))
    ]
