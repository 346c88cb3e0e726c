-- What calls leave of a backing, one after another.
use Rattle.std.proofs.Common.{Bool, refl, ◌∙◌}
use Rattle.ar_disks.specs.declared.address.Key.{Key}
use Rattle.ar_disks.specs.declared.geometry.Geometry.{Geometry}
use Rattle.ar_cache.specs.Backing.{KeepsBacking}

-- no call leaves all
pub keeps_refl : {S : Type 0} (geometry : S → Geometry) (knows : S → Key → Bool) (is_broken : S → Bool) (follows : S → S
    → Type 0)
    → ((s : S) → follows s s) → (s : S) → KeepsBacking geometry knows is_broken follows s s
keeps_refl geometry knows is_broken follows none s = record {
  same_geometry = refl;
  same_keys = λ key. refl;
  stays_broken = λ lost. lost;
  joined = none s;
}

-- what both of two calls leave
pub keeps_then : {S : Type 0} (geometry : S → Geometry) (knows : S → Key → Bool) (is_broken : S → Bool) (follows : S → S
    → Type 0)
    → ((a b c : S) → follows a b → follows b c → follows a c)
    → (a b c : S) → KeepsBacking geometry knows is_broken follows a b
    → KeepsBacking geometry knows is_broken follows b c → KeepsBacking geometry knows is_broken follows a c
keeps_then geometry knows is_broken follows both a b c p q = record {
  same_geometry = q.same_geometry ∙ p.same_geometry;
  same_keys = λ key. q.same_keys key ∙ p.same_keys key;
  stays_broken = λ lost. q.stays_broken (p.stays_broken lost);
  joined = both a b c p.joined q.joined;
}
