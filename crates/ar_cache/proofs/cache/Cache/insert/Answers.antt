use Rattle.std.proofs.Common.{◌≡◌, ◌∷◌, ◌<◌, ◌-◌, length, None, sym, ap, ◌∙◌, subst, arith}
use Rattle.ar_disks.specs.Geometry.{block_len_of}
use Rattle.ar_cache.specs.Cache.{cached, with_room}
use Rattle.ar_cache.proofs.Closing.{state_of, put_is, kept_put, seen_as}
use Rattle.ar_cache.proofs.Sound.{whole_at}
use Rattle.ar_cache.proofs.Uses.{displaced_absent}
use Rattle.ar_cache.proofs.cache.Cache.insert.Goals as goal

pub invariant_of-self : goal.invariant_of-self
invariant_of-self c =
    let i = c.self.inside in
    let same = c.self.view_is ∙ c.blank.ensures.same in
    let capacity = ap (λ s. s.capacity) same in
    let some : 0 < i.capacity = omega (arith, capacity, c.requires.some) in
    let absent = subst (λ s. cached s c.args.key ≡ None) (sym same) c.requires.absent in
    let whole = ap length c.copy_from_slice.ensures ∙ c.requires.whole ∙ sym (ap (λ s. block_len_of s.geometry) same) in
    let put = put_is i.geometry i.capacity i.entries c.push.new.self c.args.key c.copy_from_slice.new.self
    c.self.invariant.1 some absent c.in-Ok-Some.ensures.entries in
    let kept = kept_put i.geometry i.capacity i.entries c.push.new.self c.args.key c.copy_from_slice.new.self
    (c.self.invariant.0, c.self.invariant.1) some absent whole put in
    let at = sym (displaced_absent i.entries c.args.key c.copy_from_slice.new.self absent)
    ∙ sym c.in-Ok-Some.ensures.old ∙ c.in-Ok-Some.field-0-is in (
      kept.0,
      kept.1,
      whole_at (state_of i.geometry i.capacity i.entries) (i.entries.cap - 1) c.in-Ok-Some.field-0-0-0
          c.in-Ok-Some.evicted c.self.invariant.0 at,
    )

pub invariant_of-self-in-Ok-None : goal.invariant_of-self-in-Ok-None
invariant_of-self-in-Ok-None c =
    let i = c.self.inside in
    let same = c.self.view_is ∙ c.blank.ensures.same in
    let capacity = ap (λ s. s.capacity) same in
    let some : 0 < i.capacity = omega (arith, capacity, c.requires.some) in
    let absent = subst (λ s. cached s c.args.key ≡ None) (sym same) c.requires.absent in
    let whole = ap length c.copy_from_slice.ensures ∙ c.requires.whole ∙ sym (ap (λ s. block_len_of s.geometry) same) in
    let put = put_is i.geometry i.capacity i.entries c.push.new.self c.args.key c.copy_from_slice.new.self
    c.self.invariant.1 some absent c.in-Ok-None.ensures.entries in
    let kept = kept_put i.geometry i.capacity i.entries c.push.new.self c.args.key c.copy_from_slice.new.self
    (c.self.invariant.0, c.self.invariant.1) some absent whole put in
    (kept.0, kept.1, c.self.invariant.2)

pub returns-in-Ok-Some-clause-put : goal.returns-in-Ok-Some-clause-put
returns-in-Ok-Some-clause-put c =
    let i = c.self.inside in
    let same = c.self.view_is ∙ c.blank.ensures.same in
    let capacity = ap (λ s. s.capacity) same in
    let some : 0 < i.capacity = omega (arith, capacity, c.requires.some) in
    let absent = subst (λ s. cached s c.args.key ≡ None) (sym same) c.requires.absent in
    let put = put_is i.geometry i.capacity i.entries c.push.new.self c.args.key c.copy_from_slice.new.self
    c.self.invariant.1 some absent c.in-Ok-Some.ensures.entries in
    seen_as i.geometry i.capacity i.entries c.push.new.self c.args.self.now
    (λ t. (c.args.key, c.args.block.now) ∷ with_room t) same
    (ap (λ m. m.entries) put
    ∙ ap (λ b. (c.args.key, b) ∷ with_room (state_of i.geometry i.capacity i.entries)) c.copy_from_slice.ensures)

pub returns-in-Ok-None-clause-put : goal.returns-in-Ok-None-clause-put
returns-in-Ok-None-clause-put c =
    let i = c.self.inside in
    let same = c.self.view_is ∙ c.blank.ensures.same in
    let capacity = ap (λ s. s.capacity) same in
    let some : 0 < i.capacity = omega (arith, capacity, c.requires.some) in
    let absent = subst (λ s. cached s c.args.key ≡ None) (sym same) c.requires.absent in
    let put = put_is i.geometry i.capacity i.entries c.push.new.self c.args.key c.copy_from_slice.new.self
    c.self.invariant.1 some absent c.in-Ok-None.ensures.entries in
    seen_as i.geometry i.capacity i.entries c.push.new.self c.args.self.now
    (λ t. (c.args.key, c.args.block.now) ∷ with_room t) same
    (ap (λ m. m.entries) put
    ∙ ap (λ b. (c.args.key, b) ∷ with_room (state_of i.geometry i.capacity i.entries)) c.copy_from_slice.ensures)
