use Rattle.std.proofs.Common.{◌≡◌, length, sym, subst, ◌∙◌}
use Rattle.ar_disks.specs.Geometry.{block_len_of}
use Rattle.ar_store.specs.Store.{StoreState}
use Rattle.ar_store.specs.Slots.{SurvivesLossOf, stands}
use Rattle.ar_store.specs.Spaces.{store_in}
use Rattle.ar_store.proofs.Standing.{survives, stands_whole}
use Rattle.ar_store.proofs.store.Store.health.Goals as goal

pub returns-clause-redundant : goal.returns-clause-redundant
returns-clause-redundant g c = λ whole d.
    subst (λ (s : StoreState). SurvivesLossOf s d) c.self.view_is
    (survives (store_in c.self.inside.space) d c.self.invariant.kept.space (sym c.health.ensures.same ∙ whole))

pub returns-clause-whole : goal.returns-clause-whole
returns-clause-whole g c = λ sound k.
    subst (λ (s : StoreState). length (stands s k) ≡ block_len_of s.disks.geometry) c.self.view_is
    (stands_whole (store_in c.self.inside.space) k c.self.invariant.kept.space
    (λ broken. sound (c.health.ensures.same ∙ broken)))
