use Rattle.std.proofs.Common.{◌+◌, ◌∙◌, sym, arith}
use Rattle.std.proofs.lemmas.List.{drop-set-add}
use Rattle.ar_index.specs.Choices.{place_in}
use Rattle.ar_index.specs.Tree.{node_at}
use Rattle.ar_index.proofs.Climb.{put_joined, none_reported, put_changed, put_stayed}
use Rattle.ar_index.proofs.nodes.put.Goals as goal

pub climb-requires-clause-joined : goal.climb-requires-clause-joined
climb-requires-clause-joined g c =
    rw c.set_at-changes.ensures.set
    (put_joined (place_in c.args.units.now.entries) c.args.size c.args.nodes.now.items (c.args.size + c.args.leaf)
    c.args.block c.set_at-changes.result (omega arith) (omega arith) (omega arith) c.requires.tree.twice
    c.requires.tree.joined c.set_at-changes.ensures.changed)

pub returns-clause-leaves : goal.returns-clause-leaves
returns-clause-leaves g c =
    rw c.set_at-changes.ensures.set at c.climb.ensures.leaves
    ∙ drop-set-add c.args.size c.args.nodes.now.items c.args.leaf c.args.block

pub returns-clause-still : goal.returns-clause-still
returns-clause-still g c = λ same.
    c.climb.ensures.still (none_reported (node_at c.args.nodes.now.items (c.args.size + c.args.leaf)) c.args.block
    c.set_at-changes.result c.set_at-changes.ensures.changed (sym same))

pub returns-clause-changed : goal.returns-clause-changed
returns-clause-changed g c =
    put_changed c.args.size c.args.leaf _ c.args.nodes.now.items c.climb.new.nodes.items c.args.block
    c.requires.there c.requires.tree.twice (returns-clause-leaves g c)
    (λ same. let none = returns-clause-still g c same in omega arith)
    (rw c.set_at-changes.ensures.set at c.climb.ensures.changed)

pub returns-clause-counted : goal.returns-clause-counted
returns-clause-counted g c =
    put_stayed c.args.nodes.now.items c.climb.new.nodes.items (c.args.size + c.args.leaf) c.args.block _
    (omega arith) (rw c.set_at-changes.ensures.set at c.climb.ensures.counted)
