use Rattle.ar_disks.specs.Geometry.{rows_of}
use Rattle.std.proofs.Common.{◌≡◌, ◌*◌, ◌∙◌, ◌++◌, ◌∷◌, [], length, ap}
use Rattle.ar_book.specs.Index.{free_leaf, leaves_of}
use Rattle.ar_book.proofs.IndexAfter.{formed_leaves}
use Rattle.ar_book.proofs.RefusalLemmas.{at_ok}
use Rattle.ar_book.proofs.GroupLemmas.{few_groups, slots_few}
use Rattle.ar_book.proofs.Counted.{free_short, free_fill}
use Rattle.std.proofs.Common.{sym, subst, arith}
use Rattle.std.proofs.lemmas.List.{length-append}
use Rattle.ar_book.specs.contracts.book.Book.{the_view}
use Rattle.ar_book.specs.Tables.{Tables}
use Rattle.ar_book.specs.Choices.{AreUnused}
use Rattle.ar_book.specs.Changes.{formed, free_group}
use Rattle.ar_book.proofs.GroupChanges.{unused_disjoint, formed_kept}
use Rattle.ar_index.specs.Tree.{leaves}
use Rattle.ar_book.proofs.IndexLemmas.{index_length, free_own}
use Rattle.ar_book.proofs.book.Book.form_group.Goals as goal

pub invariant_of-self-else-is_err : goal.invariant_of-self-else-is_err
invariant_of-self-else-is_err c =
    let kept = formed_kept (the_view c.self.inside) c.self.inside.reserved c.args.members c.self.invariant.kept
    c.requires.apart
    (unused_disjoint (the_view c.self.inside) c.args.members
    (subst (λ (x : Tables). AreUnused x c.args.members) (sym c.self.view_is) c.requires.unused)) (omega arith)
    (omega arith) in
    let t : Tables = the_view c.self.inside in
    let number : c.groups-number.result ≡ length t.groups =
    c.groups-number.ensures.count ∙ ap (λ (x : Tables). length x.groups) (sym c.self.view_is) in
    let leaf = c.free_leaf.ensures ∙ ap free_leaf number in
    let pushed = at_ok c.push-2.result _ (sym c.is_err.ensures.value ∙ c.if-is_err.false) c.push-2.ensures.pushed in
    let added = pushed ∙ ap (λ l. l ++ c.free_leaf.result ∷ []) c.self.invariant.leaves
    ∙ ap (λ x. leaves_of t.geometry t.units t.groups ++ x ∷ []) leaf ∙ sym (formed_leaves t c.args.members) in
    rw (c.in_ok-push.ensures.pushed, c.in_ok-group.ensures, c.rows.ensures)
    (record { kept = kept; leaves = added; right = rw c.map.ensures at c.push-2.ensures.right })

pub push-requires-2-clause-few : goal.push-requires-2-clause-few
push-requires-2-clause-few c =
    let t : Tables = the_view c.self.inside in
    let kept = formed_kept t c.self.inside.reserved c.args.members c.self.invariant.kept c.requires.apart
    (unused_disjoint t c.args.members
    (subst (λ (x : Tables). AreUnused x c.args.members) (sym c.self.view_is) c.requires.unused)) (omega arith)
    (omega arith) in
    let few = few_groups t.geometry (formed t c.args.members).groups kept.tables.groups in
    let longer = length-append t.groups (free_group c.args.members (3 * rows_of t.geometry) ∷ []) in
    let size = index_length t _ _ c.self.invariant in
    omega arith

pub push-requires-2-clause-own : goal.push-requires-2-clause-own
push-requires-2-clause-own c =
    let t : Tables = the_view c.self.inside in
    let number : c.groups-number.result ≡ length (leaves c.self.inside.index) =
    c.groups-number.ensures.count ∙ ap (λ (x : Tables). length x.groups) (sym c.self.view_is)
    ∙ sym (index_length t _ _ c.self.invariant) in
    rw (c.free_leaf.ensures, number) (free_own (length (leaves c.self.inside.index)))

pub push-requires-2-clause-right : goal.push-requires-2-clause-right
push-requires-2-clause-right c = rw c.map.ensures c.self.invariant.right

pub push-requires-clause-few : goal.push-requires-clause-few
push-requires-clause-few c =
    let few = few_groups c.self.inside.geometry c.self.inside.groups.items c.self.invariant.kept.tables.groups in
    omega arith

pub push-requires-clause-short : goal.push-requires-clause-short
push-requires-clause-short c =
    rw (c.in_ok-group.ensures, c.rows.ensures) (free_short c.args.members (3 * rows_of c.self.inside.geometry)
    (slots_few c.self.inside.geometry))

pub push-requires-clause-free : goal.push-requires-clause-free
push-requires-clause-free c =
    rw (c.in_ok-group.ensures, c.rows.ensures) (free_fill c.args.members (3 * rows_of c.self.inside.geometry))
