use Rattle.std.proofs.Common.{◌≡◌, true, Option, sym, subst}
use Rattle.ar_log.specs.Codec.{items_of}
use Rattle.ar_checkpoint.specs.Gradual.{IsReplaced, KeepsLogUnits, LeavesLogs, other_medium}
use Rattle.ar_checkpoint.specs.declared.gradual.GradualCheckpoint.{GradualCheckpoint}
use Rattle.ar_checkpoint.specs.Store.{KeepsStoredUnits, RecordStore}
use Rattle.ar_checkpoint.proofs.Storing.{stored_kept, where_none}
use Rattle.ar_checkpoint.proofs.store.Store.advance.Goals as goal

pub returns-in_err-self-inside-clause-units : goal.returns-in_err-self-inside-clause-units
returns-in_err-self-inside-clause-units g c =
    let seen = g.M.Media.seen in
    let is_clean = g.M.Media.is_clean in
    let old = c.self.inside.journal in
    let new = c.make_piece.new.journal in
    let waiting = items_of c.self.inside.waiting.items in
    let none = c.take-checkpoint.new.self in
    let kept : KeepsLogUnits seen is_clean old c.self.inside.checkpoint none new =
    subst (λ (p : Option (GradualCheckpoint _)). KeepsLogUnits seen is_clean old p none new)
    c.take-checkpoint.ensures.value
    (subst (λ (n : Option (GradualCheckpoint _)). KeepsLogUnits seen is_clean old c.take-checkpoint.result n new)
    (sym c.take-checkpoint.ensures.after) c.in_err-self-inside.ensures.units_err) in
    subst (λ (s : RecordStore g.row.M.Denot). KeepsStoredUnits seen is_clean s
    (record { journal = new; waiting = waiting; other = other_medium new none })) c.self.view_is
    (stored_kept seen is_clean old new waiting c.self.inside.checkpoint none kept)

pub returns-in_err-self-inside-clause-any_moment : goal.returns-in_err-self-inside-clause-any_moment
returns-in_err-self-inside-clause-any_moment g c =
    subst (λ (s : RecordStore g.row.M.Denot). LeavesLogs g.M.Media.seen g.M.Media.may_leave g.M.Media.moment
    g.M.Media.left_since g.M.Media.is_clean s.journal c.make_piece.new.journal) c.self.view_is
    c.make_piece.ensures.any_moment

pub returns-clause-units : goal.returns-clause-units
returns-clause-units g c =
    let seen = g.M.Media.seen in
    let is_clean = g.M.Media.is_clean in
    let old = c.self.inside.journal in
    let new = c.make_piece.new.journal in
    let waiting = items_of c.self.inside.waiting.items in
    let next = c.in_ok-self-inside.field-0 in
    let kept : KeepsLogUnits seen is_clean old c.self.inside.checkpoint next new =
    subst (λ (p : Option (GradualCheckpoint _)). KeepsLogUnits seen is_clean old p next new)
    c.take-checkpoint.ensures.value c.in_ok-self-inside.ensures.units in
    subst (λ (s : RecordStore g.row.M.Denot). KeepsStoredUnits seen is_clean s
    (record { journal = new; waiting = waiting; other = other_medium new next })) c.self.view_is
    (stored_kept seen is_clean old new waiting c.self.inside.checkpoint next kept)

pub returns-clause-any_moment : goal.returns-clause-any_moment
returns-clause-any_moment g c =
    subst (λ (s : RecordStore g.row.M.Denot). LeavesLogs g.M.Media.seen g.M.Media.may_leave g.M.Media.moment
    g.M.Media.left_since g.M.Media.is_clean s.journal c.make_piece.new.journal) c.self.view_is
    c.make_piece.ensures.any_moment

pub returns-clause-replaced : goal.returns-clause-replaced
returns-clause-replaced g c =
    subst (λ (s : RecordStore g.row.M.Denot). c.is_none.result ≡ true
    → IsReplaced g.M.Media.seen g.M.Media.may_leave g.M.Media.moment g.M.Media.left_since g.M.Media.is_clean s.journal
    c.make_piece.new.journal) c.self.view_is
    (λ none. where_none c.in_ok-self-inside.field-0 c.is_none.result _ c.is_none.ensures none
    c.in_ok-self-inside.ensures.replaced)
