use Rattle.std.proofs.Common.{true, IsTrue, refl, subst}
use Rattle.ar_log.proofs.Ahead.{not_read}
use Rattle.ar_journal.proofs.Adding.{reads_selector}
use Rattle.ar_journal.proofs.Reading.{only_read}
use Rattle.ar_journal.proofs.Writing.{not_both}
use Rattle.ar_journal.proofs.journal.Journal.settle.Goals as goal

pub returns-in-Err : goal.returns-in-Err
returns-in-Err g c =
    let old = c.args.self.now in
    let did = c.sync.ensures in
    let selector =
    only_read g.M.Media.seen g.M.Media.may_leave g.M.Media.moment g.M.Media.left_since g.M.Media.is_clean old.selector
    c.sync.new.self did.seen did.crash did.time (λ is. subst IsTrue did.clean is) in
    reads_selector g.M.Media.seen g.M.Media.may_leave g.M.Media.moment g.M.Media.left_since g.M.Media.is_clean
    g.met.M.Media.only_now old _ selector
    (not_read g.M.Media.seen g.M.Media.may_leave g.M.Media.moment g.M.Media.left_since g.M.Media.is_clean
    old.active.media) refl refl refl (λ now. now) refl

pub returns-in-Err-sync : goal.returns-in-Err-sync
returns-in-Err-sync g c =
    let old = c.args.self.now in
    let did = c.sync.ensures in
    let then = c.sync-2.ensures in
    let selector =
    only_read g.M.Media.seen g.M.Media.may_leave g.M.Media.moment g.M.Media.left_since g.M.Media.is_clean old.selector
    c.sync.new.self did.seen did.crash did.time (λ is. subst IsTrue did.clean is) in
    let active =
    only_read g.M.Media.seen g.M.Media.may_leave g.M.Media.moment g.M.Media.left_since g.M.Media.is_clean
    old.active.media c.sync-2.new.self then.seen then.crash then.time (λ is. subst IsTrue then.clean is) in
    reads_selector g.M.Media.seen g.M.Media.may_leave g.M.Media.moment g.M.Media.left_since g.M.Media.is_clean
    g.met.M.Media.only_now old _ selector active refl refl refl (λ now. absurd (not_both true refl now)) refl

pub returns : goal.returns
returns g c =
    let old = c.args.self.now in
    let did = c.sync.ensures in
    let then = c.sync-2.ensures in
    let selector =
    only_read g.M.Media.seen g.M.Media.may_leave g.M.Media.moment g.M.Media.left_since g.M.Media.is_clean old.selector
    c.sync.new.self did.seen did.crash did.time (λ is. subst IsTrue did.clean is) in
    let active =
    only_read g.M.Media.seen g.M.Media.may_leave g.M.Media.moment g.M.Media.left_since g.M.Media.is_clean
    old.active.media c.sync-2.new.self then.seen then.crash then.time (λ is. subst IsTrue then.clean is) in
    reads_selector g.M.Media.seen g.M.Media.may_leave g.M.Media.moment g.M.Media.left_since g.M.Media.is_clean
    g.met.M.Media.only_now old _ selector active refl refl refl (λ now. now) refl
