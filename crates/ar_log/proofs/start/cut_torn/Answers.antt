use Rattle.std.proofs.Common.{rules, ◌≡◌, ◌+◌, ℕ, List}
use Rattle.ar_media.proofs.Moments.{started, goes_on}
use Rattle.ar_log.specs.Log.{HoldsBatches}
use Rattle.ar_log.proofs.Starting.{cut_behind}
use Rattle.ar_log.proofs.start.cut_torn.Goals as goal

pub returns-in_default-clause-any_moment : goal.returns-in_default-clause-any_moment
returns-in_default-clause-any_moment g c batches ends all =
    started g.M.Media.moment g.M.Media.left_since c.args.media.now (HoldsBatches batches)
    (λ f left. all f (g.met.M.Media.only_now c.args.media.now f left))

pub returns-in-Err-clause-any_moment : goal.returns-in-Err-clause-any_moment
returns-in-Err-clause-any_moment g c batches ends all =
    let is : c.in-Some.len ≡ c.args.place.at + 2 = search rules in
    let P : List ℕ → Type 0 = HoldsBatches batches in
    let after_cut : (f : List ℕ) → g.M.Media.may_leave c.cut.new.self f → P f = λ f left.
    let from = c.cut.ensures.crash f left in
    cut_behind batches c.args.place.at c.in-Some.len from.0 f ends is (all from.0 from.1) from.2 in
    let at_start =
    started g.M.Media.moment g.M.Media.left_since c.args.media.now P
    (λ f left. all f (g.met.M.Media.only_now c.args.media.now f left)) in
    goes_on g.M.Media.moment g.M.Media.left_since c.args.media.now c.args.media.now c.cut.new.self P _ at_start
    c.cut.ensures.time after_cut

pub returns-in-Err-sync-clause-any_moment : goal.returns-in-Err-sync-clause-any_moment
returns-in-Err-sync-clause-any_moment g c batches ends all =
    let is : c.in-Some.len ≡ c.args.place.at + 2 = search rules in
    let P : List ℕ → Type 0 = HoldsBatches batches in
    let after_cut : (f : List ℕ) → g.M.Media.may_leave c.cut.new.self f → P f = λ f left.
    let from = c.cut.ensures.crash f left in
    cut_behind batches c.args.place.at c.in-Some.len from.0 f ends is (all from.0 from.1) from.2 in
    let at_start =
    started g.M.Media.moment g.M.Media.left_since c.args.media.now P
    (λ f left. all f (g.met.M.Media.only_now c.args.media.now f left)) in
    let cut =
    goes_on g.M.Media.moment g.M.Media.left_since c.args.media.now c.args.media.now c.cut.new.self P _ at_start
    c.cut.ensures.time after_cut in
    goes_on g.M.Media.moment g.M.Media.left_since c.args.media.now c.cut.new.self c.sync.new.self P _ cut
    c.sync.ensures.time (λ f left. after_cut f (c.sync.ensures.crash f left))

pub returns-clause-any_moment : goal.returns-clause-any_moment
returns-clause-any_moment g c batches ends all =
    let is : c.in-Some.len ≡ c.args.place.at + 2 = search rules in
    let P : List ℕ → Type 0 = HoldsBatches batches in
    let after_cut : (f : List ℕ) → g.M.Media.may_leave c.cut.new.self f → P f = λ f left.
    let from = c.cut.ensures.crash f left in
    cut_behind batches c.args.place.at c.in-Some.len from.0 f ends is (all from.0 from.1) from.2 in
    let at_start =
    started g.M.Media.moment g.M.Media.left_since c.args.media.now P
    (λ f left. all f (g.met.M.Media.only_now c.args.media.now f left)) in
    let cut =
    goes_on g.M.Media.moment g.M.Media.left_since c.args.media.now c.args.media.now c.cut.new.self P _ at_start
    c.cut.ensures.time after_cut in
    goes_on g.M.Media.moment g.M.Media.left_since c.args.media.now c.cut.new.self c.sync.new.self P _ cut
    c.sync.ensures.time (λ f left. after_cut f (c.sync.ensures.crash f left))
