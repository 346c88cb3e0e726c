use Rattle.std.proofs.Common.{◌≡◌, ℕ, Some, ap, ◌∙◌}
use Rattle.ar_disks.specs.declared.address.Members.{Members}
use Rattle.ar_disks.specs.Members.{member}
use Rattle.ar_extents.specs.Loose.{lowest_loose}
use Rattle.ar_store.proofs.Lined.{four_cases}
use Rattle.ar_balance.proofs.Forming.{found_fullest}
use Rattle.ar_balance.proofs.choose.next_members.Goals as goal

pub returns-clause-found : goal.returns-clause-found
returns-clause-found g c =
    let s = c.args.set.now in
    let a = c.lowest_place in
    let b = c.lowest_place-2 in
    let d = c.lowest_place-3 in
    let e = c.lowest_place-4 in
    let m : Members = record { first = a.result; second = b.result; third = d.result; fourth = e.result } in
    let low = λ (x : ℕ). lowest_loose s x in
    found_fullest s c.args.counts.now c.in_ok-four.four m c.requires.counts c.requires.past
    c.in_ok-four.ensures.found
    (record {
      disks = (a.ensures.disk, b.ensures.disk, d.ensures.disk, e.ensures.disk);
      lowest = four_cases (λ i. lowest_loose s (member m i).disk ≡ Some (member m i).extent)
          (ap low a.ensures.disk ∙ a.ensures.lowest) (ap low b.ensures.disk ∙ b.ensures.lowest) (ap low d.ensures.disk
          ∙ d.ensures.lowest)
          (ap low e.ensures.disk ∙ e.ensures.lowest);
    })
