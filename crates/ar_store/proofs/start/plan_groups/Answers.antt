use Rattle.std.proofs.Common.{◌≡◌, ◌≤◌, ℕ, List, length, replicate, sym, ap, subst, ◌∙◌, rules}
use Rattle.std.proofs.Math.ListN.{length-replicate}
use Rattle.ar_store.proofs.Planning.{plan_of}
use Rattle.ar_store.proofs.start.plan_groups.Goals as goal

pub form_groups-requires : goal.form_groups-requires
form_groups-requires c =
    let counts = c.in_ok-counts.counts.items in
    let are : counts ≡ replicate c.args.disks c.args.extents =
    c.in_ok-counts.ensures.items_if_clones_equal (search rules) in
    let size : length counts ≡ c.args.disks =
    ap (λ (xs : List ℕ). length xs) are ∙ length-replicate c.args.disks c.args.extents in
    record {
      few = subst (λ n. n ≤ 255) (sym size) c.requires;
      all = are ∙ ap (λ n. replicate n c.args.extents) (sym size);
    }

pub returns : goal.returns
returns c =
    let counts = c.in_ok-counts.counts.items in
    let are : counts ≡ replicate c.args.disks c.args.extents =
    c.in_ok-counts.ensures.items_if_clones_equal (search rules) in
    plan_of c.form_groups.result c.args.geometry (length counts) c.args.disks c.args.extents
    (ap (λ (xs : List ℕ). length xs) are ∙ length-replicate c.args.disks c.args.extents) c.form_groups.ensures
