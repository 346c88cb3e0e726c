use Rattle.std.proofs.Common.{◌≡◌, ◌&&◌, true, true≢false, ap, sym, ◌∙◌, eqb, eq-eqb}
use Rattle.std.proofs.lemmas.Bool.{eqb-true, and_parts, and_from}
use Rattle.ar_disks.specs.Addresses.{same_addr}
use Rattle.ar_disks.proofs.Addresses.{addr_same, same_addr_of, make_key}
use Rattle.ar_index.proofs.choices.is_same_key.Goals as goal

pub returns-clause-same : goal.returns-clause-same
returns-clause-same c = λ t.
    let one = c.args.one in
    let other = c.args.other in
    let p = and_parts (same_addr one.addr other.addr) (eqb one.rb other.rb) (sym c.eq.ensures ∙ t) in
    make_key one other (addr_same one.addr other.addr p.0) (eqb-true one.rb other.rb p.1)

pub returns-clause-another : goal.returns-clause-another
returns-clause-another c = λ f e.
    let one = c.args.one in
    let other = c.args.other in
    let alike : (same_addr one.addr other.addr && eqb one.rb other.rb) ≡ true =
    and_from _ _ (same_addr_of one.addr other.addr (ap (λ k. k.addr) e)) (eq-eqb one.rb other.rb (ap (λ k. k.rb) e)) in
    true≢false (sym (c.eq.ensures ∙ alike) ∙ f)
