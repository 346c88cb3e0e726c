use Rattle.std.proofs.Common.{◌≡◌, ◌∙◌, ◌&&◌, not, eqb, refl, sym, ap, true, false, true≢false, eq-eqb, arith}
use Rattle.std.proofs.lemmas.Bool.{and_from, and_parts, eqb-true}
use Rattle.std.proofs.lemmas.Option.{same_Some}
use Rattle.ar_disks.specs.Addresses.{same_addr}
use Rattle.ar_disks.proofs.Addresses.{addr_same, same_addr_of, make_key}
use Rattle.std.specs.Prelude.{Bool}
use Rattle.ar_book.proofs.index.keeps_oldest.Goals as goal

by_not : (b : Bool) → not b ≡ false → b ≡ true
by_not true e = refl
by_not false e = absurd (true≢false e)

pub returns-then-oldest-stamp-clause-keeps : goal.returns-then-oldest-stamp-clause-keeps
returns-then-oldest-stamp-clause-keeps c = λ other.
    let oldest = c.in-Some.oldest in
    let key = c.args.key in
    record {
      oldest = oldest;
      is = c.in-Some.is;
      other = λ same.
          let alike : (same_addr oldest.key.addr key.addr && eqb oldest.key.rb key.rb) ≡ true =
          and_from _ _ (same_addr_of oldest.key.addr key.addr (ap (λ k. k.addr) same))
          (eq-eqb oldest.key.rb key.rb (ap (λ k. k.rb) same)) in
          true≢false (sym other ∙ c.ne.ensures ∙ ap not alike);
      older = c.if-oldest-stamp.true;
    }

pub returns-then-oldest-stamp-clause-changes : goal.returns-then-oldest-stamp-clause-changes
returns-then-oldest-stamp-clause-changes c = λ own keeps.
    let oldest = c.in-Some.oldest in
    let key = c.args.key in
    let is : keeps.oldest ≡ oldest = same_Some keeps.oldest oldest (sym keeps.is ∙ c.in-Some.is) in
    let alike : (same_addr oldest.key.addr key.addr && eqb oldest.key.rb key.rb) ≡ true =
    by_not _ (sym c.ne.ensures ∙ own) in
    let p = and_parts (same_addr oldest.key.addr key.addr) (eqb oldest.key.rb key.rb) alike in
    keeps.other (ap (λ a. a.key) is
    ∙ make_key oldest.key key (addr_same oldest.key.addr key.addr p.0) (eqb-true oldest.key.rb key.rb p.1))

pub returns-else-oldest-stamp-clause-changes : goal.returns-else-oldest-stamp-clause-changes
returns-else-oldest-stamp-clause-changes c = λ own keeps.
    let is : keeps.oldest.stamp ≡ c.in-Some.oldest.stamp =
    ap (λ a. a.stamp) (same_Some keeps.oldest c.in-Some.oldest (sym keeps.is ∙ c.in-Some.is)) in
    let late = c.if-oldest-stamp.false in
    let early = keeps.older in
    omega arith
