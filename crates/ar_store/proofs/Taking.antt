-- How the extents of planned groups are taken.
use Rattle.std.proofs.Common.{◌≡◌, ◌≢◌, ℕ, suc, ◌<◌, ◌≤◌, Bool, false, List, [], ◌∷◌, length, get_or, set, drop, Option}
use Rattle.std.proofs.Common.{Some, position, refl, sym, ap, subst, ◌∙◌, arith}
use Rattle.std.proofs.lemmas.List.{get_or-set_other, get_or-map, length-map}
use Rattle.std.proofs.Math.Seq.{drop-cons}
use Rattle.std.proofs.Math.ListN.{drop_of_length-le}
use Rattle.ar_disks.specs.declared.address.Members.{Members}
use Rattle.ar_extents.specs.Set.{SetState, marks_of}
use Rattle.ar_extents.specs.Loose.{lowest_loose, taken}
use Rattle.ar_book.specs.Tables.{GroupState, Tables, no_group, group_in}
use Rattle.ar_book.specs.Changes.{formed}
use Rattle.ar_store.specs.Store.{StoreState, store_of}
use Rattle.ar_store.specs.Forming.{AreFullest, HasFewLoose, IsFormed, IsPlanFor, without, empty_book, members_list}

-- the lowest loose extent of a disk stays where another disk's is taken
lowest_other : (s : SetState) (d e x : ℕ) → x ≢ d → lowest_loose (taken s d (Some e)) x ≡ lowest_loose s x
lowest_other s d e x ne =
    ap (λ (row : List Bool). position (λ mark. mark) row)
    (get_or-set_other s.loose d x (set (marks_of s d) e false) [] ne)

-- the lowest loose extent was taken
took : (s old new : SetState) (d e : ℕ) (o : Option ℕ) → old ≡ s → lowest_loose s d ≡ Some e → o ≡ lowest_loose old d
    → new ≡ taken old d o → new ≡ taken s d (Some e)
took s old new d e o same low is change =
    change ∙ ap (λ (t : SetState). taken t d o) same
    ∙ ap (λ x. taken s d x) (is ∙ ap (λ (t : SetState). lowest_loose t d) same ∙ low)

-- those of four disks were taken, one after another
pub took_four : (s one two three four : SetState) (m : Members) (a b c d : Option ℕ) → AreFullest s m
    → a ≡ lowest_loose s m.first.disk → one ≡ taken s m.first.disk a
    → b ≡ lowest_loose one m.second.disk → two ≡ taken one m.second.disk b
    → c ≡ lowest_loose two m.third.disk → three ≡ taken two m.third.disk c
    → d ≡ lowest_loose three m.fourth.disk → four ≡ taken three m.fourth.disk d
    → four ≡ without s m
took_four s one two three four m a b c d fullest a_is one_is b_is two_is c_is three_is d_is four_is =
    let ab = fullest.ascending.0 in
    let bc = fullest.ascending.1 in
    let cd = fullest.ascending.2 in
    let x = m.first in
    let y = m.second in
    let z = m.third in
    let w = m.fourth in
    let s1 = taken s x.disk (Some x.extent) in
    let s2 = taken s1 y.disk (Some y.extent) in
    let s3 = taken s2 z.disk (Some z.extent) in
    let low_1 : lowest_loose s1 y.disk ≡ Some y.extent =
    lowest_other s x.disk x.extent y.disk (omega arith) ∙ fullest.lowest 1 (omega arith) in
    let low_2 : lowest_loose s2 z.disk ≡ Some z.extent =
    lowest_other s1 y.disk y.extent z.disk (omega arith) ∙ lowest_other s x.disk x.extent z.disk (omega arith)
    ∙ fullest.lowest 2 (omega arith) in
    let low_3 : lowest_loose s3 w.disk ≡ Some w.extent =
    lowest_other s2 z.disk z.extent w.disk (omega arith) ∙ lowest_other s1 y.disk y.extent w.disk (omega arith)
    ∙ lowest_other s x.disk x.extent w.disk (omega arith) ∙ fullest.lowest 3 (omega arith) in
    let one_same = took s s one x.disk x.extent a refl (fullest.lowest 0 (omega arith)) a_is one_is in
    let two_same = took s1 one two y.disk y.extent b one_same low_1 b_is two_is in
    let three_same = took s2 two three z.disk z.extent c two_same low_2 c_is three_is in
    took s3 three four w.disk w.extent d three_same low_3 d_is four_is

-- the extents of the groups below a number are taken, and those of the others are still to be
pub record IsTaking (start set : SetState) (t : Tables) (number : ℕ) : Type 0 where
  -- what the set is at the end
  pub after : SetState
  -- the groups so far
  pub tables : Tables
  pub all : IsFormed (store_of start (empty_book start.geometry)) (members_list t) (store_of after t)
  pub rest : IsFormed (store_of set tables) (drop number (members_list t)) (store_of after t)

pub taking_start : (s : SetState) (t : Tables) → IsPlanFor s t → IsTaking s s t 0
taking_start s t plan =
    record { after = plan.after; tables = empty_book s.geometry; all = plan.formed; rest = plan.formed }

-- the next group
pub taking_here : (start set : SetState) (t : Tables) (n : ℕ) (m : Members) (now : IsTaking start set t n)
    → n < length t.groups → m ≡ (group_in t.groups n).members
    → AreFullest set m
    × IsFormed (store_of (without set m) (formed now.tables m)) (drop (suc n) (members_list t)) (store_of now.after t)
taking_here start set t n m now inside is =
    let list : length (members_list t) ≡ length t.groups = length-map t.groups (λ (x : GroupState). x.members) in
    let at : get_or (members_list t) n m ≡ m =
    get_or-map (λ (x : GroupState). x.members) t.groups n no_group m inside ∙ sym is in
    let cons : drop n (members_list t) ≡ m ∷ drop (suc n) (members_list t) =
    drop-cons (members_list t) n m (omega arith) ∙ ap (λ x. x ∷ drop (suc n) (members_list t)) at in
    let P : List Members → Type 0 = λ ms. IsFormed (store_of set now.tables) ms (store_of now.after t) in
    subst P cons now.rest

pub taking_next : (start set new : SetState) (t : Tables) (n k : ℕ) (m : Members) → IsTaking start set t n
    → n < length t.groups → m ≡ (group_in t.groups n).members
    → new ≡ without set m → suc n ≡ k → IsTaking start new t k
taking_next start set new t n k m now inside is took next =
    let here = taking_here start set t n m now inside is in
    subst (λ x. IsTaking start new t x) next record {
      after = now.after;
      tables = formed now.tables m;
      all = now.all;
      rest = subst
          (λ (x : SetState). IsFormed (store_of x (formed now.tables m)) (drop (suc n) (members_list t))
          (store_of now.after t)) (sym took) here.1;
    }

-- all groups' extents are taken
pub taking_end : (start set : SetState) (t : Tables) (n : ℕ) → IsTaking start set t n → length t.groups ≤ n
    → IsFormed (store_of start (empty_book start.geometry)) (members_list t) (store_of set t)
taking_end start set t n now past =
    let list : length (members_list t) ≡ length t.groups = length-map t.groups (λ (x : GroupState). x.members) in
    let none : drop n (members_list t) ≡ [] = drop_of_length-le (members_list t) (omega arith) in
    let P : List Members → Type 0 = λ ms. IsFormed (store_of set now.tables) ms (store_of now.after t) in
    let end : HasFewLoose set × (store_of now.after t ≡ store_of set now.tables) = subst P none now.rest in
    subst (λ (x : SetState). IsFormed (store_of start (empty_book start.geometry)) (members_list t) (store_of x t))
    (ap (λ (x : StoreState). x.disks) end.1) now.all
