use Rattle.std.proofs.Common.{◌≤◌, List, length, subst, sym, All, ◌≡◌}
use Rattle.std.specs.List.{flat_map, range_with_len}
use Rattle.std.proofs.lemmas.List.Elements.{All-push}
use Rattle.ar_picture.specs.declared.folds.Fold.{Fold}
use Rattle.ar_picture.specs.Folds.{IsFold, extents_of}
use Rattle.ar_picture.proofs.FoldLemmas.{folded_more, few_more}
use Rattle.ar_picture.proofs.picture.Picture.folds.Goals as goal

pub loop-first-preserved : goal.loop-first-preserved
loop-first-preserved c =
    let picture = c.args.self.now in
    let fold : Fold = record { first = c.loop-first.first; end = c.fold_end-end.result } in
    let kept = c.loop-first.invariant in
    let is = c.fold_end-end.ensures in
    let pushed = sym c.in_ok-push.ensures.items in
    record {
      within = is.within;
      once = subst (λ folds. flat_map extents_of folds ≡ range_with_len 0 fold.end) pushed
          (folded_more c.loop-first.folds.items fold is.some kept.once);
      folded = subst (λ folds. All (IsFold picture) folds) pushed
          (All-push (IsFold picture) c.loop-first.folds.items fold kept.folded is);
      few = subst (λ (folds : List Fold). length folds ≤ fold.end) pushed
          (few_more c.loop-first.folds.items fold is.some kept.few);
    }
