use Rattle.std.proofs.Common.{[], ◌∷◌, ◌++◌, append_assoc, ap, sym, ◌∙◌}
use Rattle.std.specs.Vec.Iter.{into_iter_items}
use Rattle.std.proofs.lemmas.Fn.{FoldsTo-push}
use Rattle.pm_levels.specs.Runs.{Puts}
use Rattle.pm_levels.proofs.runs.joined.Goals as goal

-- one file more
pub loop-file-preserved : goal.loop-file-preserved
loop-file-preserved c =
    let done = c.loop-file.yielded in
    let rest = into_iter_items c.next.new.self in
    record {
      parts = append_assoc done (c.in-Some.file ∷ []) rest ∙ ap (λ fs. done ++ fs) (sym c.in-Some.ensures.steps.0) ∙ c.loop-file.invariant.parts;
      folds = FoldsTo-push Puts [] done _ c.in-Some.file _ c.loop-file.invariant.folds c.in_ok-put.ensures;
    }
