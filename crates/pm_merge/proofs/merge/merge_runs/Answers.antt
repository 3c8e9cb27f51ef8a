use Rattle.std.proofs.Common.{◌≡◌, Vec}
use Rattle.std.specs.declared.alloc.Global.{Global}
use Rattle.std.proofs.lemmas.Result.{IfOk-weaker}
use Rattle.pm_values.specs.declared.record.Stamped.{Stamped}
use Rattle.pm_merge.specs.Merge.{without_droppable}
use Rattle.pm_merge.proofs.merge.merge_runs.Goals as goal

-- without the droppable rows
pub returns-then-drop-clause-drops : goal.returns-then-drop-clause-drops
returns-then-drop-clause-drops g c =
    let m = g.E.MergeEngine.meaning c.args.engine.now in
    IfOk-weaker c.without_droppable.result (λ (new : Vec Stamped Global). new.items ≡ without_droppable m c.in-Ok.merged.items) _ (λ run items _. (c.in-Ok.merged.items, c.in-Ok.ensures.merged, items)) c.without_droppable.ensures

-- with them
pub returns-else-drop-clause-keeps : goal.returns-else-drop-clause-keeps
returns-else-drop-clause-keeps g c = λ _. c.in-Ok.ensures.merged
