use Rattle.std.proofs.Common.{[], ◌∷◌, ◌++◌, List, append_assoc, ap, sym, ◌∙◌}
use Rattle.std.specs.Vec.Iter.{into_iter_items}
use Rattle.pm_run.specs.declared.run.RunBytes.{RunBytes}
use Rattle.pm_lookup.specs.File.{SeenFile}
use Rattle.pm_lookup.specs.Lookup.{files_in}
use Rattle.pm_lookup.proofs.WalkLemmas.{run_pushed}
use Rattle.pm_lookup.proofs.lookup.Lookup.new.Goals as goal

-- one run more
pub loop-run-preserved : goal.loop-run-preserved
loop-run-preserved c =
    let done = c.loop-run.yielded in
    let run = c.in-Some.run' in
    let rest = into_iter_items c.next.new.self in
    record {
      parts = append_assoc done (run ∷ []) rest ∙ ap (λ (runs : List RunBytes). done ++ runs) (sym c.in-Some.ensures.steps.0) ∙ c.loop-run.invariant.parts;
      have = c.in_ok-push_run.ensures.files ∙ ap (λ (fs : List SeenFile). fs ++ files_in run) c.loop-run.invariant.have ∙ sym (run_pushed done run);
      opened = λ s. c.in_ok-push_run.ensures.opened s (c.loop-run.invariant.opened s);
    }
