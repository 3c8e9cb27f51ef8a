use Rattle.std.proofs.Common.{◌≡◌, ◌++◌, ◌∷◌, [], List, drop, length, rules, ap, ◌∙◌}
use Rattle.pm_values.specs.declared.file_meta.FileMeta.{FileMeta}
use Rattle.pm_levels.specs.Runs as levels
use Rattle.pm_levels.specs.Runs.{RunView}
use Rattle.pm_run.specs.declared.run.RunBytes.{RunBytes}
use Rattle.pm_group_log.specs.Told.{files_with}
use Rattle.pm_group_log.proofs.BytesLemmas.{runs-ended, runs-next}
use Rattle.pm_group_log.proofs.kept.runs_with.Goals as goal

-- one more
pub loop-run-preserved : goal.loop-run-preserved
loop-run-preserved c =
    let s = c.args.schema.now in
    let g = c.args.chosen.now.group in
    let metas = c.as_slice.ensures.value in
    let old = c.loop-run.bytes.items in
    let own : RunBytes = record { folder = c.in_ok-folder.folder; level = c.run-item.result.level; files = c.in_ok-files.files } in
    let pushed : c.push.new.self.items ≡ c.loop-run.runs.items ++ own ∷ [] = search rules in
    rw pushed (runs-next s g c.loop-run.runs.items own c.left-stay.result.now c.loop-run.run-index c.run-item.result c.loop-run.bytes.items c.with_bytes.new.bytes.items _
    c.loop-run-test.true c.run-item.is c.in_ok-folder.ensures (c.in_ok-files.ensures.files s g ∙ ap (λ (ms : List FileMeta). files_with s g ms old) metas)
    (c.in_ok-files.ensures.left ∙ ap (λ (ms : List FileMeta). drop (length ms) old) metas) c.loop-run.invariant)

-- all runs have theirs
pub returns : goal.returns
returns c =
    let s = c.args.schema.now in
    let g = c.args.chosen.now.group in
    runs-ended s g c.loop-run.runs.items c.left-stay.result.now c.loop-run.run-index c.loop-run.bytes.items _ c.loop-run-test.false c.loop-run.invariant
    ∙ ap (λ (runs : List RunView). files_with s g (levels.files_of runs) c.args.kept.items) c.left-stay.ensures
