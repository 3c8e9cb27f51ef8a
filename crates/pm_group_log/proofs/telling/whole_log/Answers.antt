use Rattle.std.proofs.Common.{◌≡◌, true, false, List, ap, reverse, rules, ◌∙◌}
use Rattle.pm_levels.specs.Runs.{RunView}
use Rattle.pm_merge.specs.Merging.{rests_of}
use Rattle.pm_runs.specs.Stand.{top_of}
use Rattle.pm_group_log.specs.Told.{is_side, rows_where}
use Rattle.pm_group_log.proofs.Sources.{whole-told}
use Rattle.pm_group_log.proofs.telling.whole_log.Goals as goal

pub returns-clause-tells : goal.returns-clause-tells
returns-clause-tells c = λ kept.
    let top = c.saturating_sub-top.result in
    let at_top : top ≡ top_of c.args.schema.now = search rules in
    whole-told c.args.schema.now c.args.chosen.now (record { runs = c.args.runs.now; kept = kept }) _ top _ _ c.in_ok-log.log c.requires.producer c.requires.whole
    c.in_ok-engine.ensures.meaning at_top
    (c.in_ok-newer.ensures.rests ∙ ap (λ (views : List RunView). rests_of (rows_where (is_side true top) (reverse views) c.args.runs.now)) c.taken-go.ensures)
    (c.in_ok-older.ensures.rests ∙ ap (λ (views : List RunView). rests_of (rows_where (is_side false top) (reverse views) c.args.runs.now)) c.taken-go.ensures)
    c.in_ok-log.ensures.log
