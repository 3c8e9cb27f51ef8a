use Rattle.std.proofs.Common.{Bool, true, false, List, ap, refl, reverse, rules, ◌∙◌}
use Rattle.pm_levels.specs.Runs.{RunView}
use Rattle.pm_merge.specs.Merging.{rests_of}
use Rattle.pm_scan_rows.specs.Group.{GroupRead}
use Rattle.pm_group_log.specs.Told.{is_side, rows_where}
use Rattle.pm_group_log.proofs.Sources.{looked-refused, looked-told}
use Rattle.pm_group_log.proofs.telling.looked_log.Goals as goal

pub returns-clause-tells : goal.returns-clause-tells
returns-clause-tells c =
    let x : GroupRead = record { runs = c.args.runs.now; kept = c.args.kept.items } in
    let such = λ (below : Bool) (views : List RunView). rests_of (rows_where (is_side below 1) (reverse views) c.args.runs.now) in
    looked-told c.args.schema.now c.args.chosen.now x _ _ _ _ c.lookup_log.result c.requires.producer c.in_ok-engine.ensures.meaning
    (c.in_ok-under.ensures.files ∙ c.in_ok-stay.ensures) (c.in_ok-newer.ensures.rests ∙ ap (such true) c.taken-go.ensures)
    (c.in_ok-older.ensures.rests ∙ ap (such false) c.taken-go.ensures) c.lookup_log.ensures.log c.lookup_log.ensures.looks

pub returns-clause-refuses : goal.returns-clause-refuses
returns-clause-refuses c =
    let x : GroupRead = record { runs = c.args.runs.now; kept = c.args.kept.items } in
    looked-refused c.args.schema.now c.args.chosen.now x _ _ _ c.lookup_log.result c.requires.producer c.in_ok-engine.ensures.meaning
    (c.in_ok-under.ensures.files ∙ c.in_ok-stay.ensures)
    (c.in_ok-newer.ensures.rests ∙ ap (λ (views : List RunView). rests_of (rows_where (is_side true 1) (reverse views) c.args.runs.now)) c.taken-go.ensures)
    c.lookup_log.ensures.refuses

-- the sources rise and were judged, and no file was opened yet
pub lookup_log-requires : goal.lookup_log-requires
lookup_log-requires c κs =
    let opened = c.in_ok-under.ensures.opened c.args.schema.now in
    ((refl, tt), (c.in_ok-newer.ensures.rising, (c.in_ok-older.ensures.rising, (c.in_ok-newer.ensures.judged, (c.in_ok-older.ensures.judged, search (rules, opened))))))
