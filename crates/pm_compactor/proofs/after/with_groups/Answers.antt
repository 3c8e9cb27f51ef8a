use Rattle.std.proofs.Common.{length}
use Rattle.pm_scan_rows.specs.Group.{reads_of}
use Rattle.pm_compactor.proofs.PartLemmasAfter.{few-groups, files-fail, files-on, groups-fail}
use Rattle.pm_compactor.proofs.PartLemmasFiles.{none-left}
use Rattle.pm_compactor.proofs.PartLemmasRewritten.{all-became, still-commits}
use Rattle.pm_compactor.proofs.after.with_groups.Goals as goal

pub rewrite_groups-requires-clause-few : goal.rewrite_groups-requires-clause-few
rewrite_groups-requires-clause-few c =
    few-groups c.args.planned.left.items c.args.files c.take_groups-groups.result.0.items c.take_groups-groups.result.1 c.take_groups-groups.ensures.hands_out c.requires.left

pub after_groups-requires-clause-can_commit : goal.after_groups-requires-clause-can_commit
after_groups-requires-clause-can_commit c =
    let groups = reads_of c.take_groups-groups.result.0.items in
    still-commits (length groups) c.args.planned c.in-Ok.planned (all-became groups c.args.planned c.in-Ok.planned c.in-Ok.ensures.rewritten)
    c.requires.can_commit c.in-Ok.ensures.ready.room

pub after_groups-requires-clause-done : goal.after_groups-requires-clause-done
after_groups-requires-clause-done c = λ ready.
    let groups = reads_of c.take_groups-groups.result.0.items in
    let became = all-became groups c.args.planned c.in-Ok.planned c.in-Ok.ensures.rewritten in
    none-left c.args.planned.left.items c.in-Ok.planned.left.items c.args.files groups c.take_groups-groups.result.1 c.take_groups-groups.ensures.hands_out
    c.requires.left became.left ready

pub returns-in-Ok-clause-goes : goal.returns-in-Ok-clause-goes
returns-in-Ok-clause-goes c =
    files-on c.args.planned c.args.files (reads_of c.take_groups-groups.result.0.items) c.take_groups-groups.result.1 c.in-Ok.planned c.after_groups.result
    c.take_groups-groups.ensures.hands_out c.in-Ok.ensures.rewritten c.in-Ok.ensures.ready.room c.after_groups.ensures.goes

pub returns-in-Ok-clause-refuses : goal.returns-in-Ok-clause-refuses
returns-in-Ok-clause-refuses c =
    files-fail c.args.planned c.args.files (reads_of c.take_groups-groups.result.0.items) c.take_groups-groups.result.1 c.in-Ok.planned c.after_groups.result
    c.take_groups-groups.ensures.hands_out c.in-Ok.ensures.rewritten c.requires.whole c.after_groups.ensures.refuses

-- memory ran out, or a file in which an old value is looked up doesn't read
pub returns-in-Err-clause-refuses : goal.returns-in-Err-clause-refuses
returns-in-Err-clause-refuses c =
    groups-fail c.args.planned c.args.files (reads_of c.take_groups-groups.result.0.items) c.take_groups-groups.result.1 c.in-Err.refusal
    c.take_groups-groups.ensures.hands_out c.requires.whole c.in-Err.ensures.refuses
