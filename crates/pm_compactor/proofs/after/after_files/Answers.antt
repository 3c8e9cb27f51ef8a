use Rattle.pm_compactor.proofs.PartLemmasFiles.{goes-left}
use Rattle.pm_compactor.proofs.after.after_files.Goals as goal

pub with_files-requires-clause-left : goal.with_files-requires-clause-left
with_files-requires-clause-left c =
    goes-left c.args.planned.left.items c.args.files c.args.answer c.take.new.self c.in-Ok.ensures.goes c.requires.is_compactor.4
