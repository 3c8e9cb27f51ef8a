use Rattle.std.proofs.Common.{Some, sym}
use Rattle.indexmap.specs.IndexMap.{get}
use Rattle.pm_manifest.specs.FileId.{id_eq}
use Rattle.pm_manifest.proofs.LiveLemmas.{Leaves-one, left_by-add}
use Rattle.pm_manifest.proofs.live.add_file.Goals as goal

pub returns-clause-left : goal.returns-clause-left
returns-clause-left c =
    Leaves-one (get id_eq c.args.live.now) (get id_eq c.insert.new.self) c.args.id c.args.entry (Some c.args.entry) (left_by-add c.args.entry c.requires.add)
    (sym c.requires.id) c.in_ok-insert.ensures.updates.0
