use Rattle.std.proofs.Common.{None}
use Rattle.indexmap.specs.IndexMap.{get}
use Rattle.pm_manifest.specs.FileId.{id_eq}
use Rattle.pm_manifest.proofs.LiveLemmas.{Leaves-one, left_by-delete}
use Rattle.pm_manifest.proofs.live.delete_file.Goals as goal

pub returns : goal.returns
returns c = λ e delete own.
    Leaves-one (get id_eq c.args.live.now) (get id_eq c.swap_remove.new.self) c.args.id e None (left_by-delete e delete) own c.swap_remove.ensures.updates.0
