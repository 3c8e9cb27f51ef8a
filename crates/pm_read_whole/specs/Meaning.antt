-- What a reader of a whole view knows of the snapshots, and what its steps mean for the files.
use Rattle.std.specs.Prelude.{◌↔◌, ℕ, List, Contains}
use Rattle.pm_values.specs.declared.refusal.Refusal.{Refusal}
use Rattle.pm_values.specs.declared.refusal.Refusal.TheVariants as refusals
use Rattle.pm_store.specs.Files.{Files}
use Rattle.pm_model_folder.specs.Commits.{Names}
use Rattle.pm_model_folder.specs.Ledger.{Past}
use Rattle.pm_read_log.specs.LogMeaning as log
use Rattle.pm_read_table.specs.Meaning as reader
use Rattle.pm_read_schema.specs.Beside.{IsExpired}
use Rattle.pm_read_log.specs.declared.log_phase.LogPhase.TheVariants as logs
use Rattle.pm_read_table.specs.declared.phase.Phase.TheVariants as readers
use Rattle.pm_read_whole.specs.declared.phase.Phase.{Phase}
use Rattle.pm_read_whole.specs.declared.phase.Phase.TheVariants as phases

-- What it knows in each phase, whatever others do: what its parts know. A part that is ready knows what it read: the
-- view that of the table at the snapshot as it stood, the changelog that of the snapshot.
abbrev pub Knows : Phase → Files → Past → Type 0
Knows (phases.View m) f p = reader.Knows m f p
Knows (phases.Log v m) f p = reader.Knows (readers.Ready v) f p × log.Knows m f p
Knows (phases.Ready v l) f p = reader.Knows (readers.Ready v) f p × log.Knows (logs.Ready l) f p
Knows phases.Over f p = Unit {0}

-- The refusals that answers show where the files stand, whatever others do: the snapshot has gone, or memory ran out.
abbrev pub MayRefuse : Files → Past → Refusal → Type 0
MayRefuse f p refusals.Memory = Unit {0}
MayRefuse f p (refusals.Expired id) = IsExpired f p id
MayRefuse f p other = ⊥

-- the paths are exactly those that the snapshot named, as it stood
abbrev pub AreNamed : Past → Phase → List (List ℕ) → Type 0
AreNamed p (phases.Ready v l) paths =
    (path : List ℕ) → Contains paths path ↔ Names (p.stood l.snapshot.id) l.schema l.snapshot.id path
AreNamed p other paths = ⊥
