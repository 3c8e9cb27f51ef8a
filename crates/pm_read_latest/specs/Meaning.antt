-- What a reader of the latest snapshot's id knows of the table.
use Rattle.std.specs.Prelude.{◌≤◌}
use Rattle.pm_store.specs.Files.{Files}
use Rattle.pm_snapshot.specs.Names.{greatest}
use Rattle.pm_model_folder.specs.Ledger.{Past, count_of}
use Rattle.pm_read_latest.specs.declared.phase.Phase.{Phase}
use Rattle.pm_read_latest.specs.declared.phase.Phase.TheVariants as phases

-- What it knows in each phase, whatever others do: that all snapshots up to the id were committed.
abbrev pub Knows : Phase → Files → Past → Type 0
Knows phases.List f p = Unit {0}
Knows (phases.Ready latest) f p = (latest ≤ greatest) × (latest ≤ count_of p.history)
Knows phases.Over f p = Unit {0}
