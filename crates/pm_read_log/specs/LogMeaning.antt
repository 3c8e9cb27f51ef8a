-- What a reader of a changelog knows of the snapshots, and what its steps mean for the files.
use Rattle.std.specs.Prelude.{◌≡◌, ℕ, ◌≤◌, List, ◌∷◌, ◌++◌, Some}
use Rattle.std.specs.List.{AllByRecursion}
use Rattle.pm_store.specs.Files.{Files}
use Rattle.pm_model_history.specs.History.{IsTableOf}
use Rattle.pm_snapshot.specs.Names.{greatest}
use Rattle.pm_model_folder.specs.Ledger.{Past, count_of}
use Rattle.pm_manifest.specs.declared.entry.ManifestMeta.{ManifestMeta}
use Rattle.pm_model_contents.specs.Lists.{HasChangelog, HaveEntries, IsChangelogEntry, IsList}
use Rattle.pm_read_log.specs.Log.{LogReadingView}
use Rattle.pm_read_table.specs.Meaning.{HasGone, Stood}
use Rattle.pm_read_log.specs.declared.log.Log.{Log}
use Rattle.pm_read_log.specs.declared.log_phase.LogPhase.{LogPhase}
use Rattle.pm_read_log.specs.declared.log_phase.LogPhase.TheVariants as phases

-- in these files the snapshot's changelog list has the manifests of a reading in their order, and those that were read
-- have its entries, each of which is a changelog's
abbrev pub IsReadingOf : Files → LogReadingView → Type 0
IsReadingOf f r =
    (list : List ℕ) × (metas : List ManifestMeta) × (r.snapshot.changelog_list ≡ Some list) × IsList f list metas
    × (metas ≡ r.done ++ r.next ∷ r.rest) × HaveEntries f r.asked.schema r.done r.changes
    × AllByRecursion IsChangelogEntry r.changes

-- the changelog is that of the table's snapshot as it stood
abbrev pub IsLogIn : Past → Log → Type 0
IsLogIn p l =
    Stood p l.schema l.snapshot
    × HasChangelog (p.stood l.snapshot.id) l.schema l.snapshot.changelog_list l.manifests.items l.changes.items

-- What it knows in each phase, whatever others do: that the snapshot to be read is one of the table's; that what was
-- read is what stood at the snapshot; and once a file that the snapshot names is absent, that the snapshot has gone.
abbrev pub Knows : LogPhase → Files → Past → Type 0
Knows (phases.Snapshot a) f p =
    IsTableOf a.schema p.history × (1 ≤ a.id) × (a.id ≤ greatest) × (a.id ≤ count_of p.history)
Knows (phases.List a x list) f p = Stood p a.schema x × (x.id ≡ a.id) × (x.changelog_list ≡ Some list)
Knows (phases.Manifests r) f p =
    Stood p r.asked.schema r.snapshot × (r.snapshot.id ≡ r.asked.id) × IsReadingOf (p.stood r.snapshot.id) r
Knows (phases.Again a path) f p = HasGone f p a.schema a.id
Knows (phases.Ready l) f p = IsLogIn p l
Knows phases.Over f p = Unit {0}
