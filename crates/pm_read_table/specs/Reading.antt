-- A snapshot whose manifests are read one after another.
use Rattle.std.specs.Prelude.{List}
use Rattle.std.specs.Map.{lookup}
use Rattle.pm_snapshot.specs.declared.snapshot.Snapshot.{Snapshot}
use Rattle.pm_manifest.specs.FileId.{id_eq}
use Rattle.pm_manifest.specs.Live.{Live}
use Rattle.pm_manifest.specs.declared.entry.Entry.{Entry}
use Rattle.pm_manifest.specs.declared.entry.ManifestMeta.{ManifestMeta}
use Rattle.pm_manifest.specs.declared.file_id.FileId.{FileId}
use Rattle.pm_model_contents.specs.Groups.{AreNamed, HaveFolders}
use Rattle.pm_read_table.specs.Asked.{SoughtView}
use Rattle.pm_read_table.specs.View.{HaveGroups}

-- files, each with its entry
abbrev pub Filed : Type 0
Filed = List (FileId × Entry)

-- what is live of each file
abbrev pub live_of : Filed → Live
live_of files id = lookup (id_eq id) files

-- What was asked, the snapshot, the manifests that were read, the one to be read next, those after it, the live files
-- after the entries of the first, and which of these entries are kept.
pub record ReadingView : Type 0 where
  pub sought : SoughtView
  pub snapshot : Snapshot
  pub done : List ManifestMeta
  pub next : ManifestMeta
  pub rest : List ManifestMeta
  pub files : Filed
  pub kept : List Entry

abbrev pub reading_of : SoughtView → Snapshot → List ManifestMeta → ManifestMeta → List ManifestMeta → Filed
    → List Entry → ReadingView
reading_of q x done next rest files kept =
    record { sought = q; snapshot = x; done = done; next = next; rest = rest; files = files; kept = kept }

-- the live files can be put into groups: each has its own entry, and is of a group of the table; so is each kept entry
abbrev pub IsReading : ReadingView → Type 0
IsReading r =
    AreNamed (live_of r.files) × HaveFolders r.sought.asked.schema (live_of r.files)
    × HaveGroups r.sought.asked.schema r.kept
