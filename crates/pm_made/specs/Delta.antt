-- What a commit changes of the live files, and the changelog files that it names.
use Rattle.std.specs.Prelude.{◌≡◌, List, [], ◌++◌, map, filter, not, Bool, true, false}
use Rattle.std.specs.List.{AllByRecursion, list_any}
use Rattle.pm_schema.specs.declared.schema.TableSchema.{TableSchema}
use Rattle.pm_manifest.specs.FileId.{id_eq}
use Rattle.pm_manifest.specs.Live.{id_of}
use Rattle.pm_manifest.specs.declared.entry.Entry.{Entry}
use Rattle.pm_write.specs.declared.files.NewFile.{NewFile}

-- the live files that go, those that come, and changelog files
pub record Delta : Type 0 where
  pub removed : List Entry
  pub added : List Entry
  pub changes : List Entry

-- nothing goes and nothing comes
abbrev pub no_delta : Delta
no_delta = record { removed = []; added = []; changes = [] }

-- the entry that takes a file away
abbrev pub deleted : Entry → Entry
deleted e = record e { add = false }

-- the entry that adds it
abbrev pub adding : Entry → Entry
adding e = record e { add = true }

-- the entry that adds a new file
abbrev pub added_entry : TableSchema → NewFile → Entry
added_entry s x = record { add = true; group = x.group; buckets = s.options.bucket; file = x.meta }

-- a delta's entries: those that take files away come first
abbrev pub entries_of : Delta → List Entry
entries_of d = map deleted d.removed ++ d.added

-- an entry of these is of the file, by group, name and level
abbrev pub is_of_any : List Entry → Entry → Bool
is_of_any es e = list_any (λ (other : Entry). id_eq (id_of other) (id_of e)) es

-- what is left of live files without those that go
abbrev pub left_of : List Entry → List Entry → List Entry
left_of removed live = filter (λ (e : Entry). not (is_of_any removed e)) live

-- A delta has these entries and these changelog files; it takes these files away, and its other entries add files.
pub record IsDeltaOf (removed entries changes : List Entry) (d : Delta) : Type 0 where
  pub goes : d.removed ≡ removed
  pub whole : entries ≡ entries_of d
  pub told : changes ≡ d.changes
  pub adds : AllByRecursion (λ (e : Entry). e.add ≡ true) d.added
