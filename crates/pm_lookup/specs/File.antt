-- What looking for a key in a file answers, and what is known of a file in which keys were looked for.
use Rattle.std.specs.Prelude.{◌≡◌, ◌⊎◌, ℕ, ◌≤◌, List, [], length, Bool, true, false, not, ◌&&◌, Option, Some, None}
use Rattle.std.specs.Prelude.{Result, Ok, Err}
use Rattle.std.specs.Ordering.{is_gt, is_lt}
use Rattle.pm_values.specs.Order.{Values, key_cmp}
use Rattle.pm_values.specs.declared.file_meta.FileMeta.{FileMeta}
use Rattle.pm_values.specs.declared.record.Stamped.{Stamped}
use Rattle.pm_values.specs.declared.refusal.Refusal.{Refusal}
use Rattle.pm_values.specs.declared.refusal.Refusal.TheVariants.{Memory}
use Rattle.pm_schema.specs.declared.schema.TableSchema.{TableSchema}
use Rattle.pm_engine.specs.Covers.{Run}
use Rattle.pm_run.specs.Reader.{OpensRun, RefusesRun, RunView}
use Rattle.pm_run.specs.Rows.{Opened}
use Rattle.pm_lookup.specs.Looking.{Finds, IsBlockAt, Passes, reaches}
use Rattle.pm_lookup.specs.declared.file.FileBytes.{FileBytes}
use Rattle.pm_lookup.specs.declared.file.FileBytes.TheVariants.{Closed, Gone, Open}
use Rattle.pm_lookup.specs.declared.file.LookedFile.{LookedFile}
use Rattle.pm_lookup.specs.declared.open_file.Held.{Held}
use Rattle.pm_lookup.specs.declared.open_file.OpenFile.{OpenFile}

-- a file: its path, what is known of it, and its bytes
pub record SeenFile : Type 0 where
  pub path : List ℕ
  pub meta : FileMeta
  pub bytes : List ℕ

-- the key lies in the range of the file's keys
abbrev pub may_hold : Values → FileMeta → Bool
may_hold key m = not (is_gt (key_cmp m.min_key key)) && not (is_gt (key_cmp key m.max_key))

-- the file was opened with the schema
abbrev pub Opens : TableSchema → SeenFile → RunView → Type 0
Opens s f v = OpensRun s false f.meta.schema_id f.path f.bytes (Ok v)

-- why the file isn't opened
abbrev pub RefusesFile : TableSchema → SeenFile → Refusal → Type 0
RefusesFile s f e = RefusesRun s f.meta.schema_id f.path f.bytes e

-- what looking for a key in the file answers
abbrev pub LooksIn : TableSchema → SeenFile → Values → Result (Option Stamped) Refusal → Type 0
LooksIn s f key (Ok found) = (v : RunView) × Opens s f v × Finds v.opened key (Ok found)
LooksIn s f key (Err Memory) = Unit {0}
LooksIn s f key (Err e) = RefusesFile s f e ⊎ ((v : RunView) × Opens s f v × Finds v.opened key (Err e))

-- ---- what is kept of a file that was opened

-- Private: the block in hand, if there is one, begins at the offset
abbrev pub HoldsAt : Opened → ℕ → Option Held → Type 0
HoldsAt o begins None = Unit {0}
HoldsAt o begins (Some h) = IsBlockAt o begins h.rows.items h.next

-- Private: the block in hand begins at the offset, and there is none exactly at the end
abbrev pub HoldsOrEnds : Opened → ℕ → Option Held → Type 0
HoldsOrEnds o begins None = begins ≡ length o.file.bytes
HoldsOrEnds o begins (Some h) = IsBlockAt o begins h.rows.items h.next

-- Private: looking for the key comes to the offset
abbrev pub ComesTo : Opened → Values → ℕ → Type 0
ComesTo o key begins = (blocks : List Run) × Passes o key o.file.first blocks begins

-- Private: looking for the key that was asked last came to the offset; before any it is that of the first block
abbrev pub CameTo : Opened → Option Values → ℕ → Type 0
CameTo o None begins = begins ≡ o.file.first
CameTo o (Some key) begins = ComesTo o key begins

-- Private: looking goes on at the block in hand
pub record IsOpen (f : OpenFile) : Type 0 where
  pub within : f.begins ≤ length f.reader.opened.file.bytes
  pub holds : HoldsAt f.reader.opened f.begins f.held
  pub came : CameTo f.reader.opened f.passed f.begins

-- Private: whether looking stops at the block in hand
abbrev pub stops_in : Values → Option Held → Bool
stops_in key None = true
stops_in key (Some h) = reaches key h.rows.items

-- Private: the key is below another, if there is one
abbrev pub is_below : Values → Option Values → Bool
is_below key None = false
is_below key (Some other) = is_lt (key_cmp key other)

-- Private: the bytes of a file; none are known where they are gone
abbrev pub bytes_in : FileBytes → List ℕ
bytes_in (Closed bytes) = bytes
bytes_in (Open file) = file.reader.opened.file.bytes
bytes_in Gone = []

-- Private: a file as it is seen
abbrev pub seen : LookedFile → SeenFile
seen f = record { path = f.path; meta = f.meta; bytes = bytes_in f.bytes }

-- Private: a file that was opened, with the schema
pub record IsOpenedFor (s : TableSchema) (f : SeenFile) (file : OpenFile) : Type 0 where
  pub view : RunView
  pub opens : Opens s f view
  pub same : view.opened ≡ file.reader.opened
  pub known : IsOpen file

-- Private: bytes of a file that was opened with no other schema
abbrev pub AreFor : TableSchema → SeenFile → FileBytes → Type 0
AreFor s f (Closed bytes) = Unit {0}
AreFor s f (Open file) = IsOpenedFor s f file
AreFor s f Gone = Unit {0}

-- Private: so a file
abbrev pub IsFileFor : TableSchema → LookedFile → Type 0
IsFileFor s f = AreFor s (seen f) f.bytes
