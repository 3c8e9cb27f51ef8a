-- What a snapshot bears of its entry, and of the entries before it.
use Rattle.std.specs.Prelude.{◌≡◌, ◌↔◌, ℕ, ◌-◌, ◌^◌, ℤ, pos, negsuc, ◌-ℤ◌, int_le, List, length, Contains}
use Rattle.std.specs.Prelude.{filter, take, not, Option, Some, None, unwrap_or, slice_get, if◌then◌else◌, true}
use Rattle.std.specs.List.{AllPairs, fold, sum_by}
use Rattle.pm_store.specs.Files.{Files}
use Rattle.pm_model_history.specs.History.{Entry, History, append, compaction, fence, no_table, table}
use Rattle.pm_schema.specs.declared.schema.TableSchema.{TableSchema}
use Rattle.pm_snapshot.specs.declared.snapshot.Snapshot.{Snapshot}
use Rattle.pm_manifest.specs.Live.{Live, id_of}
use Rattle.pm_manifest.specs.declared.entry.Entry as files
use Rattle.pm_model_contents.specs.Lists.{HaveEntries}
use Rattle.pm_model_contents.specs.Named.{Contents}
use Rattle.pm_model_contents.specs.Runs.{IsLive}

-- ---- the entry, and the fence

-- the entry that a history has at a snapshot, from 1
abbrev pub entry_at : List Entry → ℕ → Option Entry
entry_at entries id = slice_get entries (id - 1)

-- the snapshot bears the user and the identifier of its entry, or the base of its compaction
abbrev pub BearsEntry : Option Entry → Snapshot → Type 0
BearsEntry (Some (append user identifier rows)) x = (x.user ≡ user) × (x.ident ≡ identifier)
BearsEntry (Some (compaction base groups)) x = x.base ≡ base
BearsEntry (Some (fence number)) x = Unit {0}
BearsEntry None x = ⊥

-- the greater of a fence and the one that an entry raises
abbrev pub raised : ℤ → Entry → ℤ
raised old (fence number) = if int_le old number then number else old
raised old entry = old

-- the fence after the first so many entries: the greatest that was raised, -1 before any
abbrev pub fence_at : List Entry → ℕ → ℤ
fence_at entries count = fold raised (negsuc 0) (take count entries)

-- the base is at most the fence of the newest snapshot, so that no commit from it can come any more
abbrev pub IsFenced : ℕ → History → Type 0
IsFenced base no_table = ⊥
IsFenced base (table s entries) = int_le (pos base) (fence_at entries (length entries)) ≡ true

-- ---- counts of commits

-- how many commits an entry is that append rows: one or none
abbrev pub appends_in : Entry → ℕ
appends_in (append user identifier rows) = 1
appends_in (compaction base groups) = 0
appends_in (fence number) = 0

-- ---- counts of rows

-- the rows that files have by their entries
abbrev pub rows_in_files : List files.Entry → ℕ
rows_in_files es = sum_by (λ (e : files.Entry). e.file.rows) es

-- the entries of live files, each once
pub record AreLive (live : Live) (es : List files.Entry) : Type 0 where
  pub exact : (e : files.Entry) → Contains es e ↔ IsLive live e
  pub apart : AllPairs (λ (a b : files.Entry). id_of a ≡ id_of b → ⊥) es

-- the least number that a snapshot has of a delta's rows
abbrev pub least_delta : ℤ
least_delta = negsuc (2 ^ 63 - 1)

-- the rows that entries add less those that they take away, but for that least number
abbrev pub rows_added : List files.Entry → ℤ
rows_added es =
    let change =
    pos (rows_in_files (filter (λ e. e.add) es)) -ℤ pos (rows_in_files (filter (λ e. not e.add) es)) in
    if int_le least_delta change then change else least_delta

-- the snapshot bears how many rows its live files have, how many its delta adds, and how many its changelog has
pub record BearsCounts (f : Files) (s : TableSchema) (x : Snapshot) (c : Contents) (live : Live) : Type 0 where
  pub live_entries : List files.Entry
  pub are_live : AreLive live live_entries
  pub total : x.total ≡ pos (rows_in_files live_entries)
  pub delta_entries : List files.Entry
  pub have : HaveEntries f s c.delta delta_entries
  pub delta : x.delta ≡ rows_added delta_entries
  pub changelog : unwrap_or x.changelog (pos 0) ≡ pos (rows_in_files c.changes)
