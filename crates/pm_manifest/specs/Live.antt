-- What is live of each file after a list of entries, and which entries can follow others.
use Rattle.std.specs.Prelude.{◌≡◌, ℕ, ◌≤◌, not, if◌then◌else◌, Option, None, Some, is_some}
use Rattle.std.specs.Prelude.{List, length, take, filter, slice_get}
use Rattle.std.specs.List.{last_or}
use Rattle.std.specs.Option.{option_map_or}
use Rattle.pm_values.specs.declared.refusal.Refusal.{Refusal}
use Rattle.pm_values.specs.declared.refusal.Refusal.TheVariants as refusals
use Rattle.pm_manifest.specs.declared.entry.Entry.{Entry}
use Rattle.pm_manifest.specs.declared.file_id.FileId.{FileId}
use Rattle.pm_manifest.specs.FileId.{id_eq}

-- which file an entry is of
abbrev pub id_of : Entry → FileId
id_of e = record { group = e.group; name = e.file.name; level = e.file.level }

-- the last entry of a file, if there is one
abbrev pub last_of : FileId → List Entry → Option Entry
last_of id entries = last_or None (filter (λ (e : Entry). id_eq (id_of e) id) entries)

-- what an entry leaves of its file: itself where it is an ADD, nothing where it is a DELETE
abbrev pub left_by : Entry → Option Entry
left_by e = if e.add then Some e else None

-- What is live of a file after the entries: what the last entry of the file leaves, and what was live before where no
-- entry is of the file.
abbrev pub live_at : Option Entry → FileId → List Entry → Option Entry
live_at before id entries = option_map_or left_by (last_of id entries) before

-- what is live of each file: the entry that added it, if it is live
abbrev pub Live : Type 0
Live = FileId → Option Entry

-- what is live of each file after the entries
abbrev pub live_after : Live → List Entry → Live
live_after before entries id = live_at (before id) id entries

-- the entry can come next: it is an ADD of a file that isn't live, or a DELETE of one that is
abbrev pub CanFollow : Live → Entry → Type 0
CanFollow live e = is_some (live (id_of e)) ≡ not e.add

-- each entry can follow those before it
abbrev pub AreInOrder : Live → List Entry → Type 0
AreInOrder before entries =
    (i : ℕ) (e : Entry) → slice_get entries i ≡ Some e → CanFollow (live_after before (take i entries)) e

-- what is live in the end is what the entries leave
abbrev pub Leaves : Live → List Entry → Live → Type 0
Leaves before entries after = (id : FileId) → after id ≡ live_at (before id) id entries

-- the first n entries are in order, and what is live in the end is what they leave
pub record LeavesFirst (before : Live) (entries : List Entry) (after : Live) (n : ℕ) : Type 0 where
  pub within : n ≤ length entries
  pub order : AreInOrder before (take n entries)
  pub left : Leaves before (take n entries) after

-- the entry at the index can't follow those before it
abbrev pub IsOutOfOrder : Live → List Entry → ℕ → Type 0
IsOutOfOrder before entries i =
    (e : Entry) × (slice_get entries i ≡ Some e) × (CanFollow (live_after before (take i entries)) e → ⊥)

-- Why entries are refused, and what is live in the end. The manifest at the path is damaged at the first entry that
-- can't follow those before it. Memory may run out at any entry.
abbrev pub Refuses : List ℕ → List Entry → Live → Live → Refusal → Type 0
Refuses path entries before after refusals.Memory = (i : ℕ) × LeavesFirst before entries after i
Refuses path entries before after (refusals.Damaged at place) =
    (at ≡ path) × (place ≡ 0) × (i : ℕ) × IsOutOfOrder before entries i × LeavesFirst before entries after i
Refuses path entries before after other = ⊥

-- Private: why one entry is refused.
abbrev pub RefusesEntry : List ℕ → Live → Entry → Refusal → Type 0
RefusesEntry path live e refusals.Memory = Unit {0}
RefusesEntry path live e (refusals.Damaged at place) = (at ≡ path) × (place ≡ 0) × (CanFollow live e → ⊥)
RefusesEntry path live e other = ⊥
