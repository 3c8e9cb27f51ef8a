-- What snapshots bear of the entries of a history, and lines of them.
use Rattle.std.specs.Prelude.{◌≡◌, ◌↔◌, ℕ, ◌≤◌, ℤ, int_lt, List, length, map, Option, None, Some, false, Contains}
use Rattle.std.specs.List.{AllByRecursion}
use Rattle.std.specs.List.Sorted.{IsStrictlyIncreasing}
use Rattle.pm_store.specs.Files.{Files}
use Rattle.pm_model_history.specs.History.{Entry, append}
use Rattle.pm_snapshot.specs.declared.snapshot.Snapshot.{Snapshot}
use Rattle.pm_model_folder.specs.Entries.{entry_at}
use Rattle.pm_model_folder.specs.Meaning.{SnapshotAt}
use Rattle.pm_snapshots.specs.declared.line.SnapshotLine.{SnapshotLine}

-- a line of a snapshot bears the user and the identifier of its entry, where that is one of rows
abbrev pub LineBears : Option Entry → SnapshotLine → Type 0
LineBears (Some (append user identifier rows)) l = (l.user ≡ user) × (l.ident ≡ identifier)
LineBears (Some other) l = Unit {0}
LineBears None l = ⊥

-- lines of snapshots, rising: of all from some id on, the newest among them, each of its entry
pub record AreLines (entries : List Entry) (lines : List SnapshotLine) : Type 0 where
  pub least : ℕ
  pub some : least ≤ length entries
  pub rising : IsStrictlyIncreasing (map (λ l. l.id) lines)
  pub exact : (id : ℕ) → Contains (map (λ l. l.id) lines) id ↔ ((1 ≤ id) × (least ≤ id) × (id ≤ length entries))
  pub each : AllByRecursion (λ (l : SnapshotLine). LineBears (entry_at entries l.id) l) lines

-- an entry of rows is the user's, and its identifier isn't smaller
abbrev pub HasReached : List ℕ → ℤ → Entry → Type 0
HasReached user identifier (append name number rows) = (name ≡ user) × (int_lt number identifier ≡ false)
HasReached user identifier other = Unit {0}

-- the snapshot with this id, of whatever entry, bears the user and an identifier that isn't smaller
abbrev pub IsReachedAt : ℕ → List ℕ → ℤ → Files → Type 0
IsReachedAt id user identifier f =
    (x : Snapshot) × SnapshotAt f id x × (x.user ≡ user) × (int_lt x.ident identifier ≡ false)
