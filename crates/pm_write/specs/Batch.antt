-- What the rows of a batch become: of each group one run, whose numbers count the group's rows from 0, and its log.
use Rattle.std.specs.Prelude.{◌≡◌, ℕ, ◌+◌, ◌<◌, List, [], ◌∷◌, length, map, Option, Some, None, IsTrue}
use Rattle.std.specs.Prelude.{Result, Ok, Err}
use Rattle.std.specs.BTreeMap.{is_at}
use Rattle.std.specs.List.{AllByRecursion}
use Rattle.std.specs.List.Sorted.{IsStrictlySortedBy}
use Rattle.std.specs.Map.{keys_of, lookup}
use Rattle.pm_base.specs.Outcome.{Fails}
use Rattle.pm_values.specs.GroupOrder.{group_cmp}
use Rattle.pm_values.specs.declared.group.Group.{Group}
use Rattle.pm_values.specs.declared.record.Change.{Change}
use Rattle.pm_values.specs.declared.record.Stamped.{Stamped}
use Rattle.pm_values.specs.declared.refusal.Refusal.{Refusal}
use Rattle.pm_options.specs.declared.kinds.Producer.{Producer}
use Rattle.pm_options.specs.declared.kinds.Producer.TheVariants as producers
use Rattle.pm_schema.specs.declared.schema.TableSchema.{TableSchema}
use Rattle.pm_model_history.specs.Merge.{HistoryRow, rows_of}
use Rattle.pm_model_history.specs.Merged.{primary_of}
use Rattle.pm_model_history.specs.Taken.{stores}
use Rattle.pm_engine.specs.Covers.{CoversAll, IsKeyed, IsRising, Run, row_of}
use Rattle.pm_engine.specs.Meaning.{stored_of}
use Rattle.pm_engine.specs.OfSchema.{meaning_of}
use Rattle.pm_engine.specs.Reducing.{HasGreatestNumbers, greatest_number}
use Rattle.pm_model_following.specs.Following.{by_key}
use Rattle.pm_model_following.specs.Groups.{rows_in}
use Rattle.pm_changelog.specs.GroupLog.{IsGroupLog}
use Rattle.pm_input.specs.Rows.{refusal_in}
use Rattle.pm_write.specs.Taken.{stamped}

-- the rows of a group: how many the table took, the stored row of each key, and the log of its changelog file
pub record GroupRows : Type 0 where
  pub count : ℕ
  pub run : Run
  pub log : List Change

-- the groups of a batch, by rising group
abbrev pub Groups : Type 0
Groups = List (Group × GroupRows)

-- a stored row of a group of so many rows: it fits, with its own key, its kind may be stored, and its number is that
-- of one of the rows
pub record IsStoredRow (s : TableSchema) (count : ℕ) (x : Stamped) : Type 0 where
  pub keyed : IsKeyed (meaning_of s) x
  pub kind : IsTrue (stores s x.kind)
  pub below : x.seq < count

-- rows with their keys, their numbers counted from this one
abbrev pub all_stamped : List ℕ → ℕ → List HistoryRow → Run
all_stamped primary n [] = []
all_stamped primary n (row ∷ rows) = stamped primary n row ∷ all_stamped primary (n + 1) rows

-- each row of a run is the stored row of the rows of its key
abbrev pub AreStoredOf : TableSchema → List HistoryRow → Run → Type 0
AreStoredOf s rows run =
    AllByRecursion (λ (x : Stamped). row_of x ≡ stored_of (meaning_of s) (rows_of (primary_of s) x.key rows)) run

-- The log that is kept of rows of a group: with the producer of inputs it tells all of them by key, with others it
-- tells nothing.
abbrev pub KeepsLog : Producer → TableSchema → List HistoryRow → List Change → Type 0
KeepsLog producers.Input s rows log = IsGroupLog s (by_key s rows) log
KeepsLog producer s rows log = log ≡ []

-- What rows of a group become: the stored row of each key's rows, by rising key, which cover the rows. Each has the
-- number of its key's last row, so that the greatest is that of the last row of all.
pub record AreRowsOf (s : TableSchema) (rows : List HistoryRow) (x : GroupRows) : Type 0 where
  pub count : x.count ≡ length rows
  pub rising : IsRising x.run
  pub covers : CoversAll (meaning_of s) (x.run ∷ []) rows
  pub stored : AreStoredOf s rows x.run
  pub each : AllByRecursion (IsStoredRow s x.count) x.run
  pub numbers : HasGreatestNumbers x.run (all_stamped (primary_of s) 0 rows)
  pub last : greatest_number x.run + 1 ≡ x.count
  pub log : KeepsLog s.options.producer s rows x.log

-- what a batch has of a group with these rows: nothing where there is none
abbrev pub HoldsRows : TableSchema → List HistoryRow → Option GroupRows → Type 0
HoldsRows s [] held = held ≡ None
HoldsRows s (row ∷ rows) None = ⊥
HoldsRows s (row ∷ rows) (Some x) = AreRowsOf s (row ∷ rows) x

-- what a batch has of a group
abbrev pub held_of : Group → Groups → Option GroupRows
held_of g batch = lookup (is_at (group_cmp g)) batch

-- a group of a batch with its log
abbrev pub group_log : Group × GroupRows → Group × List Change
group_log e = (e.0, e.1.log)

-- Private: a group with its log before others, where it tells something
abbrev pub with_log : Group → List Change → List (Group × List Change) → List (Group × List Change)
with_log g [] logs = logs
with_log g (c ∷ log) logs = (g, c ∷ log) ∷ logs

-- the groups of a batch whose log tells something, each with it
abbrev pub logs_in : Groups → List (Group × List Change)
logs_in [] = []
logs_in (e ∷ batch) = with_log e.0 e.1.log (logs_in batch)

-- a batch of rows: its groups rise, and it has of each group what the group's rows become
pub record IsBatchOf (s : TableSchema) (rows : List HistoryRow) (batch : Groups) : Type 0 where
  pub ordered : IsStrictlySortedBy group_cmp (keys_of batch)
  pub held : (g : Group) → HoldsRows s (rows_in s g rows) (held_of g batch)

-- A call gave a batch of the taken rows, or the first refusal; out of memory alone is free.
abbrev pub ReadsBatch : TableSchema → Result Groups Refusal → Result (List HistoryRow) Refusal → Type 0
ReadsBatch s (Ok batch) taken = (rows : List HistoryRow) × (taken ≡ Ok rows) × IsBatchOf s rows batch
ReadsBatch s (Err e) taken = Fails (refusal_in e) taken

-- a run with a number added to each of its rows' numbers
abbrev pub numbered : ℕ → Run → Run
numbered n run = map (λ (x : Stamped). record x { seq = n + x.seq }) run
