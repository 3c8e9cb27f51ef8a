-- The log of a compaction, from the runs at the snapshot that it began from, for each producer; and which rows of a
-- group an entry passes on.
use Rattle.std.specs.Prelude.{◌≡◌, ◌≢◌, ℕ, ◌<◌, ◌≤◌, ◌==◌, nat_lt, Bool, true, false}
use Rattle.std.specs.Prelude.{List, [], ◌∷◌, ◌++◌, length, map, drop, take, Option, Some, None, if◌then◌else◌}
use Rattle.std.specs.FinMap.{FinMap, from_entries, keys}
use Rattle.std.specs.List.{AllByRecursion, flat_map}
use Rattle.std.specs.declared.cmp.Ordering.TheVariants.{Greater}
use Rattle.pm_options.specs.declared.kinds.Producer.{Producer}
use Rattle.pm_options.specs.declared.kinds.Producer.TheVariants as producers
use Rattle.pm_schema.specs.declared.schema.TableSchema.{TableSchema}
use Rattle.pm_values.specs.Order.{Values, key_cmp}
use Rattle.pm_values.specs.declared.group.Group.{Group}
use Rattle.pm_values.specs.declared.record.Stamped.{Stamped}
use Rattle.pm_model_history.specs.History.{Entry, entry_rows, rows_up_to}
use Rattle.pm_model_history.specs.Merge.{HistoryRow, key_of}
use Rattle.pm_model_history.specs.Merged.{primary_of, shows, values_of}
use Rattle.pm_model_following.specs.Following.{base_of, compacted, leaves_out_equal, told}
use Rattle.pm_model_following.specs.Groups.{group_of, rows_in}
use Rattle.pm_engine.specs.Covers.{Covers, CoversAll, Run, stored_rows}
use Rattle.pm_engine.specs.OfSchema.{meaning_of}
use Rattle.pm_runs.specs.Stand.{StoredRun, oldest_first, top_of}
use Rattle.pm_runs.specs.Succession.{KnownRun, without_files}

-- ---- the log

-- the row that a key shows with these rows
abbrev pub shown_of : TableSchema → List HistoryRow → Option Values
shown_of s rows = if shows s rows then Some (values_of s rows) else None

-- what is told of a key: what the older runs show of it before, and all of them now
abbrev pub told_by : TableSchema → List Run → List Run → Values → List HistoryRow
told_by s older newer key =
    told (leaves_out_equal s s.options.engine)
    (shown_of s (stored_rows key older)) (shown_of s (stored_rows key (older ++ newer)))

-- the keys of runs, by rising key
abbrev pub rising_keys : List Run → List Values
rising_keys runs =
    let rows : List Stamped = flat_map (λ (run : Run). run) runs in
    let table : FinMap key_cmp Stamped = from_entries (map (λ (r : Stamped). (r.key, r)) rows) in
    keys table

-- the log of runs that are put upon older ones: by rising key, what is told of each key of the newer runs
abbrev pub log_of : TableSchema → List Run → List Run → List HistoryRow
log_of s older newer = flat_map (told_by s older newer) (rising_keys newer)

-- ---- by producer

-- With look-ups it is the log of the runs at level 0 upon those above. With full compactions it is that of the others
-- upon the run at the highest level, where all runs go there. Else nothing is told.
abbrev pub log_by : Producer → TableSchema → Bool → List StoredRun → List HistoryRow
log_by producers.None s whole stored = []
log_by producers.Input s whole stored = []
log_by producers.Lookup s whole stored =
    log_of s (oldest_first (λ level. nat_lt 0 level) stored) (oldest_first (λ level. level == 0) stored)
log_by producers.FullCompaction s false stored = []
log_by producers.FullCompaction s true stored =
    log_of s (oldest_first (λ level. level == top_of s) stored) (oldest_first (λ level. nat_lt level (top_of s)) stored)

-- the rows that a compaction tells of a group with these runs at its base, newest first; it says of it whether all of
-- them go to the highest level
abbrev pub compaction_log : TableSchema → Bool → List KnownRun → List HistoryRow
compaction_log s whole runs = log_by s.options.producer s whole (map without_files runs)

-- ---- what an entry passes on

-- The producer compares what a key showed with what it shows, at compactions of the group, or at those alone that take
-- in the whole group.
abbrev pub Compares : Producer → Bool → Type 0
Compares producers.Lookup wholly = wholly ≡ false
Compares producers.FullCompaction wholly = wholly ≡ true
Compares producer wholly = ⊥

-- the runs of a group at the snapshot from which a compaction began: those whose rows were passed on there, and the
-- newer ones, both from the oldest run on
pub record Passing : Type 0 where
  pub base : ℕ
  pub older : List Run
  pub newer : List Run

-- The entry passes rows of a group on: it is a compaction of the group with a base above those before it. At its base
-- the older runs cover what was passed on, and the newer ones what wasn't, without lack. Since then no more rows of the
-- group were passed on.
pub record PassesOn (s : TableSchema) (g : Group) (entries : List Entry) (e : Entry) (wholly : Bool) (p : Passing)
    : Type 0 where
  pub named : base_of wholly g e ≡ Some p.base
  pub within : p.base ≤ length entries
  pub above : compacted wholly entries (length entries) g < p.base
  pub meanwhile : rows_in s g (rows_up_to entries (compacted wholly entries (length entries) g))
      ≡ rows_in s g (rows_up_to entries (compacted wholly entries p.base g))
  pub older_cover : Covers (meaning_of s) p.older
      (rows_in s g (rows_up_to entries (compacted wholly entries p.base g)))
  pub newer_cover : CoversAll (meaning_of s) p.newer
      (rows_in s g (flat_map entry_rows (drop (compacted wholly entries p.base g) (take p.base entries))))

-- the entry passes no row of the group on: it is no such compaction of it, or one before it has as great a base
abbrev pub PassesNothing : Group → List Entry → Entry → Bool → Type 0
PassesNothing g entries e wholly =
    (base : ℕ) → base_of wholly g e ≡ Some base → base ≤ compacted wholly entries (length entries) g

-- ---- keys

-- each row with the key lies in the group
abbrev pub IsKeyOf : TableSchema → Group → Values → Type 0
IsKeyOf s g key = (row : Values) → key_of (primary_of s) row ≡ key → group_of s row ≡ g

-- rows by rising key: no later one has a lower key
abbrev pub AreByKey : TableSchema → List HistoryRow → Type 0
AreByKey s [] = Unit {0}
AreByKey s (r ∷ rows) =
    AllByRecursion (λ (x : HistoryRow). key_cmp (key_of (primary_of s) r.1) (key_of (primary_of s) x.1) ≢ Greater) rows
    × AreByKey s rows
