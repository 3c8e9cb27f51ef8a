-- What merging makes of runs.
use Rattle.std.specs.Prelude.{◌↔◌, ◌≡◌, List, [], ◌∷◌, ◌++◌, filter, map, not, All, Vec}
use Rattle.std.specs.List.{AllByRecursion, flat_map}
use Rattle.std.specs.declared.alloc.Global.{Global}
use Rattle.pm_values.specs.Order.{Values}
use Rattle.pm_values.specs.declared.record.Stamped.{Stamped}
use Rattle.pm_model_history.specs.Merge.{HistoryRow}
use Rattle.pm_engine.specs.Covers.{Covers, CoversAll, CoversKey, IsRising, Run, of_key, row_of}
use Rattle.pm_engine.specs.Meaning.{Meaning, SpeaksFor}
use Rattle.pm_engine.specs.Reducing.{HasGreatestNumbers, HasKindOf}

-- the runs without where they lie in memory
abbrev pub runs_of : List (Vec Stamped Global) → List Run
runs_of = map (λ (run : Vec Stamped Global). run.items)

-- the stored rows of all runs, from the oldest run on
abbrev pub all_rows : List Run → List Stamped
all_rows runs = flat_map (λ (run : Run). run) runs

-- the run without its droppable rows
abbrev pub without_droppable : Meaning → Run → Run
without_droppable m run = filter (λ (s : Stamped). not (m.drops (row_of s))) run

-- each stored row has its own kind: that of the row alone
abbrev pub HaveOwnKinds : Meaning → List Stamped → Type 0
HaveOwnKinds m rows = AllByRecursion (λ (s : Stamped). s.kind ≡ m.kind (row_of s ∷ [])) rows

-- a stored row has the kind of the rows of its key, where these have their own
abbrev pub HasOwnKinds : Meaning → Stamped → List Stamped → Type 0
HasOwnKinds m s rows = HaveOwnKinds m rows → HasKindOf m s rows

-- runs of stored rows: they rise, and each row speaks for itself and has its own kind
pub record AreStored (m : Meaning) (runs : List Run) : Type 0 where
  pub rising : All IsRising runs
  pub speak : AllByRecursion (λ (s : Stamped). SpeaksFor m s.key (row_of s) (row_of s ∷ [])) (all_rows runs)
  pub kinds : HaveOwnKinds m (all_rows runs)

-- of each key the run covers what the runs cover, and the same first rows are missing
abbrev pub CoversTheSame : Meaning → List Run → Run → Type 0
CoversTheSame m runs run =
    (key : Values) (missing rows : List HistoryRow) → CoversKey m key runs missing rows
    → CoversKey m key (run ∷ []) missing rows

-- a run in which nothing of the runs is lost: it rises, has the keys that they have, each stored row has the greatest
-- number of its key, and the kind of its key's rows where these have their own, one that is alone of its key stays as
-- it is, and of each key the run covers what they cover
pub record IsMerge (m : Meaning) (runs : List Run) (run : Run) : Type 0 where
  pub rising : IsRising run
  pub keys : (key : Values) → (of_key key run ≡ []) ↔ (of_key key (all_rows runs) ≡ [])
  pub numbers : HasGreatestNumbers run (all_rows runs)
  pub kinds : AllByRecursion (λ (s : Stamped). HasOwnKinds m s (of_key s.key (all_rows runs))) run
  pub kept : (key : Values) (s : Stamped) → of_key key (all_rows runs) ≡ s ∷ [] → of_key key run ≡ s ∷ []
  pub covers : CoversTheSame m runs run

-- the run in the place of the runs, between whatever others: all of them cover the rows that were covered
pub record Replaces (m : Meaning) (runs : List Run) (run : Run) : Type 0 where
  pub some : (older newer : List Run) (rows : List HistoryRow) → Covers m (older ++ (runs ++ newer)) rows
      → Covers m (older ++ run ∷ newer) rows
  pub all : (older newer : List Run) (rows : List HistoryRow) → CoversAll m (older ++ (runs ++ newer)) rows
      → CoversAll m (older ++ run ∷ newer) rows

-- the run in the place of the runs, of which none is older: with the newer ones it covers the rows that were covered
abbrev pub ReplacesOldest : Meaning → List Run → Run → Type 0
ReplacesOldest m runs run =
    (newer : List Run) (rows : List HistoryRow) → Covers m (runs ++ newer) rows → Covers m (run ∷ newer) rows
