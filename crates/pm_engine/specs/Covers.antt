-- When runs cover rows: for each key, each run has one stored row that speaks for its part of the key's rows.
use Rattle.std.specs.Prelude.{◌≡◌, ◌⊎◌, List, [], ◌∷◌, ◌++◌, filter, map}
use Rattle.std.specs.List.{AllZip, flat_map}
use Rattle.std.specs.List.Sorted.{IsStrictlySortedBy}
use Rattle.std.specs.Ordering.{eq_by_cmp}
use Rattle.pm_values.specs.Fits.{Fits}
use Rattle.pm_values.specs.Order.{Values, key_cmp}
use Rattle.pm_values.specs.declared.record.Stamped.{Stamped}
use Rattle.pm_model_history.specs.Merge.{HistoryRow, key_of, rows_of}
use Rattle.pm_engine.specs.Meaning.{Meaning, HasNoEffect, SpeaksFor}

-- a run of stored rows
abbrev pub Run : Type 0
Run = List Stamped

-- a stored row without its key and its number
abbrev pub row_of : Stamped → HistoryRow
row_of s = (s.kind, s.row)

-- the row fits, and the key beside it is its own
pub record IsKeyed (m : Meaning) (s : Stamped) : Type 0 where
  pub fits : Fits m.columns s.row
  pub own : key_of m.primary s.row ≡ s.key

-- the keys of a run rise
abbrev pub IsRising : Run → Type 0
IsRising run = IsStrictlySortedBy key_cmp (map (λ (s : Stamped). s.key) run)

-- the rows of a run that have the key
abbrev pub of_key : Values → Run → Run
of_key key run = filter (λ (s : Stamped). eq_by_cmp key_cmp key s.key) run

-- the stored rows that runs have of a key, from the oldest run on
abbrev pub stored_rows : Values → List Run → List HistoryRow
stored_rows key runs = flat_map (λ (run : Run). map row_of (of_key key run)) runs

-- what a run has of a key: nothing where the part is empty, else one row that speaks for the part
abbrev pub Holds : Meaning → Values → Run → List HistoryRow → Type 0
Holds m key [] part = part ≡ []
Holds m key (s ∷ []) part = SpeaksFor m key (row_of s) part
Holds m key own part = ⊥

-- the rows of a key are those that are missing, and then one part for each run, the oldest first
pub record CoversKey (m : Meaning) (key : Values) (runs : List Run) (missing rows : List HistoryRow) : Type 0 where
  pub parts : List (List HistoryRow)
  pub split : rows ≡ missing ++ flat_map (λ part. part) parts
  pub holds : AllZip (λ (run : Run) (part : List HistoryRow). Holds m key (of_key key run) part) runs parts

-- rows that no run needs to hold, before all others of the key: none, or rows without effect
abbrev pub MayBeMissing : Meaning → Values → List HistoryRow → Type 0
MayBeMissing m key missing = (missing ≡ []) ⊎ HasNoEffect m key missing

-- the runs cover the rows: of each key at most its first rows are missing, and these have no effect
abbrev pub Covers : Meaning → List Run → List HistoryRow → Type 0
Covers m runs rows =
    (key : Values) → (missing : List HistoryRow) × MayBeMissing m key missing
    × CoversKey m key runs missing (rows_of m.primary key rows)

-- the runs cover the rows, and nothing is missing
abbrev pub CoversAll : Meaning → List Run → List HistoryRow → Type 0
CoversAll m runs rows = (key : Values) → CoversKey m key runs [] (rows_of m.primary key rows)
