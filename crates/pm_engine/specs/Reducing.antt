-- What reducing rows makes of their numbers and kinds, and, private, its single steps.
use Rattle.std.specs.Prelude.{◌≡◌, ◌≢◌, ℕ, List, [], ◌∷◌, ◌++◌, map, max, false, true, None, IfSome}
use Rattle.std.specs.List.{AllByRecursion, last_or}
use Rattle.std.specs.Ordering.{eq_by_cmp}
use Rattle.pm_values.specs.Order.{Values, key_cmp}
use Rattle.pm_values.specs.declared.record.Stamped.{Stamped}
use Rattle.pm_model_history.specs.Merge.{HistoryRow}
use Rattle.pm_model_history.specs.declared.verdict.Verdict.TheVariants.{Take}
use Rattle.pm_engine.specs.Covers.{IsKeyed, Run, of_key, row_of}
use Rattle.pm_engine.specs.Meaning.{Meaning, SpeaksFor, stored_of}

-- the greatest number of rows, 0 where there is none
abbrev pub greatest_number : Run → ℕ
greatest_number [] = 0
greatest_number (s ∷ ss) = max s.seq (greatest_number ss)

-- each stored row has the greatest number of the rows of its key
abbrev pub HasGreatestNumbers : Run → List Stamped → Type 0
HasGreatestNumbers run rows = AllByRecursion (λ (s : Stamped). s.seq ≡ greatest_number (of_key s.key rows)) run

-- a stored row has the kind of the rows of its key, of which there are some
pub record HasKindOf (m : Meaning) (s : Stamped) (rows : List Stamped) : Type 0 where
  pub some : rows ≢ []
  pub kind : s.kind ≡ m.kind (map row_of rows)

-- each stored row has the kind of the rows of its key
abbrev pub HasKinds : Meaning → Run → List Stamped → Type 0
HasKinds m run rows = AllByRecursion (λ (s : Stamped). HasKindOf m s (of_key s.key rows)) run

-- each row of a run is the stored row of the rows of its key
abbrev pub AreStoredRows : Meaning → Run → List Stamped → Type 0
AreStoredRows m run rows =
    AllByRecursion (λ (s : Stamped). row_of s ≡ stored_of m (map row_of (of_key s.key rows))) run

-- a row became a stored row
pub record IsLifted (m : Meaning) (row stored : Stamped) : Type 0 where
  pub same_key : stored.key ≡ row.key
  pub number : stored.seq ≡ row.seq
  pub kind : stored.kind ≡ m.kind (row_of row ∷ [])
  pub speaks : IsKeyed m row → SpeaksFor m row.key (row_of stored) (row_of row ∷ [])

-- each row of a kind that is taken is its own stored row
abbrev pub StoresRows : Meaning → Type 0
StoresRows m = (row : Stamped) → m.verdict row.kind ≡ Take → IsLifted m row row

-- two stored rows of a key became one: it has the greater number, the kind of all rows of which both have the kinds,
-- and it speaks for what both speak for
pub record IsCombined (m : Meaning) (older newer stored : Stamped) : Type 0 where
  pub same_key : stored.key ≡ older.key
  pub number : stored.seq ≡ max older.seq newer.seq
  pub kind : (before after : List HistoryRow) → before ≢ [] → after ≢ [] → older.kind ≡ m.kind before
      → newer.kind ≡ m.kind after → stored.kind ≡ m.kind (before ++ after)
  pub speaks : (key : Values) (before after : List HistoryRow) → SpeaksFor m key (row_of older) before
      → SpeaksFor m key (row_of newer) after → SpeaksFor m key (row_of stored) (before ++ after)

-- Private: the last key isn't this one
abbrev pub EndsApart : Run → Values → Type 0
EndsApart run key = IfSome (last_or None run) (λ last. eq_by_cmp key_cmp last.key key ≡ false)

-- Private: what one row more makes of a run, of which no key is above the row's
pub data Puts (m : Meaning) (old : Run) (row : Stamped) : Run → Type 0 where
  -- it is the first of its key
  begins : (stored : Stamped) → IsLifted m row stored → EndsApart old row.key → Puts m old row (old ++ stored ∷ [])
  -- it goes to the last one, which has its key
  joins : (others : Run) (last lifted stored : Stamped) → old ≡ others ++ last ∷ []
      → eq_by_cmp key_cmp last.key row.key ≡ true → IsLifted m row lifted → IsCombined m last lifted stored
      → Puts m old row (others ++ stored ∷ [])
