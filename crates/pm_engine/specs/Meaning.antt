-- What an engine means, and when a stored row speaks for rows of its key.
use Rattle.std.specs.Prelude.{◌≡◌, ◌≢◌, ℕ, List, [], ◌∷◌, ◌++◌, length, map, Bool, true, false, IsTrue}
use Rattle.std.specs.List.{AllByRecursion, range_with_len}
use Rattle.pm_values.specs.Fits.{Fits}
use Rattle.pm_values.specs.Order.{Values}
use Rattle.pm_values.specs.declared.column.Column.{Column}
use Rattle.pm_values.specs.declared.kind.Kind.{Kind}
use Rattle.pm_values.specs.declared.value.Value.{Value}
use Rattle.pm_model_history.specs.Merge.{HistoryRow, key_of, value_at}
use Rattle.pm_model_history.specs.declared.verdict.Verdict.{Verdict}
use Rattle.pm_model_history.specs.declared.verdict.Verdict.TheVariants.{Take}

-- What an engine means: the columns that rows fit, and the indexes of those of the key; the verdict on a row by its
-- kind; which kinds a stored row may have, and which one the stored row of rows of a key has; what a column is worth
-- over these rows, and whether a key with them shows; which stored rows are left out where nothing older is left.
pub record Meaning : Type 0 where
  pub columns : List Column
  pub primary : List ℕ
  pub verdict : Kind → Verdict
  pub stores : Kind → Bool
  pub kind : List HistoryRow → Kind
  pub value : ℕ → List HistoryRow → Value
  pub shows : List HistoryRow → Bool
  pub drops : HistoryRow → Bool

-- a taken row of a key: it fits the columns, its kind is taken, and it has the key
pub record IsTaken (m : Meaning) (key : Values) (r : HistoryRow) : Type 0 where
  pub fits : Fits m.columns r.1
  pub verdict : m.verdict r.0 ≡ Take
  pub of_key : key_of m.primary r.1 ≡ key

-- taken rows of a key
abbrev pub AreTaken : Meaning → Values → List HistoryRow → Type 0
AreTaken m key rows = AllByRecursion (IsTaken m key) rows

-- two lists of rows are worth the same: each column has one value over both, and both show or neither does
pub record SameWorth (m : Meaning) (xs ys : List HistoryRow) : Type 0 where
  pub value : (index : ℕ) → m.value index xs ≡ m.value index ys
  pub shows : m.shows xs ≡ m.shows ys

-- The stored row speaks for the rows of its key, of which there are some: its kind is one of a stored row, in each
-- column it has what it is worth by itself, and among any rows of the key it is worth the same as they are.
pub record SpeaksFor (m : Meaning) (key : Values) (stored : HistoryRow) (rows : List HistoryRow) : Type 0 where
  pub some : rows ≢ []
  pub all_taken : AreTaken m key rows
  pub taken : IsTaken m key stored
  pub kind : IsTrue (m.stores stored.0)
  pub alone : (index : ℕ) → m.value index (stored ∷ []) ≡ value_at stored.1 index
  pub worth : (before after : List HistoryRow) → AreTaken m key before → AreTaken m key after
      → SameWorth m (before ++ (rows ++ after)) (before ++ stored ∷ after)

-- rows of a key that can be left out: by themselves they don't show, and before any later rows they change nothing
pub record HasNoEffect (m : Meaning) (key : Values) (rows : List HistoryRow) : Type 0 where
  pub hidden : m.shows rows ≡ false
  pub worth : (after : List HistoryRow) → after ≢ [] → AreTaken m key after → SameWorth m (rows ++ after) after

-- what each column is worth over rows of a key
abbrev pub values_over : Meaning → List HistoryRow → Values
values_over m rows = map (λ index. m.value index rows) (range_with_len 0 (length m.columns))

-- the stored row of rows of a key: it has their kind, and in each column what they are worth
abbrev pub stored_of : Meaning → List HistoryRow → HistoryRow
stored_of m rows = (m.kind rows, values_over m rows)

-- each kind that a stored row may have is its own: that of the row alone
abbrev pub KindsAreOwn : Meaning → Type 0
KindsAreOwn m = (r : HistoryRow) → IsTrue (m.stores r.0) → m.kind (r ∷ []) ≡ r.0

-- the stored rows that are left out have no effect
abbrev pub DropsNoEffect : Meaning → Type 0
DropsNoEffect m =
    (key : Values) (r : HistoryRow) → IsTaken m key r → m.drops r ≡ true → HasNoEffect m key (r ∷ [])
