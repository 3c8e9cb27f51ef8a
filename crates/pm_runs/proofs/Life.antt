-- What becomes of a group's runs by numbers alone, without entries: the induction is done here.
use Rattle.std.specs.Prelude.{◌≡◌, ◌≢◌, ◌⊎◌, ℕ, suc, ◌<◌, ◌≤◌, max, List, [], ◌∷◌, ◌++◌, filter, Bool, ◌==◌, nat_lt, Contains}
use Rattle.std.specs.List.{AllByRecursion}
use Rattle.pm_model_history.specs.Merge.{HistoryRow}
use Rattle.pm_engine.specs.Covers.{Covers, CoversAll, Run}
use Rattle.pm_engine.specs.Meaning.{Meaning}
use Rattle.pm_runs.specs.Succession.{KnownRun, StandOnce, TakeOldestPlace, TakePlace, from_oldest}

-- the run is one of these
abbrev pub IsIn : KnownRun → List KnownRun → Type 0
IsIn r runs = Contains runs r

-- what the law of runs that are added says
abbrev pub AddedSome : Type 0
AddedSome = (m : Meaning) (runs : List Run) (run : Run) (rows more : List HistoryRow) → Covers m runs rows → CoversAll m (run ∷ []) more
    → Covers m (runs ++ run ∷ []) (rows ++ more)

abbrev pub AddedAll : Type 0
AddedAll = (m : Meaning) (runs : List Run) (run : Run) (rows more : List HistoryRow) → CoversAll m runs rows → CoversAll m (run ∷ []) more
    → CoversAll m (runs ++ run ∷ []) (rows ++ more)

-- the rows of the runs of such a level, the oldest run first
abbrev pub oldest_such : (ℕ → Bool) → List KnownRun → List Run
oldest_such such runs = from_oldest (filter (λ (r : KnownRun). such r.level) runs)

-- a group at a snapshot: its runs, newest first; and the greatest base of a compaction of it, and of one that took in
-- the whole group
pub record State : Type 0 where
  pub runs : List KnownRun
  pub zero : ℕ
  pub top : ℕ

-- the group's rows by entries: those up to an entry, and those after one up to another
pub record Rows : Type 0 where
  pub up_to : ℕ → List HistoryRow
  pub since : ℕ → ℕ → List HistoryRow
  pub joined : (a b c : ℕ) → a ≤ b → b ≤ c → since a c ≡ since a b ++ since b c
  pub both : (a b : ℕ) → a ≤ b → up_to b ≡ up_to a ++ since a b
  pub none : (a : ℕ) → since a a ≡ []

-- the five sentences of a folder
pub record Stand (m : Meaning) (top : ℕ) (rows : Rows) (n : ℕ) (a : State) : Type 0 where
  pub all : Covers m (from_oldest a.runs) (rows.up_to n)
  pub above_zero : Covers m (oldest_such (λ level. nat_lt 0 level) a.runs) (rows.up_to a.zero)
  pub at_zero : CoversAll m (oldest_such (λ level. level == 0) a.runs) (rows.since a.zero n)
  pub at_top : Covers m (oldest_such (λ level. level == top) a.runs) (rows.up_to a.top)
  pub below_top : CoversAll m (oldest_such (λ level. nat_lt level top) a.runs) (rows.since a.top n)

-- what a compaction took at its base: the first runs there, all at most at its level; and what was left is above
pub record Took (a : State) (taken rest : List KnownRun) (out : ℕ) : Type 0 where
  pub was : a.runs ≡ taken ++ rest
  pub some : taken ≢ []
  pub low : AllByRecursion (λ (r : KnownRun). r.level ≤ out) taken
  pub high : AllByRecursion (λ (r : KnownRun). out < r.level) rest
  pub positive : 1 ≤ out

-- runs in the place of what was taken, of which nothing older is left where rows are dropped
abbrev pub MayReplace : Meaning → ℕ → ℕ → List KnownRun → List KnownRun → List KnownRun → Type 0
MayReplace m top out taken older made = TakePlace m (from_oldest taken) (from_oldest made)
    ⊎ ((out ≡ top) × (older ≡ []) × TakeOldestPlace m (from_oldest taken) (from_oldest made))

-- a compaction: what it took at its base still stands, together, and is replaced by runs that are new
pub record IsCompacted (m : Meaning) (top first : ℕ) (rows : Rows) (life : ℕ → State) (n : ℕ) (a b : State) : Type 0 where
  pub base : ℕ
  pub from : first ≤ base
  pub after_origin : 1 ≤ base
  pub before : base ≤ n
  pub taken : List KnownRun
  pub rest : List KnownRun
  pub out : ℕ
  pub within : out ≤ top
  pub took : Took (life base) taken rest out
  pub later : List KnownRun
  pub older : List KnownRun
  pub made : List KnownRun
  pub was : a.runs ≡ later ++ (taken ++ older)
  pub is : b.runs ≡ later ++ (made ++ older)
  pub new : AllByRecursion (λ (r : KnownRun). r.level ≡ out) made
  pub newest : AllByRecursion (λ (r : KnownRun). (t : KnownRun) × IsIn t taken × (r.newest ≡ t.newest)) made
  pub fresh : AllByRecursion (λ (r : KnownRun). (k : ℕ) → first ≤ k → k ≤ n → IsIn r (life k).runs → ⊥) made
  pub replaces : MayReplace m top out taken older made
  pub zero : b.zero ≡ max a.zero base
  pub whole : ((out ≡ top) × (b.top ≡ max a.top base)) ⊎ ((out < top) × (b.top ≡ a.top))
  pub none : rows.since n (suc n) ≡ []

-- what one entry more makes of a group
pub data Step (m : Meaning) (top first : ℕ) (rows : Rows) (life : ℕ → State) (n : ℕ) : State → State → Type 0 where
  stays : {a b : State} → b ≡ a → rows.since n (suc n) ≡ [] → Step m top first rows life n a b
  appended : {a b : State} (run : KnownRun) → run.level ≡ 0 → run.newest ≡ suc n
      → ((k : ℕ) → first ≤ k → k ≤ n → IsIn run (life k).runs → ⊥)
      → CoversAll m (run.rows ∷ []) (rows.since n (suc n)) → b.runs ≡ run ∷ a.runs → b.zero ≡ a.zero → b.top ≡ a.top
      → Step m top first rows life n a b
  compacted : {a b : State} → IsCompacted m top first rows life n a b → Step m top first rows life n a b

-- a group's life: what is known at each snapshot, from one on up to another
pub record IsLife (m : Meaning) (top first : ℕ) (rows : Rows) (life : ℕ → State) (last : ℕ) : Type 0 where
  pub stand : (n : ℕ) → first ≤ n → n ≤ last → Stand m top rows n (life n)
  pub once : (n : ℕ) → first ≤ n → n ≤ last → StandOnce (life n).runs
  pub known : (n : ℕ) → first ≤ n → n ≤ last → AllByRecursion (λ (r : KnownRun). r.newest ≤ n) (life n).runs
  pub levels : (n : ℕ) → first ≤ n → n ≤ last → AllByRecursion (λ (r : KnownRun). r.level ≤ top) (life n).runs
  pub bases : (n : ℕ) → first ≤ n → n ≤ last → ((life n).zero < n) ⊎ (n ≡ 0)
  pub tops : (n : ℕ) → first ≤ n → n ≤ last → (life n).top ≤ (life n).zero
  pub grows : (n k : ℕ) → first ≤ n → n ≤ k → k ≤ last → (life n).zero ≤ (life k).zero
  pub steps : (n : ℕ) → first ≤ n → n < last → Step m top first rows life n (life n) (life (suc n))

-- Where the runs are to which a compaction began: what came since is before them and covers what was appended since;
-- they and those after them cover the rows up to its base.
pub record CaughtUp (m : Meaning) (rows : Rows) (life : ℕ → State) (base : ℕ) (taken rest : List KnownRun) (out n : ℕ)
    : Type 0 where
  pub later : List KnownRun
  pub older : List KnownRun
  pub is : (life n).runs ≡ later ++ (taken ++ older)
  pub covers : Covers m (from_oldest (taken ++ older)) (rows.up_to base)
  pub covers_later : CoversAll m (from_oldest later) (rows.since base n)
  pub newer : AllByRecursion (λ (r : KnownRun). base < r.newest) later
  pub known : AllByRecursion (λ (r : KnownRun). r.newest ≤ base) older
  pub below : AllByRecursion (λ (r : KnownRun). (r.level ≡ 0) ⊎ AllByRecursion (λ (t : KnownRun). r.level < t.level) taken) later
  pub high : AllByRecursion (λ (r : KnownRun). out < r.level) older
  pub position : (((life n).zero < base) × AllByRecursion (λ (r : KnownRun). r.level ≡ 0) later
      × (rows.since (life base).zero (life n).zero ≡ []))
      ⊎ ((base < (life n).zero) × AllByRecursion (λ (t : KnownRun). 0 < t.level) taken)
  pub tops : (life n).top < base
  pub same_top : rest ≡ [] → (older ≡ []) × ((life n).top ≡ (life base).top)

-- each of the runs that were taken is still there
abbrev pub AreThere : List KnownRun → State → Type 0
AreThere taken a = (r : KnownRun) → IsIn r taken → IsIn r a.runs
