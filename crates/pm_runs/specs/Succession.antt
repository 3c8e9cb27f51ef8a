-- How a group's runs at one snapshot follow those at the one before it, and where those stand that a compaction took.
-- No file is read here: which files a run has, and which rows these hold, a folder says.
use Rattle.std.specs.Prelude.{◌≡◌, ◌≢◌, ◌⊎◌, ℕ, suc, ◌<◌, ◌≤◌, List, [], ◌∷◌, ◌++◌, Contains}
use Rattle.std.specs.Prelude.{length, map, reverse, slice_get, Some, None, true, false}
use Rattle.std.specs.List.{AllByRecursion}
use Rattle.pm_values.specs.declared.file_meta.FileMeta.{FileMeta}
use Rattle.pm_values.specs.declared.group.Group.{Group}
use Rattle.pm_schema.specs.declared.schema.TableSchema.{TableSchema}
use Rattle.pm_model_history.specs.History.{Entry, entry_rows, rows_up_to}
use Rattle.pm_model_history.specs.Merge.{HistoryRow}
use Rattle.pm_model_following.specs.Following.{HaveBases, base_of, compacted}
use Rattle.pm_model_following.specs.Groups.{rows_in}
use Rattle.pm_engine.specs.Covers.{Covers, CoversAll, Run}
use Rattle.pm_engine.specs.Meaning.{Meaning}
use Rattle.pm_engine.specs.OfSchema.{meaning_of}
use Rattle.pm_runs.specs.Stand.{StandForRows, StoredRun, rows_after, top_of}

-- ---- runs as they are known

-- a run of a group: its level and its files, the number of the newest entry of which it may have rows, and its stored
-- rows
pub record KnownRun : Type 0 where
  pub level : ℕ
  pub files : List FileMeta
  pub newest : ℕ
  pub rows : Run

-- the run without its files
abbrev pub without_files : KnownRun → StoredRun
without_files run = record { level = run.level; rows = run.rows }

-- the stored rows of runs that are given newest first, from the oldest run on
abbrev pub from_oldest : List KnownRun → List Run
from_oldest runs = reverse (map (λ (run : KnownRun). run.rows) runs)

-- no run stands twice
abbrev pub StandOnce : List KnownRun → Type 0
StandOnce [] = Unit {0}
StandOnce (run ∷ older) = (Contains older run → ⊥) × StandOnce older

-- a file of two runs, the same by name and level, shows that they are one
abbrev pub FilesTellRuns : List KnownRun → Type 0
FilesTellRuns runs = (run other : KnownRun) (a b : FileMeta) → Contains runs run → Contains runs other
    → Contains run.files a → Contains other.files b → a.name ≡ b.name → a.level ≡ b.level → run ≡ other

-- of each run one file at least is, by name and level, a file of these
abbrev pub HaveFilesIn : List KnownRun → List KnownRun → Type 0
HaveFilesIn taken runs = (run : KnownRun) → Contains taken run
    → (other : KnownRun) × (a : FileMeta) × (b : FileMeta) × Contains runs other × Contains run.files a
    × Contains other.files b × (a.name ≡ b.name) × (a.level ≡ b.level)

-- The run is new after the snapshots from one on up to another: it has a file, and no file of it has the name of one
-- that the group had at any of them.
pub record IsNew (since : ℕ) (runs : ℕ → List KnownRun) (n : ℕ) (run : KnownRun) : Type 0 where
  pub some : run.files ≢ []
  pub names : (id : ℕ) (other : KnownRun) (a b : FileMeta) → since ≤ id → id ≤ n → Contains (runs id) other
      → Contains run.files a → Contains other.files b → a.name ≢ b.name

-- ---- runs in the place of others

-- the new runs take the place of the old ones, between whatever others: all of them cover the rows that were covered
pub record TakePlace (m : Meaning) (old new : List Run) : Type 0 where
  pub some : (older newer : List Run) (rows : List HistoryRow) → Covers m (older ++ (old ++ newer)) rows
      → Covers m (older ++ (new ++ newer)) rows
  pub all : (older newer : List Run) (rows : List HistoryRow) → CoversAll m (older ++ (old ++ newer)) rows
      → CoversAll m (older ++ (new ++ newer)) rows

-- they do so where none is older
abbrev pub TakeOldestPlace : Meaning → List Run → List Run → Type 0
TakeOldestPlace m old new =
    (newer : List Run) (rows : List HistoryRow) → Covers m (old ++ newer) rows → Covers m (new ++ newer) rows

-- the run, unless it has no row
abbrev pub unless_empty : Run → List Run
unless_empty [] = []
unless_empty (row ∷ rows) = (row ∷ rows) ∷ []

-- Those that were made may take the place of those that were taken. Stored rows are left out only where the runs go to
-- the highest level and none is older.
abbrev pub MayTakePlace : TableSchema → ℕ → List KnownRun → List KnownRun → List KnownRun → Type 0
MayTakePlace s out taken older made =
    TakePlace (meaning_of s) (from_oldest taken) (from_oldest made)
    ⊎ ((out ≡ top_of s) × (older ≡ []) × TakeOldestPlace (meaning_of s) (from_oldest taken) (from_oldest made))

-- ---- a compaction of a group

-- what a compaction took: the snapshot that it began from, which of the runs there, which it left, and the level to
-- which those that it took go
pub record Taking : Type 0 where
  pub base : ℕ
  pub taken : List KnownRun
  pub rest : List KnownRun
  pub out : ℕ

-- It began from a snapshot up to the one with the number, and took the newest of the group's runs there, none of them
-- above the level that they go to; each one that it left is above it.
pub record IsTaken (s : TableSchema) (since : ℕ) (runs : ℕ → List KnownRun) (n : ℕ) (t : Taking) : Type 0 where
  pub from : since ≤ t.base
  pub after_origin : 1 ≤ t.base
  pub to : t.base ≤ n
  pub was : runs t.base ≡ t.taken ++ t.rest
  pub some : t.taken ≢ []
  pub positive : 1 ≤ t.out
  pub within : t.out ≤ top_of s
  pub low : AllByRecursion (λ (run : KnownRun). run.level ≤ t.out) t.taken
  pub high : AllByRecursion (λ (run : KnownRun). t.out < run.level) t.rest

-- At most one run stands in the place of those that were taken, at the level that they go to. The entry says so: it
-- names the group with the compaction's base, and as whole exactly where that level is the highest.
pub record IsReplaced (s : TableSchema) (g : Group) (e : Entry) (t : Taking) (later older made new : List KnownRun)
    : Type 0 where
  pub is : new ≡ later ++ (made ++ older)
  pub one : length made ≤ 1
  pub levels : AllByRecursion (λ (run : KnownRun). run.level ≡ t.out) made
  pub place : MayTakePlace s t.out t.taken older made
  pub named : base_of false g e ≡ Some t.base
  pub whole : ((t.out ≡ top_of s) × (base_of true g e ≡ Some t.base))
      ⊎ ((t.out < top_of s) × (base_of true g e ≡ None))

-- a run has rows of entries up to the newest of which one of these has rows
pub record HasNewestOf (taken : List KnownRun) (run : KnownRun) : Type 0 where
  pub one : (other : KnownRun) × Contains taken other × (run.newest ≡ other.newest)
  pub greatest : AllByRecursion (λ (other : KnownRun). other.newest ≤ run.newest) taken

-- A compaction of the group: what it took at its base still stands, together, and at most one new run takes its place,
-- which may have rows up to the newest entry of theirs.
pub record Compacts (s : TableSchema) (g : Group) (since : ℕ) (runs : ℕ → List KnownRun) (n : ℕ) (e : Entry)
    (new : List KnownRun) : Type 0 where
  pub taking : Taking
  pub took : IsTaken s since runs n taking
  pub later : List KnownRun
  pub older : List KnownRun
  pub made : List KnownRun
  pub was : runs n ≡ later ++ (taking.taken ++ older)
  pub put : IsReplaced s g e taking later older made new
  pub newest : AllByRecursion (HasNewestOf taking.taken) made
  pub fresh : AllByRecursion (IsNew since runs n) made

-- ---- from snapshot to snapshot

-- what the entry after the first so many makes of a group's runs, newest first
pub data Follows (s : TableSchema) (g : Group) (since : ℕ) (runs : ℕ → List KnownRun) (n : ℕ) (e : Entry)
    (new : List KnownRun) : Type 0 where
  -- it has no row of the group, and is no compaction of it
  unchanged : new ≡ runs n → base_of false g e ≡ None → rows_in s g (entry_rows e) ≡ []
      → Follows s g since runs n e new
  -- a new run at level 0 has the entry's rows of the group
  grown : (run : KnownRun) → new ≡ run ∷ runs n → run.level ≡ 0 → run.newest ≡ suc n → IsNew since runs n run
      → rows_in s g (entry_rows e) ≢ []
      → CoversAll (meaning_of s) (run.rows ∷ []) (rows_in s g (entry_rows e)) → Follows s g since runs n e new
  -- it is a compaction of the group
  replaced : Compacts s g since runs n e new → Follows s g since runs n e new

-- what is known of a group's runs at a snapshot: they stand for its rows, each of them once, and files tell them apart;
-- none has rows of a later entry, and none is above the highest level
pub record AreKnownAt (s : TableSchema) (g : Group) (entries : List Entry) (n : ℕ) (runs : List KnownRun) : Type 0
  where
    pub stand : StandForRows s entries n g (map without_files runs)
    pub once : StandOnce runs
    pub told : FilesTellRuns runs
    pub newest : AllByRecursion (λ (run : KnownRun). run.newest ≤ n) runs
    pub levels : AllByRecursion (λ (run : KnownRun). run.level ≤ top_of s) runs

-- A group's runs from one snapshot on up to the newest: they are known at each, and at each next one they follow those
-- before.
pub record IsSuccession (s : TableSchema) (g : Group) (entries : List Entry) (since : ℕ) (runs : ℕ → List KnownRun)
    : Type 0 where
  pub bases : HaveBases 1 entries
  pub known : (n : ℕ) → since ≤ n → n ≤ length entries → AreKnownAt s g entries n (runs n)
  pub follows : (n : ℕ) (e : Entry) → since ≤ n → slice_get entries n ≡ Some e
      → Follows s g since runs n e (runs (suc n))

-- ---- what a compaction finds at the newest snapshot

-- No compaction of the group from the base or later came, those that came pass on no more of its rows, and all runs
-- that came since are at level 0. Or one from later did, and none of those that were taken is at level 0.
abbrev pub IsBetween : TableSchema → Group → List Entry → Taking → List KnownRun → Type 0
IsBetween s g entries t later =
    ((compacted false entries (length entries) g < t.base)
    × AllByRecursion (λ (run : KnownRun). run.level ≡ 0) later
    × (rows_in s g (rows_after entries (compacted false entries t.base g) (compacted false entries (length entries) g))
    ≡ []))
    ⊎ ((t.base < compacted false entries (length entries) g)
    × AllByRecursion (λ (run : KnownRun). 0 < run.level) t.taken)

-- Where the runs stand at the newest snapshot that a compaction took. Those that came since are before them, and cover
-- the rows after its base, of which nothing is missing; they and those after them cover the rows up to it.
pub record StillStands (s : TableSchema) (g : Group) (entries : List Entry) (runs : ℕ → List KnownRun) (t : Taking)
    : Type 0 where
  pub later : List KnownRun
  pub older : List KnownRun
  pub is : runs (length entries) ≡ later ++ (t.taken ++ older)
  pub covers : Covers (meaning_of s) (from_oldest (t.taken ++ older)) (rows_in s g (rows_up_to entries t.base))
  pub covers_later : CoversAll (meaning_of s) (from_oldest later)
      (rows_in s g (rows_after entries t.base (length entries)))
  -- those that came since are at level 0, or below each that was taken
  pub below : AllByRecursion (λ (run : KnownRun). (run.level ≡ 0)
      ⊎ AllByRecursion (λ (other : KnownRun). run.level < other.level) t.taken) later
  pub high : AllByRecursion (λ (run : KnownRun). t.out < run.level) older
  pub newer : AllByRecursion (λ (run : KnownRun). t.base < run.newest) later
  pub known : AllByRecursion (λ (run : KnownRun). run.newest ≤ t.base) older
  pub between : IsBetween s g entries t later
  pub whole_below : compacted true entries (length entries) g < t.base
  -- where all were taken, none is older, and no compaction of the whole group came since
  pub whole : t.rest ≡ [] → (older ≡ [])
      × (compacted true entries (length entries) g ≡ compacted true entries t.base g)
