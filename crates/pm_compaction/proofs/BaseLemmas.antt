-- What was taken of a group, as its files stood at the base.
use Rattle.std.proofs.Common.{◌≡◌, ℕ, zero, suc, ◌≤◌, max, All, List, [], ◌∷◌, ◌++◌, map, reverse, Contains, refl, sym, subst, arith}
use Rattle.std.specs.List.{AllByRecursion}
use Rattle.std.proofs.lemmas.List.Elements.{All-from_recursion}
use Rattle.std.proofs.lemmas.List.Sorted.{All-permutation, Contains-permutation, IsPermutation-reverse, IsPermutation-sym}
use Rattle.pm_base.proofs.Laws.{AllByRecursion-append}
use Rattle.pm_store.specs.Files.{Files}
use Rattle.pm_values.specs.declared.file_meta.FileMeta.{FileMeta}
use Rattle.pm_values.specs.declared.group.Group.{Group}
use Rattle.pm_values.specs.declared.record.Stamped.{Stamped}
use Rattle.pm_model_history.specs.History.{Entry}
use Rattle.pm_schema.specs.declared.schema.TableSchema.{TableSchema}
use Rattle.pm_engine.specs.Covers.{IsRising, Run}
use Rattle.pm_engine.specs.OfSchema.{meaning_of}
use Rattle.pm_merge.specs.Merge.{AreStored, all_rows}
use Rattle.pm_run.specs.Row.{most_sequence}
use Rattle.pm_run.specs.Writing.{first_sequence, greatest_of}
use Rattle.pm_snapshot.specs.declared.snapshot.Snapshot.{Snapshot}
use Rattle.pm_levels.specs.Runs.{RunView, files_of}
use Rattle.pm_manifest.specs.Live.{Live}
use Rattle.pm_manifest.specs.declared.entry.Entry as files
use Rattle.pm_model_contents.specs.Named.{Contents}
use Rattle.pm_model_contents.specs.Runs.{AreRunsOf, IsLive}
use Rattle.pm_model_folder.specs.Commits.{HasCommit, live_in}
use Rattle.pm_model_folder.specs.Runs.{AreInFiles, AreRunsAt, view_of}
use Rattle.pm_model_folder.specs.Stored.{HasRun, HaveFileRows}
use Rattle.pm_runs.specs.Succession.{AreKnownAt, KnownRun, from_oldest, without_files}
use Rattle.pm_compact.specs.Rewritten.{HaveFileNumbers}
use Rattle.pm_paths.proofs.ListLemmas.{here, more}
use Rattle.pm_made.proofs.EntryLemmas.{ReadEntries}
use Rattle.pm_made.proofs.ListLemmas.{all-of, each-of, in-map, map-in}
use Rattle.pm_compaction.proofs.EntryLemmas.{LeftJoined, live-can}
use Rattle.pm_compaction.proofs.ListLemmas.{flat-in, in-flat}

-- ---- the runs of a snapshot after the origin

pub record RunsThere (f : Files) (s : TableSchema) (id : ℕ) (g : Group) (runs : List RunView) : Type 0 where
  pub snapshot : Snapshot
  pub contents : Contents
  pub commit : HasCommit f s id snapshot contents
  pub own : AreRunsOf (live_in contents) g runs

pub runs-there : (f : Files) (s : TableSchema) (id : ℕ) (g : Group) (runs : List RunView) → 1 ≤ id → AreRunsAt f s id g runs → RunsThere f s id g runs
runs-there f s zero g runs some are = absurd (omega (arith, some))
runs-there f s (suc id) g runs some (x, c, commit, own) = record { snapshot = x; contents = c; commit = commit; own = own }

-- a file of a run is one of all files
pub file-in : (runs : List KnownRun) (r : KnownRun) (m : FileMeta) → Contains runs r → Contains r.files m → Contains (files_of (map view_of runs)) m
file-in runs r m there has = flat-in (λ (run : RunView). run.files) (map view_of runs) (view_of r) m (map-in view_of runs r there) has

-- and it is live
pub file-live : (live : Live) (g : Group) (runs : List RunView) (m : FileMeta) → AreRunsOf live g runs → Contains (files_of runs) m
    → (e : files.Entry) × IsLive live e × (e.group ≡ g) × (e.file ≡ m)
file-live live g runs m are there = (are.own.exact m).0
    (Contains-permutation (files_of runs) are.files m (IsPermutation-sym are.files (files_of runs) are.made.whole) there)

pub live-file : (live : Live) (g : Group) (runs : List RunView) (e : files.Entry) → AreRunsOf live g runs → IsLive live e → e.group ≡ g
    → Contains (files_of runs) e.file
live-file live g runs e are live_e group = Contains-permutation are.files (files_of runs) e.file are.made.whole ((are.own.exact e.file).1 (e, live_e, group, refl))

-- ---- the runs' rows

-- rows whose greatest number is at most so great
numbers-within : (n most : ℕ) (rows : List Stamped) → greatest_of n rows ≤ most → AllByRecursion (λ (x : Stamped). x.seq ≤ most) rows
numbers-within n most [] within = tt
numbers-within n most (x ∷ rows) within = (
  left (greatest_of n rows) within,
  numbers-within n most rows (right (greatest_of n rows) within),
)
  where
    left : (k : ℕ) → max x.seq k ≤ most → x.seq ≤ most
    left k less = omega (arith, less)

    right : (k : ℕ) → max x.seq k ≤ most → k ≤ most
    right k less = omega (arith, less)

file-numbers : (f : Files) (s : TableSchema) (g : Group) (ms : List FileMeta) (rows : List Stamped) → ((m : FileMeta) → Contains ms m → m.max_seq ≤ most_sequence)
    → HaveFileRows f s g ms rows → AllByRecursion (λ (x : Stamped). x.seq ≤ most_sequence) rows
file-numbers f s g [] rows low have = subst (AllByRecursion (λ (x : Stamped). x.seq ≤ most_sequence)) (sym have) tt
file-numbers f s g (m ∷ ms) rows low (own, later, split, has, have) =
    subst (AllByRecursion (λ (x : Stamped). x.seq ≤ most_sequence)) (sym split)
    (AllByRecursion-append (λ (x : Stamped). x.seq ≤ most_sequence) own later
    (numbers-within (first_sequence own) most_sequence own (subst (λ (n : ℕ). n ≤ most_sequence) has.tells.highest (low m (here m ms))))
    (file-numbers f s g ms later (λ n h. low n (more m ms n h)) have))

module _ (left : LeftJoined) (read : ReadEntries) (f : Files) (s : TableSchema) (id : ℕ) (g : Group) (runs : List KnownRun) (some : 1 ≤ id)
    (in_files : AreInFiles f s id g runs) where
  abbrev there : RunsThere f s id g (map view_of runs)
  there = runs-there f s id g (map view_of runs) some in_files.are

  low-file : (r : KnownRun) (m : FileMeta) → Contains runs r → Contains r.files m → m.max_seq ≤ most_sequence
  low-file r m h has =
      let (e, live, group, is) = file-live (live_in there.contents) g (map view_of runs) m there.own (file-in runs r m h has) in
      subst (λ (n : FileMeta). n.max_seq ≤ most_sequence) is (live-can left read f s there.snapshot there.contents there.commit.1 e live).file.last

  run-held : (r : KnownRun) → Contains runs r → HasRun f s g (view_of r) (without_files r)
  run-held r h = each-of (λ (run : KnownRun). HasRun f s g (view_of run) (without_files run)) runs r in_files.hold h

  -- the numbers of those of them that are taken are ones that files can have
  pub numbered : (taken : List KnownRun) → ((r : KnownRun) → Contains taken r → Contains runs r) → HaveFileNumbers (from_oldest taken)
  numbered taken within = all-of (λ (x : Stamped). x.seq ≤ most_sequence) (all_rows (from_oldest taken)) (λ x h.
      let (run, in_runs, own) = in-flat (λ (run : Run). run) (from_oldest taken) x h in
      let rows = map (λ (r : KnownRun). r.rows) taken in
      let (r, is_taken, is) = in-map (λ (r : KnownRun). r.rows) taken run
      (Contains-permutation (from_oldest taken) rows run (IsPermutation-sym rows (reverse rows) (IsPermutation-reverse rows)) in_runs) in
      each-of (λ (x : Stamped). x.seq ≤ most_sequence) r.rows x
      (file-numbers f s g r.files r.rows (λ m has. low-file r m (within r is_taken) has) (run-held r (within r is_taken)).files)
      (subst (λ (rows : Run). Contains rows x) (sym is) own))

  -- they rise
  pub all-rising : All IsRising (from_oldest runs)
  all-rising =
      let rows = map (λ (r : KnownRun). r.rows) runs in
      All-permutation IsRising rows (reverse rows) (IsPermutation-reverse rows) (All-from_recursion IsRising rows (all-of IsRising rows (λ run h.
      let (r, here_r, is) = in-map (λ (r : KnownRun). r.rows) runs run h in
      subst IsRising is (run-held r here_r).rising)))

-- runs of stored rows of the table are those that were taken
abbrev pub TakenStored : Type 0
TakenStored = (s : TableSchema) (g : Group) (entries : List Entry) (n : ℕ) (taken left : List KnownRun) → AreKnownAt s g entries n (taken ++ left)
    → All IsRising (from_oldest (taken ++ left)) → AreStored (meaning_of s) (from_oldest taken)
