-- The runs that a group's files have, as runs that are known.
use Rattle.std.proofs.Common.{◌≡◌, ◌⊎◌, inl, inr, ℕ, zero, suc, ◌<◌, ◌≤◌, List, [], ◌∷◌, ◌++◌, map, take, length, Contains, refl, sym, ap, subst, ◌∙◌, arith}
use Rattle.std.specs.FinMap as finite
use Rattle.std.specs.List.{AllByRecursion, AllZip, remove}
use Rattle.std.specs.List.Sorted.{IsPermutation}
use Rattle.std.proofs.lemmas.List.{take_all}
use Rattle.std.proofs.lemmas.List.Elements.{Contains-append_cases, Contains-append_left, Contains-append_right}
use Rattle.std.proofs.lemmas.List.Sorted.{Contains-permutation, IsPermutation-append, IsPermutation-append_left, IsPermutation-append_comm, IsPermutation-cons, IsPermutation-middle, IsPermutation-remove, IsPermutation-sym, IsPermutation-trans}
use Rattle.pm_store.specs.Files.{Files}
use Rattle.pm_values.specs.declared.file_meta.FileMeta.{FileMeta}
use Rattle.pm_values.specs.declared.group.Group.{Group}
use Rattle.pm_values.specs.declared.record.Stamped.{Stamped}
use Rattle.pm_model_history.specs.History.{Entry}
use Rattle.pm_schema.specs.declared.schema.TableSchema.{TableSchema}
use Rattle.pm_snapshot.specs.declared.snapshot.Snapshot.{Snapshot}
use Rattle.pm_engine.specs.Covers.{Covers, CoversAll}
use Rattle.pm_engine.specs.Meaning.{Meaning}
use Rattle.pm_engine.specs.OfSchema.{meaning_of}
use Rattle.pm_levels.specs.Runs.{AreNamedApart, AreTwoOf, IsRun, RunView, files_of}
use Rattle.pm_manifest.specs.Live.{Live}
use Rattle.pm_manifest.specs.declared.entry.Entry as files
use Rattle.pm_model_contents.specs.Named.{Contents, HasContents, IsNamed, data_file}
use Rattle.pm_model_contents.specs.Runs.{AreRunsOf, IsLive, data_path}
use Rattle.pm_model_folder.specs.Commits.{HasCommit, IsCommitted, Names, Needs, live_in}
use Rattle.pm_model_folder.specs.Folder.{HasTable}
use Rattle.pm_model_folder.specs.Meaning.{SnapshotAt}
use Rattle.pm_model_folder.specs.Paths.{snapshot_path}
use Rattle.pm_model_folder.specs.Runs.{AreInFiles, AreRunsAt, HaveLiveFiles, view_of}
use Rattle.pm_model_folder.specs.Stored.{HasGroup, HasRun, HaveFileRows}
use Rattle.pm_model_folder.proofs.HoldLemmas.{Holds, OneContents, SameContents, one-commit, run-held}
use Rattle.pm_runs.specs.Stand.{StandForRows, StoredRun}
use Rattle.pm_runs.specs.Succession.{AreKnownAt, FilesTellRuns, HaveFilesIn, KnownRun, StandOnce, without_files}

-- ---- one of several runs

pub in-none : (run : KnownRun) → Contains [] run → ⊥
in-none run (k, within, is) = omega (arith, within)

in-first : (run : KnownRun) (runs : List KnownRun) → Contains (run ∷ runs) run
in-first run runs = (0, omega arith, refl)

in-later : (run first : KnownRun) (runs : List KnownRun) → Contains runs run → Contains (first ∷ runs) run
in-later run first runs (k, within, is) = (suc k, omega (arith, within), is)

in-cons : (run first : KnownRun) (runs : List KnownRun) → Contains (first ∷ runs) run → (run ≡ first) ⊎ Contains runs run
in-cons run first runs (zero, within, is) = inl (sym is)
in-cons run first runs (suc k, within, is) = inr (k, omega (arith, within), is)

-- ---- the files of runs

abbrev files_in : List KnownRun → List FileMeta
files_in runs = files_of (map view_of runs)

-- a file of one of the runs is one of them
in-files : (runs : List KnownRun) (run : KnownRun) (a : FileMeta) → Contains runs run → Contains run.files a → Contains (files_in runs) a
in-files [] run a there has = absurd (in-none run there)
in-files (r ∷ runs) run a there has = elim (in-cons run r runs there) as (λ _. Contains (files_in (r ∷ runs)) a) [
  | inl one ↦ Contains-append_left r.files (files_in runs) a (subst (λ (x : KnownRun). Contains x.files a) one has)
  | inr more ↦ Contains-append_right r.files (files_in runs) a (in-files runs run a more has)
]

no-file : (a : FileMeta) → Contains [] a → ⊥
no-file a (k, within, is) = omega (arith, within)

-- and each of them is a file of one of the runs
pub run-of : (runs : List KnownRun) (a : FileMeta) → Contains (files_in runs) a → (run : KnownRun) × Contains runs run × Contains run.files a
run-of [] a there = absurd (no-file a there)
run-of (r ∷ runs) a there = elim (Contains-append_cases r.files (files_in runs) a there) as (λ _. (run : KnownRun) × Contains (r ∷ runs) run × Contains run.files a) [
  | inl own ↦ (r, in-first r runs, own)
  | inr more ↦ (let x = run-of runs a more in (x.0, in-later x.0 r runs x.1, x.2))
]

-- ---- files tell runs apart

two-of : (xs ys : List FileMeta) (a b : FileMeta) → Contains xs a → Contains ys b → AreTwoOf a b (xs ++ ys)
two-of xs ys a b (i, first, is_a) (j, second, is_b) =
    let us = remove xs i in
    let vs = remove ys j in
    let apart : IsPermutation (xs ++ ys) (a ∷ (us ++ b ∷ vs)) =
    IsPermutation-append xs (a ∷ us) ys (b ∷ vs) (IsPermutation-remove xs i a first (sym is_a)) (IsPermutation-remove ys j b second (sym is_b)) in
    let front : IsPermutation (a ∷ (us ++ b ∷ vs)) (a ∷ b ∷ (us ++ vs)) =
    IsPermutation-cons a (us ++ b ∷ vs) (b ∷ (us ++ vs)) (IsPermutation-middle us b vs) in
    (us ++ vs, IsPermutation-trans (xs ++ ys) (a ∷ (us ++ b ∷ vs)) (a ∷ b ∷ (us ++ vs)) apart front)

-- two of the files of a list are two of those of a longer one, and of one in another order
two-moved : (a b : FileMeta) (xs ys : List FileMeta) → IsPermutation xs ys → AreTwoOf a b xs → AreTwoOf a b ys
two-moved a b xs ys same two = (two.0, IsPermutation-trans ys xs (a ∷ b ∷ two.0) (IsPermutation-sym xs ys same) two.1)

two-right : (a b : FileMeta) (xs ys : List FileMeta) → AreTwoOf a b ys → AreTwoOf a b (xs ++ ys)
two-right a b xs ys two = two-moved a b (ys ++ xs) (xs ++ ys) (IsPermutation-append_comm ys xs)
    (two.0 ++ xs, IsPermutation-append_left xs ys (a ∷ b ∷ two.0) two.1)

later-apart : (r : KnownRun) (runs : List KnownRun) → AreNamedApart (files_in (r ∷ runs)) → AreNamedApart (files_in runs)
later-apart r runs apart a b two = apart a b (two-right a b r.files (files_in runs) two)

-- one run before others, which files tell apart
told-first : (r : KnownRun) (runs : List KnownRun) → AreNamedApart (files_in (r ∷ runs)) → FilesTellRuns runs → FilesTellRuns (r ∷ runs)
told-first r runs apart told run other a b in_run in_other in_a in_b name level = at (in-cons run r runs in_run) (in-cons other r runs in_other)
  where
    at : (run ≡ r) ⊎ Contains runs run → (other ≡ r) ⊎ Contains runs other → run ≡ other
    at (inl one) (inl two) = one ∙ sym two
    at (inl one) (inr two) = absurd (apart a b (two-of r.files (files_in runs) a b (subst (λ (x : KnownRun). Contains x.files a) one in_a)
        (in-files runs other b two in_b)) level name)
    at (inr one) (inl two) = absurd (apart b a (two-of r.files (files_in runs) b a (subst (λ (x : KnownRun). Contains x.files b) two in_b)
        (in-files runs run a one in_a)) (sym level) (sym name))
    at (inr one) (inr two) = told run other a b one two in_a in_b name level

apart-told : (runs : List KnownRun) → AreNamedApart (files_in runs) → FilesTellRuns runs
apart-told [] apart = λ run other a b in_run in_other in_a in_b name level. absurd (in-none run in_run)
apart-told (r ∷ runs) apart = told-first r runs apart (apart-told runs (later-apart r runs apart))

abbrev HasAFile : KnownRun → Type 0
HasAFile run = (m : FileMeta) × Contains run.files m

apart-once : (runs : List KnownRun) → AreNamedApart (files_in runs) → AllByRecursion HasAFile runs → StandOnce runs
apart-once [] apart some = tt
apart-once (r ∷ runs) apart (m, rest) = (
  λ there. apart m.0 m.0 (two-of r.files (files_in runs) m.0 m.0 m.1 (in-files runs r m.0 there m.1)) refl refl,
  apart-once runs (later-apart r runs apart) rest,
)

-- ---- a group that is found

-- its runs as known ones, which have rows of entries up to one
abbrev known_runs : ℕ → List RunView → List StoredRun → List KnownRun
known_runs n [] stored = []
known_runs n (view ∷ views) [] = []
known_runs n (view ∷ views) (r ∷ stored) = record { level = view.level; files = view.files; newest = n; rows = r.rows } ∷ known_runs n views stored

module _ (f : Files) (s : TableSchema) (g : Group) (n : ℕ) where
  views-known : (views : List RunView) (stored : List StoredRun) → AllZip (HasRun f s g) views stored → map view_of (known_runs n views stored) ≡ views
  views-known [] stored all = refl
  views-known (view ∷ views) [] all = absurd all
  views-known (view ∷ views) (r ∷ stored) all = ap (λ (vs : List RunView). view ∷ vs) (views-known views stored all.1)

  stored-known : (views : List RunView) (stored : List StoredRun) → AllZip (HasRun f s g) views stored → map without_files (known_runs n views stored) ≡ stored
  stored-known [] [] all = refl
  stored-known [] (r ∷ stored) all = absurd all
  stored-known (view ∷ views) [] all = absurd all
  stored-known (view ∷ views) (r ∷ stored) all =
      let level = all.0.level in
      λ i. record { level = (sym level) i; rows = r.rows } ∷ (stored-known views stored all.1) i

  hold-known : (views : List RunView) (stored : List StoredRun) → AllZip (HasRun f s g) views stored
      → AllByRecursion (λ (run : KnownRun). HasRun f s g (view_of run) (without_files run)) (known_runs n views stored)
  hold-known [] stored all = tt
  hold-known (view ∷ views) [] all = absurd all
  hold-known (view ∷ views) (r ∷ stored) all =
      (record { level = refl; files = all.0.files; rising = all.0.rising }, hold-known views stored all.1)

newest-known : (n : ℕ) (views : List RunView) (stored : List StoredRun) → AllByRecursion (λ (run : KnownRun). run.newest ≤ n) (known_runs n views stored)
newest-known n [] stored = tt
newest-known n (view ∷ views) [] = tt
newest-known n (view ∷ views) (r ∷ stored) = (omega arith, newest-known n views stored)

levels-known : (n top : ℕ) (views : List RunView) (stored : List StoredRun) → AllByRecursion (λ (run : RunView). run.level ≤ top) views
    → AllByRecursion (λ (run : KnownRun). run.level ≤ top) (known_runs n views stored)
levels-known n top [] stored all = tt
levels-known n top (view ∷ views) [] all = tt
levels-known n top (view ∷ views) (r ∷ stored) all = (all.0, levels-known n top views stored all.1)

first-file : (ms : List FileMeta) → 0 < length ms → (m : FileMeta) × Contains ms m
first-file [] some = absurd (omega (arith, some))
first-file (m ∷ ms) some = (m, (0, omega arith, refl))

some-known : (n : ℕ) (views : List RunView) (stored : List StoredRun) → AllByRecursion IsRun views → AllByRecursion HasAFile (known_runs n views stored)
some-known n [] stored all = tt
some-known n (view ∷ views) [] all = tt
some-known n (view ∷ views) (r ∷ stored) all = (first-file view.files all.0.some, some-known n views stored all.1)

named-moved : (ms more : List FileMeta) → IsPermutation ms more → AreNamedApart ms → AreNamedApart more
named-moved ms more same apart a b two = apart a b (two-moved a b more ms (IsPermutation-sym ms more same) two)

group-known : (f : Files) (s : TableSchema) (entries : List Entry) (id : ℕ) (live : Live) (g : Group) → (has : HasGroup f s entries id live g)
    → AreKnownAt s g entries id (known_runs id has.runs has.stored)
group-known f s entries id live g has =
    let apart : AreNamedApart (files_in (known_runs id has.runs has.stored)) =
    subst (λ (views : List RunView). AreNamedApart (files_of views)) (sym (views-known f s g id has.runs has.stored has.read))
    (named-moved has.own.files (files_of has.runs) has.own.made.whole has.own.own.apart) in record {
      stand = subst (StandForRows s entries id g) (sym (stored-known f s g id has.runs has.stored has.read)) has.stand;
      once = apart-once (known_runs id has.runs has.stored) apart (some-known id has.runs has.stored has.own.made.each);
      told = apart-told (known_runs id has.runs has.stored) apart;
      newest = newest-known id has.runs has.stored;
      levels = levels-known id _ has.runs has.stored has.within;
    }

-- ---- before any entry

no-entries : (entries : List Entry) → length entries ≡ 0 → entries ≡ []
no-entries [] none = refl
no-entries (e ∷ entries) none = absurd (omega (arith, none))

-- nothing covers no rows
none-covers : (m : Meaning) → Covers m [] []
none-covers m key = ([], inl refl, record { parts = []; split = refl; holds = tt })

none-covers_all : (m : Meaning) → CoversAll m [] []
none-covers_all m key = record { parts = []; split = refl; holds = tt }

pub none-stand : (s : TableSchema) (g : Group) → StandForRows s [] 0 g []
none-stand s g = record {
  all = none-covers (meaning_of s);
  above_zero = none-covers (meaning_of s);
  at_zero = none-covers_all (meaning_of s);
  at_top = none-covers (meaning_of s);
  below_top = none-covers_all (meaning_of s);
}

pub none-known : (s : TableSchema) (g : Group) → AreKnownAt s g [] 0 []
none-known s g = record {
  stand = none-stand s g;
  once = tt;
  told = λ run other a b in_run in_other in_a in_b name level. absurd (in-none run in_run);
  newest = tt;
  levels = tt;
}

some-view : (view : RunView) (views : List RunView) → view ∷ views ≡ [] → ⊥
some-view view views e = cc

-- at the origin a group has no run
pub origin-none : (runs : List KnownRun) → map view_of runs ≡ [] → runs ≡ []
origin-none [] none = refl
origin-none (r ∷ runs) none = absurd (some-view (view_of r) (map view_of runs) none)

pub origin-runs : (f : Files) (s : TableSchema) (g : Group) (runs : List KnownRun) → runs ≡ [] → AreInFiles f s 0 g runs
origin-runs f s g runs none = subst (AreInFiles f s 0 g) (sym none) (record { are = refl; hold = tt })

-- ---- the runs of a folder that is found

pub record FoundRuns (f : Files) (s : TableSchema) (entries : List Entry) (g : Group) : Type 0 where
  pub runs : List KnownRun
  pub in_files : AreInFiles f s (length entries) g runs
  pub known : AreKnownAt s g entries (length entries) runs

-- those of its newest snapshot
newest-runs : (f : Files) (s : TableSchema) (entries : List Entry) (g : Group) (k : ℕ) → length entries ≡ suc k → IsCommitted f s (take (length entries) entries) (length entries)
    → FoundRuns f s entries g
newest-runs f s entries g k some is =
    let n : ℕ = length entries in
    let has : HasGroup f s entries n (live_in is.contents) g =
    subst (λ (es : List Entry). HasGroup f s es n (live_in is.contents) g) (take_all n entries (omega arith)) (is.groups g) in
    let runs : List KnownRun = known_runs n has.runs has.stored in
    let commit : HasCommit f s (suc k) is.snapshot is.contents = subst (λ (id : ℕ). HasCommit f s id is.snapshot is.contents) some (is.there, is.has) in
    let own : AreRunsOf (live_in is.contents) g (map view_of runs) =
    subst (AreRunsOf (live_in is.contents) g) (sym (views-known f s g n has.runs has.stored has.read)) has.own in
    record {
      runs = runs;
      in_files = record {
        are = subst (λ (id : ℕ). AreRunsAt f s id g (map view_of runs)) (sym some) (is.snapshot, is.contents, commit, own);
        hold = hold-known f s g n has.runs has.stored has.read;
      };
      known = group-known f s entries n (live_in is.contents) g has;
    }

pub found-runs : (f : Files) (s : TableSchema) (entries : List Entry) → HasTable f s entries → (g : Group) → FoundRuns f s entries g
found-runs f s entries folder g = at (length entries) refl
  where
    at : (n : ℕ) → length entries ≡ n → FoundRuns f s entries g
    at zero none = record {
      runs = [];
      in_files = subst (λ (n : ℕ). AreInFiles f s n g []) (sym none) (record { are = refl; hold = tt });
      known = subst (λ (es : List Entry). AreKnownAt s g es (length es) []) (sym (no-entries entries none)) (none-known s g);
    }
    at (suc k) some = newest-runs f s entries g k some
        (folder.commits.committed (length entries) (record { after_origin = omega (arith, some); from = folder.snapshots.some; to = omega arith }))

-- ---- a snapshot names the files of its groups' runs

-- a file of a run is live
file-live : (live : Live) (g : Group) (runs : List KnownRun) (run : KnownRun) (a : FileMeta) → AreRunsOf live g (map view_of runs) → Contains runs run
    → Contains run.files a → (e : files.Entry) × IsLive live e × (e.group ≡ g) × (e.file ≡ a)
file-live live g runs run a are there has = (are.own.exact a).0
    (Contains-permutation (files_in runs) are.files a (IsPermutation-sym are.files (files_in runs) are.made.whole) (in-files runs run a there has))

pub file-named : (f : Files) (s : TableSchema) (id : ℕ) (g : Group) (runs : List KnownRun) (run : KnownRun) (a : FileMeta) → AreInFiles f s id g runs
    → Contains runs run → Contains run.files a → Names f s id (data_path s g a.name)
file-named f s zero g runs run a are there has = absurd (in-none run (subst (λ (rs : List KnownRun). Contains rs run) (origin-none runs are.are) there))
file-named f s (suc k) g runs run a are there has =
    let (x, c, commit, own) = are.are in
    let (e, live, group, file) = file-live (live_in c) g runs run a own there has in
    let same : data_path s e.group e.file.name ≡ data_path s g a.name =
    ap (λ (h : Group). data_path s h e.file.name) group ∙ ap (λ (m : FileMeta). data_path s g m.name) file in
    (x, c, commit, subst (IsNamed s x c) same (data_file e live))

-- so runs stay where these are the same
rows-same : (f after : Files) (s : TableSchema) (g : Group) (ms : List FileMeta) (rows : List Stamped)
    → ((m : FileMeta) → Contains ms m → finite.get after (data_path s g m.name) ≡ finite.get f (data_path s g m.name)) → HaveFileRows f s g ms rows
    → HaveFileRows after s g ms rows
rows-same f after s g [] rows same have = have
rows-same f after s g (m ∷ ms) rows same (own, later, split, has, have) = (
  own,
  later,
  split,
  record {
    bytes = has.bytes;
    there = same m (0, omega arith, refl) ∙ has.there;
    schema = has.schema;
    read = has.read;
    tells = has.tells;
  },
  rows-same f after s g ms later (λ a there. same a (let (k, within, is) = there in (suc k, omega (arith, within), is))) have,
)

hold-same : (f after : Files) (s : TableSchema) (g : Group) (runs : List KnownRun)
    → ((run : KnownRun) (a : FileMeta) → Contains runs run → Contains run.files a → finite.get after (data_path s g a.name) ≡ finite.get f (data_path s g a.name))
    → AllByRecursion (λ (run : KnownRun). HasRun f s g (view_of run) (without_files run)) runs
    → AllByRecursion (λ (run : KnownRun). HasRun after s g (view_of run) (without_files run)) runs
hold-same f after s g [] same all = tt
hold-same f after s g (r ∷ runs) same all = (
  record { level = all.0.level; files = rows-same f after s g r.files r.rows (λ m there. same r m (in-first r runs) there) all.0.files; rising = all.0.rising },
  hold-same f after s g runs (λ run a there has. same run a (in-later run r runs there) has) all.1,
)

pub in-files-same : SameContents → (f after : Files) (s : TableSchema) (id : ℕ) (g : Group) (runs : List KnownRun)
    → ((path : List ℕ) → Needs f s id path → finite.get after path ≡ finite.get f path) → AreInFiles f s id g runs → AreInFiles after s id g runs
in-files-same contents f after s zero g runs same are = origin-runs after s g runs (origin-none runs are.are)
in-files-same contents f after s (suc k) g runs same are =
    let (x, c, commit, own) = are.are in
    let at : SnapshotAt after (suc k) x = (commit.0.0, same (snapshot_path (suc k)) (inl refl) ∙ commit.0.1, commit.0.2) in
    let has : HasContents after s x c = contents f after s x c (λ path is. same path (inr (inr (x, c, commit, is)))) commit.1 in
    record {
      are = (x, c, (at, has), own);
      hold = hold-same f after s g runs (λ run a there file. same (data_path s g a.name) (inr (inr (file-named f s (suc k) g runs run a are there file)))) are.hold;
    }

pub hold-held : (f after : Files) → Holds f after → (s : TableSchema) (g : Group) (runs : List KnownRun)
    → AllByRecursion (λ (run : KnownRun). HasRun f s g (view_of run) (without_files run)) runs
    → AllByRecursion (λ (run : KnownRun). HasRun after s g (view_of run) (without_files run)) runs
hold-held f after holds s g [] all = tt
hold-held f after holds s g (r ∷ runs) all = (run-held f after holds s g (view_of r) (without_files r) all.0, hold-held f after holds s g runs all.1)

-- ---- what is live shows runs

pub live-shows : OneContents → (f : Files) (s : TableSchema) (id : ℕ) (x : Snapshot) (c : Contents) (g : Group) (taken runs : List KnownRun) → 1 ≤ id
    → AreInFiles f s id g runs → HasCommit f s id x c → HaveLiveFiles (live_in c) g taken → HaveFilesIn taken runs
live-shows one f s zero x c g taken runs some are commit have run there = absurd (omega (arith, some))
live-shows one f s (suc k) x c g taken runs some are commit have run there =
    let (y, d, other, own) = are.are in
    let (a, e, file, live, group, name, level) = have run there in
    let same = one-commit one f s (suc k) x y c d commit other in
    let is : IsLive (live_in d) e = subst (λ (d : Contents). IsLive (live_in d) e) same.1 live in
    let found : Contains own.files e.file = (own.own.exact e.file).1 (e, is, group, refl) in
    let (t, in_runs, of_run) = run-of runs e.file (Contains-permutation own.files (files_in runs) e.file own.made.whole found) in
    (t, a, e.file, in_runs, file, of_run, sym name, sym level)
