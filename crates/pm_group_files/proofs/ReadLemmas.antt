-- What a reader of files knows once it has read one, or found it absent.
use Rattle.std.proofs.Common.{◌≡◌, Bool, true, false, ◌⊎◌, inl, inr, ℕ, zero, suc, ◌≤◌, List, [], ◌∷◌, ◌++◌, Option, Some, None, IsSome, refl, sym, ap, subst, ◌∙◌, append_assoc, arith}
use Rattle.std.specs.FinMap as paths
use Rattle.std.specs.List.{AllByRecursion, AllZip}
use Rattle.pm_store.specs.Files.{Files}
use Rattle.pm_values.specs.declared.file_meta.FileMeta.{FileMeta}
use Rattle.pm_values.specs.declared.group.Group.{Group}
use Rattle.pm_values.specs.declared.record.Stamped.{Stamped}
use Rattle.pm_schema.specs.declared.schema.TableSchema.{TableSchema}
use Rattle.pm_model_history.specs.History.{History, IsTableOf, no_table, table}
use Rattle.pm_levels.specs.Runs.{IsRun, RunView}
use Rattle.pm_model_folder.specs.Changes.{Actor}
use Rattle.pm_model_folder.specs.Commits.{Needs}
use Rattle.pm_model_folder.specs.Ledger.{Advances, IsKnown, KeepsFiles, KnowsPast, Past, Stands}
use Rattle.pm_model_folder.specs.Meaning.{HasSnapshotAt}
use Rattle.pm_model_folder.specs.Paths.{snapshot_path}
use Rattle.pm_model_folder.specs.Stored.{HasRun, HaveFileRows}
use Rattle.pm_runs.specs.Stand.{StoredRun}
use Rattle.pm_scan_rows.specs.Group.{GroupRead}
use Rattle.pm_read_table.specs.Meaning.{HasGone}
use Rattle.pm_group_files.proofs.KeptLemmas.{Going, goes, known-kept, stood-kept, table-kept}
use Rattle.pm_group_files.specs.Chosen.{Chosen}
use Rattle.pm_group_files.specs.Collected.{Collected, HaveTaken, Takes, nothing_of, with_groups}
use Rattle.pm_group_files.specs.Jobs.{Wanted, all_wanted, file_jobs_as, jobs_with, run_jobs_as, wanted_jobs}
use Rattle.pm_group_files.specs.Meaning.{HasRuns, HasTaken, IsChosen, StoodAt}
use Rattle.pm_group_files.specs.declared.job.Ends.{Ends}
use Rattle.pm_group_files.specs.declared.job.Ends.TheVariants as ends
use Rattle.pm_group_files.specs.declared.job.Job.{Job}
use Rattle.pm_group_files.proofs.TakenLemmas.{taken-more, takes-after, takes-schema}

-- ---- what holds of all of some jobs

pub all-joined : {X : Type 0} (P : X → Type 0) (xs ys : List X) → AllByRecursion P xs → AllByRecursion P ys → AllByRecursion P (xs ++ ys)
all-joined P [] ys a b = b
all-joined P (x ∷ xs) ys a b = (a.0, all-joined P xs ys a.1 b)

pub all-parts : {X : Type 0} (P : X → Type 0) (xs ys : List X) → AllByRecursion P (xs ++ ys) → AllByRecursion P xs × AllByRecursion P ys
all-parts P [] ys a = (tt, a)
all-parts P (x ∷ xs) ys a = let rest = all-parts P xs ys a.1 in ((a.0, rest.0), rest.1)

-- ---- the files are there where the runs are

module _ (f : Files) (s : TableSchema) where
  abbrev pub IsThere : Job → Type 0
  IsThere job = (bytes : List ℕ) × (paths.get f job.path ≡ Some bytes)

  files-there : (kept : Bool) (g : Group) (end : Ends) (ms : List FileMeta) (rows : List Stamped) → HaveFileRows f s g ms rows → AllByRecursion IsThere (file_jobs_as kept s g end ms)
  files-there kept g end [] rows have = tt
  files-there kept g end (m ∷ []) rows have = ((have.3.bytes, have.3.there), tt)
  files-there kept g end (m ∷ n ∷ ms) rows have = ((have.3.bytes, have.3.there), files-there kept g end (n ∷ ms) have.1 have.4)

  runs-there : (kept : Bool) (g : Group) (end : Ends) (runs : List RunView) (stored : List StoredRun) → AllZip (HasRun f s g) runs stored → AllByRecursion IsThere (run_jobs_as kept s g end runs)
  runs-there kept g end [] stored read = tt
  runs-there kept g end (run ∷ []) [] read = absurd read
  runs-there kept g end (run ∷ []) (x ∷ xs) read = files-there kept g end run.files x.rows read.0.files
  runs-there kept g end (run ∷ older ∷ runs) [] read = absurd read
  runs-there kept g end (run ∷ older ∷ runs) (x ∷ xs) read =
      all-joined IsThere (file_jobs_as kept s g ends.Run run.files) (run_jobs_as kept s g end (older ∷ runs)) (files-there kept g ends.Run run.files x.rows read.0.files)
      (runs-there kept g end (older ∷ runs) xs read.1)

  -- those that are read, and those that are kept
  pub parts-there : (g : Group) (runs kept : List RunView) (stored others : List StoredRun) → AllZip (HasRun f s g) runs stored → AllZip (HasRun f s g) kept others
      → AllByRecursion IsThere (jobs_with s g runs kept)
  parts-there g runs [] stored others read older = runs-there false g ends.Group runs stored read
  parts-there g runs (first ∷ kept) stored others read older =
      all-joined IsThere (run_jobs_as false s g ends.Run runs) (run_jobs_as true s g ends.Group (first ∷ kept)) (runs-there false g ends.Run runs stored read)
      (runs-there true g ends.Group (first ∷ kept) others older)

-- ---- each of them is needed, and was there

module _ (p : Past) (s : TableSchema) (id : ℕ) where
  abbrev IsNeeded : Job → Type 0
  IsNeeded job = Needs (p.stood id) s id job.path

  all-needed : (groups : List Wanted) → AllByRecursion (StoodAt p s id) groups → AllByRecursion IsNeeded (all_wanted s groups)
  all-needed [] stood = tt
  all-needed (w ∷ groups) stood = all-joined IsNeeded (wanted_jobs s w) (all_wanted s groups) stood.0.needed (all-needed groups stood.1)

  all-there : (groups : List Wanted) → AllByRecursion (StoodAt p s id) groups → AllByRecursion (IsThere (p.stood id) s) (all_wanted s groups)
  all-there [] stood = tt
  all-there (w ∷ groups) stood =
      all-joined (IsThere (p.stood id) s) (wanted_jobs s w) (all_wanted s groups)
      (parts-there (p.stood id) s w.group w.runs w.kept stood.0.runs.stored stood.0.older.0 stood.0.runs.read stood.0.older.1) (all-there groups stood.1)

  pub all-runs : (groups : List Wanted) → AllByRecursion (StoodAt p s id) groups → AllByRecursion (λ (w : Wanted). HasRuns (p.stood id) s (w.group, w.runs) × AllByRecursion IsRun w.kept) groups
  all-runs [] stood = tt
  all-runs (w ∷ groups) stood = ((stood.0.runs, stood.0.kept), all-runs groups stood.1)

-- ---- a known snapshot's files are kept

keeps-files : (f : Files) (p : Past) (s : TableSchema) (id : ℕ) → Stands f p → IsTableOf s p.history → IsKnown p id → KeepsFiles f s (p.stood id) id
keeps-files f p s id stands is known = by_history p.history stands.past is
  where
    by_history : (h : History) → KnowsPast f h p → IsTableOf s h → KeepsFiles f s (p.stood id) id
    by_history no_table past is = absurd is
    by_history (table t entries) past is = subst (λ (t : TableSchema). KeepsFiles f t (p.stood id) id) is (past.kept id known)

-- a file at a snapshot's path is that of a snapshot
pub has-snapshot : (f : Files) (s : TableSchema) (id : ℕ) (bytes : List ℕ) → 1 ≤ id → paths.get f (snapshot_path id) ≡ Some bytes → HasSnapshotAt f s id
has-snapshot f s zero bytes after found = let never : ⊥ = omega arith in absurd never
has-snapshot f s (suc id) bytes after found = subst IsSome (sym found) refl

-- ---- a file is read

module _ (f : Files) (p : Past) (stands : Stands f p) (a : Chosen) (c : Collected) (job : Job) (rest : List Job) (taken : HasTaken p a c (job ∷ rest)) where
  kept : KeepsFiles f a.schema (p.stood a.id) a.id
  kept = keeps-files f p a.schema a.id stands taken.chosen.table taken.chosen.known

  next-needed : Needs (p.stood a.id) a.schema a.id job.path
  next-needed =
      let all = subst (AllByRecursion (IsNeeded p a.schema a.id)) taken.parts (all-needed p a.schema a.id a.groups taken.chosen.each) in
      (all-parts (IsNeeded p a.schema a.id) taken.done (job ∷ rest) all).1.0

  next-there : IsThere (p.stood a.id) a.schema job
  next-there =
      let all = subst (AllByRecursion (IsThere (p.stood a.id) a.schema)) taken.parts (all-there p a.schema a.id a.groups taken.chosen.each) in
      (all-parts (IsThere (p.stood a.id) a.schema) taken.done (job ∷ rest) all).1.0

  -- what is found of it is what stood
  pub next-stood : (bytes : List ℕ) → paths.get f job.path ≡ Some bytes → paths.get (p.stood a.id) job.path ≡ Some bytes
  next-stood bytes found = by_kept (kept.same job.path next-needed)
    where
      by_kept : (paths.get f job.path ≡ None) ⊎ (paths.get f job.path ≡ paths.get (p.stood a.id) job.path) → paths.get (p.stood a.id) job.path ≡ Some bytes
      by_kept (inl none) = cc
      by_kept (inr same) = sym same ∙ found

  -- where it is absent, the snapshot has gone
  pub next-gone : paths.get f job.path ≡ None → HasGone f p a.schema a.id
  next-gone none = record {
    table = taken.chosen.table;
    known = taken.chosen.known;
    absent = by_found (paths.get f (snapshot_path a.id)) refl;
  }
    where
      by_found : (o : Option (List ℕ)) → paths.get f (snapshot_path a.id) ≡ o → paths.get f (snapshot_path a.id) ≡ None
      by_found None is = is
      by_found (Some bytes) is =
          let same = kept.there (has-snapshot f a.schema a.id bytes taken.chosen.known.after_origin is) job.path next-needed in
          let no : None ≡ Some next-there.0 = sym none ∙ same ∙ next-there.1 in
          cc

  -- once it is read, the files that are left are to be read
  pub next-taken : (bytes : List ℕ) (new : Collected) → paths.get f job.path ≡ Some bytes → Takes job bytes c new → HasTaken p a new rest
  next-taken bytes new found takes = record {
    chosen = taken.chosen;
    done = taken.done ++ job ∷ [];
    parts = taken.parts ∙ sym (append_assoc taken.done (job ∷ []) rest);
    taken = taken-more (p.stood a.id) taken.done job bytes (nothing_of a.schema) (with_groups a.given c) (with_groups a.given new) taken.taken (next-stood bytes found)
        (takes-after a.given job bytes c new takes);
    schema = takes-schema job bytes c new takes ∙ taken.schema;
  }

-- none was read yet
pub first-taken : (p : Past) (a : Chosen) → IsChosen p a → a.given ≡ [] → HasTaken p a (nothing_of a.schema) (all_wanted a.schema a.groups)
first-taken p a chosen none = record {
  chosen = chosen;
  done = [];
  parts = refl;
  taken = ap (λ (given : List GroupRead). with_groups given (nothing_of a.schema)) none;
  schema = refl;
}

-- ---- whatever others do

module _ (going : Going) (me : Actor) (f after : Files) (p q : Past) (advances : Advances me f p after q) where
  stood-still : (s : TableSchema) (id : ℕ) → IsKnown p id → (groups : List Wanted) → AllByRecursion (StoodAt p s id) groups → AllByRecursion (StoodAt q s id) groups
  stood-still s id known [] each = tt
  stood-still s id known (w ∷ groups) each =
      let same : p.stood id ≡ q.stood id = stood-kept going me f after p q advances id known in (
        record {
          runs = subst (λ (files : Files). HasRuns files s (w.group, w.runs)) same each.0.runs;
          kept = each.0.kept;
          older = subst (λ (files : Files). (stored : List StoredRun) × AllZip (HasRun files s w.group) w.kept stored) same each.0.older;
          needed = subst (λ (files : Files). AllByRecursion (λ (job : Job). Needs files s id job.path) (wanted_jobs s w)) same each.0.needed;
        },
        stood-still s id known groups each.1,
      )

  pub chosen-kept : (a : Chosen) → IsChosen p a → IsChosen q a
  chosen-kept a chosen = record {
    table = table-kept a.schema p.history q.history (goes going me f after p q advances) chosen.table;
    known = known-kept going me f after p q advances a.id chosen.known;
    each = stood-still a.schema a.id chosen.known a.groups chosen.each;
  }

  pub taken-kept : (a : Chosen) (c : Collected) (left : List Job) → HasTaken p a c left → HasTaken q a c left
  taken-kept a c left taken = record {
    chosen = chosen-kept a taken.chosen;
    done = taken.done;
    parts = taken.parts;
    taken = subst (λ (files : Files). HaveTaken files taken.done (nothing_of a.schema) (with_groups a.given c)) (stood-kept going me f after p q advances a.id taken.chosen.known) taken.taken;
    schema = taken.schema;
  }
