-- The newest runs of a group stood where all of them did, and the others beside them.
use Rattle.std.proofs.Common.{◌≡◌, ◌≢◌, ℕ, zero, suc, ◌≤◌, Bool, true, false, List, [], ◌∷◌, take, drop, refl, arith}
use Rattle.std.specs.List.{AllByRecursion, AllZip}
use Rattle.pm_values.specs.declared.file_meta.FileMeta.{FileMeta}
use Rattle.pm_values.specs.declared.group.Group.{Group}
use Rattle.pm_schema.specs.declared.schema.TableSchema.{TableSchema}
use Rattle.pm_levels.specs.Runs.{RunView}
use Rattle.pm_model_folder.specs.Commits.{Needs}
use Rattle.pm_model_folder.specs.Ledger.{Past}
use Rattle.pm_model_contents.specs.Runs.{data_path}
use Rattle.pm_group_files.specs.Jobs.{Wanted, file_jobs_as, jobs_with, run_jobs_as, whole_group}
use Rattle.pm_group_files.specs.Meaning.{StoodAt}
use Rattle.pm_group_files.specs.declared.job.Ends.{Ends}
use Rattle.pm_group_files.specs.declared.job.Ends.TheVariants as ends
use Rattle.pm_group_files.specs.declared.job.Job.{Job}
use Rattle.pm_group_files.proofs.ReadLemmas.{all-joined, all-parts}

-- ---- the first of a list

some-first : {X : Type 0} (n : ℕ) (xs : List X) → 1 ≤ n → xs ≢ [] → take n xs ≢ []
some-first zero xs least some none = absurd (omega (arith, least))
some-first (suc n) [] least some none = some refl
some-first (suc n) (x ∷ xs) least some none = let clash : x ∷ take n xs ≡ [] = none in cc

all-first : {X : Type 0} (P : X → Type 0) (n : ℕ) (xs : List X) → AllByRecursion P xs → AllByRecursion P (take n xs)
all-first P zero xs all = tt
all-first P (suc n) [] all = tt
all-first P (suc n) (x ∷ xs) all = (all.0, all-first P n xs all.1)

zip-first : {X Y : Type 0} (R : X → Y → Type 0) (n : ℕ) (xs : List X) (ys : List Y) → AllZip R xs ys → AllZip R (take n xs) (take n ys)
zip-first R zero xs ys all = tt
zip-first R (suc n) [] [] all = tt
zip-first R (suc n) [] (y ∷ ys) all = absurd all
zip-first R (suc n) (x ∷ xs) [] all = absurd all
zip-first R (suc n) (x ∷ xs) (y ∷ ys) all = (all.0, zip-first R n xs ys all.1)

-- ---- and the others

all-after : {X : Type 0} (P : X → Type 0) (n : ℕ) (xs : List X) → AllByRecursion P xs → AllByRecursion P (drop n xs)
all-after P zero xs all = all
all-after P (suc n) [] all = tt
all-after P (suc n) (x ∷ xs) all = all-after P n xs all.1

zip-after : {X Y : Type 0} (R : X → Y → Type 0) (n : ℕ) (xs : List X) (ys : List Y) → AllZip R xs ys → AllZip R (drop n xs) (drop n ys)
zip-after R zero xs ys all = all
zip-after R (suc n) [] [] all = tt
zip-after R (suc n) [] (y ∷ ys) all = absurd all
zip-after R (suc n) (x ∷ xs) [] all = absurd all
zip-after R (suc n) (x ∷ xs) (y ∷ ys) all = zip-after R n xs ys all.1

-- ---- where a file lies depends neither on what ends with it nor on what becomes of it

module _ (P : List ℕ → Type 0) (s : TableSchema) (g : Group) where
  abbrev IsAt : Job → Type 0
  IsAt job = P job.path

  abbrev IsFileAt : FileMeta → Type 0
  IsFileAt m = P (data_path s g m.name)

  abbrev IsRunAt : RunView → Type 0
  IsRunAt run = AllByRecursion IsFileAt run.files

  of-files : (kept : Bool) (end : Ends) (ms : List FileMeta) → AllByRecursion IsAt (file_jobs_as kept s g end ms) → AllByRecursion IsFileAt ms
  of-files kept end [] all = tt
  of-files kept end (m ∷ []) all = all
  of-files kept end (m ∷ n ∷ ms) all = (all.0, of-files kept end (n ∷ ms) all.1)

  to-files : (kept : Bool) (end : Ends) (ms : List FileMeta) → AllByRecursion IsFileAt ms → AllByRecursion IsAt (file_jobs_as kept s g end ms)
  to-files kept end [] all = tt
  to-files kept end (m ∷ []) all = all
  to-files kept end (m ∷ n ∷ ms) all = (all.0, to-files kept end (n ∷ ms) all.1)

  of-runs : (kept : Bool) (end : Ends) (runs : List RunView) → AllByRecursion IsAt (run_jobs_as kept s g end runs) → AllByRecursion IsRunAt runs
  of-runs kept end [] all = tt
  of-runs kept end (run ∷ []) all = (of-files kept end run.files all, tt)
  of-runs kept end (run ∷ older ∷ runs) all =
      let parts = all-parts IsAt (file_jobs_as kept s g ends.Run run.files) (run_jobs_as kept s g end (older ∷ runs)) all in
      (of-files kept ends.Run run.files parts.0, of-runs kept end (older ∷ runs) parts.1)

  to-runs : (kept : Bool) (end : Ends) (runs : List RunView) → AllByRecursion IsRunAt runs → AllByRecursion IsAt (run_jobs_as kept s g end runs)
  to-runs kept end [] all = tt
  to-runs kept end (run ∷ []) all = to-files kept end run.files all.0
  to-runs kept end (run ∷ older ∷ runs) all =
      all-joined IsAt (file_jobs_as kept s g ends.Run run.files) (run_jobs_as kept s g end (older ∷ runs)) (to-files kept ends.Run run.files all.0) (to-runs kept end (older ∷ runs) all.1)

  to-parts : (runs kept : List RunView) → AllByRecursion IsRunAt runs → AllByRecursion IsRunAt kept → AllByRecursion IsAt (jobs_with s g runs kept)
  to-parts runs [] all older = to-runs false ends.Group runs all
  to-parts runs (first ∷ kept) all older =
      all-joined IsAt (run_jobs_as false s g ends.Run runs) (run_jobs_as true s g ends.Group (first ∷ kept)) (to-runs false ends.Run runs all) (to-runs true ends.Group (first ∷ kept) older)

module _ (p : Past) (s : TableSchema) (id : ℕ) where
  abbrev IsNeededAt : List ℕ → Type 0
  IsNeededAt path = Needs (p.stood id) s id path

  pub prefix-stood : (g : Group) (runs : List RunView) (n : ℕ) → StoodAt p s id (whole_group (g, runs)) → 1 ≤ n → StoodAt p s id (whole_group (g, take n runs))
  prefix-stood g runs n stood least = record {
    runs = record {
      some = some-first n runs least stood.runs.some;
      each = all-first _ n runs stood.runs.each;
      stored = take n stood.runs.stored;
      read = zip-first _ n runs stood.runs.stored stood.runs.read;
    };
    kept = tt;
    older = ([], tt);
    needed = to-runs IsNeededAt s g false ends.Group (take n runs) (all-first _ n runs (of-runs IsNeededAt s g false ends.Group runs stood.needed));
  }

  pub kept-stood : (w : Wanted) (n : ℕ) → StoodAt p s id (whole_group (w.group, w.runs)) → 1 ≤ n → StoodAt p s id (record w { runs = take n w.runs; kept = drop n w.runs })
  kept-stood w n stood least =
      let each = of-runs IsNeededAt s w.group false ends.Group w.runs stood.needed in record {
        runs = record {
          some = some-first n w.runs least stood.runs.some;
          each = all-first _ n w.runs stood.runs.each;
          stored = take n stood.runs.stored;
          read = zip-first _ n w.runs stood.runs.stored stood.runs.read;
        };
        kept = all-after _ n w.runs stood.runs.each;
        older = (drop n stood.runs.stored, zip-after _ n w.runs stood.runs.stored stood.runs.read);
        needed = to-parts IsNeededAt s w.group (take n w.runs) (drop n w.runs) (all-first _ n w.runs each) (all-after _ n w.runs each);
      }
