-- The next file, once those before it were read: its rows follow those of its run that were, so it is refused
-- for memory alone. One that is kept is refused for nothing.
use Rattle.std.proofs.Common.{◌≡◌, ◌≢◌, ◌⊎◌, inl, inr, Bool, true, false, ℕ, List, [], ◌∷◌, ◌++◌, Some, Less, refl, sym, ap, subst, ◌∙◌, append_assoc}
use Rattle.std.specs.FinMap as map
use Rattle.std.specs.List.{AllByRecursion, AllZip}
use Rattle.std.specs.List.Sorted.{IsStrictlySortedBy}
use Rattle.pm_base.proofs.Laws.{AllByRecursion-parts}
use Rattle.pm_store.specs.Files.{Files}
use Rattle.pm_values.specs.Order.{Values, key_cmp}
use Rattle.pm_values.specs.declared.file_meta.FileMeta.{FileMeta}
use Rattle.pm_values.specs.declared.group.Group.{Group}
use Rattle.pm_values.specs.declared.record.Stamped.{Stamped}
use Rattle.pm_values.specs.declared.refusal.Refusal.{Refusal}
use Rattle.pm_values.specs.declared.refusal.Refusal.TheVariants.{Memory}
use Rattle.pm_schema.specs.declared.schema.TableSchema.{TableSchema}
use Rattle.pm_levels.specs.Runs.{IsRun, RunView}
use Rattle.pm_run.specs.Order.{keys_of}
use Rattle.pm_run.specs.Writing.{AreRising}
use Rattle.pm_model_folder.specs.Stored.{HasFile, HasRun, HaveFileRows}
use Rattle.pm_runs.specs.Stand.{StoredRun}
use Rattle.pm_group_files.specs.Collected.{Collected, HaveTaken, RefusesJob, RefusesWhere, run_closed, with_rows}
use Rattle.pm_group_files.specs.Jobs.{Wanted, all_wanted, file_jobs, file_jobs_as, job_of, jobs_with, run_jobs_as, wanted_jobs}
use Rattle.pm_group_files.specs.Meaning.{HasRuns}
use Rattle.pm_group_files.specs.declared.job.Ends.{Ends}
use Rattle.pm_group_files.specs.declared.job.Ends.TheVariants as ends
use Rattle.pm_group_files.specs.declared.job.Job.{Job}
use Rattle.pm_group_files.proofs.TakenLemmas.{IsBetween, RowLaws, file-refused, file-taken, one-group, run-taken, taken-split}
use Rattle.pm_group_files.proofs.ReadLemmas.{all-joined, all-parts}

-- ---- rows that rise

sorted-first : (xs ys : List Values) → IsStrictlySortedBy key_cmp (xs ++ ys) → IsStrictlySortedBy key_cmp xs
unfolding IsStrictlySortedBy
sorted-first [] ys rising = tt
sorted-first (x ∷ xs) ys rising = ((AllByRecursion-parts (λ (y : Values). key_cmp x y ≡ Less) xs ys rising.0).0, sorted-first xs ys rising.1)

keys-joined : (xs ys : List Stamped) → keys_of (xs ++ ys) ≡ keys_of xs ++ keys_of ys
keys-joined [] ys = refl
keys-joined (x ∷ xs) ys = ap (λ (keys : List Values). x.key ∷ keys) (keys-joined xs ys)

-- the first of rows that rise do
rising-first : (xs ys : List Stamped) → AreRising (xs ++ ys) → AreRising xs
rising-first xs ys rising = sorted-first (keys_of xs) (keys_of ys) (subst (IsStrictlySortedBy key_cmp) (keys-joined xs ys) rising)

-- ---- where a file stands

pub no-job : (done : List Job) (job : Job) (rest : List Job) → [] ≡ done ++ job ∷ rest → ⊥
no-job [] job rest e = cc
no-job (first ∷ done) job rest e = cc

pub job-head : (a b : Job) (more others : List Job) → a ∷ more ≡ b ∷ others → a ≡ b
job-head a b more others e = cc

pub job-tail : (a b : Job) (more others : List Job) → a ∷ more ≡ b ∷ others → more ≡ others
job-tail a b more others e = cc

-- it is one of the first files, or one of the later ones
pub where-is : (xs ys done : List Job) (job : Job) (rest : List Job) → xs ++ ys ≡ done ++ job ∷ rest
    → ((more : List Job) × (xs ≡ done ++ job ∷ more)) ⊎ ((later : List Job) × (done ≡ xs ++ later) × (ys ≡ later ++ job ∷ rest))
where-is [] ys done job rest e = inr (done, refl, e)
where-is (x ∷ xs) ys [] job rest e = inl (xs, ap (λ (first : Job). first ∷ xs) (job-head x job (xs ++ ys) rest e))
where-is (x ∷ xs) ys (first ∷ done) job rest e =
    elim (where-is xs ys done job rest (job-tail x first (xs ++ ys) (done ++ job ∷ rest) e)) [
      | inl in-first ↦ inl (in-first.0, ap (λ (f : Job). f ∷ xs) (job-head x first (xs ++ ys) (done ++ job ∷ rest) e) ∙ ap (λ (jobs : List Job). first ∷ jobs) in-first.1)
      | inr in-later ↦ inr (in-later.0, ap (λ (f : Job). f ∷ done) (sym (job-head x first (xs ++ ys) (done ++ job ∷ rest) e)) ∙ ap (λ (jobs : List Job). x ∷ jobs) in-later.1, in-later.2)
    ]

-- ---- its rows

-- the file is that of a group, is there with these rows, and they rise with those of the run that were read
pub record FollowsOn (f : Files) (s : TableSchema) (job : Job) (c : Collected) : Type 0 where
  pub group : Group
  pub file : FileMeta
  pub end : Ends
  pub own : List Stamped
  pub is : job ≡ job_of s group end file
  pub has : HasFile f s false group file own
  pub rising : AreRising (c.rows ++ own)

module _ (laws : RowLaws) (f : Files) (s : TableSchema) (g : Group) where
  next-here : (m : FileMeta) (end : Ends) (own later rows : List Stamped) (old : Collected) (job : Job) (rest jobs : List Job) (c : Collected) → HasFile f s false g m own → rows ≡ own ++ later
      → AreRising (old.rows ++ rows) → job_of s g end m ∷ jobs ≡ job ∷ rest → c ≡ old → FollowsOn f s job c
  next-here m end own later rows old job rest jobs c has split rising e same =
      let all : AreRising ((old.rows ++ own) ++ later) = subst AreRising (ap (λ (rows : List Stamped). old.rows ++ rows) split ∙ sym (append_assoc old.rows own later)) rising in
      record {
        group = g;
        file = m;
        end = end;
        own = own;
        is = sym (job-head (job_of s g end m) job jobs rest e);
        has = has;
        rising = subst (λ (c : Collected). AreRising (c.rows ++ own)) (sym same) (rising-first (old.rows ++ own) later all);
      }

  next-file : (ms : List FileMeta) (rows : List Stamped) (end : Ends) (old : Collected) (done : List Job) (job : Job) (rest : List Job) (c : Collected) → old.schema ≡ s → HaveFileRows f s g ms rows
      → AreRising (old.rows ++ rows) → file_jobs s g end ms ≡ done ++ job ∷ rest → HaveTaken f done old c → FollowsOn f s job c
  next-file [] rows end old done job rest c schema have rising e taken = absurd (no-job done job rest e)
  next-file (m ∷ []) rows end old [] job rest c schema have rising e taken =
      next-here m end have.0 have.1 rows old job rest [] c have.3 have.2 rising e taken
  next-file (m ∷ []) rows end old (first ∷ done) job rest c schema have rising e taken =
      absurd (no-job done job rest (job-tail (job_of s g end m) first [] (done ++ job ∷ rest) e))
  next-file (m ∷ n ∷ ms) rows end old [] job rest c schema have rising e taken =
      next-here m ends.File have.0 have.1 rows old job rest (file_jobs s g end (n ∷ ms)) c have.3 have.2 rising e taken
  next-file (m ∷ n ∷ ms) rows end old (first ∷ done) job rest c schema have rising e taken =
      let own : HaveTaken f (job_of s g ends.File m ∷ done) old c =
      subst (λ (j : Job). HaveTaken f (j ∷ done) old c) (sym (job-head (job_of s g ends.File m) first (file_jobs s g end (n ∷ ms)) (done ++ job ∷ rest) e)) taken in
      let closes : own.1 ≡ with_rows (old.rows ++ have.0) old = file-taken laws f s g m have.0 ends.File own.0 old own.1 schema have.3 own.2 own.3 in
      next-file (n ∷ ms) have.1 end (with_rows (old.rows ++ have.0) old) done job rest c schema have.4
      (subst AreRising (ap (λ (rows : List Stamped). old.rows ++ rows) have.2 ∙ sym (append_assoc old.rows have.0 have.1)) rising)
      (job-tail (job_of s g ends.File m) first (file_jobs s g end (n ∷ ms)) (done ++ job ∷ rest) e)
      (subst (λ (middle : Collected). HaveTaken f done middle c) closes own.4)

  -- after none of a run its rows rise as they are
  rising-alone : (before rows : List Stamped) → before ≡ [] → AreRising rows → AreRising (before ++ rows)
  rising-alone before rows none rising = subst (λ (first : List Stamped). AreRising (first ++ rows)) (sym none) rising

  next-run : (run : RunView) (older : List RunView) (stored : List StoredRun) (end : Ends) (old : Collected) (done : List Job) (job : Job) (rest : List Job) (c : Collected) → old.schema ≡ s → old.rows ≡ []
      → AllByRecursion IsRun (run ∷ older) → AllZip (HasRun f s g) (run ∷ older) stored → run_jobs_as false s g end (run ∷ older) ≡ done ++ job ∷ rest → HaveTaken f done old c → FollowsOn f s job c
  next-run run older [] end old done job rest c schema none each read e taken = absurd read
  next-run run [] (x ∷ xs) end old done job rest c schema none each read e taken =
      next-file run.files x.rows end old done job rest c schema read.0.files (rising-alone old.rows x.rows none read.0.rising) e taken
  next-run run (next ∷ older) (x ∷ xs) end old done job rest c schema none each read e taken =
      elim (where-is (file_jobs s g ends.Run run.files) (run_jobs_as false s g end (next ∷ older)) done job rest e) [
        | inl here ↦ next-file run.files x.rows ends.Run old done job here.0 c schema read.0.files (rising-alone old.rows x.rows none read.0.rising) here.1 taken
        | inr there ↦
            let parts = taken-split f (file_jobs s g ends.Run run.files) there.0 old c
            (subst (λ (jobs : List Job). HaveTaken f jobs old c) there.1 taken) in
            let closes : parts.0 ≡ run_closed (with_rows (old.rows ++ x.rows) old) = run-taken laws f s g run.files x.rows ends.Run old parts.0 schema each.0.some read.0.files parts.1 in
            next-run next older xs end (run_closed (with_rows (old.rows ++ x.rows) old)) there.0 job rest c schema refl each.1 read.1 there.2
            (subst (λ (middle : Collected). HaveTaken f there.0 middle c) closes parts.2)
      ]

  next-runs : (own : List RunView) (stored : List StoredRun) (end : Ends) (old : Collected) (done : List Job) (job : Job) (rest : List Job) (c : Collected) → old.schema ≡ s → old.rows ≡ [] → own ≢ []
      → AllByRecursion IsRun own → AllZip (HasRun f s g) own stored → run_jobs_as false s g end own ≡ done ++ job ∷ rest → HaveTaken f done old c → FollowsOn f s job c
  next-runs [] stored end old done job rest c schema none some each read e taken = absurd (some refl)
  next-runs (run ∷ older) stored end old done job rest c schema none some each read e taken = next-run run older stored end old done job rest c schema none each read e taken

  -- ---- files that are kept

  abbrev IsKept : Job → Type 0
  IsKept job = job.kept ≡ true

  files-kept : (end : Ends) (ms : List FileMeta) → AllByRecursion IsKept (file_jobs_as true s g end ms)
  files-kept end [] = tt
  files-kept end (m ∷ []) = (refl, tt)
  files-kept end (m ∷ n ∷ ms) = (refl, files-kept end (n ∷ ms))

  runs-kept : (end : Ends) (runs : List RunView) → AllByRecursion IsKept (run_jobs_as true s g end runs)
  runs-kept end [] = tt
  runs-kept end (run ∷ []) = files-kept end run.files
  runs-kept end (run ∷ older ∷ runs) =
      all-joined IsKept (file_jobs_as true s g ends.Run run.files) (run_jobs_as true s g end (older ∷ runs)) (files-kept ends.Run run.files) (runs-kept end (older ∷ runs))

  next-parts : (own kept : List RunView) (stored : List StoredRun) (old : Collected) (done : List Job) (job : Job) (rest : List Job) (c : Collected) → old.schema ≡ s → old.rows ≡ [] → own ≢ []
      → AllByRecursion IsRun own → AllZip (HasRun f s g) own stored → jobs_with s g own kept ≡ done ++ job ∷ rest → HaveTaken f done old c → (job.kept ≡ true) ⊎ FollowsOn f s job c
  next-parts own [] stored old done job rest c schema none some each read e taken =
      inr (next-runs own stored ends.Group old done job rest c schema none some each read e taken)
  next-parts own (first ∷ kept) stored old done job rest c schema none some each read e taken =
      elim (where-is (run_jobs_as false s g ends.Run own) (run_jobs_as true s g ends.Group (first ∷ kept)) done job rest e) [
        | inl here ↦ inr (next-runs own stored ends.Run old done job here.0 c schema none some each read here.1 taken)
        | inr there ↦
            inl (all-parts IsKept there.0 (job ∷ rest) (subst (AllByRecursion IsKept) there.2 (runs-kept ends.Group (first ∷ kept)))).1.0
      ]

module _ (laws : RowLaws) (f : Files) (s : TableSchema) where
  pub next-group : (groups : List Wanted) (old : Collected) (done : List Job) (job : Job) (rest : List Job) (c : Collected) → IsBetween s old
      → AllByRecursion (λ (w : Wanted). HasRuns f s (w.group, w.runs) × AllByRecursion IsRun w.kept) groups → all_wanted s groups ≡ done ++ job ∷ rest → HaveTaken f done old c
      → (job.kept ≡ true) ⊎ FollowsOn f s job c
  next-group [] old done job rest c between have e taken = absurd (no-job done job rest e)
  next-group (w ∷ groups) old done job rest c between have e taken =
      let own = have.0.0 in
      elim (where-is (wanted_jobs s w) (all_wanted s groups) done job rest e) [
        | inl here ↦
            next-parts laws f s w.group w.runs w.kept own.stored old done job here.0 c between.schema between.rows own.some own.each own.read here.1 taken
        | inr there ↦
            let parts = taken-split f (wanted_jobs s w) there.0 old c (subst (λ (jobs : List Job). HaveTaken f jobs old c) there.1 taken) in
            let (x, is, one) = one-group laws f s w own have.0.1 old parts.0 between parts.1 in
            next-group groups (record old { groups = old.groups ++ x ∷ [] }) there.0 job rest c
            (record { schema = between.schema; runs = between.runs; kept = between.kept; rows = between.rows }) have.1 there.2
            (subst (λ (middle : Collected). HaveTaken f there.0 middle c) one parts.2)
      ]

  -- it is refused for memory alone
  pub next-refused : (groups : List Wanted) (old : Collected) (done : List Job) (job : Job) (rest : List Job) (c : Collected) (bytes : List ℕ) (refusal : Refusal) → IsBetween s old
      → AllByRecursion (λ (w : Wanted). HasRuns f s (w.group, w.runs) × AllByRecursion IsRun w.kept) groups → all_wanted s groups ≡ done ++ job ∷ rest → HaveTaken f done old c
      → map.get f job.path ≡ Some bytes → RefusesJob s job bytes c.rows refusal → refusal ≡ Memory
  next-refused groups old done job rest c bytes refusal between have e taken there refuses = by (next-group groups old done job rest c between have e taken)
    where
      by : (job.kept ≡ true) ⊎ FollowsOn f s job c → refusal ≡ Memory
      by (inl kept) = absurd (subst (λ (kept : Bool). RefusesWhere kept s job bytes c.rows refusal) kept refuses)
      by (inr n) =
          file-refused laws f s n.group n.file n.own n.end bytes c.rows refusal n.has (sym (ap (λ (job : Job). map.get f job.path) n.is) ∙ there) n.rising
          (subst (λ (job : Job). RefusesJob s job bytes c.rows refusal) n.is refuses)
