-- Which groups were read whole, and what their runs are.
use Rattle.std.proofs.Common.{◌≡◌, Bool, true, false, inl, inr, ℕ, List, [], ◌∷◌, ◌++◌, refl, sym, ap, subst, ◌∙◌, append_assoc, append-nil}
use Rattle.std.specs.List.{AllByRecursion, AllZip}
use Rattle.pm_store.specs.Files.{Files}
use Rattle.pm_values.specs.declared.file_meta.FileMeta.{FileMeta}
use Rattle.pm_values.specs.declared.group.Group.{Group}
use Rattle.pm_schema.specs.declared.schema.TableSchema.{TableSchema}
use Rattle.pm_levels.specs.Runs.{IsRun, RunView}
use Rattle.pm_model_folder.specs.Ledger.{Past}
use Rattle.pm_scan_rows.specs.Group.{GroupRead}
use Rattle.pm_group_files.specs.Chosen.{Chosen}
use Rattle.pm_group_files.specs.Collected.{Closes, ClosesKept, Collected, HaveTaken, Takes, TakesWhere, nothing_of, with_groups, with_kept, with_rows}
use Rattle.pm_group_files.specs.Jobs.{Wanted, all_wanted, file_jobs_as, job_as, jobs_with, run_jobs_as, wanted_jobs}
use Rattle.pm_group_files.specs.Meaning.{AreReadAs, HasRuns, HasTaken, IsReadAs}
use Rattle.pm_group_files.specs.declared.job.Ends.{Ends}
use Rattle.pm_group_files.specs.declared.job.Ends.TheVariants as ends
use Rattle.pm_group_files.specs.declared.job.Job.{Job}
use Rattle.pm_group_files.proofs.NextLemmas.{job-head, job-tail, no-job, where-is}
use Rattle.pm_group_files.proofs.ReadLemmas.{all-joined, all-runs}
use Rattle.pm_group_files.proofs.TakenLemmas.{IsBetween, RowLaws, groups-taken, one-group, taken-split}

-- ---- files with which no group ends

abbrev EndsNone : Ends → Type 0
EndsNone ends.File = Unit {0}
EndsNone ends.Run = Unit {0}
EndsNone ends.Group = ⊥

abbrev IsInner : Job → Type 0
IsInner job = EndsNone job.ends

closed-none : (end : Ends) (old new : Collected) → EndsNone end → Closes end old new → new.groups ≡ old.groups
closed-none ends.File old new none closes = ap (λ (c : Collected). c.groups) closes
closed-none ends.Run old new none closes = ap (λ (c : Collected). c.groups) closes
closed-none ends.Group old new none closes = absurd none

kept-none : (end : Ends) (old new : Collected) → EndsNone end → ClosesKept end old new → new.groups ≡ old.groups
kept-none ends.File old new none closes = ap (λ (c : Collected). c.groups) closes
kept-none ends.Run old new none closes = ap (λ (c : Collected). c.groups) closes
kept-none ends.Group old new none closes = absurd none

taken-none : (job : Job) (bytes : List ℕ) (old new : Collected) → IsInner job → Takes job bytes old new → new.groups ≡ old.groups
taken-none job bytes old new inner takes = by job.kept takes
  where
    by : (kept : Bool) → TakesWhere kept job bytes old new → new.groups ≡ old.groups
    by false (more, has, closes) = closed-none job.ends (with_rows (old.rows ++ more) old) new inner closes
    by true closes = kept-none job.ends (with_kept bytes old) new inner closes

-- they make no group whole
inner-taken : (f : Files) (jobs : List Job) (old new : Collected) → AllByRecursion IsInner jobs → HaveTaken f jobs old new → new.groups ≡ old.groups
inner-taken f [] old new inner taken = ap (λ (c : Collected). c.groups) taken
inner-taken f (job ∷ jobs) old new inner (bytes, middle, there, takes, rest) =
    inner-taken f jobs middle new inner.1 rest ∙ taken-none job bytes old middle inner.0 takes

-- ---- those before the last of a group are such

module _ (s : TableSchema) (g : Group) where
  files-inner : (kept : Bool) (end : Ends) (ms : List FileMeta) → EndsNone end → AllByRecursion IsInner (file_jobs_as kept s g end ms)
  files-inner kept end [] none = tt
  files-inner kept end (m ∷ []) none = (none, tt)
  files-inner kept end (m ∷ n ∷ ms) none = (tt, files-inner kept end (n ∷ ms) none)

  runs-inner : (kept : Bool) (runs : List RunView) → AllByRecursion IsInner (run_jobs_as kept s g ends.Run runs)
  runs-inner kept [] = tt
  runs-inner kept (run ∷ []) = files-inner kept ends.Run run.files tt
  runs-inner kept (run ∷ older ∷ runs) =
      all-joined IsInner (file_jobs_as kept s g ends.Run run.files) (run_jobs_as kept s g ends.Run (older ∷ runs)) (files-inner kept ends.Run run.files tt) (runs-inner kept (older ∷ runs))

  files-before : (kept : Bool) (end : Ends) (ms : List FileMeta) (done : List Job) (job : Job) (rest : List Job) → file_jobs_as kept s g end ms ≡ done ++ job ∷ rest → AllByRecursion IsInner done
  files-before kept end [] done job rest e = absurd (no-job done job rest e)
  files-before kept end (m ∷ []) [] job rest e = tt
  files-before kept end (m ∷ []) (first ∷ done) job rest e = absurd (no-job done job rest (job-tail (job_as kept s g end m) first [] (done ++ job ∷ rest) e))
  files-before kept end (m ∷ n ∷ ms) [] job rest e = tt
  files-before kept end (m ∷ n ∷ ms) (first ∷ done) job rest e = (
    subst IsInner (job-head (job_as kept s g ends.File m) first (file_jobs_as kept s g end (n ∷ ms)) (done ++ job ∷ rest) e) tt,
    files-before kept end (n ∷ ms) done job rest (job-tail (job_as kept s g ends.File m) first (file_jobs_as kept s g end (n ∷ ms)) (done ++ job ∷ rest) e),
  )

  runs-before : (kept : Bool) (end : Ends) (runs : List RunView) (done : List Job) (job : Job) (rest : List Job) → run_jobs_as kept s g end runs ≡ done ++ job ∷ rest → AllByRecursion IsInner done
  runs-before kept end [] done job rest e = absurd (no-job done job rest e)
  runs-before kept end (run ∷ []) done job rest e = files-before kept end run.files done job rest e
  runs-before kept end (run ∷ older ∷ runs) done job rest e =
      elim (where-is (file_jobs_as kept s g ends.Run run.files) (run_jobs_as kept s g end (older ∷ runs)) done job rest e) [
        | inl here ↦ files-before kept ends.Run run.files done job here.0 here.1
        | inr there ↦
            subst (AllByRecursion IsInner) (sym there.1)
            (all-joined IsInner (file_jobs_as kept s g ends.Run run.files) there.0 (files-inner kept ends.Run run.files tt) (runs-before kept end (older ∷ runs) there.0 job rest there.2))
      ]

  wanted-before : (runs kept : List RunView) (done : List Job) (job : Job) (rest : List Job) → jobs_with s g runs kept ≡ done ++ job ∷ rest → AllByRecursion IsInner done
  wanted-before runs [] done job rest e = runs-before false ends.Group runs done job rest e
  wanted-before runs (first ∷ kept) done job rest e =
      elim (where-is (run_jobs_as false s g ends.Run runs) (run_jobs_as true s g ends.Group (first ∷ kept)) done job rest e) [
        | inl here ↦ runs-before false ends.Run runs done job here.0 here.1
        | inr there ↦
            subst (AllByRecursion IsInner) (sym there.1)
            (all-joined IsInner (run_jobs_as false s g ends.Run runs) there.0 (runs-inner false runs) (runs-before true ends.Group (first ∷ kept) there.0 job rest there.2))
      ]

-- ---- groups that are whole

-- the first of these groups are, and what was read of them was put to what was whole before
record WholeIn (f : Files) (s : TableSchema) (groups : List Wanted) (old all : List GroupRead) : Type 0 where
  whole : List Wanted
  later : List Wanted
  own : List GroupRead
  parts : groups ≡ whole ++ later
  read : AllZip (IsReadAs f s) whole own
  joined : all ≡ old ++ own

whole-none : (f : Files) (s : TableSchema) (groups : List Wanted) (old all : List GroupRead) → all ≡ old → WholeIn f s groups old all
whole-none f s groups old all same = record {
  whole = [];
  later = groups;
  own = [];
  parts = refl;
  read = tt;
  joined = same ∙ sym (append-nil old);
}

-- one group more
whole-more : (f : Files) (s : TableSchema) (w : Wanted) (groups : List Wanted) (x : GroupRead) (old all : List GroupRead) → IsReadAs f s w x
    → WholeIn f s groups (old ++ x ∷ []) all → WholeIn f s (w ∷ groups) old all
whole-more f s w groups x old all is rest = record {
  whole = w ∷ rest.whole;
  later = rest.later;
  own = x ∷ rest.own;
  parts = ap (λ (groups : List Wanted). w ∷ groups) rest.parts;
  read = (is, rest.read);
  joined = rest.joined ∙ append_assoc old (x ∷ []) rest.own;
}

module _ (laws : RowLaws) (f : Files) (s : TableSchema) where
  -- where a file is left
  some-left : (groups : List Wanted) (old : Collected) (done : List Job) (job : Job) (rest : List Job) (c : Collected) → IsBetween s old
      → AllByRecursion (λ (w : Wanted). HasRuns f s (w.group, w.runs) × AllByRecursion IsRun w.kept) groups → all_wanted s groups ≡ done ++ job ∷ rest → HaveTaken f done old c
      → WholeIn f s groups old.groups c.groups
  some-left [] old done job rest c between have at taken = absurd (no-job done job rest at)
  some-left (w ∷ groups) old done job rest c between have at taken =
      elim (where-is (wanted_jobs s w) (all_wanted s groups) done job rest at) [
        | inl here ↦
            whole-none f s (w ∷ groups) old.groups c.groups (inner-taken f done old c (wanted-before s w.group w.runs w.kept done job here.0 here.1) taken)
        | inr there ↦
            let parts = taken-split f (wanted_jobs s w) there.0 old c (subst (λ (jobs : List Job). HaveTaken f jobs old c) there.1 taken) in
            let (x, is, one) = one-group laws f s w have.0.0 have.0.1 old parts.0 between parts.1 in
            whole-more f s w groups x old.groups c.groups is
            (some-left groups (record old { groups = old.groups ++ x ∷ [] }) there.0 job rest c
            (record { schema = between.schema; runs = between.runs; kept = between.kept; rows = between.rows }) have.1 there.2
            (subst (λ (middle : Collected). HaveTaken f there.0 middle c) one parts.2))
      ]

-- the groups of what is asked for that are whole, with what was handed out
pub are-whole : RowLaws → (p : Past) (a : Chosen) (c : Collected) (left : List Job) → HasTaken p a c left
    → AreReadAs (p.stood a.id) a.schema a.groups left (a.given ++ c.groups)
are-whole laws p a c [] taken =
    let f : Files = p.stood a.id in
    let have = all-runs p a.schema a.id a.groups taken.chosen.each in
    let jobs : all_wanted a.schema a.groups ≡ taken.done = taken.parts ∙ append-nil taken.done in
    let (xs, are, all) = groups-taken laws f a.schema a.groups have (nothing_of a.schema) (with_groups a.given c) (record { schema = refl; runs = refl; kept = refl; rows = refl })
    (subst (λ (jobs : List Job). HaveTaken f jobs (nothing_of a.schema) (with_groups a.given c)) (sym jobs) taken.taken) in
    record {
      whole = a.groups;
      later = [];
      parts = sym (append-nil a.groups);
      read = subst (AllZip (IsReadAs f a.schema) a.groups) (sym (ap (λ (c : Collected). c.groups) all)) are;
      ended = λ none. refl;
    }
are-whole laws p a c (job ∷ rest) taken =
    let f : Files = p.stood a.id in
    let have = all-runs p a.schema a.id a.groups taken.chosen.each in
    let w = some-left laws f a.schema a.groups (nothing_of a.schema) taken.done job rest (with_groups a.given c) (record { schema = refl; runs = refl; kept = refl; rows = refl }) have taken.parts taken.taken in
    record {
      whole = w.whole;
      later = w.later;
      parts = w.parts;
      read = subst (AllZip (IsReadAs f a.schema) w.whole) (sym w.joined) w.read;
      ended = λ none. absurd (let clash : job ∷ rest ≡ [] = none in cc);
    }
