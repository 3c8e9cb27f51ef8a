-- Files, runs and groups one after another.
use Rattle.std.proofs.Common.{◌≡◌, ◌==◌, ℕ, ◌+◌, ◌-◌, ◌<◌, zero, suc, Bool, true, false, cond, if◌then◌else◌, List, [], ◌∷◌, ◌++◌, length, drop, get_or, map, Some, IsSome, refl, sym, ap, ◌∙◌, subst, arith, append_assoc, append-nil, drop-cons, length-drop, is_eq}
use Rattle.std.specs.BTreeMap.{is_at}
use Rattle.std.specs.List.{AllByRecursion}
use Rattle.std.specs.Map.{lookup}
use Rattle.std.proofs.lemmas.Bool.Decides.{nat_tests}
use Rattle.std.specs.Cmp.{tied_itself}
use Rattle.std.proofs.lemmas.List.{length-map}
use Rattle.pm_values.specs.GroupOrder.{group_cmp, group_total}
use Rattle.pm_values.specs.declared.file_meta.FileMeta.{FileMeta}
use Rattle.pm_values.specs.declared.group.Group.{Group}
use Rattle.pm_schema.specs.Folder.{FitsPartition}
use Rattle.pm_schema.specs.declared.schema.TableSchema.{TableSchema}
use Rattle.pm_levels.specs.Runs.{RunView, run_of}
use Rattle.pm_levels.specs.declared.runs.RunFiles.{RunFiles}
use Rattle.pm_group_files.specs.Jobs.{Grouped, all_wanted, file_jobs_as, job_as, run_jobs_as, whole_groups}
use Rattle.pm_group_files.specs.declared.job.Ends.{Ends}
use Rattle.pm_group_files.specs.declared.job.Ends.TheVariants as ends
use Rattle.pm_group_files.specs.declared.job.Job.{Job}

-- ---- the files of a run

file_first : (kept : Bool) (s : TableSchema) (g : Group) (end : Ends) (m : FileMeta) (rest : List FileMeta) (b : Bool) → (length rest ≡ 0 → b ≡ true) → (0 < length rest → b ≡ false)
    → file_jobs_as kept s g end (m ∷ rest) ≡ job_as kept s g (if b then end else ends.File) m ∷ file_jobs_as kept s g end rest
file_first kept s g end m [] b last other = rw (last refl) refl
file_first kept s g end m (n ∷ rest) b last other = rw (other (omega arith)) refl

-- the file at an index, and those after it
file_at : (kept : Bool) (s : TableSchema) (g : Group) (end : Ends) (files : List FileMeta) (k : ℕ) (d : FileMeta) (b : Bool) → k < length files → b ≡ (k + 1 == length files)
    → file_jobs_as kept s g end (drop k files) ≡ job_as kept s g (if b then end else ends.File) (get_or files k d) ∷ file_jobs_as kept s g end (drop (suc k) files)
file_at kept s g end files k d b within is =
    let left : length (drop (suc k) files) ≡ length files - suc k = length-drop (suc k) files in
    ap (file_jobs_as kept s g end) (drop-cons files k d within)
    ∙ file_first kept s g end (get_or files k d) (drop (suc k) files) b
    (λ none. is ∙ (let same : k + 1 ≡ length files = omega (arith, left, none, within) in grind (arith, nat_tests, same)))
    (λ some. is ∙ (let less : k + 1 < length files = omega (arith, left, some, within) in grind (arith, nat_tests, less)))

-- one file more
pub file_more : (kept : Bool) (s : TableSchema) (g : Group) (end : Ends) (files : List FileMeta) (k : ℕ) (d m : FileMeta) (b : Bool) (jobs new all : List Job) (job : Job) → k < length files
    → b ≡ (k + 1 == length files) → m ≡ get_or files k d → job ≡ job_as kept s g (if b then end else ends.File) m → new ≡ jobs ++ job ∷ []
    → jobs ++ file_jobs_as kept s g end (drop k files) ≡ all → new ++ file_jobs_as kept s g end (drop (suc k) files) ≡ all
file_more kept s g end files k d m b jobs new all job within is at made pushed before =
    ap (λ (new : List Job). new ++ file_jobs_as kept s g end (drop (suc k) files)) pushed
    ∙ append_assoc jobs (job ∷ []) (file_jobs_as kept s g end (drop (suc k) files))
    ∙ ap (λ (job : Job). jobs ++ job ∷ file_jobs_as kept s g end (drop (suc k) files)) (made ∙ ap (job_as kept s g (if b then end else ends.File)) at)
    ∙ ap (λ (later : List Job). jobs ++ later) (sym (file_at kept s g end files k d b within is))
    ∙ before

-- ---- the runs of a group

run_first : (kept : Bool) (s : TableSchema) (g : Group) (end : Ends) (run : RunView) (rest : List RunView) (b : Bool) → (length rest ≡ 0 → b ≡ true) → (0 < length rest → b ≡ false)
    → run_jobs_as kept s g end (run ∷ rest) ≡ file_jobs_as kept s g (if b then end else ends.Run) run.files ++ run_jobs_as kept s g end rest
run_first kept s g end run [] b last other = rw (last refl) (sym (append-nil (file_jobs_as kept s g end run.files)))
run_first kept s g end run (older ∷ rest) b last other = rw (other (omega arith)) refl

run_at : (kept : Bool) (s : TableSchema) (g : Group) (end : Ends) (runs : List RunView) (k : ℕ) (d : RunView) (b : Bool) → k < length runs → b ≡ (k + 1 == length runs)
    → run_jobs_as kept s g end (drop k runs) ≡ file_jobs_as kept s g (if b then end else ends.Run) (get_or runs k d).files ++ run_jobs_as kept s g end (drop (suc k) runs)
run_at kept s g end runs k d b within is =
    let left : length (drop (suc k) runs) ≡ length runs - suc k = length-drop (suc k) runs in
    ap (run_jobs_as kept s g end) (drop-cons runs k d within)
    ∙ run_first kept s g end (get_or runs k d) (drop (suc k) runs) b
    (λ none. is ∙ (let same : k + 1 ≡ length runs = omega (arith, left, none, within) in grind (arith, nat_tests, same)))
    (λ some. is ∙ (let less : k + 1 < length runs = omega (arith, left, some, within) in grind (arith, nat_tests, less)))

-- one run more
pub run_more : (kept : Bool) (s : TableSchema) (g : Group) (end : Ends) (runs : List RunView) (k : ℕ) (d : RunView) (files : List FileMeta) (b : Bool) (own : Ends) (jobs new all : List Job) → k < length runs
    → b ≡ (k + 1 == length runs) → files ≡ (get_or runs k d).files → own ≡ (if b then end else ends.Run) → new ≡ jobs ++ file_jobs_as kept s g own files
    → jobs ++ run_jobs_as kept s g end (drop k runs) ≡ all → new ++ run_jobs_as kept s g end (drop (suc k) runs) ≡ all
run_more kept s g end runs k d files b own jobs new all within is at closes pushed before =
    ap (λ (new : List Job). new ++ run_jobs_as kept s g end (drop (suc k) runs)) pushed
    ∙ append_assoc jobs (file_jobs_as kept s g own files) (run_jobs_as kept s g end (drop (suc k) runs))
    ∙ ap (λ (own : Ends). jobs ++ (file_jobs_as kept s g own files ++ run_jobs_as kept s g end (drop (suc k) runs))) closes
    ∙ ap (λ (files : List FileMeta). jobs ++ (file_jobs_as kept s g (if b then end else ends.Run) files ++ run_jobs_as kept s g end (drop (suc k) runs))) at
    ∙ ap (λ (later : List Job). jobs ++ later) (sym (run_at kept s g end runs k d b within is))
    ∙ before

-- ---- all groups

-- with the files of the groups that are left, so far all are; and each of these groups is one of the table
pub record JobsLeft (s : TableSchema) (groups left : List Grouped) (jobs : List Job) : Type 0 where
  pub joined : jobs ++ all_wanted s (whole_groups left) ≡ all_wanted s (whole_groups groups)
  pub fits : AllByRecursion (λ (e : Grouped). FitsPartition s e.0) left

found_later : (test : Group → Bool) (e : Grouped) (groups : List Grouped) → IsSome (lookup test groups) → IsSome (lookup test (e ∷ groups))
found_later test e groups some = at (test e.0)
  where
    at : (b : Bool) → IsSome (cond b (Some e.1) (lookup test groups))
    at true = refl
    at false = some

-- what holds of each group that is found holds of all groups
pub all_fit : (s : TableSchema) (groups : List Grouped) → ((g : Group) → IsSome (lookup (is_at (group_cmp g)) groups) → FitsPartition s g)
    → AllByRecursion (λ (e : Grouped). FitsPartition s e.0) groups
all_fit s [] fits = tt
all_fit s (e ∷ groups) fits = (
  fits e.0 (subst (λ (b : Bool). IsSome (cond b (Some e.1) (lookup (is_at (group_cmp e.0)) groups))) (sym (ap is_eq (tied_itself group_total e.0))) refl),
  all_fit s groups (λ g some. fits g (found_later (is_at (group_cmp g)) e groups some)),
)

-- one group more
pub groups_more : (s : TableSchema) (groups left later : List Grouped) (g : Group) (runs : List RunView) (jobs new : List Job) → JobsLeft s groups left jobs → left ≡ (g, runs) ∷ later
    → new ≡ jobs ++ run_jobs_as false s g ends.Group runs → JobsLeft s groups later new
groups_more s groups left later g runs jobs new before steps pushed = record {
  joined = ap (λ (new : List Job). new ++ all_wanted s (whole_groups later)) pushed ∙ append_assoc jobs (run_jobs_as false s g ends.Group runs) (all_wanted s (whole_groups later))
      ∙ ap (λ (left : List Grouped). jobs ++ all_wanted s (whole_groups left)) (sym steps) ∙ before.joined;
  fits = (subst (AllByRecursion (λ (e : Grouped). FitsPartition s e.0)) steps before.fits).1;
}

pub group_fits : (s : TableSchema) (groups left later : List Grouped) (g : Group) (runs : List RunView) (jobs : List Job) → JobsLeft s groups left jobs → left ≡ (g, runs) ∷ later
    → FitsPartition s g
group_fits s groups left later g runs jobs before steps = (subst (AllByRecursion (λ (e : Grouped). FitsPartition s e.0)) steps before.fits).0

pub jobs_start : (s : TableSchema) (groups left : List Grouped) (jobs : List Job) → jobs ≡ [] → left ≡ groups
    → ((g : Group) → IsSome (lookup (is_at (group_cmp g)) groups) → FitsPartition s g) → JobsLeft s groups left jobs
jobs_start s groups left jobs none same fits = record {
  joined = ap (λ (jobs : List Job). jobs ++ all_wanted s (whole_groups left)) none ∙ ap (λ (groups : List Grouped). all_wanted s (whole_groups groups)) same;
  fits = subst (AllByRecursion (λ (e : Grouped). FitsPartition s e.0)) (sym same) (all_fit s groups fits);
}

-- ---- the runs as they lie in memory

get_seen : (runs : List RunFiles) (k : ℕ) (d : RunFiles) → get_or (map run_of runs) k (run_of d) ≡ run_of (get_or runs k d)
get_seen [] k d = refl
get_seen (run ∷ runs) zero d = refl
get_seen (run ∷ runs) (suc k) d = get_seen runs k d

pub seen_more : (kept : Bool) (s : TableSchema) (g : Group) (end : Ends) (runs : List RunFiles) (k : ℕ) (run : RunFiles) (own : Ends) (jobs new all : List Job) → k < length runs → run ≡ get_or runs k run
    → own ≡ (if k + 1 == length runs then end else ends.Run) → new ≡ jobs ++ file_jobs_as kept s g own run.files.items
    → jobs ++ run_jobs_as kept s g end (drop k (map run_of runs)) ≡ all → new ++ run_jobs_as kept s g end (drop (k + 1) (map run_of runs)) ≡ all
seen_more kept s g end runs k run own jobs new all within at closes pushed before =
    let long : length (map run_of runs) ≡ length runs = length-map runs run_of in
    let next : suc k ≡ k + 1 = omega arith in
    subst (λ (n : ℕ). new ++ run_jobs_as kept s g end (drop n (map run_of runs)) ≡ all) next
    (run_more kept s g end (map run_of runs) k (run_of run) run.files.items (k + 1 == length runs) own jobs new all (subst (λ (n : ℕ). k < n) (sym long) within)
    (ap (λ (n : ℕ). k + 1 == n) (sym long))
    (ap (λ (r : RunView). r.files) (ap run_of at ∙ sym (get_seen runs k run)))
    closes pushed before)
