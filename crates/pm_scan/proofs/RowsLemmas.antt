-- The files of the runs whose rows are passed on, one group after another.
use Rattle.std.proofs.Common.{◌≡◌, ℕ, ◌+◌, ◌<◌, ◌≤◌, suc, Bool, true, false, cond, List, [], ◌∷◌, ◌++◌, length, drop, get_or, map, IsSome, refl, sym, ap, subst, ◌∙◌, arith, append_assoc, append-nil, drop-cons, drop_of_length-le}
use Rattle.std.specs.BTreeMap.{is_at}
use Rattle.std.specs.List.{AllByRecursion}
use Rattle.std.specs.Map.{lookup}
use Rattle.pm_values.specs.GroupOrder.{group_cmp}
use Rattle.pm_values.specs.declared.group.Group.{Group}
use Rattle.pm_schema.specs.Folder.{FitsPartition}
use Rattle.pm_schema.specs.declared.schema.TableSchema.{TableSchema}
use Rattle.pm_levels.specs.Runs.{RunView, run_of}
use Rattle.pm_levels.specs.declared.runs.RunFiles.{RunFiles}
use Rattle.pm_group_files.specs.Jobs.{Grouped, all_jobs, run_jobs}
use Rattle.pm_group_files.specs.declared.job.Job.{Job}
use Rattle.pm_group_files.proofs.JobLemmas.{all_fit}
use Rattle.pm_scan.specs.Rows.{from_first, passed_groups, passes_at, with_runs}

-- ---- the first run that passes

run-at : (such : ℕ → Bool) (runs : List RunFiles) (k : ℕ) (run : RunFiles) (b : Bool) → k < length runs → run ≡ get_or runs k run → such run.level ≡ b
    → from_first such (map run_of (drop k runs)) ≡ cond b (map run_of (drop k runs)) (from_first such (map run_of (drop (suc k) runs)))
run-at such runs k run b within is passes =
    let rest : List RunView = map run_of (drop (suc k) runs) in
    let here : drop k runs ≡ run ∷ drop (suc k) runs = drop-cons runs k run within ∙ ap (λ (run : RunFiles). run ∷ drop (suc k) runs) (sym is) in
    ap (λ (runs : List RunFiles). from_first such (map run_of runs)) here
    ∙ ap (λ (b : Bool). cond b (run_of run ∷ rest) (from_first such rest)) passes
    ∙ sym (ap (λ (runs : List RunFiles). cond b (map run_of runs) (from_first such rest)) here)

-- it isn't passed on, so the first one is behind it
pub passed-next : (such : ℕ → Bool) (runs : List RunFiles) (k : ℕ) (run : RunFiles) → k < length runs → run ≡ get_or runs k run → such run.level ≡ false
    → from_first such (map run_of (drop k runs)) ≡ from_first such (map run_of runs) → from_first such (map run_of (drop (k + 1) runs)) ≡ from_first such (map run_of runs)
passed-next such runs k run within is not so =
    let next : k + 1 ≡ suc k = omega arith in
    ap (λ (n : ℕ). from_first such (map run_of (drop n runs))) next ∙ sym (run-at such runs k run false within is not) ∙ so

-- it is the first one
pub passed-here : (such : ℕ → Bool) (runs : List RunFiles) (k : ℕ) (run : RunFiles) → k < length runs → run ≡ get_or runs k run → such run.level ≡ true
    → from_first such (map run_of (drop k runs)) ≡ from_first such (map run_of runs) → map run_of (drop k runs) ≡ from_first such (map run_of runs)
passed-here such runs k run within is passes so = sym (run-at such runs k run true within is passes) ∙ so

-- there is none
pub passed-none : (such : ℕ → Bool) (runs : List RunFiles) (k : ℕ) → length runs ≤ k → from_first such (map run_of (drop k runs)) ≡ from_first such (map run_of runs)
    → map run_of (drop (length runs) runs) ≡ from_first such (map run_of runs)
passed-none such runs k past so =
    let none : drop (length runs) runs ≡ [] = drop_of_length-le runs (omega arith) in
    let gone : drop k runs ≡ [] = drop_of_length-le runs past in
    ap (map run_of) none ∙ sym (ap (λ (runs : List RunFiles). from_first such (map run_of runs)) gone) ∙ so

-- ---- the groups

with-jobs : (s : TableSchema) (g : Group) (left : List RunView) (groups : List Grouped) → all_jobs s (with_runs g left groups) ≡ run_jobs s g left ++ all_jobs s groups
with-jobs s g [] groups = refl
with-jobs s g (run ∷ left) groups = refl

-- with the files of the groups that are left, so far all are; and each of these groups is one of the table
pub record PassedLeft (s : TableSchema) (groups left : List Grouped) (jobs : List Job) : Type 0 where
  pub joined : jobs ++ all_jobs s (passed_groups s left) ≡ all_jobs s (passed_groups s groups)
  pub fits : AllByRecursion (λ (e : Grouped). FitsPartition s e.0) left

pub passed-start : (s : TableSchema) (groups left : List Grouped) (jobs : List Job) → jobs ≡ [] → left ≡ groups
    → ((g : Group) → IsSome (lookup (is_at (group_cmp g)) groups) → FitsPartition s g) → PassedLeft s groups left jobs
passed-start s groups left jobs none same fits = record {
  joined = ap (λ (jobs : List Job). jobs ++ all_jobs s (passed_groups s left)) none ∙ ap (λ (groups : List Grouped). all_jobs s (passed_groups s groups)) same;
  fits = subst (AllByRecursion (λ (e : Grouped). FitsPartition s e.0)) (sym same) (all_fit s groups fits);
}

pub passed-fits : (s : TableSchema) (groups left later : List Grouped) (g : Group) (runs : List RunView) (jobs : List Job) → PassedLeft s groups left jobs → left ≡ (g, runs) ∷ later
    → FitsPartition s g
passed-fits s groups left later g runs jobs before steps = (subst (AllByRecursion (λ (e : Grouped). FitsPartition s e.0)) steps before.fits).0

pub passed-more : (s : TableSchema) (groups left later : List Grouped) (g : Group) (runs : List RunView) (jobs new : List Job) → PassedLeft s groups left jobs → left ≡ (g, runs) ∷ later
    → new ≡ jobs ++ run_jobs s g (from_first (passes_at s) runs) → PassedLeft s groups later new
passed-more s groups left later g runs jobs new before steps pushed = record {
  joined = ap (λ (new : List Job). new ++ all_jobs s (passed_groups s later)) pushed
      ∙ append_assoc jobs (run_jobs s g (from_first (passes_at s) runs)) (all_jobs s (passed_groups s later))
      ∙ ap (λ (rest : List Job). jobs ++ rest) (sym (with-jobs s g (from_first (passes_at s) runs) (passed_groups s later)))
      ∙ ap (λ (left : List Grouped). jobs ++ all_jobs s (passed_groups s left)) (sym steps) ∙ before.joined;
  fits = (subst (AllByRecursion (λ (e : Grouped). FitsPartition s e.0)) steps before.fits).1;
}

pub passed-done : (s : TableSchema) (groups left : List Grouped) (jobs : List Job) → PassedLeft s groups left jobs → left ≡ [] → jobs ≡ all_jobs s (passed_groups s groups)
passed-done s groups left jobs so none =
    sym (append-nil jobs) ∙ ap (λ (left : List Grouped). jobs ++ all_jobs s (passed_groups s left)) (sym none) ∙ so.joined
