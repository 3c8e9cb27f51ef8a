-- As many groups are left as are whole or end with files that are still to be read.
use Rattle.std.proofs.Common.{◌≡◌, ◌≢◌, ℕ, suc, ◌+◌, ◌<◌, ◌≤◌, Bool, true, false, List, [], ◌∷◌, ◌++◌, length, length-append, None, Some, refl, sym, ap, subst, ◌∙◌, arith}
use Rattle.std.specs.List.{AllByRecursion}
use Rattle.pm_values.specs.declared.file_meta.FileMeta.{FileMeta}
use Rattle.pm_values.specs.declared.group.Group.{Group}
use Rattle.pm_store.specs.declared.answer.Answer.{Answer}
use Rattle.pm_store.specs.declared.answer.Answer.TheVariants as answers
use Rattle.pm_options.specs.declared.kinds.Producer.{Producer}
use Rattle.pm_options.specs.declared.kinds.Producer.TheVariants as producers
use Rattle.pm_schema.specs.declared.schema.TableSchema.{TableSchema}
use Rattle.pm_scan_rows.specs.Group.{GroupRead}
use Rattle.pm_levels.specs.Runs.{RunView}
use Rattle.pm_read_table.specs.Reader.{most}
use Rattle.pm_group_files.specs.Collected.{Closes, ClosesKept, Collected, Takes, TakesWhere, nothing_of, with_kept, with_rows}
use Rattle.pm_group_files.specs.Jobs.{all_wanted, file_jobs_as, jobs_with, run_jobs_as, wanted_jobs}
use Rattle.pm_group_files.specs.Reader.{Goes, HandsOut, IsReady, OfTable, calls_left, read_next}
use Rattle.pm_group_files.specs.declared.job.Ends.{Ends}
use Rattle.pm_group_files.specs.declared.job.Ends.TheVariants as ends
use Rattle.pm_group_files.specs.declared.job.Job.{Job}
use Rattle.pm_group_files.specs.declared.phase.Phase.{Phase}
use Rattle.pm_group_files.specs.declared.phase.Phase.TheVariants as readers
use Rattle.pm_choice.specs.Choice.{looked_by, looked_runs, taken_runs}
use Rattle.pm_choice.specs.declared.choice.ChosenGroup.{ChosenGroup}
use Rattle.pm_compactor.specs.Compactor.{AreLeftFor, TakesFiles, ends_group, groups_ended, wanted_groups, wanted_of}

-- ---- how many groups end

ended-append : (xs ys : List Job) → groups_ended (xs ++ ys) ≡ groups_ended xs + groups_ended ys
ended-append [] ys = omega arith
ended-append (job ∷ xs) ys =
    let rest = ended-append xs ys in
    let one : groups_ended (job ∷ (xs ++ ys)) ≡ ends_group job.ends + groups_ended (xs ++ ys) = refl in
    let two : groups_ended (job ∷ xs) ≡ ends_group job.ends + groups_ended xs = refl in
    omega (arith, rest, one, two)

-- with the last file of a run
files-end : (kept : Bool) (s : TableSchema) (g : Group) (end : Ends) (files : List FileMeta) → 0 < length files → groups_ended (file_jobs_as kept s g end files) ≡ ends_group end
files-end kept s g end [] some = absurd (let none : 0 < 0 = some in omega (arith, none))
files-end kept s g end (m ∷ []) some = omega arith
files-end kept s g end (m ∷ n ∷ ms) some =
    let rest : groups_ended (file_jobs_as kept s g end (n ∷ ms)) ≡ ends_group end = files-end kept s g end (n ∷ ms) (omega arith) in
    omega (arith, rest)

-- with the oldest of some runs
runs-end : (kept : Bool) (s : TableSchema) (g : Group) (end : Ends) (runs : List RunView) → runs ≢ [] → AllByRecursion (λ (run : RunView). 0 < length run.files) runs
    → groups_ended (run_jobs_as kept s g end runs) ≡ ends_group end
runs-end kept s g end [] some all = absurd (some refl)
runs-end kept s g end (run ∷ []) some all = files-end kept s g end run.files all.0
runs-end kept s g end (run ∷ older ∷ runs) some all =
    let first : groups_ended (file_jobs_as kept s g ends.Run run.files) ≡ 0 = files-end kept s g ends.Run run.files all.0 in
    let rest : groups_ended (run_jobs_as kept s g end (older ∷ runs)) ≡ ends_group end = runs-end kept s g end (older ∷ runs) (λ none. let clash = none in cc) all.1 in
    let both = ended-append (file_jobs_as kept s g ends.Run run.files) (run_jobs_as kept s g end (older ∷ runs)) in
    omega (arith, first, rest, both)

-- with the last file that is wanted of a group
wanted-end : (s : TableSchema) (g : Group) (runs kept : List RunView) → runs ≢ [] → AllByRecursion (λ (run : RunView). 0 < length run.files) runs
    → AllByRecursion (λ (run : RunView). 0 < length run.files) kept → groups_ended (jobs_with s g runs kept) ≡ 1
wanted-end s g runs [] some all others = runs-end false s g ends.Group runs some all
wanted-end s g runs (run ∷ kept) some all others =
    let first : groups_ended (run_jobs_as false s g ends.Run runs) ≡ 0 = runs-end false s g ends.Run runs some all in
    let last : groups_ended (run_jobs_as true s g ends.Group (run ∷ kept)) ≡ 1 = runs-end true s g ends.Group (run ∷ kept) (λ none. let clash = none in cc) others in
    let both = ended-append (run_jobs_as false s g ends.Run runs) (run_jobs_as true s g ends.Group (run ∷ kept)) in
    omega (arith, first, last, both)

-- the runs in which old values are looked up have files
looked-files : (p : Producer) (c : ChosenGroup) → TakesFiles c → AllByRecursion (λ (run : RunView). 0 < length run.files) (looked_by p c)
looked-files producers.None c takes = tt
looked-files producers.Input c takes = tt
looked-files producers.Lookup c takes = takes.others
looked-files producers.FullCompaction c takes = tt

-- all groups that are chosen
pub all-end : (s : TableSchema) (left : List ChosenGroup) → AllByRecursion TakesFiles left → groups_ended (all_wanted s (wanted_groups s left)) ≡ length left
all-end s [] all = refl
all-end s (c ∷ left) all =
    let first : groups_ended (wanted_jobs s (wanted_of s c)) ≡ 1 =
    wanted-end s c.group (taken_runs c) (looked_runs s c) all.0.some all.0.each (looked-files s.options.producer c all.0) in
    let rest : groups_ended (all_wanted s (wanted_groups s left)) ≡ length left = all-end s left all.1 in
    let both = ended-append (wanted_jobs s (wanted_of s c)) (all_wanted s (wanted_groups s left)) in
    omega (arith, first, rest, both)

-- ---- they are read

-- at the beginning: some file is to be read
pub first-left : (s : TableSchema) (id : ℕ) (left : List ChosenGroup) (jobs : List Job) → left ≢ [] → groups_ended jobs ≡ length left → length jobs ≤ most
    → AreLeftFor left (read_next id (nothing_of s) jobs) × (0 < calls_left (read_next id (nothing_of s) jobs)) × (calls_left (read_next id (nothing_of s) jobs) < most + 3)
first-left s id [] jobs some ended within = absurd (some refl)
first-left s id (c ∷ left) [] some ended within =
    let clash : 0 ≡ suc (length left) = ended in absurd (omega (arith, clash))
first-left s id (c ∷ left) (job ∷ jobs) some ended within =
    let few : suc (length jobs) ≤ most = within in
    (omega (arith, ended), omega arith, omega (arith, few))

-- a file more
closes-more : (end : Ends) (old new : Collected) → Closes end old new → length new.groups ≡ length old.groups + ends_group end
closes-more ends.File old new is = let same : length new.groups ≡ length old.groups = ap (λ (c : Collected). length c.groups) is in omega (arith, same)
closes-more ends.Run old new is = let same : length new.groups ≡ length old.groups = ap (λ (c : Collected). length c.groups) is in omega (arith, same)
closes-more ends.Group old new is = ap (λ (c : Collected). length c.groups) is ∙ length-append old.groups _

kept-more : (end : Ends) (old new : Collected) → ClosesKept end old new → length new.groups ≡ length old.groups + ends_group end
kept-more ends.File old new is = let same : length new.groups ≡ length old.groups = ap (λ (c : Collected). length c.groups) is in omega (arith, same)
kept-more ends.Run old new is = let same : length new.groups ≡ length old.groups = ap (λ (c : Collected). length c.groups) is in omega (arith, same)
kept-more ends.Group old new is = ap (λ (c : Collected). length c.groups) is ∙ length-append old.groups _

takes-more : (job : Job) (bytes : List ℕ) (old new : Collected) → Takes job bytes old new → length new.groups ≡ length old.groups + ends_group job.ends
takes-more job bytes old new takes = by job.kept takes
  where
    by : (kept : Bool) → TakesWhere kept job bytes old new → length new.groups ≡ length old.groups + ends_group job.ends
    by false (more, has, closes) = closes-more job.ends (with_rows (old.rows ++ more) old) new closes
    by true closes = kept-more job.ends (with_kept bytes old) new closes

next-left : (left : List ChosenGroup) (id : ℕ) (old new : Collected) (job : Job) (jobs : List Job) → length left ≡ length old.groups + groups_ended (job ∷ jobs)
    → length new.groups ≡ length old.groups + ends_group job.ends → AreLeftFor left (read_next id new jobs)
next-left left id old new job [] are more =
    let all : length left ≡ length old.groups + (ends_group job.ends + 0) = are in omega (arith, all, more)
next-left left id old new job (next ∷ jobs) are more =
    let all : length left ≡ length old.groups + (ends_group job.ends + groups_ended (next ∷ jobs)) = are in omega (arith, all, more)

pub goes-left : (left : List ChosenGroup) (m : Phase) (answer : Answer) (new : Phase) → Goes m answer new → AreLeftFor left m → AreLeftFor left new
goes-left left (readers.Files r) (answers.Found None) new is are = subst (AreLeftFor left) (sym is) tt
goes-left left (readers.Files r) (answers.Found (Some bytes)) new (c, takes, is) are =
    subst (AreLeftFor left) (sym is)
    (next-left left r.id r.collected c r.next r.rest are (takes-more r.next bytes r.collected c takes))
goes-left left m answer new goes are = absurd goes

-- ---- they are handed out

-- the rest of a reader has as many calls left, and is of the table; these were as many groups as are whole
pub hands-same : (m : Phase) (groups : List GroupRead) (rest : Phase) → HandsOut m groups rest → calls_left rest ≡ calls_left m
hands-same (readers.Files r) groups rest (are, is) = ap calls_left is
hands-same (readers.Ready c) groups rest (are, is) = ap calls_left is
hands-same (readers.Again id path) groups rest (none, is) = ap calls_left is
hands-same readers.Over groups rest (none, is) = ap calls_left is

pub hands-table : (Holds : TableSchema → Type 0) (m : Phase) (groups : List GroupRead) (rest : Phase) → HandsOut m groups rest → OfTable Holds m → OfTable Holds rest
hands-table Holds (readers.Files r) groups rest (are, is) holds = subst (OfTable Holds) (sym is) holds
hands-table Holds (readers.Ready c) groups rest (are, is) holds = subst (OfTable Holds) (sym is) holds
hands-table Holds (readers.Again id path) groups rest (none, is) holds = subst (OfTable Holds) (sym is) tt
hands-table Holds readers.Over groups rest (none, is) holds = subst (OfTable Holds) (sym is) tt

-- no more than are left
pub hands-few : (left : List ChosenGroup) (m : Phase) (groups : List GroupRead) (rest : Phase) → HandsOut m groups rest → AreLeftFor left m
    → length groups ≤ length left
hands-few left (readers.Files r) groups rest (same, is) are =
    let long : length groups ≡ length r.collected.groups = ap length same in
    let all : length left ≡ length r.collected.groups + groups_ended (r.next ∷ r.rest) = are in
    omega (arith, long, all)
hands-few left (readers.Ready c) groups rest (same, is) are =
    let long : length groups ≡ length c.groups = ap length same in
    let all : length left ≡ length c.groups = are in
    omega (arith, long, all)
hands-few left (readers.Again id path) groups rest (none, is) are = let long : length groups ≡ 0 = ap length none in omega (arith, long)
hands-few left readers.Over groups rest (none, is) are = let long : length groups ≡ 0 = ap length none in omega (arith, long)

-- the others are left then
pub hands-left : (left new : List ChosenGroup) (m : Phase) (groups : List GroupRead) (rest : Phase) → HandsOut m groups rest → AreLeftFor left m
    → length left ≡ length groups + length new → AreLeftFor new rest
hands-left left new (readers.Files r) groups rest (same, is) are less =
    let long : length groups ≡ length r.collected.groups = ap length same in
    let all : length left ≡ length r.collected.groups + groups_ended (r.next ∷ r.rest) = are in
    let now : length new ≡ 0 + groups_ended (r.next ∷ r.rest) = omega (arith, long, all, less) in
    subst (AreLeftFor new) (sym is) now
hands-left left new (readers.Ready c) groups rest (same, is) are less =
    let long : length groups ≡ length c.groups = ap length same in
    let all : length left ≡ length c.groups = are in
    let now : length new ≡ 0 = omega (arith, long, all, less) in
    subst (AreLeftFor new) (sym is) now
hands-left left new (readers.Again id path) groups rest (none, is) are less = subst (AreLeftFor new) (sym is) tt
hands-left left new readers.Over groups rest (none, is) are less = subst (AreLeftFor new) (sym is) tt

-- none, where all files were read
no-long : {X : Type 0} (xs : List X) → length xs ≡ 0 → xs ≡ []
no-long [] none = refl
no-long (x ∷ xs) none = absurd (let clash : suc (length xs) ≡ 0 = none in omega (arith, clash))

pub none-left : (left new : List ChosenGroup) (m : Phase) (groups : List GroupRead) (rest : Phase) → HandsOut m groups rest → AreLeftFor left m
    → length left ≡ length groups + length new → IsReady rest → new ≡ []
none-left left new (readers.Files r) groups rest (same, is) are less ready = absurd (subst IsReady is ready)
none-left left new (readers.Ready c) groups rest (same, is) are less ready =
    let long : length groups ≡ length c.groups = ap length same in
    let all : length left ≡ length c.groups = are in
    no-long new (omega (arith, long, all, less))
none-left left new (readers.Again id path) groups rest (none, is) are less ready = absurd (subst IsReady is ready)
none-left left new readers.Over groups rest (none, is) are less ready = absurd (subst IsReady is ready)
