-- The files of groups.
use Rattle.std.proofs.Common.{◌≡◌, ℕ, zero, suc, ◌+◌, ◌<◌, ◌≤◌, List, [], ◌∷◌, ◌++◌, length, map, drop, get_or, Bool, true, false, ◌||◌, refl, sym, ap, subst, ◌∙◌, append_assoc, append-nil, arith}
use Rattle.std.specs.Prelude.{nat_lt}
use Rattle.std.specs.BTreeMap.{BTreeMap}
use Rattle.std.proofs.lemmas.Bool.Decides.{nat_tests}
use Rattle.std.proofs.lemmas.List.{at_drop_more, drop_all, get_or-map, length-map, length_push}
use Rattle.pm_values.specs.Names.{Naming, counted, with_count}
use Rattle.pm_values.specs.declared.group.Group.{Group}
use Rattle.pm_schema.specs.declared.schema.TableSchema.{TableSchema}
use Rattle.pm_engine.specs.Covers.{Run}
use Rattle.pm_run.specs.Row.{most_sequence}
use Rattle.pm_write.specs.Batch.{Groups, numbered}
use Rattle.pm_write.specs.Files.{AreFilesOfRuns, IsNewFile, exceeds, exceeds_at, next_of, next_run}
use Rattle.pm_write.specs.Held.{all_groups, group_rows}
use Rattle.pm_write.specs.declared.files.NewFile.{NewFile}
use Rattle.pm_write.specs.declared.held.HeldRows.{HeldRows}

pub neither : (a b : Bool) → (a || b) ≡ false → (a ≡ false) × (b ≡ false)
neither true b e = cc
neither false b e = (refl, e)

pub not_above : (n : ℕ) → nat_lt (most_sequence + 1) n ≡ false → n ≤ most_sequence + 1
not_above n test = grind (arith, nat_tests)

-- no group's rows need a number above the greatest
pub within_at : (next : BTreeMap Group ℕ) (groups : List HeldRows) (i : ℕ) (d : HeldRows) → exceeds next (all_groups groups) ≡ false → i < length groups
    → next_of next (get_or groups i d).group + (get_or groups i d).count ≤ most_sequence + 1
within_at next [] i d none inside = absurd (omega arith)
within_at next (h ∷ hs) zero d none inside = not_above (next_of next h.group + h.count) (neither (exceeds_at next (group_rows h)) (exceeds next (all_groups hs)) none).0
within_at next (h ∷ hs) (suc i) d none inside =
    within_at next hs i d (neither (exceeds_at next (group_rows h)) (exceeds next (all_groups hs)) none).1 (omega arith)

-- the next of the groups that are left
left_at : (next : BTreeMap Group ℕ) (groups : List HeldRows) (i : ℕ) (d : HeldRows) → i < length groups
    → drop i (map (next_run next) (all_groups groups)) ≡ next_run next (group_rows (get_or groups i d)) ∷ drop (i + 1) (map (next_run next) (all_groups groups))
left_at next groups i d inside =
    let all = all_groups groups in
    let runs = map (next_run next) all in
    let seen = length-map groups group_rows in
    let many = length-map all (next_run next) in
    let within : i < length all = omega arith in
    let e = group_rows d in
    at_drop_more (λ (rs : List (Group × Run)). rs) runs i (next_run next e) (omega arith)
    ∙ ap (λ (p : Group × Run). p ∷ drop (i + 1) runs) (get_or-map (next_run next) all i e (next_run next e) within ∙ ap (next_run next) (get_or-map group_rows groups i d e inside))

-- with one file more
pub files_more : (s : TableSchema) (next : BTreeMap Group ℕ) (old names now : Naming) (groups : List HeldRows) (all : Groups) (i : ℕ) (d : HeldRows) (first : ℕ) (files new : List NewFile) (x : NewFile)
    → all_groups groups ≡ all → i < length groups → first ≡ next_of next (get_or groups i d).group
    → IsNewFile s names (get_or groups i d).group (numbered first (group_rows (get_or groups i d)).1.run) x → now ≡ counted names → new ≡ files ++ x ∷ []
    → ((more : List NewFile) → AreFilesOfRuns s names (drop i (map (next_run next) all)) more → AreFilesOfRuns s old (map (next_run next) all) (files ++ more))
    → (more : List NewFile) → AreFilesOfRuns s now (drop (i + 1) (map (next_run next) all)) more → AreFilesOfRuns s old (map (next_run next) all) (new ++ more)
files_more s next old names now groups all i d first files new x seen inside number file named pushed before more later =
    let h = get_or groups i d in
    let runs = map (next_run next) all in
    let left : drop i runs ≡ next_run next (group_rows h) ∷ drop (i + 1) runs =
    subst (λ (bs : Groups). drop i (map (next_run next) bs) ≡ next_run next (group_rows h) ∷ drop (i + 1) (map (next_run next) bs)) seen (left_at next groups i d inside) in
    let own : IsNewFile s names h.group (numbered (next_of next h.group) (group_rows h).1.run) x = subst (λ (n : ℕ). IsNewFile s names h.group (numbered n (group_rows h).1.run) x) number file in
    let after : AreFilesOfRuns s (counted names) (drop (i + 1) runs) more = subst (λ (n : Naming). AreFilesOfRuns s n (drop (i + 1) runs) more) named later in
    let both : AreFilesOfRuns s names (drop i runs) (x ∷ more) = subst (λ (rs : List (Group × Run)). AreFilesOfRuns s names rs (x ∷ more)) (sym left) (own, after) in
    subst (AreFilesOfRuns s old runs) (sym (ap (λ (fs : List NewFile). fs ++ more) pushed ∙ append_assoc files (x ∷ []) more)) (before (x ∷ more) both)

-- with none left
pub files_all : (s : TableSchema) (old names : Naming) (runs : List (Group × Run)) (i : ℕ) (files : List NewFile) → length runs ≤ i
    → ((more : List NewFile) → AreFilesOfRuns s names (drop i runs) more → AreFilesOfRuns s old runs (files ++ more)) → AreFilesOfRuns s old runs files
files_all s old names runs i files past before =
    subst (AreFilesOfRuns s old runs) (append-nil files) (before [] (subst (λ (rs : List (Group × Run)). AreFilesOfRuns s names rs []) (sym (drop_all i runs past)) tt))

-- one file for each run
pub files_many : (s : TableSchema) (names : Naming) (runs : List (Group × Run)) (files : List NewFile) → AreFilesOfRuns s names runs files → length files ≡ length runs
files_many s names [] [] are = refl
files_many s names [] (x ∷ files) are = absurd are
files_many s names (p ∷ runs) [] are = absurd are
files_many s names (p ∷ runs) (x ∷ files) are = ap suc (files_many s (counted names) runs files are.1)

pub length_after : (old new : List NewFile) (x : NewFile) (i : ℕ) → new ≡ old ++ x ∷ [] → length old ≡ i → length new ≡ i + 1
length_after old new x i pushed many = let longer = ap length pushed ∙ length_push old x in omega arith

-- names that are counted once more
pub names_more : (old names now : Naming) (i : ℕ) → names ≡ with_count old.session old.actor old.base (old.count + i) → now ≡ counted names → now ≡ with_count old.session old.actor old.base (old.count + (i + 1))
names_more old names now i same step =
    let next : old.count + i + 1 ≡ old.count + (i + 1) = omega arith in
    step ∙ ap counted same ∙ ap (with_count old.session old.actor old.base) next
