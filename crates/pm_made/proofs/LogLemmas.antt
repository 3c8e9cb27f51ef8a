-- The logs of a batch: of which groups they are, and how many files they take.
use Rattle.std.proofs.Common.{◌≡◌, ℕ, zero, suc, ◌+◌, ◌*◌, ◌≤◌, List, [], ◌∷◌, length, refl, arith}
use Rattle.std.specs.List.{AllByRecursion}
use Rattle.pm_values.specs.declared.group.Group.{Group}
use Rattle.pm_values.specs.declared.record.Change.{Change}
use Rattle.pm_write.specs.Batch.{GroupRows, Groups, logs_in, with_log}
use Rattle.pm_made.specs.Intent.{changelog_files}

-- ---- of which groups

-- what holds of each group of a batch holds of each that has a log
with-one : (P : Group → Type 0) (g : Group) (log : List Change) (logs : List (Group × List Change)) → P g
    → AllByRecursion (λ (p : Group × List Change). P p.0) logs → AllByRecursion (λ (p : Group × List Change). P p.0) (with_log g log logs)
with-one P g [] logs own all = all
with-one P g (c ∷ log) logs own all = (own, all)

pub logs-of : (P : Group → Type 0) (batch : Groups) → AllByRecursion (λ (e : Group × GroupRows). P e.0) batch
    → AllByRecursion (λ (p : Group × List Change). P p.0) (logs_in batch)
logs-of P [] all = tt
logs-of P (e ∷ batch) all = with-one P e.0 e.1.log (logs_in batch) all.0 (logs-of P batch all.1)

-- there are no more than groups
with-few : (g : Group) (log : List Change) (logs : List (Group × List Change)) (n : ℕ) → length logs ≤ n → length (with_log g log logs) ≤ suc n
with-few g [] logs n few = omega (arith, few)
with-few g (c ∷ log) logs n few = omega (arith, few)

pub logs-few : (batch : Groups) → length (logs_in batch) ≤ length batch
logs-few [] = omega arith
logs-few (e ∷ batch) = with-few e.0 e.1.log (logs_in batch) (length batch) (logs-few batch)

-- ---- how many files

-- how many manifests so many changelog files have
abbrev pub manifests_of : ℕ → ℕ
manifests_of zero = 0
manifests_of (suc n) = 1

-- each of them, and its list
pub changelog-files : (n : ℕ) → changelog_files n ≡ n + 2 * manifests_of n
changelog-files zero = omega arith
changelog-files (suc n) = omega arith

pub changelog-least : (n : ℕ) → n ≤ changelog_files n
changelog-least zero = omega arith
changelog-least (suc n) = omega arith

pub changelog-most : (n : ℕ) → changelog_files n ≤ n + 2
changelog-most zero = omega arith
changelog-most (suc n) = omega arith

pub no-logs : (n : ℕ) → manifests_of n ≡ 0 → n ≡ 0
no-logs zero none = refl
no-logs (suc n) none = absurd (omega (arith, none))

pub no-items : {A : Type 0} (xs : List A) → length xs ≡ 0 → xs ≡ []
no-items [] none = refl
no-items (x ∷ xs) none = absurd (omega (arith, none))
