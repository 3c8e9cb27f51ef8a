-- The rows that runs of stored rows become are rows that data files can have.
use Rattle.std.proofs.Common.{◌≡◌, ℕ, ◌≤◌, Bool, true, false, List, [], ◌∷◌, filter, cond, sym, subst, append-nil, arith}
use Rattle.std.specs.List.{AllByRecursion}
use Rattle.std.specs.Ordering.{eq_by_cmp}
use Rattle.pm_values.specs.Order.{key_cmp}
use Rattle.pm_values.specs.declared.record.Stamped.{Stamped}
use Rattle.pm_schema.specs.declared.schema.TableSchema.{TableSchema}
use Rattle.pm_engine.specs.Covers.{Run, of_key, row_of}
use Rattle.pm_engine.specs.Meaning.{KindsAreOwn, Meaning, SpeaksFor}
use Rattle.pm_engine.specs.OfSchema.{meaning_of}
use Rattle.pm_engine.specs.Reducing.{greatest_number}
use Rattle.pm_merge.specs.Merge.{AreStored, IsMerge, all_rows}
use Rattle.pm_run.specs.Row.{IsOfFile, most_sequence}
use Rattle.pm_compact.specs.Rewritten.{HaveFileNumbers, kept_rows}

-- ---- lists

both_of : {A : Type 0} (P Q R : A → Type 0) → ((x : A) → P x → Q x → R x) → (xs : List A) → AllByRecursion P xs → AllByRecursion Q xs → AllByRecursion R xs
both_of P Q R f [] p q = tt
both_of P Q R f (x ∷ xs) p q = (f x p.0 q.0, both_of P Q R f xs p.1 q.1)

all-filter : {A : Type 0} (P : A → Type 0) (p : A → Bool) (xs : List A) → AllByRecursion P xs → AllByRecursion P (filter p xs)
all-filter P p [] all = tt
all-filter P p (x ∷ xs) all =
    elim (p x) as (λ b. AllByRecursion P (cond b (x ∷ filter p xs) (filter p xs))) [
      | true ↦ (all.0, all-filter P p xs all.1)
      | false ↦ all-filter P p xs all.1
    ]

greatest_within : (most : ℕ) (rows : Run) → AllByRecursion (λ (x : Stamped). x.seq ≤ most) rows → greatest_number rows ≤ most
greatest_within most [] within = omega arith
greatest_within most (x ∷ rows) within = omega (arith, within.0, greatest_within most rows within.1)

-- ---- what the crates below prove

abbrev pub OwnKinds : Type 0
OwnKinds = (s : TableSchema) → KindsAreOwn (meaning_of s)

abbrev pub StoredAgain : Type 0
StoredAgain = (m : Meaning) (runs : List Run) (run : Run) → KindsAreOwn m → AreStored m runs → IsMerge m runs run → AreStored m (run ∷ [])

-- ---- a merge

-- the row speaks for itself
abbrev SpeaksItself : Meaning → Stamped → Type 0
SpeaksItself m x = SpeaksFor m x.key (row_of x) (row_of x ∷ [])

module _ (own_kinds : OwnKinds) (again : StoredAgain) (s : TableSchema) (runs : List Run) (run : Run) (stored : AreStored (meaning_of s) runs) (is : IsMerge (meaning_of s) runs run) where
  speak_themselves : AllByRecursion (SpeaksItself (meaning_of s)) run
  speak_themselves =
      subst (AllByRecursion (SpeaksItself (meaning_of s))) (append-nil run) (again (meaning_of s) runs run (own_kinds s) stored is).speak

  row_of_file : HaveFileNumbers runs → (x : Stamped) → SpeaksItself (meaning_of s) x → x.seq ≡ greatest_number (of_key x.key (all_rows runs)) → IsOfFile s false x
  row_of_file numbered x known number =
      let within = all-filter (λ (y : Stamped). y.seq ≤ most_sequence) (λ (y : Stamped). eq_by_cmp key_cmp x.key y.key) (all_rows runs) numbered in
      record {
        fits = known.taken.fits;
        own = sym known.taken.of_key;
        numbered = subst (λ (n : ℕ). n ≤ most_sequence) (sym number) (greatest_within most_sequence (of_key x.key (all_rows runs)) within);
        kept = known.kind;
      }

  merged_of_file : HaveFileNumbers runs → AllByRecursion (IsOfFile s false) run
  merged_of_file numbered =
      both_of (SpeaksItself (meaning_of s)) (λ (x : Stamped). x.seq ≡ greatest_number (of_key x.key (all_rows runs))) (IsOfFile s false) (row_of_file numbered) run
      speak_themselves is.numbers

  -- so are those that are kept
  pub kept_of_file : (drop : Bool) → HaveFileNumbers runs → AllByRecursion (IsOfFile s false) (kept_rows (meaning_of s) drop run)
  kept_of_file true numbered = all-filter (IsOfFile s false) _ run (merged_of_file numbered)
  kept_of_file false numbered = merged_of_file numbered
