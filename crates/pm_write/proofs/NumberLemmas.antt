-- Rows whose numbers are counted from another number.
use Rattle.std.proofs.Common.{◌≡◌, ℕ, ◌+◌, ◌≤◌, List, [], ◌∷◌, length, max, true, false, cond, refl, sym, ap, subst, ◌∙◌, arith}
use Rattle.std.specs.List.{AllByRecursion, AllZip}
use Rattle.std.specs.Ordering.{eq_by_cmp}
use Rattle.pm_values.specs.Order.{Values, key_cmp}
use Rattle.pm_values.specs.declared.record.Stamped.{Stamped}
use Rattle.pm_schema.specs.declared.schema.TableSchema.{TableSchema}
use Rattle.pm_model_history.specs.Merge.{HistoryRow}
use Rattle.pm_engine.specs.Covers.{CoversAll, Holds, Run, of_key}
use Rattle.pm_engine.specs.Meaning.{Meaning}
use Rattle.pm_engine.specs.Reducing.{greatest_number}
use Rattle.pm_run.specs.Row.{IsOfFile, most_sequence}
use Rattle.pm_run.specs.Writing.{first_sequence, greatest_of, least_of}
use Rattle.pm_write.specs.Batch.{IsStoredRow, numbered}

-- ---- what numbers leave as it is

of_key-numbered : (n : ℕ) (key : Values) (run : Run) → of_key key (numbered n run) ≡ numbered n (of_key key run)
of_key-numbered n key [] = refl
of_key-numbered n key (x ∷ xs) =
    let first : Stamped = record x { seq = n + x.seq } in
    ap (λ (rest : Run). cond (eq_by_cmp key_cmp key x.key) (first ∷ rest) rest) (of_key-numbered n key xs)
    ∙ elim (eq_by_cmp key_cmp key x.key) as (λ b. cond b (first ∷ numbered n (of_key key xs)) (numbered n (of_key key xs)) ≡ numbered n (cond b (x ∷ of_key key xs) (of_key key xs))) [ true ↦ refl | false ↦ refl ]

holds_numbered : (m : Meaning) (n : ℕ) (key : Values) (own : Run) (part : List HistoryRow) → Holds m key own part → Holds m key (numbered n own) part
holds_numbered m n key [] part holds = holds
holds_numbered m n key (x ∷ []) part holds = holds
holds_numbered m n key (x ∷ y ∷ more) part holds = absurd holds

-- a run covers the same rows whatever number its own count from
pub covers_numbered : (m : Meaning) (n : ℕ) (run : Run) (rows : List HistoryRow) → CoversAll m (run ∷ []) rows → CoversAll m (numbered n run ∷ []) rows
covers_numbered m n run rows covers = λ key.
    let at = covers key in
    record { parts = at.parts; split = at.split; holds = by_parts key at.parts at.holds }
  where
    by_parts : (key : Values) (parts : List (List HistoryRow)) → AllZip (λ (r : Run) (part : List HistoryRow). Holds m key (of_key key r) part) (run ∷ []) parts
        → AllZip (λ (r : Run) (part : List HistoryRow). Holds m key (of_key key r) part) (numbered n run ∷ []) parts
    by_parts key [] holds = absurd holds
    by_parts key (p ∷ []) holds =
        (subst (λ (own : Run). Holds m key own p) (sym (of_key-numbered n key run)) (holds_numbered m n key (of_key key run) p holds.0), tt)
    by_parts key (p ∷ q ∷ ps) holds = absurd holds.1

-- rows that can be stored can stand in a data file
pub of_file : (s : TableSchema) (n count : ℕ) (run : Run) → n + count ≤ most_sequence + 1 → AllByRecursion (IsStoredRow s count) run → AllByRecursion (IsOfFile s false) (numbered n run)
of_file s n count [] most each = tt
of_file s n count (x ∷ xs) most each =
    let below = each.0.below in (
      record { fits = each.0.keyed.fits; own = sym each.0.keyed.own; numbered = omega arith; kept = each.0.kind },
      of_file s n count xs most each.1,
    )

-- ---- the least and the greatest number

greatest_numbered : (d n : ℕ) (run : Run) → n ≤ d → greatest_of d (numbered n run) ≡ max d (n + greatest_number run)
greatest_numbered d n [] least = omega arith
greatest_numbered d n (x ∷ xs) least = let rest = greatest_numbered d n xs least in omega arith

pub greatest_first : (n : ℕ) (run : Run) → 1 ≤ length run → greatest_of (first_sequence (numbered n run)) (numbered n run) ≡ n + greatest_number run
greatest_first n [] some = absurd (omega arith)
greatest_first n (x ∷ xs) some = let rest = greatest_numbered (n + x.seq) n xs (omega arith) in omega arith

least_numbered : (d n : ℕ) (run : Run) → n ≤ d → n ≤ least_of d (numbered n run)
least_numbered d n [] least = least
least_numbered d n (x ∷ xs) least = let rest = least_numbered d n xs least in omega arith

pub least_first : (n : ℕ) (run : Run) → 1 ≤ length run → n ≤ least_of (first_sequence (numbered n run)) (numbered n run)
least_first n [] some = absurd (omega arith)
least_first n (x ∷ xs) some = least_numbered (n + x.seq) n (x ∷ xs) (omega arith)
