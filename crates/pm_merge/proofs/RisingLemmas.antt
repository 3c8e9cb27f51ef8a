-- Runs whose keys rise, and what they have of a key.
use Rattle.std.proofs.Common.{◌≡◌, [], ◌∷◌, map, true, false, cond, refl, sym, ap, subst, ◌∙◌}
use Rattle.std.specs.List.{AllByRecursion}
use Rattle.std.specs.List.Sorted.{IsStrictlySortedBy}
use Rattle.std.specs.Ordering.{eq_by_cmp}
use Rattle.std.specs.declared.cmp.Ordering.TheVariants.{Less}
use Rattle.pm_values.specs.Order.{Values, key_cmp, key_total}
use Rattle.pm_values.specs.declared.record.Stamped.{Stamped}
use Rattle.pm_engine.specs.Covers.{IsRising, Run, of_key}
use Rattle.pm_engine.proofs.Rising.{apart, tied}

-- ---- rising keys

-- the keys of a run are above a key
abbrev pub AllAbove : Values → Run → Type 0
AllAbove key run = AllByRecursion (λ (s : Stamped). key_cmp key s.key ≡ Less) run

above-from_keys : (key : Values) (run : Run) → AllByRecursion (λ k. key_cmp key k ≡ Less) (map (λ (s : Stamped). s.key) run) → AllAbove key run
above-from_keys key [] all = tt
above-from_keys key (s ∷ ss) all = (all.0, above-from_keys key ss all.1)

above-to_keys : (key : Values) (run : Run) → AllAbove key run → AllByRecursion (λ k. key_cmp key k ≡ Less) (map (λ (s : Stamped). s.key) run)
above-to_keys key [] all = tt
above-to_keys key (s ∷ ss) all = (all.0, above-to_keys key ss all.1)

pub rising-nil : IsRising []
unfolding IsStrictlySortedBy
rising-nil = tt

pub rising-parts : (s : Stamped) (run : Run) → IsRising (s ∷ run) → AllAbove s.key run × IsRising run
unfolding IsStrictlySortedBy
rising-parts s run rising = (above-from_keys s.key run rising.0, rising.1)

pub rising-cons : (s : Stamped) (run : Run) → AllAbove s.key run → IsRising run → IsRising (s ∷ run)
unfolding IsStrictlySortedBy
rising-cons s run above rising = (above-to_keys s.key run above, rising)

-- a key that is below the first one is below all
pub above-rest : (low high : Values) (run : Run) → key_cmp low high ≡ Less → AllAbove high run → AllAbove low run
above-rest low high [] less all = tt
above-rest low high (s ∷ ss) less all = (key_total.trans low high s.key less all.0, above-rest low high ss less all.1)

pub above-all : (low : Values) (s : Stamped) (run : Run) → key_cmp low s.key ≡ Less → IsRising (s ∷ run) → AllAbove low (s ∷ run)
above-all low s run less rising = (less, above-rest low s.key run less (rising-parts s run rising).0)

-- above a key no row has it
pub of_key-above : (key : Values) (run : Run) → AllAbove key run → of_key key run ≡ []
of_key-above key [] all = refl
of_key-above key (s ∷ ss) all = ap (λ b. cond b (s ∷ of_key key ss) (of_key key ss)) (apart key s.key all.0) ∙ of_key-above key ss all.1

-- the first row has the key, or not
pub of_key-here : (key : Values) (s : Stamped) (run : Run) → eq_by_cmp key_cmp key s.key ≡ true → of_key key (s ∷ run) ≡ s ∷ of_key key run
of_key-here key s run test = ap (λ b. cond b (s ∷ of_key key run) (of_key key run)) test

pub of_key-other : (key : Values) (s : Stamped) (run : Run) → eq_by_cmp key_cmp key s.key ≡ false → of_key key (s ∷ run) ≡ of_key key run
of_key-other key s run test = ap (λ b. cond b (s ∷ of_key key run) (of_key key run)) test

-- where all later keys are above, the first row is the only one of its key
pub of_key-first : (key : Values) (s : Stamped) (run : Run) → eq_by_cmp key_cmp key s.key ≡ true → AllAbove s.key run → of_key key (s ∷ run) ≡ s ∷ []
of_key-first key s run test above = of_key-here key s run test ∙ ap (λ rest. s ∷ rest) (subst (λ k. of_key k run ≡ []) (sym (tied key s.key test)) (of_key-above s.key run above))

pub none_above : (key : Values) (s : Stamped) (run : Run) → eq_by_cmp key_cmp key s.key ≡ true → AllAbove s.key run → of_key key run ≡ []
none_above key s run test above = subst (λ k. of_key k run ≡ []) (sym (tied key s.key test)) (of_key-above s.key run above)
