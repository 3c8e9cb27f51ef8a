use Rattle.std.proofs.Common.{◌≡◌, ℕ, suc, ◌+◌, ◌<◌, List, [], ◌∷◌, ◌++◌, take, drop, length, get_or, ap, refl, sym, subst, ◌∙◌, arith}
use Rattle.std.specs.List.{FoldsTo}
use Rattle.std.proofs.Math.Seq.{take-suc}
use Rattle.pm_values.specs.declared.record.Stamped.{Stamped}
use Rattle.pm_model_history.specs.declared.verdict.Verdict.TheVariants.{Take}
use Rattle.pm_engine.specs.Meaning.{Meaning}
use Rattle.pm_engine.specs.Reducing.{IsLifted, Puts, begins}
use Rattle.pm_engine.proofs.PickLemmas.{alike, blank}
use Rattle.pm_engine.proofs.ReduceLemmas.{FoldsTo-push}
use Rattle.pm_engine.proofs.reducing.combined_rows.Goals as goal

-- the run of the first row
first_row : (m : Meaning) (rows : List Stamped) (stored : Stamped) → 0 < length rows → ((none : Stamped) → IsLifted m (get_or rows 0 none) stored) → FoldsTo (Puts m) [] (take 1 rows) (stored ∷ [])
first_row m [] stored some lifted = absurd (omega (arith, some))
first_row m (x ∷ xs) stored some lifted = (stored ∷ [], begins stored (lifted x) tt, refl)

pub loop-index-init : goal.loop-index-init
loop-index-init g c =
    let some : 0 < length c.args.rows = omega (arith, c.len.ensures, c.if-len-eq0.false) in
    record {
      before = omega arith;
      within = omega (arith, some);
      as_many = refl;
      later = refl;
      folds = first_row (g.E.MergeEngine.meaning c.args.engine.now) c.args.rows c.in_ok-last.last some c.in_ok-last.ensures;
    }

pub put-requires-clause-taken : goal.put-requires-clause-taken
put-requires-clause-taken g c = λ none.
    let m = g.E.MergeEngine.meaning c.args.engine.now in
    let it = c.loop-index.invariant in
    let first : List Stamped = c.args.rows in
    let i : ℕ = c.loop-index.index in
    let inside : i < length first = omega (arith, c.loop-index-test.true, c.loop-index.auto, c.len-index-end.ensures) in
    let same = (alike c.loop-index.rows first i none (omega (arith, it.as_many, inside)) inside it.later).here in
    subst (λ (s : Stamped). m.verdict s.kind ≡ Take) (sym same) (c.requires i none inside)

-- one row more
pub loop-index-preserved : goal.loop-index-preserved
loop-index-preserved g c =
    let m = g.E.MergeEngine.meaning c.args.engine.now in
    let it = c.loop-index.invariant in
    let first : List Stamped = c.args.rows in
    let i : ℕ = c.loop-index.index in
    let inside : i < length first = omega (arith, c.loop-index-test.true, c.loop-index.auto, c.len-index-end.ensures) in
    let same = alike c.loop-index.rows first i blank (omega (arith, it.as_many, inside)) inside it.later in
    let before : List Stamped = take c.loop-index.count c.loop-index.rows ++ c.loop-index.last ∷ [] in
    let after : List Stamped = take c.in_ok-count.field-0-0 c.put.new.rows ++ c.in_ok-count.field-0-1 ∷ [] in
    let puts = subst (λ (s : Stamped). Puts m before s after) same.here (c.in_ok-count.ensures.puts blank) in
    let more : i + 1 ≡ suc i = omega arith in
    let front : take (i + 1) first ≡ take i first ++ get_or first i blank ∷ [] = ap (λ (n : ℕ). take n first) more ∙ take-suc first i blank inside in
    let left : drop i c.put.new.rows ≡ drop i first = c.in_ok-count.ensures.later ∙ it.later in
    record {
      before = omega (arith, c.in_ok-count.ensures.before);
      within = omega (arith, inside);
      as_many = c.in_ok-count.ensures.as_many ∙ it.as_many;
      later = (alike c.put.new.rows first i blank (omega (arith, c.in_ok-count.ensures.as_many, it.as_many, inside)) inside left).later;
      folds = subst (λ (xs : List Stamped). FoldsTo (Puts m) [] xs after) (sym front)
          (FoldsTo-push (Puts m) [] _ _ (take i first) (get_or first i blank) it.folds puts);
    }
