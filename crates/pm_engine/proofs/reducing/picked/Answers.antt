use Rattle.std.proofs.Common.{◌≡◌, ℕ, suc, ◌+◌, ◌<◌, List, [], ◌∷◌, ◌++◌, take, length, get_or, ap, refl, sym, subst, ◌∙◌, arith}
use Rattle.std.specs.List.{FoldsTo}
use Rattle.std.proofs.Math.Seq.{take-suc}
use Rattle.pm_values.specs.declared.record.Stamped.{Stamped}
use Rattle.pm_model_history.specs.declared.verdict.Verdict.TheVariants.{Take}
use Rattle.pm_engine.specs.Meaning.{Meaning}
use Rattle.pm_engine.specs.Reducing.{Puts, StoresRows, begins}
use Rattle.pm_engine.proofs.PickLemmas.{alike, blank}
use Rattle.pm_engine.proofs.ReduceLemmas.{FoldsTo-push}
use Rattle.pm_engine.proofs.reducing.picked.Goals as goal

-- the run of the first row
first_row : (m : Meaning) (rows : List Stamped) → 0 < length rows → StoresRows m → ((none : Stamped) → m.verdict (get_or rows 0 none).kind ≡ Take)
    → FoldsTo (Puts m) [] (take 1 rows) (take (0 + 1) rows)
first_row m [] some own taken = absurd (omega (arith, some))
first_row m (x ∷ xs) some own taken = (x ∷ [], begins x (own x (taken x)) tt, refl)

pub loop-index-init : goal.loop-index-init
loop-index-init g c =
    let some : 0 < length c.args.rows = omega (arith, c.len.ensures, c.if-len-eq0.false) in
    record {
      before = omega arith;
      within = omega (arith, some);
      as_many = refl;
      later = refl;
      folds = first_row (g.E.MergeEngine.meaning c.args.engine.now) c.args.rows some c.requires.own (λ none. c.requires.taken 0 none some);
    }

pub pick-last-requires-clause-taken : goal.pick-last-requires-clause-taken
pick-last-requires-clause-taken g c = λ none.
    let m = g.E.MergeEngine.meaning c.args.engine.now in
    let it = c.loop-index.invariant in
    let first : List Stamped = c.args.rows in
    let i : ℕ = c.loop-index.index in
    let inside : i < length first = omega (arith, c.loop-index-test.true, c.loop-index.auto, c.len-index-end.ensures) in
    let same = (alike c.loop-index.rows first i none (omega (arith, it.as_many, inside)) inside it.later).here in
    subst (λ (s : Stamped). m.verdict s.kind ≡ Take) (sym same) (c.requires.taken i none inside)

-- one row more
pub loop-index-preserved : goal.loop-index-preserved
loop-index-preserved g c =
    let m = g.E.MergeEngine.meaning c.args.engine.now in
    let it = c.loop-index.invariant in
    let first : List Stamped = c.args.rows in
    let i : ℕ = c.loop-index.index in
    let inside : i < length first = omega (arith, c.loop-index-test.true, c.loop-index.auto, c.len-index-end.ensures) in
    let in_rows : i < length c.loop-index.rows = omega (arith, it.as_many, inside) in
    let same = alike c.loop-index.rows first i blank in_rows inside it.later in
    let before : List Stamped = take (c.loop-index.last + 1) c.loop-index.rows in
    let after : List Stamped = take (c.pick-last.result + 1) c.pick-last.new.rows in
    let puts = subst (λ (s : Stamped). Puts m before s after) same.here (c.pick-last.ensures.puts blank) in
    let more : i + 1 ≡ suc i = omega arith in
    let front : take (i + 1) first ≡ take i first ++ get_or first i blank ∷ [] = ap (λ (n : ℕ). take n first) more ∙ take-suc first i blank inside in
    record {
      before = omega (arith, c.pick-last.ensures.before);
      within = omega (arith, inside);
      as_many = c.pick-last.ensures.as_many ∙ it.as_many;
      later = c.pick-last.ensures.later ∙ same.later;
      folds = subst (λ (xs : List Stamped). FoldsTo (Puts m) [] xs after) (sym front)
          (FoldsTo-push (Puts m) [] _ _ (take i first) (get_or first i blank) it.folds puts);
    }
