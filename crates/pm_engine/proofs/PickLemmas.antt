-- A row that is picked where it lies, and what stands after it.
use Rattle.std.proofs.Common.{◌≡◌, ℕ, suc, ◌+◌, ◌<◌, List, [], ◌∷◌, ◌++◌, take, drop, length, get_or, IfSome, None, Some, true, false, ap, sym, subst, ◌∙◌, arith}
use Rattle.std.specs.List.{last_or, slice_set}
use Rattle.std.specs.Ordering.{eq_by_cmp}
use Rattle.std.proofs.Math.Seq.{take-suc}
use Rattle.std.proofs.lemmas.List.{drop_more, drop-set-lt, get_or-set_same, length-set, take-set-le, take_more_set}
use Rattle.pm_base.proofs.Laws.{last_or-push}
use Rattle.pm_values.specs.Order.{key_cmp}
use Rattle.pm_values.specs.declared.kind.Kind.TheVariants as kinds
use Rattle.pm_values.specs.declared.record.Stamped.{Stamped}
use Rattle.pm_engine.specs.Covers.{Run}
use Rattle.pm_engine.specs.Meaning.{Meaning}
use Rattle.pm_engine.specs.Reducing.{EndsApart, IsCombined, IsLifted, Puts, begins, joins}

-- lists that are alike from an index on have the same row there, and are alike after it
pub record AreAlike (xs ys : List Stamped) (i : ℕ) (none : Stamped) : Type 0 where
  pub here : get_or xs i none ≡ get_or ys i none
  pub later : drop (i + 1) xs ≡ drop (i + 1) ys

pub alike : (xs ys : List Stamped) (i : ℕ) (none : Stamped) → i < length xs → i < length ys → drop i xs ≡ drop i ys → AreAlike xs ys i none
alike xs ys i none in_xs in_ys same =
    let both : get_or xs i none ∷ drop (i + 1) xs ≡ get_or ys i none ∷ drop (i + 1) ys = sym (drop_more xs i none in_xs) ∙ same ∙ drop_more ys i none in_ys in
    record { here = ap (λ (zs : List Stamped). get_or zs 0 none) both; later = ap (drop 1) both }

pub blank : Stamped
blank = record { key = []; seq = 0; kind = kinds.Insert; row = [] }

-- ---- the last row of a run

last_at : (rows : Run) (i : ℕ) (none : Stamped) → i < length rows → take (i + 1) rows ≡ take i rows ++ get_or rows i none ∷ []
last_at rows i none inside =
    let more : i + 1 ≡ suc i = omega arith in
    ap (λ (n : ℕ). take n rows) more ∙ take-suc rows i none inside

-- a row of another key comes after it
pub begins_after : (m : Meaning) (rows new : Run) (last : ℕ) (one none : Stamped) → last + 1 < length rows → IsLifted m one one
    → eq_by_cmp key_cmp (get_or rows last none).key one.key ≡ false → new ≡ slice_set rows (last + 1) one
    → Puts m (take (last + 1) rows) one (take (last + 1 + 1) new)
begins_after m rows new last one none inside own other is =
    let old : Run = take (last + 1) rows in
    let ends : last_or None old ≡ Some (get_or rows last none) = ap (λ (run : Run). last_or None run) (last_at rows last none (omega (arith, inside))) ∙ last_or-push None (take last rows) (get_or rows last none) in
    let apart : EndsApart old one.key = subst (λ o. IfSome o (λ (s : Stamped). eq_by_cmp key_cmp s.key one.key ≡ false)) (sym ends) other in
    let front : take (last + 1 + 1) new ≡ old ++ one ∷ [] = ap (λ (run : Run). take (last + 1 + 1) run) is ∙ take_more_set rows (last + 1) one inside in
    subst (λ (run : Run). Puts m old one run) (sym front) (begins one own apart)

-- a row of its key is combined with it
pub joins_last : (m : Meaning) (rows new : Run) (last : ℕ) (one stored none : Stamped) → last < length rows → IsLifted m one one
    → eq_by_cmp key_cmp (get_or rows last none).key one.key ≡ true → IsCombined m (get_or rows last none) one stored
    → take (last + 1) new ≡ take last rows ++ stored ∷ [] → Puts m (take (last + 1) rows) one (take (last + 1) new)
joins_last m rows new last one stored none inside own same combined front =
    subst (λ (run : Run). Puts m (take (last + 1) rows) one run) (sym front)
    (joins (take last rows) (get_or rows last none) one stored (last_at rows last none inside) same own combined)

-- ---- a row in the place of an earlier one, changed

pub replaced-front : (rows mid new : Run) (i j : ℕ) (y none : Stamped) → i < j → j < length rows → mid ≡ slice_set rows j y → new ≡ slice_set mid i (get_or mid j none)
    → take (i + 1) new ≡ take i rows ++ y ∷ []
replaced-front rows mid new i j y none before within one two =
    let here : get_or mid j none ≡ y = ap (λ (ss : Run). get_or ss j none) one ∙ get_or-set_same rows j y none within in
    let both : new ≡ slice_set (slice_set rows j y) i y = two ∙ ap (λ (s : Stamped). slice_set mid i s) here ∙ ap (λ (ss : Run). slice_set ss i y) one in
    ap (λ (ss : Run). take (i + 1) ss) both
    ∙ take_more_set (slice_set rows j y) i y (omega (arith, before, within, length-set rows j y))
    ∙ ap (λ (ss : Run). ss ++ y ∷ []) (take-set-le i rows j y (omega (arith, before)))

pub replaced-later : (rows mid new : Run) (i j : ℕ) (y none : Stamped) → i < j → mid ≡ slice_set rows j y → new ≡ slice_set mid i (get_or mid j none)
    → drop (j + 1) new ≡ drop (j + 1) rows
replaced-later rows mid new i j y none before one two =
    ap (λ (ss : Run). drop (j + 1) ss) two
    ∙ drop-set-lt (j + 1) mid i (get_or mid j none) (omega (arith, before))
    ∙ ap (λ (ss : Run). drop (j + 1) ss) one
    ∙ drop-set-lt (j + 1) rows j y (omega arith)

pub replaced-as_many : (rows mid new : Run) (i j : ℕ) (y none : Stamped) → mid ≡ slice_set rows j y → new ≡ slice_set mid i (get_or mid j none) → length new ≡ length rows
replaced-as_many rows mid new i j y none one two =
    ap (λ (ss : Run). length ss) two ∙ length-set mid i (get_or mid j none) ∙ ap (λ (ss : Run). length ss) one ∙ length-set rows j y
