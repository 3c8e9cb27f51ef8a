-- Single steps of the aggregate functions, over a list of which a prefix was taken.
use Rattle.std.proofs.Common.{◌≡◌, ℕ, ℤ, pos, ◌+ℤ◌, List, ◌++◌, Bool, ◌&&◌, ◌||◌, Option, Some, None, refl, sym, ap, ◌∙◌, arith, ◌+◌, ◌<◌, length, drop, get_or}
use Rattle.std.specs.Option.{unwrap_or}
use Rattle.std.proofs.lemmas.Int.{ints, int_wrap-add_left, SFits-int_wrap}
use Rattle.std.proofs.lemmas.List.{drop_more}
use Rattle.std.specs.Prelude.{FitsSigned, IfSome}
use Rattle.std.specs.Int.{Width, int_wrap}
use Rattle.std.specs.List.{cons_option, filter_map, flat_map, list_all, list_any}
use Rattle.pm_values.specs.declared.value.Value.{Value}
use Rattle.pm_values.specs.declared.value.Value.TheVariants.{Bool as Truth, Int, Text}
use Rattle.pm_model_history.specs.Merge.{HistoryRow}
use Rattle.pm_reference.specs.Steps.{added}
use Rattle.pm_model_history.specs.ColumnValue.{total, summand, sum_value, joined_value, all_value, any_value}

-- the sum of integers after what the first ones came to
abbrev pub summed : Width → Option ℤ → List ℤ → Value
summed width None ns = sum_value width ns
summed width (Some n) ns = Int (int_wrap width (n +ℤ total ns))

-- texts after those that were joined
abbrev pub joined_on : List ℕ → Option (List ℕ) → List (List ℕ) → Value
joined_on delimiter None texts = joined_value delimiter texts
joined_on delimiter (Some before) texts = Text (before ++ flat_map (λ t. delimiter ++ t) texts)

-- truths after what the first ones came to
abbrev pub all_on : Option Bool → List Bool → Value
all_on None bs = all_value bs
all_on (Some all) bs = Truth (all && list_all (λ t. t) bs)

abbrev pub any_on : Option Bool → List Bool → Value
any_on None bs = any_value bs
any_on (Some any) bs = Truth (any || list_any (λ t. t) bs)

add_zero_left : (n : ℤ) → pos 0 +ℤ n ≡ n
add_zero_left n = omega (arith, ints)

add_assoc_int : (a b c : ℤ) → (a +ℤ b) +ℤ c ≡ a +ℤ (b +ℤ c)
add_assoc_int a b c = omega (arith, ints)

-- one integer more in a sum that is wrapped on the way, where there is one
pub summed_more : (width : Width) (sum n : Option ℤ) (ns : List ℤ) → summed width (added width sum n) ns ≡ summed width sum (cons_option n ns)
summed_more width sum None ns = refl
summed_more width None (Some n) ns = ap Int (int_wrap-add_left width (pos 0 +ℤ n) (total ns) ∙ ap (λ m. int_wrap width (m +ℤ total ns)) (add_zero_left n))
summed_more width (Some a) (Some n) ns = ap Int (int_wrap-add_left width (a +ℤ n) (total ns) ∙ ap (int_wrap width) (add_assoc_int a n (total ns)))

-- such a sum goes into the width
pub added-fits : (width : Width) (sum n : Option ℤ) → IfSome sum (FitsSigned width) → IfSome (added width sum n) (FitsSigned width)
added-fits width sum None fits = fits
added-fits width sum (Some n) fits = SFits-int_wrap width (unwrap_or sum (pos 0) +ℤ n)

-- the sum after one row more
pub sum_row : (width : Width) (index : ℕ) (rows : List HistoryRow) (i : ℕ) (r : HistoryRow) (sum n : Option ℤ) (whole : Value) → i < length rows → r ≡ get_or rows i r → n ≡ summand index r
    → summed width sum (filter_map (summand index) (drop i rows)) ≡ whole → summed width (added width sum n) (filter_map (summand index) (drop (i + 1) rows)) ≡ whole
sum_row width index rows i r sum n whole below is of_row so_far =
    summed_more width sum n (filter_map (summand index) (drop (i + 1) rows))
    ∙ ap (λ o. summed width sum (cons_option o (filter_map (summand index) (drop (i + 1) rows)))) (of_row ∙ ap (summand index) is)
    ∙ ap (λ rest. summed width sum (filter_map (summand index) rest)) (sym (drop_more rows i r below)) ∙ so_far
