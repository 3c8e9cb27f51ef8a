-- What the steps of the choice of a compaction compute.
use Rattle.std.proofs.Common.{◌≡◌, ℕ, ◌+◌, ◌-◌, ◌*◌, ◌<◌, ◌≤◌, le_refl, min, max, length, Bool, true, false, inl, inr, sym, ap, subst, ◌∙◌, arith}
use Rattle.std.specs.Prelude.{nat_lt}
use Rattle.std.specs.List.{position_or_len, range_with_len}
use Rattle.std.proofs.lemmas.Bool.{cases_lt, le-ltb}
use Rattle.std.proofs.lemmas.List.FromFn.{get_or-range_with_len, length-range_with_len}
use Rattle.std.proofs.lemmas.List.Sums.{position_or_len_is}
use Rattle.std.proofs.lemmas.Nat.{mul-le}

-- ---- sums that are cut down to a bound

-- a sum's product is below what is below the bound exactly where that of the whole sum is
pub cut-below : (sum k c bound : ℕ) → 1 ≤ k → c < bound → nat_lt (min sum bound * k) c ≡ nat_lt (sum * k) c
cut-below sum k c bound some below = elim (cases_lt bound sum) as (λ _. nat_lt (min sum bound * k) c ≡ nat_lt (sum * k) c) [
  | inl more ↦
      let is : min sum bound ≡ bound = omega arith in
      let cut : bound * 1 ≤ bound * k = mul-le bound 1 bound k (le_refl bound) some in
      let whole : sum * 1 ≤ sum * k = mul-le sum 1 sum k (le_refl sum) some in
      le-ltb (min sum bound * k) c (subst (λ n. c ≤ n * k) (sym is) (omega arith)) ∙ sym (le-ltb (sum * k) c (omega arith))
  | inr not_more ↦ let is : min sum bound ≡ sum = omega arith in ap (λ n. nat_lt (n * k) c) is
]

-- ---- the first number that passes a test

module _ (p : ℕ → Bool) (least n : ℕ) where
  pub first-at : (i : ℕ) → least ≤ i → i ≤ n → ((k : ℕ) → least ≤ k → k < i → p k ≡ false) → (i < n → p i ≡ true)
      → least + position_or_len p (range_with_len least (n - least)) ≡ i
  first-at i from within before at =
      let long : length (range_with_len least (n - least)) ≡ n - least = length-range_with_len least (n - least) in
      let back : least + (i - least) ≡ i = omega arith in
      let found : position_or_len p (range_with_len least (n - least)) ≡ i - least =
      position_or_len_is p (range_with_len least (n - least)) (i - least) 0 (omega arith)
      (λ k less. ap p (get_or-range_with_len least (n - least) k 0 (omega arith)) ∙ before (least + k) (omega arith) (omega arith))
      (λ less. ap p (get_or-range_with_len least (n - least) (i - least) 0 (omega arith) ∙ back) ∙ at (omega arith)) in
      omega arith

  pub first-none : n ≤ least → least + position_or_len p (range_with_len least (n - least)) ≡ least
  first-none past =
      let none : n - least ≡ 0 = omega arith in
      let end : least + 0 ≡ least = omega arith in
      ap (λ m. least + position_or_len p (range_with_len least m)) none ∙ end

  pub first-end : (i : ℕ) → n ≤ i → ((k : ℕ) → least ≤ k → k < i → p k ≡ false)
      → least + position_or_len p (range_with_len least (n - least)) ≡ max least n
  first-end i all before = elim (cases_lt least n) as (λ _. least + position_or_len p (range_with_len least (n - least)) ≡ max least n) [
    | inl less ↦
        let most : max least n ≡ n = omega arith in
        first-at n (omega arith) (le_refl n) (λ k from below. before k from (omega arith)) (λ never. absurd (omega arith)) ∙ sym most
    | inr past ↦ let most : max least n ≡ least = omega arith in first-none past ∙ sym most
  ]
