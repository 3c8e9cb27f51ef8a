-- What the end of an expiry is.
use Rattle.std.proofs.Common.{◌≡◌, ℕ, ◌+◌, ◌-◌, ◌<◌, ◌≤◌, max, length, Bool, true, false, not, inl, inr, sym, ap, subst, ◌∙◌, arith}
use Rattle.std.specs.Prelude.{ℤ, List, Option, if◌then◌else◌}
use Rattle.std.specs.List.{position_or_len, range_with_len}
use Rattle.std.proofs.lemmas.Bool.{cases_lt, le-ltb, lt-ltb}
use Rattle.std.proofs.lemmas.List.FromFn.{get_or-range_with_len, length-range_with_len}
use Rattle.std.proofs.lemmas.List.Sums.{fails_before_first, passes_at_first, position_or_len_is, prefix_len-le-length}
use Rattle.pm_expire_end.specs.declared.keep.Keep.{Keep}
use Rattle.pm_expire_end.specs.Expiry.{IsExpireEnd, IsExpireEnd.{chosen, forced}, IsFirstRecent, expire_end_of, first_id, first_recent, highest, is_recent, last_id, lowest, since}

-- ---- the first number that passes a test

module _ (p : ℕ → Bool) (low high : ℕ) where
  abbrev found : ℕ
  found = low + position_or_len p (range_with_len low (high - low))

  -- it is the one that passes, and none before it does
  pub first-at : (i : ℕ) → low ≤ i → i ≤ high → ((k : ℕ) → low ≤ k → k < i → p k ≡ false) → (i < high → p i ≡ true) → found ≡ i
  first-at i from within before at =
      let long : length (range_with_len low (high - low)) ≡ high - low = length-range_with_len low (high - low) in
      let back : low + (i - low) ≡ i = omega arith in
      let is : position_or_len p (range_with_len low (high - low)) ≡ i - low =
      position_or_len_is p (range_with_len low (high - low)) (i - low) 0 (omega arith)
      (λ k less. ap p (get_or-range_with_len low (high - low) k 0 (omega arith)) ∙ before (low + k) (omega arith) (omega arith))
      (λ less. ap p (get_or-range_with_len low (high - low) (i - low) 0 (omega arith) ∙ back) ∙ at (omega arith)) in
      omega arith

  pub found-within : position_or_len p (range_with_len low (high - low)) ≤ high - low
  found-within =
      subst (λ n. position_or_len p (range_with_len low (high - low)) ≤ n) (length-range_with_len low (high - low))
      (prefix_len-le-length (λ k. not (p k)) (range_with_len low (high - low)))

  pub found-before : (k : ℕ) → low ≤ k → k < found → p k ≡ false
  found-before k from below =
      let within = found-within in
      let back : low + (k - low) ≡ k = omega arith in
      ap p (sym (get_or-range_with_len low (high - low) (k - low) 0 (omega arith) ∙ back))
      ∙ fails_before_first p (range_with_len low (high - low)) (k - low) 0 (omega arith)

  pub found-passes : found < high → p found ≡ true
  found-passes below =
      let long : length (range_with_len low (high - low)) ≡ high - low = length-range_with_len low (high - low) in
      ap p (sym (get_or-range_with_len low (high - low) (position_or_len p (range_with_len low (high - low))) 0 (omega arith)))
      ∙ passes_at_first p (range_with_len low (high - low)) 0 (omega arith)

-- ---- the end

pub is-first : (times : List (ℕ × ℤ)) (from : ℤ) (low high : ℕ) → low ≤ high → IsFirstRecent times from low high (first_recent times from low high)
is-first times from low high order =
    let within = found-within (is_recent times from) low high in
    record {
      from_low = omega arith;
      to_high = omega arith;
      older = found-before (is_recent times from) low high;
      recent = found-passes (is_recent times from) low high;
    }

only-first : (times : List (ℕ × ℤ)) (from : ℤ) (low high end : ℕ) → IsFirstRecent times from low high end → end ≡ first_recent times from low high
only-first times from low high end is = sym (first-at (is_recent times from) low high end is.from_low is.to_high is.older is.recent)

module _ (times : List (ℕ × ℤ)) (keep : Keep) (now : ℤ) (next : Option ℕ) where
  abbrev low : ℕ
  low = lowest (first_id times) (last_id times) keep

  abbrev high : ℕ
  high = highest (last_id times) keep next

  abbrev first : ℕ
  first = first_recent times (since keep now) low high

  when-chosen : low < high → expire_end_of times keep now next ≡ first
  when-chosen less = ap (λ t. if t then first else max (first_id times) high) (lt-ltb low high less)

  when-forced : high ≤ low → expire_end_of times keep now next ≡ max (first_id times) high
  when-forced order = ap (λ t. if t then first else max (first_id times) high) (le-ltb low high order)

  pub is-end : IsExpireEnd times keep now next (expire_end_of times keep now next)
  is-end = elim (cases_lt low high) as (λ _. IsExpireEnd times keep now next (expire_end_of times keep now next)) [
    | inl less ↦
        subst (IsExpireEnd times keep now next) (sym (when-chosen less))
        (chosen less (is-first times (since keep now) low high (omega arith)))
    | inr order ↦ forced order (when-forced order)
  ]

  pub only-end : (end : ℕ) → IsExpireEnd times keep now next end → end ≡ expire_end_of times keep now next
  only-end end (chosen less is) = only-first times (since keep now) low high end is ∙ sym (when-chosen less)
  only-end end (forced order is) = is ∙ sym (when-forced order)

pub chosen-end : (times : List (ℕ × ℤ)) (keep : Keep) (now : ℤ) (next : Option ℕ) (head last from to : ℕ) → head ≡ first_id times → last ≡ last_id times
    → from ≡ lowest head last keep → to ≡ highest last keep next → from < to
    → first_recent times (since keep now) from to ≡ expire_end_of times keep now next
chosen-end times keep now next head last from to is_head is_last is_from is_to less =
    let from_is : from ≡ low times keep now next = is_from ∙ ap (λ n. lowest n last keep) is_head ∙ ap (λ n. lowest (first_id times) n keep) is_last in
    let to_is : to ≡ high times keep now next = is_to ∙ ap (λ n. highest n keep next) is_last in
    ap (λ n. first_recent times (since keep now) n to) from_is
    ∙ ap (first_recent times (since keep now) (low times keep now next)) to_is
    ∙ sym (when-chosen times keep now next (omega arith))
