-- The limits at a prefix of an input that grows byte by byte.
use Rattle.std.proofs.Common.{◌≡◌, ℕ, suc, ◌+◌, ◌<◌, ◌≤◌, List, [], ◌∷◌, ◌++◌, length, drop, take, slice_index, refl, sym, subst, inl, inr, arith, length-append}
use Rattle.std.proofs.Math.Seq.{take-append_seam, get_or-append_seam}
use Rattle.std.proofs.lemmas.Bool.{cases_lt}
use Rattle.std.proofs.lemmas.List.{take-append-le, take-append-drop, length-take-le, get_or_append_left}
use Rattle.pm_input.specs.Limits.{ExceedsAfter, Exceeds, IsWithin, IsFirstLimit, rank}
use Rattle.pm_input.specs.declared.limits.Limits.{Limits}
use Rattle.pm_input.specs.declared.limits.LimitKind.{LimitKind}

-- the byte at a offset, with the bytes before it
at_offset : (limits : Limits) (which : LimitKind) (before before' : List ℕ) (b b' : ℕ) → before ≡ before' → b ≡ b' → ExceedsAfter limits which before b → ExceedsAfter limits which before' b'
at_offset limits which before before' b b' same is exceeds =
    subst (λ (x : ℕ). ExceedsAfter limits which before' x) is (subst (λ (l : List ℕ). ExceedsAfter limits which l b) same exceeds)

pub IsWithin-nil : (limits : Limits) → IsWithin limits []
IsWithin-nil limits offset which inside exceeds = omega arith

below : (limits : Limits) (xs ys : List ℕ) → IsWithin limits xs → (offset : ℕ) (which : LimitKind) → offset < length xs → Exceeds limits which (xs ++ ys) offset → ⊥
below limits xs ys within offset which here exceeds =
    within offset which here
    (at_offset limits which (take offset (xs ++ ys)) (take offset xs) (slice_index (xs ++ ys) offset) (slice_index xs offset) (take-append-le offset xs ys (omega arith)) (get_or_append_left xs ys 0 offset here) exceeds)

-- after a prefix, the byte that follows
after_prefix : (limits : Limits) (which : LimitKind) (xs : List ℕ) (b : ℕ) (ys : List ℕ) (offset : ℕ) → offset ≡ length xs → Exceeds limits which (xs ++ b ∷ ys) offset → ExceedsAfter limits which xs b
after_prefix limits which xs b ys offset is exceeds =
    at_offset limits which (take (length xs) (xs ++ b ∷ ys)) xs (slice_index (xs ++ b ∷ ys) (length xs)) b (take-append_seam xs (b ∷ ys)) (get_or-append_seam xs b ys 0)
    (subst (λ (p : ℕ). Exceeds limits which (xs ++ b ∷ ys) p) is exceeds)

pub IsWithin-push : (limits : Limits) (xs : List ℕ) (b : ℕ) → IsWithin limits xs → ((which : LimitKind) → ExceedsAfter limits which xs b → ⊥) → IsWithin limits (xs ++ b ∷ [])
IsWithin-push limits xs b within none offset which inside exceeds =
    let len : length (xs ++ b ∷ []) ≡ length xs + 1 = length-append xs (b ∷ []) in
    elim (cases_lt offset (length xs)) [
      | inl here ↦ below limits xs (b ∷ []) within offset which here exceeds
      | inr past ↦ none which (after_prefix limits which xs b [] offset (omega arith) exceeds)
    ]

pub IsFirstLimit-at : (limits : Limits) (which : LimitKind) (xs : List ℕ) (b : ℕ) (ys : List ℕ) → IsWithin limits xs → ExceedsAfter limits which xs b
    → ((other : LimitKind) → rank other < rank which → ExceedsAfter limits other xs b → ⊥) → IsFirstLimit limits which (xs ++ b ∷ ys)
IsFirstLimit-at limits which xs b ys within exceeds first =
    let len : length (xs ++ b ∷ ys) ≡ length xs + suc (length ys) = length-append xs (b ∷ ys) in
    let here = at_offset limits which xs (take (length xs) (xs ++ b ∷ ys)) b (slice_index (xs ++ b ∷ ys) (length xs)) (sym (take-append_seam xs (b ∷ ys))) (sym (get_or-append_seam xs b ys 0)) exceeds in
    let before = subst (λ (l : List ℕ). IsWithin limits l) (sym (take-append_seam xs (b ∷ ys))) within in
    (length xs, omega arith, here, before, λ other less at. first other less (after_prefix limits other xs b ys (length xs) refl at))

-- a byte exceeds no limit in a prefix that is within the limits
pub exceeds_in_prefix : (limits : Limits) (bytes : List ℕ) (n : ℕ) → IsWithin limits (take n bytes) → (offset : ℕ) (which : LimitKind) → offset < n → n ≤ length bytes → Exceeds limits which bytes offset → ⊥
exceeds_in_prefix limits bytes n within offset which less fits exceeds =
    let whole = take-append-drop n bytes in
    let len : length (take n bytes) ≡ n = length-take-le n bytes fits in
    below limits (take n bytes) (drop n bytes) within offset which (omega arith) (subst (λ (l : List ℕ). Exceeds limits which l offset) (sym whole) exceeds)
