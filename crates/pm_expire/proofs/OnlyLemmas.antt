-- What a listing and times that were read say is one: names that were listed, the chain that counts, and what comes at
-- an index.
use Rattle.std.proofs.Common.{◌≡◌, ◌≢◌, inl, inr, ℕ, zero, suc, ◌+◌, ◌<◌, ◌≤◌, ℤ, List, [], ◌∷◌, ◌++◌, slice_get, take, Contains, length, length-append, None, Some, refl, sym, ap, subst, ◌∙◌, arith}
use Rattle.std.specs.Cmp.Lexicographic.{nat_list_cmp_total, slice_cmp}
use Rattle.std.specs.List.Sorted.{IsStrictlySortedBy}
use Rattle.std.specs.Ordering.{nat_cmp}
use Rattle.std.specs.declared.cmp.Ordering.TheVariants.{Less, Equal}
use Rattle.std.proofs.lemmas.Cmp.{tied_itself}
use Rattle.std.proofs.lemmas.List.{take_all}
use Rattle.std.proofs.lemmas.Option.{slice_get_cases}
use Rattle.std.proofs.lemmas.Map.Keys.{sorted_head, sorted_tail}
use Rattle.pm_paths.proofs.ListLemmas.{cases, here, more, nowhere}
use Rattle.pm_consumers.specs.Names.{AreNames}
use Rattle.pm_expire_end.specs.Expiry.{AreConsecutive, first_id, id_at, last_id}
use Rattle.pm_read_expiry.specs.Times.{IsChain}
use Rattle.pm_expire.proofs.ChainLemmas.{last_tail}
use Rattle.pm_expire.proofs.OneEndLemmas.{each_of}

-- ---- at an index

-- the others after it
pub split_at : {X : Type 0} (xs : List X) (index : ℕ) (x : X) → slice_get xs index ≡ Some x → (rest : List X) × (xs ≡ take index xs ++ x ∷ rest)
split_at [] index x is = absurd (let clash : None ≡ Some x = is in cc)
split_at {X} (y ∷ xs) zero x is = (xs, (let same : y ≡ x = cc in ap (λ (y : X). y ∷ xs) same))
split_at {X} (y ∷ xs) (suc index) x is =
    let later = split_at xs index x is in
    (later.0, ap (λ (xs : List X). y ∷ xs) later.1)

-- nothing comes at the index, so all come before it
pub all_taken : {X : Type 0} (xs : List X) (index : ℕ) → slice_get xs index ≡ None → take index xs ≡ xs
all_taken xs index none = take_all index xs (elim ((slice_get_cases xs index).1) as (λ _. length xs ≤ index) [
  | inl within ↦ absurd (let clash : None ≡ Some within.0 = sym none ∙ within.2 in cc)
  | inr beyond ↦ beyond.0
])

-- ---- names

abbrev Below : List ℕ → List ℕ → Type 0
Below x y = slice_cmp nat_cmp x y ≡ Less

below_not : (x : List ℕ) → Below x x → ⊥
below_not x below = let clash : Less ≡ Equal = sym below ∙ tied_itself nat_list_cmp_total x in cc

both_not : (x y : List ℕ) → Below x y → Below y x → ⊥
both_not x y low high = below_not x (nat_list_cmp_total.trans x y x low high)

abbrev Rise : List (List ℕ) → Type 0
Rise names = IsStrictlySortedBy (slice_cmp nat_cmp) names

abbrev HasAll : List (List ℕ) → List (List ℕ) → Type 0
HasAll xs ys = (x : List ℕ) → Contains xs x → Contains ys x

above_head : (x : List ℕ) (xs : List (List ℕ)) → Rise (x ∷ xs) → (y : List ℕ) → Contains xs y → Below x y
above_head x xs rise y c = each_of (λ (y : List ℕ). Below x y) xs (sorted_head (slice_cmp nat_cmp) x xs rise) y c

-- the least of both
one_head : (x y : List ℕ) (xs ys : List (List ℕ)) → Rise (x ∷ xs) → Rise (y ∷ ys) → HasAll (x ∷ xs) (y ∷ ys) → HasAll (y ∷ ys) (x ∷ xs) → x ≡ y
one_head x y xs ys rise climb there back = elim (cases y ys x (there x (here x xs))) as (λ _. x ≡ y) [
  | inl same ↦ sym same
  | inr later ↦ elim (cases x xs y (back y (here y ys))) as (λ _. x ≡ y) [
    | inl same ↦ same
    | inr above ↦ absurd (both_not y x (above_head y ys climb x later) (above_head x xs rise y above))
  ]
]

rest_has : (x y : List ℕ) (xs ys : List (List ℕ)) → x ≡ y → Rise (x ∷ xs) → HasAll (x ∷ xs) (y ∷ ys) → HasAll xs ys
rest_has x y xs ys same rise there z c = elim (cases y ys z (there z (more x xs z c))) as (λ _. Contains ys z) [
  | inl first ↦ absurd (below_not x (subst (λ (z : List ℕ). Below x z) (sym (same ∙ first)) (above_head x xs rise z c)))
  | inr later ↦ later
]

same_rising : (xs ys : List (List ℕ)) → Rise xs → Rise ys → HasAll xs ys → HasAll ys xs → xs ≡ ys
same_rising [] [] rise climb there back = refl
same_rising [] (y ∷ ys) rise climb there back = absurd (nowhere y (back y (here y ys)))
same_rising (x ∷ xs) [] rise climb there back = absurd (nowhere x (there x (here x xs)))
same_rising (x ∷ xs) (y ∷ ys) rise climb there back =
    let same = one_head x y xs ys rise climb there back in
    let rest = same_rising xs ys (sorted_tail (slice_cmp nat_cmp) x xs rise) (sorted_tail (slice_cmp nat_cmp) y ys climb)
    (rest_has x y xs ys same rise there) (rest_has y x ys xs (sym same) climb back) in
    ap (λ (x : List ℕ). x ∷ xs) same ∙ ap (λ (xs : List (List ℕ)). y ∷ xs) rest

pub one_names : (files names others : List (List ℕ)) → AreNames files names → AreNames files others → names ≡ others
one_names files names others are were =
    same_rising names others are.rising were.rising (λ name c. (were.exact name).1 ((are.exact name).0 c))
    (λ name c. (are.exact name).1 ((were.exact name).0 c))

-- ---- the chain that counts

abbrev Times : Type 0
Times = List (ℕ × ℤ)

abbrev HasGap : Times → Times → Type 0
HasGap before chain = 0 < length before → last_id before + 1 ≢ first_id chain

gap_after : (t : ℕ × ℤ) (before chain : Times) → HasGap (t ∷ before) chain → HasGap before chain
gap_after t [] chain gap some = absurd (omega (arith, some))
gap_after t (v ∷ before) chain gap some = λ is. gap (omega arith) (ap (λ (n : ℕ). n + 1) (last_tail t v before) ∙ is)

-- the id after those of these times, and the last of them, by their indexes
id_after : (before chain : Times) → id_at (before ++ chain) (length before) ≡ first_id chain
id_after [] chain = refl
id_after (t ∷ before) chain = id_after before chain

id_last : (t : ℕ × ℤ) (before chain : Times) → id_at ((t ∷ before) ++ chain) (length before) ≡ last_id (t ∷ before)
id_last t [] chain = refl
id_last t (v ∷ before) chain = id_last v before chain ∙ sym (last_tail t v before)

-- no chain begins within one
none_within : (t : ℕ × ℤ) (before all chain : Times) → all ≡ (t ∷ before) ++ chain → AreConsecutive all → 0 < length chain → HasGap (t ∷ before) chain → ⊥
none_within t before all chain is each some gap =
    let last : id_at all (length before) ≡ last_id (t ∷ before) = ap (λ (times : Times). id_at times (length before)) is ∙ id_last t before chain in
    let next : id_at all (length (t ∷ before)) ≡ first_id chain = ap (λ (times : Times). id_at times (length (t ∷ before))) is ∙ id_after (t ∷ before) chain in
    let size : length all ≡ length (t ∷ before) + length chain = ap (λ (times : Times). length times) is ∙ length-append (t ∷ before) chain in
    let long : length (t ∷ before) ≡ length before + 1 = omega arith in
    let low = each.each (length before) (omega (arith, size, long, some)) in
    let high = each.each (length (t ∷ before)) (omega (arith, size, long, some)) in
    let begun : 0 < length (t ∷ before) = omega (arith, long) in
    let joined : last_id (t ∷ before) + 1 ≡ first_id chain = omega (arith, last, next, low, high, long) in
    gap begun joined

same_chain : (before other one two : Times) → before ++ one ≡ other ++ two → AreConsecutive one → AreConsecutive two → HasGap before one → HasGap other two
    → one ≡ two
same_chain [] [] one two is each every gap none = is
same_chain [] (t ∷ other) one two is each every gap none = absurd (none_within t other one two is each every.some none)
same_chain (t ∷ before) [] one two is each every gap none = absurd (none_within t before two one (sym is) every each.some gap)
same_chain (t ∷ before) (u ∷ other) one two is each every gap none =
    let rest : before ++ one ≡ other ++ two = cc in
    same_chain before other one two rest each every (gap_after t before one gap) (gap_after u other two none)

pub one_chain : (all chain other : Times) → IsChain all chain → IsChain all other → chain ≡ other
one_chain all chain other is was = same_chain is.before was.before chain other (sym is.is ∙ was.is) is.each was.each is.gap was.gap
