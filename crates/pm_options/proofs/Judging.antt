-- The first fault of a list whose items are judged one after another.
use Rattle.std.proofs.Common.{◌≡◌, ℕ, ◌+◌, ◌<◌, ◌≤◌, List, [], ◌∷◌, map, length, drop, get_or, Option, None, Some, Ok, refl, sym, ap, subst, ◌∙◌, add-one}
use Rattle.std.specs.Prelude.{⊤}
use Rattle.std.proofs.Math.Seq.{drop-cons}
use Rattle.std.proofs.lemmas.List.{drop_all}
use Rattle.pm_base.specs.Outcome.{Fails}
use Rattle.std.specs.List.{AllByRecursion}
use Rattle.std.specs.Option.{option_or}
use Rattle.pm_options.specs.Faults.{first_of, judged}
use Rattle.pm_values.specs.declared.refusal.Refusal.{Refusal}

-- a judgement that found no fault
pub judged_none : (fault : Option Refusal) (u : ⊤) → judged fault ≡ Ok u → fault ≡ None
judged_none None u is = refl
judged_none (Some f) u is = cc

fails_first : (o : Option Refusal) (fault more : Option Refusal) → Fails o (judged fault) → Fails o (judged (option_or fault more))
fails_first None fault more is = tt
fails_first (Some e) None more is = cc
fails_first (Some e) (Some f) more is = is

next_item : {A : Type 0} (xs : List A) (i : ℕ) (d : A) → i < length xs → drop i xs ≡ get_or xs i d ∷ drop (i + 1) xs
next_item xs i d within = rw (add-one, drop-cons xs i d) refl

-- an item without a fault
pub judge-next : {A : Type 0} (fault : A → Option Refusal) (xs : List A) (i : ℕ) (d : A) (u : ⊤) (whole : Option Refusal) → i < length xs
    → judged (fault (get_or xs i d)) ≡ Ok u → first_of fault (drop i xs) ≡ whole → first_of fault (drop (i + 1) xs) ≡ whole
judge-next fault xs i d u whole within good before =
    let none = judged_none (fault (get_or xs i d)) u good in
    sym (ap (λ f. option_or f (first_of fault (drop (i + 1) xs))) none) ∙ sym (ap (first_of fault) (next_item xs i d within)) ∙ before

-- an item with one
pub judge-failed : {A : Type 0} (fault : A → Option Refusal) (xs : List A) (i : ℕ) (d : A) (o whole : Option Refusal) → i < length xs
    → Fails o (judged (fault (get_or xs i d))) → first_of fault (drop i xs) ≡ whole → Fails o (judged whole)
judge-failed fault xs i d o whole within bad before =
    let here = fails_first o (fault (get_or xs i d)) (first_of fault (drop (i + 1) xs)) bad in
    subst (λ w. Fails o (judged w)) (sym (ap (first_of fault) (next_item xs i d within)) ∙ before) here

-- no item had one
pub judge-all : {A : Type 0} (fault : A → Option Refusal) (xs : List A) (i : ℕ) (whole : Option Refusal) → length xs ≤ i → first_of fault (drop i xs) ≡ whole → judged whole ≡ Ok tt
judge-all fault xs i whole past before = ap judged (sym before ∙ ap (first_of fault) (drop_all i xs past))

-- the faults of what a function makes of the items
pub first_of-map : {A B : Type 0} (fault : B → Option Refusal) (f : A → B) (xs : List A) → first_of (λ x. fault (f x)) xs ≡ first_of fault (map f xs)
first_of-map fault f [] = refl
first_of-map fault f (x ∷ xs) = ap (option_or (fault (f x))) (first_of-map fault f xs)

-- where the first of two faults is none, both are
none_then : (a b : Option Refusal) → option_or a b ≡ None → (a ≡ None) × (b ≡ None)
none_then None b is = (refl, is)
none_then (Some e) b is = cc

-- where there is no first fault, no item has one
pub all_none : {A : Type 0} (fault : A → Option Refusal) (xs : List A) → first_of fault xs ≡ None → AllByRecursion (λ x. fault x ≡ None) xs
all_none fault [] is = tt
all_none fault (x ∷ xs) is = let parts = none_then (fault x) (first_of fault xs) is in (parts.0, all_none fault xs parts.1)

pub none_all : {A : Type 0} (fault : A → Option Refusal) (xs : List A) → AllByRecursion (λ x. fault x ≡ None) xs → first_of fault xs ≡ None
none_all fault [] all = refl
none_all fault (x ∷ xs) all = ap (λ o. option_or o (first_of fault xs)) all.0 ∙ none_all fault xs all.1
