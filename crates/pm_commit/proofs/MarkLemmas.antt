-- The first name that has a mark.
use Rattle.pm_base.proofs.Laws.{AllByRecursion-append}
use Rattle.std.proofs.Common.{◌≡◌, ℕ, ◌+◌, ◌<◌, suc, List, [], ◌∷◌, ◌++◌, get_or, length, take, drop, Some, refl, sym, ap, subst, ◌∙◌, add-one, drop-cons, take-append-drop}
use Rattle.std.proofs.lemmas.List.{take_more}
use Rattle.std.specs.Str.Iter.{HasSubslice}
use Rattle.pm_values.specs.Names.{Naming}
use Rattle.pm_model_contents.specs.Lists.{manifest_path}
use Rattle.pm_commit.specs.Marks.{FindsUsed, HaveNone, mark_of}

drop_next : {X : Type 0} (xs : List X) (i : ℕ) (x : X) → i < length xs → x ≡ get_or xs i x → drop i xs ≡ x ∷ drop (i + 1) xs
drop_next xs i x lt is = drop-cons xs i x lt ∙ ap (λ y. y ∷ drop (suc i) xs) (sym is) ∙ rw (← add-one) refl

split-at : (names : List (List ℕ)) (i : ℕ) (name : List ℕ) → i < length names → name ≡ get_or names i name → names ≡ take i names ++ name ∷ drop (i + 1) names
split-at names i name within is = sym (take-append-drop i names) ∙ ap (λ (rest : List (List ℕ)). take i names ++ rest) (drop_next names i name within is)

pub none-more : (mark : List ℕ) (names : List (List ℕ)) (i : ℕ) (name : List ℕ) → i < length names → name ≡ get_or names i name → HaveNone mark (take i names)
    → (HasSubslice name mark → ⊥) → HaveNone mark (take (i + 1) names)
none-more mark names i name within is none other =
    subst (HaveNone mark) (sym (take_more names i name within ∙ ap (λ (x : List ℕ). take i names ++ x ∷ []) (sym is)))
    (AllByRecursion-append (λ (name : List ℕ). HasSubslice name mark → ⊥) (take i names) (name ∷ []) none (other, tt))

pub found-at : (maker : Naming) (names : List (List ℕ)) (i : ℕ) (name path : List ℕ) → i < length names → name ≡ get_or names i name
    → HaveNone (mark_of maker) (take i names) → HasSubslice name (mark_of maker) → path ≡ manifest_path name → FindsUsed maker names (Some path)
found-at maker names i name path within is none has at = (take i names, drop (i + 1) names, name, split-at names i name within is, none, has, at)
