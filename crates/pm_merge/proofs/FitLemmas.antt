-- Sources and places that are as they have to be.
use Rattle.std.proofs.Common.{◌≡◌, ℕ, List, [], ◌∷◌, ◌++◌, take, drop, sym, ap, subst, ◌∙◌}
use Rattle.std.specs.List.{AllByRecursion}
use Rattle.std.proofs.lemmas.List.{take-append-drop}

fit_parts : {A : Type 0} (P : A → Type 0) (xs ys : List A) → AllByRecursion P (xs ++ ys) → AllByRecursion P xs × AllByRecursion P ys
fit_parts P [] ys h = (tt, h)
fit_parts P (x ∷ xs) ys h = let p = fit_parts P xs ys h.1 in ((h.0, p.0), p.1)

-- those of two halves
pub fit_halved : {A : Type 0} (P : A → Type 0) (n : ℕ) (xs first second : List A) → first ≡ take n xs → second ≡ drop n xs → AllByRecursion P xs → AllByRecursion P first × AllByRecursion P second
fit_halved P n xs first second e d h =
    let whole : xs ≡ first ++ second = sym (take-append-drop n xs) ∙ ap (λ (ys : List _). ys ++ drop n xs) (sym e) ∙ ap (λ (ys : List _). first ++ ys) (sym d) in
    fit_parts P first second (subst (AllByRecursion P) whole h)
