-- Settings that are added one after another.
use Rattle.std.proofs.Common.{◌≡◌, ℕ, ◌+◌, ◌<◌, ◌≤◌, List, [], ◌∷◌, ◌++◌, map, length, take, get_or, String, Global, refl, sym, ap, subst, ◌∙◌, append_assoc}
use Rattle.std.proofs.lemmas.List.{take_more, take_all, map-append}
use Rattle.pm_options.specs.Table.{Setting}
use Rattle.pm_options.specs.Written.{Adds, text_views}

abbrev pub Texts : Type 0
Texts = List (String Global × String Global)

append-nothing : (xs : List Setting) → xs ≡ xs ++ []
append-nothing [] = refl
append-nothing (x ∷ xs) = ap (λ ys. x ∷ ys) (append-nothing xs)

-- nothing was added
pub Adds-none : (old : Texts) → Adds old old []
Adds-none old = record { views = append-nothing (text_views old) }

-- first these, and then those
pub Adds-then : {old middle new : Texts} {a b : List Setting} → Adds old middle a → Adds middle new b → Adds old new (a ++ b)
Adds-then {old} {middle} {new} {a} {b} p q =
    record { views = q.views ∙ ap (λ v. v ++ b) p.views ∙ append_assoc (text_views old) a b }

-- the same settings, said otherwise
pub Adds-same : {old new : Texts} {a : List Setting} (b : List Setting) → a ≡ b → Adds old new a → Adds old new b
Adds-same {old} {new} b is p = subst (λ c. Adds old new c) is p

-- one more of a list
pub Adds-more : {A : Type 0} (f : A → Setting) (xs : List A) (i : ℕ) (x : A) {old middle new : Texts} → i < length xs → x ≡ get_or xs i x
    → Adds old middle (map f (take i xs)) → Adds middle new (f x ∷ []) → Adds old new (map f (take (i + 1) xs))
Adds-more f xs i x within is before one =
    let whole : map f (take i xs) ++ f x ∷ [] ≡ map f (take (i + 1) xs) =
    sym (map-append f (take i xs) (x ∷ [])) ∙ ap (λ y. map f (take i xs ++ y ∷ [])) is ∙ ap (map f) (sym (take_more xs i x within)) in
    Adds-same _ whole (Adds-then before one)

-- all of a list
pub Adds-all : {A : Type 0} (f : A → Setting) (xs : List A) (i : ℕ) {old new : Texts} → length xs ≤ i → Adds old new (map f (take i xs)) → Adds old new (map f xs)
Adds-all f xs i past p = Adds-same _ (ap (map f) (take_all i xs past)) p
