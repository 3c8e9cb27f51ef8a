-- What holds of each item of a list.
use Rattle.std.proofs.Common.{◌≡◌, List, [], ◌∷◌, map, refl}
use Rattle.std.specs.List.{AllByRecursion}

pub weaker : {A : Type 0} (P Q : A → Type 0) → ((x : A) → P x → Q x) → (xs : List A) → AllByRecursion P xs → AllByRecursion Q xs
weaker P Q f [] p = tt
weaker P Q f (x ∷ xs) p = (f x p.0, weaker P Q f xs p.1)

pub both_of : {A : Type 0} (P Q R : A → Type 0) → ((x : A) → P x → Q x → R x) → (xs : List A) → AllByRecursion P xs → AllByRecursion Q xs → AllByRecursion R xs
both_of P Q R f [] p q = tt
both_of P Q R f (x ∷ xs) p q = (f x p.0 q.0, both_of P Q R f xs p.1 q.1)

pub from_map : {A B : Type 0} (f : A → B) (P : B → Type 0) (xs : List A) → AllByRecursion P (map f xs) → AllByRecursion (λ (x : A). P (f x)) xs
from_map f P [] p = tt
from_map f P (x ∷ xs) p = (p.0, from_map f P xs p.1)

pub none_mapped : {A B : Type 0} (f : A → B) (xs : List A) → map f xs ≡ [] → xs ≡ []
none_mapped f [] e = refl
none_mapped f (x ∷ xs) e = let no : f x ∷ map f xs ≡ [] = e in cc
