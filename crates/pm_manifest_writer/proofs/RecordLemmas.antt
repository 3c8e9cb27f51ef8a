-- Records that are written one after another.
use Rattle.std.proofs.Common.{◌≡◌, ℕ, ◌+◌, ◌<◌, List, [], ◌∷◌, ◌++◌, length, get_or, map, take, sym, ap, subst, ◌∙◌}
use Rattle.std.specs.List.{AllByRecursion}
use Rattle.std.proofs.lemmas.List.{map_push, take_more}
use Rattle.pm_base.proofs.Laws.{AllByRecursion-push}

-- the first items and the next
next_item : {X : Type 0} (xs : List X) (i : ℕ) (x : X) → i < length xs → x ≡ get_or xs i x → take (i + 1) xs ≡ take i xs ++ x ∷ []
next_item xs i x lt is = take_more xs i x lt ∙ ap (λ y. take i xs ++ y ∷ []) (sym is)

-- what holds of the first items and of the next
pub all_next : {X : Type 0} (P : X → Type 0) (xs : List X) (i : ℕ) (x : X) → i < length xs → x ≡ get_or xs i x → AllByRecursion P (take i xs) → P x
    → AllByRecursion P (take (i + 1) xs)
all_next P xs i x lt is all one = subst (AllByRecursion P) (sym (next_item xs i x lt is)) (AllByRecursion-push P (take i xs) x all one)

-- one more record is that of the next item
pub record_next : {X D Y : Type 0} (view : D → Y) (f : X → Y) (xs : List X) (i : ℕ) (x : X) (records more : List D) (d : D) → i < length xs → x ≡ get_or xs i x
    → more ≡ records ++ d ∷ [] → view d ≡ f x → map view records ≡ map f (take i xs) → map view more ≡ map f (take (i + 1) xs)
record_next view f xs i x records more d lt is pushed seen so_far =
    ap (map view) pushed ∙ map_push view records d ∙ ap (λ ys. ys ++ view d ∷ []) so_far ∙ ap (λ y. map f (take i xs) ++ y ∷ []) seen
    ∙ sym (ap (map f) (next_item xs i x lt is) ∙ map_push f (take i xs) x)
