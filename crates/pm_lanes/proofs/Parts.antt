-- A list that is made part by part.
use Rattle.std.proofs.Common.{◌≡◌, ℕ, ◌+◌, List, ◌++◌, length, map, take, drop, arith, sym, ap, ◌∙◌, append_assoc}
use Rattle.std.proofs.Common.{length-append}
use Rattle.std.proofs.lemmas.List.{drop-take, map-append, take-append-drop, take-take, take_at}

two_parts : {X : Type 0} (done count : ℕ) (values : List X)
    → take done values ++ take count (drop done values) ≡ take (done + count) values
two_parts done count values =
    let first = take-take done (done + count) values (omega arith) in
    let then = drop-take done count values in
    rw (first, then) at (take-append-drop done (take (done + count) values))

-- after the first so many, the next so many stand
pub placed : {X Y : Type 0} (f : X → Y) (done count : ℕ) (values : List X) (front now back : List Y)
    → length front ≡ done → length now ≡ count
    → front ≡ map f (take done values) → now ≡ map f (take count (drop done values))
    → take (done + count) (front ++ (now ++ back)) ≡ map f (take (done + count) values)
placed f done count values front now back first then before here =
    let long : length (front ++ now) ≡ done + count = length-append front now ∙ cc in
    let whole : front ++ (now ++ back) ≡ (front ++ now) ++ back = sym (append_assoc front now back) in
    let both : front ++ now ≡ map f (take done values) ++ map f (take count (drop done values)) = cc in
    ap (take (done + count)) whole ∙ take_at (front ++ now) back (done + count) long
    ∙ both ∙ sym (map-append f (take done values) (take count (drop done values)))
    ∙ ap (map f) (two_parts done count values)
