-- The first newline of bytes.
use Rattle.std.proofs.Common.{◌≡◌, ℕ, ◌+◌, ◌<◌, List, ◌∷◌, ◌++◌, length, take, drop, get_or, slice_index, true, Option, None, Some, IfNone, IfSome, sym, ap, ◌∙◌, arith}
use Rattle.std.proofs.lemmas.Bool.{eqb-true}
use Rattle.std.proofs.lemmas.Grind.{get_or_default_zero}
use Rattle.std.proofs.lemmas.List.{drop_more, get_or-take, length-take-le, take-append-drop}
use Rattle.memchr.specs.Find.{IsFirstByte, is_byte}
use Rattle.pm_base.specs.Newline.{newline, IsUnbroken}

passes : (bytes : List ℕ) (i d : ℕ) → i < length bytes → get_or bytes i d ≡ newline → is_byte newline (slice_index bytes i) ≡ true
passes bytes i d inside e = ap (is_byte newline) (sym (get_or_default_zero bytes i d inside) ∙ e)

pub none : (bytes : List ℕ) (r : Option ℕ) → IsFirstByte (is_byte newline) bytes r → IfNone r (IsUnbroken bytes)
none bytes None nowhere = λ i d inside e. nowhere i (omega arith) inside (passes bytes i d inside e)
none bytes (Some k) is = tt

pub index : (bytes : List ℕ) (r : Option ℕ) → IsFirstByte (is_byte newline) bytes r → IfSome r (λ k. k < length bytes)
index bytes None nowhere = tt
index bytes (Some k) is = is.0.high

pub prefix : (bytes : List ℕ) (r : Option ℕ) → IsFirstByte (is_byte newline) bytes r → IfSome r (λ k. IsUnbroken (take k bytes))
prefix bytes None nowhere = tt
prefix bytes (Some k) is = λ i d inside e.
    let high = is.0.high in
    let short = length-take-le k bytes (omega (arith, high)) in
    let before : i < k = omega (arith, inside, short) in
    is.0.before i (omega arith) before (passes bytes i d (omega (arith, before, high)) (sym (get_or-take k bytes i d before) ∙ e))

pub rest : (bytes : List ℕ) (r : Option ℕ) → IsFirstByte (is_byte newline) bytes r → IfSome r (λ k. bytes ≡ take k bytes ++ (newline ∷ drop (k + 1) bytes))
rest bytes None nowhere = tt
rest bytes (Some k) is =
    let here : get_or bytes k 0 ≡ newline = eqb-true (get_or bytes k 0) newline is.1 in
    sym (take-append-drop k bytes)
    ∙ ap (λ (later : List ℕ). take k bytes ++ later) (drop_more bytes k 0 is.0.high ∙ ap (λ (b : ℕ). b ∷ drop (k + 1) bytes) here)
