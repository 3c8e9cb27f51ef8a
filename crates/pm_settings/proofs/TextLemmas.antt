-- Texts without a prefix, without a suffix, and joined.
use Rattle.std.proofs.Common.{◌≡◌, ℕ, ◌+◌, ◌-◌, ◌<◌, ◌≤◌, arith, get_or, nat_eq, List, [], ◌∷◌, ◌++◌, length, take, drop, Bool, true, false, cond, Option, Some, None, option_map, MatchOption, Bor, refl, sym, ap, ◌∙◌, append_assoc}
use Rattle.std.proofs.lemmas.List.{take_more}
use Rattle.std.proofs.lemmas.Str.Pattern.{starts_text, ends_text}
use Rattle.std.specs.List.{starts_with}
use Rattle.std.specs.Str.Pattern.{FindsTextPrefix, FindsTextSuffix, StripsPrefix, StripsSuffix}
use Rattle.std.specs.Str.{IsCharBoundary}
use Rattle.pm_options.specs.Fields.{before_suffix, column_in, prefix}
use Rattle.pm_options.specs.Written.{list_text}

-- what stands after a prefix
abbrev pub after_prefix : List ℕ → List ℕ → Option (List ℕ)
after_prefix p text = cond (starts_with nat_eq text p) (Some (drop (length p) text)) None

pub strip_prefix-is : (p text : List ℕ) (r : Option (Bor (List ℕ))) → MatchOption r (FindsTextPrefix p text None) (λ x. StripsPrefix (FindsTextPrefix p) text x.now)
    → option_map (λ x. x.now) r ≡ after_prefix p text
strip_prefix-is p text None none = ap (λ b. cond b (Some (drop (length p) text)) None) (starts_text false p text none)
strip_prefix-is p text (Some x) strips =
    let found = strips.1 in
    let bounded : IsCharBoundary text strips.0 = rw found.0 found.2 in
    ap Some (strips.2 ∙ ap (λ m. drop m text) found.0)
    ∙ ap (λ b. cond b (Some (drop (length p) text)) None) (starts_text true p text (strips.0, found, bounded))

pub strip_suffix-is : (p text : List ℕ) (r : Option (Bor (List ℕ))) → MatchOption r (FindsTextSuffix p text None) (λ x. StripsSuffix (FindsTextSuffix p) text x.now)
    → option_map (λ x. x.now) r ≡ before_suffix p text
strip_suffix-is p text None none = ap (λ b. cond b (Some (take (length text - length p) text)) None) (ends_text false p text none)
strip_suffix-is p text (Some x) strips =
    let found = strips.1 in
    let bounded : IsCharBoundary text (length text - strips.0) = rw found.0 found.2 in
    let within : strips.0 ≤ length text = let len = strips.3 in omega arith in
    ap Some (strips.2 ∙ ap (λ m. take (length text - m) text) found.0)
    ∙ ap (λ b. cond b (Some (take (length text - length p) text)) None) (ends_text true p text (strips.0, found, within, bounded))

stripped : (b : Bool) (suffix text rest : List ℕ) → cond b (Some text) None ≡ Some rest → cond b (before_suffix suffix text) None ≡ before_suffix suffix rest
stripped true suffix text rest is = let same : text ≡ rest = cc in ap (before_suffix suffix) same
stripped false suffix text rest is = cc

pub column_in-some : (suffix key rest : List ℕ) → after_prefix prefix key ≡ Some rest → column_in suffix key ≡ before_suffix suffix rest
column_in-some suffix key rest is = stripped (starts_with nat_eq key prefix) suffix (drop (length prefix) key) rest is

unstripped : (b : Bool) (suffix text : List ℕ) → cond b (Some text) None ≡ None → cond b (before_suffix suffix text) None ≡ None
unstripped true suffix text is = cc
unstripped false suffix text is = refl

pub column_in-none : (suffix key : List ℕ) → after_prefix prefix key ≡ None → column_in suffix key ≡ None
column_in-none suffix key is = unstripped (starts_with nat_eq key prefix) suffix (drop (length prefix) key) is

-- one more name
pub list_text-push : (x : List ℕ) (xs : List (List ℕ)) (y : List ℕ) → list_text (x ∷ (xs ++ y ∷ [])) ≡ (list_text (x ∷ xs) ++ 44 ∷ []) ++ y
list_text-push x [] y = sym (append_assoc x (44 ∷ []) y)
list_text-push x (z ∷ zs) y =
    ap (λ t. x ++ 44 ∷ t) (list_text-push z zs y) ∙ simp append_assoc

pub list_text-next : (x : List ℕ) (rest : List (List ℕ)) (i : ℕ) (y : List ℕ) → i < length rest → y ≡ get_or rest i y
    → (list_text (x ∷ take i rest) ++ 44 ∷ []) ++ y ≡ list_text (x ∷ take (i + 1) rest)
list_text-next x rest i y within is =
    sym (list_text-push x (take i rest) y) ∙ ap (λ z. list_text (x ∷ (take i rest ++ z ∷ []))) is
    ∙ ap (λ ys. list_text (x ∷ ys)) (sym (take_more rest i y within))
