-- Facts that other crates' proofs use: lists and their members, newlines, steps of a reading, and known contents.
use Rattle.std.proofs.Common.{◌≡◌, ◌≢◌, ℕ, zero, suc, ◌/◌, ◌%◌, Bool, true, false, cond, not, ◌&&◌, ◌==◌, inl, inr, List, [], ◌∷◌, ◌++◌, Option, None, Some, Result, Ok, Err, decimal, refl, ap, append_assoc, append-nil, arith}
use Rattle.std.specs.Fmt.{digits, digits_onto, digit_glyph}
use Rattle.std.specs.List.{AllByRecursion, last_or}
use Rattle.std.proofs.lemmas.Bool.{cases_lt, eqb-false}
use Rattle.std.proofs.lemmas.List.Elements.{recursion_from_All, All-from_recursion, All-nil, All-cons, All-head, All-tail, All-append, All-push}
use Rattle.pm_base.specs.Known.{and_then}
use Rattle.pm_base.specs.Newline.{newline, IsUnbroken}
use Rattle.pm_base.specs.Outcome.{◌>>=◌, Fails}

-- members

pub AllByRecursion-append : {X : Type 0} (P : X → Type 0) (xs ys : List X) → AllByRecursion P xs → AllByRecursion P ys → AllByRecursion P (xs ++ ys)
AllByRecursion-append P [] ys first then = then
AllByRecursion-append P (x ∷ xs) ys first then = (first.0, AllByRecursion-append P xs ys first.1 then)

pub AllByRecursion-push : {X : Type 0} (P : X → Type 0) (xs : List X) (x : X) → AllByRecursion P xs → P x → AllByRecursion P (xs ++ x ∷ [])
AllByRecursion-push P xs x all last = AllByRecursion-append P xs (x ∷ []) all (last, tt)

-- of lists joined, each has them
pub AllByRecursion-parts : {X : Type 0} (P : X → Type 0) (xs ys : List X) → AllByRecursion P (xs ++ ys) → AllByRecursion P xs × AllByRecursion P ys
AllByRecursion-parts P [] ys all = (tt, all)
AllByRecursion-parts P (x ∷ xs) ys all = let more = AllByRecursion-parts P xs ys all.1 in ((all.0, more.0), more.1)

pub last_or-push : {X : Type 0} (o : Option X) (xs : List X) (x : X) → last_or o (xs ++ x ∷ []) ≡ Some x
last_or-push o [] x = refl
last_or-push o (y ∷ ys) x = last_or-push (Some y) ys x

-- steps

-- a step that gave a value had one before it
pub step_ok : {A B E : Type 0} (r : Result A E) (f : A → Result B E) (y : B) → (r >>= f) ≡ Ok y → (x : A) × (r ≡ Ok x) × (f x ≡ Ok y)
step_ok (Ok x) f y is = (x, refl, is)
step_ok (Err e) f y is = cc

-- a fault stops what follows
pub Fails-step : {A B D : Type 0} (fault : Option D) (r : Result A D) (f : A → Result B D) → Fails fault r → Fails fault (r >>= f)
Fails-step None r f is = tt
Fails-step (Some e) r f is = ap (λ q. q >>= f) is

-- texts without a newline

pub IsUnbroken-nil : IsUnbroken []
IsUnbroken-nil = All-nil (λ b. b ≢ newline)

pub IsUnbroken-cons : (b : ℕ) (bytes : List ℕ) → b ≢ newline → IsUnbroken bytes → IsUnbroken (b ∷ bytes)
IsUnbroken-cons b bytes = All-cons (λ b. b ≢ newline) b bytes

pub IsUnbroken-append : (xs ys : List ℕ) → IsUnbroken xs → IsUnbroken ys → IsUnbroken (xs ++ ys)
IsUnbroken-append xs ys = All-append (λ b. b ≢ newline) xs ys

pub IsUnbroken-push : (bytes : List ℕ) (b : ℕ) → IsUnbroken bytes → b ≢ newline → IsUnbroken (bytes ++ b ∷ [])
IsUnbroken-push bytes b = All-push (λ b. b ≢ newline) bytes b

-- of texts joined, each has none
pub IsUnbroken-parts : (xs ys : List ℕ) → IsUnbroken (xs ++ ys) → IsUnbroken xs × IsUnbroken ys
IsUnbroken-parts xs ys all =
    let parts = AllByRecursion-parts (λ b. b ≢ newline) xs ys (recursion_from_All (λ b. b ≢ newline) (xs ++ ys) all) in
    (All-from_recursion (λ b. b ≢ newline) xs parts.0, All-from_recursion (λ b. b ≢ newline) ys parts.1)

pub IsUnbroken-head : (b : ℕ) (bytes : List ℕ) → IsUnbroken (b ∷ bytes) → b ≢ newline
IsUnbroken-head b bytes = All-head (λ b. b ≢ newline) b bytes

pub IsUnbroken-tail : (b : ℕ) (bytes : List ℕ) → IsUnbroken (b ∷ bytes) → IsUnbroken bytes
IsUnbroken-tail b bytes = All-tail (λ b. b ≢ newline) b bytes

-- a text with a newline in it isn't one without
pub IsUnbroken-newline : (xs ys : List ℕ) → IsUnbroken (xs ++ newline ∷ ys) → ⊥
IsUnbroken-newline xs ys all = IsUnbroken-head newline ys (IsUnbroken-parts xs (newline ∷ ys) all).1 refl

-- whether no newline stands in the bytes
abbrev pub is_unbroken : List ℕ → Bool
is_unbroken [] = true
is_unbroken (b ∷ bytes) = not (b == newline) && is_unbroken bytes

-- a text that the test shows to have none, as a literal one
pub IsUnbroken-tested : (bytes : List ℕ) → is_unbroken bytes ≡ true → IsUnbroken bytes
IsUnbroken-tested [] e = IsUnbroken-nil
IsUnbroken-tested (b ∷ bytes) e =
    elim (b == newline) as (λ t. (b == newline) ≡ t → (not t && is_unbroken bytes) ≡ true → IsUnbroken (b ∷ bytes)) [
      | true ↦ λ t e. cc
      | false ↦ λ t e. IsUnbroken-cons b bytes (eqb-false b newline t) (IsUnbroken-tested bytes e)
    ] refl e

-- a choice of two texts without
pub IsUnbroken-cond : (b : Bool) (xs ys : List ℕ) → IsUnbroken xs → (b ≡ false → IsUnbroken ys) → IsUnbroken (cond b xs ys)
IsUnbroken-cond true xs ys h k = h
IsUnbroken-cond false xs ys h k = k refl

digit-newline : (d : ℕ) → digit_glyph false d ≢ newline
digit-newline d = elim (cases_lt d 10) [ inl small ↦ λ e. grind arith | inr big ↦ λ e. grind arith ]

IsUnbroken-digits : (k n : ℕ) (after : List ℕ) → IsUnbroken after → IsUnbroken (digits_onto k 10 false n after)
IsUnbroken-digits zero n after h = h
IsUnbroken-digits (suc k) n after h =
    let more = IsUnbroken-cons (digit_glyph false (n % 10)) after (digit-newline (n % 10)) h in
    IsUnbroken-cond (n / 10 == 0) _ _ more (λ _. IsUnbroken-digits k (n / 10) _ more)

pub IsUnbroken-decimal : (n : ℕ) → IsUnbroken (decimal n)
unfolding digits
IsUnbroken-decimal n = IsUnbroken-digits 64 n [] IsUnbroken-nil

-- known contents

-- one text and then another
pub and_then-append : (known : Option (List ℕ)) (a b : List ℕ) → and_then (and_then known a) b ≡ and_then known (a ++ b)
and_then-append None a b = refl
and_then-append (Some known) a b = ap Some (append_assoc known a b)

pub and_then-nil : (known : Option (List ℕ)) → and_then known [] ≡ known
and_then-nil None = refl
and_then-nil (Some known) = ap Some (append-nil known)
