-- Escaped texts are read in one way, and have no slash.
use Rattle.std.proofs.Common.{◌≡◌, ◌≢◌, ℕ, ◌+◌, ◌/◌, ◌%◌, Bool, true, false, if◌then◌else◌, List, [], ◌∷◌, ◌++◌, drop}
use Rattle.std.proofs.Common.{get_or, refl, sym, ap, ◌∙◌, append_assoc, arith, inl, inr}
use Rattle.std.proofs.lemmas.Bool.{cases_lt, false≢true, le-ltb, lt-ltb}
use Rattle.pm_schema.specs.Folder.{escaped, escaped_byte, is_plain, upper_digit}

pub same_heads : (a b : ℕ) (xs ys : List ℕ) → a ∷ xs ≡ b ∷ ys → (a ≡ b) × (xs ≡ ys)
same_heads a b xs ys e = (ap (λ (l : List ℕ). get_or l 0 a) e, ap (drop 1) e)

one_digit : (m n : ℕ) → upper_digit m ≡ upper_digit n → m ≡ n
one_digit m n e = elim (cases_lt m 10) [
  | inl a ↦ elim (cases_lt n 10) [
    | inl b ↦ let f : m + 48 ≡ n + 48 = rw (lt-ltb m 10 a, lt-ltb n 10 b) at e in omega (arith, f)
    | inr b ↦ let f : m + 48 ≡ n + 55 = rw (lt-ltb m 10 a, le-ltb n 10 b) at e in omega (arith, f)
  ]
  | inr a ↦ elim (cases_lt n 10) [
    | inl b ↦ let f : m + 55 ≡ n + 48 = rw (le-ltb m 10 a, lt-ltb n 10 b) at e in omega (arith, f)
    | inr b ↦ let f : m + 55 ≡ n + 55 = rw (le-ltb m 10 a, le-ltb n 10 b) at e in omega (arith, f)
  ]
]

-- a byte, that stands for itself or not
abbrev pub coded : Bool → ℕ → List ℕ
coded itself b = if itself then b ∷ [] else 37 ∷ upper_digit (b / 16) ∷ upper_digit (b % 16) ∷ []

one_code : (p q : Bool) (a b : ℕ) (r s : List ℕ) → (p ≡ true → a ≢ 37) → (q ≡ true → b ≢ 37)
    → coded p a ++ r ≡ coded q b ++ s → (a ≡ b) × (r ≡ s)
one_code true true a b r s f g e = same_heads a b r s e
one_code true false a b r s f g e =
    absurd (f refl (same_heads a 37 r (upper_digit (b / 16) ∷ upper_digit (b % 16) ∷ s) e).0)
one_code false true a b r s f g e =
    absurd (g refl (sym (same_heads 37 b (upper_digit (a / 16) ∷ upper_digit (a % 16) ∷ r) s e).0))
one_code false false a b r s f g e =
    let x = upper_digit (a / 16) in
    let y = upper_digit (a % 16) in
    let z = upper_digit (b / 16) in
    let w = upper_digit (b % 16) in
    let rest = (same_heads 37 37 (x ∷ y ∷ r) (z ∷ w ∷ s) e).1 in
    let high = same_heads x z (y ∷ r) (w ∷ s) rest in
    let low = same_heads y w r s high.1 in
    let highs : a / 16 ≡ b / 16 = one_digit (a / 16) (b / 16) high.0 in
    let lows : a % 16 ≡ b % 16 = one_digit (a % 16) (b % 16) low.0 in
    (omega (arith, highs, lows), low.1)

no_slash : (p : Bool) (b : ℕ) (r s : List ℕ) → (p ≡ true → b ≢ 47) → coded p b ++ r ≡ 47 ∷ s → ⊥
no_slash true b r s f e = f refl (same_heads b 47 r s e).0
no_slash false b r s f e =
    let is : 37 ≡ 47 = (same_heads 37 47 (upper_digit (b / 16) ∷ upper_digit (b % 16) ∷ r) s e).0 in
    omega (arith, is)

plain_apart : (b n : ℕ) → is_plain n ≡ false → is_plain b ≡ true → b ≢ n
plain_apart b n other plain is = false≢true (sym other ∙ sym (ap is_plain is) ∙ plain)

-- a text with a slash after it is escaped as no other is
pub one_text : (t u x y : List ℕ) → escaped t ++ 47 ∷ x ≡ escaped u ++ 47 ∷ y → (t ≡ u) × (x ≡ y)
one_text [] [] x y e = (refl, (same_heads 47 47 x y e).1)
one_text [] (b ∷ u) x y e =
    absurd (no_slash (is_plain b) b (escaped u ++ 47 ∷ y) x (plain_apart b 47 refl)
    (sym (append_assoc (escaped_byte b) (escaped u) (47 ∷ y)) ∙ sym e))
one_text (a ∷ t) [] x y e =
    absurd (no_slash (is_plain a) a (escaped t ++ 47 ∷ x) y (plain_apart a 47 refl)
    (sym (append_assoc (escaped_byte a) (escaped t) (47 ∷ x)) ∙ e))
one_text (a ∷ t) (b ∷ u) x y e =
    let codes : coded (is_plain a) a ++ (escaped t ++ 47 ∷ x) ≡ coded (is_plain b) b ++ (escaped u ++ 47 ∷ y) =
    sym (append_assoc (escaped_byte a) (escaped t) (47 ∷ x)) ∙ e ∙ append_assoc (escaped_byte b) (escaped u) (47 ∷ y) in
    let first =
    one_code (is_plain a) (is_plain b) a b (escaped t ++ 47 ∷ x) (escaped u ++ 47 ∷ y)
    (plain_apart a 37 refl) (plain_apart b 37 refl) codes in
    let later = one_text t u x y first.1 in
    (ap (λ (c : ℕ). c ∷ t) first.0 ∙ ap (λ (l : List ℕ). b ∷ l) later.0, later.1)
