-- A string that JSON is read from UTF-8 as is UTF-8: its escapes are characters, and the rest is copied.
use Rattle.std.proofs.Common.{◌≡◌, ◌⊎◌, ℕ, zero, suc, ◌+◌, ◌*◌, ◌<◌, ◌≤◌, ◌==◌, ◌&&◌, nat_lt, Bool, true, false, cond, List, [], ◌∷◌, ◌++◌, length, get_or, Option, Some, None, option_and_then, IsUtf8, inl, inr, refl, sym, ap, ◌∙◌, subst, arith, append-nil, length-append, eqb-true, ne_eqb, le-ltb, ltb-true}
use Rattle.std.specs.Char.{digit_value, is_digit}
use Rattle.std.proofs.lemmas.Bool.{and_parts, cases_lt}
use Rattle.std.proofs.lemmas.Bool.Decides.{nat_tests}
use Rattle.std.proofs.lemmas.Str.{IsUtf8-append, IsUtf8-nil, IsUtf8-encode, IsUtf8-past_char, encode_ascii, inside_one, length-encode, len_utf8_bounds}
use lib.Utf8.{scalar, scalars, encode, encodes, low_scalar}
use Rattle.json.specs.Text.{content, plain, after_backslash, after_u, after_high, code_unit, short_escape, is_high_surrogate, is_low_surrogate, surrogate_pair, prepend}

-- ---- choices and steps that gave a value

choice : {A : Type 0} (b : Bool) (x y : Option A) (a : A) → cond b x y ≡ Some a → ((b ≡ true) × (x ≡ Some a)) ⊎ ((b ≡ false) × (y ≡ Some a))
choice true x y a e = inl (refl, e)
choice false x y a e = inr (refl, e)

prepended : (before : List ℕ) (o : Option (List ℕ)) (s : List ℕ) → prepend before o ≡ Some s → (t : List ℕ) × (o ≡ Some t) × (before ++ t ≡ s)
prepended before None s e = cc
prepended before (Some t) s e = (t, refl, cc)

pub given : {A B : Type 0} (o : Option A) (f : A → Option B) (b : B) → option_and_then f o ≡ Some b → (a : A) × (o ≡ Some a) × (f a ≡ Some b)
given None f b e = cc
given (Some a) f b e = (a, refl, e)

-- ---- characters

-- what follows an ASCII byte in UTF-8 is UTF-8
pub past_byte : (x : ℕ) (xs : List ℕ) → x < 128 → IsUtf8 (x ∷ xs) → IsUtf8 xs
past_byte x xs low u = IsUtf8-past_char (x ∷ xs) xs x u (ap (λ l. l ++ xs) (sym (encode_ascii x low)))

one_byte : (x : ℕ) → x < 128 → IsUtf8 (x ∷ [])
one_byte x low = subst IsUtf8 (encode_ascii x low) (IsUtf8-encode x (low_scalar x (omega arith)))

abbrev pub AreHigh : List ℕ → Type 0
AreHigh xs = (k : ℕ) → k < length xs → 128 ≤ get_or xs k 0

AreHigh-encode : (c : ℕ) → 128 ≤ c → AreHigh (encode c)
AreHigh-encode c big k below = elim (cases_lt (get_or (encode c) k 0) 128) [
  | inl low ↦ absurd (omega (arith, inside_one c [] (encode c) k (sym (append-nil _)) below low))
  | inr h ↦ h
]

-- UTF-8 that begins with a byte that isn't ASCII begins with a character of such bytes
pub record BeginsHigh (text : List ℕ) : Type 0 where
  pub char : ℕ
  pub later : List ℕ
  pub is : text ≡ encode char ++ later
  pub utf8_char : IsUtf8 (encode char)
  pub utf8 : IsUtf8 later
  pub high : AreHigh (encode char)
  pub shorter : length later < length text

begins_with : (x : ℕ) (xs : List ℕ) → 128 ≤ x → (cs : List ℕ) → scalars cs ≡ true → encodes cs ≡ x ∷ xs → BeginsHigh (x ∷ xs)
begins_with x xs high [] ok e = cc
begins_with x xs high (c ∷ cs) ok e =
    let p = and_parts (scalar c) (scalars cs) ok in
    elim (cases_lt c 128) [
      | inl low ↦
          let same : c ≡ x = ap (λ (l : List ℕ). get_or (l ++ encodes cs) 0 0) (sym (encode_ascii c low)) ∙ ap (λ (l : List ℕ). get_or l 0 0) e in
          absurd (omega arith)
      | inr big ↦ record {
        char = c;
        later = encodes cs;
        is = sym e;
        utf8_char = IsUtf8-encode c p.0;
        utf8 = (cs, (p.1, refl));
        high = AreHigh-encode c big;
        shorter = omega (arith, ap length e, length-append (encode c) (encodes cs), length-encode c, (len_utf8_bounds c).0);
      }
    ]

pub BeginsHigh-utf8 : (x : ℕ) (xs : List ℕ) → 128 ≤ x → IsUtf8 (x ∷ xs) → BeginsHigh (x ∷ xs)
BeginsHigh-utf8 x xs high u = begins_with x xs high u.0 u.1.0 u.1.1

-- ---- the four digits of an escape

digit_low : (x : ℕ) → is_digit x 16 ≡ true → (x < 128) × (digit_value x < 16)
digit_low x e = (grind (arith, nat_tests), ltb-true (digit_value x) 16 e)

record IsUnit (a b c d u : ℕ) : Type 0 where
  low_a : a < 128
  low_b : b < 128
  low_c : c < 128
  low_d : d < 128
  small : u < 65536

unit_is : (a b c d u : ℕ) → code_unit a b c d ≡ Some u → IsUnit a b c d u
unfolding code_unit
unit_is a b c d u e = elim (choice (is_digit a 16 && is_digit b 16 && is_digit c 16 && is_digit d 16) (Some (digit_value a * 4096 + digit_value b * 256 + digit_value c * 16 + digit_value d)) None u e) [
  | inl (test, is) ↦
      let abc = and_parts (is_digit a 16 && is_digit b 16 && is_digit c 16) (is_digit d 16) test in
      let ab = and_parts (is_digit a 16 && is_digit b 16) (is_digit c 16) abc.0 in
      let both = and_parts (is_digit a 16) (is_digit b 16) ab.0 in
      let da = digit_low a both.0 in
      let db = digit_low b both.1 in
      let dc = digit_low c ab.1 in
      let dd = digit_low d abc.1 in
      let value : digit_value a * 4096 + digit_value b * 256 + digit_value c * 16 + digit_value d ≡ u = cc in
      record { low_a = da.0; low_b = db.0; low_c = dc.0; low_d = dd.0; small = omega (arith, da.1, db.1, dc.1, dd.1, value) }
  | inr (test, is) ↦ cc
]

past_unit : (a b c d u : ℕ) (xs : List ℕ) → IsUnit a b c d u → IsUtf8 (a ∷ b ∷ c ∷ d ∷ xs) → IsUtf8 xs
past_unit a b c d u xs is utf8 =
    past_byte d xs is.low_d (past_byte c (d ∷ xs) is.low_c (past_byte b (c ∷ d ∷ xs) is.low_b (past_byte a (b ∷ c ∷ d ∷ xs) is.low_a utf8)))

scalar_unit : (u : ℕ) → u < 65536 → is_high_surrogate u ≡ false → is_low_surrogate u ≡ false → scalar u ≡ true
scalar_unit u small high low = grind (arith, nat_tests)

scalar_pair : (h l : ℕ) → is_high_surrogate h ≡ true → is_low_surrogate l ≡ true → scalar (surrogate_pair h l) ≡ true
scalar_pair h l high low =
    let first : (55296 ≤ h) × (h < 56320) = (grind (arith, nat_tests), grind (arith, nat_tests)) in
    let second : (56320 ≤ l) × (l < 57344) = (grind (arith, nat_tests), grind (arith, nat_tests)) in
    let above : 65536 ≤ surrogate_pair h l = omega arith in
    let below : surrogate_pair h l < 1114112 = omega arith in
    grind (arith, nat_tests)

short_low : (x c : ℕ) → short_escape x ≡ Some c → (x < 128) × (c < 128)
unfolding short_escape
short_low x c e = (grind (arith, nat_tests), grind (arith, nat_tests))

-- ---- the content of a string

-- the strings of UTF-8 texts of at most that length are UTF-8
abbrev UpTo : ℕ → Type 0
UpTo n = (xs : List ℕ) → length xs ≤ n → IsUtf8 xs → (s : List ℕ) → content plain xs ≡ Some s → IsUtf8 s

-- a character and the rest
with_char : (n c : ℕ) → UpTo n → (xs : List ℕ) → length xs ≤ n → IsUtf8 xs → IsUtf8 (encode c) → (s : List ℕ) → prepend (encode c) (content plain xs) ≡ Some s → IsUtf8 s
with_char n c shorter xs small utf8 char s e =
    let rest = prepended (encode c) (content plain xs) s e in
    subst IsUtf8 rest.2 (IsUtf8-append (encode c) rest.0 char (shorter xs small utf8 rest.0 rest.1))

with_byte : (n c : ℕ) → UpTo n → (xs : List ℕ) → length xs ≤ n → IsUtf8 xs → c < 128 → (s : List ℕ) → prepend (c ∷ []) (content plain xs) ≡ Some s → IsUtf8 s
with_byte n c shorter xs small utf8 low s e =
    let rest = prepended (c ∷ []) (content plain xs) s e in
    subst IsUtf8 rest.2 (IsUtf8-append (c ∷ []) rest.0 (one_byte c low) (shorter xs small utf8 rest.0 rest.1))

second_half : (n h : ℕ) → UpTo n → is_high_surrogate h ≡ true → (xs : List ℕ) → length xs ≤ n → IsUtf8 xs → (s : List ℕ) → content (after_high h) xs ≡ Some s → IsUtf8 s
unfolding content
second_half n h shorter high [] small utf8 s e = cc
second_half n h shorter high (x ∷ []) small utf8 s e = cc
second_half n h shorter high (x ∷ y ∷ []) small utf8 s e = cc
second_half n h shorter high (x ∷ y ∷ a ∷ []) small utf8 s e = cc
second_half n h shorter high (x ∷ y ∷ a ∷ b ∷ []) small utf8 s e = cc
second_half n h shorter high (x ∷ y ∷ a ∷ b ∷ c ∷ []) small utf8 s e = cc
second_half n h shorter high (x ∷ y ∷ a ∷ b ∷ c ∷ d ∷ xs) small utf8 s e = elim (choice ((x == 92) && (y == 117)) _ None s e) [
  | inl (test, is) ↦
      let marks = and_parts (x == 92) (y == 117) test in
      let slash : x < 128 = omega (arith, eqb-true x 92 marks.0) in
      let letter : y < 128 = omega (arith, eqb-true y 117 marks.1) in
      let unit = given (code_unit a b c d) _ s is in
      let four = unit_is a b c d unit.0 unit.1 in
      let rest = past_unit a b c d unit.0 xs four (past_byte y (a ∷ b ∷ c ∷ d ∷ xs) letter (past_byte x (y ∷ a ∷ b ∷ c ∷ d ∷ xs) slash utf8)) in
      elim (choice (is_low_surrogate unit.0) (prepend (encode (surrogate_pair h unit.0)) (content plain xs)) None s unit.2) [
        | inl (low, found) ↦ with_char n (surrogate_pair h unit.0) shorter xs (omega arith) rest (IsUtf8-encode (surrogate_pair h unit.0) (scalar_pair h unit.0 high low)) s found
        | inr (low, none) ↦ cc
      ]
  | inr (test, none) ↦ cc
]

of_unit : (n : ℕ) → UpTo n → (xs : List ℕ) → length xs ≤ n → IsUtf8 xs → (s : List ℕ) → content after_u xs ≡ Some s → IsUtf8 s
unfolding content
of_unit n shorter [] small utf8 s e = cc
of_unit n shorter (a ∷ []) small utf8 s e = cc
of_unit n shorter (a ∷ b ∷ []) small utf8 s e = cc
of_unit n shorter (a ∷ b ∷ c ∷ []) small utf8 s e = cc
of_unit n shorter (a ∷ b ∷ c ∷ d ∷ xs) small utf8 s e =
    let unit = given (code_unit a b c d) _ s e in
    let four = unit_is a b c d unit.0 unit.1 in
    let rest = past_unit a b c d unit.0 xs four utf8 in
    elim (choice (is_high_surrogate unit.0) (content (after_high unit.0) xs) (cond (is_low_surrogate unit.0) None (prepend (encode unit.0) (content plain xs))) s unit.2) [
      | inl (high, is) ↦ second_half n unit.0 shorter high xs (omega arith) rest s is
      | inr (high, is) ↦ elim (choice (is_low_surrogate unit.0) None (prepend (encode unit.0) (content plain xs)) s is) [
        | inl (low, none) ↦ cc
        | inr (low, found) ↦ with_char n unit.0 shorter xs (omega arith) rest (IsUtf8-encode unit.0 (scalar_unit unit.0 four.small high low)) s found
      ]
    ]

of_escape : (n : ℕ) → UpTo n → (xs : List ℕ) → length xs ≤ n → IsUtf8 xs → (s : List ℕ) → content after_backslash xs ≡ Some s → IsUtf8 s
unfolding content
of_escape n shorter [] small utf8 s e = cc
of_escape n shorter (x ∷ xs) small utf8 s e = elim (choice (x == 117) (content after_u xs) (option_and_then (λ c. prepend (c ∷ []) (content plain xs)) (short_escape x)) s e) [
  | inl (test, is) ↦ of_unit n shorter xs (omega arith) (past_byte x xs (omega (arith, eqb-true x 117 test)) utf8) s is
  | inr (test, is) ↦
      let short = given (short_escape x) _ s is in
      let low = short_low x short.0 short.1 in
      with_byte n short.0 shorter xs (omega arith) (past_byte x xs low.0 utf8) low.1 s short.2
]

-- bytes that aren't ASCII are copied
content-high : (xs ys : List ℕ) → AreHigh xs → content plain (xs ++ ys) ≡ prepend xs (content plain ys)
unfolding content
content-high [] ys high = sym (prepend_nothing (content plain ys))
  where
    prepend_nothing : (o : Option (List ℕ)) → prepend [] o ≡ o
    prepend_nothing None = refl
    prepend_nothing (Some t) = refl
content-high (x ∷ xs) ys high =
    let big : 128 ≤ x = high 0 (omega arith) in
    let quote : (x == 34) ≡ false = ne_eqb x 34 (λ e. omega arith) in
    let slash : (x == 92) ≡ false = ne_eqb x 92 (λ e. omega arith) in
    rw (quote, slash, le-ltb x 32 (omega arith), content-high xs ys (λ k below. high (suc k) (omega arith)))
    (prepend_both x xs (content plain ys))
  where
    prepend_both : (x : ℕ) (xs : List ℕ) (o : Option (List ℕ)) → prepend (x ∷ []) (prepend xs o) ≡ prepend (x ∷ xs) o
    prepend_both x xs None = refl
    prepend_both x xs (Some t) = refl

of_low : (n x : ℕ) (xs : List ℕ) → UpTo n → length xs ≤ n → IsUtf8 xs → x < 128 → (s : List ℕ) → content plain (x ∷ xs) ≡ Some s → IsUtf8 s
unfolding content
of_low n x xs shorter small utf8 low s e = elim (choice (x == 34) (Some []) _ s e) [
  | inl (test, is) ↦ let none : [] ≡ s = cc in subst IsUtf8 none IsUtf8-nil
  | inr (test, is) ↦ elim (choice (x == 92) (content after_backslash xs) _ s is) [
    | inl (slash, then) ↦ of_escape n shorter xs small utf8 s then
    | inr (slash, then) ↦ elim (choice (nat_lt x 32) None (prepend (x ∷ []) (content plain xs)) s then) [
      | inl (control, none) ↦ cc
      | inr (control, found) ↦ with_byte n x shorter xs small utf8 low s found
    ]
  ]
]

no_string : (s : List ℕ) → content plain [] ≡ Some s → IsUtf8 s
unfolding content
no_string s e = cc

up_to : (n : ℕ) → UpTo n
up_to n [] small utf8 s e = no_string s e
up_to zero (x ∷ xs) small utf8 s e = absurd (omega arith)
up_to (suc n) (x ∷ xs) small utf8 s e = elim (cases_lt x 128) [
  | inl low ↦ of_low n x xs (up_to n) (omega arith) (past_byte x xs low utf8) low s e
  | inr high ↦
      let begins = BeginsHigh-utf8 x xs high utf8 in
      let is = sym (content-high (encode begins.char) begins.later begins.high) ∙ ap (content plain) (sym begins.is) ∙ e in
      with_char n begins.char (up_to n) begins.later (omega (arith, begins.shorter)) begins.utf8 begins.utf8_char s is
]

-- the string that a text goes on with is UTF-8
pub IsUtf8-content : (xs s : List ℕ) → IsUtf8 xs → content plain xs ≡ Some s → IsUtf8 s
IsUtf8-content xs s utf8 e = up_to (length xs) xs (omega arith) utf8 s e
