-- Decimal texts and the numbers that are read from them.
use Rattle.std.proofs.Common.{◌≡◌, ◌≢◌, ℕ, suc, ◌<◌, ◌^◌, ◌==◌, ◌&&◌, Bool, true, false, cond, nat_lt, ℤ, pos, negsuc, List, [], ◌∷◌, get_or, Option, Some, None, Result, Ok, Err, IsUtf8, refl, sym, ap, subst, ◌∙◌, arith}
use Rattle.std.specs.Fmt.{decimal, signed_decimal}
use Rattle.std.specs.Int.{w64}
use Rattle.std.specs.Int.RustNames.{FitsSigned}
use Rattle.std.specs.Str.{bytes_eq}
use Rattle.std.specs.Str.Parse.{AllDigits, digits_value, signed_digits_value, ParsesUnsigned, ParsesSigned}
use Rattle.std.proofs.lemmas.Bool.Decides.{Decides-ltb, nat_tests}
use Rattle.std.proofs.lemmas.Fmt.{decimal_is_IsNumeral, decimal_injective, signed_decimal_injective, parse-decimal, parse-signed_decimal, IsAscii-decimal, IsAscii-signed}
use Rattle.std.proofs.lemmas.Slice.Eq.{bytes_eq-Decides}
use Rattle.std.proofs.lemmas.Str.{IsUtf8-from_ascii}
use Rattle.std.proofs.lemmas.Str.Parse.{digit_from_value, without_leading_plus_none}
use Rattle.pm_snapshot.specs.Decimal.{fits_integer, natural_in, integer_in}

-- ---- a reading that gives just what a text shows

-- what is read from a text is the value that shows so
pub record Spells {A : Type 0} (reads : List ℕ → Option A) (shows : A → List ℕ) (Fits : A → Type 0) : Type 0 where
  pub found : (text : List ℕ) (x : A) → Fits x → text ≡ shows x → reads text ≡ Some x
  pub some : (text : List ℕ) (x : A) → reads text ≡ Some x → Fits x × (text ≡ shows x)
  pub utf8 : (x : A) → Fits x → IsUtf8 (shows x)
  pub apart : (x y : A) → Fits x → Fits y → shows x ≡ shows y → x ≡ y

none_unless : {A : Type 0} (o : Option A) → ((x : A) → o ≡ Some x → ⊥) → o ≡ None
none_unless None h = refl
none_unless (Some x) h = absurd (h x refl)

-- nothing is read from a text that shows no value
pub Spells-none : {A : Type 0} {reads : List ℕ → Option A} {shows : A → List ℕ} {Fits : A → Type 0}
    → Spells reads shows Fits
    → (text : List ℕ) → ((x : A) → Fits x → text ≢ shows x) → reads text ≡ None
Spells-none spells text other = none_unless _ (λ x is. let p = spells.some text x is in other x p.0 p.1)

-- nothing is read from bytes that are no text
pub Spells-bytes : {A : Type 0} {reads : List ℕ → Option A} {shows : A → List ℕ} {Fits : A → Type 0}
    → Spells reads shows Fits
    → (text : List ℕ) → (IsUtf8 text → ⊥) → reads text ≡ None
Spells-bytes spells text broken = Spells-none spells text (λ x fits is. broken (subst IsUtf8 (sym is)
    (spells.utf8 x fits)))

-- ---- numbers without a sign

picked : {A : Type 0} (a b : Bool) (x : A) → a ≡ true → b ≡ true → cond (a && b) (Some x) None ≡ Some x
picked true true x p q = refl
picked true false x p q = cc
picked false b x p q = cc

picks : {A : Type 0} (a b : Bool) (x y : A) → cond (a && b) (Some x) None ≡ Some y → (a ≡ true) × (b ≡ true) × (x ≡ y)
picks true true x y is = (refl, refl, cc)
picks true false x y is = cc
picks false b x y is = cc

same_bytes : (text : List ℕ) → bytes_eq text text ≡ true
same_bytes text = (bytes_eq-Decides text text).1 refl

abbrev pub IsNatural : ℕ → Type 0
IsNatural n = n < 2 ^ 64

natural_found : (text : List ℕ) (n : ℕ) → IsNatural n → text ≡ decimal n → natural_in text ≡ Some n
unfolding natural_in
natural_found text n fits is =
    let value : digits_value 10 text ≡ n = ap (digits_value 10) is ∙ (decimal_is_IsNumeral n fits).1 in
    let shown : bytes_eq (decimal n) text ≡ true = ap (bytes_eq (decimal n)) is ∙ same_bytes (decimal n) in
    ap (λ m. cond (nat_lt m (2 ^ 64) && bytes_eq (decimal m) text) (Some m) None) value
    ∙ picked (nat_lt n (2 ^ 64)) (bytes_eq (decimal n) text) n ((Decides-ltb n (2 ^ 64)).1 fits) shown

natural_some : (text : List ℕ) (n : ℕ) → natural_in text ≡ Some n → IsNatural n × (text ≡ decimal n)
unfolding natural_in
natural_some text n is =
    let v = digits_value 10 text in
    let parts = picks (nat_lt v (2 ^ 64)) (bytes_eq (decimal v) text) v n is in
    let fits : v < 2 ^ 64 = (Decides-ltb v (2 ^ 64)).0 parts.0 in
    let shown : decimal v ≡ text = (bytes_eq-Decides (decimal v) text).0 parts.1 in
    (subst IsNatural parts.2 fits, sym shown ∙ ap decimal parts.2)

pub naturals : Spells natural_in decimal IsNatural
naturals = record {
  found = natural_found;
  some = natural_some;
  utf8 = λ n fits. IsUtf8-from_ascii (decimal n) (IsAscii-decimal n fits);
  apart = decimal_injective;
}

-- ---- numbers with their sign

abbrev pub IsInteger : ℤ → Type 0
IsInteger = FitsSigned w64

fits_integer-Fits : (z : ℤ) → IsInteger z → fits_integer z ≡ true
fits_integer-Fits (pos n) fits = (Decides-ltb n (2 ^ 63)).1 fits.sfits
fits_integer-Fits (negsuc n) fits = (Decides-ltb n (2 ^ 63)).1 fits.sfits

Fits-fits_integer : (z : ℤ) → fits_integer z ≡ true → IsInteger z
Fits-fits_integer (pos n) is = record { sfits = (Decides-ltb n (2 ^ 63)).0 is }
Fits-fits_integer (negsuc n) is = record { sfits = (Decides-ltb n (2 ^ 63)).0 is }

-- a text of digits begins with no sign
no_sign : (ds : List ℕ) → AllDigits 10 ds → (get_or ds 0 0 ≢ 43) × (get_or ds 0 0 ≢ 45)
no_sign [] all = (λ is. omega arith, λ is. omega arith)
no_sign (d ∷ ds) all = let range = digit_from_value d all.0 in (λ is. omega arith, λ is. omega arith)

either : (b : Bool) (y z : ℤ) → b ≡ false → cond b y z ≡ z
either true y z is = cc
either false y z is = refl

signed_value : (z : ℤ) → IsInteger z → signed_digits_value 10 (signed_decimal z) ≡ z
signed_value (pos n) fits =
    let numeral = decimal_is_IsNumeral n (let small = fits.sfits in omega arith) in
    let signs = no_sign (decimal n) numeral.0.1 in
    let unsigned : (get_or (decimal n) 0 0 == 45) ≡ false = (let other = signs.1 in grind (arith, nat_tests)) in
    rw (unsigned, without_leading_plus_none (decimal n) signs.0, numeral.1) refl
signed_value (negsuc n) fits =
    let numeral = decimal_is_IsNumeral (suc n) (let small = fits.sfits in omega arith) in
    rw numeral.1 refl

integer_found : (text : List ℕ) (z : ℤ) → IsInteger z → text ≡ signed_decimal z → integer_in text ≡ Some z
unfolding integer_in
integer_found text z fits is =
    let value : signed_digits_value 10 text ≡ z = ap (signed_digits_value 10) is ∙ signed_value z fits in
    let shown : bytes_eq (signed_decimal z) text ≡ true = ap (bytes_eq (signed_decimal z)) is
    ∙ same_bytes (signed_decimal z) in
    ap (λ y. cond (fits_integer y && bytes_eq (signed_decimal y) text) (Some y) None) value
    ∙ picked (fits_integer z) (bytes_eq (signed_decimal z) text) z (fits_integer-Fits z fits) shown

integer_some : (text : List ℕ) (z : ℤ) → integer_in text ≡ Some z → IsInteger z × (text ≡ signed_decimal z)
unfolding integer_in
integer_some text z is =
    let v = signed_digits_value 10 text in
    let parts = picks (fits_integer v) (bytes_eq (signed_decimal v) text) v z is in
    let fits = Fits-fits_integer v parts.0 in
    let shown : signed_decimal v ≡ text = (bytes_eq-Decides (signed_decimal v) text).0 parts.1 in
    (subst IsInteger parts.2 fits, sym shown ∙ ap signed_decimal parts.2)

pub integers : Spells integer_in signed_decimal IsInteger
integers = record {
  found = integer_found;
  some = integer_some;
  utf8 = λ z fits. IsUtf8-from_ascii (signed_decimal z) (IsAscii-signed z fits.sfits);
  apart = λ y z p q. signed_decimal_injective y z p.sfits q.sfits;
}

-- ---- what `parse` read, and how it shows

-- what `parse` gives of a text is the value that shows so
pub record Parses {A E : Type 0} (shows : A → List ℕ) (Fits : A
    → Type 0) (digits : List ℕ) (parsed : Result A E) : Type 0 where
  pub reads : (x : A) → Fits x → digits ≡ shows x → parsed ≡ Ok x
  pub fits : (x : A) → parsed ≡ Ok x → Fits x

pub Spells-shown : {A E : Type 0} {reads : List ℕ → Option A} {shows : A → List ℕ} {Fits : A → Type 0}
    → Spells reads shows Fits
    → (text digits shown : List ℕ) (parsed : Result A E) (x : A) → Parses shows Fits digits parsed
    → digits ≡ text → parsed ≡ Ok x → shown ≡ shows x → bytes_eq shown digits ≡ true
    → reads text ≡ Some x
Spells-shown spells text digits shown parsed x parses same is shows equal =
    spells.found text x (parses.fits x is) (sym same ∙ sym ((bytes_eq-Decides shown digits).0 equal) ∙ shows)

pub Spells-other : {A E : Type 0} {reads : List ℕ → Option A} {shows : A → List ℕ} {Fits : A → Type 0}
    → Spells reads shows Fits
    → (text digits shown : List ℕ) (parsed : Result A E) (x : A) → Parses shows Fits digits parsed
    → digits ≡ text → parsed ≡ Ok x → shown ≡ shows x → bytes_eq shown digits ≡ false
    → reads text ≡ None
Spells-other {A} {E} {reads} {shows} spells text digits shown parsed x parses same is shows_so unequal =
    Spells-none spells text (λ y fits shown_so.
    let read : parsed ≡ Ok y = parses.reads y fits (same ∙ shown_so) in
    let one : x ≡ y = cc in
    let equal : bytes_eq shown digits ≡ true = (bytes_eq-Decides shown digits).1 (shows_so ∙ ap shows one
    ∙ sym (same ∙ shown_so)) in
    cc)

pub Spells-unparsed : {A E : Type 0} {reads : List ℕ → Option A} {shows : A → List ℕ} {Fits : A → Type 0}
    → Spells reads shows Fits
    → (text digits : List ℕ) (parsed : Result A E) (e : E) → Parses shows Fits digits parsed → digits ≡ text
    → parsed ≡ Err e
    → reads text ≡ None
Spells-unparsed spells text digits parsed e parses same is =
    Spells-none spells text (λ y fits shown. let read = parses.reads y fits (same ∙ shown) in cc)

ok_natural : {E : Type 0} (digits : List ℕ) (parsed : Result ℕ E) (n : ℕ) → ParsesUnsigned 64 10 digits parsed
    → parsed ≡ Ok n → IsNatural n
ok_natural digits (Ok m) n parses is = let same : m ≡ n = cc in subst IsNatural (sym parses.1 ∙ same) parses.0.1
ok_natural digits (Err e) n parses is = cc

pub parses_natural : {E : Type 0} (digits : List ℕ) (parsed : Result ℕ E) → ParsesUnsigned 64 10 digits parsed
    → Parses decimal IsNatural digits parsed
parses_natural digits parsed parses = record {
  reads = λ n fits is. parse-decimal 64 n digits parsed fits fits is parses;
  fits = λ n. ok_natural digits parsed n parses;
}

ok_integer : {E : Type 0} (digits : List ℕ) (parsed : Result ℤ E) (z : ℤ) → ParsesSigned w64 10 digits parsed
    → parsed ≡ Ok z → IsInteger z
ok_integer digits (Ok y) z parses is = let same : y ≡ z = cc in subst IsInteger (sym parses.1 ∙ same) parses.0.1
ok_integer digits (Err e) z parses is = cc

pub parses_integer : {E : Type 0} (digits : List ℕ) (parsed : Result ℤ E) → ParsesSigned w64 10 digits parsed
    → Parses signed_decimal IsInteger digits parsed
parses_integer digits parsed parses = record {
  reads = λ z fits is. parse-signed_decimal w64 z digits parsed fits fits.sfits is parses;
  fits = λ z. ok_integer digits parsed z parses;
}
