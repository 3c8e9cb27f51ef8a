-- The digits of bytes, both ways, against the words of the crate `hex`.
use Rattle.std.proofs.Common.{◌≡◌, ℕ, zero, suc, ◌+◌, ◌*◌, ◌/◌, ◌%◌, ◌<◌, ◌==◌, ◌&&◌, inl, inr, Bool, true, false, List, [], ◌∷◌, length, Option, Some, None, Result, Ok, Err, refl, sym, ap, ◌∙◌, arith, if◌then◌else◌, nat_lt}
use Rattle.std.proofs.lemmas.Bool.{and_parts, cases_lt, eqb-true}
use Rattle.std.proofs.lemmas.Bool.Decides.{nat_tests}
use Rattle.std.proofs.lemmas.List.{get_or_past}
use Rattle.std.proofs.lemmas.Str.{IsUtf8-from_ascii}
use Rattle.std.specs.Char.{is_ascii_uppercase}
use Rattle.std.specs.List.{AllByRecursion}
use Rattle.std.specs.Result.{result_ok}
use Rattle.std.specs.Str.{IsAscii, IsUtf8}
use Rattle.hex.specs.Hex.{IsBytes, decode_of, decode_pairs, digit_or_error, encode_lower, encode_with, hex_digit_value, lower_digits}
use Rattle.hex.specs.Hex as words
use Rattle.hex.specs.declared.error.FromHexError.{FromHexError}
use Rattle.hex.proofs.HexLemmas.{IsAscii-encode_with, decode_of-encode_lower, decode_of-even, decode_pairs-ok, length-encode_with}
use Rattle.pm_value_text.specs.Hexadecimal.{IsLowerDigit, bytes_in, digit_in, digit_of, hex_text}
use Rattle.pm_value_text.specs.Steps.{◌>>=◌}

-- ---- reading

-- a digit has the value that the crate gives it
digit_in-hex : (c : ℕ) → digit_in c ≡ hex_digit_value c
digit_in-hex c = grind (arith, nat_tests)

-- two digits and the bytes after them, in our words and in the crate's
pair_same : (high low : Option ℕ) (bytes : Option (List ℕ)) (r : Result (List ℕ) FromHexError) (a b i : ℕ)
    → bytes ≡ result_ok r
    → (high >>= (λ h. low >>= (λ l. bytes >>= (λ rest. Some ((h * 16 + l) ∷ rest)))))
    ≡ result_ok (words.◌>>=◌ (words.◌>>=◌ (digit_or_error a i high) (λ h. words.◌>>=◌ (digit_or_error b (i + 1) low) (λ l. Ok (h * 16 + l)))) (λ byte. words.◌>>=◌ r (λ rest. Ok (byte ∷ rest))))
pair_same None low bytes r a b i e = refl
pair_same (Some h) None bytes r a b i e = refl
pair_same (Some h) (Some l) bytes (Ok rest) a b i e = rw e refl
pair_same (Some h) (Some l) bytes (Err error) a b i e = rw e refl

-- pairs of digits read as the crate reads them
bytes_in-pairs : (i : ℕ) (text : List ℕ) → bytes_in text ≡ result_ok (decode_pairs i text)
unfolding bytes_in decode_pairs
bytes_in-pairs i [] = refl
bytes_in-pairs i (c ∷ []) = refl
bytes_in-pairs i (a ∷ b ∷ text) =
    rw (digit_in-hex a, digit_in-hex b)
    (pair_same (hex_digit_value a) (hex_digit_value b) (bytes_in text) (decode_pairs (i + 2) text) a b i (bytes_in-pairs (i + 2) text))

-- digits with nothing read after them
none_after : (high low : Option ℕ)
    → (nothing : Option (List ℕ)) → nothing ≡ None
    → (high >>= (λ h. low >>= (λ l. nothing >>= (λ rest. Some ((h * 16 + l) ∷ rest))))) ≡ None
none_after None low nothing e = refl
none_after (Some h) None nothing e = refl
none_after (Some h) (Some l) nothing e = rw e refl

-- an odd number of characters reads as no bytes
bytes_in-odd : (text : List ℕ) → length text % 2 ≡ 1 → bytes_in text ≡ None
unfolding bytes_in
bytes_in-odd [] odd = absurd (omega arith)
bytes_in-odd (c ∷ []) odd = refl
bytes_in-odd (a ∷ b ∷ text) odd = none_after (digit_in a) (digit_in b) (bytes_in text) (bytes_in-odd text (omega arith))

-- a text reads as the crate decodes it
pub bytes_in-decode_of : (text : List ℕ) → bytes_in text ≡ result_ok (decode_of text)
bytes_in-decode_of text =
    elim (cases_lt (length text % 2) 1) [
      | inl even ↦ bytes_in-pairs 0 text ∙ ap result_ok (sym (decode_of-even text (omega arith)))
      | inr odd ↦
          let e : length text % 2 ≡ 1 = omega arith in
          bytes_in-odd text e ∙ rw e refl
    ]

-- ---- printing

-- the crate's text of bytes is ours
pub encode_lower-hex_text : (bytes : List ℕ) → encode_lower bytes ≡ hex_text bytes
unfolding hex_text encode_with
encode_lower-hex_text [] = refl
encode_lower-hex_text (b ∷ bytes) = ap (λ (text : List ℕ). digit_of (b / 16) ∷ digit_of (b % 16) ∷ text) (encode_lower-hex_text bytes)

pub length-hex_text : (bytes : List ℕ) → length (hex_text bytes) ≡ 2 * length bytes
length-hex_text bytes = rw (← encode_lower-hex_text bytes) (length-encode_with lower_digits bytes)

-- what a test of all sixteen digits shows of one
all_below : (ℕ → Bool) → ℕ → Bool
all_below test zero = true
all_below test (suc n) = test n && all_below test n

below-all : (test : ℕ → Bool) (n k : ℕ) → all_below test n ≡ true → k < n → test k ≡ true
unfolding all_below
below-all test zero k all below = absurd (omega arith)
below-all test (suc n) k all below =
    let parts = and_parts (test n) (all_below test n) all in
    elim (cases_lt k n) [
      | inl less ↦ below-all test n k parts.1 less
      | inr top ↦ let e : k ≡ n = omega arith in rw e parts.0
    ]

-- the digit of a number, as a number itself
digit_of-is : (n : ℕ) → n < 16 → digit_of n ≡ (if nat_lt n 10 then 48 + n else 87 + n)
unfolding all_below
digit_of-is n below =
    eqb-true _ _ (below-all (λ k. digit_of k == (if nat_lt k 10 then 48 + k else 87 + k)) 16 n refl below)

IsLowerDigit-digit_of : (n : ℕ) → n < 16 → IsLowerDigit (digit_of n)
IsLowerDigit-digit_of n below = rw (digit_of-is n below) (elim (cases_lt n 10) [
  | inl small ↦ inl (grind (arith, nat_tests))
  | inr large ↦ inr (grind (arith, nat_tests))
])

pub hex_text-digits : (bytes : List ℕ) → AllByRecursion (λ b. b < 256) bytes → AllByRecursion IsLowerDigit (hex_text bytes)
unfolding hex_text
hex_text-digits [] all = tt
hex_text-digits (b ∷ bytes) all =
    let here : b < 256 = all.0 in
    (IsLowerDigit-digit_of (b / 16) (omega arith), (IsLowerDigit-digit_of (b % 16) (omega arith), hex_text-digits bytes all.1))

-- each character of the table is ASCII, and so is what stands past its end
IsAscii-digits : IsAscii lower_digits
IsAscii-digits i = elim (cases_lt i 16) [
  | inl below ↦ rw (digit_of-is i below) (grind (arith, nat_tests))
  | inr past ↦ rw (get_or_past lower_digits i 0 past) (omega arith)
]

pub IsUtf8-hex_text : (bytes : List ℕ) → IsUtf8 (hex_text bytes)
IsUtf8-hex_text bytes =
    IsUtf8-from_ascii (hex_text bytes) (rw (← encode_lower-hex_text bytes) (IsAscii-encode_with lower_digits bytes IsAscii-digits))

-- ---- both

-- bytes as the crate says it, and as a row does
IsBytes-all : (bytes : List ℕ) → AllByRecursion (λ b. b < 256) bytes → IsBytes bytes
IsBytes-all [] all i = omega arith
IsBytes-all (b ∷ bytes) all zero = all.0
IsBytes-all (b ∷ bytes) all (suc i) = IsBytes-all bytes all.1 i

all-IsBytes : (bytes : List ℕ) → IsBytes bytes → AllByRecursion (λ b. b < 256) bytes
all-IsBytes [] small = tt
all-IsBytes (b ∷ bytes) small = (small 0, all-IsBytes bytes (λ i. small (suc i)))

-- bytes are read again from their text
pub bytes_in-hex_text : (bytes : List ℕ) → AllByRecursion (λ b. b < 256) bytes → bytes_in (hex_text bytes) ≡ Some bytes
bytes_in-hex_text bytes all =
    bytes_in-decode_of (hex_text bytes)
    ∙ ap (λ (text : List ℕ). result_ok (decode_of text)) (sym (encode_lower-hex_text bytes))
    ∙ ap result_ok (decode_of-encode_lower bytes (IsBytes-all bytes all))

-- what a result that has a value shows
ok-is : (r : Result (List ℕ) FromHexError) (bytes : List ℕ) → result_ok r ≡ Some bytes → r ≡ Ok bytes
ok-is (Ok x) bytes e = cc
ok-is (Err x) bytes e = cc

-- what reads has two digits for each byte
pub bytes_in-some : (text bytes : List ℕ) → bytes_in text ≡ Some bytes
    → (length text ≡ 2 * length bytes) × AllByRecursion (λ b. b < 256) bytes
bytes_in-some text bytes e =
    let facts = decode_pairs-ok 0 text bytes (ok-is (decode_pairs 0 text) bytes (sym (bytes_in-pairs 0 text) ∙ e)) in
    (facts.1, all-IsBytes bytes facts.2)

-- a digit that isn't in upper case is that of its value
digit_of-digit_in : (c v : ℕ) → digit_in c ≡ Some v → is_ascii_uppercase c ≡ false → (v < 16) × (digit_of v ≡ c)
digit_of-digit_in c v e lower =
    let parts : (v < 16) × ((if nat_lt v 10 then 48 + v else 87 + v) ≡ c) = grind (arith, nat_tests) in
    (parts.0, digit_of-is v parts.0 ∙ parts.1)

-- the parts of bytes that were read
first_read : (high low : Option ℕ) (rest : Option (List ℕ)) (bytes : List ℕ)
    → (high >>= (λ h. low >>= (λ l. rest >>= (λ more. Some ((h * 16 + l) ∷ more))))) ≡ Some bytes
    → (h l : ℕ) × (more : List ℕ) × (high ≡ Some h) × (low ≡ Some l) × (rest ≡ Some more) × (bytes ≡ (h * 16 + l) ∷ more)
first_read None low rest bytes e = cc
first_read (Some h) None rest bytes e = cc
first_read (Some h) (Some l) None bytes e = cc
first_read (Some h) (Some l) (Some more) bytes e = (h, l, more, refl, refl, refl, cc)

-- a text without upper case is the only one of its bytes
pub text-bytes_in : (text bytes : List ℕ) → bytes_in text ≡ Some bytes
    → AllByRecursion (λ c. is_ascii_uppercase c ≡ false) text → text ≡ hex_text bytes
unfolding bytes_in hex_text
text-bytes_in [] bytes e lower = let same : [] ≡ bytes = cc in rw (← same) refl
text-bytes_in (c ∷ []) bytes e lower = cc
text-bytes_in (a ∷ b ∷ text) bytes e lower =
    let read = first_read (digit_in a) (digit_in b) (bytes_in text) bytes e in
    let high = digit_of-digit_in a read.0 read.3 lower.0 in
    let low = digit_of-digit_in b read.1 read.4 lower.1.0 in
    let whole : (read.0 * 16 + read.1) / 16 ≡ read.0 = omega arith in
    let rest : (read.0 * 16 + read.1) % 16 ≡ read.1 = omega arith in
    rw (read.6, whole, rest, high.1, low.1) (ap (λ (more : List ℕ). a ∷ b ∷ more) (text-bytes_in text read.2 read.5 lower.1.1))

-- what the text of a call is, for the search
pub ruleset digits = (encode_lower-hex_text)
