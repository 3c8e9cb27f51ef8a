-- The parts of a name can be known from each other.
use Rattle.std.proofs.Common.{◌≡◌, ◌≢◌, true≢false, ℕ, ◌<◌, ◌^◌, List, [], ◌∷◌, ◌++◌, All, length, take, drop, get_or, true, false, Option, Some, unwrap_or, inl, arith, refl, sym, ap, ◌∙◌, append_assoc}
use Rattle.std.specs.Fmt.{decimal}
use Rattle.std.specs.Char.{digit_value}
use Rattle.std.specs.Str.Parse.{AllDigits}
use Rattle.std.proofs.lemmas.Bool.Decides.{nat_tests}
use Rattle.std.proofs.lemmas.Fmt.{decimal_is_IsNumeral, decimal_injective}
use Rattle.std.proofs.lemmas.List.{append_cancel_left, append_cancel_right, get_or_append_left, take_at, drop_at}
use Rattle.std.proofs.lemmas.Str.Parse.{digit_from_value}
use Rattle.uuid.specs.Text.{hyphenated_text, hyphen, lower, is_hex_digit, hex_digit, nibble, parsed}
use Rattle.uuid.proofs.RoundTrips.{parses_hyphenated}
use Rattle.uuid.proofs.TextLemmas.{by_index_length, by_index_at, nibble_small}
use Rattle.pm_values.specs.Names.{Naming, IsNaming, name_of}

-- a hyphen is no digit
hyphen-digit : (x : ℕ) → digit_value x < 10 → x ≢ hyphen
hyphen-digit x d e = omega (arith, digit_from_value x d)

-- digits end where a hyphen stands
digits-hyphen : (xs ys r s : List ℕ) → AllDigits 10 xs → AllDigits 10 ys → xs ++ hyphen ∷ r ≡ ys ++ hyphen ∷ s → (xs ≡ ys) × (r ≡ s)
digits-hyphen [] [] r s d f e = (refl, ap (drop 1) e)
digits-hyphen [] (y ∷ ys) r s d f e = absurd (hyphen-digit y f.0 (sym (ap (λ (l : List ℕ). get_or l 0 0) e)))
digits-hyphen (x ∷ xs) [] r s d f e = absurd (hyphen-digit x d.0 (ap (λ (l : List ℕ). get_or l 0 0) e))
digits-hyphen (x ∷ xs) (y ∷ ys) r s d f e =
    let more = digits-hyphen xs ys r s d.1 f.1 (ap (drop 1) e) in
    let first : x ≡ y = ap (λ (l : List ℕ). get_or l 0 0) e in
    (λ i. first i ∷ more.0 i, more.1)

-- a number and what stands after its hyphen
decimal-hyphen : (m n : ℕ) (r s : List ℕ) → m < 2 ^ 64 → n < 2 ^ 64 → decimal m ++ hyphen ∷ r ≡ decimal n ++ hyphen ∷ s → (m ≡ n) × (r ≡ s)
decimal-hyphen m n r s p q e =
    let both = digits-hyphen (decimal m) (decimal n) r s (decimal_is_IsNumeral m p).0.1 (decimal_is_IsNumeral n q).0.1 e in
    (decimal_injective m n p q both.0, both.1)

-- an identifier and what stands after it
identifier-rest : (a b r s : List ℕ) → length a ≡ 16 → length b ≡ 16 → All (λ x. x < 256) a → All (λ x. x < 256) b
    → hyphenated_text lower a ++ r ≡ hyphenated_text lower b ++ s → (a ≡ b) × (r ≡ s)
identifier-rest a b r s la lb ba bb e =
    let ta = hyphenated_text lower a in
    let tb = hyphenated_text lower b in
    let long_a : length ta ≡ 36 = by_index_length 36 _ in
    let long_b : length tb ≡ 36 = by_index_length 36 _ in
    let text : ta ≡ tb = sym (take_at ta r 36 long_a) ∙ ap (take 36) e ∙ take_at tb s 36 long_b in
    let read : Some a ≡ Some b = parses_hyphenated lower a (inl refl) la ba ∙ ap parsed text ∙ sym (parses_hyphenated lower b (inl refl) lb bb) in
    (ap (λ (o : Option (List ℕ)). unwrap_or o []) read, sym (drop_at ta r 36 long_a) ∙ ap (drop 36) e ∙ drop_at tb s 36 long_b)

pub name_of-injective : (prefix suffix : List ℕ) (m n : Naming) → IsNaming m → IsNaming n → name_of prefix suffix m ≡ name_of prefix suffix n → m ≡ n
name_of-injective prefix suffix m n p q e =
    let session = identifier-rest m.session n.session _ _ p.sixteen q.sixteen p.bytes q.bytes (append_cancel_left prefix _ _ e) in
    let actor = decimal-hyphen m.actor n.actor _ _ p.actor_bits q.actor_bits (ap (drop 1) session.1) in
    let base = decimal-hyphen m.base n.base _ _ p.base_bits q.base_bits actor.1 in
    let count = decimal_injective m.count n.count p.count_bits q.count_bits (append_cancel_right (decimal m.count) (decimal n.count) suffix base.1) in
    λ i. record { session = session.0 i; actor = actor.0 i; base = base.0 i; count = count i }

-- a digit of an identifier is one
hex_digit-is : (d : ℕ) → d < 16 → is_hex_digit (hex_digit lower d) ≡ true
hex_digit-is d small = grind (arith, nat_tests)

-- the first byte of an identifier is a digit
first-digit : (a r : List ℕ) → is_hex_digit (get_or (hyphenated_text lower a ++ r) 0 0) ≡ true
first-digit a r =
    let long : length (hyphenated_text lower a) ≡ 36 = by_index_length 36 _ in
    let begins : get_or (hyphenated_text lower a ++ r) 0 0 ≡ get_or (hyphenated_text lower a) 0 0 = get_or_append_left (hyphenated_text lower a) r 0 0 (rw long (omega arith)) in
    let first : get_or (hyphenated_text lower a) 0 0 ≡ hex_digit lower (nibble a 0) = by_index_at 36 _ 0 0 (omega arith) in
    ap is_hex_digit (begins ∙ first) ∙ hex_digit-is (nibble a 0) (nibble_small a 0)

pub name_of-longer : (prefix more s t : List ℕ) (b : ℕ) (m n : Naming) → is_hex_digit b ≡ false → name_of prefix s m ≢ name_of (prefix ++ b ∷ more) t n
name_of-longer prefix more s t b m n other e =
    let after = append_cancel_left prefix _ _ (e ∙ append_assoc prefix (b ∷ more) _) in
    true≢false (sym (first-digit m.session _) ∙ ap (λ (l : List ℕ). is_hex_digit (get_or l 0 0)) after ∙ other)
