-- The hash of a number, by its bytes and by its words.
use Rattle.std.proofs.Common.{◌≡◌, ℕ, ℤ, ◌/◌, ◌%◌, ◌^◌, List, [], ◌∷◌, take, drop, map, length, arith, refl, ap, sym}
use Rattle.std.proofs.Common.{◌∙◌}
use Rattle.std.proofs.lemmas.Nat.{from_le_bytes-to_le_bytes_4}
use Rattle.std.proofs.lemmas.Simd.{map-map, zip2_of_maps, zip2_splat}
use Rattle.std.specs.Int.{w32, w64, cast_signed, cast_unsigned, from_le_bytes, to_le_bytes}
use Rattle.std.specs.Simd.Lanes.{zip2}
use Rattle.pm_binrow.specs.Hashing.{hash_of, words}
use Rattle.pm_binrow.specs.Row.{octet, octets, slot, slots, tail}
use Rattle.pm_lanes.specs.Longs.{long_hash, words_hash}

-- the body of the row: eight null bytes, and the number's own
pub by_bytes : (n : ℤ) → long_hash n ≡ hash_of (0 ∷ 0 ∷ 0 ∷ 0 ∷ 0 ∷ 0 ∷ 0 ∷ 0 ∷ to_le_bytes w64 (cast_unsigned w64 n))
unfolding long_hash octet octets slot slots tail
by_bytes n = refl

low_word : (x : ℕ) → from_le_bytes w32 (take 4 (to_le_bytes w64 x)) ≡ x % 2 ^ 32
low_word x =
    let b0 : x % 256 ≡ x % 2 ^ 32 % 256 = omega arith in
    let b1 : x / 256 % 256 ≡ x % 2 ^ 32 / 256 % 256 = omega arith in
    let b2 : x / 65536 % 256 ≡ x % 2 ^ 32 / 65536 % 256 = omega arith in
    let b3 : x / 16777216 % 256 ≡ x % 2 ^ 32 / 16777216 % 256 = omega arith in
    let same : take 4 (to_le_bytes w64 x) ≡ to_le_bytes w32 (x % 2 ^ 32) = rw (b0, b1, b2, b3) refl in
    ap (from_le_bytes w32) same ∙ from_le_bytes-to_le_bytes_4 (x % 2 ^ 32) (omega arith)

high_word : (x : ℕ) → from_le_bytes w32 (drop 4 (to_le_bytes w64 x)) ≡ x / 2 ^ 32 % 2 ^ 32
high_word x =
    let b0 : x / 4294967296 % 256 ≡ x / 2 ^ 32 % 256 = refl in
    let b1 : x / 1099511627776 % 256 ≡ x / 2 ^ 32 / 256 % 256 = omega arith in
    let b2 : x / 281474976710656 % 256 ≡ x / 2 ^ 32 / 65536 % 256 = omega arith in
    let b3 : x / 72057594037927936 % 256 ≡ x / 2 ^ 32 / 16777216 % 256 = omega arith in
    let same : drop 4 (to_le_bytes w64 x) ≡ take 4 (to_le_bytes w64 (x / 2 ^ 32)) = rw (b1, b2, b3) refl in
    ap (from_le_bytes w32) same ∙ low_word (x / 2 ^ 32)

words_are : (x : ℕ) → words (0 ∷ 0 ∷ 0 ∷ 0 ∷ 0 ∷ 0 ∷ 0 ∷ 0 ∷ to_le_bytes w64 x)
    ≡ 0 ∷ 0 ∷ x % 2 ^ 32 ∷ x / 2 ^ 32 % 2 ^ 32 ∷ []
unfolding words
words_are x =
    ap (λ (w : ℕ). 0 ∷ 0 ∷ w ∷ from_le_bytes w32 (drop 4 (to_le_bytes w64 x)) ∷ []) (low_word x)
    ∙ ap (λ (w : ℕ). 0 ∷ 0 ∷ x % 2 ^ 32 ∷ w ∷ []) (high_word x)

by_words : (n : ℤ) → long_hash n
    ≡ cast_signed w32 (words_hash (cast_unsigned w64 n % 2 ^ 32) (cast_unsigned w64 n / 2 ^ 32 % 2 ^ 32))
unfolding hash_of words_hash
by_words n = by_bytes n ∙ rw (words_are (cast_unsigned w64 n)) refl

map_same : {X Y : Type 0} (f g : X → Y) → ((x : X) → f x ≡ g x) → (xs : List X) → map f xs ≡ map g xs
map_same f g same [] = refl
map_same f g same (x ∷ xs) = let e = same x in let h = map_same f g same xs in cc

-- the higher words, on eight lanes
abbrev higher_words : List ℕ → List ℕ
higher_words bits = zip2 (λ x n. x / 2 ^ n) bits (32 ∷ 32 ∷ 32 ∷ 32 ∷ 32 ∷ 32 ∷ 32 ∷ 32 ∷ [])

-- the hashes of numbers by the lanes of their words
pub hashed : (values : List ℤ) (bits low high hashes : List ℕ) → length bits ≡ 8 → bits ≡ map (cast_unsigned w64) values
    → low ≡ map (λ x. x % 2 ^ 32) bits → high ≡ map (λ x. x % 2 ^ 32) (higher_words bits)
    → hashes ≡ zip2 words_hash low high → map (cast_signed w32) hashes ≡ map long_hash values
hashed values bits low high hashes many are lower higher hash =
    let x = λ (n : ℤ). cast_unsigned w64 n in
    let l = λ (n : ℤ). cast_unsigned w64 n % 2 ^ 32 in
    let h = λ (n : ℤ). cast_unsigned w64 n / 2 ^ 32 % 2 ^ 32 in
    let cut = λ (b : ℕ). b % 2 ^ 32 in
    let shift = λ (b : ℕ). b / 2 ^ 32 in
    let lows : low ≡ map l values = lower ∙ ap (map cut) are ∙ map-map cut x values in
    let shifted : higher_words bits ≡ map shift bits = zip2_splat (λ (b n : ℕ). b / 2 ^ n) bits 8 32 many in
    let highs : high ≡ map h values =
    higher ∙ ap (map cut) (shifted ∙ ap (map shift) are ∙ map-map shift x values)
    ∙ map-map cut (λ (n : ℤ). cast_unsigned w64 n / 2 ^ 32) values in
    ap (map (cast_signed w32)) (hash ∙ zip2_of_maps words_hash l h values lows highs)
    ∙ map-map (cast_signed w32) (λ (n : ℤ). words_hash (l n) (h n)) values
    ∙ sym (map_same long_hash (λ (n : ℤ). cast_signed w32 (words_hash (l n) (h n))) by_words values)
