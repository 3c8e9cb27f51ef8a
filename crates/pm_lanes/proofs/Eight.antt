-- Operations on eight lanes.
use Rattle.std.proofs.Common.{◌≡◌, ℕ, ◌*◌, ◌+◌, ◌/◌, ◌%◌, ◌^◌, List, [], ◌∷◌, length, map, replicate, arith, refl}
use Rattle.std.proofs.Common.{subst}
use Rattle.std.proofs.Common.{bit_and, bit_or, bit_xor, Fits, w32}
use Rattle.std.proofs.lemmas.Nat.{and_mask}
use Rattle.std.specs.Simd.Lanes.{Each1, zip2}
use Rattle.pm_binrow.specs.Hashing.{finished, mixed, scrambled}
use Rattle.pm_lanes.specs.Longs.{words_hash}

-- what holds of each list of eight
eight : {X : Type 0} (P : List X → Type 0) → ((a b c d e f g h : X) → P (a ∷ b ∷ c ∷ d ∷ e ∷ f ∷ g ∷ h ∷ []))
    → (xs : List X) → length xs ≡ 8 → P xs
eight P all (a ∷ b ∷ c ∷ d ∷ e ∷ f ∷ g ∷ h ∷ []) is = all a b c d e f g h
eight P all [] is = absurd (omega arith)
eight P all (a ∷ []) is = absurd (omega arith)
eight P all (a ∷ b ∷ []) is = absurd (omega arith)
eight P all (a ∷ b ∷ c ∷ []) is = absurd (omega arith)
eight P all (a ∷ b ∷ c ∷ d ∷ []) is = absurd (omega arith)
eight P all (a ∷ b ∷ c ∷ d ∷ e ∷ []) is = absurd (omega arith)
eight P all (a ∷ b ∷ c ∷ d ∷ e ∷ f ∷ []) is = absurd (omega arith)
eight P all (a ∷ b ∷ c ∷ d ∷ e ∷ f ∷ g ∷ []) is = absurd (omega arith)
eight P all (a ∷ b ∷ c ∷ d ∷ e ∷ f ∷ g ∷ h ∷ i ∷ xs) is = absurd (omega arith)

-- what holds of each two lists of eight
eights : (P : List ℕ → List ℕ → Type 0)
    → ((a b c d e f g h i j k l m n o p : ℕ)
    → P (a ∷ b ∷ c ∷ d ∷ e ∷ f ∷ g ∷ h ∷ []) (i ∷ j ∷ k ∷ l ∷ m ∷ n ∷ o ∷ p ∷ []))
    → (xs ys : List ℕ) → length xs ≡ 8 → length ys ≡ 8 → P xs ys
eights P all xs ys is also =
    eight (λ xs. (ys : List ℕ) → length ys ≡ 8 → P xs ys)
    (λ a b c d e f g h. eight (P (a ∷ b ∷ c ∷ d ∷ e ∷ f ∷ g ∷ h ∷ [])) (all a b c d e f g h)) xs is ys also

-- the same number in each lane
abbrev in_each : ℕ → List ℕ
in_each = replicate 8

-- lanes, turned to the left by so many bits
abbrev turned : ℕ → ℕ → List ℕ → List ℕ
turned left right xs =
    zip2 bit_or (zip2 (λ x n. x * 2 ^ n % 2 ^ 32) xs (in_each left)) (zip2 (λ x n. x / 2 ^ n) xs (in_each right))

abbrev products : List ℕ → ℕ → List ℕ
products xs factor = zip2 (λ x y. x * y % 2 ^ 32) xs (in_each factor)

abbrev sums : List ℕ → ℕ → List ℕ
sums xs more = zip2 (λ x y. (x + y) % 2 ^ 32) xs (in_each more)

abbrev folds : ℕ → List ℕ → List ℕ
folds bits xs = zip2 bit_xor xs (zip2 (λ x n. x / 2 ^ n) xs (in_each bits))

pub scrambled_lanes : (word : List ℕ) → length word ≡ 8
    → products (turned 15 17 (products word 0xcc9e2d51)) 0x1b873593 ≡ map scrambled word
unfolding scrambled
scrambled_lanes =
    eight (λ word. products (turned 15 17 (products word 0xcc9e2d51)) 0x1b873593 ≡ map scrambled word)
    (λ a b c d e f g h. refl)

pub mixed_lanes : (hash word : List ℕ) → length hash ≡ 8 → length word ≡ 8
    → sums (products (turned 13 19 (zip2 bit_xor hash (map scrambled word))) 5) 0xe6546b64 ≡ zip2 mixed hash word
unfolding mixed
mixed_lanes =
    eights
    (λ hash word. sums (products (turned 13 19 (zip2 bit_xor hash (map scrambled word))) 5) 0xe6546b64
    ≡ zip2 mixed hash word)
    (λ a b c d e f g h i j k l m n o p. refl)

pub finished_lanes : (hash : List ℕ) → length hash ≡ 8
    → folds 16 (products (folds 13 (products (folds 16 hash) 0x85ebca6b)) 0xc2b2ae35) ≡ map finished hash
unfolding finished
finished_lanes =
    eight (λ hash. folds 16 (products (folds 13 (products (folds 16 hash) 0x85ebca6b)) 0xc2b2ae35) ≡ map finished hash)
    (λ a b c d e f g h. refl)

-- the two words of null bytes of each key
after_null_bytes : mixed (mixed 42 0) 0 ≡ 0x11737b65
unfolding scrambled mixed
after_null_bytes = refl

-- the hashes after both words of each, where this is the hash before them
abbrev after_words : ℕ → List ℕ → List ℕ → List ℕ
after_words before low high =
    map finished (zip2 bit_xor (zip2 mixed (zip2 mixed (in_each before) low) high) (in_each 16))

pub hash_lanes : (low high : List ℕ) → length low ≡ 8 → length high ≡ 8
    → after_words 0x11737b65 low high ≡ zip2 words_hash low high
unfolding words_hash
hash_lanes low high is also =
    subst (λ (n : ℕ). after_words n low high ≡ zip2 words_hash low high) after_null_bytes
    (eights (λ low high. after_words (mixed (mixed 42 0) 0) low high ≡ zip2 words_hash low high)
    (λ a b c d e f g h i j k l m n o p. refl) low high is also)

-- ---- the lower words

masked : (n : ℕ) → bit_and n 0xffffffff ≡ n % 2 ^ 32
masked n = and_mask n 32

masked_fits : (n : ℕ) → Fits w32 (bit_and n 0xffffffff)
masked_fits n = let e = masked n in record { fits = rw e (omega arith) }

pub low_fits : (bits : List ℕ) → length bits ≡ 8 → Each1 (Fits w32) (zip2 bit_and bits (in_each 0xffffffff))
low_fits =
    eight (λ bits. Each1 (Fits w32) (zip2 bit_and bits (in_each 0xffffffff)))
    (λ a b c d e f g h. (
      masked_fits a,
      (
        masked_fits b,
        (
          masked_fits c,
          (
            masked_fits d,
            (masked_fits e, (masked_fits f, (masked_fits g, (masked_fits h, tt)))),
          ),
        ),
      ),
    ))

pub low_lanes : (bits : List ℕ) → length bits ≡ 8 → zip2 bit_and bits (in_each 0xffffffff) ≡ map (λ x. x % 2 ^ 32) bits
low_lanes =
    eight (λ bits. zip2 bit_and bits (in_each 0xffffffff) ≡ map (λ x. x % 2 ^ 32) bits)
    (λ a b c d e f g h. rw (masked a, masked b, masked c, masked d, masked e, masked f, masked g, masked h) refl)
