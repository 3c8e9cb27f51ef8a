-- The hash of a body, and the bucket of a hash. Numbers are modulo 2^32.
use Rattle.std.specs.Prelude.{ℕ, ◌+◌, ◌*◌, ◌/◌, ◌%◌, ◌^◌, ℤ, pos, unsigned_abs, bit_xor}
use Rattle.std.specs.Prelude.{List, [], ◌∷◌, length, int_rem}
use Rattle.std.specs.Int.{w32, cast_signed, from_le_bytes, rotate_left}
use Rattle.std.specs.List.{fold}

abbrev pub sum_of : ℕ → ℕ → ℕ
sum_of a b = (a + b) % 2 ^ 32

abbrev pub product_of : ℕ → ℕ → ℕ
product_of a b = (a * b) % 2 ^ 32

-- words of four bytes, lowest first
unfoldable pub words : List ℕ → List ℕ
words (a ∷ b ∷ c ∷ d ∷ bytes) = from_le_bytes w32 (a ∷ b ∷ c ∷ d ∷ []) ∷ words bytes
words bytes = []

-- a word, before it is taken in
unfoldable pub scrambled : ℕ → ℕ
scrambled w = product_of (rotate_left w32 (product_of w 0xcc9e2d51) 15) 0x1b873593

-- the hash after one more word
unfoldable pub mixed : ℕ → ℕ → ℕ
mixed h w = sum_of (product_of (rotate_left w32 (bit_xor h (scrambled w)) 13) 5) 0xe6546b64

-- a number, with the bits above so many taken into the lower ones
abbrev pub folded : ℕ → ℕ → ℕ
folded bits h = bit_xor h (h / 2 ^ bits)

-- the hash after the last word
unfoldable pub finished : ℕ → ℕ
finished h = folded 16 (product_of (folded 13 (product_of (folded 16 h) 0x85ebca6b)) 0xc2b2ae35)

-- the hash of a body, as a number with a sign
unfoldable pub hash_of : List ℕ → ℤ
hash_of body = cast_signed w32 (finished (bit_xor (fold mixed 42 (words body)) (length body % 2 ^ 32)))

-- the bucket of a hash among so many: the remainder, which has the hash's sign, without it
unfoldable pub bucket_of : ℤ → ℕ → ℕ
bucket_of hash buckets = unsigned_abs (int_rem hash (pos buckets))
