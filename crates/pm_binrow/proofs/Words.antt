-- Words of four bytes.
use Rattle.std.proofs.Common.{◌≡◌, ℕ, ◌<◌, ◌≤◌, List, [], ◌∷◌, length, take, drop, refl, sym, ap, ◌∙◌, arith}
use Rattle.std.specs.List.{fold}
use Rattle.std.specs.Int.{w32, from_le_bytes}
use Rattle.pm_binrow.specs.Hashing.{mixed, words}

-- the next word
pub words_more : (bytes : List ℕ) → 4 ≤ length bytes → words bytes ≡ from_le_bytes w32 (take 4 bytes) ∷ words (drop 4 bytes)
unfolding words
words_more [] le = absurd (omega arith)
words_more (a ∷ []) le = absurd (omega arith)
words_more (a ∷ b ∷ []) le = absurd (omega arith)
words_more (a ∷ b ∷ c ∷ []) le = absurd (omega arith)
words_more (a ∷ b ∷ c ∷ d ∷ bytes) le = refl

-- no word is left
pub words_end : (bytes : List ℕ) → length bytes < 4 → words bytes ≡ []
unfolding words
words_end [] lt = refl
words_end (a ∷ []) lt = refl
words_end (a ∷ b ∷ []) lt = refl
words_end (a ∷ b ∷ c ∷ []) lt = refl
words_end (a ∷ b ∷ c ∷ d ∷ bytes) lt = absurd (omega arith)

-- one word more is taken in
pub taken : (h : ℕ) (bytes word after : List ℕ) (total : ℕ) → 4 ≤ length bytes → word ≡ take 4 bytes → after ≡ drop 4 bytes
    → fold mixed h (words bytes) ≡ total → fold mixed (mixed h (from_le_bytes w32 word)) (words after) ≡ total
taken h bytes word after total le first later so_far =
    rw (first, later) (sym (ap (fold mixed h) (words_more bytes le)) ∙ so_far)

-- all are taken in
pub all_taken : (h : ℕ) (bytes : List ℕ) (total : ℕ) → length bytes < 4 → fold mixed h (words bytes) ≡ total → h ≡ total
all_taken h bytes total lt so_far = sym (ap (fold mixed h) (words_end bytes lt)) ∙ so_far
