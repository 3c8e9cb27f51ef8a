-- Avro's int and long: zigzag numbers in groups of seven bits (Binary Encoding, "int, long").
use Rattle.std.specs.Prelude.{◌≡◌, ℕ, ◌+◌, ◌-◌, ◌*◌, ◌<◌, ◌≤◌, ◌⊎◌, ℤ, pos, negsuc, List, [], ◌∷◌, length, slice_index}

-- 0, -1, 1, -2, .. are numbered 0, 1, 2, 3, ..
abbrev pub zigzag : ℤ → ℕ
zigzag (pos n) = 2 * n
zigzag (negsuc n) = 2 * n + 1

-- The source is the groups of n, lowest first, and then the rest. A byte below 128 is the last group.
-- One from 128 to 255 has the low seven bits, and the bytes after it are the groups of what is above them.
abbrev pub AreGroups : ℕ → List ℕ → List ℕ → Type 0
AreGroups n [] rest = ⊥
AreGroups n (b ∷ source) rest = ((b < 128) × (n ≡ b) × (source ≡ rest))
    ⊎ ((128 ≤ b) × (b < 256) × ((high : ℕ) × (n + 128 ≡ b + 128 * high) × AreGroups high source rest))

-- The source is the groups of n, at most so many, and then the rest. Where there are as many, the last is at most top.
pub record IsNumber (most top n : ℕ) (source rest : List ℕ) : Type 0 where
  pub groups : AreGroups n source rest
  pub short : length source ≤ length rest + most
  pub last : length source ≡ length rest + most → slice_index source (most - 1) ≤ top

-- an int, and then the rest
abbrev pub IsInt : ℤ → List ℕ → List ℕ → Type 0
IsInt z = IsNumber 5 15 (zigzag z)

-- a long, and then the rest
abbrev pub IsLong : ℤ → List ℕ → List ℕ → Type 0
IsLong z = IsNumber 10 1 (zigzag z)
