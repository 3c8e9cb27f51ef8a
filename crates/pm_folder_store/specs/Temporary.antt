-- The names of files that are being written.
use Rattle.std.specs.Prelude.{◌≡◌, ◌<◌, ℕ, List, decimal}

-- a number below 100000 as it is printed
abbrev pub IsTemporary : List ℕ → Type 0
IsTemporary name = (n : ℕ) × (n < 100000) × (name ≡ decimal n)
