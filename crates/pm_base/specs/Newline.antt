-- The newline, which ends a line and is no part of it.
use Rattle.std.specs.Prelude.{◌≢◌, ℕ, List, [], ◌∷◌, ◌++◌, All}

abbrev pub newline : ℕ
newline = 10

-- no newline stands in the bytes
abbrev pub IsUnbroken : List ℕ → Type 0
IsUnbroken bytes = All (λ b. b ≢ newline) bytes

-- a text and its newline
abbrev pub line : List ℕ → List ℕ
line text = text ++ newline ∷ []
