-- How the text of a refusal is printed, so that it is one line: a control character as its code, all else as it is.
use Rattle.std.specs.Prelude.{◌≡◌, ◌≢◌, ℕ, ◌/◌, ◌%◌, ◌≤◌, false, if◌then◌else◌}
use Rattle.std.specs.Prelude.{List, [], ◌∷◌, ◌++◌, All, codes, flat_map}
use Rattle.std.specs.Char.{is_ascii_control}
use Rattle.std.specs.Fmt.{digit_glyph}
use Rattle.pm_base.specs.Newline.{line}

-- the code of a character of one byte, in four lowercase hexadecimal digits
abbrev pub code_text : ℕ → List ℕ
code_text b = codes "\\u00" ++ digit_glyph false (b / 16) ∷ digit_glyph false (b % 16) ∷ []

-- a byte as it is printed; those below 32 and 127 are control characters
abbrev pub printed : ℕ → List ℕ
printed b = if is_ascii_control b then code_text b else b ∷ []

-- a text as it is printed
abbrev pub escaped : List ℕ → List ℕ
escaped = flat_map printed

-- a text is one line: no control character stands before the newline at its end
abbrev pub IsOneLine : List ℕ → Type 0
IsOneLine text = (before : List ℕ) × (text ≡ line before) × All (λ b. (32 ≤ b) × (b ≢ 127)) before
