-- The lines of a text. A newline ends a line and is no part of it. The last line may lack it.
use Rattle.std.specs.Prelude.{◌≡◌, ◌≢◌, List, [], ◌∷◌, ◌++◌, ℕ, ◌+◌, ◌≤◌, ◌<◌, length, Bool}
use Rattle.std.specs.Prelude.{false, ◌==◌, ◌||◌, if◌then◌else◌, Option, Some}
use Rattle.pm_base.specs.Known.{with_prefix}
use Rattle.pm_base.specs.Newline.{newline}
use Rattle.pm_io.specs.Source.{SourceView}

-- the bytes before the first newline, all of them where there is none
abbrev pub first_line : List ℕ → List ℕ
first_line [] = []
first_line (b ∷ bytes) = if b == newline then [] else b ∷ first_line bytes

-- the bytes after the first newline, none where there is none
abbrev pub later_lines : List ℕ → List ℕ
later_lines [] = []
later_lines (b ∷ bytes) = if b == newline then bytes else later_lines bytes

-- whether there is a newline
abbrev pub has_newline : List ℕ → Bool
has_newline [] = false
has_newline (b ∷ bytes) = b == newline || has_newline bytes

-- what stands after a line: a newline and the rest, or nothing
abbrev pub line_end : Bool → List ℕ → List ℕ
line_end ended rest = if ended then newline ∷ rest else []

-- a byte before the first line
abbrev pub onto_first : ℕ → List (List ℕ) → List (List ℕ)
onto_first b [] = (b ∷ []) ∷ []
onto_first b (line ∷ lines) = (b ∷ line) ∷ lines

-- the lines of a text; after its last newline there is no empty line
abbrev pub all_lines : List ℕ → List (List ℕ)
all_lines [] = []
all_lines (b ∷ bytes) = if b == newline then [] ∷ all_lines bytes else onto_first b (all_lines bytes)

-- what a reader of lines holds: the bytes of the line that was begun, and those read ahead of it
pub record Held : Type 0 where
  pub begun : List ℕ
  pub ahead : List ℕ

-- the bytes that are still to come as lines, where what the source has left is known
abbrev pub coming : List ℕ → List ℕ → SourceView → Option (List ℕ)
coming begun ahead source = with_prefix (begun ++ ahead) source.left

-- the same, of what is held
abbrev pub to_come : Held → SourceView → Option (List ℕ)
to_come held source = coming held.begun held.ahead source

-- a line begins the bytes, whether a newline ends it, and what is to come later
pub record IsLineOf (line : List ℕ) (ended : Bool) (later : Option (List ℕ)) (bytes : List ℕ) : Type 0 where
  pub nonempty : bytes ≢ []
  pub first : line ≡ first_line bytes
  pub newline : ended ≡ has_newline bytes
  pub rest : later ≡ Some (later_lines bytes)

-- of a line that is too long the first max + 1 bytes are begun, or those that were before, where they were that many
pub record IsOverLimit (max : ℕ) (before begun : List ℕ) : Type 0 where
  pub up_to : length before ≤ max → length begun ≡ max + 1
  pub again : max < length before → begun ≡ before
