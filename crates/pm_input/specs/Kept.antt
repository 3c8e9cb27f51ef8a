-- Lines with their numbers, and how they are kept.
use Rattle.std.specs.Prelude.{ℕ, ◌+◌, List, [], ◌∷◌, take, drop}
use Rattle.pm_input.specs.declared.kept.InputLine.{InputLine}
use Rattle.pm_input.specs.declared.kept.LineMark.{LineMark}

-- a line, with its number
abbrev pub line_view : InputLine → ℕ × List ℕ
line_view line = (line.number, line.bytes.now)

-- Private: the lines of a text in which one stands after another, by how long each is
abbrev pub lines_in : List ℕ → List LineMark → List (ℕ × List ℕ)
lines_in text [] = []
lines_in text (m ∷ marks) = (m.number, take m.len text) ∷ lines_in (drop m.len text) marks

-- Private: how long they are in all
abbrev pub marked_length : List LineMark → ℕ
marked_length [] = 0
marked_length (m ∷ marks) = m.len + marked_length marks
