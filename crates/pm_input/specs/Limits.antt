-- The limits of a command's input: which byte exceeds one, and which limit is exceeded first.
use Rattle.std.specs.Prelude.{◌≡◌, ◌≢◌, ℕ, ◌<◌, ◌≤◌, List, [], ◌∷◌, length, take}
use Rattle.std.specs.Prelude.{slice_index, true, false, if◌then◌else◌, codes}
use Rattle.pm_base.specs.Newline.{newline}
use Rattle.pm_io.specs.Lines.{has_newline, all_lines}
use Rattle.pm_input.specs.Blank.{is_blank_byte, is_blank, row_count}
use Rattle.pm_input.specs.declared.limits.Limits.{Limits}
use Rattle.pm_input.specs.declared.limits.LimitKind.{LimitKind}
use Rattle.pm_input.specs.declared.limits.LimitKind.TheVariants.{Line, BatchRows, BatchBytes}

-- the limits of every command: `LIMITS`
abbrev pub limits : Limits
limits = record { line = 1048576; rows = 100000; bytes = 268435456 }

-- the bytes after the last newline: the line that a text ends in
abbrev pub open_line : List ℕ → List ℕ
open_line [] = []
open_line (b ∷ bytes) = if has_newline (b ∷ bytes) then open_line bytes else b ∷ bytes

-- A byte exceeds a limit by the bytes before it. Of a line: it is no newline, and the line has as
-- many bytes already. Of rows: it is the first byte of its line that isn't blank, and as many
-- lines before aren't blank. Of all bytes: as many stand before it.
abbrev pub ExceedsAfter : Limits → LimitKind → List ℕ → ℕ → Type 0
ExceedsAfter limits Line before b = (b ≢ newline) × (limits.line ≤ length (open_line before))
ExceedsAfter limits BatchRows before b =
    (b ≢ newline) × (is_blank_byte b ≡ false) × (is_blank (open_line before) ≡ true)
    × (limits.rows ≤ row_count (all_lines before))
ExceedsAfter limits BatchBytes before b = limits.bytes ≤ length before

-- the byte at an offset exceeds a limit
abbrev pub Exceeds : Limits → LimitKind → List ℕ → ℕ → Type 0
Exceeds limits which bytes offset = ExceedsAfter limits which (take offset bytes) (slice_index bytes offset)

-- no byte exceeds a limit
abbrev pub IsWithin : Limits → List ℕ → Type 0
IsWithin limits bytes = (offset : ℕ) (which : LimitKind) → offset < length bytes → Exceeds limits which bytes offset → ⊥

-- the rank of a limit in their order
abbrev pub rank : LimitKind → ℕ
rank Line = 0
rank BatchRows = 1
rank BatchBytes = 2

-- the first byte that exceeds a limit exceeds this one, and none that is earlier in their order
abbrev pub IsFirstLimit : Limits → LimitKind → List ℕ → Type 0
IsFirstLimit limits which bytes =
    (offset : ℕ) × (offset < length bytes) × Exceeds limits which bytes offset × IsWithin limits (take offset bytes)
    × ((other : LimitKind) → rank other < rank which → Exceeds limits other bytes offset → ⊥)

-- the text of a limit
abbrev pub limit_text : LimitKind → List ℕ
limit_text Line = codes "line"
limit_text BatchRows = codes "batch-rows"
limit_text BatchBytes = codes "batch-bytes"

-- the number of a limit
abbrev pub limit_number : Limits → LimitKind → ℕ
limit_number limits Line = limits.line
limit_number limits BatchRows = limits.rows
limit_number limits BatchBytes = limits.bytes
