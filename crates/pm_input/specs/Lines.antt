-- What reading the lines of an input gave, where what the source has left is known.
use Rattle.std.specs.Prelude.{◌≡◌, ℕ, List, [], ◌++◌, Option, Some, None, filter, not}
use Rattle.std.specs.List.{enumerate_from}
use Rattle.pm_io.specs.Lines.{all_lines}
use Rattle.pm_io.specs.declared.lines.LineFault.{LineFault}
use Rattle.pm_io.specs.declared.lines.LineFault.TheVariants as line_faults
use Rattle.pm_input.specs.Blank.{is_blank}
use Rattle.pm_input.specs.Limits.{IsWithin, IsFirstLimit}
use Rattle.pm_input.specs.declared.limits.Limits.{Limits}
use Rattle.pm_input.specs.declared.limits.LimitKind.{LimitKind}
use Rattle.pm_input.specs.declared.limits.LimitKind.TheVariants.{Line}
use Rattle.pm_input.specs.declared.lines.InputFault.{InputFault}
use Rattle.pm_input.specs.declared.lines.InputFault.TheVariants as faults

-- the lines that aren't blank, in order, each with its number from 1 among all
abbrev pub numbered_rows : List (List ℕ) → List (ℕ × List ℕ)
numbered_rows lines = filter (λ line. not (is_blank line.1)) (enumerate_from 1 lines)

-- the lines of an input that aren't blank, with their numbers
abbrev pub row_lines : List ℕ → List (ℕ × List ℕ)
row_lines bytes = numbered_rows (all_lines bytes)

-- the lines of the whole input that aren't blank; it is within the limits and read to its end
abbrev pub IsRead : Limits → List (ℕ × List ℕ) → List ℕ → Option (List ℕ) → Type 0
IsRead limits lines bytes left = IsWithin limits bytes × (lines ≡ row_lines bytes) × (left ≡ Some [])

-- Why an input wasn't read. A read fails after a prefix that is within the limits; a limit is the
-- first that is exceeded.
abbrev pub IsRefused : Limits → InputFault → List ℕ → Option (List ℕ) → Type 0
IsRefused limits faults.Memory bytes left = Unit {0}
IsRefused limits faults.Read bytes left =
    (prefix rest : List ℕ) × (bytes ≡ prefix ++ rest) × (left ≡ Some rest) × IsWithin limits prefix
IsRefused limits (faults.Limit which) bytes left = IsFirstLimit limits which bytes

-- Private: the limit, or the fault where there is none
abbrev pub limit_or : Option LimitKind → InputFault → InputFault
limit_or None fault = fault
limit_or (Some which) fault = faults.Limit which

-- Private: the fault of a line that wasn't read, by the limit that it exceeds as far as it was read
abbrev pub fault_of : LineFault → Option LimitKind → InputFault
fault_of line_faults.Memory limit = faults.Memory
fault_of line_faults.Read limit = limit_or limit faults.Read
fault_of line_faults.Long limit = limit_or limit (faults.Limit Line)
