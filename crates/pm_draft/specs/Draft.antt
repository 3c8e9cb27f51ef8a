-- The schema that the lines of an input are a draft of, or what is refused first.
use Rattle.std.specs.Prelude.{◌≡◌, ℕ, ◌==◌, ℤ, List, [], ◌∷◌, Bool, true, false, if◌then◌else◌}
use Rattle.std.specs.Prelude.{Option, Some, None, option_map, Result, Ok, Err}
use Rattle.pm_base.specs.Outcome.{◌>>=◌}
use Rattle.pm_options.specs.Faults.{judged}
use Rattle.pm_schema.specs.Again.{IsDeclared}
use Rattle.pm_schema.specs.Reading.{draft_of}
use Rattle.pm_schema.specs.declared.schema.TableSchema.{TableSchema}
use Rattle.pm_values.specs.declared.refusal.Refusal.{Refusal}
use Rattle.pm_values.specs.declared.refusal.Refusal.TheVariants as refusals
use Rattle.pm_values.specs.declared.refusal.Why.TheVariants as whys

-- a line that isn't blank, with its number from 1 among all lines
abbrev pub NumberedLine : Type 0
NumberedLine = ℕ × List ℕ

-- the draft: line 1, or the empty text where that is blank or missing
abbrev pub draft_line : List NumberedLine → List ℕ
draft_line [] = []
draft_line (line ∷ lines) = if line.0 == 1 then line.1 else []

-- the number of the first line after line 1
abbrev pub later_line : List NumberedLine → Option ℕ
later_line [] = None
later_line (line ∷ lines) = if line.0 == 1 then later_line lines else Some line.0

-- a draft has no such line
abbrev pub later_fault : Option ℕ → Option Refusal
later_fault later = option_map (λ number. refusals.BadLine number whys.Draft []) later

-- the refusal of a line that has another form than a draft
abbrev pub form_fault : Result TableSchema Refusal → Option Refusal
form_fault (Err (refusals.BadLine line why column)) = Some (refusals.BadLine line why column)
form_fault other = None

-- Private: no later line is refused before such an answer
abbrev pub comes_first : Result TableSchema Refusal → Bool
comes_first (Err refusals.Memory) = true
comes_first (Err (refusals.BadLine line why column)) = true
comes_first other = false

-- what a draft was read as, where a later line is refused after the draft's form and before all else
abbrev pub unless_later : Option ℕ → Result TableSchema Refusal → Result TableSchema Refusal
unless_later later reading = do
  form ← judged (form_fault reading)
  alone ← judged (later_fault later)
  reading

-- the schema of a draft: its form, later lines, and what else it is refused for
unfoldable pub draft_in : List NumberedLine → List ℕ → ℤ → Result TableSchema Refusal
draft_in lines origin now = unless_later (later_line lines) (draft_of (draft_line lines) origin now)

-- a schema that a draft can have: the first of a table with that origin, made at that moment
pub record IsFirstSchema (origin : List ℕ) (now : ℤ) (s : TableSchema) : Type 0 where
  pub declared : IsDeclared s
  pub id : s.id ≡ 0
  pub origin_is : s.origin ≡ Some origin
  pub time : s.time ≡ now
