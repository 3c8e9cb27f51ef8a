-- The lines of an input, or why they weren't read.
use Rattle.std.specs.Prelude.{◌≡◌, ℕ, List, [], ◌++◌, Some, Result, Ok, Err}
use Rattle.pm_values.specs.declared.refusal.Refusal.{Refusal}
use Rattle.pm_values.specs.declared.refusal.Refusal.TheVariants as refusals
use Rattle.pm_io.specs.Source.{SourceView, SourceFailed}
use Rattle.pm_input.specs.Limits.{limits, IsWithin, IsFirstLimit, limit_text, limit_number}
use Rattle.pm_input.specs.Lines.{row_lines}
use Rattle.pm_input.specs.declared.limits.LimitKind.{LimitKind}

-- the input was read to its end, is within the limits, and these are its lines that aren't blank, with their numbers
pub record HasLines (bytes : List ℕ) (after : SourceView) (lines : List (ℕ × List ℕ)) : Type 0 where
  pub left : after.left ≡ Some []
  pub within : IsWithin limits bytes
  pub are : lines ≡ row_lines bytes

-- A refusal that comes from the input: its source failed after a prefix within the limits, or it exceeds a limit
-- first.
abbrev pub RefusesInput : List ℕ → SourceView → SourceView → Refusal → Type 0
RefusesInput bytes before after refusals.Memory = Unit {0}
RefusesInput bytes before after refusals.SourceFault =
    SourceFailed before after
    × ((prefix rest : List ℕ) × (bytes ≡ prefix ++ rest) × (after.left ≡ Some rest) × IsWithin limits prefix)
RefusesInput bytes before after (refusals.Limit text number) =
    (kind : LimitKind) × (text ≡ limit_text kind) × (number ≡ limit_number limits kind) × IsFirstLimit limits kind bytes
RefusesInput bytes before after other = ⊥

-- what reading the lines of an input answers, the lines seen by the function
abbrev pub ReadsInput : {X : Type 0} → (X → List (ℕ × List ℕ)) → List ℕ → SourceView → SourceView → Result X Refusal
    → Type 0
ReadsInput view bytes before after (Ok lines) = HasLines bytes after (view lines)
ReadsInput view bytes before after (Err e) = RefusesInput bytes before after e

-- the refusals where the bytes of the source aren't known; a fault of the source comes only where its count rose
abbrev pub MayRefuseInput : SourceView → SourceView → Refusal → Type 0
MayRefuseInput before after refusals.Memory = Unit {0}
MayRefuseInput before after refusals.SourceFault = SourceFailed before after
MayRefuseInput before after (refusals.Limit text number) =
    (kind : LimitKind) × (text ≡ limit_text kind) × (number ≡ limit_number limits kind)
MayRefuseInput before after other = ⊥
