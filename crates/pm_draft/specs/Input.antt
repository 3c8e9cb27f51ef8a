-- The draft that an input is, or why it is none.
use Rattle.std.specs.Prelude.{◌≡◌, ◌⊎◌, ℕ, ℤ, List, [], ◌++◌, Some, Result, Ok, Err}
use Rattle.pm_values.specs.declared.refusal.Refusal.{Refusal}
use Rattle.pm_values.specs.declared.refusal.Refusal.TheVariants as refusals
use Rattle.pm_io.specs.Source.{SourceView, SourceFailed}
use Rattle.pm_input.specs.Limits.{limits, IsWithin, IsFirstLimit, limit_text, limit_number}
use Rattle.pm_input.specs.Lines.{row_lines}
use Rattle.pm_input.specs.declared.limits.LimitKind.{LimitKind}
use Rattle.pm_schema.specs.declared.schema.TableSchema.{TableSchema}
use Rattle.pm_draft.specs.Draft.{NumberedLine, draft_in}

-- what a draft is made into: a table whose origin has that name, at that moment
pub record Making : Type 0 where
  pub origin : List ℕ
  pub now : ℤ

-- an input was read to its end, is within the limits, and its lines are answered so
pub record AnswersDraft (making : Making) (bytes : List ℕ) (after : SourceView) (answer : Result TableSchema Refusal)
    : Type 0 where
  pub left : after.left ≡ Some []
  pub within : IsWithin limits bytes
  pub read : draft_in (row_lines bytes) making.origin making.now ≡ answer

-- A refusal that comes from the input: its source failed after a prefix within the limits, or it exceeds a limit
-- first, or it is within them and its lines are refused; then the source has nothing left.
abbrev pub RefusesDraft : Making → List ℕ → SourceView → SourceView → Refusal → Type 0
RefusesDraft making bytes before after refusals.Memory = Unit {0}
RefusesDraft making bytes before after refusals.SourceFault =
    SourceFailed before after
    × ((prefix rest : List ℕ) × (bytes ≡ prefix ++ rest) × (after.left ≡ Some rest) × IsWithin limits prefix)
RefusesDraft making bytes before after (refusals.Limit text number) =
    ((kind : LimitKind) × (text ≡ limit_text kind) × (number ≡ limit_number limits kind)
    × IsFirstLimit limits kind bytes)
    ⊎ AnswersDraft making bytes after (Err (refusals.Limit text number))
RefusesDraft making bytes before after (refusals.BadLine line why column) =
    AnswersDraft making bytes after (Err (refusals.BadLine line why column))
RefusesDraft making bytes before after (refusals.Unsupported what text) =
    AnswersDraft making bytes after (Err (refusals.Unsupported what text))
RefusesDraft making bytes before after (refusals.SchemaRule rule) =
    AnswersDraft making bytes after (Err (refusals.SchemaRule rule))
RefusesDraft making bytes before after other = ⊥

-- what reading a draft answers
abbrev pub ReadsDraft : Making → List ℕ → SourceView → SourceView → Result TableSchema Refusal → Type 0
ReadsDraft making bytes before after (Ok s) = AnswersDraft making bytes after (Ok s)
ReadsDraft making bytes before after (Err e) = RefusesDraft making bytes before after e

-- some lines are refused so
abbrev pub RefusesSome : Making → Refusal → Type 0
RefusesSome making e = (lines : List NumberedLine) × (draft_in lines making.origin making.now ≡ Err e)

-- the refusals where the bytes of the source aren't known; a fault of the source comes only where its count rose
abbrev pub MayRefuseDraft : Making → SourceView → SourceView → Refusal → Type 0
MayRefuseDraft making before after refusals.Memory = Unit {0}
MayRefuseDraft making before after refusals.SourceFault = SourceFailed before after
MayRefuseDraft making before after (refusals.Limit text number) =
    ((kind : LimitKind) × (text ≡ limit_text kind) × (number ≡ limit_number limits kind))
    ⊎ RefusesSome making (refusals.Limit text number)
MayRefuseDraft making before after (refusals.BadLine line why column) =
    RefusesSome making (refusals.BadLine line why column)
MayRefuseDraft making before after (refusals.Unsupported what text) =
    RefusesSome making (refusals.Unsupported what text)
MayRefuseDraft making before after (refusals.SchemaRule rule) = RefusesSome making (refusals.SchemaRule rule)
MayRefuseDraft making before after other = ⊥
