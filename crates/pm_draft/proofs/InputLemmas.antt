-- What is answered of an input that was read.
use Rattle.std.proofs.Common.{◌≡◌, ℕ, ℤ, List, [], Option, Some, Result, Ok, Err, None, IfOk, IfErr, IfSome, inr, subst}
use Rattle.pm_base.specs.Outcome.{Fails}
use Rattle.pm_input.specs.Limits.{limits, IsWithin}
use Rattle.pm_input.specs.Lines.{row_lines, IsRead}
use Rattle.pm_io.specs.Source.{SourceView}
use Rattle.pm_options.specs.Faults.{Answers, fault_of}
use Rattle.pm_schema.specs.declared.schema.TableSchema.{TableSchema}
use Rattle.pm_values.specs.declared.refusal.Refusal.{Refusal}
use Rattle.pm_values.specs.declared.refusal.Refusal.TheVariants as refusals
use Rattle.pm_draft.specs.Draft.{NumberedLine, draft_in, IsFirstSchema}
use Rattle.pm_draft.specs.Input.{Making, AnswersDraft, RefusesDraft, ReadsDraft, MayRefuseDraft}
use Rattle.pm_schema.specs.Faults.{IsDraftFault}
use Rattle.pm_draft.proofs.FaultLemmas.{lines_are}

-- a refusal of lines is one of a draft
refusal_is : (making : Making) (lines : List NumberedLine) (e : Refusal) → draft_in lines making.origin making.now ≡ Err e → IsDraftFault e
refusal_is making lines e is = subst (λ r. IfErr r IsDraftFault) is (lines_are lines making.origin making.now)

module _ (making : Making) (before after : SourceView) where
  -- where the bytes aren't known
  some_refused : (lines : List NumberedLine) (e : Refusal) → Fails (fault_of e) (draft_in lines making.origin making.now)
      → MayRefuseDraft making before after e
  some_refused lines refusals.Memory is = tt
  some_refused lines (refusals.Limit text number) is = inr (lines, is)
  some_refused lines (refusals.BadLine line why column) is = (lines, is)
  some_refused lines (refusals.Unsupported what text) is = (lines, is)
  some_refused lines (refusals.SchemaRule rule) is = (lines, is)
  some_refused lines other is = absurd (refusal_is making lines other is)

  pub some_answered : (lines : List NumberedLine) (r : Result TableSchema Refusal) → Answers (λ s. s) r (draft_in lines making.origin making.now)
      → IfErr r (MayRefuseDraft making before after)
  some_answered lines (Ok s) is = tt
  some_answered lines (Err e) is = some_refused lines e is

  -- where they are
  module _ (bytes : List ℕ) (within : IsWithin limits bytes) (left : after.left ≡ Some []) where
    so : (answer : Result TableSchema Refusal) → draft_in (row_lines bytes) making.origin making.now ≡ answer → AnswersDraft making bytes after answer
    so answer is = record { left = left; within = within; read = is }

    refused : (e : Refusal) → Fails (fault_of e) (draft_in (row_lines bytes) making.origin making.now) → RefusesDraft making bytes before after e
    refused refusals.Memory is = tt
    refused (refusals.Limit text number) is = inr (so (Err (refusals.Limit text number)) is)
    refused (refusals.BadLine line why column) is = so (Err (refusals.BadLine line why column)) is
    refused (refusals.Unsupported what text) is = so (Err (refusals.Unsupported what text)) is
    refused (refusals.SchemaRule rule) is = so (Err (refusals.SchemaRule rule)) is
    refused other is = absurd (refusal_is making (row_lines bytes) other is)

    pub answered : (r : Result TableSchema Refusal) → Answers (λ s. s) r (draft_in (row_lines bytes) making.origin making.now)
        → ReadsDraft making bytes before after r
    answered (Ok s) is = so (Ok s) is
    answered (Err e) is = refused e is

-- where the bytes of the source were known
pub input_answered : (making : Making) (before after : SourceView) (left : Option (List ℕ)) (lines : List NumberedLine) (r : Result TableSchema Refusal)
    → IfSome left (λ bytes. IsRead limits lines bytes after.left) → Answers (λ s. s) r (draft_in lines making.origin making.now)
    → IfSome left (λ bytes. ReadsDraft making bytes before after r)
input_answered making before after None lines r read is = tt
input_answered making before after (Some bytes) lines r (within, same, end) is =
    answered making before after bytes within end r (subst (λ l. Answers (λ s. s) r (draft_in l making.origin making.now)) same is)

-- the schema of lines is the first of a table
pub first_answered : (lines : List NumberedLine) (origin : List ℕ) (now : ℤ) (r : Result TableSchema Refusal)
    → ((s : TableSchema) → draft_in lines origin now ≡ Ok s → IsFirstSchema origin now s) → Answers (λ s. s) r (draft_in lines origin now)
    → IfOk r (IsFirstSchema origin now)
first_answered lines origin now (Ok s) law is = law s is
first_answered lines origin now (Err e) law is = tt
