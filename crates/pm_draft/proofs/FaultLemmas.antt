-- The refusals of the lines of a draft.
use Rattle.std.proofs.Common.{ℕ, ℤ, List, Option, None, Some, IfSome, Result, Ok, Err, IfErr, refl, inr}
use Rattle.pm_options.specs.Faults.{judged}
use Rattle.pm_schema.specs.Faults.{IsDraftFault}
use Rattle.pm_schema.specs.Reading.{draft_of}
use Rattle.pm_schema.specs.declared.schema.TableSchema.{TableSchema}
use Rattle.pm_schema.proofs.Facts.{step_fault, judged_fault, draft_faults}
use Rattle.pm_values.specs.declared.refusal.Refusal.{Refusal}
use Rattle.pm_values.specs.declared.refusal.Refusal.TheVariants as refusals
use Rattle.pm_draft.specs.Draft.{NumberedLine, draft_in, draft_line, form_fault, later_fault, later_line}

abbrev P : Refusal → Type 0
P = IsDraftFault

form_is : (reading : Result TableSchema Refusal) → IfErr reading P → IfSome (form_fault reading) P
form_is (Ok s) is = tt
form_is (Err (refusals.BadLine line why column)) is = is
form_is (Err other) is = tt

later_is : (later : Option ℕ) → IfSome (later_fault later) P
later_is None = tt
later_is (Some number) = (inr refl, refl)

pub lines_are : (lines : List NumberedLine) (origin : List ℕ) (now : ℤ) → IfErr (draft_in lines origin now) P
unfolding draft_in
lines_are lines origin now =
    let reading = draft_of (draft_line lines) origin now in
    let later = later_line lines in
    let read = draft_faults (draft_line lines) origin now in
    step_fault P (judged (form_fault reading)) _ (judged_fault P (form_fault reading) (form_is reading read))
    (λ form. step_fault P (judged (later_fault later)) _ (judged_fault P (later_fault later) (later_is later))
    (λ alone. read))
