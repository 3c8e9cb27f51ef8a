use Rattle.std.proofs.Common.{◌≡◌, ℕ, ℤ, List, Ok, ap}
use Rattle.pm_base.specs.Outcome.{◌>>=◌}
use Rattle.pm_base.proofs.Laws.{step_ok}
use Rattle.pm_options.specs.Faults.{judged}
use Rattle.pm_schema.specs.Reading.{draft_of}
use Rattle.pm_schema.specs.declared.schema.TableSchema.{TableSchema}
use Rattle.pm_draft.specs.Draft.{NumberedLine, draft_in, draft_line, form_fault, later_fault, later_line}
use Rattle.pm_draft.proofs.laws.first_schema_law.Goals as goal

-- a schema that is answered was read of the draft
read_of : (lines : List NumberedLine) (origin : List ℕ) (now : ℤ) (s : TableSchema) → draft_in lines origin now ≡ Ok s → draft_of (draft_line lines) origin now ≡ Ok s
unfolding draft_in
read_of lines origin now s is =
    let reading = draft_of (draft_line lines) origin now in
    let later = later_line lines in
    let form = step_ok (judged (form_fault reading)) (λ form. judged (later_fault later) >>= λ alone. reading) s is in
    (step_ok (judged (later_fault later)) (λ alone. reading) s form.2).2

pub returns : goal.returns
returns c = λ lines origin now s fits is.
    let declares = (c.draft_law.ensures (draft_line lines) origin now s).0 (read_of lines origin now s is) in
    let schema = declares.6.schema in
    record {
      declared = c.declared_law.ensures.draft (draft_line lines) origin now s fits declares;
      id = ap (λ (t : TableSchema). t.id) schema;
      origin_is = ap (λ (t : TableSchema). t.origin) schema;
      time = ap (λ (t : TableSchema). t.time) schema;
    }
