use Rattle.std.proofs.Common.{◌≡◌, ◌⊎◌, inl, inr}
use Rattle.std.proofs.lemmas.Result.{err_from_is_err_and}
use Rattle.pm_values.specs.declared.refusal.Refusal.TheVariants as refusals
use Rattle.pm_read_frame.specs.Taken.{RefusesFile, misread}
use Rattle.pm_run.proofs.FaultLemmas.{memory_or}
use Rattle.pm_read_frame.proofs.file.rows_of.Goals as goal

pub returns-in_err-append-clause-refuses : goal.returns-in_err-append-clause-refuses
returns-in_err-append-clause-refuses c =
    let p = err_from_is_err_and c.from_residual-in_err-append.result c.from_residual-in_err-append.ensures.1 in
    let may = c.in_err-append.ensures.refuses in
    rw (p.1, p.2) (elim (memory_or c.in_err-append.field-0.0 _ may.1)
    as (λ _. (c.in_err-append.field-0.0 ≡ refusals.Memory) ⊎ RefusesFile c.args.schema.now c.args.file.now c.args.bytes c.in_err-append.field-0.0) [
      | inl is ↦ inl is
      | inr why ↦ inr (misread c.in_ok-reader.reader may.0 (rw c.as_str.ensures at c.in_ok-reader.ensures.opens) (rw c.new-run.ensures at why))
    ])
