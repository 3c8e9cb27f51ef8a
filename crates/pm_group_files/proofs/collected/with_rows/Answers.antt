use Rattle.std.proofs.Common.{◌≡◌, ◌⊎◌, inl, inr, ap, sym, subst}
use Rattle.std.proofs.lemmas.Result.{err_from_is_err_and}
use Rattle.pm_values.specs.declared.refusal.Refusal.TheVariants as refusals
use Rattle.pm_engine.specs.Covers.{IsRising}
use Rattle.pm_group_files.specs.Collected.{RefusesFile, misread}
use Rattle.pm_run.proofs.FaultLemmas.{memory_or}
use Rattle.pm_group_files.proofs.RowLemmas.{rising_joined}
use Rattle.pm_group_files.proofs.collected.with_rows.Goals as goal

pub returns-clause-rising : goal.returns-clause-rising
returns-clause-rising c =
    let appends = c.in_ok-append.ensures.appends in
    subst IsRising (sym appends.1)
    (rising_joined c.args.before appends.0 c.requires
    (rw (ap (λ v. v.opened.changes) c.in_ok-reader.ensures.opens.4) at
    (c.order_law.ensures.follow c.in_ok-reader.reader.opened c.in_ok-reader.reader.opened.file.first _ appends.0 _ appends.2)))

pub returns-in_err-append-clause-refuses : goal.returns-in_err-append-clause-refuses
returns-in_err-append-clause-refuses c =
    let p = err_from_is_err_and c.from_residual-in_err-append.result c.from_residual-in_err-append.ensures.1 in
    let may = c.in_err-append.ensures.refuses in
    rw (p.1, p.2) (elim (memory_or c.in_err-append.field-0.0 _ may.1)
    as (λ _. (c.in_err-append.field-0.0 ≡ refusals.Memory) ⊎ RefusesFile c.args.schema.now c.args.job.now c.args.bytes c.args.before c.in_err-append.field-0.0) [
      | inl is ↦ inl is
      | inr why ↦ inr (misread c.in_ok-reader.reader may.0 (rw c.as_str.ensures at c.in_ok-reader.ensures.opens) why)
    ])
