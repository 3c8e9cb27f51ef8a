use Rattle.pm_scan_rows.proofs.written_rows.WrittenRows.fill_own.Goals as goal

pub returns-clause-form : goal.returns-clause-form
returns-clause-form c = λ f given. (
  record { form = given.form; alike = λ yes. (c.in_ok-content.ensures.written f (given.alike yes)).1 },
  c.only_where-place.ensures f c.fill_written.new.slot (λ yes. (c.in_ok-content.ensures.written f (given.alike yes)).0),
)
