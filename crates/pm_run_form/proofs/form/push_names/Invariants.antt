use Rattle.std.proofs.Common.{◌≡◌, ◌++◌, drop}
use Rattle.pm_record.specs.Record.{lent}
use Rattle.pm_run.specs.Form.{names_of}
use Rattle.pm_run_form.proofs.form.push_names.Given as goal

-- the names so far, and those that are left
abbrev pub invariant-loop-field : goal.invariant-loop-field
invariant-loop-field l = lent l.names.items ++ names_of (drop l.field-index l.fields) ≡ lent l.fn.names.items ++ names_of l.fields
