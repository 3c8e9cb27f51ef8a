use Rattle.std.proofs.Common.{◌≡◌, map, take}
use Rattle.pm_run.specs.Form.{field_of}
use Rattle.pm_run_form.proofs.form.fields_of.Given as goal

abbrev pub invariant-loop-column : goal.invariant-loop-column
invariant-loop-column l = l.fields.items ≡ map field_of (take l.column-index l.columns)
