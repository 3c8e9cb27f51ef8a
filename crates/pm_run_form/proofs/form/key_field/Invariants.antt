use Rattle.std.proofs.Common.{◌≡◌, drop}
use Rattle.pm_run.specs.Form.{key_field}
use Rattle.pm_run_form.proofs.form.key_field.Given as goal

-- no column so far has the name
abbrev pub invariant-loop-column : goal.invariant-loop-column
invariant-loop-column l = key_field (drop l.column-index l.columns) l.name ≡ key_field l.columns l.name
