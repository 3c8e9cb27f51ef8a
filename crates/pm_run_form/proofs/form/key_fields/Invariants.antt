use Rattle.std.proofs.Common.{◌≡◌, ◌++◌, map, drop}
use Rattle.pm_run.specs.Form.{apart_from, key_field}
use Rattle.pm_run_form.proofs.form.key_fields.Given as goal

abbrev pub invariant-loop-name : goal.invariant-loop-name
invariant-loop-name l = l.fields.items ++ map (key_field l.columns) (apart_from l.others (drop l.name-index l.names))
    ≡ map (key_field l.columns) (apart_from l.others l.names)
