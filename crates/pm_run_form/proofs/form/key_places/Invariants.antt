use Rattle.std.proofs.Common.{◌≡◌, ◌++◌, map, drop}
use Rattle.pm_model_history.specs.ColumnValue.{index_of}
use Rattle.pm_run.specs.Form.{apart_from}
use Rattle.pm_run_form.proofs.form.key_places.Given as goal

abbrev pub invariant-loop-name : goal.invariant-loop-name
invariant-loop-name l = l.places.items ++ map (index_of l.schema) (apart_from l.others (drop l.name-index l.names))
    ≡ map (index_of l.schema) (apart_from l.others l.names)
