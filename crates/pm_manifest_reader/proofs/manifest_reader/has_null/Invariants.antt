use Rattle.std.proofs.Common.{◌≡◌, drop}
use Rattle.std.specs.List.{list_any}
use Rattle.pm_binrow.specs.Row.{is_null}
use Rattle.pm_manifest_reader.proofs.manifest_reader.has_null.Given as goal

abbrev pub invariant-loop-value : goal.invariant-loop-value
invariant-loop-value l = list_any is_null (drop l.value-index l.values) ≡ list_any is_null l.values
