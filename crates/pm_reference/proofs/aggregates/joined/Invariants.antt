use Rattle.std.proofs.Common.{◌≡◌, drop, string_bytes}
use Rattle.std.specs.List.{filter_map}
use Rattle.std.specs.Option.{option_map}
use Rattle.pm_model_history.specs.ColumnValue.{text_in, joined_value}
use Rattle.pm_reference.proofs.StepLemmas.{joined_on}
use Rattle.pm_reference.proofs.aggregates.joined.Given as goal

-- the texts so far, and those that are left
abbrev pub invariant-loop-value : goal.invariant-loop-value
invariant-loop-value l = joined_on l.delimiter (option_map string_bytes l.all) (filter_map text_in (drop l.value-index l.values)) ≡ joined_value l.delimiter (filter_map text_in l.values)
