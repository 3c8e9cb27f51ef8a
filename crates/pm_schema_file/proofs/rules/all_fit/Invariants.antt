use Rattle.std.proofs.Common.{◌≡◌, drop}
use Rattle.std.specs.List.{list_all}
use Rattle.pm_schema.specs.Rules.{fits_columns}
use Rattle.pm_schema_file.proofs.rules.all_fit.Given as goal

abbrev pub invariant-loop-name : goal.invariant-loop-name
invariant-loop-name l = list_all (fits_columns l.columns) (drop l.name-index l.functions) ≡ list_all (fits_columns l.columns) l.functions
