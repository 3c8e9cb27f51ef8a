use Rattle.std.proofs.Common.{◌≡◌, drop}
use Rattle.pm_schema.specs.Rules.{fits_columns}
use Rattle.pm_schema_file.proofs.rules.fits_columns.Given as goal

abbrev pub invariant-loop-column : goal.invariant-loop-column
invariant-loop-column l = fits_columns (drop l.column-index l.columns) (l.name, l.function) ≡ fits_columns l.columns (l.name, l.function)
