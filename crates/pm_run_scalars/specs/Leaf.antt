-- Values of columns that are read where they lie.
use Rattle.std.specs.Prelude.{ℕ, List}
use Rattle.pm_values.specs.Fits.{IsInType}
use Rattle.pm_values.specs.declared.column.ColType.{ColType}
use Rattle.pm_values.specs.declared.value.Value.{Value}
use Rattle.pm_avro_data.specs.IsDatum.{IsDatum}
use Rattle.pm_run.specs.Kinds.{value_type}
use Rattle.pm_run.specs.Row.{scalar_data}
use Rattle.pm_run_scalars.specs.Spelled.{IsSpelled}

-- the source is a value of a column's type that isn't null, and then the rest
abbrev pub IsScalar : ColType → Value → List ℕ → List ℕ → Type 0
IsScalar kind value source rest = IsDatum (value_type kind) (scalar_data kind value) source rest × IsInType kind value

-- the source is what is written of such a value, and then the rest
abbrev pub IsWrittenScalar : ColType → Value → List ℕ → List ℕ → Type 0
IsWrittenScalar kind value source rest = IsSpelled source rest (scalar_data kind value)
