-- Which datum bytes begin with, and why none is answered.
use Rattle.std.specs.Prelude.{◌≡◌, ℕ, ◌≤◌, List, length, drop}
use Rattle.pm_avro_schema.specs.Avro.{Avro}
use Rattle.pm_avro_schema.specs.declared.fault.AvroFault.{AvroFault}
use Rattle.pm_avro_schema.specs.declared.fault.AvroFault.TheVariants as faults
use Rattle.pm_avro_data.specs.Datum.{Data}
use Rattle.pm_avro_data.specs.IsDatum.{IsDatum}

-- the source begins with a datum of the type, which takes n bytes
pub record Begins (t : Avro) (source : List ℕ) (d : Data) (n : ℕ) : Type 0 where
  pub within : n ≤ length source
  pub datum : IsDatum t d source (drop n source)

-- why no datum is answered: it is `Bad` at 0 where the source begins with none, or memory ran out
abbrev pub HasCause : Avro → List ℕ → AvroFault → Type 0
HasCause t source faults.Memory = Unit {0}
HasCause t source (faults.Unsupported what said) = ⊥
HasCause t source (faults.Bad offset) = (offset ≡ 0) × ((d : Data) (n : ℕ) → Begins t source d n → ⊥)
