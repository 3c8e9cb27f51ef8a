-- What was read has the type that it was read by.
use Rattle.std.proofs.Common.{ℕ, List, [], ◌∷◌}
use Rattle.std.specs.List.{AllByRecursion}
use Rattle.pm_avro_schema.specs.Avro.{Avro}
use Rattle.pm_avro_data.specs.Datum.{Data}
use Rattle.pm_avro_data.specs.HasType.{HasType}
use Rattle.pm_avro_data.specs.IsDatum.{IsDatum, AreItems}
use Rattle.pm_avro_data.proofs.Facts.{datum_typed}
use Rattle.pm_avro_file.specs.Container.{IsBlock}

data_typed : (t : Avro) (ds : List Data) (source rest : List ℕ) → AreItems (IsDatum t) ds source rest → AllByRecursion (HasType t) ds
data_typed t [] source rest h = tt
data_typed t (d ∷ ds) source rest h = (datum_typed t d source h.0 h.1, data_typed t ds h.0 rest h.2)

pub block_typed : (t : Avro) (ds : List Data) (marker source rest : List ℕ) → IsBlock t marker ds source rest → AllByRecursion (HasType t) ds
block_typed t ds marker source rest b = data_typed t ds b.content [] b.each

pub blocks_typed : (t : Avro) (blocks : List (List Data)) (marker source rest : List ℕ) → AreItems (IsBlock t marker) blocks source rest
    → AllByRecursion (AllByRecursion (HasType t)) blocks
blocks_typed t [] marker source rest h = tt
blocks_typed t (ds ∷ blocks) marker source rest h = (block_typed t ds marker source h.0 h.1, blocks_typed t blocks marker h.0 rest h.2)
