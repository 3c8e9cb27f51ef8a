-- Private: what a reader of a part finds that the bytes begin with.
use Rattle.std.specs.Prelude.{◌≡◌, ℕ, ◌≤◌, pos, List, [], length, drop, Option, Some, None, Result, Ok, Err}
use Rattle.std.specs.declared.alloc.AllocError.{AllocError}
use Rattle.pm_avro_schema.specs.Avro.{Avro}
use Rattle.pm_avro_data.specs.Datum.{Data}
use Rattle.pm_avro_data.specs.IsDatum.{IsDatum, AreItems}
use Rattle.pm_avro_data.specs.Number.{IsLong}
use Rattle.pm_avro_file.specs.declared.header.Preamble.{Preamble}
use Rattle.pm_avro_file.specs.Container.{IsPreamble}
use Rattle.pm_avro_file.specs.Reader.{HasNoPreamble}
use Rattle.pm_avro_file.specs.Views.{pairs_view}

-- the part, seen by view, and the rest; or none, where the source begins with no such part
abbrev pub Finds : {X Y : Type 0} → (X → Y × List ℕ) → (Y → List ℕ → List ℕ → Type 0)
    → List ℕ → Result (Option X) AllocError → Type 0
Finds view R source (Ok (Some x)) = R (view x).0 source (view x).1
Finds {Y = Y} view R source (Ok None) = (y : Y) (rest : List ℕ) → R y source rest → ⊥
Finds view R source (Err e) = Unit {0}

-- a long that isn't negative
abbrev pub IsSize : ℕ → List ℕ → List ℕ → Type 0
IsSize n = IsLong (pos n)

-- as many data of the type, one after another
abbrev pub AreData : Avro → ℕ → List Data → List ℕ → List ℕ → Type 0
AreData t count ds source rest = (length ds ≡ count) × AreItems (IsDatum t) ds source [] × (rest ≡ [])

-- a preamble is found, or none where the bytes begin with none
abbrev pub Shows : List ℕ → Result (Option Preamble) AllocError → Type 0
Shows bytes (Ok (Some found)) = (found.size ≤ length bytes)
    × IsPreamble (pairs_view found.entries.items) found.marker bytes (drop found.size bytes)
Shows bytes (Ok None) = HasNoPreamble bytes
Shows bytes (Err e) = Unit {0}
