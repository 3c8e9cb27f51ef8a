-- Rows that are given one after another, where they lie in the bytes of a file.
use Rattle.std.specs.Prelude.{◌≡◌, ℕ, List, [], ◌∷◌, Option, None, Some}
use Rattle.std.specs.Borrow.{Bor}
use Rattle.pm_avro_data.specs.Adding.{Adds}
use Rattle.pm_values.specs.declared.record.Stamped.{Stamped}
use Rattle.pm_run.specs.Form.{Form}
use Rattle.pm_run.specs.Row.{row_data}
use Rattle.pm_run.specs.Typed.{IsWritable}
use Rattle.pm_run_bytes.specs.declared.lying.FileRows.{FileRows}

-- the rows that are still given
abbrev pub lying_rows : FileRows → List Stamped
lying_rows v = v.known.0

-- The first of the rows stands in the place, and the others are left; or none does, where there is none, and nothing
-- changes.
abbrev pub GivesFirst : List Stamped → Option Stamped → List Stamped → Type 0
GivesFirst old None new = (old ≡ []) × (new ≡ old)
GivesFirst old (Some x) new = old ≡ x ∷ new

-- these bytes are what is written of the row, if there is one, which can be written
abbrev pub IsContentOf : Form → Option Stamped → List ℕ → Type 0
IsContentOf f None content = Unit {0}
IsContentOf f (Some x) content = IsWritable f x × Adds [] content (row_data f x)

-- so where its bytes are known
abbrev pub HasContentOf : Form → Option Stamped → Option (Bor (List ℕ)) → Type 0
HasContentOf f None content = Unit {0}
HasContentOf f (Some x) None = Unit {0}
HasContentOf f (Some x) (Some content) = IsContentOf f (Some x) content.now
