-- The columns of a partition's values.
use Rattle.std.specs.Prelude.{◌≡◌, false, List, IsSomeAnd}
use Rattle.std.specs.Prelude.{ℕ}
use Rattle.std.specs.List.{find}
use Rattle.std.specs.Str.{bytes_eq}
use Rattle.pm_values.specs.declared.column.Column.{Column}

-- the first column of the name has this one's type, and this one has no null
abbrev pub StandsFor : List Column → List ℕ → Column → Type 0
StandsFor columns name column =
    IsSomeAnd (find (λ c. bytes_eq c.name name) columns) (λ c. c.kind ≡ column.kind) × (column.nullable ≡ false)
