-- Private: a step of what is left of an integer in a type's bits.
use Rattle.std.specs.Prelude.{ℕ, ◌^◌}
use Rattle.pm_values.specs.declared.column.ColType.{ColType}
use Rattle.pm_values.specs.declared.column.ColType.TheVariants as types

-- the least number that is too great for an integer type
abbrev pub half_of : ColType → ℕ
half_of types.TinyInt = 2 ^ 7
half_of types.SmallInt = 2 ^ 15
half_of types.Int = 2 ^ 31
half_of kind = 2 ^ 63
