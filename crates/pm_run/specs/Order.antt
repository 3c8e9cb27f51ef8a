-- The order of the rows of a file.
use Rattle.std.specs.Prelude.{List, [], ◌∷◌, map, Bool, true, false, not, ◌&&◌, Option, Some, None}
use Rattle.std.specs.Prelude.{Result, Ok, Err, if◌then◌else◌}
use Rattle.std.specs.List.{last_or}
use Rattle.std.specs.Ordering.{is_gt, is_lt}
use Rattle.pm_values.specs.Order.{Values, key_cmp}
use Rattle.pm_values.specs.declared.record.Stamped.{Stamped}
use Rattle.pm_record.specs.declared.misfit.Misfit.{Misfit}
use Rattle.pm_record.specs.declared.misfit.Misfit.TheVariants.{Bad}

-- the keys of rows
abbrev pub keys_of : List Stamped → List Values
keys_of rows = map (λ (x : Stamped). x.key) rows

-- the key of the last row, or the one before all rows
abbrev pub last_key : Option Values → List Stamped → Option Values
last_key before rows = last_or before (keys_of rows)

-- a key may follow another: in a data file keys rise, in a changelog file they don't fall
abbrev pub rises : Bool → Values → Values → Bool
rises false a b = is_lt (key_cmp a b)
rises true a b = not (is_gt (key_cmp a b))

-- a key may be the next; the first of a file may be any
abbrev pub may_follow : Bool → Option Values → Values → Bool
may_follow changes None key = true
may_follow changes (Some last) key = rises changes last key

-- a row whose key may be the next, else a misfit
abbrev pub following : Bool → Option Values → Stamped → Result Stamped Misfit
following changes before x = if may_follow changes before x.key then Ok x else Err Bad

-- each key may follow the one before it
abbrev pub are_in_order : Bool → Option Values → List Stamped → Bool
are_in_order changes before [] = true
are_in_order changes before (x ∷ rows) = may_follow changes before x.key && are_in_order changes (Some x.key) rows
