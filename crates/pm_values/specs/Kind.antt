-- The kinds of rows and their numbers.
use Rattle.std.specs.Prelude.{ℕ, ℤ, pos, Bool, true, false, Option, Some, None, if◌then◌else◌}
use Rattle.std.specs.Ordering.{int_eq}
use Rattle.pm_values.specs.declared.kind.Kind.{Kind}
use Rattle.pm_values.specs.declared.kind.Kind.TheVariants.{Insert, UpdateBefore, UpdateAfter, Delete}

-- the number that files have for a kind
abbrev pub code_of : Kind → ℕ
code_of Insert = 0
code_of UpdateBefore = 1
code_of UpdateAfter = 2
code_of Delete = 3

-- the kind with a number
abbrev pub kind_from : ℤ → Option Kind
kind_from n =
    if int_eq n (pos 0) then Some Insert
    else if int_eq n (pos 1) then Some UpdateBefore
    else if int_eq n (pos 2) then Some UpdateAfter
    else if int_eq n (pos 3) then Some Delete
    else None

-- whether a row of the kind takes a row away
abbrev pub retracts : Kind → Bool
retracts Insert = false
retracts UpdateBefore = true
retracts UpdateAfter = false
retracts Delete = true
