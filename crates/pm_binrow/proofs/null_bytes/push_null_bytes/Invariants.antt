use Rattle.std.proofs.Common.{◌≡◌, ◌++◌, ◌∷◌, ◌-◌, length, map}
use Rattle.pm_binrow.specs.Row.{is_null, null_count, octets}
use Rattle.pm_binrow.proofs.null_bytes.push_null_bytes.Given as goal

abbrev pub invariant-loop : goal.invariant-loop
invariant-loop l = l.out.items ++ octets (null_count (length l.values) - l.counter) (map is_null l.rest)
    ≡ l.fn.out.items ++ 0 ∷ octets (null_count (length l.values) - 1) (map is_null l.values)
