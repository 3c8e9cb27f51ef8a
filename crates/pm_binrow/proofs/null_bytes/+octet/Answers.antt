use Rattle.std.proofs.Common.{◌≤◌, length, map, arith}
use Rattle.std.proofs.lemmas.List.{length-map}
use Rattle.pm_binrow.specs.Row.{is_null}
use Rattle.pm_binrow.proofs.Bits.{bool_byte-le, octet_below}
use Rattle.pm_binrow.proofs.null_bytes.+octet.Goals as goal

pub overflow_mul-result : goal.overflow_mul-result
overflow_mul-result t c =
    let parts = c.in-Some.ensures.cases in
    let few : length (map is_null c.in-Some.later.now) ≤ 7 = omega (arith, parts.1, length-map c.in-Some.later.now is_null) in
    omega (arith, octet_below (map is_null c.in-Some.later.now) few, c.octet.ensures)

pub overflow_add-result : goal.overflow_add-result
overflow_add-result t c =
    let parts = c.in-Some.ensures.cases in
    let few : length (map is_null c.in-Some.later.now) ≤ 7 = omega (arith, parts.1, length-map c.in-Some.later.now is_null) in
    let below = octet_below (map is_null c.in-Some.later.now) few in
    omega (arith, below, c.octet.ensures, c.from.ensures, bool_byte-le c.is_null.result)
