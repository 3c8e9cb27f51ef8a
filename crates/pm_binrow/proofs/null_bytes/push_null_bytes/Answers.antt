use Rattle.std.proofs.Common.{◌≡◌, ◌++◌, [], ◌+◌, ◌-◌, length, map, ℕ, List, sym, ap, ◌∙◌, arith}
use Rattle.std.proofs.lemmas.List.{append-nil, length-map}
use Rattle.pm_binrow.specs.Row.{is_null, null_bits, null_count, octets}
use Rattle.pm_binrow.proofs.Bits.{null_count-positive, octets_first, octets_none, octets_pushed}
use Rattle.pm_binrow.proofs.null_bytes.push_null_bytes.Goals as goal

pub loop-preserved : goal.loop-preserved
loop-preserved c =
    let count = null_count (length c.args.values.now) in
    rw c.in_ok-push-2.ensures.items
    (octets_pushed c.loop.out.items (count - c.loop.counter) (count - (c.loop.counter + 1)) c.loop.rest.now c.split_eight.result.0.now c.split_eight.result.1.now c.octet.result _
    (omega (arith, c.loop-test.true, c.null_count-end.ensures)) c.split_eight.ensures.first c.split_eight.ensures.later c.octet.ensures c.loop.invariant)

pub returns : goal.returns
returns c =
    let flags = map is_null c.args.values.now in
    let count = null_count (length c.args.values.now) in
    let many : count ≡ null_count (length flags) = sym (ap null_count (length-map c.args.values.now is_null)) in
    let none : count - c.loop.counter ≡ 0 = omega (arith, c.loop-test.false, c.null_count-end.ensures) in
    let left : octets (count - c.loop.counter) (map is_null c.loop.rest.now) ≡ [] = rw none (octets_none (map is_null c.loop.rest.now)) in
    sym (append-nil c.loop.out.items) ∙ ap (λ (bytes : List ℕ). c.loop.out.items ++ bytes) (sym left) ∙ c.loop.invariant
    ∙ ap (λ (bytes : List ℕ). c.args.out.now.items ++ bytes) (sym (octets_first count flags (omega (arith, null_count-positive (length c.args.values.now)))) ∙ ap (λ (n : ℕ). octets n (null_bits flags)) many)
