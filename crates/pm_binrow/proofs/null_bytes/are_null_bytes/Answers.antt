use Rattle.std.proofs.Common.{map, sym, ◌∙◌}
use Rattle.std.proofs.lemmas.List.{nil_from_length, drop_all, drop_more}
use Rattle.pm_binrow.specs.Row.{is_null, null_bits}
use Rattle.pm_binrow.proofs.Bits.{are_octets-none, zero_first, other_first, same_octet, other_octet}
use Rattle.pm_binrow.proofs.null_bytes.are_null_bytes.Goals as goal

pub returns-in_default : goal.returns-in_default
returns-in_default c =
    rw (nil_from_length c.args.nulls.now c.in_default.ensures.cases) (sym (are_octets-none (null_bits (map is_null c.args.values.now))))

pub returns-then-first-ne0 : goal.returns-then-first-ne0
returns-then-first-ne0 c =
    sym (other_first c.args.nulls.now c.in-Some.first.now c.in-Some.later.now (map is_null c.args.values.now) c.in-Some.ensures.cases.0 c.if-first-ne0.true)

pub returns-then-byte-octet : goal.returns-then-byte-octet
returns-then-byte-octet c =
    let next = drop_more c.in-Some.later.now c.loop-byte.byte-index 0 c.loop-byte-test.true in
    let here = rw next at c.loop-byte.invariant in
    sym (zero_first c.args.nulls.now c.in-Some.first.now c.in-Some.later.now (map is_null c.args.values.now) c.in-Some.ensures.cases.0 c.if-first-ne0.false
    ∙ sym here ∙ other_octet _ _ c.loop-byte.rest.now c.split_eight.result.0.now c.split_eight.ensures.first (λ e. c.if-byte-octet.true (e ∙ sym c.octet.ensures)))

pub loop-byte-preserved : goal.loop-byte-preserved
loop-byte-preserved c =
    let next = drop_more c.in-Some.later.now c.loop-byte.byte-index 0 c.loop-byte-test.true in
    let here = rw next at c.loop-byte.invariant in
    sym (same_octet _ _ c.loop-byte.rest.now c.split_eight.result.0.now c.split_eight.result.1.now c.split_eight.ensures.first c.split_eight.ensures.later (c.if-byte-octet.false ∙ c.octet.ensures)) ∙ here

pub returns : goal.returns
returns c =
    sym (zero_first c.args.nulls.now c.in-Some.first.now c.in-Some.later.now (map is_null c.args.values.now) c.in-Some.ensures.cases.0 c.if-first-ne0.false
    ∙ sym c.loop-byte.invariant ∙ rw (drop_all c.loop-byte.byte-index c.in-Some.later.now c.loop-byte-test.false) (are_octets-none (map is_null c.loop-byte.rest.now)))
