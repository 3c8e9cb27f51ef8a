use Rattle.std.proofs.Common.{◌≡◌, ◌++◌, drop, pos, rules, sym, arith, ◌∙◌}
use Rattle.pm_avro_data.specs.Number.{IsLong}
use Rattle.pm_run_bytes.proofs.DirectLemmas.{content_read, rest_within}
use Rattle.pm_run_bytes.proofs.direct.Direct.content.Goals as goal

pub overflow_sub-result : goal.overflow_sub-result
overflow_sub-result c =
    let counted : IsLong (pos c.in_ok-count.count) (drop c.args.offset c.args.bytes.now) c.in_ok-count.middle.now = search rules in
    let marked : drop c.in_ok-size.size c.in_ok-size.left.now ≡ c.as_slice.result.now ++ c.in_ok-rest.rest.now = sym c.split_at-2.ensures.back ∙ c.in_ok-rest.ensures in
    rest_within c.args.bytes.now c.args.offset c.in_ok-count.count c.in_ok-size.size c.in_ok-count.middle.now c.in_ok-size.left.now c.as_slice.result.now c.in_ok-rest.rest.now
    counted c.in_ok-size.ensures.long marked

pub returns : goal.returns
returns c =
    let counted : IsLong (pos c.in_ok-count.count) (drop c.args.offset c.args.bytes.now) c.in_ok-count.middle.now = search rules in
    let marked : drop c.in_ok-size.size c.in_ok-size.left.now ≡ c.as_slice.result.now ++ c.in_ok-rest.rest.now = sym c.split_at-2.ensures.back ∙ c.in_ok-rest.ensures in
    content_read c.args.bytes.now c.args.offset c.in_ok-count.count c.in_ok-size.size c.in_ok-count.middle.now c.in_ok-size.left.now c.as_slice.result.now c.in_ok-rest.rest.now
    counted c.in_ok-size.ensures.long marked c.args.self.now _ c.split_at-2.ensures.front c.as_slice.ensures.value (omega (arith, c.if-size-count.false)) (omega (arith, c.if-left-size.false))
