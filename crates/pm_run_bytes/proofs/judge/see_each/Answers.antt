use Rattle.std.proofs.Common.{◌≡◌, ◌<◌, ◌+◌, [], ◌∷◌, ◌++◌, length, map, take, slice_set, ap, ◌∙◌, arith}
use Rattle.std.proofs.lemmas.List.{length-set, map-append, take_more_set}
use Rattle.pm_row_slots.specs.Seen.{seen_value}
use Rattle.pm_run_bytes.proofs.DirectLemmas.{cells_next}
use Rattle.pm_run_bytes.proofs.judge.see_each.Goals as goal

-- one value more
pub loop-index-preserved : goal.loop-index-preserved
loop-index-preserved c =
    let i = c.loop-index.index in
    let into = c.loop-index.into in
    let seen = c.in_ok-seen.seen in
    let within : i < length into = omega (arith, c.loop-index-test.true, c.loop-index.invariant.1) in
    let more : map seen_value (take (i + 1) (slice_set into i seen)) ≡ map seen_value (take i into) ++ seen_value seen ∷ [] =
    ap (map seen_value) (take_more_set into i seen within) ∙ map-append seen_value (take i into) (seen ∷ []) in (
      cells_next c.args.fields.now i (map seen_value (take i into)) (map seen_value (take (i + 1) (slice_set into i seen))) c.index-fields-index.result (seen_value seen) c.args.bytes.now
          c.loop-index.rest.now c.in_ok-seen.after.now c.loop-index-test.true c.index-fields-index.is more c.loop-index.invariant.0 c.in_ok-seen.ensures,
      length-set into i seen ∙ c.loop-index.invariant.1,
    )
