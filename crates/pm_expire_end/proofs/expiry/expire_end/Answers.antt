use Rattle.std.proofs.Common.{rules, ◌≡◌, ap, ◌∙◌, to_z, of_z, SFits, arith}
use Rattle.std.specs.Int.{w64, w128}
use Rattle.std.proofs.lemmas.Int.{to_z-of_z}
use Rattle.pm_expire_end.specs.Expiry.{first_recent, since}
use Rattle.pm_expire_end.proofs.ExpiryLemmas.{chosen-end}
use Rattle.pm_expire_end.proofs.expiry.expire_end.Goals as goal

-- something is left to choose by time
pub returns-then-low-from : goal.returns-then-low-from
returns-then-low-from c =
    let keep = c.args.keep.now in
    let now : to_z w64 (of_z w64 c.args.now) ≡ c.args.now = to_z-of_z w64 c.args.now c.ranges.now in
    let fits : SFits w128 c.since.result = search rules in
    let from : to_z w128 (of_z w128 c.since.result) ≡ since keep c.args.now =
    to_z-of_z w128 c.since.result fits ∙ c.since.ensures ∙ ap (since keep) now in
    c.first_recent.ensures
    ∙ ap (λ z. first_recent c.args.times.now z c.lowest-low.result c.highest-high.result) from
    ∙ chosen-end c.args.times.now keep c.args.now c.args.least_next c.first_id-first.result c.last_id-last.result
    c.lowest-low.result c.highest-high.result c.first_id-first.ensures c.last_id-last.ensures c.lowest-low.ensures c.highest-high.ensures
    (omega arith)
