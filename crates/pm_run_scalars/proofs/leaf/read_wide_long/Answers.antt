use Rattle.std.proofs.Common.{ℤ, rules, subst, sym, SFits, w64}
use Rattle.std.proofs.lemmas.Int.{to_z-of_z}
use Rattle.pm_avro_data.specs.Datum.{long}
use Rattle.pm_run_scalars.specs.Spelled.{IsSpelled}
use Rattle.pm_run_scalars.proofs.SpelledLemmas.{wide_long}
use Rattle.pm_run_scalars.proofs.leaf.read_wide_long.Goals as goal

pub returns-clause-written : goal.returns-clause-written
returns-clause-written c =
    let z : ℤ = c.in_ok-number.number in
    let fit : SFits w64 z = search rules in
    subst (λ (y : ℤ). IsSpelled c.args.bytes.now c.in_ok-rest.rest.now (long y)) (sym (to_z-of_z w64 z fit))
    (wide_long z c.args.bytes.now c.in_ok-rest.rest.now c.in_ok-number.size c.in_ok-rest.ensures.rest c.in_ok-rest.ensures.least c.in_ok-number.ensures fit)
