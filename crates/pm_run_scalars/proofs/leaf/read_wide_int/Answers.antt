use Rattle.std.proofs.Common.{ℤ, rules, subst, sym, SFits, w32}
use Rattle.std.proofs.lemmas.Int.{to_z-of_z}
use Rattle.pm_avro_data.specs.Datum.{int}
use Rattle.pm_run_scalars.specs.Spelled.{IsSpelled}
use Rattle.pm_run_scalars.proofs.SpelledLemmas.{wide_int}
use Rattle.pm_run_scalars.proofs.leaf.read_wide_int.Goals as goal

pub returns-clause-written : goal.returns-clause-written
returns-clause-written c =
    let z : ℤ = c.in_ok-number.number in
    let fit : SFits w32 z = search rules in
    subst (λ (y : ℤ). IsSpelled c.args.bytes.now c.in_ok-rest.rest.now (int y)) (sym (to_z-of_z w32 z fit))
    (wide_int z c.args.bytes.now c.in_ok-rest.rest.now c.in_ok-number.size c.in_ok-rest.ensures.rest c.in_ok-rest.ensures.least c.in_ok-number.ensures fit)
