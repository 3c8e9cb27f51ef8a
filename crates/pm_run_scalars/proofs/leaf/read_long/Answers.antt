use Rattle.std.proofs.Common.{ℤ, rules, arith, subst, sym, SFits, w64}
use Rattle.std.proofs.lemmas.Int.{to_z-of_z}
use Rattle.pm_avro_data.specs.Datum.{long}
use Rattle.pm_run_scalars.specs.Spelled.{IsSpelled}
use Rattle.pm_run_scalars.proofs.SpelledLemmas.{number_is, spelled_long}
use Rattle.pm_run_scalars.proofs.leaf.read_long.Goals as goal

pub returns-in-Some-clause-written : goal.returns-in-Some-clause-written
returns-in-Some-clause-written c =
    let z : ℤ = c.from_zigzag.result in
    let fit : SFits w64 z = search rules in
    subst (λ (y : ℤ). IsSpelled c.args.bytes.now c.in-Some.rest.now (long y)) (sym (to_z-of_z w64 z fit))
    (spelled_long c.in-Some.number z c.args.bytes.now c.in-Some.rest.now (number_is c.in-Some.number z c.from_zigzag.ensures) c.in-Some.ensures.least (omega (arith, c.in-Some.ensures.short)) fit)
