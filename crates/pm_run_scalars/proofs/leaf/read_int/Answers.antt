use Rattle.std.proofs.Common.{ℤ, rules, arith, subst, sym, ap, ◌∙◌, SFits, w32, w64, to_z, of_z}
use Rattle.std.proofs.lemmas.Int.{to_z-of_z}
use Rattle.pm_avro_data.specs.Datum.{int}
use Rattle.pm_run_scalars.specs.Spelled.{IsSpelled}
use Rattle.pm_run_scalars.proofs.SpelledLemmas.{number_is, spelled_int}
use Rattle.pm_run_scalars.proofs.leaf.read_int.Goals as goal

pub returns-in-Some-clause-written : goal.returns-in-Some-clause-written
returns-in-Some-clause-written c =
    let z : ℤ = c.from_zigzag.result in
    let wide : SFits w64 z = search rules in
    let fit : SFits w32 z = search rules in
    subst (λ (y : ℤ). IsSpelled c.args.bytes.now c.in-Some.rest.now (int y)) (sym (ap (λ (y : ℤ). to_z w32 (of_z w32 y)) (to_z-of_z w64 z wide) ∙ to_z-of_z w32 z fit))
    (spelled_int c.in-Some.number z c.args.bytes.now c.in-Some.rest.now (number_is c.in-Some.number z c.from_zigzag.ensures) c.in-Some.ensures.least (omega (arith, c.in-Some.ensures.short)) fit)
