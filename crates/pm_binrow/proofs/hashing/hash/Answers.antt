use Rattle.std.proofs.Common.{◌≡◌, ◌<◌, ◌%◌, ◌^◌, length, bit_xor, rules, arith, ap, ℕ, ◌∙◌}
use Rattle.std.proofs.lemmas.Int.{to_z-of_z}
use mir.Val.{SFits}
use Rattle.std.specs.Int.{w32, cast_signed}
use Rattle.std.specs.List.{fold}
use Rattle.pm_binrow.specs.Hashing.{finished, hash_of, mixed, words}
use Rattle.pm_binrow.proofs.Words.{taken, all_taken}
use Rattle.pm_binrow.proofs.hashing.hash.Goals as goal

pub loop-word-preserved : goal.loop-word-preserved
loop-word-preserved c =
    let cases = c.in-Some.ensures.cases in
    rw (c.mixed-hash.ensures, c.read_word.ensures)
    (taken c.loop-word.hash c.loop-word.rest.now c.in-Some.word.now c.in-Some.after.now _ (omega (arith, cases.2)) cases.0 cases.1 c.loop-word.invariant)

pub returns : goal.returns
unfolding hash_of
returns c =
    let left : length c.loop-word.rest.now < 4 = c.in_default.ensures.cases in
    let taken : c.loop-word.hash ≡ fold mixed 42 (words c.args.body.now) = all_taken c.loop-word.hash c.loop-word.rest.now _ left c.loop-word.invariant in
    let fits : SFits w32 c.cast_signed.result = search rules in
    to_z-of_z w32 c.cast_signed.result fits ∙ c.cast_signed.ensures
    ∙ ap (cast_signed w32) (c.finished.ensures ∙ ap (λ (h : ℕ). finished (bit_xor h (length c.args.body.now % 2 ^ 32))) taken)
