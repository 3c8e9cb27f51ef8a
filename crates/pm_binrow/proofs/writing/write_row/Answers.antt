use Rattle.std.proofs.Common.{◌≡◌, arith}
use Rattle.std.proofs.lemmas.Grind.{common_steps}
use Rattle.pm_binrow.specs.Row.{bytes_of}
use Rattle.pm_binrow.proofs.Sizes.{length-bytes_of, words-bytes_of}
use Rattle.pm_binrow.proofs.writing.write_row.Goals as goal

pub returns-clause-short : goal.returns-clause-short
returns-clause-short c =
    let all : c.push_tails.new.out.items ≡ bytes_of c.args.types.now c.args.values.now = grind (arith, common_steps) in
    let size = length-bytes_of c.args.types.now c.args.values.now c.requires in
    rw all (omega (arith, size, c.in_ok-size.ensures.size, c.in_ok-size.ensures.bound))

pub returns-clause-words : goal.returns-clause-words
returns-clause-words c =
    let all : c.push_tails.new.out.items ≡ bytes_of c.args.types.now c.args.values.now = grind (arith, common_steps) in
    rw all (words-bytes_of c.args.types.now c.args.values.now c.requires)
