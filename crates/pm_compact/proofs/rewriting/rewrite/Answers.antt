use Rattle.std.proofs.Common.{map, arith}
use Rattle.std.proofs.lemmas.Result.{err_from_is_err_and}
use Rattle.pm_compact.specs.Rewriting.{asked_of}
use Rattle.pm_compact.proofs.rewriting.rewrite.Goals as goal

pub returns-in_err-file-clause-refuses : goal.returns-in_err-file-clause-refuses
returns-in_err-file-clause-refuses g c =
    let p = err_from_is_err_and c.from_residual-in_err-file.result c.from_residual-in_err-file.ensures.1 in
    let asked = asked_of c.args.schema.now c.args.level c.args.drop c.args.names.now (map g.S.RowSource.rest c.args.older_first.items) in
    rw (p.1, p.2) (λ other. c.in_err-file.ensures.refuses other asked c.loop-files.files.items c.loop-files.invariant.given)

-- each file has a row
pub loop-files-smaller : goal.loop-files-smaller
loop-files-smaller g c =
    let asked = asked_of c.args.schema.now c.args.level c.args.drop c.args.names.now (map g.S.RowSource.rest c.args.older_first.items) in
    omega (arith, rw c.in-Some.is at (c.in_ok-file.ensures.fewer asked c.loop-files.files.items c.loop-files.invariant.given))

-- all were given
pub returns-clause-files : goal.returns-clause-files
returns-clause-files g c =
    let asked = asked_of c.args.schema.now c.args.level c.args.drop c.args.names.now (map g.S.RowSource.rest c.args.older_first.items) in
    (rw c.in_default.is at (c.in_ok-file.ensures.gives asked c.loop-files.files.items c.loop-files.invariant.given)).0
