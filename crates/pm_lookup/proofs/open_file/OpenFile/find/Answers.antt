use Rattle.std.proofs.Common.{Err}
use Rattle.std.proofs.lemmas.Result.{err_from_is_err_and}
use Rattle.pm_lookup.proofs.LookLemmas.{finds_same}
use Rattle.pm_lookup.proofs.open_file.OpenFile.find.Goals as goal

pub returns-in_err-stops-clause-finds : goal.returns-in_err-stops-clause-finds
returns-in_err-stops-clause-finds c =
    let p = err_from_is_err_and c.from_residual.result c.from_residual.ensures.1 in
    rw (p.1, p.2)
    (finds_same c.loop-self.self.reader c.args.self.now.reader c.args.key.now c.loop-self.self.begins (Err c.in_err-stops.field-0.0) c.loop-self.invariant.same c.loop-self.invariant.comes
    c.in_err-stops.ensures.refuses)
