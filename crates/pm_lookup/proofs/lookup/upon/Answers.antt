use Rattle.std.proofs.Common.{subst}
use Rattle.pm_lookup.specs.Lookup.{AreOne}
use Rattle.pm_lookup.proofs.FileLemmas.{upon_none, upon_one}
use Rattle.pm_lookup.proofs.lookup.upon.Goals as goal

pub returns-in_ok-combined-in-Some : goal.returns-in_ok-combined-in-Some
returns-in_ok-combined-in-Some g c = λ rows one.
    let m = g.E.MergeEngine.meaning c.args.engine.now in
    upon_one m rows c.args.older c.in-Some.newer c.in_ok-combined-in-Some.field-0 (subst (AreOne m rows) c.in-Some.is one) c.in_ok-combined-in-Some.ensures

pub returns-in-None : goal.returns-in-None
returns-in-None g c = λ rows none.
    let m = g.E.MergeEngine.meaning c.args.engine.now in
    upon_none m rows c.args.older (subst (AreOne m rows) c.in-None.is none)
