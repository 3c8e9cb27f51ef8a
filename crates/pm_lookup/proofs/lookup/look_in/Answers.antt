use Rattle.std.proofs.Common.{sym, ◌∙◌}
use Rattle.pm_lookup.specs.File.{seen}
use Rattle.pm_lookup.proofs.StepLemmas.{one_more}
use Rattle.pm_lookup.proofs.lookup.look_in.Goals as goal

pub returns-then-not-may_hold-clause-opened : goal.returns-then-not-may_hold-clause-opened
returns-then-not-may_hold-clause-opened g c = c.let_go.ensures.opened c.args.schema.now c.requires

pub returns-clause-looks : goal.returns-clause-looks
returns-clause-looks g c = λ before have.
    one_more (g.E.MergeEngine.meaning c.args.engine.now) c.args.schema.now c.args.key.now before (seen c.args.file.now) c.args.newer have (sym c.may_hold.ensures ∙ c.if-not-may_hold.false)
    c.in_ok-found.found c.in_ok-under.field-0 c.in_ok-found.ensures.looks c.in_ok-under.ensures
