use Rattle.std.proofs.Common.{sym}
use Rattle.pm_snapshot.proofs.PartLemmas.{counted_uncut, counted_without_count, counted_found, counted_other}
use Rattle.pm_snapshot.proofs.parts.base_in_counted.Goals as goal

pub returns-in_err-base-clause-other : goal.returns-in_err-base-clause-other
returns-in_err-base-clause-other c = rw c.from_residual.ensures
    (counted_uncut c.args.text.now c.in_err-base.ensures.other)

pub returns-in_err-natural_in-clause-other : goal.returns-in_err-natural_in-clause-other
returns-in_err-natural_in-clause-other c =
    rw c.from_residual-in_err-natural_in.ensures
    (counted_without_count c.args.text.now c.in_ok-base.base.now c.in_ok-base.count.now c.in_ok-base.ensures.found
    (sym c.in_err-natural_in.ensures))

pub returns-clause-found : goal.returns-clause-found
returns-clause-found c =
    counted_found c.number_in.result c.args.text.now c.in_ok-base.base.now c.in_ok-base.count.now
    c.in_ok-natural_in.field-0 c.in_ok-base.ensures.found (sym c.in_ok-natural_in.ensures) c.number_in.ensures

pub returns-clause-other : goal.returns-clause-other
returns-clause-other c =
    counted_other c.number_in.result c.args.text.now c.in_ok-base.base.now c.in_ok-base.count.now
    c.in_ok-base.ensures.found c.number_in.ensures
