use Rattle.std.proofs.Common.{Some, subst, sym}
use Rattle.pm_machine.specs.Trace.{HasTrace}
use Rattle.pm_scan.specs.Asked.{passed_at}
use Rattle.pm_scan.specs.Trace.{Did}
use Rattle.pm_scan.specs.declared.phase.Phase.{Phase}
use Rattle.pm_scan.specs.declared.rows.Rows.TheVariants as shown
use Rattle.pm_scan.proofs.AskedLemmas.{names-asked}
use Rattle.pm_scan.proofs.BesideLemmas.{learned-by, refused-by}
use Rattle.pm_scan.proofs.AllCallsLemmas.{begun, first_left}
use Rattle.pm_scan.proofs.all_calls.scan_passed.Goals as goal

pub make_calls-requires : goal.make_calls-requires
make_calls-requires g c = first_left (passed_at c.args.schema c.args.id) c.passed_scan.result c.passed_scan.ensures

pub returns-clause-own : goal.returns-clause-own
returns-clause-own g c =
    let seen = g.F.FileStore.seen in
    let a = passed_at c.args.schema c.args.id in
    c.make_calls.ensures.trace a (seen c.args.store.now)
    (subst (λ (m : Phase). HasTrace (Did a m) (seen c.args.store.now) (seen c.args.store.now)) (sym c.passed_scan.ensures) (begun a (seen c.args.store.now) tt))

pub returns-clause-beside : goal.returns-clause-beside
returns-clause-beside g c =
    let seen = g.F.FileStore.seen in
    let a = passed_at c.args.schema c.args.id in
    let own = subst (λ (m : Phase). HasTrace (Did a m) (seen c.args.store.now) (seen c.args.store.now)) (sym c.passed_scan.ensures) (begun a (seen c.args.store.now) tt) in
    learned-by shown.Passed c.args.schema (Some c.args.id) c.passed_scan.result c.make_calls.result (seen c.args.store.now) (seen c.make_calls.new.store)
    c.passed_scan.ensures own c.make_calls.ensures.beside

pub returns-clause-refused : goal.returns-clause-refused
returns-clause-refused g c =
    let seen = g.F.FileStore.seen in
    refused-by shown.Passed c.args.schema (Some c.args.id) c.passed_scan.result c.make_calls.result (seen c.args.store.now) (seen c.make_calls.new.store)
    c.passed_scan.ensures c.make_calls.ensures.refused

pub returns-clause-named : goal.returns-clause-named
returns-clause-named g c =
    let seen = g.F.FileStore.seen in
    let a = passed_at c.args.schema c.args.id in
    let own = subst (λ (m : Phase). HasTrace (Did a m) (seen c.args.store.now) (seen c.args.store.now)) (sym c.passed_scan.ensures) (begun a (seen c.args.store.now) tt) in
    names-asked shown.Passed c.args.schema (Some c.args.id) c.make_calls.result (seen c.args.store.now) (seen c.make_calls.new.store)
    (c.make_calls.ensures.trace a (seen c.args.store.now) own)
