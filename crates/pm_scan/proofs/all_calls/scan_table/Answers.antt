use Rattle.std.proofs.Common.{subst, sym}
use Rattle.pm_machine.specs.Trace.{HasTrace}
use Rattle.pm_scan.specs.AllCalls.{text_in}
use Rattle.pm_scan.specs.Asked.{asked_at}
use Rattle.pm_scan.specs.Trace.{Did}
use Rattle.pm_scan.specs.declared.phase.Phase.{Phase}
use Rattle.pm_scan.specs.declared.rows.Rows.TheVariants as shown
use Rattle.pm_scan.proofs.AskedLemmas.{names-asked}
use Rattle.pm_scan.proofs.BesideLemmas.{learned-by, refused-by}
use Rattle.pm_scan.proofs.AllCallsLemmas.{begins, begun, first_left, went_on}
use Rattle.pm_scan.proofs.all_calls.scan_table.Goals as goal

pub make_calls-requires : goal.make_calls-requires
make_calls-requires g c = first_left (asked_at c.args.schema c.args.at) c.scanner_of.result c.scanner_of.ensures

pub returns-clause-own : goal.returns-clause-own
returns-clause-own g c =
    let seen = g.F.FileStore.seen in
    let a = asked_at c.args.schema c.args.at in
    let begun_here = subst (λ (m : Phase). HasTrace (Did a m) (seen c.args.store.now) (seen c.args.store.now)) (sym c.scanner_of.ensures)
    (begun a (seen c.args.store.now) (begins c.args.at)) in
    c.make_calls.ensures.trace a (seen c.args.store.now) begun_here

pub returns-clause-trace : goal.returns-clause-trace
returns-clause-trace g c = λ first has.
    let seen = g.F.FileStore.seen in
    let a = asked_at c.args.schema c.args.at in
    let own = subst (λ (m : Phase). HasTrace (Did a m) (seen c.args.store.now) (seen c.args.store.now)) (sym c.scanner_of.ensures) (begun a (seen c.args.store.now) (begins c.args.at)) in
    went_on c.args.schema c.args.at (text_in c.make_calls.result) first (seen c.args.store.now) (seen c.make_calls.new.store) has
    (c.make_calls.ensures.trace a (seen c.args.store.now) own)

pub returns-clause-history : goal.returns-clause-history
returns-clause-history g c = λ first has.
    let seen = g.F.FileStore.seen in
    let a = asked_at c.args.schema c.args.at in
    let own = subst (λ (m : Phase). HasTrace (Did a m) (seen c.args.store.now) (seen c.args.store.now)) (sym c.scanner_of.ensures) (begun a (seen c.args.store.now) (begins c.args.at)) in
    let trace = went_on c.args.schema c.args.at (text_in c.make_calls.result) first (seen c.args.store.now) (seen c.make_calls.new.store) has
    (c.make_calls.ensures.trace a (seen c.args.store.now) own) in
    c.all_calls_law.ensures.scan c.args.schema c.args.at (text_in c.make_calls.result) first (seen c.make_calls.new.store) c.requires.declared trace

pub returns-clause-beside : goal.returns-clause-beside
returns-clause-beside g c =
    let seen = g.F.FileStore.seen in
    let a = asked_at c.args.schema c.args.at in
    let own = subst (λ (m : Phase). HasTrace (Did a m) (seen c.args.store.now) (seen c.args.store.now)) (sym c.scanner_of.ensures) (begun a (seen c.args.store.now) (begins c.args.at)) in
    learned-by shown.All c.args.schema c.args.at c.scanner_of.result c.make_calls.result (seen c.args.store.now) (seen c.make_calls.new.store)
    c.scanner_of.ensures own c.make_calls.ensures.beside

pub returns-clause-refused : goal.returns-clause-refused
returns-clause-refused g c =
    let seen = g.F.FileStore.seen in
    refused-by shown.All c.args.schema c.args.at c.scanner_of.result c.make_calls.result (seen c.args.store.now) (seen c.make_calls.new.store)
    c.scanner_of.ensures c.make_calls.ensures.refused

pub returns-clause-named : goal.returns-clause-named
returns-clause-named g c =
    let seen = g.F.FileStore.seen in
    let a = asked_at c.args.schema c.args.at in
    let own = subst (λ (m : Phase). HasTrace (Did a m) (seen c.args.store.now) (seen c.args.store.now)) (sym c.scanner_of.ensures) (begun a (seen c.args.store.now) (begins c.args.at)) in
    names-asked shown.All c.args.schema c.args.at c.make_calls.result (seen c.args.store.now) (seen c.make_calls.new.store)
    (c.make_calls.ensures.trace a (seen c.args.store.now) own)
