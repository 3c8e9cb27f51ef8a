use Rattle.std.proofs.Common.{rules}
use Rattle.pm_store.proofs.StepLaws.{IsLater-refl}
use Rattle.pm_scan.proofs.BesideLemmas.{first-learned, last-learned, more-learned, refused-learned}
use Rattle.pm_scan.proofs.AllCallsLemmas.{call_left, was_done, was_refused, went_further}
use Rattle.pm_scan.proofs.all_calls.make_calls.Goals as goal

pub loop-alloc-init : goal.loop-alloc-init
loop-alloc-init g c =
    let store = g.F.FileStore.seen c.args.store.now in
    record {
      trace = λ a first begun. begun;
      learned = first-learned c.args.scanner store;
      left = λ not. c.requires;
      later = IsLater-refl store;
    }

pub loop-alloc-preserved : goal.loop-alloc-preserved
loop-alloc-preserved g c =
    let seen = g.F.FileStore.seen in
    record {
      trace = λ a first begun. went_further a c.loop-alloc.scanner c.take_step.new.reader first (seen c.loop-alloc.store) (seen c.take_step.new.store)
          c.in-Ok.field-0 (c.loop-alloc.invariant.trace a first begun) c.in-Ok.ensures.acts c.take_step.ensures.later;
      learned = more-learned c.past_law.ensures c.kept_law.ensures.table c.args.scanner c.loop-alloc.scanner c.take_step.new.reader (seen c.args.store.now)
          (seen c.loop-alloc.store) (seen c.take_step.new.store) c.loop-alloc.invariant.learned c.take_step.ensures.moves;
      left = call_left c.take_step.new.reader c.in-Ok.ensures.reaches;
      later = search rules;
    }

pub returns-in-Err-clause-trace : goal.returns-in-Err-clause-trace
returns-in-Err-clause-trace g c = λ a first begun.
    let seen = g.F.FileStore.seen in
    was_refused a c.loop-alloc.scanner c.take_step.new.reader first (seen c.loop-alloc.store) (seen c.take_step.new.store) c.in-Err.refusal
    (c.loop-alloc.invariant.trace a first begun) c.in-Err.ensures.acts c.take_step.ensures.later

pub returns-in-Err-clause-refused : goal.returns-in-Err-clause-refused
returns-in-Err-clause-refused g c =
    let seen = g.F.FileStore.seen in
    refused-learned c.past_law.ensures c.kept_law.ensures.table c.args.scanner c.loop-alloc.scanner c.in-Err.refusal (seen c.args.store.now) (seen c.loop-alloc.store)
    (seen c.take_step.new.store) c.loop-alloc.invariant.learned c.in-Err.ensures.tells

pub returns-clause-trace : goal.returns-clause-trace
returns-clause-trace g c = λ a first begun.
    let seen = g.F.FileStore.seen in
    was_done a c.loop-alloc.scanner c.into_text.ensures.0 c.into_text.ensures.1 c.into_text.result first (seen c.loop-alloc.store) c.into_text.ensures.2
    (c.loop-alloc.invariant.trace a first begun)

pub returns-clause-beside : goal.returns-clause-beside
returns-clause-beside g c = λ a first begun.
    let seen = g.F.FileStore.seen in
    last-learned a c.args.scanner c.loop-alloc.scanner c.into_text.ensures.0 c.into_text.ensures.1 c.into_text.result first (seen c.args.store.now) (seen c.loop-alloc.store)
    c.into_text.ensures.2 (c.loop-alloc.invariant.trace a first begun) c.loop-alloc.invariant.learned
