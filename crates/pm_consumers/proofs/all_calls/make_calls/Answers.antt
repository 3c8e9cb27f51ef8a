use Rattle.std.proofs.Common.{rules}
use Rattle.pm_store.proofs.StepLaws.{IsLater-refl}
use Rattle.pm_consumers.proofs.AllCallsLemmas.{begun, call_left, was_done, was_refused, went_further}
use Rattle.pm_consumers.proofs.BesideLemmas.{first-learned, more-learned, refused-learned}
use Rattle.pm_consumers.proofs.all_calls.make_calls.Goals as goal

pub loop-alloc-init : goal.loop-alloc-init
loop-alloc-init g c =
    let store = g.F.FileStore.seen c.args.store.now in
    record {
      trace = begun c.consumer_lister-lister.result store c.consumer_lister-lister.ensures;
      learned = first-learned store;
      left = search rules;
      later = IsLater-refl store;
    }

pub loop-alloc-preserved : goal.loop-alloc-preserved
loop-alloc-preserved g c =
    let seen = g.F.FileStore.seen in
    record {
      trace = went_further c.loop-alloc.lister c.take_step.new.reader (seen c.args.store.now) (seen c.loop-alloc.store) (seen c.take_step.new.store)
          c.loop-alloc.invariant.trace (c.in-Ok.ensures.acts tt) c.take_step.ensures.later;
      learned = more-learned c.past_law.ensures (seen c.args.store.now) (seen c.loop-alloc.store) (seen c.take_step.new.store)
          c.loop-alloc.invariant.learned c.take_step.ensures.moves;
      left = call_left c.take_step.new.reader c.in-Ok.ensures.reaches;
      later = search rules;
    }

pub returns-in-Err-clause-trace : goal.returns-in-Err-clause-trace
returns-in-Err-clause-trace g c =
    let seen = g.F.FileStore.seen in
    was_refused c.loop-alloc.lister c.take_step.new.reader (seen c.args.store.now) (seen c.loop-alloc.store) (seen c.take_step.new.store)
    c.in-Err.refusal c.loop-alloc.invariant.trace (c.in-Err.ensures.acts tt) c.take_step.ensures.later

pub returns-in-Err-clause-beside : goal.returns-in-Err-clause-beside
returns-in-Err-clause-beside g c =
    let seen = g.F.FileStore.seen in
    refused-learned c.past_law.ensures c.in-Err.refusal (seen c.args.store.now) (seen c.loop-alloc.store) (seen c.take_step.new.store)
    c.loop-alloc.invariant.learned c.in-Err.ensures.tells

pub returns-clause-trace : goal.returns-clause-trace
returns-clause-trace g c =
    let seen = g.F.FileStore.seen in
    was_done c.loop-alloc.lister c.into_consumers.result (seen c.args.store.now) (seen c.loop-alloc.store) (c.is_list_done.ensures.0 (search rules))
    c.into_consumers.ensures c.loop-alloc.invariant.trace
