use Rattle.std.proofs.Common.{rules}
use Rattle.pm_store.proofs.StepLaws.{IsLater-refl}
use Rattle.pm_read_schema.proofs.AllCallsLemmas.{call_left, was_refused, went_further}
use Rattle.pm_read_schema.proofs.BesideLemmas.{first-learned, last-learned, more-learned, refused-learned}
use Rattle.pm_read_schema.proofs.all_calls.make_calls.Goals as goal

pub loop-alloc-init : goal.loop-alloc-init
loop-alloc-init g c =
    let store = g.F.FileStore.seen c.args.store.now in
    record {
      trace = search rules;
      left = search rules;
      learned = first-learned c.schema_reader-reader.result store c.schema_reader-reader.ensures;
      later = IsLater-refl store;
    }

pub loop-alloc-preserved : goal.loop-alloc-preserved
loop-alloc-preserved g c =
    let seen = g.F.FileStore.seen in
    record {
      trace = went_further c.loop-alloc.reader c.take_step.new.reader (seen c.args.store.now) (seen c.loop-alloc.store) (seen c.take_step.new.store)
          c.loop-alloc.invariant.trace (c.in-Ok.ensures.acts tt) c.take_step.ensures.later;
      left = call_left c.take_step.new.reader c.in-Ok.ensures.reaches;
      learned = more-learned c.past_law.ensures c.loop-alloc.reader c.take_step.new.reader (seen c.args.store.now) (seen c.loop-alloc.store)
          (seen c.take_step.new.store) c.loop-alloc.invariant.learned c.take_step.ensures.moves;
      later = search rules;
    }

pub returns-in-Err-clause-trace : goal.returns-in-Err-clause-trace
returns-in-Err-clause-trace g c =
    let seen = g.F.FileStore.seen in
    was_refused c.loop-alloc.reader c.take_step.new.reader (seen c.args.store.now) (seen c.loop-alloc.store) (seen c.take_step.new.store)
    c.in-Err.refusal c.loop-alloc.invariant.trace (c.in-Err.ensures.acts tt) c.take_step.ensures.later

pub returns-in-Err-clause-refused : goal.returns-in-Err-clause-refused
returns-in-Err-clause-refused g c =
    let seen = g.F.FileStore.seen in
    refused-learned c.past_law.ensures c.loop-alloc.reader c.in-Err.refusal (seen c.args.store.now) (seen c.loop-alloc.store) (seen c.take_step.new.store)
    c.loop-alloc.invariant.learned c.in-Err.ensures.tells

pub returns-clause-beside : goal.returns-clause-beside
returns-clause-beside g c =
    let seen = g.F.FileStore.seen in
    last-learned c.loop-alloc.reader c.into_schema.result (seen c.args.store.now) (seen c.loop-alloc.store) c.into_schema.ensures.schema
    c.loop-alloc.invariant.learned
