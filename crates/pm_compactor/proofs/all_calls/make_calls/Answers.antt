use Rattle.std.proofs.Common.{rules, Ok, Err}
use Rattle.pm_compactor.specs.AllCalls.{asked_by}
use Rattle.pm_compactor.specs.Compactor.{Reaches}
use Rattle.pm_compactor.specs.declared.compactor.CompactStep.TheVariants as steps
use Rattle.pm_compactor.proofs.AllCallsLemmas.{followed-none, followed-on, left-committed, left-nothing, left-refused, was_committed, was_nothing, was_refused, went_further}
use Rattle.pm_compactor.proofs.all_calls.make_calls.Goals as goal

pub loop-id-init : goal.loop-id-init
loop-id-init g c =
    let seen = g.F.FileStore.seen in
    record {
      trace = λ s asking first begun. begun;
      alone = followed-none c.args.compactor (seen c.args.store.now);
      left = search rules;
      later = search rules;
    }

pub loop-id-preserved : goal.loop-id-preserved
loop-id-preserved g c =
    let seen = g.F.FileStore.seen in
    record {
      trace = λ s asking first begun. went_further (asked_by s asking) c.loop-id.compactor c.compact_step.new.compactor first (seen c.loop-id.store)
          (seen c.compact_step.new.store) steps.More (c.loop-id.invariant.trace s asking first begun) c.in-Ok-More.ensures.acts c.compact_step.ensures.later;
      alone = λ b alone here either. followed-on (record { past = c.past_law.ensures; here = c.unnamed_law.ensures.here; others = c.unnamed_law.ensures.others })
          c.args.compactor c.loop-id.compactor c.compact_step.new.compactor (seen c.args.store.now) (seen c.loop-id.store) (seen c.compact_step.new.store)
          (Ok steps.More) c.loop-id.invariant.later c.compact_step.ensures.later c.loop-id.invariant.alone c.in-Ok-More.ensures.alone b alone here either;
      left = rw c.in-Ok-More.field-0-is at c.in-Ok-More.ensures.reaches;
      later = search rules;
    }

pub returns-in-Ok-Committed-clause-trace : goal.returns-in-Ok-Committed-clause-trace
returns-in-Ok-Committed-clause-trace g c = λ s asking first begun.
    let seen = g.F.FileStore.seen in
    let id = c.in-Ok-Committed.id in
    let reaches : Reaches (steps.Committed id) c.compact_step.new.compactor = rw c.in-Ok-Committed.field-0-is at c.in-Ok-Committed.ensures.reaches in
    was_committed s asking c.compact_step.new.compactor reaches.0 id first (seen c.compact_step.new.store) reaches.1
    (went_further (asked_by s asking) c.loop-id.compactor c.compact_step.new.compactor first (seen c.loop-id.store) (seen c.compact_step.new.store)
    (steps.Committed id) (c.loop-id.invariant.trace s asking first begun) c.in-Ok-Committed.ensures.acts c.compact_step.ensures.later)

pub returns-in-Ok-Committed-clause-alone : goal.returns-in-Ok-Committed-clause-alone
returns-in-Ok-Committed-clause-alone g c = λ b alone here either.
    let seen = g.F.FileStore.seen in
    let id = c.in-Ok-Committed.id in
    let reaches : Reaches (steps.Committed id) c.compact_step.new.compactor = rw c.in-Ok-Committed.field-0-is at c.in-Ok-Committed.ensures.reaches in
    left-committed (record { past = c.past_law.ensures; here = c.unnamed_law.ensures.here; others = c.unnamed_law.ensures.others }) b (seen c.args.store.now)
    (seen c.compact_step.new.store) c.compact_step.new.compactor reaches.0 id reaches.1
    (followed-on (record { past = c.past_law.ensures; here = c.unnamed_law.ensures.here; others = c.unnamed_law.ensures.others }) c.args.compactor
    c.loop-id.compactor c.compact_step.new.compactor (seen c.args.store.now) (seen c.loop-id.store) (seen c.compact_step.new.store)
    (Ok (steps.Committed id)) c.loop-id.invariant.later c.compact_step.ensures.later c.loop-id.invariant.alone c.in-Ok-Committed.ensures.alone
    b alone here either)

pub returns-in-Ok-Nothing-clause-trace : goal.returns-in-Ok-Nothing-clause-trace
returns-in-Ok-Nothing-clause-trace g c = λ s asking first begun.
    let seen = g.F.FileStore.seen in
    let reaches : Reaches steps.Nothing c.compact_step.new.compactor = rw c.in-Ok-Nothing.field-0-is at c.in-Ok-Nothing.ensures.reaches in
    was_nothing s asking c.compact_step.new.compactor first (seen c.compact_step.new.store) reaches
    (went_further (asked_by s asking) c.loop-id.compactor c.compact_step.new.compactor first (seen c.loop-id.store) (seen c.compact_step.new.store)
    steps.Nothing (c.loop-id.invariant.trace s asking first begun) c.in-Ok-Nothing.ensures.acts c.compact_step.ensures.later)

pub returns-in-Ok-Nothing-clause-alone : goal.returns-in-Ok-Nothing-clause-alone
returns-in-Ok-Nothing-clause-alone g c = λ b alone here either.
    let seen = g.F.FileStore.seen in
    let reaches : Reaches steps.Nothing c.compact_step.new.compactor = rw c.in-Ok-Nothing.field-0-is at c.in-Ok-Nothing.ensures.reaches in
    left-nothing (record { past = c.past_law.ensures; here = c.unnamed_law.ensures.here; others = c.unnamed_law.ensures.others }) b (seen c.args.store.now)
    (seen c.compact_step.new.store) c.compact_step.new.compactor reaches
    (followed-on (record { past = c.past_law.ensures; here = c.unnamed_law.ensures.here; others = c.unnamed_law.ensures.others }) c.args.compactor
    c.loop-id.compactor c.compact_step.new.compactor (seen c.args.store.now) (seen c.loop-id.store) (seen c.compact_step.new.store)
    (Ok steps.Nothing) c.loop-id.invariant.later c.compact_step.ensures.later c.loop-id.invariant.alone c.in-Ok-Nothing.ensures.alone
    b alone here either)

pub returns-in-Err-clause-trace : goal.returns-in-Err-clause-trace
returns-in-Err-clause-trace g c = λ s asking first begun.
    let seen = g.F.FileStore.seen in
    was_refused s asking c.loop-id.compactor c.compact_step.new.compactor first (seen c.loop-id.store) (seen c.compact_step.new.store) c.in-Err.refusal
    (c.loop-id.invariant.trace s asking first begun) c.in-Err.ensures.acts c.compact_step.ensures.later

pub returns-in-Err-clause-alone : goal.returns-in-Err-clause-alone
returns-in-Err-clause-alone g c = λ b alone here either.
    let seen = g.F.FileStore.seen in
    left-refused (record { past = c.past_law.ensures; here = c.unnamed_law.ensures.here; others = c.unnamed_law.ensures.others }) b (seen c.args.store.now)
    (seen c.compact_step.new.store) c.compact_step.new.compactor c.in-Err.refusal
    (followed-on (record { past = c.past_law.ensures; here = c.unnamed_law.ensures.here; others = c.unnamed_law.ensures.others }) c.args.compactor
    c.loop-id.compactor c.compact_step.new.compactor (seen c.args.store.now) (seen c.loop-id.store) (seen c.compact_step.new.store)
    (Err c.in-Err.refusal) c.loop-id.invariant.later c.compact_step.ensures.later c.loop-id.invariant.alone c.in-Err.ensures.alone
    b alone here either)
