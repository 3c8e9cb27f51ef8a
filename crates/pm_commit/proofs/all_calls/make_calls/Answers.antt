use Rattle.std.proofs.Common.{rules, Ok, Err}
use Rattle.pm_commit.specs.Committer.{Reaches}
use Rattle.pm_commit.specs.declared.committer.CommitStep.TheVariants as steps
use Rattle.pm_commit.proofs.AllCallsLemmas.{followed-none, followed-on, left-already, left-committed, left-refused, was_already, was_committed, was_refused, went_further}
use Rattle.pm_commit.proofs.all_calls.make_calls.Goals as goal

pub loop-id-init : goal.loop-id-init
loop-id-init g c =
    let seen = g.F.FileStore.seen in
    record {
      trace = λ s own first begun. begun;
      alone = followed-none (record { past = c.past_law.ensures; here = c.unnamed_law.ensures.here; others = c.unnamed_law.ensures.others }) c.args.committer (seen c.args.store.now);
      left = search rules;
      later = search rules;
    }

pub loop-id-preserved : goal.loop-id-preserved
loop-id-preserved g c =
    let seen = g.F.FileStore.seen in
    record {
      trace = λ s own first begun. went_further s own c.loop-id.committer c.commit_step.new.committer first (seen c.loop-id.store) (seen c.commit_step.new.store)
          steps.More (c.loop-id.invariant.trace s own first begun) c.in-Ok-More.ensures.acts c.commit_step.ensures.later;
      alone = followed-on (record { past = c.past_law.ensures; here = c.unnamed_law.ensures.here; others = c.unnamed_law.ensures.others }) c.args.committer c.loop-id.committer c.commit_step.new.committer (seen c.args.store.now) (seen c.loop-id.store)
          (seen c.commit_step.new.store) (Ok steps.More) c.loop-id.invariant.later c.commit_step.ensures.later c.loop-id.invariant.alone c.in-Ok-More.ensures.alone;
      left = rw c.in-Ok-More.field-0-is at c.in-Ok-More.ensures.reaches;
      later = search rules;
    }

pub returns-in-Ok-Committed-clause-trace : goal.returns-in-Ok-Committed-clause-trace
returns-in-Ok-Committed-clause-trace g c = λ s own first begun.
    let seen = g.F.FileStore.seen in
    let id = c.in-Ok-Committed.id in
    let reaches : Reaches (steps.Committed id) c.commit_step.new.committer = rw c.in-Ok-Committed.field-0-is at c.in-Ok-Committed.ensures.reaches in
    was_committed s own c.commit_step.new.committer reaches.0 id first (seen c.commit_step.new.store) reaches.1
    (went_further s own c.loop-id.committer c.commit_step.new.committer first (seen c.loop-id.store) (seen c.commit_step.new.store) (steps.Committed id)
    (c.loop-id.invariant.trace s own first begun) c.in-Ok-Committed.ensures.acts c.commit_step.ensures.later)

pub returns-in-Ok-Committed-clause-alone : goal.returns-in-Ok-Committed-clause-alone
returns-in-Ok-Committed-clause-alone g c = λ b alone here.
    let seen = g.F.FileStore.seen in
    let id = c.in-Ok-Committed.id in
    let reaches : Reaches (steps.Committed id) c.commit_step.new.committer = rw c.in-Ok-Committed.field-0-is at c.in-Ok-Committed.ensures.reaches in
    left-committed b (seen c.args.store.now) (seen c.commit_step.new.store) c.same_law.ensures c.entries_law.ensures c.commit_step.new.committer reaches.0 id reaches.1
    (followed-on (record { past = c.past_law.ensures; here = c.unnamed_law.ensures.here; others = c.unnamed_law.ensures.others }) c.args.committer c.loop-id.committer c.commit_step.new.committer (seen c.args.store.now) (seen c.loop-id.store) (seen c.commit_step.new.store)
    (Ok (steps.Committed id)) c.loop-id.invariant.later c.commit_step.ensures.later c.loop-id.invariant.alone c.in-Ok-Committed.ensures.alone
    b alone here)

pub returns-in-Ok-Already-clause-trace : goal.returns-in-Ok-Already-clause-trace
returns-in-Ok-Already-clause-trace g c = λ s own first begun.
    let seen = g.F.FileStore.seen in
    let reaches : Reaches steps.Already c.commit_step.new.committer = rw c.in-Ok-Already.field-0-is at c.in-Ok-Already.ensures.reaches in
    was_already s own c.commit_step.new.committer reaches.0 first (seen c.commit_step.new.store) reaches.1
    (went_further s own c.loop-id.committer c.commit_step.new.committer first (seen c.loop-id.store) (seen c.commit_step.new.store) steps.Already
    (c.loop-id.invariant.trace s own first begun) c.in-Ok-Already.ensures.acts c.commit_step.ensures.later)

pub returns-in-Ok-Already-clause-alone : goal.returns-in-Ok-Already-clause-alone
returns-in-Ok-Already-clause-alone g c = λ b alone here.
    let seen = g.F.FileStore.seen in
    let reaches : Reaches steps.Already c.commit_step.new.committer = rw c.in-Ok-Already.field-0-is at c.in-Ok-Already.ensures.reaches in
    left-already b (seen c.args.store.now) (seen c.commit_step.new.store) c.commit_step.new.committer reaches.0 reaches.1
    (followed-on (record { past = c.past_law.ensures; here = c.unnamed_law.ensures.here; others = c.unnamed_law.ensures.others }) c.args.committer c.loop-id.committer c.commit_step.new.committer (seen c.args.store.now) (seen c.loop-id.store) (seen c.commit_step.new.store)
    (Ok steps.Already) c.loop-id.invariant.later c.commit_step.ensures.later c.loop-id.invariant.alone c.in-Ok-Already.ensures.alone
    b alone here)

pub returns-in-Err-clause-trace : goal.returns-in-Err-clause-trace
returns-in-Err-clause-trace g c = λ s own first begun.
    let seen = g.F.FileStore.seen in
    was_refused s own c.loop-id.committer c.commit_step.new.committer first (seen c.loop-id.store) (seen c.commit_step.new.store) c.in-Err.refusal
    (c.loop-id.invariant.trace s own first begun) c.in-Err.ensures.acts c.commit_step.ensures.later

pub returns-in-Err-clause-alone : goal.returns-in-Err-clause-alone
returns-in-Err-clause-alone g c = λ b alone here.
    let seen = g.F.FileStore.seen in
    left-refused b (seen c.args.store.now) (seen c.commit_step.new.store) c.commit_step.new.committer c.in-Err.refusal
    (followed-on (record { past = c.past_law.ensures; here = c.unnamed_law.ensures.here; others = c.unnamed_law.ensures.others }) c.args.committer c.loop-id.committer c.commit_step.new.committer (seen c.args.store.now) (seen c.loop-id.store) (seen c.commit_step.new.store)
    (Err c.in-Err.refusal) c.loop-id.invariant.later c.commit_step.ensures.later c.loop-id.invariant.alone c.in-Err.ensures.alone
    b alone here)
