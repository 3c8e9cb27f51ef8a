use Rattle.std.proofs.Common.{inl, ◌∙◌, refl, sym, true≢false, Ok, Err}
use Rattle.std.proofs.lemmas.Result.{err_from_is_err_and}
use Rattle.pm_write.specs.Taken.{all_taken}
use Rattle.pm_commit.specs.declared.all_calls.Appended.TheVariants as appends
use Rattle.pm_values.specs.declared.refusal.Refusal.TheVariants as refusals
use Rattle.pm_machine.specs.Trace.{HasTrace}
use Rattle.pm_commit.specs.AllCalls.{AppendsTables, DidAppend}
use Rattle.pm_command_write.specs.Write.{commit_of}
use Rattle.pm_command_write.proofs.WriteLaws.{IsTakenOf, appended_keeps, appended_trace, few_read, lines_keeps, lines_refused, none_taken, nothing_keeps, nothing_trace, read_keeps, some_taken, why_refused}
use Rattle.pm_command_write.proofs.write.append_lines.Goals as goal

pub returns-in_err-schema-clause-history : goal.returns-in_err-schema-clause-history
returns-in_err-schema-clause-history g c =
    let p = err_from_is_err_and c.from_residual.result c.from_residual.ensures.1 in
    rw (p.1, p.2)
    (read_keeps c.args.start.now c.args.writer c.args.lines c.in_err-schema.field-0.0
    (g.F.FileStore.seen c.args.store.now) (g.F.FileStore.seen c.read_table_schema.new.store) c.in_err-schema.ensures.history)

pub returns-in_err-batch-clause-trace : goal.returns-in_err-batch-clause-trace
returns-in_err-batch-clause-trace g c =
    let p = err_from_is_err_and c.from_residual-in_err-batch.result c.from_residual-in_err-batch.ensures.1 in
    let lines = c.args.lines in
    rw (p.1, p.2)
    (lines_refused c.args.start.now c.args.writer lines c.in_ok-schema.schema
    c.in_err-batch.field-0.0 (g.F.FileStore.seen c.args.store.now) (g.F.FileStore.seen c.read_table_schema.new.store) c.in_ok-schema.ensures.declared
    (why_refused c.in_err-batch.field-0.0 (all_taken c.in_ok-schema.schema lines) c.in_err-batch.ensures) c.in_ok-schema.ensures.trace)

pub returns-in_err-batch-clause-history : goal.returns-in_err-batch-clause-history
returns-in_err-batch-clause-history g c =
    let p = err_from_is_err_and c.from_residual-in_err-batch.result c.from_residual-in_err-batch.ensures.1 in
    let lines = c.args.lines in
    rw (p.1, p.2)
    (lines_keeps c.args.start.now c.args.writer lines c.in_ok-schema.schema
    c.in_err-batch.field-0.0 (g.F.FileStore.seen c.args.store.now) (g.F.FileStore.seen c.read_table_schema.new.store) c.in_ok-schema.ensures.declared
    (why_refused c.in_err-batch.field-0.0 (all_taken c.in_ok-schema.schema lines) c.in_err-batch.ensures) c.in_ok-schema.ensures.history)

pub returns-then-is_empty-clause-trace : goal.returns-then-is_empty-clause-trace
returns-then-is_empty-clause-trace g c =
    let lines = c.args.lines in
    nothing_trace c.args.start.now c.args.writer lines c.in_ok-schema.schema
    (g.F.FileStore.seen c.args.store.now) (g.F.FileStore.seen c.read_table_schema.new.store) c.in_ok-schema.ensures.declared
    (none_taken c.batch_law.ensures.empty c.in_ok-schema.schema lines c.in_ok-batch.batch c.in_ok-batch.ensures (c.is_empty.ensures.0 c.if-is_empty.true))
    c.in_ok-schema.ensures.trace

pub returns-then-is_empty-clause-history : goal.returns-then-is_empty-clause-history
returns-then-is_empty-clause-history g c =
    let lines = c.args.lines in
    nothing_keeps c.args.start.now c.args.writer lines c.in_ok-schema.schema
    (g.F.FileStore.seen c.args.store.now) (g.F.FileStore.seen c.read_table_schema.new.store)
    (none_taken c.batch_law.ensures.empty c.in_ok-schema.schema lines c.in_ok-batch.batch c.in_ok-batch.ensures (c.is_empty.ensures.0 c.if-is_empty.true))
    c.in_ok-schema.ensures.history

pub committer_of-requires-clause-few : goal.committer_of-requires-clause-few
committer_of-requires-clause-few g c =
    few_read c.batch_law.ensures.few c.batch_law.ensures.room c.in_ok-schema.schema c.args.lines c.in_ok-batch.batch c.in_ok-batch.ensures

pub returns-in_err-committer-clause-history : goal.returns-in_err-committer-clause-history
returns-in_err-committer-clause-history g c =
    let p = err_from_is_err_and c.from_residual-in_err-committer.result c.from_residual-in_err-committer.ensures.1 in
    rw (p.1, p.2)
    (lines_keeps c.args.start.now c.args.writer c.args.lines c.in_ok-schema.schema
    refusals.Memory (g.F.FileStore.seen c.args.store.now) (g.F.FileStore.seen c.read_table_schema.new.store) c.in_ok-schema.ensures.declared (inl refl) c.in_ok-schema.ensures.history)

pub returns-in-Ok-Committed-clause-trace : goal.returns-in-Ok-Committed-clause-trace
returns-in-Ok-Committed-clause-trace g c =
    let start = c.args.start.now in
    let w = c.args.writer in
    let lines = c.args.lines in
    let s = c.in_ok-schema.schema in
    let batch = c.in_ok-batch.batch in
    let first = g.F.FileStore.seen c.args.store.now in
    let after = g.F.FileStore.seen c.append_rows.new.store in
    let t : IsTakenOf start w lines s batch = some_taken c.batch_law.ensures.empty start w lines s batch c.in_ok-schema.ensures.declared c.in_ok-batch.ensures
    (λ none. true≢false (sym (c.is_empty.ensures.1 none) ∙ c.if-is_empty.false)) in
    let did : HasTrace (DidAppend s (commit_of start w batch) (Ok (appends.Committed c.in-Ok-Committed.id))) first after =
    rw c.in-Ok-Committed.field-0-is at (c.in-Ok-Committed.ensures.trace s (commit_of start w batch) first c.in_ok-committer.ensures.committer
    c.in_ok-schema.ensures.trace) in
    appended_trace start w lines s batch (Ok (appends.Committed c.in-Ok-Committed.id)) first after t did

pub returns-in-Ok-Committed-clause-history : goal.returns-in-Ok-Committed-clause-history
returns-in-Ok-Committed-clause-history g c =
    let start = c.args.start.now in
    let w = c.args.writer in
    let lines = c.args.lines in
    let s = c.in_ok-schema.schema in
    let batch = c.in_ok-batch.batch in
    let first = g.F.FileStore.seen c.args.store.now in
    let after = g.F.FileStore.seen c.append_rows.new.store in
    let t : IsTakenOf start w lines s batch = some_taken c.batch_law.ensures.empty start w lines s batch c.in_ok-schema.ensures.declared c.in_ok-batch.ensures
    (λ none. true≢false (sym (c.is_empty.ensures.1 none) ∙ c.if-is_empty.false)) in
    let does : AppendsTables s (commit_of start w batch) first after (Ok (appends.Committed c.in-Ok-Committed.id)) =
    rw c.in-Ok-Committed.field-0-is at (c.in-Ok-Committed.ensures.history s (commit_of start w batch) first c.in_ok-committer.ensures.committer
    c.in_ok-schema.ensures.trace) in
    appended_keeps (λ columns line row is. c.fit_law.ensures columns line row.0 row.1 is) start w lines s batch (Ok (appends.Committed c.in-Ok-Committed.id)) first after t
    c.in_ok-committer.ensures.may does

pub returns-in-Ok-Already-clause-trace : goal.returns-in-Ok-Already-clause-trace
returns-in-Ok-Already-clause-trace g c =
    let start = c.args.start.now in
    let w = c.args.writer in
    let lines = c.args.lines in
    let s = c.in_ok-schema.schema in
    let batch = c.in_ok-batch.batch in
    let first = g.F.FileStore.seen c.args.store.now in
    let after = g.F.FileStore.seen c.append_rows.new.store in
    let t : IsTakenOf start w lines s batch = some_taken c.batch_law.ensures.empty start w lines s batch c.in_ok-schema.ensures.declared c.in_ok-batch.ensures
    (λ none. true≢false (sym (c.is_empty.ensures.1 none) ∙ c.if-is_empty.false)) in
    let did : HasTrace (DidAppend s (commit_of start w batch) (Ok appends.Already)) first after =
    rw c.in-Ok-Already.field-0-is at (c.in-Ok-Already.ensures.trace s (commit_of start w batch) first c.in_ok-committer.ensures.committer
    c.in_ok-schema.ensures.trace) in
    appended_trace start w lines s batch (Ok appends.Already) first after t did

pub returns-in-Ok-Already-clause-history : goal.returns-in-Ok-Already-clause-history
returns-in-Ok-Already-clause-history g c =
    let start = c.args.start.now in
    let w = c.args.writer in
    let lines = c.args.lines in
    let s = c.in_ok-schema.schema in
    let batch = c.in_ok-batch.batch in
    let first = g.F.FileStore.seen c.args.store.now in
    let after = g.F.FileStore.seen c.append_rows.new.store in
    let t : IsTakenOf start w lines s batch = some_taken c.batch_law.ensures.empty start w lines s batch c.in_ok-schema.ensures.declared c.in_ok-batch.ensures
    (λ none. true≢false (sym (c.is_empty.ensures.1 none) ∙ c.if-is_empty.false)) in
    let does : AppendsTables s (commit_of start w batch) first after (Ok appends.Already) =
    rw c.in-Ok-Already.field-0-is at (c.in-Ok-Already.ensures.history s (commit_of start w batch) first c.in_ok-committer.ensures.committer
    c.in_ok-schema.ensures.trace) in
    appended_keeps (λ columns line row is. c.fit_law.ensures columns line row.0 row.1 is) start w lines s batch (Ok appends.Already) first after t
    c.in_ok-committer.ensures.may does

pub returns-in-Err-clause-trace : goal.returns-in-Err-clause-trace
returns-in-Err-clause-trace g c =
    let start = c.args.start.now in
    let w = c.args.writer in
    let lines = c.args.lines in
    let s = c.in_ok-schema.schema in
    let batch = c.in_ok-batch.batch in
    let first = g.F.FileStore.seen c.args.store.now in
    let after = g.F.FileStore.seen c.append_rows.new.store in
    let t : IsTakenOf start w lines s batch = some_taken c.batch_law.ensures.empty start w lines s batch c.in_ok-schema.ensures.declared c.in_ok-batch.ensures
    (λ none. true≢false (sym (c.is_empty.ensures.1 none) ∙ c.if-is_empty.false)) in
    let did : HasTrace (DidAppend s (commit_of start w batch) (Err c.in-Err.refusal)) first after =
    (c.in-Err.ensures.trace s (commit_of start w batch) first c.in_ok-committer.ensures.committer
    c.in_ok-schema.ensures.trace) in
    appended_trace start w lines s batch (Err c.in-Err.refusal) first after t did

pub returns-in-Err-clause-history : goal.returns-in-Err-clause-history
returns-in-Err-clause-history g c =
    let start = c.args.start.now in
    let w = c.args.writer in
    let lines = c.args.lines in
    let s = c.in_ok-schema.schema in
    let batch = c.in_ok-batch.batch in
    let first = g.F.FileStore.seen c.args.store.now in
    let after = g.F.FileStore.seen c.append_rows.new.store in
    let t : IsTakenOf start w lines s batch = some_taken c.batch_law.ensures.empty start w lines s batch c.in_ok-schema.ensures.declared c.in_ok-batch.ensures
    (λ none. true≢false (sym (c.is_empty.ensures.1 none) ∙ c.if-is_empty.false)) in
    let does : AppendsTables s (commit_of start w batch) first after (Err c.in-Err.refusal) =
    (c.in-Err.ensures.history s (commit_of start w batch) first c.in_ok-committer.ensures.committer
    c.in_ok-schema.ensures.trace) in
    appended_keeps (λ columns line row is. c.fit_law.ensures columns line row.0 row.1 is) start w lines s batch (Err c.in-Err.refusal) first after t
    c.in_ok-committer.ensures.may does
