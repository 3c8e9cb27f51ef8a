use Rattle.std.proofs.Common.{SFits, rules, subst, w64}
use Rattle.std.proofs.Math.Facts.{to_z-of_z}
use Rattle.std.proofs.lemmas.Result.{err_from_is_err_and}
use Rattle.pm_machine.specs.Trace.{HasTrace}
use Rattle.pm_plan.specs.declared.planned.Asking.{Asking}
use Rattle.pm_compactor.specs.AllCalls.{CompactsTables, DidCompact}
use Rattle.pm_command_compact.proofs.CompactLaws.{asked_is, compacted_keeps, compacted_trace, memory_keeps, memory_refused, own_may, read_keeps}
use Rattle.pm_command_compact.proofs.compact.compact_declared.Goals as goal

pub returns-in_err-schema-clause-history : goal.returns-in_err-schema-clause-history
returns-in_err-schema-clause-history g c =
    let p = err_from_is_err_and c.from_residual.result c.from_residual.ensures.1 in
    rw (p.1, p.2)
    (read_keeps c.args.start.now c.args.full c.in_err-schema.field-0.0 (g.F.FileStore.seen c.args.store.now)
    (g.F.FileStore.seen c.read_table_schema.new.store) c.in_err-schema.ensures.history)

pub returns-in_err-user-clause-trace : goal.returns-in_err-user-clause-trace
returns-in_err-user-clause-trace g c =
    let p = err_from_is_err_and c.from_residual-in_err-user.result c.from_residual-in_err-user.ensures.1 in
    rw (p.1, p.2)
    (memory_refused c.args.start.now c.args.full c.in_ok-schema.schema (g.F.FileStore.seen c.args.store.now)
    (g.F.FileStore.seen c.read_table_schema.new.store) c.in_ok-schema.ensures.trace)

pub returns-in_err-user-clause-history : goal.returns-in_err-user-clause-history
returns-in_err-user-clause-history g c =
    let p = err_from_is_err_and c.from_residual-in_err-user.result c.from_residual-in_err-user.ensures.1 in
    rw (p.1, p.2)
    (memory_keeps c.args.start.now c.args.full c.in_ok-schema.schema (g.F.FileStore.seen c.args.store.now)
    (g.F.FileStore.seen c.read_table_schema.new.store) c.in_ok-schema.ensures.history)

pub returns-clause-trace : goal.returns-clause-trace
returns-clause-trace g c =
    let fits : SFits w64 c.args.start.now.now_millis = search rules in
    let first = g.F.FileStore.seen c.args.store.now in
    let after = g.F.FileStore.seen c.compact_table.new.store in
    let s = c.in_ok-schema.schema in
    compacted_trace c.args.start.now c.args.full s c.compact_table.result first after c.in_ok-schema.ensures.declared
    (subst (λ (a : Asking). HasTrace (DidCompact s a c.compact_table.result) first after)
    (asked_is c.args.start.now c.args.full c.in_ok-user.user c.own_names-names.result _ c.in_ok-user.ensures c.own_names-names.ensures.names
    (to_z-of_z fits))
    (c.compact_table.ensures.trace first c.in_ok-schema.ensures.trace))

pub returns-clause-history : goal.returns-clause-history
returns-clause-history g c =
    let fits : SFits w64 c.args.start.now.now_millis = search rules in
    let first = g.F.FileStore.seen c.args.store.now in
    let after = g.F.FileStore.seen c.compact_table.new.store in
    let s = c.in_ok-schema.schema in
    compacted_keeps c.args.start.now c.args.full s c.compact_table.result first after (own_may c.args.start.now c.own_names-names.result c.own_names-names.ensures.names c.own_names-names.ensures.may)
    (subst (λ (a : Asking). CompactsTables s a first after c.compact_table.result)
    (asked_is c.args.start.now c.args.full c.in_ok-user.user c.own_names-names.result _ c.in_ok-user.ensures c.own_names-names.ensures.names
    (to_z-of_z fits))
    (c.compact_table.ensures.history first c.in_ok-schema.ensures.trace))
