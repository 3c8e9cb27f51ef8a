use Rattle.std.proofs.Common.{SFits, rules, subst, w64}
use Rattle.std.proofs.Math.Facts.{to_z-of_z}
use Rattle.std.proofs.lemmas.Result.{err_from_is_err_and}
use Rattle.pm_machine.specs.Trace.{HasTrace}
use Rattle.pm_partitions.proofs.Plain.{plain_names}
use Rattle.pm_read_expiry.specs.declared.asking.Asking.{Asking}
use Rattle.pm_read_expiry.specs.Found.{IsAsking}
use Rattle.pm_expire.specs.AllCalls.{DidExpire}
use Rattle.pm_command.specs.Outside.{actor}
use Rattle.pm_command_expire.specs.Expire.{asked_by}
use Rattle.pm_command_expire.proofs.ExpireLaws.{Laws, asked_is, expired_beside, expired_goes_on, expired_keeps, expired_trace, read_beside, read_keeps, read_refused}
use Rattle.pm_command_expire.proofs.expire.read_expire.Goals as goal

pub returns-in_err-schema-clause-trace : goal.returns-in_err-schema-clause-trace
returns-in_err-schema-clause-trace g c =
    let p = err_from_is_err_and c.from_residual.result c.from_residual.ensures.1 in
    rw (p.1, p.2)
    (read_refused c.args.start.now c.args.asked c.in_err-schema.field-0.0 (g.F.FileStore.seen c.args.store.now) (g.F.FileStore.seen c.read_table_schema.new.store)
    c.in_err-schema.ensures.trace)

pub returns-in_err-schema-clause-beside : goal.returns-in_err-schema-clause-beside
returns-in_err-schema-clause-beside g c =
    let p = err_from_is_err_and c.from_residual.result c.from_residual.ensures.1 in
    rw (p.1, p.2)
    (read_beside c.in_err-schema.field-0.0 (g.F.FileStore.seen c.args.store.now) (g.F.FileStore.seen c.read_table_schema.new.store) c.in_err-schema.ensures.trace
    c.in_err-schema.ensures.refused)

pub returns-in_err-schema-clause-history : goal.returns-in_err-schema-clause-history
returns-in_err-schema-clause-history g c =
    let p = err_from_is_err_and c.from_residual.result c.from_residual.ensures.1 in
    rw (p.1, p.2)
    (read_keeps c.args.start.now c.args.asked c.in_err-schema.field-0.0 (g.F.FileStore.seen c.args.store.now) (g.F.FileStore.seen c.read_table_schema.new.store)
    c.in_err-schema.ensures.history)

pub returns-clause-trace : goal.returns-clause-trace
returns-clause-trace g c =
    let fits : SFits w64 c.args.start.now.now_millis = search rules in
    let first = g.F.FileStore.seen c.args.store.now in
    let after = g.F.FileStore.seen c.expire_table.new.store in
    let s = c.in_ok-schema.schema in
    expired_trace c.args.start.now c.args.asked s c.expire_table.result first after c.in_ok-schema.ensures.declared
    (subst (λ (a : Asking). HasTrace (DidExpire a c.expire_table.result) first after)
    (asked_is c.args.start.now c.args.asked s c.over-keep.result _ c.over-keep.ensures (to_z-of_z fits))
    (c.expire_table.ensures.trace first c.in_ok-schema.ensures.trace))

pub returns-clause-beside : goal.returns-clause-beside
returns-clause-beside g c =
    expired_beside c.in_ok-schema.schema c.expire_table.result (g.F.FileStore.seen c.args.store.now) (g.F.FileStore.seen c.read_table_schema.new.store)
    (g.F.FileStore.seen c.expire_table.new.store) c.in_ok-schema.ensures.beside c.expire_table.ensures.beside

pub returns-clause-history : goal.returns-clause-history
returns-clause-history g c =
    let fits : SFits w64 c.args.start.now.now_millis = search rules in
    let first = g.F.FileStore.seen c.args.store.now in
    let middle = g.F.FileStore.seen c.read_table_schema.new.store in
    let after = g.F.FileStore.seen c.expire_table.new.store in
    let s = c.in_ok-schema.schema in
    let asked = asked_is c.args.start.now c.args.asked s c.over-keep.result _ c.over-keep.ensures (to_z-of_z fits) in
    let laws : Laws = record {
      all = c.all_calls_law.ensures;
      causes = c.alone_causes_law.ensures;
      image = c.image_law.ensures;
      settled = c.settled_law.ensures.all;
      unnamed = c.unnamed_law.ensures.here;
    } in
    let some : IsAsking (asked_by c.args.start.now c.args.asked s) =
    record { declared = c.in_ok-schema.ensures.declared; some = c.asked_law.ensures c.args.asked s.options c.in_ok-schema.ensures.declared.options c.requires.some } in
    expired_keeps laws c.args.start.now c.args.asked s c.in_ok-schema.ensures.declared some c.expire_table.result first middle after c.in_ok-schema.ensures.trace
    c.in_ok-schema.ensures.history
    (subst (λ (a : Asking). HasTrace (DidExpire a c.expire_table.result) first after) asked (c.expire_table.ensures.trace first c.in_ok-schema.ensures.trace))
    (expired_goes_on (actor c.args.start.now) s c.expire_table.result middle after (c.expire_table.ensures.beside (actor c.args.start.now)))
    c.expire_table.ensures.later c.expire_table.ensures.alone

pub expire_table-requires-clause-plain : goal.expire_table-requires-clause-plain
expire_table-requires-clause-plain g c = plain_names c.in_ok-schema.schema c.in_ok-schema.ensures.declared
