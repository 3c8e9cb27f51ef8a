use Rattle.std.proofs.lemmas.Result.{err_from_is_err_and}
use Rattle.pm_scan.specs.AllCalls.{text_in}
use Rattle.pm_command_scan.proofs.ScanLaws.{read_beside, scanned_beside, scanned_trace, read_keeps, scanned_keeps}
use Rattle.pm_command_scan.proofs.scan.read_scan.Goals as goal

pub returns-in_err-schema-clause-beside : goal.returns-in_err-schema-clause-beside
returns-in_err-schema-clause-beside g c =
    let p = err_from_is_err_and c.from_residual.result c.from_residual.ensures.1 in
    rw (p.1, p.2)
    (read_beside c.args.snapshot c.in_err-schema.field-0.0 (g.F.FileStore.seen c.args.store.now)
    (g.F.FileStore.seen c.read_table_schema.new.store) c.in_err-schema.ensures.trace c.in_err-schema.ensures.refused)

pub returns-in_err-schema-clause-history : goal.returns-in_err-schema-clause-history
returns-in_err-schema-clause-history g c =
    let p = err_from_is_err_and c.from_residual.result c.from_residual.ensures.1 in
    rw (p.1, p.2)
    (read_keeps c.args.snapshot c.in_err-schema.field-0.0 (g.F.FileStore.seen c.args.store.now)
    (g.F.FileStore.seen c.read_table_schema.new.store) c.in_err-schema.ensures.history)

pub returns-clause-beside : goal.returns-clause-beside
returns-clause-beside g c =
    scanned_beside c.args.snapshot c.in_ok-schema.schema c.scan_table.result (g.F.FileStore.seen c.args.store.now)
    (g.F.FileStore.seen c.read_table_schema.new.store) (g.F.FileStore.seen c.scan_table.new.store) c.in_ok-schema.ensures.trace
    c.in_ok-schema.ensures.beside c.scan_table.ensures.beside c.scan_table.ensures.refused c.scan_table.ensures.named

pub returns-clause-trace : goal.returns-clause-trace
returns-clause-trace g c =
    scanned_trace c.args.snapshot c.in_ok-schema.schema (text_in c.scan_table.result) (g.F.FileStore.seen c.args.store.now)
    (g.F.FileStore.seen c.scan_table.new.store) c.in_ok-schema.ensures.declared
    (c.scan_table.ensures.trace (g.F.FileStore.seen c.args.store.now) c.in_ok-schema.ensures.trace)

pub returns-clause-history : goal.returns-clause-history
returns-clause-history g c =
    scanned_keeps c.args.snapshot c.in_ok-schema.schema (text_in c.scan_table.result) (g.F.FileStore.seen c.args.store.now)
    (g.F.FileStore.seen c.scan_table.new.store) c.in_ok-schema.ensures.declared
    (c.scan_table.ensures.history (g.F.FileStore.seen c.args.store.now) c.in_ok-schema.ensures.trace)
