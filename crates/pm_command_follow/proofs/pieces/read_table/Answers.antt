use Rattle.std.proofs.Common.{◌-◌}
use Rattle.pm_command_follow.proofs.KnownLemmas.{rows_told, start_learned}
use Rattle.pm_command_follow.proofs.pieces.read_table.Goals as goal

pub returns-in-Ok-clause-beside : goal.returns-in-Ok-clause-beside
returns-in-Ok-clause-beside g c =
    start_learned c.args.schema.now c.args.start c.in_ok-rows.rows.items c.in-Ok.text.items (g.F.FileStore.seen c.args.store.now)
    (g.F.FileStore.seen c.read_passed.new.store) c.in-Ok.ensures c.in_ok-rows.ensures.beside

pub returns-in-Err-clause-refused : goal.returns-in-Err-clause-refused
returns-in-Err-clause-refused g c =
    rows_told c.args.schema.now (c.args.start - 1) c.in_ok-rows.rows.items (g.F.FileStore.seen c.args.store.now) (g.F.FileStore.seen c.read_passed.new.store)
    c.in_ok-rows.ensures.beside
