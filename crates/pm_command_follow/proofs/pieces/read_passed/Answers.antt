use Rattle.std.proofs.Common.{◌≡◌, rules}
use Rattle.pm_command_follow.proofs.KnownLemmas.{none_told, passed_known, passed_told}
use Rattle.pm_command_follow.proofs.PieceLemmas.{scan_none}
use Rattle.pm_command_follow.proofs.pieces.read_passed.Goals as goal

pub returns-in-Err-clause-trace : goal.returns-in-Err-clause-trace
returns-in-Err-clause-trace g c = scan_none c.args.schema.now c.args.id (g.F.FileStore.seen c.args.store.now)

pub returns-in-Ok-clause-beside : goal.returns-in-Ok-clause-beside
returns-in-Ok-clause-beside g c =
    let same : c.in-Ok.schema ≡ c.args.schema.now = search rules in
    passed_known c.args.schema.now c.in-Ok.schema c.args.id c.scan_passed.result (g.F.FileStore.seen c.args.store.now) (g.F.FileStore.seen c.scan_passed.new.store) same
    c.scan_passed.ensures.beside

pub returns-in-Ok-clause-refused : goal.returns-in-Ok-clause-refused
returns-in-Ok-clause-refused g c =
    let same : c.in-Ok.schema ≡ c.args.schema.now = search rules in
    passed_told c.args.schema.now c.in-Ok.schema c.scan_passed.result (g.F.FileStore.seen c.args.store.now) (g.F.FileStore.seen c.scan_passed.new.store) same
    c.scan_passed.ensures.refused

pub returns-in-Err-clause-refused : goal.returns-in-Err-clause-refused
returns-in-Err-clause-refused g c = none_told c.args.schema.now (g.F.FileStore.seen c.args.store.now)
