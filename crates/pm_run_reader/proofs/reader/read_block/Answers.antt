use Rattle.std.proofs.Common.{refl, sym}
use Rattle.pm_run.specs.Rows.{opened_as}
use Rattle.pm_run_reader.proofs.reader.read_block.Goals as goal

pub returns-in-Some : goal.returns-in-Some
returns-in-Some c =
    let o = opened_as c.args.path.now c.args.rows.now.form c.args.rows.now.changes c.args.file.now in
    c.in-Some.ensures o refl refl (sym c.bytes.ensures) c.requires.direct
