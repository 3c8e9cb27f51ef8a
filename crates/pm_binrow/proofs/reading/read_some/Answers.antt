use Rattle.std.proofs.Common.{sym}
use Rattle.pm_binrow.proofs.Cells.{text_some, text_none}
use Rattle.pm_binrow.proofs.reading.read_some.Goals as goal

pub returns-in_ok-from_str-in-Ok : goal.returns-in_ok-from_str-in-Ok
returns-in_ok-from_str-in-Ok c =
    let h = rw c.in_ok-text-in-Text.ensures.ok_part at c.read_text.ensures in
    rw (c.in-Text.is, c.in_ok-from_str-in-Ok.ensures, c.in-Ok.ensures.cases.0) (text_some _ _ _ _ _ (sym h) c.in-Ok.ensures.cases.1)

pub returns-in-Err : goal.returns-in-Err
returns-in-Err c =
    let h = rw c.in_ok-text-in-Text.ensures.ok_part at c.read_text.ensures in
    rw c.in-Text.is (text_none _ _ _ _ _ (sym h) c.in-Err.ensures.cases.0)
