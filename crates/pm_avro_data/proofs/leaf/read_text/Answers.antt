use Rattle.std.proofs.Common.{refl, sym}
use Rattle.pm_avro_data.proofs.Leaves.{text_some, text_none}
use Rattle.pm_avro_data.proofs.leaf.read_text.Goals as goal

pub returns-in_ok-from_str-in-Ok : goal.returns-in_ok-from_str-in-Ok
returns-in_ok-from_str-in-Ok c =
    let h = rw c.in_ok-text.ensures.ok_part at c.read_bytes.ensures in
    rw (c.in_ok-from_str-in-Ok.ensures, c.in-Ok.ensures.cases.0) (text_some _ _ _ (sym h) c.in-Ok.ensures.cases.1)

pub returns-in-Err : goal.returns-in-Err
returns-in-Err c =
    let h = rw c.in_ok-text.ensures.ok_part at c.read_bytes.ensures in
    (refl, text_none _ _ _ (sym h) c.in-Err.ensures.cases.0)
