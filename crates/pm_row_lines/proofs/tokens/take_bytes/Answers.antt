use Rattle.std.proofs.Common.{refl, sym}
use Rattle.serde_json.specs.Data.{string}
use Rattle.pm_row_lines.proofs.tokens.take_bytes.Goals as goal

pub returns-in-Ok-Some : goal.returns-in-Ok-Some
returns-in-Ok-Some c =
    let read = sym (rw c.in-Ok-Some.field-0-is at c.in-Ok-Some.ensures) in
    rw (c.in-String.is, c.new.ensures) (string c.in-String.text.now, refl, λ index. rw read refl)
