use Rattle.std.proofs.Common.{refl}
use Rattle.serde_json.specs.Data.{string}
use Rattle.pm_row_lines.proofs.tokens.take_text.Goals as goal

pub returns-in-Ok : goal.returns-in-Ok
returns-in-Ok c = rw (c.in-String.is, c.in-Ok.ensures) (string c.in-String.text.now, refl, λ index. refl)
