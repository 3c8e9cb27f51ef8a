use Rattle.std.proofs.Common.{refl}
use Rattle.serde_json.specs.Data.{boolean}
use Rattle.pm_row_lines.proofs.tokens.take_truth.Goals as goal

pub returns-in-Bool : goal.returns-in-Bool
returns-in-Bool c = rw c.in-Bool.is (boolean c.in-Bool.b, refl, λ index. refl)
