use Rattle.std.proofs.Common.{refl}
use Rattle.serde_json.specs.Data.{null}
use Rattle.pm_row_lines.proofs.tokens.take_item.Goals as goal

pub returns-then-column : goal.returns-then-column
returns-then-column c = rw c.in-Null.is (null, refl, λ index. rw c.if-column.true refl)
