use Rattle.std.proofs.Common.{take, sym, ap, ◌∙◌}
use Rattle.std.proofs.lemmas.List.{take-map}
use Rattle.pm_packed.specs.Rows.{row_at, rows_at}
use Rattle.pm_packed.proofs.rows.PackedRows.truncate.Goals as goal

pub returns : goal.returns
returns c =
    ap (rows_at c.self.inside.bytes.items) c.truncate.ensures.items
    ∙ sym (take-map (row_at c.self.inside.bytes.items) c.args.count c.self.inside.places.items)
    ∙ ap (take c.args.count) c.self.view_is
