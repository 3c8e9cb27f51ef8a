use Rattle.std.proofs.Common.{List, ℕ, [], ◌∷◌, ◌++◌, ap, append_assoc, map, ◌∙◌}
use Rattle.pm_row_slots.specs.Seen.{seen_value}
use Rattle.pm_rows.specs.RowText.{row_text}
use Rattle.pm_merged_log.proofs.lines.push_line.Goals as goal

pub returns : goal.returns
returns c =
    let row : List ℕ = row_text c.args.kind (map seen_value c.args.row.now) in
    c.in_ok-push.ensures.items ∙ ap (λ (bs : List ℕ). bs ++ 10 ∷ []) c.in_ok-push_row.ensures.ok ∙ append_assoc c.args.text.now.items row (10 ∷ [])
