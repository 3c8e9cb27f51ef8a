use Rattle.std.proofs.Common.{◌≡◌, [], ◌++◌, map, ap, ◌∙◌, rules}
use Rattle.json.specs.Print.{print}
use Rattle.pm_row_slots.specs.Seen.{seen_value}
use Rattle.pm_rows.specs.RowText.{data_tokens, row_data}
use Rattle.pm_rows.proofs.RowLemmas.{print-row_data}
use Rattle.pm_rows.proofs.print.line_of.Goals as goal

pub returns : goal.returns
returns c =
    let before : c.write_row.new.out.before ≡ [] = search rules in
    let tokens : c.write_row.new.out.tokens ≡ data_tokens (row_data c.args.kind (map seen_value c.args.row.now)) = search rules in
    c.into_inner.ensures.items
    ∙ ap (λ text. text ++ print c.write_row.new.out.tokens) before
    ∙ ap print tokens
    ∙ print-row_data c.args.kind (map seen_value c.args.row.now)
