use Rattle.std.proofs.Common.{◌≡◌, suc, ◌++◌, ◌+◌, ◌-◌, sym, ap, ◌∙◌, append_assoc, arith}
use Rattle.pm_draws.specs.Draws.{drawn_text, last_draw, line_of, next_draw, row_drawn}
use Rattle.pm_draws.proofs.draws.Draws.batch.Goals as goal

-- one row more is drawn, and its line stands behind the text
pub loop-row-preserved : goal.loop-row-preserved
loop-row-preserved c =
    let rest = c.args.rows - (c.loop-row._row + 1) in
    let last = c.loop-row.self-inside.last in
    let one_more : c.args.rows - c.loop-row._row ≡ suc rest = omega arith in
    let next = c.next_draw-self-inside.result in
    let drawn : next ≡ next_draw last = c.next_draw-self-inside.ensures in
    let text = c.loop-row.text.items in
    let all = c.loop-row.invariant.0
    ∙ ap (λ k. text ++ drawn_text last k) one_more
    ∙ ap (λ x. text ++ (line_of (row_drawn x) ++ drawn_text x rest)) (sym drawn)
    ∙ sym (append_assoc text (line_of (row_drawn next)) (drawn_text next rest)) in (
      all ∙ ap (λ pushed. pushed ++ drawn_text next rest) (sym c.in_ok-push_line.ensures),
      c.loop-row.invariant.1 ∙ ap (λ k. last_draw last k) one_more ∙ ap (λ x. last_draw x rest) (sym drawn),
    )
