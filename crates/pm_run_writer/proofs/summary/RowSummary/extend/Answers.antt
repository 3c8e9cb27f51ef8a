use Rattle.std.proofs.Common.{min, max, refl, ap, ◌∙◌}
use Rattle.pm_row_slots.specs.Slot.{placed_row}
use Rattle.pm_run_writer.proofs.SummaryLemmas.{summary_more}
use Rattle.pm_run_writer.proofs.summary.RowSummary.extend.Goals as goal

pub returns : goal.returns
returns c = λ rows is. summary_more rows (placed_row c.args.row) c.args.self.now _ is c.requires.some refl refl
    (c.min-self.ensures ∙ ap (λ n. min c.args.self.now.least n) c.number_of-number.ensures) (c.max-self.ensures ∙ ap (λ n. max c.args.self.now.greatest n) c.number_of-number.ensures)
