use Rattle.std.proofs.Common.{Some, ap, ◌∙◌, arith}
use Rattle.pm_row_slots.specs.Slot.{placed_row}
use Rattle.pm_run_writer.proofs.SummaryLemmas.{summary_first}
use Rattle.pm_run_writer.proofs.summary.RowSummary.begin.Goals as goal

pub returns : goal.returns
returns c = λ rows is. summary_first rows (placed_row c.args.row) c.args.self.now _ is c.requires (omega (arith, c.requires))
    (c.replace.ensures.after ∙ ap (λ k. Some k) c.in_ok-key.ensures) c.number_of-self.ensures c.number_of-self.ensures
