use Rattle.std.proofs.Common.{drop}
use Rattle.pm_row_lines.proofs.TokenLemmas.{Continues}
use Rattle.pm_row_lines.proofs.tokens.take_values.Given as goal

abbrev pub invariant-loop-column : goal.invariant-loop-column
invariant-loop-column l = Continues l.columns l.initial.reader l.values.items (drop l.column-index l.columns) l.reader
