use Rattle.std.proofs.Common.{◌≡◌, ◌++◌, drop, map}
use Rattle.pm_row_slots.specs.Seen.{seen_value}
use Rattle.pm_rows.specs.RowText.{data_tokens, row_data}
use Rattle.pm_rows.proofs.RowLemmas.{tokens_from}
use Rattle.pm_rows.proofs.print.write_row.Given as goal

-- what is written, and then the items left, are the tokens of the row
abbrev pub invariant-loop-value : goal.invariant-loop-value
invariant-loop-value l =
    (l.out.before ≡ l.fn.out.before)
    × (l.out.tokens ++ tokens_from (map seen_value (drop l.value-index l.values)) ≡ l.fn.out.tokens ++ data_tokens (row_data l.fn.kind (map seen_value l.values)))
