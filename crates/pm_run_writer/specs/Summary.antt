-- Private: what is known of the rows of a file that is written row by row.
use Rattle.std.specs.Prelude.{◌≡◌, List, length}
use Rattle.pm_values.specs.declared.record.Stamped.{Stamped}
use Rattle.pm_run.specs.Writing.{first_key, first_sequence, greatest_of, least_of}
use Rattle.pm_run_writer.specs.declared.summary.RowSummary.{RowSummary}

-- how many the rows are, the key of the first, and the least and the greatest of their sequence numbers
pub record IsSummary (rows : List Stamped) (x : RowSummary) : Type 0 where
  pub count : x.count ≡ length rows
  pub first : x.first ≡ first_key rows
  pub least : x.least ≡ least_of (first_sequence rows) rows
  pub greatest : x.greatest ≡ greatest_of (first_sequence rows) rows
