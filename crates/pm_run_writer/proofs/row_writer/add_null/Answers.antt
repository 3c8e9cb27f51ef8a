use Rattle.pm_avro_data.specs.Datum.{null}
use Rattle.pm_avro_data.proofs.Facts.{added_null}
use Rattle.pm_run_writer.proofs.row_writer.add_null.Goals as goal

pub returns : goal.returns
returns c = c.in_ok-add_branch.ensures c.add_branch.new.out.items null (added_null c.add_branch.new.out.items)
