use Rattle.std.proofs.Common.{pos, sym, ◌∙◌}
use Rattle.pm_avro_schema.proofs.Facts.{view-Long}
use Rattle.pm_avro_data.specs.Datum.{view, long}
use Rattle.pm_avro_file.proofs.Parts.{size_not}
use Rattle.pm_avro_file.proofs.part.read_size.Goals as goal

pub returns-in_default : goal.returns-in_default
returns-in_default c = λ n rest h. (rw c.in_default.is at c.in_ok-datum.ensures) (long (pos n)) rest (rw view-Long h)

pub returns : goal.returns
returns c = size_not (view c.in-Some.datum) c.args.bytes.now c.in-Some.rest.now (rw (c.in-Some.is, view-Long) at c.in_ok-datum.ensures) (sym c.size_in.ensures ∙ c.in-None.is)
