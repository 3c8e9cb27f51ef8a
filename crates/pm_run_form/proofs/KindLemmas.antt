-- Types that are written.
use Rattle.std.proofs.Common.{rules, ◌≡◌, sym, ap, ◌∙◌}
use Rattle.pm_avro_schema.specs.Avro as avro
use Rattle.pm_avro_schema.specs.View.{view}
use Rattle.pm_avro_schema.specs.declared.kind.AvroType.{fold-roll-AvroType}
use Rattle.pm_avro_schema.specs.declared.kind.AvroType.TheVariants.{Int, rolls-Int}

pub view-Int : view Int ≡ avro.int
view-Int = ap view (sym rolls-Int) ∙ search (rules, fold-roll-AvroType)
