use Rattle.std.proofs.Common.{List, subst, ap, ◌∙◌}
use Rattle.pm_values.specs.declared.column.ColType.{ColType}
use Rattle.pm_binrow.specs.Row.{IsShort}
use Rattle.pm_manifest.specs.Shape.{Shape}
use Rattle.pm_manifest_writer.proofs.manifest_writer.entry_datum.Goals as goal

pub returns-clause-within : goal.returns-clause-within
returns-clause-within c = record {
  partition = subst (λ (kinds : List ColType). IsShort kinds c.args.entry.now.group.partition)
      (c.deref.ensures.value ∙ ap (λ (s : Shape). s.partition) c.shape.view_is) c.in_ok-partition.ensures.short;
  bucket = c.in_ok-write_natural.ensures.within;
  total = c.in_ok-write_natural-2.ensures.within;
  file = c.in_ok-file_datum.ensures.within;
}
