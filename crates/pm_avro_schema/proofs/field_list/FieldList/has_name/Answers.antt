use Rattle.std.proofs.Common.{ap, ◌∙◌}
use Rattle.std.specs.List.{list_any}
use Rattle.std.specs.Str.{bytes_eq}
use Rattle.pm_avro_schema.specs.FieldList.{names}
use Rattle.pm_avro_schema.proofs.field_list.FieldList.has_name.Goals as goal

pub returns : goal.returns
returns c =
    c.contains.ensures ∙ c.self.invariant c.args.name.now ∙ ap (λ fs. list_any (λ other. bytes_eq other c.args.name.now) (names fs)) c.self.view_is
