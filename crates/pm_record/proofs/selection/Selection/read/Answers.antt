use Rattle.std.proofs.Common.{Some, sym, ap, ◌∙◌}
use Rattle.pm_avro_data.specs.Datum.{view}
use Rattle.pm_avro_schema.specs.View as types
use Rattle.pm_record.proofs.Values.{read_at, read_none}
use Rattle.pm_record.proofs.selection.Selection.read.Goals as goal

pub take_values-requires-clause-below : goal.take_values-requires-clause-below
take_values-requires-clause-below c =
    (read_at c.requires.of_kind.0 c.self.inside.indexes.items (types.view c.args.kind.now) (view c.args.datum) c.in-Some.values.items
    (c.requires.of_kind.1 ∙ ap Some (sym c.self.view_is)) c.requires.of_type c.in-Some.ensures).1

pub returns-in_ok-take_values-in-Some : goal.returns-in_ok-take_values-in-Some
returns-in_ok-take_values-in-Some c = λ names found.
    ap Some c.in_ok-take_values-in-Some.ensures
    ∙ (read_at names c.self.inside.indexes.items (types.view c.args.kind.now) (view c.args.datum) c.in-Some.values.items
    (found ∙ ap Some (sym c.self.view_is)) c.requires.of_type c.in-Some.ensures).0

pub returns-in-None : goal.returns-in-None
returns-in-None c = λ names found. read_none names (types.view c.args.kind.now) (view c.args.datum) c.in-None.ensures
