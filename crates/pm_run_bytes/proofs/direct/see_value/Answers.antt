use Rattle.std.proofs.Common.{◌≡◌, ◌∷◌, rules}
use Rattle.std.specs.Prelude.{IfSome, IsTrue}
use Rattle.pm_avro_data.specs.IsDatum.{IsDatum}
use Rattle.pm_row_slots.specs.Seen.{seen_value}
use Rattle.pm_values.specs.declared.value.Value.TheVariants.{Null}
use Rattle.pm_run.specs.Kinds.{field_type}
use Rattle.pm_run.specs.Row.{value_data}
use Rattle.pm_run.specs.Typed.{FitsField}
use Rattle.pm_run_bytes.proofs.DirectLemmas.{cell_both, null_spelled, second_spelled}
use Rattle.pm_run_bytes.proofs.direct.see_value.Goals as goal

-- null
pub returns-in-0-default : goal.returns-in-0-default
returns-in-0-default c =
    let x = c.args.field.now in
    let rest = c.in_ok-rest.field-0.1.now in
    let some : IsTrue x.nullable = search rules in
    let is : c.args.bytes.now ≡ 0 ∷ rest = search rules in
    let datum : IsDatum (field_type x) (value_data x Null) c.args.bytes.now rest = search rules in
    (datum, some, null_spelled x c.args.bytes.now rest some is)

-- another value
pub returns-in-2-default : goal.returns-in-2-default
returns-in-2-default c =
    let x = c.args.field.now in
    let rest = c.in_ok-rest.field-0.1.now in
    let read = c.see_scalar-in-2-default.result in
    let some : IsTrue x.nullable = search rules in
    let is : c.args.bytes.now ≡ 2 ∷ rest = search rules in
    let cell : IfSome read (λ y. IsDatum (field_type x) (value_data x (seen_value y.0)) c.args.bytes.now y.1.now × FitsField x (seen_value y.0)) = search rules in
    cell_both x c.args.bytes.now read cell (second_spelled x c.args.bytes.now rest read some is c.see_scalar-in-2-default.ensures.scalar c.see_scalar-in-2-default.ensures.written)
