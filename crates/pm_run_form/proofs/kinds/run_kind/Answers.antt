use Rattle.std.proofs.Common.{◌≡◌, ◌++◌, ◌∷◌, [], List, ℕ, map, ap, ◌∙◌, append_assoc}
use Rattle.std.specs.Prelude.{codes}
use Rattle.pm_avro_schema.specs.Avro as avro
use Rattle.pm_avro_schema.specs.Avro.{Avro}
use Rattle.pm_avro_schema.specs.View as types
use Rattle.pm_avro_schema.proofs.Facts.{view-Long}
use Rattle.pm_run_form.proofs.KindLemmas.{view-Int}
use Rattle.pm_run.specs.Form.{Form}
use Rattle.pm_run.specs.Kinds.{typed_field}
use Rattle.pm_run_form.proofs.kinds.run_kind.Goals as goal

pub returns : goal.returns
returns c =
    let keys : List (List ℕ × Avro) = map typed_field c.args.form.now.keys in
    let columns : List (List ℕ × Avro) = map typed_field c.args.form.now.columns in
    let number : List ℕ × Avro = (codes "_SEQUENCE_NUMBER", avro.long) in
    let kind : List ℕ × Avro = (codes "_VALUE_KIND", avro.int) in
    let first : map types.field_view c.push_fields.new.fields.items ≡ keys = c.in_ok-push_fields.ensures ∙ rw (c.new-fields.ensures.items, c.deref.ensures.value) (ap (λ (f : Form). map typed_field f.keys) c.form.view_is) in
    let second : map types.field_view c.push_field.new.fields.items ≡ keys ++ number ∷ [] = c.in_ok-push_field.ensures ∙ ap (λ (t : Avro). map types.field_view c.push_fields.new.fields.items ++ (codes "_SEQUENCE_NUMBER", t) ∷ []) view-Long
    ∙ ap (λ (xs : List (List ℕ × Avro)). xs ++ number ∷ []) first in
    let third : map types.field_view c.push_field-2.new.fields.items ≡ (keys ++ number ∷ []) ++ kind ∷ [] =
    c.in_ok-push_field-2.ensures ∙ ap (λ (t : Avro). map types.field_view c.push_field.new.fields.items ++ (codes "_VALUE_KIND", t) ∷ []) view-Int
    ∙ ap (λ (xs : List (List ℕ × Avro)). xs ++ kind ∷ []) second in
    let last : map typed_field c.deref-2.result.now ≡ columns = rw c.deref-2.ensures.value (ap (λ (f : Form). map typed_field f.columns) c.form.view_is) in
    let whole : map types.field_view c.push_fields-2.new.fields.items ≡ keys ++ number ∷ kind ∷ columns =
    c.in_ok-push_fields-2.ensures ∙ ap (λ (xs : List (List ℕ × Avro)). xs ++ map typed_field c.deref-2.result.now) third
    ∙ ap (λ (ys : List (List ℕ × Avro)). ((keys ++ number ∷ []) ++ kind ∷ []) ++ ys) last
    ∙ append_assoc (keys ++ number ∷ []) (kind ∷ []) columns ∙ append_assoc keys (number ∷ []) (kind ∷ columns) in
    c.record_kind.ensures ∙ ap (λ (xs : List (List ℕ × Avro)). avro.record_of (types.fields_of xs)) whole
