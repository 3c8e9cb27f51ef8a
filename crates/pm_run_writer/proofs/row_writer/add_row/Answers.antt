use Rattle.std.proofs.Common.{◌≡◌, ◌++◌, ◌∷◌, [], List, pos, ap, subst, ◌∙◌, append_assoc}
use Rattle.pm_avro_data.specs.Adding.{Adds}
use Rattle.pm_avro_data.specs.Datum.{Data, int, items_of, long, record_of}
use Rattle.pm_avro_data.proofs.Facts.{added_all, added_more}
use Rattle.pm_model_history.specs.Merge.{key_of}
use Rattle.pm_row_slots.specs.Slot.{placed_row}
use Rattle.pm_values.specs.Kind.{code_of}
use Rattle.pm_run.specs.Form.{Form}
use Rattle.pm_run.specs.Row.{values_data}
use Rattle.pm_run_writer.proofs.row_writer.add_row.Goals as goal

pub returns-clause-added : goal.returns-clause-added
returns-clause-added c =
    let f = c.args.form.now in
    let row = placed_row c.args.row in
    let old = c.args.out.now.items in
    let keyed = c.add_keys.new.out.items in
    let numbered = c.add_sequence.new.out.items in
    let kinded = c.add_kind.new.out.items in
    let whole = c.add_values.new.out.items in
    let keys : List Data = values_data f.keys (key_of f.places row.row) in
    let columns : List Data = values_data f.columns row.row in
    let number : Data = long (pos row.seq) in
    let kind : Data = int (pos (code_of row.kind)) in
    let keys_are : values_data c.deref.result.now (key_of c.deref-2.result.now row.row) ≡ keys =
    rw (c.deref.ensures.value, c.deref-2.ensures.value) (ap (λ (g : Form). values_data g.keys (key_of g.places row.row)) c.form.view_is) in
    let columns_are : values_data c.deref-3.result.now row.row ≡ columns = rw c.deref-3.ensures.value (ap (λ (g : Form). values_data g.columns row.row) c.form.view_is) in
    let first : Adds old keyed (record_of (items_of keys)) = subst (λ (ds : List Data). Adds old keyed (record_of (items_of ds))) keys_are c.in_ok-add_keys.ensures.added in
    let second = added_more old keyed numbered keys number first (rw c.number_of.ensures at c.in_ok-add_sequence.ensures.added) in
    let third = added_more old numbered kinded (keys ++ number ∷ []) kind second (rw c.kind_of.ensures at c.in_ok-add_kind.ensures) in
    let last : Adds kinded whole (record_of (items_of columns)) = subst (λ (ds : List Data). Adds kinded whole (record_of (items_of ds))) columns_are c.in_ok-add_values.ensures.added in
    subst (λ (ds : List Data). Adds old whole (record_of (items_of ds)))
    (append_assoc (keys ++ number ∷ []) (kind ∷ []) columns ∙ append_assoc keys (number ∷ []) (kind ∷ columns))
    (added_all old kinded whole ((keys ++ number ∷ []) ++ kind ∷ []) columns third last)
