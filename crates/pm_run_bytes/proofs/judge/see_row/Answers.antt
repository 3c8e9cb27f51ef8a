use Rattle.std.proofs.Common.{◌≡◌, map, true, Ok, rules, subst}
use Rattle.pm_model_history.specs.Merge.{key_of}
use Rattle.pm_row_slots.specs.Seen.{seen_value}
use Rattle.pm_values.specs.Order.{Values}
use Rattle.pm_values.specs.declared.record.Stamped.{Stamped}
use Rattle.pm_run_bytes.specs.Direct.{AreCells}
use Rattle.pm_run.specs.Form.{Form}
use Rattle.pm_run.specs.Row.{agree, row_kind}
use Rattle.pm_run_bytes.proofs.DirectLemmas.{row_read, row_written}
use Rattle.pm_run_bytes.proofs.judge.see_row.Goals as goal

-- the values are a row's, and its key's
pub returns-clause-row : goal.returns-clause-row
returns-clause-row c =
    let f = c.args.form.now in
    let values : Values = map seen_value c.see_values.new.into.items in
    let x : Stamped = record {
      key = map seen_value c.own_key.new.key.items;
      seq = c.in_ok-seq.seq;
      kind = c.in_ok-kind.kind;
      row = map seen_value c.see_values-2.new.into.items;
    } in
    let keys : AreCells f.keys values c.args.bytes.now c.in_ok-rest.rest.now = search rules in
    let columns : AreCells f.columns x.row c.in_ok-kind.rest.now c.in_ok-rest-2.rest.now = search rules in
    let agrees : agree f.places x.row values ≡ true = search rules in
    let own : x.key ≡ key_of f.primary x.row = search rules in
    let kept : row_kind c.args.changes f.engine x.kind ≡ Ok x.kind = subst (λ (g : Form). row_kind c.args.changes g.engine x.kind ≡ Ok x.kind) c.form.view_is c.in_ok-kind.ensures.kept in
    row_read f x values c.args.bytes.now c.in_ok-rest.rest.now c.in_ok-seq.rest.now c.in_ok-kind.rest.now c.in_ok-rest-2.rest.now keys c.in_ok-seq.ensures.long c.in_ok-seq.ensures.within
    c.in_ok-kind.ensures.number columns agrees own c.args.changes kept

-- they are spelled as they are written
pub returns-clause-written : goal.returns-clause-written
returns-clause-written c =
    let f = c.args.form.now in
    let values : Values = map seen_value c.see_values.new.into.items in
    let x : Stamped = record {
      key = map seen_value c.own_key.new.key.items;
      seq = c.in_ok-seq.seq;
      kind = c.in_ok-kind.kind;
      row = map seen_value c.see_values-2.new.into.items;
    } in
    let keys : AreCells f.keys values c.args.bytes.now c.in_ok-rest.rest.now = search rules in
    let columns : AreCells f.columns x.row c.in_ok-kind.rest.now c.in_ok-rest-2.rest.now = search rules in
    let agrees : agree f.places x.row values ≡ true = search rules in
    row_written f x values c.args.bytes.now c.in_ok-rest.rest.now c.in_ok-seq.rest.now c.in_ok-kind.rest.now c.in_ok-rest-2.rest.now keys c.in_ok-seq.ensures.written c.in_ok-seq.ensures.within
    c.in_ok-kind.ensures.written columns agrees
