use Rattle.std.proofs.Common.{◌≡◌, [], ◌∷◌, ◌++◌, length, true, rules, arith, subst, sym, ap}
use Rattle.std.proofs.lemmas.Grind.{common_steps}
use Rattle.std.proofs.lemmas.List.{length-append, nil_from_length}
use Rattle.pm_values.specs.declared.record.Stamped.{Stamped}
use Rattle.pm_row_slots.specs.Seen.{seen_row}
use Rattle.pm_run_bytes.specs.Direct.{AreRows, IsRow}
use Rattle.pm_run.specs.Order.{last_key, may_follow}
use Rattle.pm_run_bytes.proofs.DirectLemmas.{rows_more}
use Rattle.pm_run_bytes.proofs.direct.read_rows.Goals as goal

pub loop-preserved : goal.loop-preserved
loop-preserved c =
    let pushed : c.push.new.self.items ≡ c.loop.rows.items ++ c.in_ok-row.row ∷ [] = search rules in
    let copy : c.in_ok-row.row ≡ seen_row c.see_row.new.into = search rules in
    let follows : true ≡ may_follow c.args.changes (last_key c.args.before.now c.loop.rows.items) c.in_ok-row.row.key = search rules in
    record {
      many = omega (arith, c.loop.invariant.many, ap length pushed, length-append c.loop.rows.items (c.in_ok-row.row ∷ []));
      rows = rows_more c.args.form.now c.args.changes c.args.before.now c.loop.rows.items c.push.new.self.items c.in_ok-row.row c.args.bytes.now c.loop.rest.now c.in_ok-after.after.now pushed
          c.loop.invariant.rows (subst (λ (x : Stamped). IsRow c.args.form.now c.args.changes x c.loop.rest.now c.in_ok-after.after.now) (sym copy) c.in_ok-after.ensures.row) follows;
    }

pub returns-then-is_empty-clause-rows : goal.returns-then-is_empty-clause-rows
returns-then-is_empty-clause-rows c =
    let none : c.loop.rest.now ≡ [] = nil_from_length c.loop.rest.now (grind (arith, common_steps)) in
    subst (λ rest. AreRows c.args.form.now c.args.changes c.args.before.now c.loop.rows.items c.args.bytes.now rest) none c.loop.invariant.rows
