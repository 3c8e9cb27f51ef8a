use Rattle.std.proofs.Common.{◌≡◌, [], ◌∷◌, ◌++◌, map, true, Some, rules, arith, subst, ap, ◌∙◌}
use Rattle.std.proofs.lemmas.Grind.{common_steps}
use Rattle.std.proofs.lemmas.List.{length-append, nil_from_length}
use Rattle.pm_values.specs.declared.record.Stamped.{Stamped}
use Rattle.pm_run_bytes.specs.Direct.{AreRows}
use Rattle.pm_run.specs.Order.{last_key, may_follow}
use Rattle.pm_run_bytes.specs.Seen.{seen_key}
use Rattle.pm_row_slots.specs.Seen.{seen_row, seen_value}
use Rattle.pm_run_bytes.proofs.DirectLemmas.{rows_push}
use Rattle.pm_run_bytes.proofs.JudgeLemmas.{follows_last, follows_none, last_more}
use Rattle.pm_run_bytes.proofs.judge.judge_rows.Goals as goal
use Rattle.pm_run_bytes.proofs.judge.judge_rows.Goals.{else-some-via-then-some+else-not-rises, else-some-via-else-some}

-- one row more
pub loop-preserved : goal.loop-preserved
loop-preserved c =
    let (rows, are, many, last) = c.loop.invariant in
    let x : Stamped = seen_row c.see_row.new.into in
    let follows : may_follow c.args.changes (last_key c.args.before.now rows) x.key ≡ true =
    elim c.else-some.branch [
      | else-some-via-then-some+else-not-rises w ↦ follows_last c.args.changes c.loop.some c.loop.last.items (last_key c.args.before.now rows) x.key last
          (search rules) (search rules)
      | else-some-via-else-some w ↦ follows_none c.args.changes c.loop.some c.loop.last.items (last_key c.args.before.now rows) x.key last (search rules)
    ] in (
      rows ++ x ∷ [],
      rows_push c.args.form.now c.args.changes c.args.before.now rows x c.args.bytes.now c.loop.rest.now c.in_ok-after.after.now are c.in_ok-after.ensures.row
          follows,
      omega (arith, many, length-append rows (x ∷ [])),
      ap (λ (v : _). Some (map seen_value v.items)) c.swap.ensures.x_after ∙ last_more c.args.before.now rows x,
    )

-- all rows
pub returns-then-is_empty : goal.returns-then-is_empty
returns-then-is_empty c =
    let (rows, are, many, last) = c.loop.invariant in
    let none : c.loop.rest.now ≡ [] = nil_from_length c.loop.rest.now (grind (arith, common_steps)) in
    let own : c.in_ok-ok.field-0 ≡ seen_key c.loop.some c.loop.last.items = search rules in (
      rows,
      subst (λ rest. AreRows c.args.form.now c.args.changes c.args.before.now rows c.args.bytes.now rest) none are,
      omega (arith, many, c.loop-test.false, c.loop.auto.counter-end),
      own ∙ last,
    )
