use Rattle.std.proofs.Common.{◌≡◌, ◌<◌, ℤ, [], ◌∷◌, ◌++◌, length, map, get_or, ap, sym, ◌∙◌, arith, rules}
use mir.Val.{SFits}
use Rattle.std.specs.Int.{w64}
use Rattle.std.proofs.lemmas.Int.{to_z-of_z}
use Rattle.std.proofs.lemmas.List.{get_or-map, take_all}
use Rattle.pm_values.specs.declared.record.Stamped.{Stamped}
use Rattle.pm_values.specs.declared.value.Value.TheVariants.{Int as Whole, Null}
use Rattle.pm_row_slots.specs.Seen.{seen_value}
use Rattle.pm_row_slots.specs.declared.seen.Seen.TheVariants as seen
use Rattle.pm_model_history.specs.Merge.{value_at}
use Rattle.pm_group_rows.proofs.BucketLemmas.{blank, numbers_more}
use Rattle.pm_group_rows.proofs.buckets.longs_at.Goals as goal

pub loop-at-preserved : goal.loop-at-preserved
loop-at-preserved c =
    let rows = c.args.rows.now in
    let inside : c.loop-at.at < length rows = omega (arith, c.loop-at-test.true, c.loop-at.auto, c.len-at-end.ensures) in
    let fits : SFits w64 c.in-Some-Int.number = search rules in
    let found = c.in-Some-Int.ensures.lookup.3 in
    let value : value_at (get_or rows c.loop-at.at blank).row c.args.index ≡ Whole c.in-Some-Int.number =
    ap (λ (x : Stamped). value_at x.row c.args.index) (sym (c.in_ok-lend.ensures blank))
    ∙ ap (λ items. get_or (map seen_value items) c.args.index Null) (sym c.deref.ensures.value)
    ∙ get_or-map seen_value c.deref.result.now c.args.index seen.Null Null found.0
    ∙ ap seen_value (sym (found.1 seen.Null) ∙ c.in-Some-Int.field-0-is) in
    numbers_more (λ (x : Stamped). value_at x.row c.args.index) rows c.loop-at.at c.loop-at.longs.items c.in-Some-Int.number c.push.new.self.items inside c.loop-at.invariant value
    (c.in_ok-push-in-Some-Int.ensures.items ∙ ap (λ (n : ℤ). c.loop-at.longs.items ++ n ∷ []) (to_z-of_z w64 c.in-Some-Int.number fits))

pub returns : goal.returns
returns c =
    let f = λ (x : Stamped). value_at x.row c.args.index in
    ap (map f) (sym (take_all c.loop-at.at c.args.rows.now (omega (arith, c.loop-at-test.false, c.loop-at.auto, c.len-at-end.ensures)))) ∙ c.loop-at.invariant
