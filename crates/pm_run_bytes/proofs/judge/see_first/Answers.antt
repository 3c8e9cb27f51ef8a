use Rattle.std.proofs.Common.{◌≡◌, [], ◌∷◌, ◌++◌, map, ap, ◌∙◌, rules}
use Rattle.std.proofs.lemmas.List.{map-append}
use Rattle.pm_row_slots.specs.Seen.{seen_value}
use Rattle.pm_run_bytes.proofs.DirectLemmas.{cells_end, cells_next}
use Rattle.pm_run_bytes.proofs.judge.see_first.Goals as goal

pub loop-field-preserved : goal.loop-field-preserved
loop-field-preserved c =
    let items : c.push.new.self.items ≡ c.loop-field.into.items ++ c.in_ok-seen.seen ∷ [] = search rules in
    let pushed : map seen_value c.push.new.self.items ≡ map seen_value c.loop-field.into.items ++ seen_value c.in_ok-seen.seen ∷ [] =
    ap (map seen_value) items ∙ map-append seen_value c.loop-field.into.items (c.in_ok-seen.seen ∷ []) in
    cells_next c.args.fields.now c.loop-field.field-index (map seen_value c.loop-field.into.items) (map seen_value c.push.new.self.items) c.field-item.result (seen_value c.in_ok-seen.seen) c.args.bytes.now
    c.loop-field.rest.now c.in_ok-seen.after.now c.loop-field-test.true c.field-item.is pushed c.loop-field.invariant c.in_ok-seen.ensures

pub returns : goal.returns
returns c = cells_end c.args.fields.now c.loop-field.field-index (map seen_value c.loop-field.into.items) c.args.bytes.now c.loop-field.rest.now c.loop-field-test.false c.loop-field.invariant
