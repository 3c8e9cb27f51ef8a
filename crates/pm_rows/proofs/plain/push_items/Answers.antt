use Rattle.std.proofs.Common.{map, rules, take}
use Rattle.pm_row_slots.specs.Seen.{seen_value}
use Rattle.pm_row_slots.specs.declared.seen.Seen.TheVariants.{Null}
use Rattle.pm_rows.specs.Plain.{AddsTo, items_text}
use Rattle.pm_rows.proofs.PlainLemmas.{items_next, adds_further, plain_at}
use Rattle.pm_rows.proofs.plain.push_items.Goals as goal

pub push_item-requires : goal.push_item-requires
push_item-requires c = plain_at c.args.values.now c.loop-value.value-index Null c.loop-value-test.true c.requires

pub loop-value-preserved : goal.loop-value-preserved
loop-value-preserved c =
    items_next c.args.values.now c.loop-value.value-index Null c.args.text.now.items c.loop-value.text.items c.push_item.new.text.items c.loop-value-test.true c.loop-value.invariant
    (search rules)

pub returns-clause-adds : goal.returns-clause-adds
returns-clause-adds c = record { more = items_text (map seen_value (take c.loop-value.value-index c.args.values.now)); joined = c.loop-value.invariant }

pub returns-in_err-push_item-clause-adds : goal.returns-in_err-push_item-clause-adds
returns-in_err-push_item-clause-adds c =
    let so_far : AddsTo c.args.text.now.items c.loop-value.text.items = record { more = items_text (map seen_value (take c.loop-value.value-index c.args.values.now)); joined = c.loop-value.invariant } in
    adds_further so_far c.push_item.ensures.adds
