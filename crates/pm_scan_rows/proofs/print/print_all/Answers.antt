use Rattle.std.proofs.Common.{rules, true, false}
use Rattle.std.proofs.lemmas.Result.{err_from_is_err_and}
use Rattle.pm_scan_rows.specs.Next.{PrintsNext}
use Rattle.pm_scan_rows.proofs.GivenLemmas.{printed_all, printed_memory, printed_next, printed_none}
use Rattle.pm_scan_rows.proofs.print.print_all.Goals as goal

-- nothing is printed yet
pub loop-text-init : goal.loop-text-init
loop-text-init g c =
    let m = g.E.MergeEngine.meaning c.args.engine.now in
    printed_none m c.args.groups.now c.in_ok-sources_of.field-0.items c.in_ok-merging.merging c.in_ok-sources_of.ensures (c.in_ok-merging.ensures.left m) _ (search rules)

-- one row more
pub loop-text-preserved : goal.loop-text-preserved
loop-text-preserved g c =
    let m = g.E.MergeEngine.meaning c.args.engine.now in
    let next : PrintsNext m c.loop-text.merging c.push_next.new.merging c.loop-text.text.items c.push_next.new.text.items true = search rules in
    printed_next m c.args.groups.now c.given_law.ensures.more c.loop-text.merging c.push_next.new.merging c.loop-text.text.items c.push_next.new.text.items c.loop-text.invariant next

-- all rows that show were printed
pub returns-clause-prints : goal.returns-clause-prints
returns-clause-prints g c =
    let m = g.E.MergeEngine.meaning c.args.engine.now in
    let next : PrintsNext m c.loop-text.merging c.push_next.new.merging c.loop-text.text.items c.push_next.new.text.items false = search rules in
    printed_all m c.args.groups.now c.given_law.ensures.all c.loop-text.merging c.push_next.new.merging c.loop-text.text.items c.push_next.new.text.items c.requires.rising c.loop-text.invariant next

-- what was read has no refusal
pub returns-in_err-push_next-clause-memory : goal.returns-in_err-push_next-clause-memory
returns-in_err-push_next-clause-memory g c =
    let m = g.E.MergeEngine.meaning c.args.engine.now in
    let p = err_from_is_err_and c.from_residual-in_err-push_next.result c.from_residual-in_err-push_next.ensures.1 in
    rw (p.1, p.2)
    (printed_memory m c.args.groups.now c.given_law.ensures.memory c.loop-text.merging c.loop-text.text.items c.loop-text.invariant c.in_err-push_next.field-0.0 c.in_err-push_next.ensures.refuses)
