use Rattle.std.proofs.Common.{List, refl, sym, subst, ◌∙◌}
use Rattle.pm_values.specs.declared.record.Change.{Change}
use Rattle.pm_changelog.specs.GroupLog.{IsNext}
use Rattle.pm_compaction_log.proofs.ToldLemmas.{left-out-told, next-more, pair-told}
use Rattle.pm_compaction_log.proofs.UponLemmas.{on-ok}
use Rattle.pm_compaction_log.proofs.told.tell_pair.Goals as goal

pub returns-then-is_left_out : goal.returns-then-is_left_out
returns-then-is_left_out c =
    left-out-told c.args.equal_out c.args.old c.args.new c.args.log.now c.args.key.now (sym c.is_left_out.ensures ∙ c.if-is_left_out.true)

pub tell_row-requires-2 : goal.tell_row-requires-2
tell_row-requires-2 c =
    subst (λ (cs : List Change). IsNext cs c.args.key.now) (sym c.in_ok-tell_row.ensures) (next-more c.args.log.now c.args.key.now _ refl c.requires)

pub returns : goal.returns
returns c =
    on-ok c.tell_row-2.result c.tell_row-2.ensures
    (λ is. pair-told c.args.equal_out c.args.old c.args.new c.args.log.now c.tell_row.new.log c.tell_row-2.new.log c.args.key.now (sym c.is_left_out.ensures ∙ c.if-is_left_out.false) c.in_ok-tell_row.ensures is)
