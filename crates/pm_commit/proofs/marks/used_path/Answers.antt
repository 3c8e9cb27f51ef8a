use Rattle.std.proofs.Common.{subst, sym, ◌∙◌, true≢false}
use Rattle.std.specs.Str.Iter.{HasSubslice}
use Rattle.pm_commit.specs.Marks.{mark_of}
use Rattle.pm_commit.proofs.MarkLemmas.{found-at, none-more}
use Rattle.pm_commit.proofs.marks.used_path.Goals as goal

pub returns-then-has_mark : goal.returns-then-has_mark
returns-then-has_mark c =
    found-at c.args.maker.now c.args.names.now c.loop-name.name-index c.name-item.result c.in_ok-manifest_path.field-0 c.loop-name-test.true c.name-item.is
    c.loop-name.invariant (subst (HasSubslice c.name-item.result) c.in_ok-mark.ensures (c.has_mark.ensures.0 c.if-has_mark.true)) c.in_ok-manifest_path.ensures

pub loop-name-preserved : goal.loop-name-preserved
loop-name-preserved c =
    none-more (mark_of c.args.maker.now) c.args.names.now c.loop-name.name-index c.name-item.result c.loop-name-test.true c.name-item.is c.loop-name.invariant
    (λ has. true≢false (sym (c.has_mark.ensures.1 (subst (HasSubslice c.name-item.result) (sym c.in_ok-mark.ensures) has)) ∙ c.if-has_mark.false))
