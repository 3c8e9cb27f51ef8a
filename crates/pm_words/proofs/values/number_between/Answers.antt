use Rattle.std.proofs.Common.{◌≡◌, ◌∙◌, true≢false, sym, subst, Some}
use Rattle.pm_words.specs.Words.{GiveNumber}
use Rattle.pm_words.proofs.CommandLemmas.{none_between, not_between}
use Rattle.pm_words.proofs.values.number_between.Goals as goal

pub returns-in_err-number_given : goal.returns-in_err-number_given
returns-in_err-number_given c = λ declared words found known alone.
    rw c.from_residual.ensures (λ x is. c.in_err-number_given.ensures declared words found known alone (Some x) is.0)

pub returns-in_err-number : goal.returns-in_err-number
returns-in_err-number c = λ declared words found known alone.
    rw c.from_residual-in_err-number.ensures
    (none_between found.options c.args.option.now c.args.least c.args.greatest
    (subst (GiveNumber found.options c.args.option.now) c.in_err-number.was (c.in_ok-number_given.ensures declared words found known alone)))

pub returns-then-is_between : goal.returns-then-is_between
returns-then-is_between c = λ declared words found known alone.
    let gives = subst (GiveNumber found.options c.args.option.now) c.in_ok-number.was (c.in_ok-number_given.ensures declared words found known alone) in
    let within = c.is_between.ensures.0 c.if-is_between.true in
    (gives, within.0, within.1)

pub returns-else-is_between : goal.returns-else-is_between
returns-else-is_between c = λ declared words found known alone.
    let gives = subst (GiveNumber found.options c.args.option.now) c.in_ok-number.was (c.in_ok-number_given.ensures declared words found known alone) in
    not_between found.options c.args.option.now c.args.least c.args.greatest c.in_ok-number.number gives
    (λ is. true≢false (sym (c.is_between.ensures.1 is) ∙ c.if-is_between.false))
