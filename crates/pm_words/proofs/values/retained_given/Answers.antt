use Rattle.std.proofs.Common.{◌≡◌, ◌∙◌, true≢false, sym}
use Rattle.pm_words.proofs.CommandLemmas.{not_retained}
use Rattle.pm_words.proofs.values.retained_given.Goals as goal

pub returns-in_err-number : goal.returns-in_err-number
returns-in_err-number c = λ declared words found known alone.
    rw c.from_residual.ensures (λ x is. c.in_err-number.ensures declared words found known alone x is.0)

pub returns-then-is_retained : goal.returns-then-is_retained
returns-then-is_retained c = λ declared words found known alone.
    (c.in_ok-number.ensures declared words found known alone, c.is_retained.ensures.0 c.if-is_retained.true)

pub returns-else-is_retained : goal.returns-else-is_retained
returns-else-is_retained c = λ declared words found known alone.
    not_retained found.options c.args.option.now c.in_ok-number.number (c.in_ok-number.ensures declared words found known alone)
    (λ is. true≢false (sym (c.is_retained.ensures.1 is) ∙ c.if-is_retained.false))
