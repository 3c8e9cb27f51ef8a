use Rattle.std.proofs.Common.{◌≡◌, List, [], sym, subst, ◌∙◌, arith}
use Rattle.std.proofs.lemmas.List.{nil_from_length}
use Rattle.pm_values.specs.declared.record.Stamped.{Stamped}
use Rattle.pm_run_writer.specs.Written.{HasInHand}
use Rattle.pm_run_writer.proofs.run_writer.RunWriter.finish.Goals as goal

-- no row is in hand
pub returns-then-rows-eq0-clause-finished : goal.returns-then-rows-eq0-clause-finished
returns-then-rows-eq0-clause-finished c = λ s limit level rows hand.
    let none : rows ≡ [] = nil_from_length rows (sym hand.summary.count ∙ c.if-rows-eq0.true) in
    (none, subst (λ (xs : List Stamped). HasInHand s limit level c.args.names.now.session xs c.args.self.now) none hand)

pub returns-clause-finished : goal.returns-clause-finished
returns-clause-finished c = λ s limit level rows hand.
    let count = hand.summary.count in
    (omega (arith, c.if-rows-eq0.false), c.in_ok-end.ensures.ended s limit level rows hand)
