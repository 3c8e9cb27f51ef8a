use Rattle.std.proofs.Common.{ℕ, sym, subst, ◌∙◌, arith}
use Rattle.std.proofs.lemmas.List.{nil_from_length}
use Rattle.pm_values.specs.Names.{name_of}
use Rattle.pm_run.specs.Writing.{IsFileWith, changes_prefix, suffix}
use Rattle.pm_run_writer.proofs.run_writer.RunWriter.finish_changes.Goals as goal

-- no row is in hand
pub returns-then-summary-eq0-clause-finished : goal.returns-then-summary-eq0-clause-finished
returns-then-summary-eq0-clause-finished c = λ s limit level rows hand. nil_from_length rows (sym hand.summary.count ∙ c.if-summary-eq0.true)

pub returns-clause-finished : goal.returns-clause-finished
returns-clause-finished c = λ s limit level rows hand.
    let count = hand.summary.count in
    let old = c.args.names.now in (
      omega (arith, c.if-summary-eq0.false),
      subst (λ (n : ℕ). IsFileWith s n old.session (name_of changes_prefix suffix old) rows c.in_ok-changes.changes) hand.levelled
          (rw c.in_ok-name.ensures.name at (c.in_ok-changes.ensures s old.session rows hand.writer hand.begun hand.summary (rw c.deref.ensures hand.last))),
    )
