use Rattle.std.proofs.Common.{ℕ, List, Option, None, Some, subst, sym}
use Rattle.pm_values.specs.declared.refusal.Refusal.{Refusal}
use Rattle.pm_command.specs.Outside.{Outside, outside}
use Rattle.pm_command.specs.declared.start.Start.{Start}
use Rattle.pm_words.specs.declared.command.Command.{Command}
use Rattle.pm_cli.specs.Commands.{Acts, IsSingle, ServesHistories}
use Rattle.pm_cli.specs.InTurn.{IsExecuted}
use Rattle.pm_cli.specs.Promise.{Execution, Keeps}
use Rattle.pm_cli.proofs.running.run.Goals as goal

-- a command that was executed so, with this answer
abbrev executed : Command → Start → List ℕ → Outside → Outside → Option Refusal → Execution
executed command start bytes before after answer =
    record { command = command; start = start; input = bytes; before = before; after = after; refusal = answer }

-- what follows of it from the law, by what the commands ensure
kept : ((e : Execution) → IsExecuted e → Keeps e) → (command : Command) → IsSingle command → (start : Start) (bytes : List ℕ) (before after : Outside) (answer : Option Refusal)
    → Acts command start before after answer → ServesHistories command start before after answer
    → Keeps (executed command start bytes before after answer)
kept law command single start bytes before after answer acts history =
    law (executed command start bytes before after answer) (record { single = single; acts = acts; history = history })

pub returns-in-Ok-clause-history : goal.returns-in-Ok-clause-history
returns-in-Ok-clause-history g c = c.in-Ok.ensures.history

pub returns-in-Err-clause-history : goal.returns-in-Err-clause-history
returns-in-Err-clause-history g c = λ command gives.
    let before = outside (g.S.Source.seen c.args.input.now) (g.W.Sink.seen c.args.out.now) (g.F.FileStore.seen c.args.store.now) in
    let after = outside (g.S.Source.seen c.execute.new.input) (g.W.Sink.seen c.execute.new.out) (g.F.FileStore.seen c.execute.new.store) in
    let served = (c.in-Err.ensures.history command gives) in
    subst (λ (answer : Option Refusal). ServesHistories command c.args.start.now before after answer)
    (sym c.refused.ensures.refusal) served

pub returns-in-Ok-clause-promise : goal.returns-in-Ok-clause-promise
returns-in-Ok-clause-promise g c = λ command bytes gives single.
    let before = outside (g.S.Source.seen c.args.input.now) (g.W.Sink.seen c.args.out.now) (g.F.FileStore.seen c.args.store.now) in
    let after = outside (g.S.Source.seen c.execute.new.input) (g.W.Sink.seen c.execute.new.out) (g.F.FileStore.seen c.execute.new.store) in
    kept c.keeps_law.ensures command single c.args.start.now bytes before after None (c.in-Ok.ensures.acts command gives) (c.in-Ok.ensures.history command gives)

pub returns-in-Err-clause-promise : goal.returns-in-Err-clause-promise
returns-in-Err-clause-promise g c = λ command bytes gives single.
    let before = outside (g.S.Source.seen c.args.input.now) (g.W.Sink.seen c.args.out.now) (g.F.FileStore.seen c.args.store.now) in
    let after = outside (g.S.Source.seen c.execute.new.input) (g.W.Sink.seen c.execute.new.out) (g.F.FileStore.seen c.execute.new.store) in
    let start = c.args.start.now in
    subst (λ (answer : Option Refusal). Keeps (executed command start bytes before after answer)) (sym c.refused.ensures.refusal)
    (kept c.keeps_law.ensures command single start bytes before after (Some c.in-Err.refusal) (c.in-Err.ensures.acts command gives)
    (c.in-Err.ensures.history command gives))
