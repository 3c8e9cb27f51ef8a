use Rattle.std.proofs.Common.{ℕ, List, sym}
use Rattle.std.proofs.lemmas.Result.{err_from_is_err_and}
use Rattle.pm_words.specs.Words.{Give, IsInRange}
use Rattle.pm_words.specs.declared.command.Command.{Command}
use Rattle.pm_words.specs.declared.command.Command.TheVariants as commands
use Rattle.pm_cli.proofs.NothingLaws.{nothing_answers, nothing_acts, nothing_serves}
use Rattle.pm_cli.proofs.execute.execute.Goals as goal

-- a command that is given has its numbers
in_range : (words : List (List ℕ)) (command : Command) → Give words command → IsInRange command
in_range words (commands.Follow from consumer full) give = (give.values.3, give.values.1.1)
in_range words commands.Create give = tt
in_range words (commands.Scan at) give = tt
in_range words (commands.Consumers dropped) give = give.values.1
in_range words commands.Snapshots give = tt
in_range words (commands.Compact full) give = tt
in_range words (commands.Expire min max millis) give = give.values.3
in_range words (commands.Generate batches rows seed) give = give.values.3
in_range words (commands.Write user identifier) give = tt

pub execute_command-requires : goal.execute_command-requires
execute_command-requires g c =
    let found = rw c.in-Some.is at c.in_ok-command.ensures.some in
    in_range c.args.words.now c.in-Some.command found

pub returns-in_err-command-clause-command : goal.returns-in_err-command-clause-command
returns-in_err-command-clause-command g c =
    λ command give.
    let p = err_from_is_err_and c.from_residual.result c.from_residual.ensures.1 in
    rw (p.1, p.2)
    (nothing_answers c.args.start.now (g.S.Source.seen c.args.input.now) (g.W.Sink.seen c.args.out.now)
    (g.F.FileStore.seen c.args.store.now) c.past_law.ensures command)

pub returns-in_err-command-clause-acts : goal.returns-in_err-command-clause-acts
returns-in_err-command-clause-acts g c =
    λ command give.
    let p = err_from_is_err_and c.from_residual.result c.from_residual.ensures.1 in
    rw (p.1, p.2)
    (nothing_acts c.args.start.now (g.S.Source.seen c.args.input.now) (g.W.Sink.seen c.args.out.now)
    (g.F.FileStore.seen c.args.store.now) c.past_law.ensures command)

pub returns-in_err-command-clause-history : goal.returns-in_err-command-clause-history
returns-in_err-command-clause-history g c =
    λ command give.
    let p = err_from_is_err_and c.from_residual.result c.from_residual.ensures.1 in
    rw (p.1, p.2)
    (nothing_serves c.args.start.now (g.S.Source.seen c.args.input.now) (g.W.Sink.seen c.args.out.now)
    (g.F.FileStore.seen c.args.store.now) c.follow_law.ensures c.consume_law.ensures command (in_range c.args.words.now command give))

pub returns-in_err-no_command-in-None-clause-command : goal.returns-in_err-no_command-in-None-clause-command
returns-in_err-no_command-in-None-clause-command g c =
    λ command give.
    let p = err_from_is_err_and c.from_residual-in_err-no_command-in-None.result c.from_residual-in_err-no_command-in-None.ensures.1 in
    rw (p.1, p.2)
    (nothing_answers c.args.start.now (g.S.Source.seen c.args.input.now) (g.W.Sink.seen c.args.out.now)
    (g.F.FileStore.seen c.args.store.now) c.past_law.ensures command)

pub returns-in_err-no_command-in-None-clause-acts : goal.returns-in_err-no_command-in-None-clause-acts
returns-in_err-no_command-in-None-clause-acts g c =
    λ command give.
    let p = err_from_is_err_and c.from_residual-in_err-no_command-in-None.result c.from_residual-in_err-no_command-in-None.ensures.1 in
    rw (p.1, p.2)
    (nothing_acts c.args.start.now (g.S.Source.seen c.args.input.now) (g.W.Sink.seen c.args.out.now)
    (g.F.FileStore.seen c.args.store.now) c.past_law.ensures command)

pub returns-in_err-no_command-in-None-clause-history : goal.returns-in_err-no_command-in-None-clause-history
returns-in_err-no_command-in-None-clause-history g c =
    λ command give.
    let p = err_from_is_err_and c.from_residual-in_err-no_command-in-None.result c.from_residual-in_err-no_command-in-None.ensures.1 in
    rw (p.1, p.2)
    (nothing_serves c.args.start.now (g.S.Source.seen c.args.input.now) (g.W.Sink.seen c.args.out.now)
    (g.F.FileStore.seen c.args.store.now) c.follow_law.ensures c.consume_law.ensures command (in_range c.args.words.now command give))

pub returns-in-Some-clause-command : goal.returns-in-Some-clause-command
returns-in-Some-clause-command g c =
    λ command give.
    let found = rw c.in-Some.is at c.in_ok-command.ensures.some in
    rw (sym (c.one_command_law.ensures c.args.words.now c.in-Some.command command found give))
    c.execute_command.ensures.command

pub returns-in-Some-clause-acts : goal.returns-in-Some-clause-acts
returns-in-Some-clause-acts g c =
    λ command give.
    let found = rw c.in-Some.is at c.in_ok-command.ensures.some in
    rw (sym (c.one_command_law.ensures c.args.words.now c.in-Some.command command found give))
    c.execute_command.ensures.acts

pub returns-in-Some-clause-history : goal.returns-in-Some-clause-history
returns-in-Some-clause-history g c =
    λ command give.
    let found = rw c.in-Some.is at c.in_ok-command.ensures.some in
    rw (sym (c.one_command_law.ensures c.args.words.now c.in-Some.command command found give))
    c.execute_command.ensures.history

pub returns-in_ok-no_command-in-None-clause-command : goal.returns-in_ok-no_command-in-None-clause-command
returns-in_ok-no_command-in-None-clause-command g c = λ command give. absurd ((rw c.in-None.is at c.in_ok-command.ensures.none) command give)

pub returns-in_ok-no_command-in-None-clause-acts : goal.returns-in_ok-no_command-in-None-clause-acts
returns-in_ok-no_command-in-None-clause-acts g c = λ command give. absurd ((rw c.in-None.is at c.in_ok-command.ensures.none) command give)

pub returns-in_ok-no_command-in-None-clause-history : goal.returns-in_ok-no_command-in-None-clause-history
returns-in_ok-no_command-in-None-clause-history g c = λ command give. absurd ((rw c.in-None.is at c.in_ok-command.ensures.none) command give)
