use Rattle.std.proofs.Common.{◌≡◌, ◌++◌, drop}
use Rattle.pm_consumer_files.specs.Lines.{consumers_text}
use Rattle.pm_consumer_files.proofs.lines.print_consumers.Given as goal

abbrev pub invariant-loop-consumer : goal.invariant-loop-consumer
invariant-loop-consumer l = l.text.items ++ consumers_text (drop l.consumer-index l.consumers) ≡ consumers_text l.consumers
