use Rattle.std.proofs.Common.{ℕ, Bool, List, Option, None, Some}
use Rattle.pm_words.specs.declared.command.Command.{Command}
use Rattle.pm_words.specs.declared.command.Command.TheVariants as commands
use Rattle.pm_cli.specs.InTurn.{IsExecuted}
use Rattle.pm_cli.specs.Promise.{Execution, Keeps}
use Rattle.pm_cli.proofs.Common.{with_command}
use Rattle.pm_cli.proofs.laws.keeps_law.Goals as goal

abbrev KeepsAs : Command → Type 0
KeepsAs command = (e : Execution) → IsExecuted (with_command command e) → Keeps (with_command command e)

each : KeepsAs commands.Create → ((at : Option ℕ) → KeepsAs (commands.Scan at)) → KeepsAs commands.Snapshots → ((dropped : Option (List ℕ)) → KeepsAs (commands.Consumers dropped))
    → ((full : Bool) → KeepsAs (commands.Compact full)) → ((min max millis : Option ℕ) → KeepsAs (commands.Expire min max millis))
    → ((from : Option ℕ) (consumer : Option (List ℕ)) (full : Bool) → KeepsAs (commands.Follow from consumer full))
    → ((user : Option (List ℕ)) (number : Option ℕ) → KeepsAs (commands.Write user number)) → (command : Command) → KeepsAs command
each create scan snapshots consumers compact expire follow write commands.Create = create
each create scan snapshots consumers compact expire follow write (commands.Scan at) = scan at
each create scan snapshots consumers compact expire follow write commands.Snapshots = snapshots
each create scan snapshots consumers compact expire follow write (commands.Consumers dropped) = consumers dropped
each create scan snapshots consumers compact expire follow write (commands.Compact full) = compact full
each create scan snapshots consumers compact expire follow write (commands.Expire min max millis) = expire min max millis
each create scan snapshots consumers compact expire follow write (commands.Follow from consumer full) = follow from consumer full
each create scan snapshots consumers compact expire follow write (commands.Generate batches rows seed) = λ e is. absurd is.single
each create scan snapshots consumers compact expire follow write (commands.Write user number) = write user number

-- one is listed or dropped
listed_or_dropped : KeepsAs (commands.Consumers None) → ((name : List ℕ) → KeepsAs (commands.Consumers (Some name))) → (dropped : Option (List ℕ))
    → KeepsAs (commands.Consumers dropped)
listed_or_dropped listed drops None = listed
listed_or_dropped listed drops (Some name) = drops name

-- without a consumer, or with one
followed_or_consumed : ((from : Option ℕ) (full : Bool) → KeepsAs (commands.Follow from None full))
    → ((from : Option ℕ) (name : List ℕ) (full : Bool) → KeepsAs (commands.Follow from (Some name) full)) → (from : Option ℕ) (consumer : Option (List ℕ)) (full : Bool)
    → KeepsAs (commands.Follow from consumer full)
followed_or_consumed follows consumes from None full = follows from full
followed_or_consumed follows consumes from (Some name) full = consumes from name full

pub returns : goal.returns
returns c = λ e is.
    each c.keeps_create_law.ensures c.keeps_scan_law.ensures c.keeps_snapshots_law.ensures
    (listed_or_dropped c.keeps_consumers_law.ensures c.keeps_drop_law.ensures) c.keeps_compact_law.ensures c.keeps_expire_law.ensures
    (followed_or_consumed c.keeps_follow_law.ensures c.keeps_consume_law.ensures)
    c.keeps_write_law.ensures e.command e is
