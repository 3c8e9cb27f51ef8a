-- What lists consumers or drops one answers, and what it promises.
use Rattle.std.proofs.Common.{ℕ, List, Option, None, Some}
use Rattle.pm_values.specs.declared.refusal.Refusal.{Refusal}
use Rattle.pm_command.specs.Outside.{Outside}
use Rattle.pm_command_consumers.proofs.ConsumerLaws as reads
use Rattle.pm_command_consumers.proofs.DropLaws as removes
use Rattle.pm_cli.specs.Commands.{IsListedOrRemoved, ListsOrDrops, ListsOrDropsTables}

pub answers_of : (dropped : Option (List ℕ)) (before after : Outside) (answer : Option Refusal)
    → IsListedOrRemoved dropped before.out after.out before.store after.store answer → ListsOrDrops dropped before after answer
answers_of None before after answer done = reads.listed_answers before after answer done
answers_of (Some name) before after answer done = removes.removed_answers name before after answer done

pub serves_of : (dropped : Option (List ℕ)) (before after : Outside) (answer : Option Refusal)
    → IsListedOrRemoved dropped before.out after.out before.store after.store answer → ListsOrDropsTables dropped before after answer
serves_of None before after answer done = reads.listed_serves before after answer done
serves_of (Some name) before after answer done = removes.removed_serves name before after answer done
