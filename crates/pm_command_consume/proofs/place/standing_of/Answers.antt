use Rattle.pm_command_consume.proofs.PlaceLemmas.{unsettled_is}
use Rattle.std.proofs.Common.{ℕ, List, Option, subst, sym}
use Rattle.pm_read_consumer.specs.Reader.{Says}
use Rattle.pm_command_consume.proofs.place.standing_of.Goals as goal

pub returns-in-None-settled_next : goal.returns-in-None-settled_next
returns-in-None-settled_next c = (
  c.in-Some.is,
  unsettled_is c.in-Some.bytes c.args.found.consumer (subst (λ (found : Option (List ℕ)). Says found c.args.found.consumer) c.in-Some.is c.requires)
      (sym c.in-None-settled_next.ensures),
)
