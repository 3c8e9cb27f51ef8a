-- Private: how a consumer stands, by what was found of it.
use Rattle.std.specs.Prelude.{◌≡◌, ℕ, false, Option, None, Some, if◌then◌else◌}
use Rattle.pm_snapshot.specs.declared.consumer.Consumer.{Consumer}
use Rattle.pm_read_consumer.specs.declared.phase.FoundConsumer.{FoundConsumer}
use Rattle.pm_register.specs.Registrar.{IsUnregistered, consumer_at}
use Rattle.pm_command_consume.specs.declared.place.Standing.{Standing}
use Rattle.pm_command_consume.specs.declared.place.Standing.TheVariants as standings

-- the snapshot that a consumer reads next, where it is settled
abbrev pub settled_next : Option Consumer → Option ℕ
settled_next None = None
settled_next (Some c) = if c.fresh then None else Some c.next

-- it is settled, and this is its place; or it is new, or no file was found
abbrev pub StandsAs : FoundConsumer → Standing → Type 0
StandsAs r (standings.Settled p) = (r.found ≡ Some p.bytes) × (r.consumer ≡ Some (consumer_at p.next false))
StandsAs r (standings.Unsettled found) = (r.found ≡ found) × IsUnregistered found
