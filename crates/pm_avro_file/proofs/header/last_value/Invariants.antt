use Rattle.std.proofs.Common.{◌≡◌, take}
use Rattle.std.specs.Prelude.{option_map}
use Rattle.pm_avro_file.specs.Container.{last_value}
use Rattle.pm_avro_file.specs.Views.{pairs_view}
use Rattle.pm_avro_file.proofs.header.last_value.Given as goal

abbrev pub invariant-loop-entry : goal.invariant-loop-entry
invariant-loop-entry l = option_map (λ b. b.now) l.found ≡ last_value l.key (pairs_view (take l.entry-index l.entries))
