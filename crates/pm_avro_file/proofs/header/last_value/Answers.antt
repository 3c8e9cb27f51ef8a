use Rattle.std.proofs.Common.{◌∙◌}
use Rattle.std.specs.Prelude.{option_map}
use Rattle.pm_avro_file.proofs.Pairs.{last_value-more}
use Rattle.pm_avro_file.proofs.header.last_value.Goals as goal

pub loop-entry-preserved : goal.loop-entry-preserved
loop-entry-preserved c =
    c.newer-found.ensures ∙ last_value-more c.args.key.now c.args.entries.now c.loop-entry.entry-index c.entry-item.result (option_map (λ b. b.now) c.loop-entry.found) c.loop-entry-test.true c.entry-item.is c.loop-entry.invariant
