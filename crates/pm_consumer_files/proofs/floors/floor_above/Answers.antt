use Rattle.std.proofs.Common.{ap, subst, sym, ◌∙◌}
use Rattle.pm_consumer_files.specs.Floors.{Exceeds, above}
use Rattle.pm_consumer_files.proofs.FloorLemmas.{exceeds_is}
use Rattle.pm_consumer_files.proofs.floors.floor_above.Goals as goal

pub returns : goal.returns
returns c = subst (Exceeds c.args.names.now c.args.next) (sym (c.above.ensures ∙ ap (above c.args.next) c.greatest_from.ensures))
    (exceeds_is c.args.names.now c.args.next)
