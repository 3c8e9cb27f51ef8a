use Rattle.std.proofs.Common.{arith}
use Rattle.pm_values.proofs.names.Names.new.Goals as goal

pub invariant_of-result : goal.invariant_of-result
invariant_of-result c =
    record {
      sixteen = c.bytes_fit.ensures.0;
      bytes = c.bytes_fit.ensures.1;
      actor_bits = omega (arith, c.ranges.actor.fits);
      base_bits = c.ranges.base.fits;
      count_bits = omega arith;
    }
