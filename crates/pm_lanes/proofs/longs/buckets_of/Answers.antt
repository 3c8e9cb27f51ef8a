use Rattle.std.proofs.Common.{map, take, arith, ap, ◌∙◌}
use Rattle.pm_lanes.specs.Longs.{long_bucket}
use Rattle.pm_lanes.proofs.Parts.{placed}
use Rattle.pm_lanes.proofs.longs.buckets_of.Goals as goal

pub loop-done-preserved : goal.loop-done-preserved
loop-done-preserved c = record {
  within = omega (arith, c.min-count.ensures);
  so_far =
      placed (long_bucket c.args.buckets) c.loop-done.done c.min-count.result c.args.keys.now
      c.split_at_mut-later.result.0.now c.bucket_part.new.out
      c.split_at_mut-places.result.1.now c.split_at_mut-later.ensures.front_len
      (c.bucket_part.auto.out ∙ c.split_at_mut-places.ensures.front_len)
      (c.split_at_mut-later.ensures.front ∙ c.loop-done.invariant.so_far)
      (c.bucket_part.ensures ∙ ap (map (long_bucket c.args.buckets))
      (c.split_at-in-loop-done.ensures.front ∙ ap (take c.min-count.result) c.split_at.ensures.back));
}
