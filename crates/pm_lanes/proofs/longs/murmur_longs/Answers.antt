use Rattle.std.proofs.Common.{map, take, arith, ap, ◌∙◌}
use Rattle.pm_lanes.specs.Longs.{long_hash}
use Rattle.pm_lanes.proofs.Parts.{placed}
use Rattle.pm_lanes.proofs.longs.murmur_longs.Goals as goal

pub loop-done-preserved : goal.loop-done-preserved
loop-done-preserved c = record {
  within = omega (arith, c.loop-done-test.true);
  so_far =
      placed long_hash c.loop-done.done 8 c.args.values.now c.split_at_mut-later.result.0.now c.hash_block.new.out
      c.split_at_mut-places.result.1.now c.split_at_mut-later.ensures.front_len
      (c.hash_block.auto.out ∙ c.split_at_mut-places.ensures.front_len)
      (c.split_at_mut-later.ensures.front ∙ c.loop-done.invariant.so_far)
      (c.hash_block.ensures
      ∙ ap (map long_hash) (c.split_at-in-loop-done.ensures.front ∙ ap (take 8) c.split_at.ensures.back));
}
