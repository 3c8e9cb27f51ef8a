use Rattle.std.proofs.Common.{arith}
use Rattle.pm_avro_data.proofs.Pushing.{pushed_start, pushed_more, pushed_end}
use Rattle.pm_avro_data.proofs.writing.push_groups.Goals as goal

pub loop-left-init : goal.loop-left-init
loop-left-init c = pushed_start c.args.out.now.items c.args.number (omega arith)

pub loop-left-preserved : goal.loop-left-preserved
loop-left-preserved c =
    rw c.in_ok-push.ensures.items (pushed_more c.loop-left.out.items c.loop-left.left c.args.out.now.items c.args.number c.loop-left-test.true c.loop-left.invariant)

pub returns : goal.returns
returns c =
    rw c.in_ok-push-2.ensures.items (pushed_end c.loop-left.out.items c.loop-left.left c.args.out.now.items c.args.number c.loop-left-test.false c.loop-left.invariant)
