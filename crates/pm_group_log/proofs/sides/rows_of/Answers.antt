use Rattle.std.proofs.lemmas.List.{nil_from_length}
use Rattle.pm_group_log.specs.Told.{is_side}
use Rattle.pm_group_log.proofs.SidesLemmas.{side-ended, side-next, side-unknown}
use Rattle.pm_group_log.proofs.sides.rows_of.Goals as goal

-- no run is known any more
pub returns-in_default : goal.returns-in_default
returns-in_default c =
    side-unknown (is_side c.args.below c.args.first) c.loop-own.older.now _ _ _ (nil_from_length c.loop-own.older.now c.in_default.ensures.cases) c.loop-own.invariant

-- one more
pub loop-own-preserved : goal.loop-own-preserved
loop-own-preserved c =
    side-next (is_side c.args.below c.args.first) c.loop-own.older.now c.in-Some.newer.now c.in-Some.oldest.now c.args.read.now c.loop-own.own-index c.own-item.result
    _ _ _ c.in-Some.ensures.cases.0 c.loop-own-test.true c.own-item.is c.in_ok-put_side.ensures c.loop-own.invariant

-- all were read
pub returns : goal.returns
returns c = side-ended (is_side c.args.below c.args.first) c.loop-own.older.now c.args.read.now c.loop-own.own-index _ _ c.loop-own-test.false c.loop-own.invariant
