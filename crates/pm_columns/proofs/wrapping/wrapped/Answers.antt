use Rattle.pm_columns.proofs.WrapLemmas.{wrapped-low, wrapped-high}
use Rattle.pm_columns.proofs.wrapping.wrapped.Goals as goal

-- the remainder is below the half
pub returns-then-rest-half : goal.returns-then-rest-half
returns-then-rest-half c =
    wrapped-low c.args.kind c.args.n c.half_of-half.result c.rem_euclid-rest.result c.ranges.n c.half_of-half.ensures.half c.rem_euclid-rest.ensures.value c.if-rest-half.true

-- it isn't
pub returns-else-rest-half : goal.returns-else-rest-half
returns-else-rest-half c =
    wrapped-high c.args.kind c.args.n c.half_of-half.result c.rem_euclid-rest.result c.ranges.n c.half_of-half.ensures.half c.rem_euclid-rest.ensures.value c.if-rest-half.false
