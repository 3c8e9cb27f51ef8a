use Rattle.std.proofs.Common.{◌∙◌}
use Rattle.pm_input.proofs.FirstLemmas.{first_limit_is}
use Rattle.pm_input.proofs.judge.first_limit.Goals as goal

pub returns : goal.returns
returns c =
    c.first_of.ensures ∙ first_limit_is c.args.limits.now c.args.room.now c.args.line.now c.row_offset-row.result c.row_offset-row.ensures
