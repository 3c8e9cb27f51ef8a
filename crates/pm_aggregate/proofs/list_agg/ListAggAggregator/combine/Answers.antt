use Rattle.std.proofs.Common.{subst, ap, ◌++◌, ◌∙◌}
use Rattle.std.specs.Prelude.{IsUtf8}
use Rattle.std.proofs.lemmas.Result.{IfOk-weaker}
use Rattle.pm_aggregate.specs.Column.{SpeaksForCells}
use Rattle.pm_aggregate.specs.Functions.{joined_of}
use Rattle.pm_aggregate.specs.Steps.{beside, glued}
use Rattle.pm_aggregate.proofs.FunctionLaws.{joined-combines}
use Rattle.pm_aggregate.proofs.list_agg.ListAggAggregator.combine.Goals as goal

-- the texts joined speak for what both speak for
pub returns : goal.returns
returns c =
    let f = c.args.self.now in
    let fine : IsUtf8 f.delimiter = subst IsUtf8 c.as_str.ensures c.as_str.utf8 in
    record {
      combines = λ before after one two.
          IfOk-weaker c.joined.result _ (λ v. SpeaksForCells (joined_of f.kind f.skips f.delimiter) v (before ++ after))
          (λ v is. joined-combines f.kind f.skips f.delimiter fine c.args.older c.args.newer v before after
          (is ∙ ap (λ d. beside (glued d) c.args.older c.args.newer) c.as_str.ensures) one two) c.joined.ensures;
    }
