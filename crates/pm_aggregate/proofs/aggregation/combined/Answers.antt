use Rattle.std.proofs.Common.{subst, sym, ◌++◌, List, Option, Some, Result, Ok, Err}
use Rattle.std.specs.Prelude.{IfOk}
use Rattle.pm_values.specs.declared.value.Value.{Value}
use Rattle.pm_aggregate.specs.Aggregation.{IsCombined}
use Rattle.pm_aggregate.specs.Column.{Cell, SpeaksForCells}
use Rattle.pm_aggregate.specs.ColumnFunction.{meaning_of}
use Rattle.pm_aggregate.specs.declared.column_function.ColumnFunction.{ColumnFunction}
use Rattle.pm_aggregate.proofs.aggregation.combined.Goals as goal

-- a law that holds of an answer for all cells
for_all : {E : Type 0} (r : Result Value E) (f : ColumnFunction) (a b : Value)
    → ((before after : List Cell) → SpeaksForCells (meaning_of f) a before → SpeaksForCells (meaning_of f) b after → IfOk r (λ v. SpeaksForCells (meaning_of f) v (before ++ after)))
    → IfOk r (IsCombined (Some f) a b)
for_all (Ok v) f a b law = law
for_all (Err e) f a b law = tt

-- the function's law
pub returns-in-Some : goal.returns-in-Some
returns-in-Some c =
    subst (λ (o : Option ColumnFunction). IfOk c.combine.result (IsCombined o c.args.older c.args.newer)) (sym c.in-Some.is)
    (for_all c.combine.result c.in-Some.function c.args.older c.args.newer c.combine.ensures.combines)
