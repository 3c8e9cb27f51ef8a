use Rattle.std.proofs.Common.{Bool, true, subst, sym, ◌++◌, List, Result, Ok, Err}
use Rattle.std.specs.Prelude.{IfOk}
use Rattle.pm_values.specs.declared.column.ColType.{ColType}
use Rattle.pm_values.specs.declared.value.Value.{Value}
use Rattle.pm_aggregate.specs.Column.{Cell, SpeaksForCells}
use Rattle.pm_aggregate.specs.Functions.{last_non_null_of}
use Rattle.pm_partial.specs.PartialUpdate.{IsFrom}
use Rattle.pm_partial.specs.declared.update.Side.{Side}
use Rattle.pm_partial.specs.declared.update.Side.TheVariants.{Latest}
use Rattle.pm_partial.proofs.partial_update.combined.Goals as goal

-- a law that holds of an answer for all cells
abbrev Law : {E : Type 0} → Result Value E → ColType → Bool → Value → Value → Type 0
Law r kind skips a b = (before after : List Cell) → SpeaksForCells (last_non_null_of kind skips) a before → SpeaksForCells (last_non_null_of kind skips) b after
    → IfOk r (λ v. SpeaksForCells (last_non_null_of kind skips) v (before ++ after))

for_all : {E : Type 0} (r : Result Value E) (kind : ColType) (a b : Value) → Law r kind true a b → IfOk r (IsFrom (Latest kind) a b)
for_all (Ok v) kind a b law = law
for_all (Err e) kind a b law = tt

-- the function's law
pub returns-in-Latest : goal.returns-in-Latest
returns-in-Latest c =
    let kind = c.in-Latest.column in
    subst (λ (p : Side). IfOk c.combine.result (IsFrom p c.args.older c.args.newer)) (sym c.in-Latest.is)
    (for_all c.combine.result kind c.args.older c.args.newer
    (subst (λ b. Law c.combine.result kind b c.args.older c.args.newer) c.latest.ensures.skips
    (subst (λ k. Law c.combine.result k c.latest.result.skips c.args.older c.args.newer) c.latest.ensures.kind c.combine.ensures.combines)))
