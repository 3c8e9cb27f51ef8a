use Rattle.std.proofs.Common.{◌≡◌, ◌==◌, length, true, false, List, [], ◌∷◌, None, refl, ◌∙◌, sym}
use Rattle.pm_avro_schema.specs.View as types
use Rattle.pm_avro_schema.specs.declared.kind.AvroType.{AvroType}
use Rattle.pm_record.specs.Record.{other_branch}
use Rattle.pm_record.proofs.record.other_branch.Goals as goal

-- a third branch stands there
too_many : (ts later more : List AvroType) (first second : AvroType) → ts ≡ first ∷ later → later ≡ second ∷ more → (length more == 0) ≡ false
    → None ≡ other_branch (types.branches_view ts)
too_many ts later [] first second a b some = let no : true ≡ false = some in cc
too_many ts later (third ∷ more) first second a b some = rw (a, b) refl

pub returns-then-not-is_empty : goal.returns-then-not-is_empty
returns-then-not-is_empty c = too_many c.args.branches.now c.in_ok-first.later.now c.in_ok-second.more.now c.in_ok-first.first.now c.in_ok-second.second.now
    c.in_ok-first.ensures.cases.0 c.in_ok-second.ensures.cases.0 (sym c.is_empty.ensures ∙ c.if-not-is_empty.true)
