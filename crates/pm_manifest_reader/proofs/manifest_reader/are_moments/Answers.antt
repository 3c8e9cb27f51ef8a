use Rattle.std.proofs.Common.{◌≡◌, ◌==◌, length, true, false, List, [], ◌∷◌, refl, ◌∙◌, sym}
use Rattle.pm_avro_schema.specs.View as types
use Rattle.pm_avro_schema.specs.declared.kind.AvroType.{AvroType}
use Rattle.pm_manifest.specs.Entries.{are_moments}
use Rattle.pm_manifest_reader.proofs.manifest_reader.are_moments.Goals as goal

-- a third branch stands there
too_many : (ts later more : List AvroType) (first second : AvroType) → ts ≡ first ∷ later → later ≡ second ∷ more → (length more == 0) ≡ false
    → false ≡ are_moments (types.branches_view ts)
too_many ts later [] first second a b some = let no : true ≡ false = some in cc
too_many ts later (third ∷ more) first second a b some = rw (a, b) refl

pub returns-then-not-is_empty : goal.returns-then-not-is_empty
returns-then-not-is_empty c = too_many c.args.branches.now c.in-Some.later.now c.in-Some-split_first.more.now c.in-Some.first.now c.in-Some-split_first.second.now
    c.in-Some.ensures.cases.0 c.in-Some-split_first.ensures.cases.0 (sym c.is_empty.ensures ∙ c.if-not-is_empty.true)
