-- Which refusals the file of a schema and a draft have.
use Rattle.std.specs.Prelude.{◌≡◌, ◌⊎◌, ℕ, List, []}
use Rattle.pm_values.specs.declared.refusal.Refusal.{Refusal}
use Rattle.pm_values.specs.declared.refusal.Refusal.TheVariants as refusals
use Rattle.pm_values.specs.declared.refusal.Why.TheVariants as whys

-- a fault of the schema's file at the path: its form, a text that isn't supported, a limit or a rule
abbrev pub IsFaultOf : List ℕ → Refusal → Type 0
IsFaultOf path (refusals.Damaged other place) = (other ≡ path) × (place ≡ 0)
IsFaultOf path (refusals.Unsupported what text) = Unit {0}
IsFaultOf path (refusals.Limit which number) = Unit {0}
IsFaultOf path (refusals.SchemaRule rule) = Unit {0}
IsFaultOf path other = ⊥

-- A fault of a draft: the form of a line, a text that isn't supported, a limit or a rule. A line of another form has
-- no column to name.
abbrev pub IsDraftFault : Refusal → Type 0
IsDraftFault (refusals.BadLine line why column) = ((why ≡ whys.Json) ⊎ (why ≡ whys.Draft)) × (column ≡ [])
IsDraftFault (refusals.Unsupported what text) = Unit {0}
IsDraftFault (refusals.Limit which number) = Unit {0}
IsDraftFault (refusals.SchemaRule rule) = Unit {0}
IsDraftFault other = ⊥
