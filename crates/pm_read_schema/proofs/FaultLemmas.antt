-- The refusal of what was found at the path of a schema.
use Rattle.std.proofs.Common.{◌≡◌, ℕ, List, Option, Some, refl, sym, subst, inl, inr}
use Rattle.pm_base.specs.Outcome.{Fails}
use Rattle.pm_values.specs.declared.refusal.Refusal.{Refusal}
use Rattle.pm_values.specs.declared.refusal.Refusal.TheVariants as refusals
use Rattle.pm_store.specs.declared.answer.Answer.TheVariants as answers
use Rattle.pm_options.specs.Faults.{fault_of}
use Rattle.pm_schema.specs.Reading.{schema_of}
use Rattle.pm_model_folder.specs.Paths.{schema_path}
use Rattle.pm_read_schema.specs.Reader.{Shown}
use Rattle.pm_read_schema.specs.declared.phase.Phase.TheVariants as phases

-- a refusal of what was found at the path of a schema
pub shown : (id : ℕ) (found : Option (List ℕ)) (path bytes : List ℕ) (refusal : Refusal) → path ≡ schema_path id → found ≡ Some bytes
    → Fails (fault_of refusal) (schema_of path bytes) → Shown (phases.Schema id) (answers.Found found) refusal
shown id found path bytes refusal at is fails =
    subst (λ (found : Option (List ℕ)). Shown (phases.Schema id) (answers.Found found) refusal) (sym is)
    (of_bytes refusal (subst (λ (path : List ℕ). Fails (fault_of refusal) (schema_of path bytes)) at fails))
  where
    of_bytes : (refusal : Refusal) → Fails (fault_of refusal) (schema_of (schema_path id) bytes)
        → Shown (phases.Schema id) (answers.Found (Some bytes)) refusal
    of_bytes refusals.Memory fails = inl refl
    of_bytes other fails = inr fails
