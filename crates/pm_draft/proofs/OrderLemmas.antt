-- What a later line comes before.
use Rattle.std.proofs.Common.{◌≡◌, ℕ, false, Option, Result, Ok, Err, refl, sym, subst}
use Rattle.std.proofs.lemmas.Bool.{false≢true}
use Rattle.pm_base.specs.Outcome.{◌>>=◌}
use Rattle.pm_options.specs.Faults.{Answers, judged}
use Rattle.pm_schema.specs.declared.schema.TableSchema.{TableSchema}
use Rattle.pm_values.specs.declared.refusal.Refusal.{Refusal}
use Rattle.pm_values.specs.declared.refusal.Refusal.TheVariants as refusals
use Rattle.pm_draft.specs.Draft.{comes_first, later_fault, unless_later}

-- a later line is judged first, but for what comes before it
pub judged_first : (later : Option ℕ) (reading defined : Result TableSchema Refusal) → false ≡ comes_first reading
    → Answers (λ s. s) reading defined → unless_later later defined ≡ (judged (later_fault later) >>= λ alone. reading)
judged_first later (Ok s) defined is answers =
    subst (λ d. unless_later later d ≡ (judged (later_fault later) >>= λ alone. Ok s)) (sym answers) refl
judged_first later (Err refusals.Memory) defined is answers = absurd (false≢true is)
judged_first later (Err (refusals.BadLine line why column)) defined is answers = absurd (false≢true is)
judged_first later (Err other) defined is answers =
    subst (λ d. unless_later later d ≡ (judged (later_fault later) >>= λ alone. Err other)) (sym answers) refl
