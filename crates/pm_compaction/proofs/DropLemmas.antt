-- The stored rows that are left out where nothing older is left have no effect, whatever the engine.
use Rattle.std.proofs.Common.{◌≡◌, Bool, true, false, sym, ap, ◌∙◌, refl}
use Rattle.pm_options.specs.declared.kinds.EngineKind.{EngineKind}
use Rattle.pm_options.specs.declared.kinds.EngineKind.TheVariants as engines
use Rattle.pm_schema.specs.declared.schema.TableSchema.{TableSchema}
use Rattle.pm_engine.specs.Meaning.{DropsNoEffect}
use Rattle.pm_engine.specs.OfSchema.{drops_by, meaning_of}
use Rattle.pm_dedup.specs.declared.deduplicate.Deduplicate.{Deduplicate}

no-drop : (kept : Bool) → kept ≡ false → kept ≡ true → ⊥
no-drop kept none some = let no : false ≡ true = sym none ∙ some in cc

pub no-effect : ((engine : Deduplicate) → DropsNoEffect (meaning_of engine.schema)) → (s : TableSchema) → DropsNoEffect (meaning_of s)
no-effect deduplicates s = at s.options.engine refl
  where
    at : (x : EngineKind) → s.options.engine ≡ x → DropsNoEffect (meaning_of s)
    at engines.Deduplicate is = deduplicates (record { schema = s; deduplicates = is })
    at engines.FirstRow is = λ key r taken drops. absurd (no-drop (drops_by s.options.engine r) (ap (λ k. drops_by k r) is) drops)
    at engines.PartialUpdate is = λ key r taken drops. absurd (no-drop (drops_by s.options.engine r) (ap (λ k. drops_by k r) is) drops)
    at engines.Aggregation is = λ key r taken drops. absurd (no-drop (drops_by s.options.engine r) (ap (λ k. drops_by k r) is) drops)
