use Rattle.std.proofs.Common.{◌≡◌, ℕ, zero, suc, slice_get, List, [], ◌∷◌, Option, Some, None, refl, sym, ap, ◌∙◌}
use Rattle.std.specs.Option.{option_map, option_or}
use Rattle.pm_options.specs.Faults.{first_of, refused}
use Rattle.pm_options.specs.Pairs.{all_pairs, first_ignored, refused_pair}
use Rattle.pm_values.specs.declared.refusal.Refusal.{Refusal}
use Rattle.pm_options.specs.declared.kinds.EngineKind.{EngineKind}
use Rattle.pm_options.specs.declared.kinds.EngineKind.TheVariants as kinds
use Rattle.pm_schema.specs.Again.{IsDeclared}
use Rattle.pm_schema.specs.Rules.{fields_hold_by, nulls_hold_by}
use Rattle.pm_schema.specs.declared.schema.TableSchema.{TableSchema}
use Rattle.pm_engines.specs.TableEngine.{Serves}
use Rattle.pm_engines.proofs.laws.declared_law.Goals as goal

-- where there is no first fault, no item of the list has one
none-at : {A : Type 0} (fault : A → Option Refusal) (xs : List A) (i : ℕ) (x : A) → first_of fault xs ≡ None → slice_get xs i ≡ Some x → fault x ≡ None
none-at fault [] i x none at = cc
none-at fault (y ∷ ys) zero x none at = let same : y ≡ x = cc in ap fault (sym same) ∙ first (fault y) none
  where
    first : (o : Option Refusal) → option_or o (first_of fault ys) ≡ None → o ≡ None
    first None e = refl
    first (Some e) f = cc
none-at fault (y ∷ ys) (suc i) x none at = none-at fault ys i x (rest (fault y) none) at
  where
    rest : (o : Option Refusal) → option_or o (first_of fault ys) ≡ None → first_of fault ys ≡ None
    rest None e = e
    rest (Some e) f = cc

nothing : {A B : Type 0} (f : A → B) (o : Option A) → option_map f o ≡ None → o ≡ None
nothing f None e = refl
nothing f (Some x) e = cc

-- by the engine that it names
serves : (s : TableSchema) → IsDeclared s → (kind : EngineKind) → s.options.engine ≡ kind → Serves kind s
serves s declared kinds.Deduplicate e = tt
serves s declared kinds.FirstRow e = declared.rules.1.0
serves s declared kinds.PartialUpdate e = record {
  nullable = ap (λ k. nulls_hold_by k s) (sym e) ∙ declared.rules.1.1.1.1.1.1.1.0;
  groups = ap (λ k. fields_hold_by k s) (sym e) ∙ declared.rules.1.1.1.1.1.0;
}
serves s declared kinds.Aggregation e = record {
  nullable = ap (λ k. nulls_hold_by k s) (sym e) ∙ declared.rules.1.1.1.1.1.1.1.0;
  skips = nothing refused (first_ignored s.options.functions s.options.ignore_retract) (none-at (refused_pair s.options) all_pairs 4 _ declared.options.pairs refl);
}

-- each has one
pub returns : goal.returns
returns c s declared = serves s declared s.options.engine refl
