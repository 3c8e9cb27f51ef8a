-- No snapshot from the end on named a dropped path when it was committed, nor does one that comes later.
use Rattle.std.proofs.Common.{◌≡◌, inl, inr, ℕ, ◌≤◌, List, subst, arith}
use Rattle.std.proofs.lemmas.Bool.{cases_lt}
use Rattle.pm_store.specs.Files.{Files}
use Rattle.pm_schema.specs.declared.schema.TableSchema.{TableSchema}
use Rattle.pm_model_history.specs.History.{IsTableOf}
use Rattle.pm_model_folder.specs.Commits.{Names}
use Rattle.pm_model_folder.specs.Ledger.{IsKnown, Past, Stands}
use Rattle.pm_model_folder.proofs.LedgerFacts.{at-table}
use Rattle.pm_model_expiry.specs.Expiry.{IsDropped}

pub never_named : (f : Files) (p : Past) (s : TableSchema) (end id : ℕ) (path : List ℕ) → Stands f p → IsTableOf s p.history → IsDropped p s end path
    → IsKnown p id → end ≤ id → Names (p.stood id) s id path → ⊥
never_named f p s end id path stands is_table dropped known from named = elim (cases_lt end id) as (λ _. ⊥) [
  | inr within ↦ (
      let same : id ≡ end = omega (arith, from, within) in
      dropped.spared (subst (λ (n : ℕ). Names (p.stood n) s n path) same named)
      )
  | inl above ↦ (
      let own = at-table f p s stands is_table in
      dropped.spared (own.3.gone dropped.gone end id path dropped.known dropped.below above known dropped.named named)
      )
]
