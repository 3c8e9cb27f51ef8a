-- Places for rows whose bytes may be known.
use Rattle.std.proofs.Common.{◌≡◌, ◌≤◌, ℕ, List, Option, None, Some, option_map, max, sym, subst, arith}
use Rattle.std.specs.Borrow.{Bor}
use Rattle.pm_values.specs.declared.record.Stamped.{Stamped}
use Rattle.pm_row_slots.specs.Slot.{number_of}
use Rattle.pm_engine.specs.Needed.{raised}
use Rattle.pm_run.specs.Form.{Form}
use Rattle.pm_run_bytes.specs.Lying.{HasContentOf, IsContentOf}

module _ (f : Form) where
  -- no bytes are known
  pub no_content_of : (row : Option Stamped) → HasContentOf f row None
  no_content_of None = tt
  no_content_of (Some x) = tt

  -- no row stands there
  pub none_has_content : (row : Option Stamped) (content : Option (Bor (List ℕ))) → row ≡ None → HasContentOf f row content
  none_has_content row content none = subst (λ (r : Option Stamped). HasContentOf f r content) (sym none) tt

  pub has_content_of : (row : Option Stamped) (content : Bor (List ℕ)) → IsContentOf f row content.now → HasContentOf f row (Some content)
  has_content_of None content is = tt
  has_content_of (Some x) content is = is

  -- a number that isn't above the row's own leaves it as it is
  pub raised_has_content : (row : Option Stamped) (content : Option (Bor (List ℕ))) (number : ℕ) → number ≤ number_of row → HasContentOf f row content → HasContentOf f (option_map (raised number) row) content
  raised_has_content None content number within has = tt
  raised_has_content (Some x) content number within has =
      let same : x.seq ≡ max x.seq number = omega (arith, within) in
      subst (λ (y : Stamped). HasContentOf f (Some y) content) (λ i. record { key = x.key; seq = same i; kind = x.kind; row = x.row }) has
