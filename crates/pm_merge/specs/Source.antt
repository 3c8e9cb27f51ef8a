-- Rows that are given one after another.
use Rattle.std.specs.Prelude.{◌≡◌, ◌≢◌, List, [], ◌∷◌, Option, None, Some, Result, Ok, Err}
use Rattle.std.specs.Vec.Iter.{into_iter_items}
use Rattle.pm_values.specs.declared.record.Stamped.{Stamped}
use Rattle.pm_values.specs.declared.refusal.Refusal.{Refusal}
use Rattle.pm_values.specs.declared.refusal.Refusal.TheVariants.{Memory}
use Rattle.pm_merge.specs.declared.source.MemRows.{MemRows}

-- what a source has still to give: rows, and after them a refusal, if one comes
pub record Rest : Type 0 where
  pub rows : List Stamped
  pub refusal : Option Refusal

-- What one call makes of it: the first row stands in the place and the others are left; or there is neither a row nor a
-- refusal, and nothing changes; or no row is left, and the refusal comes: no row stands in the place, and nothing
-- changes, so that the refusal comes each time. Where memory ran out, nothing is said.
abbrev pub Fills : Rest → Result (Unit {0}) Refusal → Rest → Option Stamped → Type 0
Fills old (Ok done) new None = (old.rows ≡ []) × (old.refusal ≡ None) × (new ≡ old)
Fills old (Ok done) new (Some s) = (old.rows ≡ s ∷ new.rows) × (new.refusal ≡ old.refusal)
Fills old (Err e) new held =
    e ≢ Memory → (old.rows ≡ []) × (old.refusal ≡ Some e) × (new ≡ old) × (held ≡ None)

-- the same of a call that hands the row out
abbrev pub HandsOut : Rest → Result (Option Stamped) Refusal → Rest → Type 0
HandsOut old (Ok next) new = Fills old (Ok tt) new next
HandsOut old (Err e) new = Fills old (Err e) new None

-- what rows in memory have still to give: they have no refusal
abbrev pub rest_in_memory : MemRows → Rest
rest_in_memory r = record { rows = into_iter_items r.rows; refusal = None }
