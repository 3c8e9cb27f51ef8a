-- The rows of a file that was judged.
use Rattle.std.specs.Prelude.{◌≡◌, List, None}
use Rattle.std.specs.Coded.{Coded, Coded-set}
use mathlib.Core.HLevel.{is_prop→PathP}
use mathlib.Core.Logic.{∥∥₁_elim, ∥∥₁_prop}
use Rattle.pm_values.specs.declared.record.Stamped.{Stamped}
use Rattle.pm_run.specs.Rows.{Gives, Opened}
use Rattle.pm_run_bytes.specs.Direct.{IsDirect}
use Rattle.pm_run_bytes.specs.Known.{LieAt}
use Rattle.pm_run_bytes.specs.declared.direct.Direct.{Direct}

-- Private: an opened file has these rows and then its end, and no others; the marker is its own, it is as it is
-- written, and they lie in its bytes
pub record HasOnly (o : Opened) (d : Direct) (rows : List Stamped) : Type 0 where
  pub direct : IsDirect d o.form o.file
  pub gives : Gives o rows None
  pub only : (others : List Stamped) → Gives o others None → others ≡ rows
  pub lie : LieAt d o.file.bytes o.form o.changes o.file.first rows

-- Private: such rows of an opened file
abbrev pub OnlyRows : Opened → Direct → Type 0
OnlyRows o d = (rows : List Stamped) × ∥ HasOnly o d rows ∥₁

-- Private: they are one list
pub one_rows : Coded (List Stamped) → (o : Opened) (d : Direct) → IsProp (OnlyRows o d)
one_rows code o d x y =
    let same : x.0 ≡ y.0 = ∥∥₁_elim x.1 (Coded-set code x.0 y.0)
    (λ h. ∥∥₁_elim y.1 (Coded-set code x.0 y.0) (λ k. k.only x.0 h.gives)) in
    λ i. (same i, is_prop→PathP (λ j. ∥ HasOnly o d (same j) ∥₁) (λ j. ∥∥₁_prop) x.1 y.1 i)
