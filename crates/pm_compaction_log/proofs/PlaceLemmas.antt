-- The row of a place.
use Rattle.std.proofs.Common.{◌≡◌, Option, Some, None, is_none, true, false, refl}
use Rattle.pm_values.specs.declared.record.Stamped.{Stamped}

pub none-stands : (row : Option Stamped) → is_none row ≡ true → row ≡ None
none-stands None e = refl
none-stands (Some x) e = cc

pub some-stands : (row : Option Stamped) → is_none row ≡ false → (x : Stamped) × (row ≡ Some x)
some-stands None e = cc
some-stands (Some x) e = (x, refl)

pub some-same : (x y : Stamped) → Some x ≡ Some y → x ≡ y
some-same x y e = cc
