-- Data that are spelled as they are written.
use Rattle.std.specs.Prelude.{◌≡◌, ℕ, ◌+◌, ◌*◌, ◌<◌, ◌≤◌, ◌⊎◌, List, [], ◌∷◌, ◌++◌}
use Rattle.pm_avro_data.specs.Datum.{Data}
use Rattle.pm_avro_data.specs.Writing.{Fits, encoding}

-- Private: the source is the groups of n, in no more than it takes, so that the last of several isn't 0, and then the
-- rest
abbrev pub AreLeastGroups : ℕ → List ℕ → List ℕ → Type 0
AreLeastGroups n [] rest = ⊥
AreLeastGroups n (b ∷ source) rest = ((b < 128) × (n ≡ b) × (source ≡ rest))
    ⊎ ((128 ≤ b) × (b < 256)
    × ((high : ℕ) × (0 < high) × (n + 128 ≡ b + 128 * high) × AreLeastGroups high source rest))

-- the source is the bytes that are written for a datum, and then the rest; memory holds the datum
pub record IsSpelled (source rest : List ℕ) (d : Data) : Type 0 where
  pub spelled : source ≡ encoding d ++ rest
  pub fits : Fits d
