-- Keys of rows that are judged where they lie.
use Rattle.std.proofs.Common.{◌≡◌, Bool, true, false, List, [], ◌∷◌, ◌++◌, Option, Some, map, refl, subst}
use Rattle.pm_row_slots.specs.Seen.{seen_value}
use Rattle.pm_row_slots.specs.declared.seen.Seen.{Seen}
use Rattle.pm_values.specs.Order.{Values}
use Rattle.pm_values.specs.declared.record.Stamped.{Stamped}
use Rattle.pm_run.specs.Order.{last_key, may_follow}
use Rattle.pm_run_bytes.specs.Seen.{seen_key}

-- a key that may follow the last one, if there is one
pub follows_last : (changes some : Bool) (last : List Seen) (before : Option Values) (key : Values) → seen_key some last ≡ before → some ≡ true
    → may_follow changes (Some (map seen_value last)) key ≡ true → may_follow changes before key ≡ true
follows_last changes true last before key is some may = subst (λ (b : Option Values). may_follow changes b key ≡ true) is may
follows_last changes false last before key is some may = cc

pub follows_none : (changes some : Bool) (last : List Seen) (before : Option Values) (key : Values) → seen_key some last ≡ before → some ≡ false → may_follow changes before key ≡ true
follows_none changes true last before key is none = cc
follows_none changes false last before key is none = subst (λ (b : Option Values). may_follow changes b key ≡ true) is refl

-- the last key of rows, once there is one more
pub last_more : (before : Option Values) (rows : List Stamped) (x : Stamped) → Some x.key ≡ last_key before (rows ++ x ∷ [])
last_more before [] x = refl
last_more before (y ∷ rows) x = last_more (Some y.key) rows x
