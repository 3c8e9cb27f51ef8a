-- The end of an expiry: the least snapshot that is kept. Snapshots are given by their ids and times, by rising id.
use Rattle.std.specs.Prelude.{◌≡◌, ℕ, ◌+◌, ◌-◌, ◌<◌, ◌≤◌, min, max, nat_lt, ℤ, pos, ◌-ℤ◌, int_le}
use Rattle.std.specs.Prelude.{Bool, true, false, if◌then◌else◌, Option, Some, None, List, length, slice_index_or}
use Rattle.std.specs.List.{position_or_len, range_with_len}
use Rattle.pm_expire_end.specs.declared.keep.Keep.{Keep}

-- the id at an index
abbrev pub id_at : List (ℕ × ℤ) → ℕ → ℕ
id_at times index = (slice_index_or times index (0, pos 0)).0

-- the first id
abbrev pub first_id : List (ℕ × ℤ) → ℕ
first_id times = id_at times 0

-- the last id
abbrev pub last_id : List (ℕ × ℤ) → ℕ
last_id times = id_at times (length times - 1)

-- at least one snapshot, and each id is one above the id before it
pub record AreConsecutive (times : List (ℕ × ℤ)) : Type 0 where
  pub some : 0 < length times
  pub each : (index : ℕ) → index < length times → id_at times index ≡ first_id times + index

-- the time of the snapshot with an id
abbrev pub time_of_id : List (ℕ × ℤ) → ℕ → ℤ
time_of_id times id = (slice_index_or times (id - first_id times) (0, pos 0)).1

-- the time from which on snapshots are recent
abbrev pub since : Keep → ℤ → ℤ
since keep now = now -ℤ pos keep.millis

-- the snapshot with an id isn't older than that
abbrev pub is_recent : List (ℕ × ℤ) → ℤ → ℕ → Bool
is_recent times from id = int_le from (time_of_id times id)

-- The least end that is chosen by time: no more than the greatest number is kept. A difference below 0 counts as 0,
-- here and for the highest end, which changes no end.
abbrev pub lowest : ℕ → ℕ → Keep → ℕ
lowest first last keep = max first (last + 1 - keep.max)

-- the greatest end: the least number is kept, and what a consumer reads next
abbrev pub highest : ℕ → Keep → Option ℕ → ℕ
highest last keep None = last + 1 - keep.min
highest last keep (Some next) = min (last + 1 - keep.min) next

-- the first recent snapshot from a low id up to a high one, or the high id where none is below that
abbrev pub first_recent : List (ℕ × ℤ) → ℤ → ℕ → ℕ → ℕ
first_recent times from low high =
    low + position_or_len (is_recent times from) (range_with_len low (high - low))

-- the end
abbrev pub expire_end_of : List (ℕ × ℤ) → Keep → ℤ → Option ℕ → ℕ
expire_end_of times keep now next =
    let low = lowest (first_id times) (last_id times) keep in
    let high = highest (last_id times) keep next in
    if nat_lt low high then first_recent times (since keep now) low high else max (first_id times) high

-- an end between a low id and a high one: nothing before it is recent, and it is recent itself or the high one
pub record IsFirstRecent (times : List (ℕ × ℤ)) (from : ℤ) (low high end : ℕ) : Type 0 where
  pub from_low : low ≤ end
  pub to_high : end ≤ high
  pub older : (id : ℕ) → low ≤ id → id < end → is_recent times from id ≡ false
  pub recent : end < high → is_recent times from end ≡ true

-- the end, as a relation
pub data IsExpireEnd (times : List (ℕ × ℤ)) (keep : Keep) (now : ℤ) (next : Option ℕ) (end : ℕ) : Type 0 where
  -- something is left to choose by time
  chosen : lowest (first_id times) (last_id times) keep < highest (last_id times) keep next
      → IsFirstRecent times (since keep now) (lowest (first_id times) (last_id times) keep)
      (highest (last_id times) keep next) end
      → IsExpireEnd times keep now next end
  -- nothing is
  forced : highest (last_id times) keep next ≤ lowest (first_id times) (last_id times) keep
      → end ≡ max (first_id times) (highest (last_id times) keep next) → IsExpireEnd times keep now next end

-- What an end keeps: it lies among the ids, as many snapshots as the least number stay, or all of them, and so does
-- what a consumer reads next and all after it. What goes and is recent has at least the greatest number above it.
pub record KeepsNeeded (times : List (ℕ × ℤ)) (keep : Keep) (now : ℤ) (next : Option ℕ) (end : ℕ) : Type 0 where
  pub first : first_id times ≤ end
  pub last : end ≤ last_id times
  pub least : min (length times) keep.min + end ≤ last_id times + 1
  pub consumer : (id : ℕ) → next ≡ Some id → end ≤ max (first_id times) id
  pub recent : (id : ℕ) → first_id times ≤ id → id < end → is_recent times (since keep now) id ≡ true
      → keep.max + id ≤ last_id times

-- none of the three numbers is less
pub record KeepsMore (less more : Keep) : Type 0 where
  pub min : less.min ≤ more.min
  pub max : less.max ≤ more.max
  pub millis : less.millis ≤ more.millis

-- consumers read no later: where there is a least number, there is one that isn't above it
abbrev pub ReadsMore : Option ℕ → Option ℕ → Type 0
ReadsMore None more = Unit {0}
ReadsMore (Some next) more = (id : ℕ) × (more ≡ Some id) × (id ≤ next)
