-- The times of snapshots that were read, and the least number that consumers read next.
use Rattle.std.specs.Prelude.{◌≡◌, ◌≢◌, ℕ, ◌+◌, ◌-◌, ◌<◌, ◌≤◌, min, ℤ, List, [], ◌++◌, Contains, length, map}
use Rattle.std.specs.Prelude.{Option, None, Some}
use Rattle.pm_consumer_files.specs.declared.lines.NamedConsumer.{NamedConsumer}
use Rattle.pm_expire_end.specs.Expiry.{AreConsecutive, first_id, id_at, last_id}
use Rattle.pm_snapshots.specs.declared.line.SnapshotLine.{SnapshotLine}

-- the id and the time of each
abbrev pub times_of : List SnapshotLine → List (ℕ × ℤ)
times_of lines = map (λ (l : SnapshotLine). (l.id, l.time)) lines

-- Of ids and times these are the last, as many as follow each other by one: where the ids rise, those from the least
-- id on from which on none lacks.
pub record IsChain (all times : List (ℕ × ℤ)) : Type 0 where
  pub before : List (ℕ × ℤ)
  pub is : all ≡ before ++ times
  pub each : AreConsecutive times
  pub gap : 0 < length before → last_id before + 1 ≢ first_id times

-- Private: the snapshot before that at the index is the one below it
abbrev pub Joins : List (ℕ × ℤ) → ℕ → Type 0
Joins times index = (0 < index) × (id_at times (index - 1) + 1 ≡ id_at times index)

-- Private: from the index on each id is one above the id before it
pub record Follow (times : List (ℕ × ℤ)) (first : ℕ) : Type 0 where
  pub within : first < length times
  pub each : (index : ℕ) → first ≤ index → index < length times
      → id_at times index ≡ id_at times first + (index - first)

-- Private: and it is the least such index
pub record BeginsChain (times : List (ℕ × ℤ)) (first : ℕ) : Type 0 where
  pub follow : Follow times first
  pub gap : Joins times first → ⊥

-- Private: the lesser of a number, if there is one, and another
abbrev pub lesser : Option ℕ → ℕ → ℕ
lesser None next = next
lesser (Some least) next = min least next

-- the least number of the consumers, new ones among them; or there is no consumer
abbrev pub IsLeastNext : List NamedConsumer → Option ℕ → Type 0
IsLeastNext consumers None = consumers ≡ []
IsLeastNext consumers (Some next) =
    ((c : NamedConsumer) × Contains consumers c × (c.consumer.next ≡ next))
    × ((c : NamedConsumer) → Contains consumers c → next ≤ c.consumer.next)
