-- What an expiry asks for, and what it found.
use Rattle.std.specs.Prelude.{◌≡◌, ℕ, ◌<◌, ◌≤◌, ℤ, List, [], Contains, Option}
use Rattle.std.specs.List.Sorted.{IsStrictlyIncreasing}
use Rattle.pm_expire_end.specs.Expiry.{expire_end_of, first_id, last_id}
use Rattle.pm_schema.specs.Again.{IsDeclared}
use Rattle.pm_read_schema.specs.Trace.{Names}
use Rattle.pm_snapshots.specs.declared.phase.Phase as listing
use Rattle.pm_read_expiry.specs.Times.{IsChain}
use Rattle.pm_read_expiry.specs.declared.asking.Asking.{Asking}
use Rattle.pm_read_expiry.specs.declared.asking.Found.{Found}
use Rattle.pm_read_expiry.specs.declared.asking.Listed.{Listed}

-- what may be asked for: at least one snapshot is kept
pub record IsAsking (a : Asking) : Type 0 where
  pub declared : IsDeclared a.schema
  pub some : 1 ≤ a.keep.min

-- ids of snapshots, as they are listed: they rise, and none is the origin's
pub record AreSnapshotIds (ids : List ℕ) : Type 0 where
  pub rising : IsStrictlyIncreasing ids
  pub after_origin : (id : ℕ) → Contains ids id → 1 ≤ id

-- what was listed: the snapshots, by the phase of their lister, and the floors
abbrev pub listed_of : Asking → listing.Phase → Names → Listed
listed_of a m floors = record { asking = a; lister = m; floors = floors }

-- the table has no snapshot but its origin
pub record IsNoneFound (a : Asking) (x : Found) : Type 0 where
  pub schema : x.schema ≡ a.schema
  pub first : x.first ≡ 0
  pub last : x.last ≡ 0
  pub end : x.end ≡ 0
  pub floors : x.floors.items ≡ []

-- It has snapshots of these ids and times, and this is the least number that its consumers read next: of the snapshots
-- that count the first and the last were found, and the end of an expiry of them, with the floors that were listed.
pub record IsFoundIn (a : Asking) (times : List (ℕ × ℤ)) (next : Option ℕ) (names : List (List ℕ)) (x : Found)
    : Type 0 where
  pub chain : List (ℕ × ℤ)
  pub is_chain : IsChain times chain
  pub schema : x.schema ≡ a.schema
  pub first : x.first ≡ first_id chain
  pub last : x.last ≡ last_id chain
  pub end : x.end ≡ expire_end_of chain a.keep a.now next
  pub floors : x.floors.items ≡ names

-- What was found is in order: it is of a schema that was read, and the end is among the snapshots. The first of them
-- comes after the origin where one is to go.
pub record IsInOrder (x : Found) : Type 0 where
  pub declared : IsDeclared x.schema
  pub first : x.first ≤ x.end
  pub last : x.end ≤ x.last
  pub some : x.first < x.end → 1 ≤ x.first
