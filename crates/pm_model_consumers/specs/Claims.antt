-- Consumers, floors and snapshots at one moment, by their numbers and names alone, and what is known of each consumer.
use Rattle.std.specs.Prelude.{◌≡◌, ◌⊎◌, ℕ, suc, ◌≤◌, List, [], ◌∷◌, ◌++◌, Bool, true, false, Option, Some}
use Rattle.std.specs.Prelude.{if◌then◌else◌}
use Rattle.std.specs.Str.{bytes_eq}

-- what a consumer's file says: the snapshot that is read next, and whether the consumer is new
pub record Said : Type 0 where
  pub next : ℕ
  pub fresh : Bool

-- who registers consumers: the session of an actor, and its number in it
pub record Follower : Type 0 where
  pub session : List ℕ
  pub number : ℕ

-- What is known of a consumer's name beside its file: nothing; that one who registers it put its file there, which
-- nobody touched since, and whether that one has listed the floors since; or that it is settled, with the number that
-- its file had when it came to be, and the frames that it was moved past since then.
pub data Claim : Type 0 where
  free : Claim
  waits : (who : Follower) (listed : Bool) → Claim
  settled : (from : ℕ) (moved : List (List ℕ)) → Claim

-- what is there at a moment: the least snapshot and the newest, the frame of each up to the newest, the floors, and of
-- each name what its file says, if there is one, and what is known of it
pub record Moment : Type 0 where
  pub least : ℕ
  pub newest : ℕ
  pub frame : ℕ → List ℕ
  pub floor : ℕ → Bool
  pub file : List ℕ → Option Said
  pub claim : List ℕ → Claim

-- the floor of a number is there
abbrev pub IsFloor : Moment → ℕ → Type 0
IsFloor m k = m.floor k ≡ true

-- a floor is there whose number is at least this one
abbrev pub HasFloorFrom : Moment → ℕ → Type 0
HasFloorFrom m n = (k : ℕ) × IsFloor m k × (n ≤ k)

-- the file of a consumer that is new, and of one that isn't
abbrev pub new_at : ℕ → Said
new_at n = record { next = n; fresh = true }

abbrev pub known_at : ℕ → Said
known_at n = record { next = n; fresh = false }

-- No snapshot that the consumer needs may go: it is settled, or whoever registers it has listed the floors.
abbrev pub Counts : Claim → Type 0
Counts free = ⊥
Counts (waits who listed) = listed ≡ true
Counts (settled from moved) = Unit {0}

-- the texts are the frames of the snapshots from a number on, each of the one after the last, up to those below another
abbrev pub AreMoved : Moment → ℕ → List (List ℕ) → ℕ → Type 0
AreMoved m from [] next = from ≡ next
AreMoved m from (text ∷ moved) next = (from ≤ m.newest) × (text ≡ m.frame from) × AreMoved m (suc from) moved next

-- What holds of a name by what is known of it: while one waits its file is new, and where it counts the file's number
-- is one of a snapshot that hasn't gone. That of a settled one isn't new, and the frames that it was moved past are
-- those from where it came to be, each once and in order, up to its number.
abbrev pub IsClaimed : Moment → List ℕ → Claim → Type 0
IsClaimed m name free = Unit {0}
IsClaimed m name (waits who listed) =
    (n : ℕ) × (m.file name ≡ Some (new_at n)) × (1 ≤ n) × (listed ≡ true → m.least ≤ n)
IsClaimed m name (settled from moved) =
    (n : ℕ) × (m.file name ≡ Some (known_at n)) × (m.least ≤ n) × AreMoved m from moved n

-- what holds at each moment: where a snapshot after the first is the least, a floor announced it
pub record Holds (m : Moment) : Type 0 where
  pub within : m.least ≤ m.newest
  pub floor : (m.least ≤ 1) ⊎ HasFloorFrom m m.least
  pub claims : (name : List ℕ) → IsClaimed m name (m.claim name)

-- the claims where that on one name is another
abbrev pub with_claim : List ℕ → Claim → (List ℕ → Claim) → List ℕ → Claim
with_claim name claim claims other = if bytes_eq other name then claim else claims other

-- what is known of a consumer once its file was moved on past a frame
abbrev pub moved_past : List ℕ → Claim → Claim
moved_past text free = free
moved_past text (waits who listed) = waits who listed
moved_past text (settled from moved) = settled from (moved ++ text ∷ [])
