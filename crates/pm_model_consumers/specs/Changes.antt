-- The kinds of change that commands make of consumers, floors and snapshots, whoever makes them.
use Rattle.std.specs.Prelude.{◌≡◌, ◌≢◌, ℕ, suc, ◌<◌, ◌≤◌, List, [], Bool, true, false, Option, Some, None}
use Rattle.pm_model_consumers.specs.Claims.{Claim, Counts, Follower, HasFloorFrom, IsFloor, Moment, Said}
use Rattle.pm_model_consumers.specs.Claims.{free, known_at, moved_past, new_at, settled, waits, with_claim}

-- the file of one name alone is another
pub record Puts (m : Moment) (name : List ℕ) (content : Option Said) (n : Moment) : Type 0 where
  pub here : n.file name ≡ content
  pub others : (other : List ℕ) → other ≢ name → n.file other ≡ m.file other

-- the floors stay
abbrev pub SameFloors : Moment → Moment → Type 0
SameFloors m n = (k : ℕ) → n.floor k ≡ m.floor k

-- the frames of the snapshots up to the newest stay
abbrev pub SameFrames : Moment → Moment → Type 0
SameFrames m n = (id : ℕ) → id ≤ m.newest → n.frame id ≡ m.frame id

-- snapshots stay
pub record SameSnapshots (m n : Moment) : Type 0 where
  pub least : n.least ≡ m.least
  pub newest : n.newest ≡ m.newest
  pub frames : SameFrames m n

-- snapshots and floors stay
pub record SameTable (m n : Moment) : Type 0 where
  pub snapshots : SameSnapshots m n
  pub floors : SameFloors m n

-- consumers' files stay, and so does what is known of them
pub record SameConsumers (m n : Moment) : Type 0 where
  pub file : (name : List ℕ) → n.file name ≡ m.file name
  pub claim : (name : List ℕ) → n.claim name ≡ m.claim name

-- what is known is the same but for one name
abbrev pub Claims : Moment → List ℕ → Claim → Moment → Type 0
Claims m name claim n = (other : List ℕ) → n.claim other ≡ with_claim name claim m.claim other

-- there is no file, or one that is new
abbrev pub IsUnsettled : Option Said → Type 0
IsUnsettled None = Unit {0}
IsUnsettled (Some said) = said.fresh ≡ true

-- nothing is known any more of what one put there
abbrev pub HasLost : Follower → Claim → Type 0
HasLost me claim = (listed : Bool) → claim ≢ waits me listed

-- What one who acts may change.
pub data Change (me : Follower) (m n : Moment) : Type 0 where
  -- nothing of all this
  nothing : SameTable m n → SameConsumers m n → Change me m n
  -- a snapshot is committed
  commits : SameConsumers m n → SameFloors m n → SameFrames m n → n.least ≡ m.least → n.newest ≡ suc m.newest
      → Change me m n
  -- a consumer's file goes, whatever it said: nothing is known of the name then
  goes : (name : List ℕ) → SameTable m n → Puts m name None n → Claims m name free n → Change me m n
  -- one that isn't settled becomes new, at most one above the newest snapshot, and the one who put it there waits
  registers : (name : List ℕ) (next : ℕ) → 1 ≤ next → next ≤ suc m.newest → SameTable m n → IsUnsettled (m.file name)
      → Puts m name (Some (new_at next)) n → Claims m name (waits me false) n → Change me m n
  -- who waits lists the floors, none of which exceeds the file's number
  lists : (name : List ℕ) (next : ℕ) → SameTable m n → ((other : List ℕ) → n.file other ≡ m.file other)
      → m.claim name ≡ waits me false → m.file name ≡ Some (new_at next) → ((k : ℕ) → IsFloor m k → k ≤ next)
      → Claims m name (waits me true) n → Change me m n
  -- and settles it then
  settles : (name : List ℕ) (next : ℕ) → SameTable m n → m.claim name ≡ waits me true
      → m.file name ≡ Some (new_at next) → Puts m name (Some (known_at next)) n → Claims m name (settled next []) n
      → Change me m n
  -- who doesn't wait any more settles what another put there: nothing is known of the name then
  usurps : (name : List ℕ) (next : ℕ) → SameTable m n → HasLost me (m.claim name) → m.file name ≡ Some (new_at next)
      → Puts m name (Some (known_at next)) n → Claims m name free n → Change me m n
  -- a consumer that isn't new goes on by one snapshot that is there or was, whose frame was printed
  moves : (name : List ℕ) (next : ℕ) (text : List ℕ) → SameTable m n → m.file name ≡ Some (known_at next)
      → next ≤ m.newest → text ≡ m.frame next → Puts m name (Some (known_at (suc next))) n
      → Claims m name (moved_past text (m.claim name)) n → Change me m n
  -- a floor appears, no higher than the newest snapshot
  announces : (k : ℕ) → k ≤ m.newest → SameConsumers m n → SameSnapshots m n → IsFloor n k
      → ((other : ℕ) → other ≢ k → n.floor other ≡ m.floor other) → Change me m n
  -- a floor goes that is below another
  forgets : (k above : ℕ) → SameConsumers m n → SameSnapshots m n → IsFloor m above → k < above
      → ((other : ℕ) → other ≢ k → n.floor other ≡ m.floor other) → (IsFloor n k → IsFloor m k) → Change me m n
  -- The least snapshot goes. It is below the newest, below a floor, and below the number of each consumer that counts.
  expires : SameConsumers m n → SameFloors m n → SameFrames m n → n.least ≡ suc m.least → n.newest ≡ m.newest
      → m.least < m.newest → HasFloorFrom m (suc m.least)
      → ((name : List ℕ) (said : Said) → Counts (m.claim name) → m.file name ≡ Some said → m.least < said.next)
      → Change me m n
