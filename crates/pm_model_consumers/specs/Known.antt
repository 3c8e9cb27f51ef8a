-- What a follower knows of the consumer that it registers, whoever else acts.
use Rattle.std.specs.Prelude.{◌≡◌, ◌⊎◌, ℕ, List, Bool, Some}
use Rattle.pm_model_consumers.specs.Changes.{HasLost}
use Rattle.pm_model_consumers.specs.Claims.{Follower, Moment, new_at, waits}

-- it waits, and the file says what it put there
pub record WaitsAt (me : Follower) (name : List ℕ) (next : ℕ) (listed : Bool) (m : Moment) : Type 0 where
  pub claim : m.claim name ≡ waits me listed
  pub file : m.file name ≡ Some (new_at next)

-- it waits, or somebody touched the file since
abbrev pub HasRegistered : Follower → List ℕ → ℕ → Bool → Moment → Type 0
HasRegistered me name next listed m = WaitsAt me name next listed m ⊎ HasLost me (m.claim name)
