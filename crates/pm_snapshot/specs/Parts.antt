-- Private: the parts of a name between its prefix and its suffix, from the last to the first.
use Rattle.std.specs.Prelude.{◌≡◌, ◌≢◌, ℕ, ◌^◌, ◌<◌, ◌≤◌, List, ◌∷◌, ◌++◌, All, slice_index, length, decimal}
use Rattle.uuid.specs.Text.{hyphenated_text, hyphen, lower}
use Rattle.pm_snapshot.specs.Names.{greatest}

-- no hyphen stands in the text
abbrev pub IsUncut : List ℕ → Type 0
IsUncut text = (k : ℕ) → k < length text → slice_index text k ≢ hyphen

-- the text is cut at its first hyphen
pub record IsCut (text before after : List ℕ) : Type 0 where
  pub joined : text ≡ before ++ hyphen ∷ after
  pub uncut : IsUncut before

-- a base, and a count
pub record IsCounted (text : List ℕ) (base : ℕ) : Type 0 where
  pub count : ℕ
  pub base_within : base ≤ greatest
  pub count_bits : count < 2 ^ 64
  pub is : text ≡ decimal base ++ hyphen ∷ decimal count

-- an actor, a base and a count
pub record IsMade (text : List ℕ) (base : ℕ) : Type 0 where
  pub actor : ℕ
  pub counted : List ℕ
  pub actor_within : actor ≤ greatest
  pub is_counted : IsCounted counted base
  pub is : text ≡ decimal actor ++ hyphen ∷ counted

-- the identifier of a session: a UUID in lower case with hyphens
pub record IsIdentifier (text : List ℕ) : Type 0 where
  pub session : List ℕ
  pub sixteen : length session ≡ 16
  pub bytes : All (λ b. b < 256) session
  pub is : text ≡ hyphenated_text lower session

-- a session, an actor, a base and a count
pub record IsMiddle (text : List ℕ) (base : ℕ) : Type 0 where
  pub identifier : List ℕ
  pub made : List ℕ
  pub is_identifier : IsIdentifier identifier
  pub is_made : IsMade made base
  pub is : text ≡ identifier ++ hyphen ∷ made
