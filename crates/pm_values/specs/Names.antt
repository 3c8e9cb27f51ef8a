-- The names of the files that one maker of names gives.
use Rattle.std.specs.Prelude.{◌≡◌, ℕ, ◌+◌, ◌^◌, ◌<◌, List, ◌∷◌, ◌++◌, All, length, decimal}
use Rattle.uuid.specs.Text.{hyphenated_text, hyphen, lower}

-- a maker of names: its session, its actor, the base of the names that follow, and how many it has given
pub record Naming : Type 0 where
  pub session : List ℕ
  pub actor : ℕ
  pub base : ℕ
  pub count : ℕ

abbrev pub with_count : List ℕ → ℕ → ℕ → ℕ → Naming
with_count session actor base count = record { session = session; actor = actor; base = base; count = count }

-- before the first name
abbrev pub naming : List ℕ → ℕ → ℕ → Naming
naming session actor base = with_count session actor base 0

-- with the next count
abbrev pub counted : Naming → Naming
counted names = record names { count = names.count + 1 }

-- with another base
abbrev pub based : ℕ → Naming → Naming
based base names = record names { base = base }

-- The next name: the prefix, the session as an identifier, the actor, the base and the count in decimal,
-- and the suffix.
abbrev pub name_of : List ℕ → List ℕ → Naming → List ℕ
name_of prefix suffix names =
    prefix ++ (hyphenated_text lower names.session
    ++ hyphen ∷ (decimal names.actor
    ++ hyphen ∷ (decimal names.base
    ++ hyphen ∷ (decimal names.count ++ suffix))))

-- a session is sixteen bytes, and the numbers have 64 bits
pub record IsNaming (names : Naming) : Type 0 where
  pub sixteen : length names.session ≡ 16
  pub bytes : All (λ b. b < 256) names.session
  pub actor_bits : names.actor < 2 ^ 64
  pub base_bits : names.base < 2 ^ 64
  pub count_bits : names.count < 2 ^ 64
