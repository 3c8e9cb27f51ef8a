-- The mark of an actor in the names of its files.
use Rattle.std.specs.Prelude.{◌≡◌, ℕ, List, ◌∷◌, ◌++◌, decimal, [], Option, None, Some}
use Rattle.std.specs.List.{AllByRecursion}
use Rattle.std.specs.Str.Iter.{HasSubslice}
use Rattle.uuid.specs.Text.{hyphenated_text, hyphen, lower}
use Rattle.pm_values.specs.Names.{Naming}
use Rattle.pm_model_contents.specs.Lists.{manifest_path}

-- the session and the number of the actor, between hyphens
abbrev pub mark_of : Naming → List ℕ
mark_of maker = hyphen ∷ (hyphenated_text lower maker.session ++ hyphen ∷ (decimal maker.actor ++ hyphen ∷ []))

-- none of the names contains the mark
abbrev pub HaveNone : List ℕ → List (List ℕ) → Type 0
HaveNone mark names = AllByRecursion (λ (name : List ℕ). HasSubslice name mark → ⊥) names

-- the first of the names that contains the mark of a maker of names, by its path, or none
abbrev pub FindsUsed : Naming → List (List ℕ) → Option (List ℕ) → Type 0
FindsUsed maker names None = HaveNone (mark_of maker) names
FindsUsed maker names (Some path) = (before after : List (List ℕ)) × (name : List ℕ)
    × (names ≡ before ++ name ∷ after) × HaveNone (mark_of maker) before × HasSubslice name (mark_of maker)
    × (path ≡ manifest_path name)
