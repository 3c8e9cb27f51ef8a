-- The paths that views named one after another, but for those that the last one names.
use Rattle.std.specs.Prelude.{◌⊎◌, ◌↔◌, ℕ, List, Contains}
use Rattle.std.specs.Cmp.Lexicographic.{slice_cmp}
use Rattle.std.specs.List.Sorted.{IsStrictlySortedBy}
use Rattle.std.specs.Ordering.{nat_cmp}

-- the paths of the last view, and those of views before it
pub record DroppingView : Type 0 where
  pub kept : List (List ℕ)
  pub gone : List (List ℕ)

abbrev pub dropping_of : List (List ℕ) → List (List ℕ) → DroppingView
dropping_of kept gone = record { kept = kept; gone = gone }

-- some view named the path
abbrev pub IsSeen : DroppingView → List ℕ → Type 0
IsSeen d path = Contains d.gone path ⊎ Contains d.kept path

-- One view more named these paths: it is the last. Of what the one before it named only that is held which this one
-- doesn't.
pub record Adds (before : DroppingView) (paths : List (List ℕ)) (after : DroppingView) : Type 0 where
  pub kept : (path : List ℕ) → Contains after.kept path ↔ Contains paths path
  pub seen : (path : List ℕ) → IsSeen after path ↔ (IsSeen before path ⊎ Contains paths path)
  pub new : (path : List ℕ) → Contains after.gone path → Contains before.gone path ⊎ (Contains paths path → ⊥)

-- the paths that some view named and the last one doesn't, rising by bytes
pub record AreDropped (d : DroppingView) (paths : List (List ℕ)) : Type 0 where
  pub rising : IsStrictlySortedBy (slice_cmp nat_cmp) paths
  pub exact : (path : List ℕ) → Contains paths path ↔ (Contains d.gone path × (Contains d.kept path → ⊥))

-- Private: the path is one of these, or of those others that some lack
abbrev pub HasOrLacks : List (List ℕ) → List (List ℕ) → List (List ℕ) → List ℕ → Type 0
HasOrLacks paths others sorted path = Contains paths path ⊎ (Contains others path × (Contains sorted path → ⊥))

-- ---- what views named

-- some of the views named the path
abbrev pub IsNamedIn : List (List (List ℕ)) → List ℕ → Type 0
IsNamedIn views path = (view : List (List ℕ)) × Contains views view × Contains view path

-- these views were added, in any order but for the last one
pub record HasSeen (views : List (List (List ℕ))) (last : List (List ℕ)) (d : DroppingView) : Type 0 where
  pub kept : (path : List ℕ) → Contains d.kept path ↔ Contains last path
  pub seen : (path : List ℕ) → IsSeen d path ↔ (IsNamedIn views path ⊎ Contains last path)
