-- What a remover's calls may change of files, and what they leave.
use Rattle.std.specs.Prelude.{◌≡◌, ◌⊎◌, ℕ, List, ◌∷◌, ◌++◌, Contains, None, Some, IsSome}
use Rattle.std.specs.FinMap as map
use Rattle.pm_store.specs.Files.{Files, Puts, files_after}
use Rattle.pm_store.specs.Images.{Extends}
use Rattle.pm_store.specs.Store.{StoreView}
use Rattle.pm_store.specs.declared.call.Op.{Op}
use Rattle.pm_remove.specs.declared.phase.Phase.{Phase}
use Rattle.pm_remove.specs.declared.phase.Phase.TheVariants as phases

-- ---- how far it has come

-- these paths are left to be removed, and of those before them this holds
pub record HasDone (paths : List (List ℕ)) (P : List (List ℕ) → Type 0) (left : List (List ℕ)) : Type 0 where
  pub done : List (List ℕ)
  pub is : paths ≡ done ++ left
  pub so : P done

-- A phase is one of removing these paths, and of those that were removed before it this holds: of all, once none is
-- left.
abbrev pub IsAt : List (List ℕ) → (List (List ℕ) → Type 0) → Phase → Type 0
IsAt paths P (phases.Remove r) = HasDone paths P (r.next ∷ r.rest)
IsAt paths P phases.Removed = P paths
IsAt paths P phases.Over = Unit {0}

-- ---- what it may change

-- no path has another content
abbrev pub AreSame : Files → Files → Type 0
AreSame f after = (path : List ℕ) → map.get after path ≡ map.get f path

-- What a phase may change of files: where its next path is there, that goes.
abbrev pub Makes : Phase → Files → Files → Type 0
Makes (phases.Remove r) f after = AreSame f after ⊎ (IsSome (map.get f r.next) × Puts f r.next None after)
Makes other f after = ⊥

-- and its call carried out leaves the path absent, and all others as they were
abbrev pub Clears : Phase → Files → Files → Type 0
Clears (phases.Remove r) f after = Puts f r.next None after
Clears other f after = ⊥

-- ---- what is left where nobody else acts

-- these paths aren't there, and no other has another content
pub record IsWithout (first : Files) (paths : List (List ℕ)) (f : Files) : Type 0 where
  pub gone : (path : List ℕ) → Contains paths path → map.get f path ≡ None
  pub others : (path : List ℕ) → (Contains paths path → ⊥) → map.get f path ≡ map.get first path

-- so of the first so many of the paths
pub record HasLost (first : Files) (paths : List (List ℕ)) (f : Files) : Type 0 where
  pub done : List (List ℕ)
  pub left : List (List ℕ)
  pub is : paths ≡ done ++ left
  pub lost : IsWithout first done f

-- The operations up to a moment are known, of what they left these files have P, and so have all images of what came
-- since. Where none are told there, nothing is said.
abbrev pub LeavesOf : (Files → Files → Type 0) → (Files → Files → Type 0) → StoreView → StoreView → Type 0
LeavesOf P Image first after = (told : List Op) → first.ops ≡ Some told
    → (ops : List Op) × (after.ops ≡ Some ops) × P (files_after told) (files_after ops)
    × Extends (Image (files_after told)) first.ops after.ops

-- the files have lost the first so many of the paths, or all of them, and each image since then the first so many
abbrev pub LosesSome : List (List ℕ) → StoreView → StoreView → Type 0
LosesSome paths first after = LeavesOf (λ told f. HasLost told paths f) (λ told f. HasLost told paths f) first after

abbrev pub LosesAll : List (List ℕ) → StoreView → StoreView → Type 0
LosesAll paths first after = LeavesOf (λ told f. IsWithout told paths f) (λ told f. HasLost told paths f) first after
