-- What a putter knows of the files, and what its calls may change of them.
use Rattle.std.specs.Prelude.{◌≡◌, ◌⊎◌, ℕ, List, ◌∷◌, ◌++◌, None, Some, IsSome}
use Rattle.std.specs.FinMap as map
use Rattle.std.specs.List.{AllByRecursion}
use Rattle.pm_store.specs.Files.{Files, Puts}
use Rattle.pm_put.specs.declared.putting.CommitFile.{CommitFile}
use Rattle.pm_put.specs.declared.putting.Publishing.{Publishing}
use Rattle.pm_put.specs.declared.phase.Phase.{Phase}
use Rattle.pm_put.specs.declared.phase.Phase.TheVariants as phases

-- what is put: files, in the order in which they are created, and what is published after them
pub record Putting : Type 0 where
  pub files : List CommitFile
  pub last : Publishing

-- ---- what it may change

-- no path has another content
abbrev pub AreSame : Files → Files → Type 0
AreSame f after = (path : List ℕ) → map.get after path ≡ map.get f path

-- a file with this content appears where there was none
abbrev pub Appears : List ℕ → List ℕ → Files → Files → Type 0
Appears path content f after = (map.get f path ≡ None) × Puts f path (Some content) after

-- What a phase may change of files. Where its next file isn't there that may appear, whole or in part. What is
-- published appears whole where it isn't there, while what it comes after is.
abbrev pub Makes : Phase → Files → Files → Type 0
Makes (phases.Create making) f after =
    AreSame f after ⊎ ((content : List ℕ) × Appears making.next.path content f after)
Makes (phases.Publish x) f after =
    AreSame f after ⊎ (IsSome (map.get f x.after) × Appears x.path x.bytes f after)
Makes other f after = ⊥

-- ---- what it knows

-- the file is there
abbrev pub IsPut : Files → CommitFile → Type 0
IsPut f file = map.get f file.path ≡ Some file.bytes

-- these files are left to be created, and of those before them this holds
pub record HasDone (put : Putting) (P : List CommitFile → Type 0) (left : List CommitFile) : Type 0 where
  pub done : List CommitFile
  pub files : put.files ≡ done ++ left
  pub so : P done

-- A phase is one of putting this, and of the files that were created before it this holds: of all, once none is left.
abbrev pub IsAt : Putting → (List CommitFile → Type 0) → Phase → Type 0
IsAt put P (phases.Create making) = (making.publishing ≡ put.last) × HasDone put P (making.next ∷ making.rest)
IsAt put P (phases.Publish x) = (x ≡ put.last) × P put.files
IsAt put P phases.Published = P put.files
IsAt put P phases.Lost = P put.files
IsAt put P phases.Over = Unit {0}

-- what it knows in each phase of what is put: that each file that it created is there
abbrev pub Knows : Putting → Phase → Files → Type 0
Knows put m f = IsAt put (AllByRecursion (IsPut f)) m

-- each of the files that is there stays so
abbrev pub StayPut : Files → Files → List CommitFile → Type 0
StayPut f after files = AllByRecursion (λ (file : CommitFile). IsPut f file → IsPut after file) files
