-- The files of a store, and what operations do to them.
use Rattle.std.specs.Prelude.{◌≡◌, ◌≢◌, ◌↔◌, ℕ, Bool, List, [], ◌∷◌, ◌++◌, drop, length, Contains, Option, None, Some}
use Rattle.std.specs.Prelude.{IsSome, is_none, is_some, ◌&&◌, ◌==◌, nat_eq, if◌then◌else◌}
use Rattle.std.specs.Option.{option_eq}
use Rattle.std.specs.List.{starts_with, before_first}
use Rattle.std.specs.List.Sorted.{IsStrictlySortedBy}
use Rattle.std.specs.Ordering.{nat_cmp}
use Rattle.std.specs.Cmp.Lexicographic.{pointwise, slice_cmp}
use Rattle.std.specs.FinMap as map
use Rattle.pm_store.specs.declared.call.Call.{Call}
use Rattle.pm_store.specs.declared.call.Call.TheVariants as calls
use Rattle.pm_store.specs.declared.call.Effect.{Effect}
use Rattle.pm_store.specs.declared.call.Effect.TheVariants as effects
use Rattle.pm_store.specs.declared.call.Op.{Op}

-- from paths to bytes
abbrev pub Files : Type 0
Files = map.FinMap (slice_cmp nat_cmp) (List ℕ)

-- the same bytes, or absent both
abbrev pub is_same : Option (List ℕ) → Option (List ℕ) → Bool
is_same = option_eq (pointwise ◌==◌)

-- the files after a call that was carried out whole, its own condition included
abbrev pub carried : Call → Files → Files
carried (calls.List folder) files = files
carried (calls.Read path) files = files
carried (calls.Create path bytes) files =
    if is_none (map.get files path) then map.insert files path bytes else files
carried (calls.Publish after path bytes) files =
    if is_none (map.get files path) && is_some (map.get files after) then map.insert files path bytes else files
carried (calls.Swap path expected bytes) files =
    if is_same (map.get files path) expected then map.insert files path bytes else files
carried (calls.Remove path) files = map.remove files path

-- the files with these bytes at an absent path, or with it still absent
abbrev pub left_at : List ℕ → Option (List ℕ) → Files → Files
left_at path None files = files
left_at path (Some found) files = if is_none (map.get files path) then map.insert files path found else files

-- the files after a part of a call: only a create can be cut
abbrev pub cut : Call → Option (List ℕ) → Files → Files
cut (calls.Create path bytes) found files = left_at path found files
cut call found files = files

-- the files after a call with this effect
abbrev pub after_effect : Call → Effect → Files → Files
after_effect call effects.None files = files
after_effect call (effects.Part found) files = cut call found files
after_effect call effects.Whole files = carried call files

-- the files after an operation
abbrev pub after_op : Op → Files → Files
after_op op files = after_effect op.call op.effect files

-- the files after operations, from these
abbrev pub after_from : Files → List Op → Files
after_from files [] = files
after_from files (op ∷ ops) = after_from (after_op op files) ops

-- the files after operations, from none
abbrev pub files_after : List Op → Files
files_after ops = after_from map.empty ops

-- what operations leave at a path
abbrev pub file_at : List Op → List ℕ → Option (List ℕ)
file_at ops path = map.get (files_after ops) path

-- the byte between the parts of a path
abbrev pub slash : ℕ
slash = 47

-- what stands before the names in a folder, in the paths below it: nothing for the store's own folder
abbrev pub prefix_of : List ℕ → List ℕ
prefix_of [] = []
prefix_of (b ∷ folder) = (b ∷ folder) ++ slash ∷ []

-- a name that isn't empty
abbrev pub some_name : List ℕ → Option (List ℕ)
some_name [] = None
some_name (b ∷ name) = Some (b ∷ name)

-- the name that a path leads to after a prefix: what follows it, up to the next slash
abbrev pub name_after : List ℕ → List ℕ → Option (List ℕ)
name_after prefix path =
    if starts_with nat_eq path prefix
    then some_name (before_first (λ b. b == slash) (drop (length prefix) path)) else None

-- the name in a folder that a path leads to
abbrev pub name_in : List ℕ → List ℕ → Option (List ℕ)
name_in folder path = name_after (prefix_of folder) path

-- the names directly in a folder, rising by bytes: each that the path of a file leads to
pub record IsListing (folder : List ℕ) (names : List (List ℕ)) (files : Files) : Type 0 where
  pub rising : IsStrictlySortedBy (slice_cmp nat_cmp) names
  pub exact : (name : List ℕ) → Contains names name
      ↔ ((path : List ℕ) × IsSome (map.get files path) × (name_in folder path ≡ Some name))

-- the path alone changed, and now has this content
pub record Puts (files : Files) (path : List ℕ) (content : Option (List ℕ)) (after : Files) : Type 0 where
  pub here : map.get after path ≡ content
  pub others : (other : List ℕ) → other ≢ path → map.get after other ≡ map.get files other
