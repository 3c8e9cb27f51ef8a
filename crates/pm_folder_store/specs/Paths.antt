-- Paths of the store as texts: the slash is 47, the dot 46.
use Rattle.std.specs.Prelude.{◌≡◌, ◌≢◌, ◌==◌, ◌++◌, [], ◌∷◌, ◌&&◌, ◌⊎◌, ◌<◌, ℕ, nat_le, List, Bool, not, true, false, if◌then◌else◌, Option, None, Some, length, slice_index, get_or, codes, String, string_bytes}
use Rattle.std.specs.declared.alloc.Global.{Global}
use Rattle.std.specs.List.{slice_split, list_all, list_any}

-- 1 to 255 bytes, none of them NUL and the first no dot
abbrev pub is_name : List ℕ → Bool
is_name name = not (length name == 0) && nat_le (length name) 255 && not (slice_index name 0 == 46)
    && not (list_any (λ b. b == 0) name)

-- each part of the path, cut at each slash, is a name
abbrev pub is_path : List ℕ → Bool
is_path path = list_all is_name (slice_split (λ b. b == 47) path)

-- where a path of the store stands in the file system: below the folder, and nowhere where it is no path
abbrev pub IsPlace : List ℕ → List ℕ → Option (String Global) → Type 0
IsPlace folder path None = is_path path ≡ false
IsPlace folder path (Some place) = (is_path path ≡ true) × (string_bytes place ≡ folder ++ (47 ∷ path))

abbrev pub HasNoSlash : List ℕ → Type 0
HasNoSlash text = (i : ℕ) → i < length text → get_or text i 0 ≢ 47

-- what stands before the last slash of the path, and after it
abbrev pub IsCutAtLast : List ℕ → List ℕ → List ℕ → Type 0
IsCutAtLast path front name = HasNoSlash name × (path ≡ front ++ (47 ∷ name))

-- the folder of the store that a path of the store stands in: what stands before its last slash, else the store's own
abbrev pub IsStoreFolderOf : List ℕ → List ℕ → Type 0
IsStoreFolderOf path folder = (HasNoSlash path × (folder ≡ [])) ⊎ ((name : List ℕ) × IsCutAtLast path folder name)

-- the folder that a path stands in: what stands before its last slash, `/` where that is nothing, `.` without a slash
abbrev pub IsFolderOf : List ℕ → List ℕ → Type 0
IsFolderOf path folder = (HasNoSlash path × (folder ≡ codes "."))
    ⊎ ((front : List ℕ) × (name : List ℕ) × IsCutAtLast path front name
    × (folder ≡ (if length front == 0 then codes "/" else front)))
