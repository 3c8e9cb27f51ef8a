-- Folders of the store that are treated apart: the slash is 47.
use Rattle.std.specs.Prelude.{◌==◌, [], ◌∷◌, ◌||◌, ℕ, List, Bool, if◌then◌else◌, bytes_eq, codes}
use Rattle.std.specs.List.{starts_with}

-- what stands after the last slash of a text, or what came before the text where it has none
abbrev pub after_slashes : List ℕ → List ℕ → List ℕ
after_slashes before [] = before
after_slashes before (b ∷ bs) = after_slashes (if b == 47 then bs else before) bs

-- what stands after the last slash of a path, all of it where it has none
abbrev pub last_part : List ℕ → List ℕ
last_part path = after_slashes path path

-- the files of the folder are reached only by their names in files of other folders: it is `manifest`, or its last part
-- begins with `bucket-`
abbrev pub is_named_elsewhere : List ℕ → Bool
is_named_elsewhere folder =
    bytes_eq folder (codes "manifest") || starts_with (λ a b. a == b) (last_part folder) (codes "bucket-")

-- no file of the folder is ever replaced, or made anew once it was taken away: it has snapshots, or schemas
abbrev pub is_made_once : List ℕ → Bool
is_made_once folder = bytes_eq folder (codes "snapshot") || bytes_eq folder (codes "schema")

-- the folder is sealed: it has manifests and their lists, snapshots, or schemas
abbrev pub can_be_sealed : List ℕ → Bool
can_be_sealed folder = bytes_eq folder (codes "manifest") || is_made_once folder
