-- The names that a folder is read as: each is ended by a NUL.
use Rattle.std.specs.Prelude.{◌==◌, ◌||◌, [], ◌∷◌, ℕ, List, Bool, if◌then◌else◌, length, codes, bytes_eq}
use Rattle.std.specs.List.{flat_map, slice_split}
use Rattle.std.specs.Str.{is_utf8}

-- the folder itself, or the one around it
abbrev pub is_own : List ℕ → Bool
is_own name = bytes_eq name (codes ".") || bytes_eq name (codes "..")

-- U+FFFD stands for a name that isn't UTF-8
abbrev pub readable : List ℕ → List ℕ
readable name = if is_utf8 name then name else 239 ∷ 191 ∷ 189 ∷ []

-- what stands in the folder under a name, if anything but the folder itself and the one around it does
abbrev pub name_of : List ℕ → List (List ℕ)
name_of name = if length name == 0 || is_own name then [] else readable name ∷ []

-- the names of what stands in the folder
abbrev pub names_in : List ℕ → List (List ℕ)
names_in bytes = flat_map name_of (slice_split (λ b. b == 0) bytes)
