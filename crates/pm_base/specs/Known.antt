-- Contents that are known or not: None claims nothing.
use Rattle.std.specs.Prelude.{List, ℕ, ◌++◌, Option, None, Some}

-- the known bytes, and then these
abbrev pub and_then : Option (List ℕ) → List ℕ → Option (List ℕ)
and_then None bytes = None
and_then (Some known) bytes = Some (known ++ bytes)

-- these bytes, and then the known ones
abbrev pub with_prefix : List ℕ → Option (List ℕ) → Option (List ℕ)
with_prefix bytes None = None
with_prefix bytes (Some known) = Some (bytes ++ known)
