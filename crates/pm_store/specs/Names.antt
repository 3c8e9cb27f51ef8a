-- Private: how the names in a folder are gathered.
use Rattle.std.specs.Prelude.{ℕ, List, Bool, false, Option, None, Some}
use Rattle.std.specs.BTreeMap.{is_at}
use Rattle.std.specs.Cmp.Lexicographic.{slice_cmp}
use Rattle.std.specs.Ordering.{nat_cmp}
use Rattle.pm_store.specs.Files.{name_after}

-- whether this name was found
abbrev pub is_name : List ℕ → Option (List ℕ) → Bool
is_name q None = false
is_name q (Some name) = is_at (slice_cmp nat_cmp q) name

-- whether a path leads to this name after the prefix
abbrev pub leads_to : List ℕ → List ℕ → List ℕ → Bool
leads_to prefix q path = is_name q (name_after prefix path)
