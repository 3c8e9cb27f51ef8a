-- The names of the consumers whose files a listing has.
use Rattle.std.specs.Prelude.{◌↔◌, ℕ, List, Contains, codes, drop, length, nat_eq, if◌then◌else◌, Option, None, Some}
use Rattle.std.specs.Cmp.Lexicographic.{slice_cmp}
use Rattle.std.specs.List.{starts_with}
use Rattle.std.specs.List.Sorted.{IsStrictlySortedBy}
use Rattle.std.specs.Ordering.{nat_cmp}
use Rattle.pm_model_folder.specs.Paths.{consumer_file}

-- these are the names of the consumers whose files are listed, rising by bytes: all that begin as such a file does
pub record AreNames (files names : List (List ℕ)) : Type 0 where
  pub rising : IsStrictlySortedBy (slice_cmp nat_cmp) names
  pub exact : (name : List ℕ) → Contains names name ↔ Contains files (consumer_file name)

-- Private: what stands before the name
abbrev pub file_prefix : List ℕ
file_prefix = codes "consumer-"

-- Private: the name of the consumer whose file this is, by the file's name
abbrev pub name_in : List ℕ → Option (List ℕ)
name_in file = if starts_with nat_eq file file_prefix then Some (drop (length file_prefix) file) else None
