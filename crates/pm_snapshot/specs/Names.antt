-- The names of snapshots and of floors, and the base in the name of another file.
use Rattle.std.specs.Prelude.{◌≡◌, ℕ, ◌≤◌, List, [], ◌++◌, length, take, drop, codes, nat_le, if◌then◌else◌, Option, None, Some, option_and_then, decimal}
use Rattle.std.specs.Str.{bytes_eq}
use Rattle.pm_values.specs.Names.{Naming, IsNaming, name_of}
use Rattle.pm_snapshot.specs.Decimal.{natural_in}

-- the greatest number in a name
abbrev pub greatest : ℕ
greatest = 9007199254740991

abbrev pub snapshot_name : ℕ → List ℕ
snapshot_name id = codes "snapshot-" ++ decimal id

abbrev pub floor_name : ℕ → List ℕ
floor_name n = codes "floor-" ++ decimal n

-- a number that may stand in a name
abbrev pub if_within : ℕ → Option ℕ
if_within n = if nat_le n greatest then Some n else None

-- the number whose decimal text this is, where it may stand in a name
abbrev pub number_in : List ℕ → Option ℕ
number_in text = option_and_then if_within (natural_in text)

-- the number that a name has after a prefix
abbrev pub number_after : List ℕ → List ℕ → Option ℕ
number_after prefix name =
    if bytes_eq (take (length prefix) name) prefix
    then number_in (drop (length prefix) name) else None

-- the id in the name of a snapshot
unfoldable pub id_in : List ℕ → Option ℕ
id_in name = number_after (codes "snapshot-") name

-- the number in the name of a floor
unfoldable pub floor_in : List ℕ → Option ℕ
floor_in name = number_after (codes "floor-") name

-- ---- the other files

-- the files whose names bear a base
pub data BasedFile : Type 0 where
  manifest : BasedFile
  manifest_list : BasedFile
  rows_file : BasedFile
  changelog_file : BasedFile

abbrev pub prefix_of : BasedFile → List ℕ
prefix_of manifest = codes "manifest-"
prefix_of manifest_list = codes "manifest-list-"
prefix_of rows_file = codes "data-"
prefix_of changelog_file = codes "changelog-"

abbrev pub suffix_of : BasedFile → List ℕ
suffix_of manifest = []
suffix_of manifest_list = []
suffix_of rows_file = codes ".avro"
suffix_of changelog_file = codes ".avro"

-- the numbers of a maker of names may stand in a name; its count has 64 bits
pub record MayName (maker : Naming) : Type 0 where
  pub is_maker : IsNaming maker
  pub actor_within : maker.actor ≤ greatest
  pub base_within : maker.base ≤ greatest

-- the name, between a prefix and a suffix, is one that a maker with this base gives
pub record IsNamed (prefix suffix name : List ℕ) (base : ℕ) : Type 0 where
  pub maker : Naming
  pub may : MayName maker
  pub bears : maker.base ≡ base
  pub is : name ≡ name_of prefix suffix maker

-- the name is one of a file whose name bears this base
pub record HasBase (name : List ℕ) (base : ℕ) : Type 0 where
  pub file : BasedFile
  pub named : IsNamed (prefix_of file) (suffix_of file) name base
