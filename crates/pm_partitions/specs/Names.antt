-- The names of the folders on the way to a group's files.
use Rattle.std.specs.Prelude.{ℕ, ◌==◌, ◌&&◌, ◌||◌, nat_lt, Bool, false, List, [], ◌∷◌, ◌++◌, length, codes, decimal}
use Rattle.std.specs.List.{list_all}
use Rattle.pm_values.specs.Order.{Values}
use Rattle.pm_values.specs.declared.group.Group.{Group}
use Rattle.pm_values.specs.declared.value.Value.{Value}
use Rattle.pm_schema.specs.Folder.{escaped, is_plain, value_text}
use Rattle.pm_schema.specs.Rules.{begins_name}
use Rattle.pm_schema.specs.declared.schema.TableSchema.{TableSchema}

-- the folders of the values of partition columns, in the order in which they nest
abbrev pub part_names : List (List ℕ) → Values → List (List ℕ)
part_names (column ∷ columns) (value ∷ values) =
    (column ++ 61 ∷ escaped (value_text value)) ∷ part_names columns values
part_names columns values = []

-- the folder of a bucket, within those
abbrev pub bucket_name : ℕ → List ℕ
bucket_name bucket = codes "bucket-" ++ decimal bucket

-- all folders on the way to a group's files
abbrev pub folder_names : TableSchema → Group → List (List ℕ)
folder_names s group = part_names s.partition group.partition ++ bucket_name group.bucket ∷ []

-- a byte that stands for itself, `%` or `=`
abbrev pub is_folder_byte : ℕ → Bool
is_folder_byte b = is_plain b || (b == 37 || b == 61)

-- of such bytes alone, of which the first is a letter or `_`: so it is neither empty, nor `.` or `..`, and has no slash
abbrev pub is_folder_name : List ℕ → Bool
is_folder_name [] = false
is_folder_name (b ∷ bs) = begins_name b && list_all is_folder_byte bs

-- the text of a value has more bytes than may be
abbrev pub is_too_long : Value → Bool
is_too_long value = nat_lt 60 (length (value_text value))
