-- The options of a column: `fields.<column>` and a suffix.
use Rattle.std.specs.Prelude.{ℕ, ◌-◌, ◌==◌, nat_eq, List, [], ◌∷◌, map, length, take, drop, codes, Bool, Option, Some, None, option_map, if◌then◌else◌, is_some, ◌||◌}
use Rattle.std.specs.Borrow.{Bor}
use Rattle.std.specs.Ordering.{nat_cmp}
use Rattle.std.specs.Cmp.Lexicographic.{slice_cmp}
use Rattle.std.specs.BTreeMap.{insert_entry}
use Rattle.std.specs.List.{filter_map, list_any, slice_split, starts_with, ends_with}
use Rattle.pm_options.specs.Entries.{Entries}
use Rattle.pm_options.specs.Table.{Setting}

abbrev pub prefix : List ℕ
prefix = codes "fields."

abbrev pub function_suffix : List ℕ
function_suffix = codes ".aggregate-function"

abbrev pub delimiter_suffix : List ℕ
delimiter_suffix = codes ".list-agg-delimiter"

abbrev pub retract_suffix : List ℕ
retract_suffix = codes ".ignore-retract"

abbrev pub group_suffix : List ℕ
group_suffix = codes ".sequence-group"

-- a text without its end
abbrev pub before_suffix : List ℕ → List ℕ → Option (List ℕ)
before_suffix suffix text =
    if ends_with nat_eq text suffix then Some (take (length text - length suffix) text) else None

-- the column that a key with the suffix names, which may be any text
abbrev pub column_in : List ℕ → List ℕ → Option (List ℕ)
column_in suffix key =
    if starts_with nat_eq key prefix then before_suffix suffix (drop (length prefix) key) else None

-- the key is that of an option of a column
abbrev pub is_of_column : List ℕ → Bool
is_of_column key =
    is_some (column_in function_suffix key) || is_some (column_in delimiter_suffix key)
    || is_some (column_in retract_suffix key) || is_some (column_in group_suffix key)

-- entries by rising name
abbrev pub by_name : {A : Type 0} → Entries A → Entries A
by_name [] = []
by_name (e ∷ es) = insert_entry (slice_cmp nat_cmp) (by_name es) e.0 e.1

-- a column with its text, where the setting's key has the suffix
abbrev pub column_setting : List ℕ → Setting → Option (List ℕ × List ℕ)
column_setting suffix s = option_map (λ column. (column, s.1)) (column_in suffix s.0)

-- the texts of the options with the suffix, by rising column
abbrev pub texts_of : List ℕ → List Setting → Entries (List ℕ)
texts_of suffix settings = by_name (filter_map (column_setting suffix) settings)

-- what the texts mean, without those that mean nothing
abbrev pub meant : {A : Type 0} → (List ℕ → Option A) → Entries (List ℕ) → Entries A
meant meaning texts = filter_map (λ e. option_map (λ x. (e.0, x)) (meaning e.1)) texts

-- the names of a list, which stand between commas and may be any text
abbrev pub names_in : List ℕ → List (List ℕ)
names_in text = slice_split (λ b. b == 44) text

abbrev pub names_meant : List ℕ → Option (List (List ℕ))
names_meant text = Some (names_in text)

-- a comma stands in the text
abbrev pub has_comma : List ℕ → Bool
has_comma text = list_any (λ b. b == 44) text

-- entries whose texts are borrowed
abbrev pub entries_views : List (List ℕ × Bor (List ℕ)) → Entries (List ℕ)
entries_views es = map (λ e. (e.0, e.1.now)) es
