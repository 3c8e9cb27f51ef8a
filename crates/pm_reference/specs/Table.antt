-- Private: one step of the merged table.
use Rattle.std.specs.Prelude.{List, Option, Some, None}
use Rattle.std.specs.BTreeMap.{insert_entry}
use Rattle.pm_values.specs.Order.{Values, key_cmp}

-- the entries with one more, where there is one
abbrev pub placed : Option (Values × Values) → List (Values × Values) → List (Values × Values)
placed None entries = entries
placed (Some e) entries = insert_entry key_cmp entries e.0 e.1
