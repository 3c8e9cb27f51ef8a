-- Private: keys whose values are seen where they lie.
use Rattle.std.specs.Prelude.{List, Bool, true, false, Option, None, Some, map}
use Rattle.pm_row_slots.specs.Seen.{seen_value}
use Rattle.pm_row_slots.specs.declared.seen.Seen.{Seen}
use Rattle.pm_values.specs.Order.{Values}

-- Private: the key that these are, if it is one
abbrev pub seen_key : Bool → List Seen → Option Values
seen_key true key = Some (map seen_value key)
seen_key false key = None
