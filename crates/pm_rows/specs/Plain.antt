-- Private: row lines that are printed without looking for escapes again.
use Rattle.std.specs.Prelude.{◌≡◌, ℕ, List, ◌∷◌, ◌++◌, codes, flat_map}
use Rattle.json.specs.Print.{escape}
use Rattle.serde_json.specs.Written.{compact_text}
use Rattle.pm_rows.specs.RowText.{item_data}
use Rattle.pm_values.specs.Order.{Values}
use Rattle.pm_values.specs.declared.kind.Kind.{Kind}
use Rattle.pm_values.specs.declared.kind.Kind.TheVariants.{Insert, UpdateBefore, UpdateAfter, Delete}
use Rattle.pm_values.specs.declared.value.Value.{Value}
use Rattle.pm_values.specs.declared.value.Value.TheVariants.{Null, Bool, Int, Text, Bytes, Day, Millis}

-- Private: the text is what it was, with these bytes added at its end
pub record AddsTo (old new : List ℕ) : Type 0 where
  pub more : List ℕ
  pub joined : new ≡ old ++ more

-- Private: nothing of the text is escaped
abbrev pub IsUnescaped : List ℕ → Type 0
IsUnescaped text = escape text ≡ text

-- Private: a value whose item is its number, its text in quotes, or a word
abbrev pub IsPlain : Value → Type 0
IsPlain Null = Unit {0}
IsPlain (Bool b) = Unit {0}
IsPlain (Int n) = Unit {0}
IsPlain (Text text) = IsUnescaped text
IsPlain (Bytes bytes) = ⊥
IsPlain (Day day) = ⊥
IsPlain (Millis millis) = Unit {0}

-- Private: the item of a value, with the comma before it
abbrev pub item_text : Value → List ℕ
item_text value = 44 ∷ compact_text (item_data value)

-- Private: so of values
abbrev pub items_text : Values → List ℕ
items_text values = flat_map item_text values

-- Private: what the line of a row of the kind begins with
abbrev pub kind_head : Kind → List ℕ
kind_head Insert = codes "[\"+I\""
kind_head UpdateBefore = codes "[\"-U\""
kind_head UpdateAfter = codes "[\"+U\""
kind_head Delete = codes "[\"-D\""
