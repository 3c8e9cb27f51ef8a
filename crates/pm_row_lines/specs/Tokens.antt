-- Private: the tokens of a line that is read straight into a row.
use Rattle.std.specs.Prelude.{◌≡◌, ℕ, List, [], ◌∷◌, Option, Some, None, option_map, Result, Ok}
use Rattle.json.specs.Token.{Token}
use Rattle.json.specs.Token as tokens
use Rattle.serde_json.specs.Data.{Data, null, boolean, number, string}
use Rattle.serde_json.specs.Read.{number_of}
use Rattle.pm_values.specs.Order.{Values}
use Rattle.pm_values.specs.declared.column.Column.{Column}
use Rattle.pm_values.specs.declared.kind.Kind.{Kind}
use Rattle.pm_rows.specs.Reading.{Fault, named_kind, item_at}

-- Private: the item that a token is by itself
abbrev pub item_data : Token → Option Data
item_data (tokens.number text) = option_map number (number_of text)
item_data (tokens.string text) = Some (string text)
item_data (tokens.boolean b) = Some (boolean b)
item_data tokens.null = Some null
item_data token = None

-- Private: the token is an item, which reads as x at every index
abbrev pub ReadsAs : {X : Type 0} → (ℕ → Data → Result X Fault) → Token → X → Type 0
ReadsAs reading token x = (d : Data) × (item_data token ≡ Some d) × ((index : ℕ) → reading index d ≡ Ok x)

-- Private: the tokens begin with an item for each column, which reads as its value, and the rest follows
abbrev pub AreItems : List Column → List Token → Values → List Token → Type 0
AreItems [] ts [] rest = ts ≡ rest
AreItems (column ∷ columns) (t ∷ ts) (value ∷ values) rest =
    ReadsAs (λ index. item_at index column) t value × AreItems columns ts values rest
AreItems columns ts values rest = ⊥

-- Private: the tokens begin with a text that names the kind, and the rest follows
abbrev pub BeginsKind : List Token → Kind → List Token → Type 0
BeginsKind ts kind rest = (text : List ℕ) × (ts ≡ tokens.string text ∷ rest) × (named_kind text ≡ Some kind)

-- Private: the tokens are an array of a kind and an item for each column, and no more
pub record AreRow (columns : List Column) (ts : List Token) (row : Kind × Values) : Type 0 where
  pub after : List Token
  pub items : List Token
  pub begins : ts ≡ tokens.begin_array ∷ after
  pub kind : BeginsKind after row.0 items
  pub values : AreItems columns items row.1 (tokens.end_array ∷ [])
