-- The file of a consumer.
use Rattle.std.specs.Prelude.{ℕ, List, [], ◌∷◌, codes, Bool, true, false, nat_lt, if◌then◌else◌, Option, None, Some, Result, Ok, Err}
use Rattle.std.specs.Str.{bytes_eq}
use Rattle.pm_base.specs.Outcome.{◌>>=◌}
use Rattle.serde_json.specs.Data.{Data, number, unsigned, string, object}
use Rattle.serde_json.specs.Find.{get, as_str}
use Rattle.serde_json.specs.Written.{compact_text}
use Rattle.pm_snapshot.specs.Field.{json_in, natural_at}
use Rattle.pm_snapshot.specs.Snapshot.{members}
use Rattle.pm_snapshot.specs.declared.consumer.Consumer.{Consumer}
use Rattle.pm_snapshot.specs.declared.fault.SnapFault.{SnapFault}
use Rattle.pm_snapshot.specs.declared.fault.SnapFault.TheVariants.{Bad}

-- the only state that a file may name
abbrev pub new_state : List ℕ
new_state = codes "new"

-- whether the text of a state is the one
abbrev pub fresh_in : Option (List ℕ) → Result Bool SnapFault
fresh_in None = Err Bad
fresh_in (Some text) = if bytes_eq text new_state then Ok true else Err Bad

-- whether a consumer is new: its state says so, and a missing one says that it isn't
abbrev pub fresh_from : Option Data → Result Bool SnapFault
fresh_from None = Ok false
fresh_from (Some d) = fresh_in (as_str d)

-- the next snapshot of a consumer is at least 1
abbrev pub next_from : ℕ → Result ℕ SnapFault
next_from n = if nat_lt 0 n then Ok n else Err Bad

-- the consumer that JSON says
abbrev pub consumer_from : Data → Result Consumer SnapFault
consumer_from d = do
  n ← natural_at (codes "nextSnapshot") d
  next ← next_from n
  fresh ← fresh_from (get (codes "state") d)
  Ok (record { next = next; fresh = fresh })

-- the consumer that a file has
unfoldable pub consumer_in : List ℕ → Result Consumer SnapFault
consumer_in text = json_in text >>= consumer_from

-- the state of a consumer that is new, and nothing of another
abbrev pub state_members : Bool → List (List ℕ × Data)
state_members true = (codes "state", string new_state) ∷ []
state_members false = []

-- all fields, in the order of their names
abbrev pub consumer_members : Consumer → List (List ℕ × Data)
consumer_members c = (codes "nextSnapshot", number (unsigned c.next)) ∷ state_members c.fresh

abbrev pub consumer_data : Consumer → Data
consumer_data c = object (members (consumer_members c))

-- the text of a consumer's file: compact JSON
unfoldable pub consumer_text : Consumer → List ℕ
consumer_text c = compact_text (consumer_data c)
