-- What is found of a key in an opened file: the blocks that are read, and the row.
use Rattle.std.specs.Prelude.{◌≡◌, ◌⊎◌, ℕ, List, [], ◌∷◌, length, Bool, true, false, not, Option, None}
use Rattle.std.specs.Prelude.{Result, Ok, Err}
use Rattle.std.specs.List.{find}
use Rattle.std.specs.Option.{option_map_or}
use Rattle.std.specs.Ordering.{eq_by_cmp, is_lt}
use Rattle.pm_values.specs.Order.{Values, key_cmp}
use Rattle.pm_values.specs.declared.record.Stamped.{Stamped}
use Rattle.pm_values.specs.declared.refusal.Refusal.{Refusal}
use Rattle.pm_avro_data.specs.Datum.{Data}
use Rattle.pm_avro_file.specs.Reader.{HasBlock}
use Rattle.pm_engine.specs.Covers.{Run}
use Rattle.pm_run.specs.Order.{last_key}
use Rattle.pm_run.specs.Reader.{FailsAt, UnlessMemory}
use Rattle.pm_run.specs.Rows.{Opened, all_judged, judged, placed}

-- the last key of a block's rows isn't below the key: no later block has it
abbrev pub reaches : Values → Run → Bool
reaches key rows = option_map_or (λ (last : Values). not (is_lt (key_cmp last key))) (last_key None rows) false

-- the first of the rows that has the key
abbrev pub row_of_key : Values → Run → Option Stamped
row_of_key key rows = find (λ (x : Stamped). eq_by_cmp key_cmp key x.key) rows

-- a block begins at the offset, with these rows and no refusal, and ends at the next offset
abbrev pub IsBlockAt : Opened → ℕ → Run → ℕ → Type 0
IsBlockAt o offset rows next = (ds : List Data)
    × HasBlock o.file.kind o.file.marker o.file.bytes offset ds next
    × (judged o None (placed offset ds) ≡ all_judged rows)

-- the blocks from one offset to another, of which none has a last key that reaches the key
abbrev pub Passes : Opened → Values → ℕ → List Run → ℕ → Type 0
Passes o key offset [] last = offset ≡ last
Passes o key offset (rows ∷ blocks) last = (next : ℕ) × IsBlockAt o offset rows next × (reaches key rows ≡ false)
    × Passes o key next blocks last

-- the block at an offset reaches the key, and has this row of it, or none
abbrev pub ReachesAt : Opened → Values → ℕ → Option Stamped → Type 0
ReachesAt o key offset found = (rows : Run) × (next : ℕ) × IsBlockAt o offset rows next × (reaches key rows ≡ true)
    × (found ≡ row_of_key key rows)

-- how looking stops at an offset: at the end of the file, at a block that reaches the key, or at the refusal of what
-- stands there
abbrev pub StopsFor : Opened → Values → ℕ → Result (Option Stamped) Refusal → Type 0
StopsFor o key offset (Ok found) =
    ((offset ≡ length o.file.bytes) × (found ≡ None)) ⊎ ReachesAt o key offset found
StopsFor o key offset (Err e) = UnlessMemory e (FailsAt o offset e)

-- What is found of a key in an opened file: the blocks are read from the first one on, up to the one at which looking
-- stops.
pub record Finds (o : Opened) (key : Values) (result : Result (Option Stamped) Refusal) : Type 0 where
  pub passed : List Run
  pub last : ℕ
  pub passes : Passes o key o.file.first passed last
  pub stops : StopsFor o key last result
