-- What a reader of a run's file is seen as, and what its calls answer.
use Rattle.std.specs.Prelude.{◌≡◌, ◌≢◌, ◌⊎◌, ℕ, List, [], ◌∷◌, ◌++◌, length, Bool, true, false, Option, Some, None}
use Rattle.std.specs.Prelude.{Result, Ok, Err}
use Rattle.pm_values.specs.Order.{Values}
use Rattle.pm_values.specs.declared.record.Stamped.{Stamped}
use Rattle.pm_values.specs.declared.refusal.Refusal.{Refusal}
use Rattle.pm_values.specs.declared.refusal.Refusal.TheVariants.{Memory, Damaged}
use Rattle.pm_schema.specs.Stated.{schema_path}
use Rattle.pm_schema.specs.declared.schema.TableSchema.{TableSchema}
use Rattle.pm_avro_data.specs.Datum.{Data}
use Rattle.pm_avro_file.specs.Reader.{Reader, Opens, HasBlock, HasNoBlock}
use Rattle.pm_record.specs.File.{OpensFile}
use Rattle.pm_run.specs.Form.{form_of}
use Rattle.pm_run.specs.Kinds.{has_row_fields}
use Rattle.pm_run.specs.Order.{last_key}
use Rattle.pm_run.specs.Rows.{Opened, Follow, all_judged, judged, opened_with, placed}

-- an opened file, the rows of the block in hand that are still to be given, the refusal after them, the key of the
-- last row in hand, where the next block begins, and whether the reader is over
pub record RunView : Type 0 where
  pub opened : Opened
  pub left : List Stamped
  pub refusal : Option Refusal
  pub last : Option Values
  pub next : ℕ
  pub over : Bool

-- the rows that a reader still gives, by the refusal that its block has, and then the end or the first refusal
abbrev pub GivesBy : Option Refusal → RunView → List Stamped → Option Refusal → Type 0
GivesBy (Some e) v rows end = (rows ≡ v.left) × (end ≡ Some e)
GivesBy None v rows end = (more : List Stamped) × (rows ≡ v.left ++ more) × Follow v.opened v.next v.last more end

-- the rows that a reader still gives, and then the end of the file, or the first refusal
abbrev pub StillGives : RunView → List Stamped → Option Refusal → Type 0
StillGives v rows end = GivesBy v.refusal v rows end

-- the reader of an opened file before its first row
abbrev pub before_first : Opened → RunView
before_first o = record { opened = o; left = []; refusal = None; last = None; next = o.file.first; over = false }

-- a file of another schema than the one in hand
abbrev pub IsOfOther : TableSchema → ℕ → Refusal → Type 0
IsOfOther s id e = (id ≢ s.id) × (e ≡ Damaged (schema_path id) 0)

-- an opened file that lacks a field
abbrev pub LacksField : TableSchema → List ℕ → List ℕ → Refusal → Type 0
LacksField s path bytes e = (r : Reader) × Opens bytes (Ok r) × (has_row_fields (form_of s) r.kind ≡ false)
    × (e ≡ Damaged path 0)

-- Why a file isn't opened: its schema isn't the one in hand, else its bytes are no container file, else a field is
-- missing.
abbrev pub RefusesRun : TableSchema → ℕ → List ℕ → List ℕ → Refusal → Type 0
RefusesRun s id path bytes Memory = Unit {0}
RefusesRun s id path bytes e =
    IsOfOther s id e ⊎ ((id ≡ s.id) × (OpensFile path bytes (Err e) ⊎ LacksField s path bytes e))

-- what opening answers
abbrev pub OpensRun : TableSchema → Bool → ℕ → List ℕ → List ℕ → Result RunView Refusal → Type 0
OpensRun s changes id path bytes (Ok v) = (id ≡ s.id) × (r : Reader) × Opens bytes (Ok r)
    × (has_row_fields (form_of s) r.kind ≡ true) × (v ≡ before_first (opened_with s changes path r))
OpensRun s changes id path bytes (Err e) = RefusesRun s id path bytes e

-- a refusal, of which out of memory says nothing
abbrev pub UnlessMemory : Refusal → Type 0 → Type 0
UnlessMemory Memory P = Unit {0}
UnlessMemory e P = P

-- What the next row is, and what is left: a row, and after it what the reader still gives; nothing exactly at the end;
-- or the first refusal, with which the reader is over.
abbrev pub GivesNext : RunView → RunView → Result (Option Stamped) Refusal → Type 0
GivesNext before after (Ok (Some x)) = (after.over ≡ false)
    × ((rows : List Stamped) (end : Option Refusal) → StillGives after rows end → StillGives before (x ∷ rows) end)
GivesNext before after (Ok None) = (after ≡ before) × StillGives before [] None
GivesNext before after (Err e) = (after.over ≡ true) × UnlessMemory e (StillGives before [] (Some e))

-- what the block at an offset is: no block, or its rows in order, which one may refuse
abbrev pub FailsAt : Opened → ℕ → Refusal → Type 0
FailsAt o offset e = ((e ≡ Damaged o.path offset) × HasNoBlock o.file.kind o.file.marker o.file.bytes offset)
    ⊎ ((ds : List Data) × (next : ℕ) × HasBlock o.file.kind o.file.marker o.file.bytes offset ds next
    × ((judged o None (placed offset ds)).refusal ≡ Some e))

-- The rows of the block at an offset, and the offset after it; none exactly at the end. The order of keys is judged
-- within the block alone.
abbrev pub GivesBlock : {X : Type 0} → (X → List Stamped) → Opened → ℕ → Result (Option (X × ℕ)) Refusal → Type 0
GivesBlock view o offset (Ok None) = offset ≡ length o.file.bytes
GivesBlock view o offset (Ok (Some found)) = (ds : List Data)
    × HasBlock o.file.kind o.file.marker o.file.bytes offset ds found.1
    × (judged o None (placed offset ds) ≡ all_judged (view found.0))
GivesBlock view o offset (Err e) = UnlessMemory e (FailsAt o offset e)

-- all rows of an opened file were put to those before them in a run, and the first of them follows the last of these
abbrev pub Appends : Opened → List Stamped → List Stamped → Type 0
Appends o before after = (more : List Stamped) × (after ≡ before ++ more)
    × Follow o o.file.first (last_key None before) more None

-- why not all rows of an opened file follow one with the key before: this refusal comes after some of them
abbrev pub StopsAfter : Opened → Option Values → Refusal → Type 0
StopsAfter o before e = (more : List Stamped) × UnlessMemory e (Follow o o.file.first before more (Some e))
