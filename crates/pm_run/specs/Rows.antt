-- Which rows a file has: those of its records in order, up to the first that is none.
use Rattle.std.specs.Prelude.{◌≡◌, ℕ, ◌<◌, List, [], ◌∷◌, ◌++◌, length, map, Bool, true, Option, Some, None}
use Rattle.std.specs.Prelude.{Result, Ok, Err}
use Rattle.std.specs.List.{AllByRecursion, flat_map}
use Rattle.pm_base.specs.Outcome.{◌>>=◌}
use Rattle.pm_values.specs.Order.{Values}
use Rattle.pm_values.specs.declared.record.Stamped.{Stamped}
use Rattle.pm_values.specs.declared.refusal.Refusal.{Refusal}
use Rattle.pm_values.specs.declared.refusal.Refusal.TheVariants.{Damaged}
use Rattle.pm_schema.specs.declared.schema.TableSchema.{TableSchema}
use Rattle.pm_avro_schema.specs.Avro.{Avro}
use Rattle.pm_avro_data.specs.Datum.{Data}
use Rattle.pm_avro_file.specs.Reader.{Reader, Opens, HasBlock, HasNoBlock}
use Rattle.pm_record.specs.File.{misfit_refusal}
use Rattle.pm_record.specs.declared.misfit.Misfit.{Misfit}
use Rattle.pm_run.specs.Form.{Form, form_of}
use Rattle.pm_run.specs.Kinds.{has_row_fields}
use Rattle.pm_run.specs.Order.{following}
use Rattle.pm_run.specs.Row.{row_in}

-- a data file or a changelog file of a table of the form, at a path: its opened container file
pub record Opened : Type 0 where
  pub path : List ℕ
  pub form : Form
  pub changes : Bool
  pub file : Reader

-- numbers that are bytes
abbrev pub AreBytes : List ℕ → Type 0
AreBytes bytes = AllByRecursion (λ b. b < 256) bytes

-- ---- rows of data

-- the rows that data are, up to the first that is none, and the refusal of that one
pub record Judged : Type 0 where
  pub rows : List Stamped
  pub refusal : Option Refusal

-- rows of which none was refused
abbrev pub all_judged : List Stamped → Judged
all_judged rows = record { rows = rows; refusal = None }

-- rows, and the refusal of what comes after them
abbrev pub then_refused : List Stamped → Refusal → Judged
then_refused rows e = record { rows = rows; refusal = Some e }

-- rows before others
abbrev pub with_rows : List Stamped → Judged → Judged
with_rows rows later = record { rows = rows ++ later.rows; refusal = later.refusal }

-- the row that a datum of a type is after one with the key before
abbrev pub row_after : Form → Bool → Avro → Option Values → Data → Result Stamped Misfit
row_after f changes t before d = row_in f changes t d >>= following changes before

-- so in a file
abbrev pub next_row : Opened → Option Values → Data → Result Stamped Misfit
next_row o before d = row_after o.form o.changes o.file.kind before d

-- a row and those after it; else the refusal at its block's offset
abbrev pub then_judged : List ℕ → ℕ → Result Stamped Misfit → (Stamped → Judged) → Judged
then_judged path offset (Ok x) later = with_rows (x ∷ []) (later x)
then_judged path offset (Err misfit) later = then_refused [] (misfit_refusal path offset misfit)

-- the rows that data are, each given with its block's offset, after a row with the key before
abbrev pub judged : Opened → Option Values → List (ℕ × Data) → Judged
judged o before [] = all_judged []
judged o before (p ∷ ps) = then_judged o.path p.0 (next_row o before p.1) (λ (x : Stamped). judged o (Some x.key) ps)

-- ---- blocks

-- data with their block's offset
abbrev pub placed : ℕ → List Data → List (ℕ × Data)
placed offset ds = map (λ (d : Data). (offset, d)) ds

-- blocks, each with its offset
abbrev pub Blocks : Type 0
Blocks = List (ℕ × List Data)

-- the data of blocks in order
abbrev pub all_placed : Blocks → List (ℕ × Data)
all_placed blocks = flat_map (λ (b : ℕ × List Data). placed b.0 b.1) blocks

-- the blocks that begin at an offset and after it, up to another offset
abbrev pub LeadTo : Reader → ℕ → Blocks → ℕ → Type 0
LeadTo r offset [] last = offset ≡ last
LeadTo r offset (b ∷ blocks) last = (b.0 ≡ offset) × (next : ℕ)
    × HasBlock r.kind r.marker r.bytes offset b.1 next × LeadTo r next blocks last

-- ---- all rows of a file

-- how reading ends at an offset: with nothing at the end of the file, else with the refusal of what is no block
abbrev pub StopsAt : Opened → ℕ → Option Refusal → Type 0
StopsAt o offset None = offset ≡ length o.file.bytes
StopsAt o offset (Some e) = (e ≡ Damaged o.path offset) × HasNoBlock o.file.kind o.file.marker o.file.bytes offset

-- how reading ends after data up to an offset: with their refusal, else with what comes there
abbrev pub Ends : Opened → ℕ → Option Refusal → Option Refusal → Type 0
Ends o offset None end = StopsAt o offset end
Ends o offset (Some e) end = end ≡ Some e

-- From the block at an offset on these rows come after one with the key before, and then the end of the file, or the
-- first refusal.
pub record Follow (o : Opened) (offset : ℕ) (before : Option Values) (rows : List Stamped)
    (end : Option Refusal) : Type 0 where
  pub blocks : Blocks
  pub last : ℕ
  pub lead : LeadTo o.file offset blocks last
  pub same : (judged o before (all_placed blocks)).rows ≡ rows
  pub ends : Ends o last (judged o before (all_placed blocks)).refusal end

-- an opened file has these rows, and then its end or the first refusal
abbrev pub Gives : Opened → List Stamped → Option Refusal → Type 0
Gives o rows end = Follow o o.file.first None rows end

abbrev pub opened_as : List ℕ → Form → Bool → Reader → Opened
opened_as path f changes r = record { path = path; form = f; changes = changes; file = r }

-- the file of a table of the schema, with a reader of its container
abbrev pub opened_with : TableSchema → Bool → List ℕ → Reader → Opened
opened_with s changes path r = opened_as path (form_of s) changes r

-- The bytes are a data file or a changelog file of a table of the schema, with these rows.
abbrev pub HasRows : TableSchema → Bool → List ℕ → List Stamped → Type 0
HasRows s changes bytes rows = (r : Reader) × Opens bytes (Ok r) × (has_row_fields (form_of s) r.kind ≡ true)
    × ((path : List ℕ) → Gives (opened_with s changes path r) rows None)
