-- What is read of the block at an offset of a file.
use Rattle.std.specs.Prelude.{◌≡◌, ◌≢◌, ℕ, List, [], length, Option, Some, None, Result, Ok, Err}
use Rattle.pm_values.specs.Order.{Values}
use Rattle.pm_values.specs.declared.record.Stamped.{Stamped}
use Rattle.pm_values.specs.declared.refusal.Refusal.{Refusal}
use Rattle.pm_values.specs.declared.refusal.Refusal.TheVariants.{Damaged}
use Rattle.pm_avro_data.specs.Datum.{Data}
use Rattle.pm_avro_file.specs.Reader.{HasBlock, HasNoBlock}
use Rattle.pm_run_form.specs.declared.rows_read.RowsRead.{RowsRead}
use Rattle.pm_run.specs.Reader.{UnlessMemory}
use Rattle.pm_run.specs.Order.{last_key}
use Rattle.pm_run.specs.Rows.{Opened, Judged, all_judged, judged, placed}

-- what was read of the block at an offset
abbrev pub judged_read : RowsRead → Judged
judged_read read = record { rows = read.rows.items; refusal = read.refusal }

-- the rows of the block at an offset, after one with the key before
abbrev pub ReadsBlock : Opened → ℕ → Option Values → Result (Option (RowsRead × ℕ)) Refusal → Type 0
ReadsBlock o offset before (Ok None) = offset ≡ length o.file.bytes
ReadsBlock o offset before (Ok (Some read)) = (ds : List Data)
    × HasBlock o.file.kind o.file.marker o.file.bytes offset ds read.1
    × (judged o before (placed offset ds) ≡ judged_read read.0)
ReadsBlock o offset before (Err e) = UnlessMemory e ((e ≡ Damaged o.path offset)
    × HasNoBlock o.file.kind o.file.marker o.file.bytes offset)

-- the block at an offset has rows, at least one, after one with the key before, none of which is refused; this is the
-- key of the last of them, and the next offset
abbrev pub JudgesBlock : Opened → ℕ → Option Values → Option Values → ℕ → Type 0
JudgesBlock o offset before last next = (ds : List Data) × (rows : List Stamped)
    × HasBlock o.file.kind o.file.marker o.file.bytes offset ds next
    × (judged o before (placed offset ds) ≡ all_judged rows) × (last ≡ last_key before rows) × (rows ≢ [])
