-- Private: the rows that are found in a file from an offset on.
use Rattle.std.specs.Prelude.{◌≡◌, ◌≤◌, ℕ, List, [], ◌∷◌, length, false, Option, Some, None, Result, Ok, Err}
use Rattle.std.specs.Vec.Iter.{into_iter_items}
use Rattle.pm_values.specs.Order.{Values}
use Rattle.pm_values.specs.declared.record.Stamped.{Stamped}
use Rattle.pm_values.specs.declared.refusal.Refusal.{Refusal}
use Rattle.pm_run_reader.specs.declared.reader.Found.{Found}
use Rattle.pm_run.specs.Reader.{RunView, StillGives, UnlessMemory}
use Rattle.pm_run.specs.Order.{last_key}
use Rattle.pm_run.specs.Rows.{Opened, Follow}
use Rattle.pm_run_bytes.specs.Direct.{IsDirect}
use Rattle.pm_run_bytes.specs.Known.{LieAt}
use Rattle.pm_run_bytes.specs.declared.direct.Direct.{Direct}

-- Private: the reader after the first of the rows that were found
abbrev pub after_first : Opened → Found → RunView
after_first o f = record {
  opened = o;
  left = into_iter_items f.later;
  refusal = f.refusal;
  last = f.last;
  next = f.next;
  over = false;
}

-- Private: the first rows from the block at an offset on, after one with the key before
abbrev pub FindsRows : Opened → ℕ → Option Values → Result (Option Found) Refusal → Type 0
FindsRows o offset before (Ok None) = Follow o offset before [] None
FindsRows o offset before (Ok (Some f)) = (f.next ≤ length o.file.bytes)
    × ((rows : List Stamped) (end : Option Refusal) → StillGives (after_first o f) rows end
    → Follow o offset before (f.first ∷ rows) end)
FindsRows o offset before (Err e) = UnlessMemory e (Follow o offset before [] (Some e))

-- Private: where an opened file has the marker and is as it is written, the rows lie in its bytes, in blocks of which
-- each has some
abbrev pub LieIn : Opened → List Stamped → Type 0
LieIn o rows = (d : Direct) → IsDirect d o.form o.file → LieAt d o.file.bytes o.form o.changes o.file.first rows

-- Private: all rows of an opened file follow one with the key before, this is the key of the last of them, or of that
-- one, and they lie in its bytes
abbrev pub Judges : Opened → Option Values → Option Values → Type 0
Judges o before last = (rows : List Stamped) × Follow o o.file.first before rows None × (last ≡ last_key before rows)
    × LieIn o rows
