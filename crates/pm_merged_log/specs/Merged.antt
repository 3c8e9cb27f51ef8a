-- The rows of a snapshot's changelog files, merged by key, and the text that they make.
use Rattle.std.specs.Prelude.{◌≡◌, ℕ, List, [], ◌∷◌, ◌++◌, map, Bool, true, false}
use Rattle.std.specs.List.{AllByRecursion, flat_map}
use Rattle.pm_base.specs.Newline.{line}
use Rattle.pm_values.specs.declared.record.Stamped.{Stamped}
use Rattle.pm_rows.specs.RowText.{row_text}
use Rattle.pm_schema.specs.declared.schema.TableSchema.{TableSchema}
use Rattle.pm_model_history.specs.Merge.{HistoryRow, key_of}
use Rattle.pm_model_history.specs.Merged.{primary_of}
use Rattle.pm_engine.specs.Covers.{row_of}
use Rattle.pm_model_following.specs.Following.{by_key, frame_head}

-- the key beside each row is its own
abbrev pub HaveOwnKeys : TableSchema → List Stamped → Type 0
HaveOwnKeys s rows = AllByRecursion (λ (x : Stamped). x.key ≡ key_of (primary_of s) x.row) rows

-- the lines of rows, each of its kind
abbrev pub change_lines : List HistoryRow → List ℕ
change_lines rows = flat_map (λ (r : HistoryRow). line (row_text r.0 r.1)) rows

abbrev pub lines_of : List Stamped → List ℕ
lines_of rows = change_lines (map row_of rows)

-- The frame of a snapshot whose changelog files have these rows, one file's after another's: its first line, and the
-- lines of the rows by rising key, those of one key in their order.
abbrev pub merged_frame : TableSchema → ℕ → List Stamped → List ℕ
merged_frame s id rows = frame_head id ++ change_lines (by_key s (map row_of rows))

-- Private: the first of the rows is given, the others are left, and its line is put to the text; or there is none
abbrev pub GivesLine : Bool → List Stamped → List Stamped → List ℕ → List ℕ → Type 0
GivesLine true rows left old new =
    (x : Stamped) × (rows ≡ x ∷ left) × (new ≡ old ++ line (row_text x.kind x.row))
GivesLine false rows left old new = (rows ≡ []) × (new ≡ old)
