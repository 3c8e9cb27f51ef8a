-- What `follow` prints of a table.
use Rattle.std.specs.Prelude.{◌≡◌, ◌≢◌, ℕ, suc, ◌+◌, ◌-◌, ◌≤◌, List, [], ◌∷◌, ◌++◌, codes, length, Bool, true, false}
use Rattle.std.specs.Prelude.{Option, None, Some, IsUtf8}
use Rattle.std.specs.Fmt.{decimal}
use Rattle.std.specs.List.{flat_map, range_with_len}
use Rattle.pm_base.specs.Newline.{line}
use Rattle.pm_options.specs.declared.kinds.EngineKind.TheVariants.{Aggregation}
use Rattle.pm_options.specs.declared.kinds.Function.TheVariants.{ListAgg}
use Rattle.pm_options.specs.declared.kinds.Producer.TheVariants.{Input}
use Rattle.pm_rows.specs.RowText.{row_text}
use Rattle.pm_model_following.specs.Following.{followed, frame, frame_head, replay, table_text}
use Rattle.pm_model_history.specs.ColumnValue.{delimiter_of}
use Rattle.pm_model_history.specs.History.{Entry}
use Rattle.pm_model_history.specs.Merge.{AllFit, HistoryRow}
use Rattle.pm_model_history.specs.Taken.{function_of}
use Rattle.pm_schema.specs.declared.schema.TableSchema.{TableSchema}
use Rattle.pm_values.specs.declared.column.Column.{Column}

-- the snapshot of the first frame: the one that is asked for, or the one after the latest
abbrev pub start_of : Option ℕ → ℕ → ℕ
start_of None latest = suc latest
start_of (Some id) latest = id

-- how many frames there are from the start to the latest snapshot
abbrev pub count_from : ℕ → ℕ → ℕ
count_from start latest = suc latest - start

-- the line that the starting table begins with, which names its snapshot
abbrev pub table_head : ℕ → List ℕ
table_head id = line (codes "{\"table\":" ++ decimal id ++ codes "}")

-- so many frames from a snapshot on
abbrev pub frames_text : TableSchema → List Entry → ℕ → ℕ → List ℕ
frames_text s entries start count = flat_map (frame s entries) (range_with_len start count)

-- the starting table, if it is asked for
abbrev pub starting_text : TableSchema → List Entry → Bool → ℕ → List ℕ
starting_text s entries false start = []
starting_text s entries true start = table_text s entries (start - 1)

-- the starting table, if it was printed, and so many frames
abbrev pub text_so_far : TableSchema → List Entry → Bool → ℕ → ℕ → List ℕ
text_so_far s entries false start count = frames_text s entries start count
text_so_far s entries true start count = table_text s entries (start - 1) ++ frames_text s entries start count

-- all that is printed: the starting table, if it is asked for, and the frames from the start to the newest snapshot
abbrev pub follow_text : TableSchema → List Entry → Option ℕ → Bool → List ℕ
follow_text s entries from full =
    text_so_far s entries full (start_of from (length entries))
    (count_from (start_of from (length entries)) (length entries))

-- the frame of a snapshot with these rows
abbrev pub frame_of : ℕ → List HistoryRow → List ℕ
frame_of id rows = frame_head id ++ flat_map (λ (r : HistoryRow). line (row_text r.0 r.1)) rows

-- the frames of snapshots that follow one another, from this one on, each with its rows
abbrev pub frames_of : ℕ → List (List HistoryRow) → List ℕ
frames_of id [] = []
frames_of id (rows ∷ more) = frame_of id rows ++ frames_of (id + 1) more

-- the rows of changes, one after another
abbrev pub rows_in : List (List HistoryRow) → List HistoryRow
rows_in changes = flat_map (λ rows. rows) changes

-- Where rows are told that aggregation made, the delimiter of each column that joins texts is UTF-8; nothing is asked
-- of other engines, of other functions and of the producer of inputs.
abbrev pub DelimitersAreTexts : TableSchema → Type 0
DelimitersAreTexts s =
    s.options.producer ≢ Input → s.options.engine ≡ Aggregation
    → (c : Column) → function_of s c ≡ ListAgg → IsUtf8 (delimiter_of s c)

-- What was printed of frames is these, and their rows, replayed in order on the table that was followed before them,
-- give the one that is followed at the last. With delimiters that are texts the rows fit the schema. Where they do, no
-- others that fit it have this text; so whoever reads its lines by the schema has these rows.
pub record LeadOn (s : TableSchema) (entries : List Entry) (start last : ℕ) (text : List ℕ) : Type 0 where
  pub changes : List (List HistoryRow)
  pub frames : text ≡ frames_of start changes
  pub replayed : replay s (followed s entries (start - 1)) (rows_in changes) ≡ followed s entries last
  pub fits : DelimitersAreTexts s → AllFit s.columns (rows_in changes)
  pub only : AllFit s.columns (rows_in changes) → (others : List (List HistoryRow))
      → AllFit s.columns (rows_in others) → text ≡ frames_of start others → changes ≡ others

-- What was printed is the starting table, if it is asked for, and frames behind it, which lead on to the newest
-- snapshot. So do the first of them to each snapshot before that.
pub record LeadFrom (s : TableSchema) (entries : List Entry) (from : Option ℕ) (full : Bool) (text : List ℕ)
    : Type 0 where
  pub frames : List ℕ
  pub parts : text ≡ starting_text s entries full (start_of from (length entries)) ++ frames
  pub lead : LeadOn s entries (start_of from (length entries)) (length entries) frames
  pub each : (last : ℕ) → start_of from (length entries) ≤ suc last → last ≤ length entries
      → (first rest : List ℕ) × (frames ≡ first ++ rest)
      × LeadOn s entries (start_of from (length entries)) last first
