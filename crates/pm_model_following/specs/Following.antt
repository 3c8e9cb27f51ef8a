-- Which rows of a history are passed on to those that follow its table, and how each snapshot changes what they have.
use Rattle.std.specs.Prelude.{◌≡◌, ℕ, ◌+◌, ◌-◌, ◌==◌, ◌<◌, nat_le, max, List, [], ◌∷◌, ◌++◌, map, filter, take, codes}
use Rattle.std.specs.Prelude.{Bool, true, false, not, ◌&&◌, ◌||◌, Option, Some, None, if◌then◌else◌}
use Rattle.std.specs.FinMap.{FinMap, from_entries, get, insert, keys, remove, values}
use Rattle.std.specs.Fmt.{decimal}
use Rattle.std.specs.List.{filter_map, flat_map, fold, list_any}
use Rattle.std.specs.Ordering.{eq_by_cmp}
use Rattle.pm_base.specs.Newline.{line}
use Rattle.pm_options.specs.declared.kinds.EngineKind.{EngineKind}
use Rattle.pm_options.specs.declared.kinds.EngineKind.TheVariants as engines
use Rattle.pm_options.specs.declared.kinds.Producer.{Producer}
use Rattle.pm_options.specs.declared.kinds.Producer.TheVariants as producers
use Rattle.pm_rows.specs.RowText.{row_text}
use Rattle.pm_schema.specs.declared.schema.TableSchema.{TableSchema}
use Rattle.pm_values.specs.GroupOrder.{group_cmp}
use Rattle.pm_values.specs.Order.{Values, key_cmp}
use Rattle.pm_values.specs.declared.group.Group.{Group}
use Rattle.pm_values.specs.declared.kind.Kind.TheVariants.{Insert, UpdateBefore, UpdateAfter, Delete}
use Rattle.pm_model_following.specs.Groups.{group_of}
use Rattle.pm_model_history.specs.History.{Entry, compaction, entry_rows, rows_up_to}
use Rattle.pm_model_history.specs.Merge.{HistoryRow, key_of, rows_of}
use Rattle.pm_model_history.specs.Merged.{merged, primary_of}

-- ---- rows by the entries that put them in

-- a row, with the number of the entry that put it into the table
abbrev pub NumberedRow : Type 0
NumberedRow = ℕ × HistoryRow

-- the rows of entries in order, the first entry having this number
abbrev pub numbered_from : ℕ → List Entry → List NumberedRow
numbered_from number [] = []
numbered_from number (entry ∷ entries) =
    map (λ (r : HistoryRow). (number, r)) (entry_rows entry) ++ numbered_from (number + 1) entries

-- the rows of a history's entries
abbrev pub numbered_rows : List Entry → List NumberedRow
numbered_rows entries = numbered_from 1 entries

-- the rows that entry n put in
abbrev pub rows_at : List Entry → ℕ → List HistoryRow
rows_at entries n = map (λ (r : NumberedRow). r.1) (filter (λ (r : NumberedRow). r.0 == n) (numbered_rows entries))

-- ---- compactions of a group

-- the greatest of numbers, 0 of none
abbrev pub greatest : List ℕ → ℕ
greatest numbers = fold max 0 numbers

-- the group is among those that a compaction names; among those that it names as whole, where that is asked for
abbrev pub is_named : Bool → Group → List (Group × Bool) → Bool
is_named wholly g groups = list_any (λ (p : Group × Bool). eq_by_cmp group_cmp g p.0 && (p.1 || not wholly)) groups

-- the base of an entry that compacted the group
abbrev pub base_of : Bool → Group → Entry → Option ℕ
base_of wholly g (compaction base groups) = if is_named wholly g groups then Some base else None
base_of wholly g entry = None

-- the greatest base of a compaction among the first n entries that names the group, 0 where there is none
abbrev pub compacted : Bool → List Entry → ℕ → Group → ℕ
compacted wholly entries n g = greatest (filter_map (base_of wholly g) (take n entries))

-- the compactions among entries began from snapshots before their own, the first entry having this number
abbrev pub HaveBases : ℕ → List Entry → Type 0
HaveBases number [] = Unit {0}
HaveBases number (compaction base groups ∷ entries) = (base < number) × HaveBases (number + 1) entries
HaveBases number (entry ∷ entries) = HaveBases (number + 1) entries

-- ---- what is passed on

-- up to which entry the rows of a group are passed on at snapshot n
abbrev pub passed : Producer → List Entry → ℕ → Group → ℕ
passed producers.Lookup entries n g = compacted false entries n g
passed producers.FullCompaction entries n g = compacted true entries n g
passed producer entries n g = n

-- a row is passed on at snapshot n
abbrev pub is_passed : TableSchema → List Entry → ℕ → NumberedRow → Bool
is_passed s entries n r = nat_le r.0 (passed s.options.producer entries n (group_of s r.1.1))

-- the rows that are passed on at snapshot n
abbrev pub passed_rows : TableSchema → List Entry → ℕ → List HistoryRow
passed_rows s entries n = map (λ (r : NumberedRow). r.1) (filter (is_passed s entries n) (numbered_rows entries))

-- the table that is passed on at snapshot n
abbrev pub followed : TableSchema → List Entry → ℕ → FinMap key_cmp Values
followed s entries n = merged s (passed_rows s entries n)

-- snapshot n is finished: all rows up to it are passed on
abbrev pub IsFinished : TableSchema → List Entry → ℕ → Type 0
IsFinished s entries n = followed s entries n ≡ merged s (rows_up_to entries n)

-- ---- how a snapshot changes it

-- the keys of rows, by rising key
abbrev pub keys_in : TableSchema → List HistoryRow → List Values
keys_in s rows =
    let entries = map (λ (r : HistoryRow). (key_of (primary_of s) r.1, r)) rows in
    let table : FinMap key_cmp HistoryRow = from_entries entries in
    keys table

-- rows by rising key, those of one key in their order
abbrev pub by_key : TableSchema → List HistoryRow → List HistoryRow
by_key s rows = flat_map (λ key. rows_of (primary_of s) key rows) (keys_in s rows)

-- the rows that are passed on at snapshot n and weren't at the one before
abbrev pub newly_passed : TableSchema → List Entry → ℕ → List HistoryRow
newly_passed s entries n =
    map (λ (r : NumberedRow). r.1)
    (filter (λ r. is_passed s entries n r && not (is_passed s entries (n - 1) r)) (numbered_rows entries))

-- equal rows aren't told: with the option, and always with first rows
abbrev pub leaves_out_equal : TableSchema → EngineKind → Bool
leaves_out_equal s engines.FirstRow = true
leaves_out_equal s engine = s.options.row_deduplicate

-- what is told of a key that had one row and has another
abbrev pub told : Bool → Option Values → Option Values → List HistoryRow
told equal_out None None = []
told equal_out None (Some new) = (Insert, new) ∷ []
told equal_out (Some old) None = (Delete, old) ∷ []
told equal_out (Some old) (Some new) =
    if equal_out && eq_by_cmp key_cmp old new then [] else (UpdateBefore, old) ∷ (UpdateAfter, new) ∷ []

-- what is told of a key at snapshot n
abbrev pub told_at : TableSchema → List Entry → ℕ → Values → List HistoryRow
told_at s entries n key =
    told (leaves_out_equal s s.options.engine) (get (followed s entries (n - 1)) key) (get (followed s entries n) key)

-- The change of snapshot n. With the producer of inputs it has the rows of entry n; with the others it speaks of each
-- key with a newly passed row.
abbrev pub change_by : Producer → TableSchema → List Entry → ℕ → List HistoryRow
change_by producers.None s entries n = []
change_by producers.Input s entries n = by_key s (rows_at entries n)
change_by producer s entries n = flat_map (told_at s entries n) (keys_in s (newly_passed s entries n))

abbrev pub change : TableSchema → List Entry → ℕ → List HistoryRow
change s entries n = change_by s.options.producer s entries n

-- ---- its text

-- the line that a frame begins with
abbrev pub frame_head : ℕ → List ℕ
frame_head n = line (codes "{\"snapshot\":" ++ decimal n ++ codes "}")

-- the frame of snapshot n: that line, and a line for each row of the change
abbrev pub frame : TableSchema → List Entry → ℕ → List ℕ
frame s entries n = frame_head n ++ flat_map (λ (r : HistoryRow). line (row_text r.0 r.1)) (change s entries n)

-- the text of the table that is passed on at snapshot n: a line that says so, and its rows by rising key as lines that
-- insert them
abbrev pub table_text : TableSchema → List Entry → ℕ → List ℕ
table_text s entries n =
    line (codes "{\"table\":" ++ decimal n ++ codes "}")
    ++ flat_map (λ (row : Values). line (row_text Insert row)) (values (followed s entries n))

-- a table after one line of a change: a row is set by `+I` and `+U`, and taken away by `-U` and `-D`
abbrev pub after_line : TableSchema → FinMap key_cmp Values → HistoryRow → FinMap key_cmp Values
after_line s table (Insert, row) = insert table (key_of (primary_of s) row) row
after_line s table (UpdateAfter, row) = insert table (key_of (primary_of s) row) row
after_line s table (kind, row) = remove table (key_of (primary_of s) row)

-- a table after the lines of changes
abbrev pub replay : TableSchema → FinMap key_cmp Values → List HistoryRow → FinMap key_cmp Values
replay s table rows = fold (after_line s) table rows
