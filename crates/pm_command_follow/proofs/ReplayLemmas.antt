-- The rows of printed frames, replayed.
use Rattle.std.proofs.Common.{◌≡◌, ◌≢◌, ◌↔◌, ℕ, zero, suc, ◌+◌, ◌-◌, ◌≤◌, ◌&&◌, not, Bool, true, false, List, [], ◌∷◌, ◌++◌, length, map, codes, Option, None, Some, option_map, Ok, IsTrue, IsUtf8, refl, sym, ap, cond, eqb, ◌∙◌, append_assoc, arith}
use Rattle.std.specs.FinMap.{get}
use Rattle.std.specs.List.{AllByRecursion, filter, flat_map, range_with_len}
use Rattle.std.specs.Ordering.{eq_by_cmp}
use Rattle.std.proofs.lemmas.List.{append_cancel_left}
use Rattle.pm_base.specs.Newline.{IsUnbroken, line}
use Rattle.pm_base.proofs.Laws.{AllByRecursion-append, AllByRecursion-parts, IsUnbroken-head, IsUnbroken-tail}
use Rattle.pm_rows.specs.RowText.{row_text}
use Rattle.pm_values.specs.Fits.{Fits}
use Rattle.pm_values.specs.Order.{Values, key_cmp}
use Rattle.pm_values.specs.declared.column.Column.{Column}
use Rattle.pm_values.specs.declared.kind.Kind.{Kind}
use Rattle.pm_model_history.specs.ColumnValue.{delimiter_of}
use Rattle.pm_model_history.specs.Merged.{merged, merged_row, primary_of}
use Rattle.std.specs.Option.{option_or}
use Rattle.pm_options.specs.Faults.{refused}
use Rattle.pm_options.specs.Kinds.{producer_text}
use Rattle.pm_options.specs.Pairs.{is_engine, is_producer, pair_fault, where_true}
use Rattle.pm_options.specs.declared.kinds.EngineKind.{EngineKind}
use Rattle.pm_options.specs.declared.kinds.EngineKind.TheVariants as engines
use Rattle.pm_options.specs.declared.kinds.Function.TheVariants as functions
use Rattle.pm_options.specs.declared.kinds.Producer.{Producer}
use Rattle.pm_options.specs.declared.kinds.Producer.TheVariants as producers
use Rattle.pm_options.specs.declared.options.Options.{Options}
use Rattle.pm_values.specs.declared.refusal.Refusal.{Refusal}
use Rattle.pm_schema.specs.Again.{IsDeclared}
use Rattle.pm_schema.specs.Meaning.{SchemaOf}
use Rattle.pm_schema.specs.Reading.{schema_of}
use Rattle.pm_schema.specs.Rules.{nulls_hold_by}
use Rattle.pm_schema.specs.declared.schema.TableSchema.{TableSchema}
use Rattle.pm_store.specs.Files.{Files}
use Rattle.pm_model_history.specs.History.{Entry, entry_rows}
use Rattle.pm_model_history.specs.Merge.{AllFit, HistoryRow, key_of, rows_of}
use Rattle.pm_model_history.specs.Taken.{function_of}
use Rattle.pm_model_following.specs.Following.{NumberedRow, change, change_by, followed, frame, frame_head, is_passed, keys_in, leaves_out_equal, newly_passed, numbered_from, passed_rows, replay, rows_at, told_at}
use Rattle.pm_model_folder.specs.Folder.{HasTable, IsRowOf}
use Rattle.pm_model_folder.specs.Paths.{schema_path}
use Rattle.pm_command_follow.specs.Follow.{MayStartAt, TellsChanges}
use Rattle.pm_command_follow.specs.Printed.{DelimitersAreTexts, LeadFrom, LeadOn, count_from, follow_text, frames_of, frames_text, rows_in, start_of, starting_text, text_so_far}
use Rattle.pm_command_follow.proofs.FitLemmas.{MayFit, changes_fit, merged_fits}
use Rattle.pm_command_follow.proofs.TextLemmas.{frames_split}

-- ---- the engine of a table that tells its inputs

none_first : (o p : Option Refusal) → option_or o p ≡ None → o ≡ None
none_first None p is = refl
none_first (Some e) p is = cc

engine_by : (p : Producer) (e : EngineKind) → p ≡ producers.Input
    → option_map refused (where_true (is_producer producers.Input p && not (is_engine engines.Deduplicate e)) (codes "changelog-producer", producer_text producers.Input)) ≡ None
    → e ≡ engines.Deduplicate
engine_by producers.Input engines.Deduplicate input none = refl
engine_by producers.Input engines.PartialUpdate input none = cc
engine_by producers.Input engines.Aggregation input none = cc
engine_by producers.Input engines.FirstRow input none = cc
engine_by producers.None e input none = cc
engine_by producers.Lookup e input none = cc
engine_by producers.FullCompaction e input none = cc

engine_is : (o : Options) → pair_fault o ≡ None → o.producer ≡ producers.Input → o.engine ≡ engines.Deduplicate
engine_is o none input = engine_by o.producer o.engine input (none_first _ _ none)

-- ---- rows that fit

rows_fit : (s : TableSchema) (rows : List HistoryRow) → AllByRecursion (IsRowOf s) rows → AllFit s.columns rows
rows_fit s [] all = tt
rows_fit s (r ∷ rows) (one, all) = (one.fits, rows_fit s rows all)

-- ---- frames as those of their rows

abbrev changes_in : TableSchema → List Entry → ℕ → ℕ → List (List HistoryRow)
changes_in s es start count = map (change s es) (range_with_len start count)

frames_are : (s : TableSchema) (es : List Entry) (start count : ℕ) → frames_text s es start count ≡ frames_of start (changes_in s es start count)
frames_are s es start zero = refl
frames_are s es start (suc count) = ap (λ (text : List ℕ). frame s es start ++ text) (frames_are s es (start + 1) count)

joined : (s : TableSchema) (es : List Entry) (ids : List ℕ) → flat_map (λ rows. rows) (map (change s es) ids) ≡ flat_map (change s es) ids
joined s es [] = refl
joined s es (id ∷ ids) = ap (λ (rows : List HistoryRow). change s es id ++ rows) (joined s es ids)

-- ---- rows of a change that fit

fit_filtered : (columns : List Column) (p : HistoryRow → Bool) (rows : List HistoryRow) → AllFit columns rows → AllFit columns (filter p rows)
fit_filtered columns p [] all = tt
fit_filtered columns p (r ∷ rows) all =
    elim (p r) as (λ b. AllFit columns (cond b (r ∷ filter p rows) (filter p rows))) [
      | true ↦ (all.0, fit_filtered columns p rows all.1)
      | false ↦ fit_filtered columns p rows all.1
    ]

fit_by_key : (s : TableSchema) (rows : List HistoryRow) (keys : List Values) → AllFit s.columns rows
    → AllFit s.columns (flat_map (λ key. rows_of (primary_of s) key rows) keys)
fit_by_key s rows [] all = tt
fit_by_key s rows (key ∷ keys) all =
    AllByRecursion-append (λ (r : HistoryRow). Fits s.columns r.1) (rows_of (primary_of s) key rows) (flat_map (λ key. rows_of (primary_of s) key rows) keys)
    (fit_filtered s.columns (λ (r : HistoryRow). eq_by_cmp key_cmp key (key_of (primary_of s) r.1)) rows all) (fit_by_key s rows keys all)

fit_one_numbered : (columns : List Column) (p : NumberedRow → Bool) (k : ℕ) (rows : List HistoryRow) (more : List NumberedRow) → AllFit columns rows
    → AllFit columns (map (λ (r : NumberedRow). r.1) (filter p more))
    → AllFit columns (map (λ (r : NumberedRow). r.1) (filter p (map (λ (r : HistoryRow). (k, r)) rows ++ more)))
fit_one_numbered columns p k [] more all then = then
fit_one_numbered columns p k (r ∷ rows) more all then =
    let kept : List NumberedRow = filter p (map (λ (r : HistoryRow). (k, r)) rows ++ more) in
    elim (p (k, r)) as (λ b. AllFit columns (map (λ (r : NumberedRow). r.1) (cond b ((k, r) ∷ kept) kept))) [
      | true ↦ (all.0, fit_one_numbered columns p k rows more all.1 then)
      | false ↦ fit_one_numbered columns p k rows more all.1 then
    ]

fit_numbered : (columns : List Column) (p : NumberedRow → Bool) (k : ℕ) (es : List Entry) → AllFit columns (flat_map entry_rows es)
    → AllFit columns (map (λ (r : NumberedRow). r.1) (filter p (numbered_from k es)))
fit_numbered columns p k [] all = tt
fit_numbered columns p k (entry ∷ es) all =
    let parts = AllByRecursion-parts (λ (r : HistoryRow). Fits columns r.1) (entry_rows entry) (flat_map entry_rows es) all in
    fit_one_numbered columns p k (entry_rows entry) (numbered_from (k + 1) es) parts.0 (fit_numbered columns p (k + 1) es parts.1)

-- what the law of merged tables says
abbrev MergedLaw : Type 0
MergedLaw = (s : TableSchema) (rows : List HistoryRow) (key : Values) → get (merged s rows) key ≡ merged_row s rows key

module _ (merges : MergedLaw) (s : TableSchema) (can : IsTrue (nulls_hold_by s.options.engine s)) (es : List Entry) (all : AllFit s.columns (flat_map entry_rows es)) where
  fit_followed : (s.options.engine ≡ engines.Aggregation → (c : Column) → function_of s c ≡ functions.ListAgg → IsUtf8 (delimiter_of s c)) → (n : ℕ) (key : Values) → MayFit s.columns (get (followed s es n) key)
  fit_followed fine n key = merged_fits s can fine (merges s) (passed_rows s es n) key (fit_numbered s.columns (is_passed s es n) 1 es all)

  fit_told : (s.options.engine ≡ engines.Aggregation → (c : Column) → function_of s c ≡ functions.ListAgg → IsUtf8 (delimiter_of s c)) → (n : ℕ)
      → AllFit s.columns (flat_map (told_at s es n) (keys_in s (newly_passed s es n)))
  fit_told fine n =
      changes_fit s (leaves_out_equal s s.options.engine) (λ key. get (followed s es (n - 1)) key) (λ key. get (followed s es n) key)
      (λ key. fit_followed fine (n - 1) key) (λ key. fit_followed fine n key) (keys_in s (newly_passed s es n))

  fit_by : (p : Producer) (n : ℕ) → (p ≢ producers.Input → s.options.engine ≡ engines.Aggregation → (c : Column) → function_of s c ≡ functions.ListAgg → IsUtf8 (delimiter_of s c)) → AllFit s.columns (change_by p s es n)
  fit_by producers.None n fine = tt
  fit_by producers.Input n fine = fit_by_key s (rows_at es n) (keys_in s (rows_at es n)) (fit_numbered s.columns (λ (r : NumberedRow). eqb r.0 n) 1 es all)
  fit_by producers.Lookup n fine = fit_told (fine (λ is. cc)) n
  fit_by producers.FullCompaction n fine = fit_told (fine (λ is. cc)) n

  fit_changes : DelimitersAreTexts s → (ids : List ℕ) → AllFit s.columns (rows_in (map (change s es) ids))
  fit_changes fine [] = tt
  fit_changes fine (id ∷ ids) =
      AllByRecursion-append (λ (r : HistoryRow). Fits s.columns r.1) (change s es id) (rows_in (map (change s es) ids)) (fit_by s.options.producer id fine) (fit_changes fine ids)

-- ---- frames that are read by the schema

abbrev first_of : List ℕ → ℕ
first_of [] = 0
first_of (b ∷ bytes) = b

abbrev rest_of : List ℕ → List ℕ
rest_of [] = []
rest_of (b ∷ bytes) = bytes

-- a line and what comes behind it
line_parts : (a b tail other : List ℕ) → IsUnbroken a → IsUnbroken b → line a ++ tail ≡ line b ++ other → (a ≡ b) × (tail ≡ other)
line_parts [] [] tail other one two is = (refl, ap rest_of is)
line_parts [] (c ∷ b) tail other one two is = absurd (IsUnbroken-head c b two (sym (ap first_of is)))
line_parts (c ∷ a) [] tail other one two is = absurd (IsUnbroken-head c a one (ap first_of is))
line_parts (c ∷ a) (d ∷ b) tail other one two is =
    let more = line_parts a b tail other (IsUnbroken-tail c a one) (IsUnbroken-tail d b two) (ap rest_of is) in
    let first : c ≡ d = ap first_of is in
    (λ i. first i ∷ more.0 i, more.1)

-- what the laws of rows say
pub record RowLaws : Type 0 where
  pub one_row : (columns : List Column) (k l : Kind) (row other : Values) → Fits columns row → Fits columns other → row_text k row ≡ row_text l other
      → (k ≡ l) × (row ≡ other)
  pub newline : (kind : Kind) (row : Values) → IsUnbroken (row_text kind row)
  pub begins : (kind : Kind) (row : Values) → (more : List ℕ) × (row_text kind row ≡ 91 ∷ more)

-- the lines of rows
abbrev lines_of : List HistoryRow → List ℕ
lines_of rows = flat_map (λ (r : HistoryRow). line (row_text r.0 r.1)) rows

not_end : (n : ℕ) → n ≡ 0 → n ≡ 91 → ⊥
not_end n is other = omega (arith, is, other)

not_head : (n : ℕ) → n ≡ 123 → n ≡ 91 → ⊥
not_head n is other = omega (arith, is, other)

not_both : (n : ℕ) → n ≡ 0 → n ≡ 123 → ⊥
not_both n is other = omega (arith, is, other)

-- a text of frames begins with no row
no_row : (id : ℕ) (changes : List (List HistoryRow)) → first_of (frames_of id changes) ≡ 91 → ⊥
no_row id [] is = not_end 0 refl is
no_row id (rows ∷ changes) is = not_head 123 refl is

module _ (laws : RowLaws) (columns : List Column) where
  begins_row : (r : HistoryRow) (text more : List ℕ) → first_of ((line (row_text r.0 r.1) ++ text) ++ more) ≡ 91
  begins_row r text more =
      let so = laws.begins r.0 r.1 in
      ap (λ (own : List ℕ). first_of ((line own ++ text) ++ more)) so.1

  rows_parts : (rows others : List HistoryRow) (tail other : List ℕ) → AllFit columns rows → AllFit columns others → (first_of tail ≡ 91 → ⊥)
      → (first_of other ≡ 91 → ⊥) → lines_of rows ++ tail ≡ lines_of others ++ other → (rows ≡ others) × (tail ≡ other)
  rows_parts [] [] tail other fit fits none nor is = (refl, is)
  rows_parts [] (q ∷ others) tail other fit fits none nor is = absurd (none (ap first_of is ∙ begins_row q (lines_of others) other))
  rows_parts (r ∷ rows) [] tail other fit fits none nor is = absurd (nor (sym (ap first_of is) ∙ begins_row r (lines_of rows) tail))
  rows_parts (r ∷ rows) (q ∷ others) tail other fit fits none nor is =
      let lines = line_parts (row_text r.0 r.1) (row_text q.0 q.1) (lines_of rows ++ tail) (lines_of others ++ other) (laws.newline r.0 r.1) (laws.newline q.0 q.1)
      (sym (append_assoc (line (row_text r.0 r.1)) (lines_of rows) tail) ∙ is ∙ append_assoc (line (row_text q.0 q.1)) (lines_of others) other) in
      let one = laws.one_row columns r.0 q.0 r.1 q.1 fit.0 fits.0 lines.0 in
      let more = rows_parts rows others tail other fit.1 fits.1 none nor lines.1 in
      (λ i. (one.0 i, one.1 i) ∷ more.0 i, more.1)

  frames_parts : (id : ℕ) (changes others : List (List HistoryRow)) → AllFit columns (rows_in changes) → AllFit columns (rows_in others)
      → frames_of id changes ≡ frames_of id others → changes ≡ others
  frames_parts id [] [] fit fits is = refl
  frames_parts id [] (rows ∷ others) fit fits is = absurd (not_both 0 refl (ap first_of is))
  frames_parts id (rows ∷ changes) [] fit fits is = absurd (not_both 0 refl (sym (ap first_of is)))
  frames_parts id (rows ∷ changes) (own ∷ others) fit fits is =
      let P : HistoryRow → Type 0 = λ (r : HistoryRow). Fits columns r.1 in
      let one = AllByRecursion-parts P rows (rows_in changes) fit in
      let two = AllByRecursion-parts P own (rows_in others) fits in
      let behind : lines_of rows ++ frames_of (id + 1) changes ≡ lines_of own ++ frames_of (id + 1) others =
      append_cancel_left (frame_head id) (lines_of rows ++ frames_of (id + 1) changes) (lines_of own ++ frames_of (id + 1) others)
      (sym (append_assoc (frame_head id) (lines_of rows) (frames_of (id + 1) changes)) ∙ is ∙ append_assoc (frame_head id) (lines_of own) (frames_of (id + 1) others)) in
      let parts = rows_parts rows own (frames_of (id + 1) changes) (frames_of (id + 1) others) one.0 two.0 (no_row (id + 1) changes) (no_row (id + 1) others) behind in
      let more = frames_parts (id + 1) changes others one.1 two.1 parts.1 in
      λ i. parts.0 i ∷ more i

-- what the law of frames says
abbrev FramesLaw : Type 0
FramesLaw = (s : TableSchema) (es : List Entry) (n count : ℕ) → s.options.producer ≢ producers.None
    → (s.options.producer ≡ producers.Input → s.options.engine ≡ engines.Deduplicate) → AllFit s.columns (flat_map entry_rows es)
    → replay s (followed s es n) (flat_map (change s es) (range_with_len (n + 1) count)) ≡ followed s es (n + count)

-- what a schema is read of, and how it is declared then
abbrev ReadLaw : Type 0
ReadLaw = (path text : List ℕ) (s : TableSchema) → (schema_of path text ≡ Ok s) ↔ SchemaOf path text s

abbrev DeclaredLaw : Type 0
DeclaredLaw = (path text : List ℕ) (s : TableSchema) → SchemaOf path text s → IsDeclared s

pub leads_on : RowLaws → MergedLaw → FramesLaw → ReadLaw → DeclaredLaw → (f : Files) (s : TableSchema) (es : List Entry) (start last : ℕ) → HasTable f s es → TellsChanges s → 1 ≤ start → start ≤ suc last
    → LeadOn s es start last (frames_text s es start (count_from start last))
leads_on lines merges law read declares f s es start last stands tells low high =
    let first = stands.schema.first in
    let declared = declares (schema_path 0) first.0 s ((read (schema_path 0) first.0 s).0 first.2) in
    let count = count_from start last in
    let again : (start - 1) + 1 ≡ start = omega (arith, low) in
    let end : (start - 1) + (suc last - start) ≡ last = omega (arith, low, high) in
    let all : AllFit s.columns (flat_map entry_rows es) = rows_fit s (flat_map entry_rows es) stands.history.rows in
    let replayed = law s es (start - 1) count tells (engine_is s.options declared.options.pairs) all in
    let can : IsTrue (nulls_hold_by s.options.engine s) = declared.rules.1.1.1.1.1.1.1.0 in
    let fits : DelimitersAreTexts s → AllFit s.columns (rows_in (changes_in s es start count)) =
    λ fine. fit_changes merges s can es all fine (range_with_len start count) in
    record {
      changes = changes_in s es start count;
      frames = frames_are s es start count;
      replayed = ap (replay s (followed s es (start - 1))) (joined s es (range_with_len start count))
          ∙ ap (λ (from : ℕ). replay s (followed s es (start - 1)) (flat_map (change s es) (range_with_len from count))) (sym again)
          ∙ replayed ∙ ap (followed s es) end;
      fits = fits;
      only = λ own others fit is. frames_parts lines s.columns start (changes_in s es start count) others own fit (sym (frames_are s es start count) ∙ is);
    }

-- ---- all that is printed

in_parts : (s : TableSchema) (es : List Entry) (full : Bool) (start count : ℕ)
    → text_so_far s es full start count ≡ starting_text s es full start ++ frames_text s es start count
in_parts s es false start count = refl
in_parts s es true start count = refl

first_frames : (s : TableSchema) (es : List Entry) (start last newest : ℕ) → last ≤ newest
    → frames_text s es start (count_from start newest)
    ≡ frames_text s es start (count_from start last) ++ frames_text s es (start + count_from start last) (count_from start newest - count_from start last)
first_frames s es start last newest within =
    let more : (suc last - start) + ((suc newest - start) - (suc last - start)) ≡ suc newest - start = omega (arith, within) in
    ap (frames_text s es start) (sym more) ∙ frames_split s es start (count_from start last) (count_from start newest - count_from start last)

pub leads_from : RowLaws → MergedLaw → FramesLaw → ReadLaw → DeclaredLaw → (f : Files) (s : TableSchema) (es : List Entry) (from : Option ℕ) (full : Bool) → HasTable f s es
    → MayStartAt s es from → 1 ≤ start_of from (length es) → LeadFrom s es from full (follow_text s es from full)
leads_from lines merges law read declares f s es from full stands (tells, high) low =
    let start = start_of from (length es) in
    let newest = length es in
    record {
      frames = frames_text s es start (count_from start newest);
      parts = in_parts s es full start (count_from start newest);
      lead = leads_on lines merges law read declares f s es start newest stands tells low high;
      each = λ last after within. (
        frames_text s es start (count_from start last),
        frames_text s es (start + count_from start last) (count_from start newest - count_from start last),
        first_frames s es start last newest within,
        leads_on lines merges law read declares f s es start last stands tells low after,
      );
    }
