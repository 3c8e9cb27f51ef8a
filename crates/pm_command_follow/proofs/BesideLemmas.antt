-- The pieces of a following, put together whatever others did meanwhile.
use Rattle.std.proofs.Common.{◌≡◌, ◌⊎◌, inl, inr, ℕ, zero, suc, ◌+◌, ◌-◌, ◌≤◌, Bool, true, false, List, ◌++◌, length, Some, refl, sym, ap, subst, ◌∙◌, arith}
use Rattle.std.specs.FinMap.{FinMap, values}
use Rattle.std.specs.List.{flat_map, range_with_len}
use Rattle.pm_base.specs.Newline.{line}
use Rattle.pm_rows.specs.RowText.{row_text}
use Rattle.pm_schema.specs.declared.schema.TableSchema.{TableSchema}
use Rattle.pm_store.specs.Files.{Files}
use Rattle.pm_values.specs.Order.{Values, key_cmp}
use Rattle.pm_values.specs.declared.kind.Kind.TheVariants.{Insert}
use Rattle.pm_model_history.specs.History.{Entry, GoesOn, History, table}
use Rattle.pm_model_history.specs.Merge.{HistoryRow}
use Rattle.pm_model_history.specs.Merged.{scan_text}
use Rattle.pm_model_following.specs.Following.{HaveBases, change, followed, frame, frame_head, passed_rows, table_text}
use Rattle.pm_model_folder.specs.Folder.{Folder, HasTable}
use Rattle.pm_model_folder.specs.Ledger.{IsKnown, count_of}
use Rattle.pm_read_frame.specs.Frames.{AreFramesFrom, joined}
use Rattle.pm_read_frame.specs.Meaning.{HasProducer}
use Rattle.pm_command_follow.specs.Beside.{ArePieces, IsFirstOf, IsPassedOf, IsStartOf}
use Rattle.pm_command_follow.specs.Follow.{TellsChanges}
use Rattle.pm_command_follow.specs.Printed.{count_from, follow_text, frames_text, table_head, text_so_far}
use Rattle.pm_command_follow.proofs.TextLemmas.{follow_split}

-- what the laws of frames and of the model say
pub record Laws : Type 0 where
  pub within : (s : TableSchema) (es : List Entry) (id : ℕ) (texts : List (List ℕ)) → AreFramesFrom (table s es) id texts
      → length texts ≤ suc (length es) - id
  pub text : (s : TableSchema) (es : List Entry) (id : ℕ) (texts : List (List ℕ)) → HasProducer s → AreFramesFrom (table s es) id texts
      → joined texts ≡ flat_map (frame s es) (range_with_len id (length texts))
  pub table : (s : TableSchema) (es more : List Entry) (n : ℕ) → HaveBases 1 es → n ≤ length es → followed s (es ++ more) n ≡ followed s es n
  pub change : (s : TableSchema) (es more : List Entry) (n : ℕ) → HaveBases 1 es → n ≤ length es → change s (es ++ more) n ≡ change s es n

-- ---- the starting table

module _ (s : TableSchema) (es : List Entry) (id : ℕ) (rows : List ℕ) (is : IsPassedOf (table s es) id rows) where
  of_table : GoesOn (table is.scan.schema is.scan.entries) (table s es)
  of_table = subst (λ (h : History). GoesOn h (table s es)) is.scan.is_table is.goes_on

  scanned_to : id ≤ length is.scan.entries
  scanned_to = by is.scan.known
    where
      by : (id ≡ 0) ⊎ IsKnown is.past id → id ≤ length is.scan.entries
      by (inl origin) = omega (arith, origin)
      by (inr known) = subst (λ (h : History). id ≤ count_of h) is.scan.is_table known.to

  bases : HaveBases 1 is.scan.entries
  bases = (has_table (subst (Folder is.files) is.scan.is_table is.stood.folder)).history.bases
    where
      has_table : HasTable is.files is.scan.schema is.scan.entries → HasTable is.files is.scan.schema is.scan.entries
      has_table has = has

  scan_is : Laws → rows ≡ scan_text s (passed_rows s es id)
  scan_is laws =
      let (same, more, whole) = of_table in
      let own = is.scan.entries in
      is.scan.is_text
      ∙ ap (λ (table : FinMap key_cmp Values). flat_map (λ (row : Values). line (row_text Insert row)) (values table))
      (sym (laws.table is.scan.schema own more id bases scanned_to))
      ∙ sym (λ i. scan_text (same i) (passed_rows (same i) (whole i) id))

-- ---- the pieces together

module _ (laws : Laws) (s : TableSchema) (tells : TellsChanges s) where
  together : (es : List Entry) (full : Bool) (start : ℕ) (first : List ℕ) (frames : List (List ℕ)) → IsStartOf (table s es) full start first
      → AreFramesFrom (table s es) start frames → first ++ joined frames ≡ text_so_far s es full start (length frames)
  together es false start first frames none are =
      ap (λ (first : List ℕ). first ++ joined frames) none ∙ laws.text s es start frames tells are
  together es true start first frames (rows, scan, is) are =
      ap (λ (first : List ℕ). first ++ joined frames)
      (is ∙ ap (λ (rows : List ℕ). table_head (start - 1) ++ rows) (scan_is s es (start - 1) rows scan laws))
      ∙ ap (λ (text : List ℕ). table_text s es (start - 1) ++ text) (laws.text s es start frames tells are)

  pub are_first : (es : List Entry) (full : Bool) (start : ℕ) (first : List ℕ) (frames : List (List ℕ)) → ArePieces (table s es) full start first frames
      → IsFirstOf s es full start (length frames) (first ++ joined frames)
  are_first es full start first frames are =
      let is = together es full start first frames are.base are.each in
      let within = laws.within s es start frames are.each in
      let (rest, split) = follow_split s es full start (length frames) (count_from start (length es)) within in
      record {
        text = is;
        within = within;
        prefix = (rest, split ∙ ap (λ (text : List ℕ). text ++ rest) (sym is));
      }

  -- ---- where more entries came

  frames_kept : (es more : List Entry) (start count : ℕ) → HaveBases 1 es → start + count ≤ suc (length es)
      → frames_text s (es ++ more) start count ≡ frames_text s es start count
  frames_kept es more start zero bases within = refl
  frames_kept es more start (suc count) bases within =
      ap (λ (rows : List HistoryRow). (frame_head start ++ flat_map (λ (r : HistoryRow). line (row_text r.0 r.1)) rows) ++ frames_text s (es ++ more) (start + 1) count)
      (laws.change s es more start bases (omega (arith, within)))
      ∙ ap (λ (text : List ℕ). frame s es start ++ text) (frames_kept es more (start + 1) count bases (omega (arith, within)))

  kept : (es more : List Entry) (full : Bool) (start count : ℕ) → HaveBases 1 es → start ≤ suc (length es) → start + count ≤ suc (length es)
      → text_so_far s (es ++ more) full start count ≡ text_so_far s es full start count
  kept es more false start count bases low within = frames_kept es more start count bases within
  kept es more true start count bases low within =
      ap (λ (table : FinMap key_cmp Values).
      (table_head (start - 1) ++ flat_map (λ (row : Values). line (row_text Insert row)) (values table)) ++ frames_text s (es ++ more) start count)
      (laws.table s es more (start - 1) bases (omega (arith, low)))
      ∙ ap (λ (text : List ℕ). table_text s es (start - 1) ++ text) (frames_kept es more start count bases within)

  pub are_all : (f : Files) (es more : List Entry) (full : Bool) (start : ℕ) (first : List ℕ) (frames : List (List ℕ)) → HasTable f s es
      → start ≤ suc (length es) → ArePieces (table s (es ++ more)) full start first frames → length frames ≡ count_from start (length es)
      → first ++ joined frames ≡ follow_text s es (Some start) full
  are_all f es more full start first frames stands low are size =
      let end : start + (suc (length es) - start) ≤ suc (length es) = omega (arith, low) in
      (are_first (es ++ more) full start first frames are).text
      ∙ ap (text_so_far s (es ++ more) full start) size
      ∙ kept es more full start (count_from start (length es)) stands.history.bases low end
