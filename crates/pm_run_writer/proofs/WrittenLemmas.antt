-- The file in hand of a run that is written row by row.
use Rattle.std.proofs.Common.{◌≡◌, ℕ, ◌<◌, true, List, [], ◌∷◌, ◌++◌, Option, None, Some, option_map, sym, ap, subst, ◌∙◌, arith}
use Rattle.std.specs.List.{last_or}
use Rattle.std.proofs.lemmas.List.{length-append, map_push}
use Rattle.pm_base.proofs.Laws.{last_or-push}
use Rattle.pm_record.specs.Record.{all_differ}
use Rattle.pm_schema.specs.declared.schema.TableSchema.{TableSchema}
use Rattle.pm_values.specs.Names.{Naming, name_of}
use Rattle.pm_values.specs.declared.record.Stamped.{Stamped}
use Rattle.pm_run.specs.declared.run.RunFile.{RunFile}
use Rattle.pm_run.specs.Form.{Form, form_of, written_fields}
use Rattle.pm_run.specs.Order.{keys_of}
use Rattle.pm_run.specs.Writing.{IsFileWith, data_prefix, suffix}
use Rattle.pm_run_writer.specs.Begun.{HasBegun}
use Rattle.pm_run_writer.specs.Summary.{IsSummary}
use Rattle.pm_run_writer.specs.Written.{HasEnded, HasInHand, IsLastOf, IsWriterOf}
use Rattle.pm_run_writer.specs.declared.run_writer.RunWriter.{RunWriter}

-- the last of rows with one more
last_is_new : (rows : List Stamped) (x : Stamped) (last : Option Stamped) → last ≡ Some x → IsLastOf (rows ++ x ∷ []) last
last_is_new rows x last is =
    ap (option_map (λ (y : Stamped). y.key)) is
    ∙ sym (ap (last_or None) (map_push (λ (y : Stamped). y.key) rows x) ∙ last_or-push None (keys_of rows) x.key)

module _ (s : TableSchema) (limit level : ℕ) (marker : List ℕ) where
  -- no row is in hand
  pub in_hand_none : (w : RunWriter) → IsWriterOf s w.writer → all_differ (written_fields w.writer.form) ≡ true → w.limit ≡ limit → w.level ≡ level → HasBegun (form_of s) marker [] w.file
      → IsSummary [] w.summary → w.last.value.slot ≡ None → HasInHand s limit level marker [] w
  in_hand_none w writer differ limited levelled begun summary last = record {
    writer = writer;
    names = subst (λ (f : Form). all_differ (written_fields f) ≡ true) writer.form differ;
    limited = limited;
    levelled = levelled;
    begun = begun;
    summary = summary;
    within = omega arith;
    last = ap (option_map (λ (y : Stamped). y.key)) last;
  }

  module _ (rows : List Stamped) (before : RunWriter) (h : HasInHand s limit level marker rows before) where
    -- one row more, where there is room
    pub in_hand_more : (x : Stamped) (after : RunWriter) → before.summary.count < before.limit → after.writer ≡ before.writer → after.limit ≡ before.limit → after.level ≡ before.level
        → ((some : List Stamped) → HasBegun before.writer.form marker some before.file → HasBegun before.writer.form marker (some ++ x ∷ []) after.file)
        → ((some : List Stamped) → IsSummary some before.summary → IsSummary (some ++ x ∷ []) after.summary) → after.last.value.slot ≡ Some x
        → HasInHand s limit level marker (rows ++ x ∷ []) after
    in_hand_more x after room writer limited levelled begun summary last = record {
      writer = subst (IsWriterOf s) (sym writer) h.writer;
      names = h.names;
      limited = limited ∙ h.limited;
      levelled = levelled ∙ h.levelled;
      begun =
          let old : HasBegun before.writer.form marker rows before.file = subst (λ (f : Form). HasBegun f marker rows before.file) (sym h.writer.form) h.begun in
          subst (λ (f : Form). HasBegun f marker (rows ++ x ∷ []) after.file) h.writer.form (begun rows old);
      summary = summary rows h.summary;
      within =
          let longer = length-append rows (x ∷ []) in
          let count = h.summary.count in
          let most = h.limited in
          omega arith;
      last = last_is_new rows x after.last.value.slot last;
    }

-- the file in hand was ended
pub ended : (s : TableSchema) (limit level : ℕ) (names : Naming) (rows : List Stamped) (before : RunWriter) → HasInHand s limit level names.session rows before → (f : RunFile)
    → (HasBegun (form_of s) names.session rows before.file → IsSummary rows before.summary → IsLastOf rows before.last.value.slot → IsFileWith s before.level names.session (name_of data_prefix suffix names) rows f)
    → (after : RunWriter) → after.writer ≡ before.writer → after.limit ≡ before.limit → after.level ≡ before.level → HasBegun (form_of s) names.session [] after.file → IsSummary [] after.summary
    → after.last.value.slot ≡ None → HasEnded s limit level names rows f after
ended s limit level names rows before h f is after writer limited levelled begun summary last = record {
  file = subst (λ (n : ℕ). IsFileWith s n names.session (name_of data_prefix suffix names) rows f) h.levelled (is h.begun h.summary h.last);
  none = in_hand_none s limit level names.session after (subst (IsWriterOf s) (sym writer) h.writer)
      (subst (λ (g : Form). all_differ (written_fields g) ≡ true) (sym (ap (λ w. w.form) writer ∙ h.writer.form)) h.names) (limited ∙ h.limited) (levelled ∙ h.levelled) begun summary last;
}
