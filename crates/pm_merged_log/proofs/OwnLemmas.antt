-- Rows that are read of a file have their own keys beside them.
use Rattle.std.proofs.Common.{◌≡◌, ℕ, List, [], ◌∷◌, Bool, true, false, Option, Some, Result, Ok, Err, refl, subst}
use Rattle.std.specs.Prelude.{if◌then◌else◌}
use Rattle.pm_base.specs.Outcome.{◌>>=◌}
use Rattle.pm_base.proofs.Laws.{step_ok}
use Rattle.pm_avro_data.specs.Datum.{Data}
use Rattle.pm_avro_file.specs.Reader.{Reader}
use Rattle.pm_model_history.specs.Merge.{key_of}
use Rattle.pm_model_history.specs.Merged.{primary_of}
use Rattle.pm_record.specs.Record.{selected}
use Rattle.pm_record.specs.declared.misfit.Misfit.{Misfit}
use Rattle.pm_record.specs.declared.misfit.Misfit.TheVariants.{Bad}
use Rattle.pm_schema.specs.declared.schema.TableSchema.{TableSchema}
use Rattle.pm_values.specs.Order.{Values}
use Rattle.pm_values.specs.declared.kind.Kind.{Kind}
use Rattle.pm_values.specs.declared.record.Stamped.{Stamped}
use Rattle.pm_values.specs.declared.refusal.Refusal.{Refusal}
use Rattle.pm_run.specs.declared.slot.Slot.{Slot}
use Rattle.pm_run.specs.Form.{Form, form_of, row_fields}
use Rattle.pm_run.specs.Kinds.{slots_of}
use Rattle.pm_run.specs.Order.{following, may_follow}
use Rattle.pm_run.specs.Row.{agreed, kind_in, row_in, row_kind, row_of, sequence_in, values_in}
use Rattle.pm_run.specs.Rows.{Follow, Judged, all_placed, judged, next_row, opened_with, then_judged}
use Rattle.pm_run.specs.Taking.{first_read, found}
use Rattle.pm_merged_log.specs.Merged.{HaveOwnKeys}

abbrev IsOwn : List ℕ → Stamped → Type 0
IsOwn primary x = x.key ≡ key_of primary x.row

-- ---- a row, step by step

abbrev made : Form → ℕ → Values → Kind → Result Stamped Misfit
made f seq row kept = Ok (record { key = key_of f.primary row; seq = seq; kind = kept; row = row })

abbrev after_own : Form → Bool → ℕ → Kind → Values → Values → Result Stamped Misfit
after_own f changes seq kind row own = row_kind changes f.engine kind >>= made f seq row

abbrev after_keys : Form → Bool → ℕ → Kind → Values → Values × List Data → Result Stamped Misfit
after_keys f changes seq kind row key = agreed f.places row key.0 >>= after_own f changes seq kind row

abbrev after_row : Form → Bool → List Slot → ℕ → Kind → Values × List Data → Result Stamped Misfit
after_row f changes keys seq kind row = values_in keys row.1 >>= after_keys f changes seq kind row.0

abbrev after_kind : Form → Bool → List Slot → List Slot → ℕ → Kind × List Data → Result Stamped Misfit
after_kind f changes columns keys seq kind = values_in columns kind.1 >>= after_row f changes keys seq kind.0

abbrev after_sequence : Form → Bool → List Slot → List Slot → ℕ × List Data → Result Stamped Misfit
after_sequence f changes columns keys seq = first_read kind_in seq.1 >>= after_kind f changes columns keys seq.0

made_own : (f : Form) (seq : ℕ) (row : Values) (kept : Kind) (x : Stamped) → made f seq row kept ≡ Ok x → IsOwn f.primary x
made_own f seq row kept x is =
    let y : Stamped = record { key = key_of f.primary row; seq = seq; kind = kept; row = row } in
    subst (IsOwn f.primary) (same y is) refl
  where
    same : (y : Stamped) → ◌≡◌ {A = Result Stamped Misfit} (Ok y) (Ok x) → y ≡ x
    same y is = cc

row_own : (f : Form) (changes : Bool) (columns keys : List Slot) (ds : List Data) (x : Stamped) → row_of f changes columns keys ds ≡ Ok x → IsOwn f.primary x
row_own f changes columns keys ds x is =
    let seq = step_ok (first_read (sequence_in changes) ds) (after_sequence f changes columns keys) x is in
    let kind = step_ok (first_read kind_in seq.0.1) (after_kind f changes columns keys seq.0.0) x seq.2 in
    let row = step_ok (values_in columns kind.0.1) (after_row f changes keys seq.0.0 kind.0.0) x kind.2 in
    let key = step_ok (values_in keys row.0.1) (after_keys f changes seq.0.0 kind.0.0 row.0.0) x row.2 in
    let own = step_ok (agreed f.places row.0.0 key.0.0) (after_own f changes seq.0.0 kind.0.0 row.0.0) x key.2 in
    let kept = step_ok (row_kind changes f.engine kind.0.0) (made f seq.0.0 row.0.0) x own.2 in
    made_own f seq.0.0 row.0.0 kept.0 x kept.2

follows_as : (changes : Bool) (before : Option Values) (y x : Stamped) → following changes before y ≡ Ok x → y ≡ x
follows_as changes before y x is = by_test (may_follow changes before y.key) is
  where
    by_test : (b : Bool) → (if b then Ok y else Err Bad) ≡ Ok x → y ≡ x
    by_test true is = cc
    by_test false is = cc

-- ---- all rows of a file

module _ (s : TableSchema) (changes : Bool) (path : List ℕ) (r : Reader) where
  next_own : (before : Option Values) (d : Data) (x : Stamped) → next_row (opened_with s changes path r) before d ≡ Ok x → IsOwn (primary_of s) x
  next_own before d x is =
      let f = form_of s in
      let row = step_ok (row_in f changes r.kind d) (following changes before) x is in
      let read = step_ok (found (selected (row_fields f) r.kind d)) (row_of f changes (slots_of r.kind f.columns) (slots_of r.kind f.keys)) row.0 row.1 in
      subst (IsOwn (primary_of s)) (follows_as changes before row.0 x row.2) (row_own f changes (slots_of r.kind f.columns) (slots_of r.kind f.keys) read.0 row.0 read.2)

  judged_own : (ps : List (ℕ × Data)) (before : Option Values) → HaveOwnKeys s (judged (opened_with s changes path r) before ps).rows
  judged_own [] before = tt
  judged_own (p ∷ ps) before =
      by_row (next_row (opened_with s changes path r) before p.1) (λ (x : Stamped). judged (opened_with s changes path r) (Some x.key) ps)
      (λ x is. next_own before p.1 x is) (λ x. judged_own ps (Some x.key))
    where
      by_row : (q : Result Stamped Misfit) (later : Stamped → Judged) → ((x : Stamped) → q ≡ Ok x → IsOwn (primary_of s) x) → ((x : Stamped) → HaveOwnKeys s (later x).rows)
          → HaveOwnKeys s (then_judged path p.0 q later).rows
      by_row (Ok x) later here more = (here x refl, more x)
      by_row (Err misfit) later here more = tt

  pub follow_own : (offset : ℕ) (before : Option Values) (rows : List Stamped) (end : Option Refusal) → Follow (opened_with s changes path r) offset before rows end → HaveOwnKeys s rows
  follow_own offset before rows end f = subst (HaveOwnKeys s) f.same (judged_own (all_placed f.blocks) before)
