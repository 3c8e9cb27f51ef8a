-- Rows that are found in a file block by block, and what opening it answers.
use Rattle.std.proofs.Common.{◌≡◌, ℕ, ◌<◌, ◌≤◌, List, [], ◌∷◌, length, Bool, false, Option, None, Some, Ok, inl, inr, refl, sym, ap, subst, ◌∙◌}
use Rattle.std.specs.Vec.Iter.{into_iter_items}
use Rattle.pm_values.specs.Order.{Values}
use Rattle.pm_values.specs.declared.record.Stamped.{Stamped}
use Rattle.pm_values.specs.declared.refusal.Refusal.{Refusal}
use Rattle.pm_values.specs.declared.refusal.Refusal.TheVariants.{Damaged}
use Rattle.pm_schema.specs.declared.schema.TableSchema.{TableSchema}
use Rattle.pm_avro_file.specs.Reader.{Reader, Opens}
use Rattle.pm_record.specs.File.{IsMemoryOr}
use Rattle.pm_record.proofs.Facts.{block_moves}
use Rattle.pm_run_reader.specs.declared.reader.Found.{Found}
use Rattle.pm_run_form.specs.declared.rows_read.RowsRead.{RowsRead}
use Rattle.pm_run_reader.specs.Finding.{FindsRows, after_first}
use Rattle.pm_run_bytes.specs.Block.{ReadsBlock}
use Rattle.pm_run.specs.Form.{form_of}
use Rattle.pm_run.specs.Kinds.{has_row_fields}
use Rattle.pm_run.specs.Order.{last_key}
use Rattle.pm_run.specs.Reader.{RefusesRun, RunView, StillGives}
use Rattle.pm_run.specs.Rows.{Follow, Judged, Opened}
use Rattle.pm_run.proofs.FollowLemmas.{follow_empty, follow_first, follow_refused, still_later}

-- ---- blocks

judged_as : (xs ys : List Stamped) (p q : Option Refusal) → xs ≡ ys → p ≡ q → ◌≡◌ {A = Judged} (record { rows = xs; refusal = p }) (record { rows = ys; refusal = q })
judged_as xs ys p q a b = rw (a, b) refl

module _ (o : Opened) (offset : ℕ) (before : Option Values) (found : RowsRead × ℕ) (read : ReadsBlock o offset before (Ok (Some found))) where
  -- the offset after a block is greater, and within the file
  pub read_further : (offset < found.1) × (found.1 ≤ length o.file.bytes)
  read_further = (block_moves o.file.kind o.file.marker o.file.bytes offset read.0 found.1 read.1, read.1.within)

  -- a block without a row, of which nothing is refused
  pub read_empty : found.0.rows.items ≡ [] → found.0.refusal ≡ None → (rows : List Stamped) (end : Option Refusal) → Follow o found.1 before rows end → Follow o offset before rows end
  read_empty none nothing rows end f =
      follow_empty o offset before read.0 found.1 read.1 rows end (read.2 ∙ judged_as found.0.rows.items [] found.0.refusal None none nothing) f

  -- a block whose first row is refused
  pub read_refused_first : (e : Refusal) → found.0.rows.items ≡ [] → found.0.refusal ≡ Some e → Follow o offset before [] (Some e)
  read_refused_first e none refused =
      follow_refused o offset before read.0 found.1 read.1 [] e (read.2 ∙ judged_as found.0.rows.items [] found.0.refusal (Some e) none refused)

  -- a block with a row, and what a reader gives after it
  pub read_first : (f : Found) → found.0.rows.items ≡ f.first ∷ into_iter_items f.later → f.refusal ≡ found.0.refusal → f.last ≡ last_key None found.0.rows.items → f.next ≡ found.1
      → (rows : List Stamped) (end : Option Refusal) → StillGives (after_first o f) rows end → Follow o offset before (f.first ∷ rows) end
  read_first f items refusal last next rows end g =
      follow_first o offset before read.0 found.1 read.1 f.first (after_first o f) f.refusal refl next (last ∙ ap (last_key None) items)
      (read.2 ∙ judged_as found.0.rows.items (f.first ∷ into_iter_items f.later) found.0.refusal f.refusal items (sym refusal)) rows end g

-- what a reader gives that has found rows after the block in hand
pub next_found : (v : RunView) (f : Found) (over : Bool) → v.left ≡ [] → v.refusal ≡ None → over ≡ false → FindsRows v.opened v.next v.last (Ok (Some f)) → (rows : List Stamped) (end : Option Refusal)
    → StillGives (record { opened = v.opened; left = into_iter_items f.later; refusal = f.refusal; last = f.last; next = f.next; over = over }) rows end → StillGives v (f.first ∷ rows) end
next_found v f over left refusal begun found rows end g =
    let view : Bool → RunView = λ b. record { opened = v.opened; left = into_iter_items f.later; refusal = f.refusal; last = f.last; next = f.next; over = b } in
    let after : StillGives (after_first v.opened f) rows end = subst (λ (b : Bool). StillGives (view b) rows end) begun g in
    still_later v left refusal (f.first ∷ rows) end (found.1 rows end after)

-- ---- opening

-- an opened file that lacks a field is refused
pub lacking_refused : (s : TableSchema) (id : ℕ) (path bytes : List ℕ) (e : Refusal) (r : Reader) → IsMemoryOr (Damaged path 0) e → id ≡ s.id → Opens bytes (Ok r)
    → has_row_fields (form_of s) r.kind ≡ false → RefusesRun s id path bytes e
lacking_refused s id path bytes e r (inl memory) same opens lacks = subst (RefusesRun s id path bytes) (sym memory) tt
lacking_refused s id path bytes e r (inr damaged) same opens lacks = subst (RefusesRun s id path bytes) (sym damaged) (inr (same, inr (r, opens, lacks, refl)))
