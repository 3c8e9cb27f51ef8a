-- The rows of a judged file lie in its bytes.
use Rattle.std.proofs.Common.{◌≡◌, ℕ, Bool, List, [], ◌∷◌, ◌++◌, length, pos, drop, Option, Some, Ok, refl, sym, ap, subst, ◌∙◌, arith}
use mathlib.Core.Logic.{∥∥₁_elim, ∥∥₁_map}
use Rattle.pm_base.proofs.Laws.{step_ok}
use Rattle.pm_avro_schema.specs.Avro.{Avro}
use Rattle.pm_avro_data.specs.Datum.{Data}
use Rattle.pm_avro_data.specs.IsDatum.{AreItems, IsDatum}
use Rattle.pm_avro_data.specs.Number.{IsLong}
use Rattle.pm_avro_file.specs.Reader.{HasBlock}
use Rattle.pm_values.specs.Order.{Values}
use Rattle.pm_values.specs.declared.record.Stamped.{Stamped}
use Rattle.pm_run_bytes.specs.declared.direct.Direct.{Direct}
use Rattle.pm_run_bytes.specs.Direct.{HasContent, IsDirect, IsRow}
use Rattle.pm_run_bytes.specs.Known.{LieAt, LieRows}
use Rattle.pm_run.specs.Form.{Form}
use Rattle.pm_run_reader.specs.Judged.{HasOnly}
use Rattle.pm_run.specs.Order.{following}
use Rattle.pm_run.specs.Row.{row_in}
use Rattle.pm_run.specs.Rows.{Judged, Opened, all_judged, judged, next_row, placed}
use Rattle.pm_run.proofs.FollowLemmas.{first_judged}
use Rattle.pm_run.proofs.OneLemmas.{following_same}

module _ (o : Opened) (d : Direct) (direct : IsDirect d o.form o.file) where
  -- a datum that is the next row is that row where it lies
  row_lies : (before : Option Values) (e : Data) (x : Stamped) (source rest : List ℕ) → IsDatum o.file.kind e source rest → next_row o before e ≡ Ok x → IsRow o.form o.changes x source rest
  row_lies before e x source rest datum next = λ t written.
      let p = step_ok (row_in o.form o.changes o.file.kind e) (following o.changes before) x next in
      let same : p.0 ≡ x = following_same o.changes before p.0 x p.2 in
      let read : row_in o.form o.changes o.file.kind e ≡ Ok x = p.1 ∙ ap (λ (y : Stamped). Ok y) same in
      let kind : o.file.kind ≡ t = direct.written.kind ∙ sym written.kind in
      (e, subst (λ (u : Avro). IsDatum u e source rest) kind datum, subst (λ (u : Avro). row_in o.form o.changes u e ≡ Ok x) kind read)

  -- of data of which none is refused the rows lie where the data do
  pub rows_lie : (offset : ℕ) (ds : List Data) (source : List ℕ) → AreItems (IsDatum o.file.kind) ds source [] → (before : Option Values) (rows : List Stamped)
      → judged o before (placed offset ds) ≡ all_judged rows → LieRows o.form o.changes rows source [] × (length rows ≡ length ds)
  rows_lie offset [] source items before rows is =
      subst (λ (xs : List Stamped). LieRows o.form o.changes xs source [] × (length xs ≡ 0)) (ap (λ (j : Judged). j.rows) is) (items, refl)
  rows_lie offset (e ∷ ds) source (middle, datum, items) before rows is =
      let f = first_judged o.path offset (λ (y : Stamped). judged o (Some y.key) (placed offset ds)) rows (next_row o before e) is in
      let p = rows_lie offset ds middle items (Some f.first.key) f.more f.rest in
      subst (λ (xs : List Stamped). LieRows o.form o.changes xs source [] × (length xs ≡ length (e ∷ ds))) (sym f.same)
      ((middle, row_lies before e f.first source middle datum f.read, p.0), omega (arith, p.1))

  -- a block of as many data has this content
  pub block_content : (offset : ℕ) (ds : List Data) (next count : ℕ) → count ≡ length ds → (b : HasBlock o.file.kind o.file.marker o.file.bytes offset ds next)
      → HasContent d o.file.bytes offset count b.block.content next
  block_content offset ds next count many b = record {
    middle = b.block.middle;
    left = b.block.left;
    within = b.within;
    counted = subst (λ n. IsLong (pos n) (drop offset o.file.bytes) b.block.middle) (sym many) b.block.count;
    sized = b.block.size;
    fits = omega (arith, many, b.block.within);
    marked = b.block.marked ∙ ap (λ (m : List ℕ). b.block.content ++ (m ++ drop next o.file.bytes)) (sym direct.marker);
  }

module _ (o : Opened) (d : Direct) (bytes : List ℕ) (f : Form) (changes : Bool) (next : ℕ) (same : bytes ≡ o.file.bytes) (form : f ≡ o.form) (kinds : changes ≡ o.changes) (first : next ≡ o.file.first) where
  only_lies : (rows : List Stamped) → HasOnly o d rows → LieAt d bytes f changes next rows
  only_lies rows h = rw (same, form, kinds, first) h.lie

  -- the rows of a judged file lie in its bytes, from the first block on
  pub known_lies : (p : (rows : List Stamped) × ∥ HasOnly o d rows ∥₁) → (rows : List Stamped) × ∥ LieAt d bytes f changes next rows ∥₁
  known_lies p = (p.0, ∥∥₁_map p.1 (only_lies p.0))

  -- so what is given of them is these rows
  pub given_known : IsSet (List Stamped) → (given rows : List Stamped) → ∥ HasOnly o d rows ∥₁ → ((others : List Stamped) → LieAt d bytes f changes next others → given ≡ others) → given ≡ rows
  given_known set given rows has is = ∥∥₁_elim has (set given rows) (λ h. is rows (only_lies rows h))
