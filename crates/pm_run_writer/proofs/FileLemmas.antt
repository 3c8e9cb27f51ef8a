-- What is written of rows is read as the same: a file, and the files of a run.
use Rattle.std.proofs.Common.{◌≡◌, ℕ, zero, suc, ◌≤◌, Bool, true, false, List, [], ◌∷◌, length, map, take, drop, Option, None, Some, Ok, refl, sym, ap, subst, ◌∙◌, arith}
use Rattle.std.specs.Prelude.{◌↔◌}
use Rattle.std.specs.List.{AllByRecursion}
use Rattle.std.proofs.lemmas.List.{map-append, take-append-drop}
use Rattle.pm_base.proofs.Laws.{AllByRecursion-parts}
use Rattle.pm_avro_schema.specs.Avro.{Avro}
use Rattle.pm_avro_data.specs.Datum.{Data}
use Rattle.pm_avro_file.specs.Container.{IsContainer}
use Rattle.pm_avro_file.specs.Reader.{Reader, Opens, Leads}
use Rattle.pm_record.specs.File.{IsFileOf, joined}
use Rattle.pm_record.specs.Record.{all_differ}
use Rattle.pm_schema.specs.declared.schema.TableSchema.{TableSchema}
use Rattle.pm_values.specs.Names.{Naming, counted}
use Rattle.pm_values.specs.Order.{Values}
use Rattle.pm_values.specs.declared.record.Stamped.{Stamped}
use Rattle.pm_run.specs.declared.run.RunFile.{RunFile}
use Rattle.pm_run.specs.Form.{form_of, written_fields}
use Rattle.pm_run.specs.Kinds.{has_row_fields, run_type}
use Rattle.pm_run.specs.Order.{are_in_order}
use Rattle.pm_run.specs.Row.{IsOfFile, row_data, row_in}
use Rattle.pm_run.specs.Rows.{Blocks, Ends, HasRows, Judged, LeadTo, Opened, all_judged, all_placed, judged, opened_with, placed}
use Rattle.pm_run.specs.Typed.{IsWritable}
use Rattle.pm_run.specs.Writing.{AreFilesOf, HasOwnKey, HaveRows, bytes_of}
use Rattle.pm_run.proofs.OrderLemmas.{in_order-first, in_order-parts}
use Rattle.pm_run_form.proofs.AgainLemmas.{row_read, run_has}

-- ---- a file

abbrev datum_of : ℕ × Data → Data
datum_of p = p.1

data_placed : (offset : ℕ) (ds : List Data) → map datum_of (placed offset ds) ≡ ds
data_placed offset [] = refl
data_placed offset (d ∷ ds) = ap (λ (es : List Data). d ∷ es) (data_placed offset ds)

-- the data of blocks, without their offsets
data_all_placed : (blocks : Blocks) → map datum_of (all_placed blocks) ≡ joined (map (λ (b : ℕ × List Data). b.1) blocks)
data_all_placed [] = refl
data_all_placed (b ∷ blocks) =
    map-append datum_of (placed b.0 b.1) (all_placed blocks) ∙ rw (data_placed b.0 b.1, data_all_placed blocks) refl

-- blocks that lead on, with their offsets
placed_blocks : (r : Reader) (offset : ℕ) (blocks : List (List Data)) (last : ℕ) → Leads r offset blocks last
    → (bs : Blocks) × LeadTo r offset bs last × (map (λ (b : ℕ × List Data). b.1) bs ≡ blocks)
placed_blocks r offset [] last leads = ([], leads, refl)
placed_blocks r offset (ds ∷ blocks) last leads =
    let later = placed_blocks r leads.0 blocks last leads.2 in
    ((offset, ds) ∷ later.0, (refl, leads.0, leads.1, later.1), ap (λ (ks : List (List Data)). ds ∷ ks) later.2)

-- `whole_file_law`
abbrev pub WholeFile : Type 0
WholeFile = (t : Avro) (blocks : List (List Data)) (marker bytes : List ℕ) → IsContainer t blocks marker bytes
    ↔ ((r : Reader) × Opens bytes (Ok r) × (r.kind ≡ t) × (r.marker ≡ marker) × Leads r r.first blocks (length bytes))

-- data that are each read as a row are judged to be these rows
all_read_back : (o : Opened) (before : Option Values) (ps : List (ℕ × Data)) (rows : List Stamped) → map datum_of ps ≡ map (row_data o.form) rows
    → AllByRecursion (λ (x : Stamped). row_in o.form o.changes o.file.kind (row_data o.form x) ≡ Ok x) rows → are_in_order o.changes before rows ≡ true
    → judged o before ps ≡ all_judged rows
all_read_back o before [] [] same each order = refl
all_read_back o before [] (x ∷ rows) same each order = let no : [] ≡ row_data o.form x ∷ map (row_data o.form) rows = same in cc
all_read_back o before (p ∷ ps) [] same each order = let no : datum_of p ∷ map datum_of ps ≡ [] = same in cc
all_read_back o before (p ∷ ps) (x ∷ rows) same each order =
    let whole : datum_of p ∷ map datum_of ps ≡ row_data o.form x ∷ map (row_data o.form) rows = same in
    let first : p.1 ≡ row_data o.form x = cc in
    let more : map datum_of ps ≡ map (row_data o.form) rows = cc in
    let follows = in_order-first o.changes before x rows order in
    rw (first, each.0, follows.0, all_read_back o (Some x.key) ps rows more each.1 follows.1) refl

module _ (s : TableSchema) (differ : all_differ (written_fields (form_of s)) ≡ true) (changes : Bool) where
  rows_read : (rows : List Stamped) → AllByRecursion (IsWritable (form_of s)) rows → AllByRecursion (IsOfFile s changes) rows
      → AllByRecursion (λ (x : Stamped). row_in (form_of s) changes (run_type (form_of s)) (row_data (form_of s) x) ≡ Ok x) rows
  rows_read [] writable each = tt
  rows_read (x ∷ rows) writable each = (row_read s differ changes x writable.0 each.0, rows_read rows writable.1 each.1)

  some_has : (rows : List Stamped) → 1 ≤ length rows → AllByRecursion (IsWritable (form_of s)) rows → has_row_fields (form_of s) (run_type (form_of s)) ≡ true
  some_has [] some writable = absurd (omega arith)
  some_has (x ∷ rows) some writable = run_has (form_of s) x writable.0

  -- a file of rows that it can have is read as these rows
  pub file_back : WholeFile → (marker bytes : List ℕ) (rows : List Stamped) → 1 ≤ length rows → AllByRecursion (IsWritable (form_of s)) rows → AllByRecursion (IsOfFile s changes) rows
      → are_in_order changes None rows ≡ true → IsFileOf (run_type (form_of s)) 1024 (map (row_data (form_of s)) rows) marker bytes → HasRows s changes bytes rows
  file_back whole marker bytes rows some writable each order file =
      let t = run_type (form_of s) in
      let w = (whole t file.blocks marker bytes).0 file.container in
      let r = w.0 in
      let opened : Opens bytes (Ok r) = w.1 in
      let leads : Leads r r.first file.blocks (length r.bytes) = subst (λ (n : ℕ). Leads r r.first file.blocks n) (ap length (sym opened.same)) w.4 in
      let p = placed_blocks r r.first file.blocks (length r.bytes) leads in
      let whole_data : map datum_of (all_placed p.0) ≡ map (row_data (form_of s)) rows = data_all_placed p.0 ∙ ap joined p.2 ∙ file.same in
      let has : has_row_fields (form_of s) r.kind ≡ true = ap (has_row_fields (form_of s)) w.2 ∙ some_has rows some writable in
      let every = subst (λ (u : Avro). AllByRecursion (λ (x : Stamped). row_in (form_of s) changes u (row_data (form_of s) x) ≡ Ok x) rows) (sym w.2) (rows_read rows writable each) in (
        r,
        opened,
        has,
        λ path.
            let o : Opened = opened_with s changes path r in
            let j : judged o None (all_placed p.0) ≡ all_judged rows = all_read_back o None (all_placed p.0) rows whole_data every order in
            record {
              blocks = p.0;
              last = length r.bytes;
              lead = p.1;
              same = ap (λ (q : Judged). q.rows) j;
              ends = subst (λ (q : Judged). Ends o (length r.bytes) q.refusal None) (sym j) refl;
            },
      )

-- rows of a changelog that are written are rows that its file can have
pub changes_of : (s : TableSchema) (rows : List Stamped) → AllByRecursion (IsWritable (form_of s)) rows → AllByRecursion (HasOwnKey s) rows → AllByRecursion (IsOfFile s true) rows
changes_of s [] writable each = tt
changes_of s (x ∷ rows) writable each =
    (record { fits = each.0.fits; own = each.0.own; numbered = writable.0.numbered; kept = refl }, changes_of s rows writable.1 each.1)

-- the files of a run of rows that data files can have are read as these rows
module _ (s : TableSchema) (differ : all_differ (written_fields (form_of s)) ≡ true) (whole : WholeFile) (limit level : ℕ) (positive : 1 ≤ limit) where
  pub files_back : (files : List RunFile) (names : Naming) (rows : List Stamped) → AreFilesOf s limit level names rows files → AllByRecursion (IsOfFile s false) rows
      → are_in_order false None rows ≡ true → HaveRows s (bytes_of files) rows
  files_back [] names rows files each order = files
  files_back (f ∷ more) names rows files each order =
      let split = take-append-drop limit rows in
      let parts = AllByRecursion-parts (IsOfFile s false) (take limit rows) (drop limit rows) (subst (AllByRecursion (IsOfFile s false)) (sym split) each) in
      let ordered = in_order-parts false None (take limit rows) (drop limit rows) (subst (λ (xs : List Stamped). are_in_order false None xs ≡ true) (sym split) order) in
      let some : 1 ≤ length (take limit rows) = first_some rows limit files.0 positive in (
        take limit rows,
        drop limit rows,
        sym split,
        file_back s differ false whole names.session f.bytes (take limit rows) some files.1.writable parts.0 ordered.0 files.1.bytes,
        files_back more (counted names) (drop limit rows) files.2 parts.1 ordered.1,
      )
    where
      first_some : (xs : List Stamped) (n : ℕ) → 1 ≤ length xs → 1 ≤ n → 1 ≤ length (take n xs)
      first_some [] n some h = absurd (omega arith)
      first_some (x ∷ xs) zero some h = absurd (omega arith)
      first_some (x ∷ xs) (suc n) some h = omega arith
