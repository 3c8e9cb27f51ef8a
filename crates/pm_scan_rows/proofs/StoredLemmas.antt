-- The rows of files that were read of a run.
use Rattle.std.proofs.Common.{◌≡◌, false, List, [], ◌∷◌, ◌++◌, Option, Some, None, Ok, refl, sym, ap, subst, ◌∙◌, append-nil}
use Rattle.std.specs.Prelude.{IsTrue, is_none}
use Rattle.std.proofs.lemmas.Grind.{flat_map-append}
use Rattle.pm_values.specs.Order.{Values}
use Rattle.pm_values.specs.declared.record.Stamped.{Stamped}
use Rattle.pm_engine.specs.Covers.{Run}
use Rattle.pm_merge.specs.Merging.{whole_rest}
use Rattle.pm_merge.specs.Source.{Fills}
use Rattle.pm_run.specs.Form.{Form}
use Rattle.pm_run.specs.Order.{last_key}
use Rattle.pm_run_bytes.specs.Lying.{GivesFirst}
use Rattle.pm_scan_rows.specs.Stored.{AreGivenFor, IsOfForm, all_of, rows_of}
use Rattle.pm_scan_rows.specs.declared.file.ReadFile.{ReadFile}
use Rattle.pm_scan_rows.specs.declared.written_rows.WrittenRows.{WrittenRows}

-- ---- what is read

-- the rows of one file more
pub all-push : (read : List ReadFile) (file : ReadFile) → all_of (read ++ file ∷ []) ≡ all_of read ++ rows_of file
all-push read file = flat_map-append rows_of read (file ∷ []) ∙ ap (λ (xs : Run). all_of read ++ xs) (append-nil (rows_of file))

last-joined : (before : Option Values) (xs ys : List Stamped) → last_key before (xs ++ ys) ≡ last_key (last_key before xs) ys
last-joined before [] ys = refl
last-joined before (x ∷ xs) ys = last-joined (Some x.key) xs ys

-- and their last key
pub last-push : (read new : List ReadFile) (file : ReadFile) (before last : Option Values) → new ≡ read ++ file ∷ [] → before ≡ last_key None (all_of read)
    → last ≡ last_key before (rows_of file) → last ≡ last_key None (all_of new)
last-push read new file before last pushed is_before is_last =
    is_last ∙ ap (λ (key : Option Values). last_key key (rows_of file)) is_before ∙ sym (last-joined None (all_of read) (rows_of file))
    ∙ ap (last_key None) (sym (ap all_of pushed ∙ all-push read file))

-- ---- what is given

-- a row of the file in hand is the first of all
pub first_of : (own new more : Run) (next : Option Stamped) → is_none next ≡ false → GivesFirst own next new → GivesFirst (own ++ more) next (new ++ more)
first_of own new more None some gives = cc
first_of own new more (Some x) some gives = ap (λ (xs : Run). xs ++ more) gives

-- where it gives none it has none, and has none then
pub none_of : (own new : Run) (next : Option Stamped) → next ≡ None → GivesFirst own next new → (own ≡ []) × (new ≡ [])
none_of own new None none gives = (gives.0, gives.1 ∙ gives.0)
none_of own new (Some x) none gives = cc

-- of files the first that has a row gives it
pub first_in : (files later : List ReadFile) (file : ReadFile) (rows new : Run) (next : Option Stamped) → files ≡ file ∷ later → rows ≡ rows_of file → is_none next ≡ false → GivesFirst rows next new
    → GivesFirst (all_of files) next (new ++ all_of later)
first_in files later file rows new next parts is some gives =
    subst (λ (old : Run). GivesFirst old next (new ++ all_of later)) (ap (λ (xs : Run). xs ++ all_of later) is ∙ ap all_of (sym parts)) (first_of rows new (all_of later) next some gives)

-- so as a source of a merge
pub fills_with : (old new : Run) (next : Option Stamped) (done : Unit {0}) → GivesFirst old next new → Fills (whole_rest old) (Ok done) (whole_rest new) next
fills_with old new None done gives = (gives.0, refl, ap whole_rest gives.1)
fills_with old new (Some x) done gives = (gives, refl)

-- ---- with their bytes

-- a file was opened, whose rows may be of the form
pub opened_for : (f : Form) (before after : WrittenRows) → after.form.now ≡ before.form.now → (IsTrue after.alike → IsOfForm before.form.now after.rows.own) → AreGivenFor f before → AreGivenFor f after
opened_for f before after form known given = record {
  form = form ∙ given.form;
  alike = λ yes. subst (λ (g : Form). IsOfForm g after.rows.own) given.form (known yes);
}
