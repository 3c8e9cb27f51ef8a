-- Columns that are read one after another.
use Rattle.std.proofs.Common.{◌≡◌, ℕ, ◌+◌, ◌<◌, ◌≤◌, List, [], ◌∷◌, ◌++◌, length, get_or, drop, Option, None, Some, Result, Ok, Err, Bor, refl, sym, ap, subst, ◌∙◌, append_assoc, add-one}
use Rattle.std.proofs.Math.Seq.{drop-cons}
use Rattle.std.proofs.lemmas.List.{drop_all}
use Rattle.pm_base.specs.Outcome.{◌>>=◌, Fails}
use Rattle.pm_values.specs.declared.column.Column.{Column}
use Rattle.pm_values.specs.declared.refusal.Refusal.{Refusal}
use Rattle.pm_schema.specs.ColumnType.{Field, column_in, columns_in, fields_views}

-- what is read, after the columns so far
abbrev pub after_columns : List Column → Result (List Column) Refusal → Result (List Column) Refusal
after_columns front r = r >>= λ more. Ok (front ++ more)

after_columns-push : (front : List Column) (c : Column) (r : Result (List Column) Refusal) → after_columns front (r >>= λ more. Ok (c ∷ more)) ≡ after_columns (front ++ c ∷ []) r
after_columns-push front c (Ok more) = ap Ok (sym (append_assoc front (c ∷ []) more))
after_columns-push front c (Err e) = refl

append-nothing : {A : Type 0} (xs : List A) → xs ++ [] ≡ xs
append-nothing [] = refl
append-nothing (x ∷ xs) = ap (λ ys. x ∷ ys) (append-nothing xs)

abbrev pub Borrowed : Type 0
Borrowed = ℕ × Bor (List ℕ) × Bor (List ℕ)

abbrev pub field_view : Borrowed → Field
field_view f = (f.0, f.1.now, f.2.now)

next_field : (fields : List Borrowed) (i : ℕ) (d : Borrowed) → i < length fields → fields_views (drop i fields) ≡ field_view (get_or fields i d) ∷ fields_views (drop (i + 1) fields)
next_field fields i d within =
    let cut : drop i fields ≡ get_or fields i d ∷ drop (i + 1) fields = rw (add-one, drop-cons fields i d) refl in
    ap fields_views cut

-- a field that is read
pub columns_in-next : (required : List (List ℕ)) (front : List Column) (fields : List Borrowed) (i : ℕ) (d : Borrowed) (c : Column) (whole : Result (List Column) Refusal) → i < length fields
    → column_in required (field_view (get_or fields i d)) ≡ Ok c → after_columns front (columns_in required (fields_views (drop i fields))) ≡ whole
    → after_columns (front ++ c ∷ []) (columns_in required (fields_views (drop (i + 1) fields))) ≡ whole
columns_in-next required front fields i d c whole within reads before =
    let rest = columns_in required (fields_views (drop (i + 1) fields)) in
    sym (after_columns-push front c rest)
    ∙ sym (ap (λ r. after_columns front (r >>= λ x. rest >>= λ more. Ok (x ∷ more))) reads)
    ∙ sym (ap (λ fs. after_columns front (columns_in required fs)) (next_field fields i d within)) ∙ before

failed : (front : List Column) (o : Option Refusal) (r : Result Column Refusal) (rest : Result (List Column) Refusal) → Fails o r → Fails o (after_columns front (r >>= λ x. rest >>= λ more. Ok (x ∷ more)))
failed front None r rest fails = tt
failed front (Some e) r rest fails = ap (λ q. after_columns front (q >>= λ x. rest >>= λ more. Ok (x ∷ more))) fails

-- a field that isn't
pub columns_in-failed : (required : List (List ℕ)) (front : List Column) (fields : List Borrowed) (i : ℕ) (d : Borrowed) (o : Option Refusal) (whole : Result (List Column) Refusal) → i < length fields
    → Fails o (column_in required (field_view (get_or fields i d))) → after_columns front (columns_in required (fields_views (drop i fields))) ≡ whole → Fails o whole
columns_in-failed required front fields i d o whole within fails before =
    let rest = columns_in required (fields_views (drop (i + 1) fields)) in
    let here = failed front o (column_in required (field_view (get_or fields i d))) rest fails in
    subst (λ r. Fails o r) (sym (ap (λ fs. after_columns front (columns_in required fs)) (next_field fields i d within)) ∙ before) here

-- all fields
pub columns_in-end : (required : List (List ℕ)) (front : List Column) (fields : List Borrowed) (i : ℕ) (whole : Result (List Column) Refusal) → length fields ≤ i
    → after_columns front (columns_in required (fields_views (drop i fields))) ≡ whole → whole ≡ Ok front
columns_in-end required front fields i whole past before =
    sym before ∙ ap (λ fs. after_columns front (columns_in required (fields_views fs))) (drop_all i fields past) ∙ ap Ok (append-nothing front)
