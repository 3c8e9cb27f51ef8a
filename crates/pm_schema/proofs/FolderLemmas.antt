-- Values of partition columns, one after another.
use Rattle.std.proofs.Common.{◌≡◌, ℕ, ◌+◌, ◌<◌, zero, suc, List, [], ◌∷◌, ◌++◌, length, get_or, drop, Option, None, Some, IsSomeAnd, refl, ap, add-one, arith}
use Rattle.std.proofs.Math.Seq.{drop-cons}
use Rattle.std.specs.List.{AllZip, find}
use Rattle.std.specs.Str.{bytes_eq}
use Rattle.pm_values.specs.Fits.{IsInType}
use Rattle.pm_values.specs.Order.{Values}
use Rattle.pm_values.specs.declared.column.ColType.{ColType}
use Rattle.pm_values.specs.declared.column.ColType.TheVariants as types
use Rattle.pm_values.specs.declared.column.Column.{Column}
use Rattle.pm_values.specs.declared.value.Value.{Value}
use Rattle.pm_values.specs.declared.value.Value.TheVariants as values
use Rattle.pm_schema.specs.Folder.{FitsPart, HasText, part_text, parts_text}

pub zip_len : {A B : Type 0} (R : A → B → Type 0) (xs : List A) (ys : List B) → AllZip R xs ys → length xs ≡ length ys
zip_len R [] [] all = refl
zip_len R [] (y ∷ ys) all = absurd all
zip_len R (x ∷ xs) [] all = absurd all
zip_len R (x ∷ xs) (y ∷ ys) all = ap suc (zip_len R xs ys all.1)

pub zip_at : {A B : Type 0} (R : A → B → Type 0) (xs : List A) (ys : List B) (i : ℕ) (d : A) (e : B) → AllZip R xs ys → i < length xs → R (get_or xs i d) (get_or ys i e)
zip_at R [] ys i d e all within = absurd (omega arith)
zip_at R (x ∷ xs) [] i d e all within = absurd all
zip_at R (x ∷ xs) (y ∷ ys) zero d e all within = all.0
zip_at R (x ∷ xs) (y ∷ ys) (suc i) d e all within = zip_at R xs ys i d e all.1 (omega arith)

null_fits : (kind : ColType) → IsInType kind values.Null → ⊥
null_fits types.Boolean fits = fits
null_fits types.TinyInt fits = fits
null_fits types.SmallInt fits = fits
null_fits types.Int fits = fits
null_fits types.BigInt fits = fits
null_fits types.Text fits = fits
null_fits types.Bytes fits = fits
null_fits types.Date fits = fits
null_fits types.Timestamp fits = fits

HasText-in_type : (kind : ColType) (value : Value) → IsInType kind value → HasText value
HasText-in_type kind values.Null fits = null_fits kind fits
HasText-in_type types.Date (values.Day day) fits = fits
HasText-in_type types.Boolean (values.Day day) fits = absurd fits
HasText-in_type types.TinyInt (values.Day day) fits = absurd fits
HasText-in_type types.SmallInt (values.Day day) fits = absurd fits
HasText-in_type types.Int (values.Day day) fits = absurd fits
HasText-in_type types.BigInt (values.Day day) fits = absurd fits
HasText-in_type types.Text (values.Day day) fits = absurd fits
HasText-in_type types.Bytes (values.Day day) fits = absurd fits
HasText-in_type types.Timestamp (values.Day day) fits = absurd fits
HasText-in_type kind (values.Bool b) fits = tt
HasText-in_type kind (values.Int n) fits = tt
HasText-in_type kind (values.Text text) fits = tt
HasText-in_type kind (values.Bytes bytes) fits = tt
HasText-in_type kind (values.Millis millis) fits = tt

found_fits : (o : Option Column) (value : Value) → IsSomeAnd o (λ c. IsInType c.kind value) → HasText value
found_fits None value fits = absurd fits
found_fits (Some c) value fits = HasText-in_type c.kind value fits

-- values that fit have texts
pub texts_from_fits : (columns : List Column) (names : List (List ℕ)) (vs : Values) → AllZip (FitsPart columns) names vs → AllZip (λ name value. HasText value) names vs
texts_from_fits columns [] [] all = tt
texts_from_fits columns [] (v ∷ vs) all = all
texts_from_fits columns (n ∷ names) [] all = all
texts_from_fits columns (n ∷ names) (v ∷ vs) all = (found_fits (find (λ c. bytes_eq c.name n) columns) v all.0, texts_from_fits columns names vs all.1)

-- one more part
pub parts_text-next : (names : List (List ℕ)) (vs : Values) (i : ℕ) (name : List ℕ) (v : Value) → i < length names → i < length vs → name ≡ get_or names i name → v ≡ get_or vs i v
    → parts_text (drop i names) (drop i vs) ≡ part_text name v ++ parts_text (drop (i + 1) names) (drop (i + 1) vs)
parts_text-next names vs i name v here there is was =
    rw (add-one, drop-cons names i name, drop-cons vs i v, ← is, ← was) refl
