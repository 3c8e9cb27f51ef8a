-- Values of columns that stand for those of a partition.
use Rattle.std.proofs.Common.{◌≡◌, ℕ, ◌+◌, ◌<◌, Bool, true, false, List, [], ◌∷◌, ◌++◌, length, take, get_or}
use Rattle.std.proofs.Common.{Option, None, Some, IsSomeAnd, option_map, sym, ap, subst, ◌∙◌}
use Rattle.std.proofs.lemmas.Bool.{false≢true}
use Rattle.std.proofs.lemmas.List.{take_more}
use Rattle.std.specs.List.{AllZip, find}
use Rattle.std.specs.Str.{bytes_eq}
use Rattle.pm_values.specs.Fits.{Fits, FitsColumn, IsInType}
use Rattle.pm_values.specs.Order.{Values}
use Rattle.pm_values.specs.declared.column.ColType.{ColType}
use Rattle.pm_values.specs.declared.column.Column.{Column}
use Rattle.pm_values.specs.declared.value.Value.{Value}
use Rattle.pm_values.specs.declared.value.Value.TheVariants as values
use Rattle.pm_schema.specs.Folder.{FitsPart}
use Rattle.pm_cases_groups.specs.Columns.{StandsFor}

in_type : (c : Column) (v : Value) → c.nullable ≡ false → FitsColumn c v → IsInType c.kind v
in_type c values.Null some fits = absurd (false≢true (sym some ∙ fits))
in_type c (values.Bool b) some fits = fits
in_type c (values.Int n) some fits = fits
in_type c (values.Text t) some fits = fits
in_type c (values.Bytes t) some fits = fits
in_type c (values.Day d) some fits = fits
in_type c (values.Millis n) some fits = fits

fits_part : (o : Option Column) (c : Column) (v : Value) → IsSomeAnd o (λ d. d.kind ≡ c.kind) → c.nullable ≡ false
    → FitsColumn c v → IsSomeAnd o (λ d. IsInType d.kind v)
fits_part None c v same some fits = absurd same
fits_part (Some d) c v same some fits = subst (λ (k : ColType). IsInType k v) (sym same) (in_type c v some fits)

-- values that fit them fit the partition
pub fits_parts : (columns : List Column) (names : List (List ℕ)) (others : List Column) (vs : Values)
    → AllZip (StandsFor columns) names others → Fits others vs → AllZip (FitsPart columns) names vs
fits_parts columns [] [] [] stand fits = tt
fits_parts columns [] [] (v ∷ vs) stand fits = absurd fits
fits_parts columns [] (c ∷ others) vs stand fits = absurd stand
fits_parts columns (n ∷ names) [] vs stand fits = absurd stand
fits_parts columns (n ∷ names) (c ∷ others) [] stand fits = absurd fits
fits_parts columns (n ∷ names) (c ∷ others) (v ∷ vs) stand fits = (
  fits_part (find (λ d. bytes_eq d.name n) columns) c v stand.0.0 stand.0.1 fits.0,
  fits_parts columns names others vs stand.1 fits.1,
)

pub zip_push : {A B : Type 0} (R : A → B → Type 0) (xs : List A) (ys : List B) (x : A) (y : B) → AllZip R xs ys → R x y
    → AllZip R (xs ++ x ∷ []) (ys ++ y ∷ [])
zip_push R [] [] x y all here = (here, tt)
zip_push R [] (z ∷ ys) x y all here = absurd all
zip_push R (z ∷ xs) [] x y all here = absurd all
zip_push R (z ∷ xs) (u ∷ ys) x y all here = (all.0, zip_push R xs ys x y all.1 here)

-- a type that was found, and another where none was
abbrev or_kind : ColType → Option ColType → ColType
or_kind other None = other
or_kind other (Some kind) = kind

abbrev is_found : Option ColType → Bool
is_found None = false
is_found (Some kind) = true

pub found_kind : (o : Option Column) (kind : ColType) → option_map (λ c. c.kind) o ≡ Some kind
    → IsSomeAnd o (λ c. c.kind ≡ kind)
found_kind None kind e = absurd (false≢true (ap is_found e))
found_kind (Some c) kind e = ap (or_kind kind) e

-- one column more stands for one name more
pub one_more : (all : List Column) (names : List (List ℕ)) (i : ℕ) (name : List ℕ) (columns more : List Column) (column : Column)
    → i < length names → name ≡ get_or names i name → more ≡ columns ++ column ∷ []
    → AllZip (StandsFor all) (take i names) columns → StandsFor all name column
    → AllZip (StandsFor all) (take (i + 1) names) more
one_more all names i name columns more column within is grown so_far here =
    let next : take (i + 1) names ≡ take i names ++ name ∷ [] =
    take_more names i name within ∙ ap (λ (n : List ℕ). take i names ++ n ∷ []) (sym is) in
    rw (next, grown) (zip_push (StandsFor all) (take i names) columns name column so_far here)
