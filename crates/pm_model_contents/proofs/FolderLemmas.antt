-- The groups of entries of a table have folders.
use Rattle.std.proofs.Common.{◌≡◌, ℕ, Bool, true, false, true≢false, cond, ◌&&◌, ◌||◌, not, nat_lt, length, List, [], ◌∷◌, map, Option, None, Some, IsSome, IsSomeAnd, refl, sym, subst, bytes_eq, find}
use Rattle.std.specs.Cmp.Lexicographic.{bytes_decides}
use Rattle.std.specs.List.{AllByRecursion, AllZip, list_all, list_any}
use Rattle.std.specs.Option.{option_map_or}
use Rattle.std.proofs.lemmas.Bool.{and_parts, or_parts}
use Rattle.pm_values.specs.Fits.{IsInType}
use Rattle.pm_values.specs.Order.{Values}
use Rattle.pm_values.specs.declared.column.ColType.{ColType}
use Rattle.pm_values.specs.declared.column.ColType.TheVariants as types
use Rattle.pm_values.specs.declared.column.Column.{Column}
use Rattle.pm_values.specs.declared.value.Value.{Value}
use Rattle.pm_values.specs.declared.value.Value.TheVariants as values
use Rattle.pm_binrow.specs.Row.{IsCell, IsRow, is_null}
use Rattle.pm_schema.specs.Again.{IsDeclared}
use Rattle.pm_schema.specs.Folder.{FitsPart, FitsPartition}
use Rattle.pm_schema.specs.Rules.{differ, is_among, is_required, primary_holds, partition_holds}
use Rattle.pm_schema.specs.declared.schema.TableSchema.{TableSchema}
use Rattle.pm_manifest.specs.Entries.{IsEntry}
use Rattle.pm_manifest.specs.Shape.{shape_of, type_of}
use Rattle.pm_manifest.specs.declared.entry.Entry.{Entry}

-- ---- the columns of a partition are there

abbrev pub HasColumn : List Column → List ℕ → Type 0
HasColumn columns name = IsSome (find (λ (c : Column). bytes_eq c.name name) columns)

required-found : (columns : List Column) (name : List ℕ) → is_required columns name ≡ true → HasColumn columns name
required-found [] name e = e
required-found (c ∷ cs) name e = by (λ h. required-found cs name h) (bytes_eq c.name name) e
  where
    by : (is_required cs name ≡ true → HasColumn cs name) → (b : Bool) → ((b && not c.nullable) || is_required cs name) ≡ true
        → IsSome (cond b (Some c) (find (λ (c : Column). bytes_eq c.name name) cs))
    by rest true e = refl
    by rest false e = rest e

among-found : (columns : List Column) (names : List (List ℕ)) (name : List ℕ) → list_all (is_required columns) names ≡ true → is_among names name ≡ true → HasColumn columns name
among-found columns [] name all e = absurd (true≢false (sym e))
among-found columns (n ∷ ns) name all e =
    let both = and_parts (is_required columns n) (list_all (is_required columns) ns) all in
    by (required-found columns n both.0) (λ h. among-found columns ns name both.1 h) (bytes_eq n name) refl e
  where
    by : HasColumn columns n → (is_among ns name ≡ true → HasColumn columns name) → (b : Bool) → bytes_eq n name ≡ b → (b || is_among ns name) ≡ true → HasColumn columns name
    by own rest true same e = subst (HasColumn columns) ((bytes_decides n name).0 same) own
    by own rest false other e = rest e

all-found : (columns : List Column) (primary partition : List (List ℕ)) → list_all (is_required columns) primary ≡ true → list_all (is_among primary) partition ≡ true
    → AllByRecursion (HasColumn columns) partition
all-found columns primary [] all among = tt
all-found columns primary (name ∷ names) all among =
    let both = and_parts (is_among primary name) (list_all (is_among primary) names) among in
    (among-found columns primary name all both.0, all-found columns primary names all both.1)

columns-found : (s : TableSchema) → IsDeclared s → AllByRecursion (HasColumn s.columns) s.partition
columns-found s declared =
    let primary : primary_holds s ≡ true = declared.rules.1.1.0 in
    let partition : partition_holds s ≡ true = declared.rules.1.1.1.0 in
    let keys = (and_parts (nat_lt 0 (length s.primary)) (list_all (is_required s.columns) s.primary && differ s.primary) primary).1 in
    let required = (and_parts (list_all (is_required s.columns) s.primary) (differ s.primary) keys).0 in
    let left = list_any (λ name. not (is_among s.partition name)) s.primary in
    let among = (and_parts (list_all (is_among s.primary) s.partition) (differ s.partition && left) partition).0 in
    all-found s.columns s.primary s.partition required among

-- ---- the values are of their types

in-type : (kind : ColType) (value : Value) → IsCell kind value → is_null value ≡ false → IsInType kind value
in-type kind values.Null cell full = absurd (true≢false full)
in-type kind (values.Bool b) cell full = cell
in-type kind (values.Int n) cell full = cell
in-type kind (values.Text text) cell full = cell
in-type kind (values.Bytes bytes) cell full = cell
in-type kind (values.Day day) cell full = cell
in-type kind (values.Millis millis) cell full = cell

fits-by : (found : Option Column) (value : Value) → IsSome found → IsCell (option_map_or (λ (c : Column). c.kind) found types.Text) value → is_null value ≡ false
    → IsSomeAnd found (λ (c : Column). IsInType c.kind value)
fits-by None value some cell full = absurd (true≢false (sym some))
fits-by (Some c) value some cell full = in-type c.kind value cell full

fits : (columns : List Column) (names : List (List ℕ)) (row : Values) → AllByRecursion (HasColumn columns) names → IsRow (map (type_of columns) names) row → list_any is_null row ≡ false
    → AllZip (FitsPart columns) names row
fits columns [] [] found typed full = tt
fits columns [] (value ∷ row) found typed full = absurd typed
fits columns (name ∷ names) [] found typed full = absurd typed
fits columns (name ∷ names) (value ∷ row) found typed full =
    let both = or_parts (is_null value) (list_any is_null row) full in (
      fits-by (find (λ (c : Column). bytes_eq c.name name) columns) value found.0 typed.0 both.0,
      fits columns names row found.1 typed.1 both.1,
    )

pub entry-fits : (s : TableSchema) (e : Entry) → IsDeclared s → IsEntry (shape_of s) e → FitsPartition s e.group
entry-fits s e declared is = fits s.columns s.partition e.group.partition (columns-found s declared) is.partition.typed is.partition.full

pub entries-fit : (s : TableSchema) (es : List Entry) → IsDeclared s → AllByRecursion (IsEntry (shape_of s)) es → AllByRecursion (λ (e : Entry). FitsPartition s e.group) es
entries-fit s [] declared all = tt
entries-fit s (e ∷ es) declared all = (entry-fits s e declared all.0, entries-fit s es declared all.1)
