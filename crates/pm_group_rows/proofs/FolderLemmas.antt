-- The group of a row that fits has a folder, and its bucket is one of the table's.
use Rattle.std.proofs.Common.{◌≡◌, ℕ, zero, suc, ◌+◌, ◌<◌, ◌≤◌, ◌%◌, ℤ, pos, negsuc, neg_ℤ, Bool, true, false, true≢false, cond, not, ◌&&◌, ◌||◌, List, [], ◌∷◌, map, length, Option, Some, None, IsSomeAnd, refl, sym, ap, subst, ◌∙◌, arith}
use Rattle.std.specs.Prelude.{nat_lt, unsigned_abs}
use Rattle.std.specs.Cmp.Lexicographic.{bytes_decides}
use Rattle.std.specs.List.{AllZip, find, list_all, list_any, position_or_len}
use Rattle.std.specs.Str.{bytes_eq}
use Rattle.std.proofs.lemmas.Bool.{and_parts}
use Rattle.pm_values.specs.Fits.{Fits, FitsColumn, IsInType}
use Rattle.pm_values.specs.Order.{Values}
use Rattle.pm_values.specs.declared.column.Column.{Column}
use Rattle.pm_values.specs.declared.value.Value.{Value}
use Rattle.pm_values.specs.declared.value.Value.TheVariants as values
use Rattle.pm_binrow.specs.Hashing.{bucket_of, hash_of}
use Rattle.pm_binrow.specs.Row.{body}
use Rattle.pm_schema.specs.Again.{IsDeclared}
use Rattle.pm_schema.specs.Folder.{FitsPart, FitsPartition}
use Rattle.pm_schema.specs.Rules.{differ, is_among, is_required, names_of, partition_holds, primary_holds}
use Rattle.pm_schema.specs.declared.schema.TableSchema.{TableSchema}
use Rattle.pm_model_history.specs.Merge.{key_of, value_at}
use Rattle.pm_model_following.specs.Groups.{bucket_key_of, group_of, kind_at}

-- ---- the value of a row in a column that is NOT NULL

value-fits : (c : Column) (value : Value) → FitsColumn c value → c.nullable ≡ false → IsInType c.kind value
value-fits c values.Null fits required = absurd (true≢false (sym fits ∙ required))
value-fits c (values.Bool b) fits required = fits
value-fits c (values.Int n) fits required = fits
value-fits c (values.Text text) fits required = fits
value-fits c (values.Bytes bytes) fits required = fits
value-fits c (values.Day day) fits required = fits
value-fits c (values.Millis millis) fits required = fits

-- a column that is NOT NULL is a column
required-among : (columns : List Column) (name : List ℕ) → is_required columns name ≡ true → is_among (names_of columns) name ≡ true
required-among [] name e = e
required-among (c ∷ cs) name e = by (λ h. required-among cs name h) (bytes_eq c.name name) e
  where
    by : (is_required cs name ≡ true → is_among (names_of cs) name ≡ true) → (b : Bool)
        → ((b && not c.nullable) || is_required cs name) ≡ true → (b || is_among (names_of cs) name) ≡ true
    by rest true e = refl
    by rest false e = rest e

-- the first column of a name that no other has is NOT NULL where one is
required-first : (c : Column) (cs : List Column) (name : List ℕ) → c.name ≡ name → not (is_among (names_of cs) c.name) ≡ true → (not c.nullable || is_required cs name) ≡ true → c.nullable ≡ false
required-first c cs name same apart e = by c.nullable e
  where
    by : (b : Bool) → (not b || is_required cs name) ≡ true → b ≡ false
    by true e =
        let other : not (is_among (names_of cs) name) ≡ true = subst (λ (n : List ℕ). not (is_among (names_of cs) n) ≡ true) same apart in
        absurd (true≢false (sym other ∙ ap not (required-among cs name e)))
    by false e = refl

-- the index of the column with a name
abbrev index_in : List Column → List ℕ → ℕ
index_in columns name = position_or_len (λ (c : Column). bytes_eq c.name name) columns

column-fits : (columns : List Column) (row : Values) (name : List ℕ) → Fits columns row → differ (names_of columns) ≡ true → is_required columns name ≡ true
    → FitsPart columns name (value_at row (index_in columns name))
column-fits [] [] name fits apart required = absurd (true≢false (sym required))
column-fits [] (value ∷ row) name fits apart required = absurd fits
column-fits (c ∷ cs) [] name fits apart required = absurd fits
column-fits (c ∷ cs) (value ∷ row) name fits apart required = by (λ h. column-fits cs row name fits.1 both.1 h) (bytes_eq c.name name) refl required
  where
    both : (not (is_among (names_of cs) c.name) ≡ true) × (differ (names_of cs) ≡ true)
    both = and_parts (not (is_among (names_of cs) c.name)) (differ (names_of cs)) apart

    by : (is_required cs name ≡ true → FitsPart cs name (value_at row (index_in cs name))) → (b : Bool) → bytes_eq c.name name ≡ b → ((b && not c.nullable) || is_required cs name) ≡ true
        → IsSomeAnd (cond b (Some c) (find (λ (c : Column). bytes_eq c.name name) cs))
        (λ (d : Column). IsInType d.kind (value_at (value ∷ row) (cond (not b) (1 + index_in cs name) 0)))
    by rest true same required = value-fits c value fits.0 (required-first c cs name ((bytes_decides c.name name).0 same) both.0 required)
    by rest false other required =
        let next : suc (index_in cs name) ≡ 1 + index_in cs name = omega arith in
        subst (λ (n : ℕ). FitsPart cs name (value_at (value ∷ row) n)) next (rest required)

-- ---- its partition

-- a column of the key is NOT NULL
among-required : (columns : List Column) (names : List (List ℕ)) (name : List ℕ) → list_all (is_required columns) names ≡ true → is_among names name ≡ true → is_required columns name ≡ true
among-required columns [] name all among = absurd (true≢false (sym among))
among-required columns (n ∷ ns) name all among =
    let parts = and_parts (is_required columns n) (list_all (is_required columns) ns) all in by parts.0 (λ h. among-required columns ns name parts.1 h) (bytes_eq n name) refl among
  where
    by : is_required columns n ≡ true → (is_among ns name ≡ true → is_required columns name ≡ true) → (b : Bool) → bytes_eq n name ≡ b → (b || is_among ns name) ≡ true → is_required columns name ≡ true
    by own rest true same e = subst (λ (m : List ℕ). is_required columns m ≡ true) ((bytes_decides n name).0 same) own
    by own rest false other e = rest e

columns-fit : (columns : List Column) (row : Values) (primary names : List (List ℕ)) → Fits columns row → differ (names_of columns) ≡ true → list_all (is_required columns) primary ≡ true
    → list_all (is_among primary) names ≡ true → AllZip (FitsPart columns) names (key_of (map (index_in columns) names) row)
columns-fit columns row primary [] fits apart required among = tt
columns-fit columns row primary (name ∷ names) fits apart required among =
    let parts = and_parts (is_among primary name) (list_all (is_among primary) names) among in
    (column-fits columns row name fits apart (among-required columns primary name required parts.0), columns-fit columns row primary names fits apart required parts.1)

pub fits : (s : TableSchema) (row : Values) → IsDeclared s → Fits s.columns row → FitsPartition s (group_of s row)
fits s row declared of_row =
    let primary : primary_holds s ≡ true = declared.rules.1.1.0 in
    let partition : partition_holds s ≡ true = declared.rules.1.1.1.0 in
    let all = list_all (is_required s.columns) s.primary in
    let required = (and_parts all (differ s.primary) (and_parts (nat_lt 0 (length s.primary)) (all && differ s.primary) primary).1).0 in
    let left = list_any (λ name. not (is_among s.partition name)) s.primary in
    let among = (and_parts (list_all (is_among s.primary) s.partition) (differ s.partition && left) partition).0 in
    columns-fit s.columns row s.primary s.partition of_row declared.rules.1.0 required among

-- ---- its bucket

bucket-below : (hash : ℤ) (buckets : ℕ) → 1 ≤ buckets → bucket_of hash buckets < buckets
unfolding bucket_of
bucket-below (pos n) buckets some = omega arith
bucket-below (negsuc n) buckets some =
    let most : suc n % buckets < buckets = omega arith in
    by (suc n % buckets) most
  where
    by : (k : ℕ) → k < buckets → unsigned_abs (neg_ℤ (pos k)) < buckets
    by zero most = most
    by (suc k) most = most

pub below : (s : TableSchema) (row : Values) → 1 ≤ s.options.bucket → (group_of s row).bucket < s.options.bucket
below s row some = bucket-below (hash_of (body (map (kind_at s) (bucket_key_of s)) (key_of (bucket_key_of s) row))) s.options.bucket some
