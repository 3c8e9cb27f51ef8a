-- The key of a row of a group is one of the keys that a manifest can have.
use Rattle.std.proofs.Common.{◌≡◌, ℕ, ◌+◌, suc, Bool, true, false, true≢false, cond, not, ◌&&◌, ◌||◌, List, [], ◌∷◌, ◌++◌, map, length, get_or, Option, Some, None, is_none, refl, sym, ap, subst, ◌∙◌, append_assoc, arith}
use Rattle.std.specs.Prelude.{nat_eq, nat_lt}
use Rattle.std.specs.Cmp.Lexicographic.{bytes_decides}
use Rattle.std.specs.List.{ends_with, find, list_all, list_any, position, position_or_len}
use Rattle.std.specs.Option.{option_map_or}
use Rattle.std.specs.Str.{bytes_eq}
use Rattle.std.proofs.lemmas.Bool.{and_parts}
use Rattle.std.proofs.lemmas.Bool.Decides.{Decides-eqb}
use Rattle.std.proofs.lemmas.List.{get_or-map, length-map}
use Rattle.std.proofs.lemmas.List.Quantifiers.{position-Some}
use Rattle.std.proofs.lemmas.Slice.Eq.{ends_is}
use Rattle.pm_values.specs.Fits.{Fits, FitsColumn}
use Rattle.pm_values.specs.Names.{Naming, name_of}
use Rattle.pm_values.specs.Order.{Values}
use Rattle.pm_values.specs.declared.column.ColType.{ColType}
use Rattle.pm_values.specs.declared.column.ColType.TheVariants as types
use Rattle.pm_values.specs.declared.column.Column.{Column}
use Rattle.pm_values.specs.declared.file_meta.FileMeta.{FileMeta}
use Rattle.pm_values.specs.declared.group.Group.{Group}
use Rattle.pm_values.specs.declared.value.Value.{Value}
use Rattle.pm_values.specs.declared.value.Value.TheVariants as values
use Rattle.pm_binrow.specs.Row.{IsCell, IsRow, IsShort, is_null}
use Rattle.pm_schema.specs.Again.{IsDeclared}
use Rattle.pm_schema.specs.Rules.{differ, is_among, is_required, names_of, partition_holds, primary_holds}
use Rattle.pm_schema.specs.declared.schema.TableSchema.{TableSchema}
use Rattle.pm_model_history.specs.Merge as merge
use Rattle.pm_model_history.specs.Merge.{value_at}
use Rattle.pm_model_history.specs.Merged.{primary_of}
use Rattle.pm_model_following.specs.Groups.{group_of}
use Rattle.pm_run.specs.Writing.{suffix}
use Rattle.pm_manifest.specs.Entries.{IsFile, IsFileWithin, IsKey}
use Rattle.pm_manifest.specs.Rows.{IsFull}
use Rattle.pm_manifest.specs.Shape.{apart_from, key_of, rest_of, shape_of, type_of}
use Rattle.pm_manifest.proofs.ShapeLemmas.{position_none}

-- ---- the value of a row in a column that is NOT NULL

-- a value of a type, and not null
abbrev HasValue : ColType → Value → Type 0
HasValue kind value = IsCell kind value × (is_null value ≡ false)

value-fits : (c : Column) (value : Value) → FitsColumn c value → c.nullable ≡ false → HasValue c.kind value
value-fits c values.Null fits required = absurd (true≢false (sym fits ∙ required))
value-fits c (values.Bool b) fits required = (fits, refl)
value-fits c (values.Int n) fits required = (fits, refl)
value-fits c (values.Text text) fits required = (fits, refl)
value-fits c (values.Bytes bytes) fits required = (fits, refl)
value-fits c (values.Day day) fits required = (fits, refl)
value-fits c (values.Millis millis) fits required = (fits, refl)

-- a column that is NOT NULL is a column
required-among : (columns : List Column) (name : List ℕ) → is_required columns name ≡ true
    → is_among (names_of columns) name ≡ true
required-among [] name e = e
required-among (c ∷ cs) name e = by (λ h. required-among cs name h) (bytes_eq c.name name) e
  where
    by : (is_required cs name ≡ true → is_among (names_of cs) name ≡ true) → (b : Bool)
        → ((b && not c.nullable) || is_required cs name) ≡ true → (b || is_among (names_of cs) name) ≡ true
    by rest true e = refl
    by rest false e = rest e

-- a name that only the first column has is NOT NULL where the first is
required-first : (c : Column) (cs : List Column) (name : List ℕ) → c.name ≡ name
    → not (is_among (names_of cs) c.name) ≡ true → (not c.nullable || is_required cs name) ≡ true → c.nullable ≡ false
required-first c cs name same apart e = by c.nullable e
  where
    by : (b : Bool) → (not b || is_required cs name) ≡ true → b ≡ false
    by true e =
        let other : not (is_among (names_of cs) name) ≡ true =
        subst (λ (n : List ℕ). not (is_among (names_of cs) n) ≡ true) same apart in
        absurd (true≢false (sym other ∙ ap not (required-among cs name e)))
    by false e = refl

-- the index of the column with a name
abbrev index_in : List Column → List ℕ → ℕ
index_in columns name = position_or_len (λ (c : Column). bytes_eq c.name name) columns

-- the type of a column, that of a text where there is none
abbrev kind_in : Option Column → ColType
kind_in found = option_map_or (λ (c : Column). c.kind) found types.Text

-- a row that fits has a value at the index of a column that is NOT NULL
column-value : (columns : List Column) (row : Values) (name : List ℕ) → Fits columns row
    → differ (names_of columns) ≡ true → is_required columns name ≡ true
    → HasValue (type_of columns name) (value_at row (index_in columns name))
column-value [] [] name fits apart required = absurd (true≢false (sym required))
column-value [] (value ∷ row) name fits apart required = absurd fits
column-value (c ∷ cs) [] name fits apart required = absurd fits
column-value (c ∷ cs) (value ∷ row) name fits apart required =
    by (λ h. column-value cs row name fits.1 both.1 h) (bytes_eq c.name name) refl required
  where
    both : (not (is_among (names_of cs) c.name) ≡ true) × (differ (names_of cs) ≡ true)
    both = and_parts (not (is_among (names_of cs) c.name)) (differ (names_of cs)) apart

    by : (is_required cs name ≡ true → HasValue (type_of cs name) (value_at row (index_in cs name)))
        → (b : Bool) → bytes_eq c.name name ≡ b → ((b && not c.nullable) || is_required cs name) ≡ true
        → HasValue (kind_in (cond b (Some c) (find (λ (c : Column). bytes_eq c.name name) cs)))
        (value_at (value ∷ row) (cond (not b) (1 + index_in cs name) 0))
    by rest true same required =
        value-fits c value fits.0 (required-first c cs name ((bytes_decides c.name name).0 same) both.0 required)
    by rest false other required =
        let next : suc (index_in cs name) ≡ 1 + index_in cs name = omega arith in
        subst (λ (n : ℕ). HasValue (type_of cs name) (value_at (value ∷ row) n)) next (rest required)

-- ---- its values in columns that are NOT NULL

-- a row of these types, without a null
record IsFilled (kinds : List ColType) (row : Values) : Type 0 where
  typed : IsRow kinds row
  full : list_any is_null row ≡ false

filled-values : (columns : List Column) (row : Values) (names : List (List ℕ)) → Fits columns row
    → differ (names_of columns) ≡ true → list_all (is_required columns) names ≡ true
    → IsFilled (map (type_of columns) names) (merge.key_of (map (index_in columns) names) row)
filled-values columns row [] fits apart required = record { typed = tt; full = refl }
filled-values columns row (name ∷ names) fits apart required =
    let both = and_parts (is_required columns name) (list_all (is_required columns) names) required in
    let first = column-value columns row name fits apart both.0 in
    let rest = filled-values columns row names fits apart both.1 in
    let later : Values = merge.key_of (map (index_in columns) names) row in record {
      typed = (first.0, rest.typed);
      full = ap (λ (b : Bool). b || list_any is_null later) first.1 ∙ rest.full;
    }

-- ---- the part of a key that is the partition's, and the rest

both-true : (a b : Bool) → a ≡ true → b ≡ true → (a && b) ≡ true
both-true true b first second = second
both-true false b first second = absurd (true≢false (sym first))

module _ (columns : List Column) (partition : List (List ℕ)) (row : Values) where
  -- the row's values in the columns of these names
  abbrev values_of : List (List ℕ) → Values
  values_of names = merge.key_of (map (index_in columns) names) row

  -- where the partition has the columns of these names
  abbrev places_of : List (List ℕ) → List (Option ℕ)
  places_of names = map (λ (name : List ℕ). position (bytes_eq name) partition) names

  -- the value of a column that the partition has
  part-value : (name : List ℕ) (i : ℕ) → position (bytes_eq name) partition ≡ Some i
      → get_or (values_of partition) i values.Null ≡ value_at row (index_in columns name)
  part-value name i is =
      let (within, same, first) = position-Some (bytes_eq name) partition i [] is in
      let other : List ℕ = get_or partition i [] in
      let long = length-map partition (index_in columns) in
      get_or-map (λ (index : ℕ). value_at row index) (map (index_in columns) partition) i 0 values.Null (omega (arith, within, long))
      ∙ ap (λ (index : ℕ). value_at row index) (get_or-map (index_in columns) partition i [] 0 within)
      ∙ ap (λ (name : List ℕ). value_at row (index_in columns name)) (sym ((bytes_decides name other).0 same))

  -- a column is the partition's or it is left
  none-there : (name : List ℕ) (o : Option ℕ) (t : Bool) → position (bytes_eq name) partition ≡ o → list_any (bytes_eq name) partition ≡ t → is_none o ≡ not t
  none-there name o t at any = ap (λ (o : Option ℕ). is_none o) (sym at) ∙ position_none (bytes_eq name) partition ∙ ap not any

  -- the key is made of both
  key-parts : (names : List (List ℕ)) → key_of (places_of names) (values_of partition) (values_of (apart_from partition names)) ≡ values_of names
  key-parts [] = refl
  key-parts (name ∷ names) = at (key-parts names) (position (bytes_eq name) partition) refl (list_any (bytes_eq name) partition) refl
    where
      at : key_of (places_of names) (values_of partition) (values_of (apart_from partition names)) ≡ values_of names → (o : Option ℕ) → position (bytes_eq name) partition ≡ o → (t : Bool) → list_any (bytes_eq name) partition ≡ t
          → key_of (o ∷ places_of names) (values_of partition) (values_of (cond (not t) (name ∷ apart_from partition names) (apart_from partition names)))
          ≡ value_at row (index_in columns name) ∷ values_of names
      at later (Some i) is true any =
          ap (λ (v : Value). v ∷ key_of (places_of names) (values_of partition) (values_of (apart_from partition names))) (part-value name i is)
          ∙ ap (λ (vs : Values). value_at row (index_in columns name) ∷ vs) later
      at later None is false any = ap (λ (vs : Values). value_at row (index_in columns name) ∷ vs) later
      at later (Some i) is false any = absurd (true≢false (sym (none-there name (Some i) false is any)))
      at later None is true any = absurd (true≢false (none-there name None true is any))

  -- and what is left of it without the partition's
  rest-parts : (names : List (List ℕ)) → rest_of (places_of names) (values_of names) ≡ values_of (apart_from partition names)
  rest-parts [] = refl
  rest-parts (name ∷ names) = at (rest-parts names) (position (bytes_eq name) partition) refl (list_any (bytes_eq name) partition) refl
    where
      at : rest_of (places_of names) (values_of names) ≡ values_of (apart_from partition names) → (o : Option ℕ) → position (bytes_eq name) partition ≡ o → (t : Bool) → list_any (bytes_eq name) partition ≡ t
          → rest_of (o ∷ places_of names) (value_at row (index_in columns name) ∷ values_of names)
          ≡ values_of (cond (not t) (name ∷ apart_from partition names) (apart_from partition names))
      at later (Some i) is true any = later
      at later None is false any = ap (λ (vs : Values). value_at row (index_in columns name) ∷ vs) later
      at later (Some i) is false any = absurd (true≢false (sym (none-there name (Some i) false is any)))
      at later None is true any = absurd (true≢false (none-there name None true is any))

  -- those that are left are NOT NULL where all are
  rest-required : (names : List (List ℕ)) → list_all (is_required columns) names ≡ true → list_all (is_required columns) (apart_from partition names) ≡ true
  rest-required [] all = refl
  rest-required (name ∷ names) all =
      let parts = and_parts (is_required columns name) (list_all (is_required columns) names) all in at parts.0 (rest-required names parts.1) (list_any (bytes_eq name) partition)
    where
      at : is_required columns name ≡ true → list_all (is_required columns) (apart_from partition names) ≡ true → (t : Bool)
          → list_all (is_required columns) (cond (not t) (name ∷ apart_from partition names) (apart_from partition names)) ≡ true
      at first rest true = rest
      at first rest false = both-true (is_required columns name) (list_all (is_required columns) (apart_from partition names)) first rest

-- the columns of a key's names are NOT NULL where all of the key are
among-required : (columns : List Column) (names : List (List ℕ)) (name : List ℕ)
    → list_all (is_required columns) names ≡ true → is_among names name ≡ true → is_required columns name ≡ true
among-required columns [] name all e = absurd (true≢false (sym e))
among-required columns (n ∷ ns) name all e =
    let both = and_parts (is_required columns n) (list_all (is_required columns) ns) all in
    by both.0 (λ later. among-required columns ns name both.1 later) (bytes_eq n name) refl e
  where
    by : is_required columns n ≡ true → (is_among ns name ≡ true → is_required columns name ≡ true) → (b : Bool)
        → bytes_eq n name ≡ b → (b || is_among ns name) ≡ true → is_required columns name ≡ true
    by own rest true same e = subst (λ (m : List ℕ). is_required columns m ≡ true) ((bytes_decides n name).0 same) own
    by own rest false other e = rest e

all-required : (columns : List Column) (primary names : List (List ℕ)) → list_all (is_required columns) primary ≡ true
    → list_all (is_among primary) names ≡ true → list_all (is_required columns) names ≡ true
all-required columns primary [] required among = refl
all-required columns primary (name ∷ names) required among =
    let both = and_parts (is_among primary name) (list_all (is_among primary) names) among in
    both-true (is_required columns name) (list_all (is_required columns) names)
    (among-required columns primary name required both.0) (all-required columns primary names required both.1)

-- ---- the key of a row of a group

-- a key that a row of the group has
pub record HasRowOf (s : TableSchema) (g : Group) (key : Values) : Type 0 where
  pub row : Values
  pub fits : Fits s.columns row
  pub group : group_of s row ≡ g
  pub own : merge.key_of (primary_of s) row ≡ key

module _ (s : TableSchema) (g : Group) (key : Values) (declared : IsDeclared s) (has : HasRowOf s g key) where
  abbrev left : List (List ℕ)
  left = apart_from s.partition s.primary

  abbrev rest : Values
  rest = merge.key_of (map (index_in s.columns) left) has.row

  required : list_all (is_required s.columns) s.primary ≡ true
  required =
      let primary : primary_holds s ≡ true = declared.rules.1.1.0 in
      let all = list_all (is_required s.columns) s.primary in
      (and_parts all (differ s.primary) (and_parts (nat_lt 0 (length s.primary)) (all && differ s.primary) primary).1).0

  filled : IsFilled (map (type_of s.columns) left) rest
  filled = filled-values s.columns has.row left has.fits declared.rules.1.0 (rest-required s.columns s.partition has.row s.primary required)

  -- a manifest can have it, where it is short
  key-can-be : IsShort (shape_of s).rest (rest_of (shape_of s).places key) → IsKey (shape_of s) g.partition key
  key-can-be short = (
    rest,
    record {
      typed = filled.typed;
      short = subst (IsShort (shape_of s).rest) (ap (rest_of (shape_of s).places) (sym has.own) ∙ rest-parts s.columns s.partition has.row s.primary) short;
      full = filled.full;
    },
    sym has.own ∙ sym (key-parts s.columns s.partition has.row s.primary) ∙ ap (λ (g : Group). key_of (shape_of s).places g.partition rest) has.group,
  )

  -- the names of the partition are of the primary key
  among : list_all (is_among s.primary) s.partition ≡ true
  among =
      let partition : partition_holds s ≡ true = declared.rules.1.1.1.0 in
      let left_over = list_any (λ (name : List ℕ). not (is_among s.partition name)) s.primary in
      (and_parts (list_all (is_among s.primary) s.partition) (differ s.partition && left_over) partition).0

  part-filled : IsFilled (map (type_of s.columns) s.partition) (merge.key_of (map (index_in s.columns) s.partition) has.row)
  part-filled =
      filled-values s.columns has.row s.partition has.fits declared.rules.1.0
      (all-required s.columns s.primary s.partition required among)

  -- a manifest can have the group's values of the partition, where they are short
  pub partition-can-be : IsShort (shape_of s).partition g.partition → IsFull (shape_of s).partition g.partition
  partition-can-be short =
      let same : merge.key_of (map (index_in s.columns) s.partition) has.row ≡ g.partition =
      ap (λ (g : Group). g.partition) has.group in record {
        typed = subst (IsRow (map (type_of s.columns) s.partition)) same part-filled.typed;
        short = short;
        full = ap (list_any is_null) (sym same) ∙ part-filled.full;
      }

-- ---- the name of a file

name-ends : (prefix end : List ℕ) (names : Naming) (name : List ℕ) → name ≡ name_of prefix end names
    → ends_with nat_eq name end ≡ true
name-ends prefix end names name is =
    let first = name_of prefix [] names in
    let split : name_of prefix end names ≡ first ++ end = simp append_assoc in
    (ends_is Decides-eqb name end (ends_with nat_eq name end) refl).1 first (is ∙ split)

-- a file with such a name and such keys is one that a manifest can have, as it is written
pub file-can-be : (s : TableSchema) (g : Group) (prefix : List ℕ) (names : Naming) (m : FileMeta) → IsDeclared s → m.name ≡ name_of prefix suffix names
    → HasRowOf s g m.min_key → HasRowOf s g m.max_key → IsFileWithin (shape_of s) m → IsFile (shape_of s) g.partition m
file-can-be s g prefix names m declared named least greatest within = record {
  named = name-ends prefix suffix names m.name named;
  schema = within.schema;
  size = within.size;
  rows = within.rows;
  least = key-can-be s g m.min_key declared least within.least;
  greatest = key-can-be s g m.max_key declared greatest within.greatest;
  first = within.first;
  last = within.last;
  level = within.level;
}
