-- What stands at names in a record, by the names' indexes.
use Rattle.std.proofs.Common.{◌≡◌, ◌≢◌, ℕ, zero, suc, ◌<◌, Bool, true, false, List, [], ◌∷◌, length, get_or, map}
use Rattle.std.proofs.Common.{Option, Some, None, option_map, refl, sym, ap, subst, ◌∙◌, arith}
use Rattle.std.specs.Prelude.{if◌then◌else◌, not, ◌&&◌, ◌||◌, ◌↔◌}
use Rattle.std.specs.List.{list_any, AllByRecursion}
use Rattle.std.specs.Str.{bytes_eq}
use Rattle.std.proofs.lemmas.List.{length-map}
use Rattle.std.proofs.lemmas.Slice.Eq.{bytes_eq-Decides}
use Rattle.pm_base.specs.Steps.{◌>>=◌}
use Rattle.pm_avro_schema.specs.Avro as types
use Rattle.pm_avro_schema.specs.Avro.{Avro, Fields, no_fields, field}
use Rattle.pm_avro_data.specs.Datum.{Data, null, record_of, Items, no_items, item, items, items_of, view}
use Rattle.pm_avro_data.specs.declared.datum.Datum.{Datum}
use Rattle.pm_avro_data.specs.HasType.{HasType, HaveTypes}
use Rattle.pm_record.specs.Record.{beside_null, present, fields_in, index_in, all_indexes, indexes_in}
use Rattle.pm_record.specs.Record.{type_in, type_of_field, value_in, all_values, values_in, items_in, present_items, selected, all_differ}
use Rattle.pm_record.specs.Record.{HaveFieldTypes, AreApart, AreBelow, at_indexes}
use Rattle.pm_record.proofs.Nulls.{present_typed}

-- ---- readings in turn

some_suc : (found : Option ℕ) (i : ℕ) → option_map suc found ≡ Some i → (j : ℕ) × (found ≡ Some j) × (i ≡ suc j)
some_suc None i is = let no : None ≡ Some i = is in cc
some_suc (Some j) i is = (j, refl, cc)

-- two readings that give a list give its first item and the later ones
pub some_list : {X : Type 0} (one : Option X) (later : Option (List X)) (all : List X) → (one >>= λ x. later >>= λ xs. Some (x ∷ xs)) ≡ Some all
    → (x : X) × (xs : List X) × (one ≡ Some x) × (later ≡ Some xs) × (all ≡ x ∷ xs)
some_list None later all is = let no : None ≡ Some all = is in cc
some_list (Some x) None all is = let no : None ≡ Some all = is in cc
some_list (Some x) (Some xs) all is = (x, xs, refl, refl, cc)

-- ---- a name's index

-- what stands at a name stands at its index
abbrev StandsAt : Option Data → List Data → ℕ → Type 0
StandsAt found ds i = (found ≡ Some (get_or ds i null)) × (i < length ds)

value_by : (same : Bool) (name : List ℕ) (fs : Fields) (d : Data) (ds : Items) (i : ℕ) → ((j : ℕ) → index_in name fs ≡ Some j → StandsAt (value_in name fs ds) (items ds) j)
    → (if same then Some zero else option_map suc (index_in name fs)) ≡ Some i → StandsAt (if same then Some d else value_in name fs ds) (d ∷ items ds) i
value_by true name fs d ds i later is = let first : i ≡ 0 = cc in rw first (refl, omega arith)
value_by false name fs d ds i later is =
    let s = some_suc (index_in name fs) i is in
    let at = later s.0 s.1 in
    let below = at.1 in
    rw s.2 (at.0, omega arith)

value_at : (name : List ℕ) (fs : Fields) (ds : Items) (i : ℕ) → HaveTypes fs ds → index_in name fs ≡ Some i → StandsAt (value_in name fs ds) (items ds) i
value_at name no_fields ds i h is = let no : None ≡ Some i = is in cc
value_at name (field other t fs) no_items i h is = absurd h
value_at name (field other t fs) (item d ds) i h is = value_by (bytes_eq name other) name fs d ds i (λ j. value_at name fs ds j h.1) is

-- what stands at names stands at their indexes
pub values_at : (names : List (List ℕ)) (fs : Fields) (ds : Items) (is : List ℕ) → HaveTypes fs ds → all_indexes names fs ≡ Some is
    → (all_values names fs ds ≡ Some (at_indexes is (items ds))) × AreBelow is (length (items ds))
values_at [] fs ds is h found = let none : is ≡ [] = cc in rw none (refl, tt)
values_at (name ∷ names) fs ds is h found =
    let p = some_list (index_in name fs) (all_indexes names fs) is found in
    let one = value_at name fs ds p.0 h p.2 in
    let later = values_at names fs ds p.1 h p.3 in
    rw p.4 (rw (one.0, later.0) refl, (one.1, later.1))

-- ---- names that differ

index_same_by : (x y : Bool) (f g : Option ℕ) (i : ℕ) (P : Type 0) → (x ≡ true → y ≡ true → P) → ((j : ℕ) → f ≡ Some j → g ≡ Some j → P)
    → (if x then Some zero else option_map suc f) ≡ Some i → (if y then Some zero else option_map suc g) ≡ Some i → P
index_same_by true true f g i P here later p q = here refl refl
index_same_by true false f g i P here later p q = let first : i ≡ 0 = cc in let s = some_suc g i q in let next = s.2 in absurd (omega arith)
index_same_by false true f g i P here later p q = let first : i ≡ 0 = cc in let s = some_suc f i p in let next = s.2 in absurd (omega arith)
index_same_by false false f g i P here later p q =
    let s = some_suc f i p in
    let t = some_suc g i q in
    let same : t.0 ≡ s.0 = let a = s.2 in let b = t.2 in omega arith in
    later s.0 s.1 (t.1 ∙ ap Some same)

-- two names that have one index are the same
index_same : (fs : Fields) (a b : List ℕ) (i : ℕ) → index_in a fs ≡ Some i → index_in b fs ≡ Some i → a ≡ b
index_same no_fields a b i p q = let no : None ≡ Some i = p in cc
index_same (field other t fs) a b i p q =
    index_same_by (bytes_eq a other) (bytes_eq b other) (index_in a fs) (index_in b fs) i (a ≡ b)
    (λ x y. (bytes_eq-Decides a other).0 x ∙ sym ((bytes_eq-Decides b other).0 y)) (λ j. index_same fs a b j) p q

none_of_either : (a b : Bool) → (a || b) ≡ false → (a ≡ false) × (b ≡ false)
none_of_either true b is = let no : true ≡ false = is in cc
none_of_either false b is = (refl, is)

both_of : (a b : Bool) → (a && b) ≡ true → (a ≡ true) × (b ≡ true)
both_of true b is = (refl, is)
both_of false b is = let no : false ≡ true = is in cc

is_false : (b : Bool) → not b ≡ true → b ≡ false
is_false true is = let no : false ≡ true = is in cc
is_false false is = refl

indexes_other : (fs : Fields) (name : List ℕ) (i : ℕ) (names : List (List ℕ)) (is : List ℕ) → index_in name fs ≡ Some i → list_any (bytes_eq name) names ≡ false
    → all_indexes names fs ≡ Some is → AllByRecursion (λ j. i ≢ j) is
indexes_other fs name i [] is here none found = let empty : is ≡ [] = cc in rw empty tt
indexes_other fs name i (other ∷ names) is here none found =
    let p = some_list (index_in other fs) (all_indexes names fs) is found in
    let differ = none_of_either (bytes_eq name other) (list_any (bytes_eq name) names) none in
    let apart : i ≢ p.0 = λ e.
    let same : name ≡ other = index_same fs name other i here (p.2 ∙ ap Some (sym e)) in
    let no : true ≡ false = sym ((bytes_eq-Decides name other).1 same) ∙ differ.0 in
    cc in
    rw p.4 (apart, indexes_other fs name i names p.1 here differ.1 p.3)

-- the indexes of names that differ are apart
pub indexes_apart : (fs : Fields) (names : List (List ℕ)) (is : List ℕ) → all_differ names ≡ true → all_indexes names fs ≡ Some is → AreApart is
indexes_apart fs [] is differ found = let empty : is ≡ [] = cc in rw empty tt
indexes_apart fs (name ∷ names) is differ found =
    let p = some_list (index_in name fs) (all_indexes names fs) is found in
    let parts = both_of (not (list_any (bytes_eq name) names)) (all_differ names) differ in
    rw p.4 (indexes_other fs name p.0 names p.1 p.2 (is_false (list_any (bytes_eq name) names) parts.0) p.3, indexes_apart fs names p.1 parts.1 p.3)

-- ---- data and their types

-- what a reading of fields gives, and the fields that it reads
some_fields : {X : Type 0} (t : Avro) (read : Fields → Option X) (x : X) → (fields_in t >>= read) ≡ Some x → (fs : Fields) × (t ≡ types.record_of fs) × (read fs ≡ Some x)
some_fields (types.record_of fs) read x is = (fs, refl, is)
some_fields t read x is = let no : None ≡ Some x = is in cc

-- what is selected of a record that stands there is what stands at the indexes
pub selected_at : (names : List (List ℕ)) (is : List ℕ) (t : Avro) (d : Data) (ds : Items) → indexes_in names t ≡ Some is → HasType t d → present t d ≡ Some (record_of ds)
    → (selected names t d ≡ Some (at_indexes is (items ds))) × AreBelow is (length (items ds))
selected_at names is t d ds found h left =
    let f = some_fields (beside_null t) (all_indexes names) is found in
    let typed : HaveTypes f.0 ds = subst (λ u. HasType u (record_of ds)) f.1 (present_typed t d (record_of ds) h left) in
    let at = values_at names f.0 ds is typed f.2 in
    let whole : selected names t d ≡ all_values names f.0 ds =
    ap (λ (o : Option Data). o >>= values_in names (beside_null t)) left ∙ ap (λ (u : Avro). values_in names u (record_of ds)) f.1 in
    (whole ∙ at.0, at.1)

items-items_of : (ds : List Data) → items (items_of ds) ≡ ds
items-items_of [] = refl
items-items_of (d ∷ ds) = ap (λ (es : List Data). d ∷ es) (items-items_of ds)

some_record : (left : Option Data) (ds : Items) → (left >>= items_in) ≡ Some ds → left ≡ Some (record_of ds)
some_record None ds is = let no : None ≡ Some ds = is in cc
some_record (Some (record_of es)) ds is = cc
some_record (Some d) ds is = let no : None ≡ Some ds = is in cc

-- the same of a record's values in memory
pub read_at : (names : List (List ℕ)) (is : List ℕ) (t : Avro) (d : Data) (values : List Datum) → indexes_in names t ≡ Some is → HasType t d
    → Some (items_of (map view values)) ≡ present_items t d
    → (Some (at_indexes is (map view values)) ≡ selected names t d) × AreBelow is (length values)
read_at names is t d values found h left =
    let at = selected_at names is t d (items_of (map view values)) found h (some_record (present t d) (items_of (map view values)) (sym left)) in
    let same = items-items_of (map view values) in
    let len : length (items (items_of (map view values))) ≡ length values = ap length same ∙ length-map values view in
    (sym (at.0 ∙ ap (λ (ds : List Data). Some (at_indexes is ds)) same), subst (AreBelow is) len at.1)

none_in : (names : List (List ℕ)) (t : Avro) (left : Option Data) → None ≡ (left >>= items_in) → None ≡ (left >>= values_in names t)
none_in names t None none = refl
none_in names t (Some (record_of ds)) none = let no : None ≡ Some ds = none in cc
none_in names (types.record_of fs) (Some d) none = refl
none_in names t (Some d) none = refl

-- nothing is selected where no record is left
pub read_none : (names : List (List ℕ)) (t : Avro) (d : Data) → None ≡ present_items t d → None ≡ selected names t d
read_none names t d none = none_in names (beside_null t) (present t d) none

-- nothing is selected where no record stands there
pub nothing_selected : (names : List (List ℕ)) (t : Avro) (d : Data) → present t d ≡ None → selected names t d ≡ None
nothing_selected names t d none = rw none refl

-- a record's datum
record_only : (fs : Fields) (d : Data) → HasType (types.record_of fs) d → (ds : Items) × (d ≡ record_of ds)
record_only fs (record_of ds) h = (ds, refl)
record_only fs d h = absurd h

left_absent : (names : List (List ℕ)) (is : List ℕ) (t : Avro) (d : Data) → indexes_in names t ≡ Some is → HasType t d → (left : Option Data) → present t d ≡ left
    → selected names t d ≡ None → left ≡ None
left_absent names is t d found h None left none = refl
left_absent names is t d found h (Some e) left none =
    let f = some_fields (beside_null t) (all_indexes names) is found in
    let r = record_only f.0 e (subst (λ u. HasType u e) f.1 (present_typed t d e h left)) in
    let at = selected_at names is t d r.0 found h (left ∙ ap Some r.1) in
    let no : None ≡ Some (at_indexes is (items r.0)) = sym none ∙ at.0 in
    cc

-- nothing is selected exactly where null stands for the record
pub absent : (names : List (List ℕ)) (is : List ℕ) (t : Avro) (d : Data) → indexes_in names t ≡ Some is → HasType t d → (selected names t d ≡ None) ↔ (present t d ≡ None)
absent names is t d found h = (left_absent names is t d found h (present t d) refl, nothing_selected names t d)

value_typed_by : (same : Bool) (name : List ℕ) (t : Avro) (fs : Fields) (d e : Data) (ds : Items) → HasType t d
    → (value_in name fs ds ≡ Some e → (u : Avro) × (type_in name fs ≡ Some u) × HasType u e)
    → (if same then Some d else value_in name fs ds) ≡ Some e → (u : Avro) × ((if same then Some t else type_in name fs) ≡ Some u) × HasType u e
value_typed_by true name t fs d e ds h later is = let same : d ≡ e = cc in (t, refl, subst (HasType t) same h)
value_typed_by false name t fs d e ds h later is = later is

-- what stands at a name has the type of its field
value_typed : (name : List ℕ) (fs : Fields) (ds : Items) (e : Data) → HaveTypes fs ds → value_in name fs ds ≡ Some e → (u : Avro) × (type_in name fs ≡ Some u) × HasType u e
value_typed name no_fields no_items e h is = let no : None ≡ Some e = is in cc
value_typed name no_fields (item d ds) e h is = absurd h
value_typed name (field other t fs) no_items e h is = absurd h
value_typed name (field other t fs) (item d ds) e h is = value_typed_by (bytes_eq name other) name t fs d e ds h.0 (value_typed name fs ds e h.1) is

values_typed : (names : List (List ℕ)) (t : Avro) (fs : Fields) (ds : Items) (all : List Data) → beside_null t ≡ types.record_of fs → HaveTypes fs ds → all_values names fs ds ≡ Some all
    → HaveFieldTypes names t all
values_typed [] t fs ds all of h is = let empty : all ≡ [] = cc in rw empty tt
values_typed (name ∷ names) t fs ds all of h is =
    let p = some_list (value_in name fs ds) (all_values names fs ds) all is in
    let one = value_typed name fs ds p.0 h p.2 in
    let here : type_of_field name t ≡ Some one.0 = rw of one.1 in
    rw p.4 ((one.0, here, one.2), values_typed names t fs ds p.1 of h p.3)

some_values : (names : List (List ℕ)) (t : Avro) (d : Data) (all : List Data) → values_in names t d ≡ Some all
    → (fs : Fields) × (ds : Items) × (t ≡ types.record_of fs) × (d ≡ record_of ds) × (all_values names fs ds ≡ Some all)
some_values names (types.record_of fs) (record_of ds) all is = (fs, ds, refl, refl, is)
some_values names (types.record_of fs) d all is = let no : None ≡ Some all = is in cc
some_values names t d all is = let no : None ≡ Some all = is in cc

left_typed : (names : List (List ℕ)) (t : Avro) (d : Data) (all : List Data) → HasType t d → (left : Option Data) → present t d ≡ left → (left >>= values_in names (beside_null t)) ≡ Some all
    → HaveFieldTypes names t all
left_typed names t d all h None left is = let no : None ≡ Some all = is in cc
left_typed names t d all h (Some e) left is =
    let v = some_values names (beside_null t) e all is in
    let typed : HasType (beside_null t) (record_of v.1) = subst (HasType (beside_null t)) v.3 (present_typed t d e h left) in
    let fields : HaveTypes v.0 v.1 = subst (λ u. HasType u (record_of v.1)) v.2 typed in
    values_typed names t v.0 v.1 all v.2 fields v.4

-- what is selected has the types of its fields
pub selected_typed : (names : List (List ℕ)) (t : Avro) (d : Data) (ds : List Data) → HasType t d → selected names t d ≡ Some ds → HaveFieldTypes names t ds
selected_typed names t d ds h is = left_typed names t d ds h (present t d) refl is
