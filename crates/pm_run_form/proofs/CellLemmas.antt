-- What stands at the names of a record's fields, where the names differ.
use Rattle.std.proofs.Common.{◌≡◌, ℕ, zero, suc, Bool, true, false, List, [], ◌∷◌, ◌++◌, map, Option, None, Some, option_map, refl, sym, ap, subst, ◌∙◌, append_assoc}
use Rattle.std.specs.Prelude.{not, ◌||◌, is_some, if◌then◌else◌}
use Rattle.std.specs.List.{list_any, AllByRecursion}
use Rattle.std.specs.Str.{bytes_eq}
use Rattle.std.proofs.lemmas.Bool.{and_parts}
use Rattle.std.proofs.lemmas.List.{map-append}
use Rattle.std.proofs.lemmas.Slice.Eq.{bytes_eq-Decides}
use Rattle.pm_base.specs.Steps.{◌>>=◌}
use Rattle.pm_avro_schema.specs.Avro.{Avro, Fields}
use Rattle.pm_avro_schema.specs.Readable.{has_name}
use Rattle.pm_avro_schema.specs.View.{fields_of}
use Rattle.pm_avro_data.specs.Datum.{Data, Items, items_of}
use Rattle.pm_record.specs.Record.{all_differ, all_indexes, all_values, index_in, type_in, value_in}

-- a field with its type and a datum
pub record Cell : Type 0 where
  pub name : List ℕ
  pub kind : Avro
  pub datum : Data

abbrev pub field_of_cell : Cell → List ℕ × Avro
field_of_cell c = (c.name, c.kind)

abbrev pub names_in : List Cell → List (List ℕ)
names_in cells = map (λ (c : Cell). c.name) cells

abbrev pub fields_in : List Cell → Fields
fields_in cells = fields_of (map field_of_cell cells)

abbrev pub data_in : List Cell → List Data
data_in cells = map (λ (c : Cell). c.datum) cells

abbrev pub items_in : List Cell → Items
items_in cells = items_of (data_in cells)

-- ---- names that differ

-- a name is none of others
abbrev pub IsNone : List ℕ → List (List ℕ) → Type 0
IsNone name others = AllByRecursion (λ (other : List ℕ). bytes_eq name other ≡ false) others

pub eq_itself : (a : List ℕ) → bytes_eq a a ≡ true
eq_itself a = (bytes_eq-Decides a a).1 refl

eq_back : (a b : List ℕ) → bytes_eq a b ≡ false → bytes_eq b a ≡ false
eq_back a b e = by_test (bytes_eq b a) refl
  where
    by_test : (t : Bool) → bytes_eq b a ≡ t → t ≡ false
    by_test false is = refl
    by_test true is =
        let same : b ≡ a = (bytes_eq-Decides b a).0 is in
        let yes : bytes_eq a b ≡ true = (bytes_eq-Decides a b).1 (sym same) in
        let no : true ≡ false = sym yes ∙ e in
        cc

is_false : (b : Bool) → not b ≡ true → b ≡ false
is_false true is = let no : false ≡ true = is in cc
is_false false is = refl

none_of_either : (a b : Bool) → (a || b) ≡ false → (a ≡ false) × (b ≡ false)
none_of_either true b is = let no : true ≡ false = is in cc
none_of_either false b is = (refl, is)

-- a name that is none of some names is not the one among them
not_later : (name other : List ℕ) (first later : List (List ℕ)) → list_any (bytes_eq name) (first ++ other ∷ later) ≡ false → bytes_eq name other ≡ false
not_later name other [] later e = (none_of_either (bytes_eq name other) (list_any (bytes_eq name) later) e).0
not_later name other (a ∷ first) later e =
    not_later name other first later (none_of_either (bytes_eq name a) (list_any (bytes_eq name) (first ++ other ∷ later)) e).1

-- of names that differ each is none of those before it
none_before : (name : List ℕ) (first later : List (List ℕ)) → all_differ (first ++ name ∷ later) ≡ true → IsNone name first
none_before name [] later e = tt
none_before name (a ∷ first) later e =
    let parts = and_parts (not (list_any (bytes_eq a) (first ++ name ∷ later))) (all_differ (first ++ name ∷ later)) e in
    (eq_back a name (not_later a name first later (is_false (list_any (bytes_eq a) (first ++ name ∷ later)) parts.0)), none_before name first later parts.1)

-- ---- one field

module _ (c : Cell) (later : List Cell) where
  value_after : (first : List Cell) → IsNone c.name (names_in first) → value_in c.name (fields_in (first ++ c ∷ later)) (items_in (first ++ c ∷ later)) ≡ Some c.datum
  value_after [] none = rw (eq_itself c.name) refl
  value_after (a ∷ first) none = rw none.0 (value_after first none.1)

  type_after : (first : List Cell) → IsNone c.name (names_in first) → type_in c.name (fields_in (first ++ c ∷ later)) ≡ Some c.kind
  type_after [] none = rw (eq_itself c.name) refl
  type_after (a ∷ first) none = rw none.0 (type_after first none.1)

  index_after : (first : List Cell) → is_some (index_in c.name (fields_in (first ++ c ∷ later))) ≡ true
  index_after [] = rw (eq_itself c.name) refl
  index_after (a ∷ first) = some_by (bytes_eq c.name a.name) (index_in c.name (fields_in (first ++ c ∷ later))) (index_after first)
    where
      some_by : (b : Bool) (found : Option ℕ) → is_some found ≡ true → is_some (if b then Some zero else option_map suc found) ≡ true
      some_by true found is = refl
      some_by false (Some i) is = refl
      some_by false None is = is

-- ---- many fields

none_in : (c : Cell) (first later : List Cell) → all_differ (names_in (first ++ c ∷ later)) ≡ true → IsNone c.name (names_in first)
none_in c first later e =
    none_before c.name (names_in first) (names_in later) (subst (λ (ns : List (List ℕ)). all_differ ns ≡ true) (map-append (λ (x : Cell). x.name) first (c ∷ later)) e)

module _ (whole : List Cell) (differ : all_differ (names_in whole) ≡ true) where
  some_values : (name : List ℕ) (d : Data) (names : List (List ℕ)) (ds : List Data) → value_in name (fields_in whole) (items_in whole) ≡ Some d
      → all_values names (fields_in whole) (items_in whole) ≡ Some ds → all_values (name ∷ names) (fields_in whole) (items_in whole) ≡ Some (d ∷ ds)
  some_values name d names ds one more = rw (one, more) refl

  -- what stands at the names of some fields is their data
  pub values_found : (first part later : List Cell) → whole ≡ first ++ (part ++ later) → all_values (names_in part) (fields_in whole) (items_in whole) ≡ Some (data_in part)
  values_found first [] later is = refl
  values_found first (c ∷ part) later is =
      let here : whole ≡ first ++ c ∷ (part ++ later) = is in
      let none = none_in c first (part ++ later) (subst (λ (cells : List Cell). all_differ (names_in cells) ≡ true) here differ) in
      let one = subst (λ (cells : List Cell). value_in c.name (fields_in cells) (items_in cells) ≡ Some c.datum) (sym here) (value_after c (part ++ later) first none) in
      let more = values_found (first ++ c ∷ []) part later (here ∙ sym (append_assoc first (c ∷ []) (part ++ later))) in
      some_values c.name c.datum (names_in part) (data_in part) one more

  -- and their types
  pub types_found : (first part later : List Cell) → whole ≡ first ++ (part ++ later) → AllByRecursion (λ (c : Cell). type_in c.name (fields_in whole) ≡ Some c.kind) part
  types_found first [] later is = tt
  types_found first (c ∷ part) later is =
      let here : whole ≡ first ++ c ∷ (part ++ later) = is in
      let none = none_in c first (part ++ later) (subst (λ (cells : List Cell). all_differ (names_in cells) ≡ true) here differ) in
      let one = subst (λ (cells : List Cell). type_in c.name (fields_in cells) ≡ Some c.kind) (sym here) (type_after c (part ++ later) first none) in
      (one, types_found (first ++ c ∷ []) part later (here ∙ sym (append_assoc first (c ∷ []) (part ++ later))))

-- they have indexes
pub indexes_found : (whole first part later : List Cell) → whole ≡ first ++ (part ++ later) → AllByRecursion (λ (name : List ℕ). is_some (index_in name (fields_in whole)) ≡ true) (names_in part)
indexes_found whole first [] later is = tt
indexes_found whole first (c ∷ part) later is =
    let here : whole ≡ first ++ c ∷ (part ++ later) = is in
    let one = subst (λ (cells : List Cell). is_some (index_in c.name (fields_in cells)) ≡ true) (sym here) (index_after c (part ++ later) first) in
    (one, indexes_found whole (first ++ c ∷ []) part later (here ∙ sym (append_assoc first (c ∷ []) (part ++ later))))

both_some : (one : Option ℕ) (more : Option (List ℕ)) → is_some one ≡ true → is_some more ≡ true → is_some (one >>= λ i. more >>= λ is. Some (i ∷ is)) ≡ true
both_some (Some i) (Some is) p q = refl
both_some None more p q = p
both_some (Some i) None p q = q

-- each of the names has an index, so all have
pub all_indexed : (fs : Fields) (names : List (List ℕ)) → AllByRecursion (λ (name : List ℕ). is_some (index_in name fs) ≡ true) names → is_some (all_indexes names fs) ≡ true
all_indexed fs [] each = refl
all_indexed fs (name ∷ names) each = both_some (index_in name fs) (all_indexes names fs) each.0 (all_indexed fs names each.1)

-- what stands at names and at further ones
pub all_values-append : (ns ms : List (List ℕ)) (fs : Fields) (ds : Items) (xs ys : List Data) → all_values ns fs ds ≡ Some xs → all_values ms fs ds ≡ Some ys
    → all_values (ns ++ ms) fs ds ≡ Some (xs ++ ys)
all_values-append [] ms fs ds xs ys p q = let none : xs ≡ [] = let e : Some [] ≡ Some xs = p in cc in rw none q
all_values-append (n ∷ ns) ms fs ds xs ys p q = by_parts (value_in n fs ds) (all_values ns fs ds) refl refl (λ later b. all_values-append ns ms fs ds later ys b q) p
  where
    by_parts : (one : Option Data) (more : Option (List Data)) → value_in n fs ds ≡ one → all_values ns fs ds ≡ more → ((later : List Data) → all_values ns fs ds ≡ Some later → all_values (ns ++ ms) fs ds ≡ Some (later ++ ys)) → (one >>= λ d. more >>= λ later. Some (d ∷ later)) ≡ Some xs
        → all_values (n ∷ (ns ++ ms)) fs ds ≡ Some (xs ++ ys)
    by_parts None more a b rest e = let no : None ≡ Some xs = e in cc
    by_parts (Some d) None a b rest e = let no : None ≡ Some xs = e in cc
    by_parts (Some d) (Some later) a b rest e =
        let same : d ∷ later ≡ xs = cc in
        rw (a, rest later b, ← same) refl

-- ---- a record's type is read

none_any : (name : List ℕ) (cells : List Cell) → list_any (bytes_eq name) (names_in cells) ≡ has_name name (fields_in cells)
none_any name [] = refl
none_any name (c ∷ cells) = ap (λ (b : Bool). bytes_eq name c.name || b) (none_any name cells)

-- of names that differ none stands again later
pub names_apart : (c : Cell) (cells : List Cell) → all_differ (names_in (c ∷ cells)) ≡ true → (has_name c.name (fields_in cells) ≡ false) × (all_differ (names_in cells) ≡ true)
names_apart c cells e =
    let parts = and_parts (not (list_any (bytes_eq c.name) (names_in cells))) (all_differ (names_in cells)) e in
    (sym (none_any c.name cells) ∙ is_false (list_any (bytes_eq c.name) (names_in cells)) parts.0, parts.1)
