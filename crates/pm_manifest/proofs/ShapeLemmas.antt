-- Keys and their parts, and the columns of a key.
use Rattle.std.proofs.Common.{◌≡◌, ℕ, suc, ◌+◌, min, Bool, true, false, ltb, List, [], ◌∷◌, length, map, drop}
use Rattle.std.proofs.Common.{Option, None, Some, refl, sym, ap, ◌∙◌, arith, inl, inr}
use Rattle.std.specs.Prelude.{not, is_none, filter}
use Rattle.std.specs.List.{list_any, position, position_or_len}
use Rattle.std.specs.Str.{bytes_eq}
use Rattle.std.proofs.lemmas.Bool.{cases_lt, lt-ltb, le-ltb}
use Rattle.std.proofs.lemmas.List.{drop_all}
use Rattle.pm_values.specs.declared.column.Column.{Column}
use Rattle.pm_values.specs.Order.{Values}
use Rattle.pm_schema.specs.declared.schema.TableSchema.{TableSchema}
use Rattle.pm_manifest.specs.Shape.{HasRest, apart_from, key_of, rest_of, shape_of, type_of}

-- ---- which columns of a key are the partition's

ltb-more : (a b n m : ℕ) → n ≡ a + 1 → m ≡ b + 1 → ltb n m ≡ ltb a b
ltb-more a b n m e f = elim (cases_lt a b) [
  | inl lt ↦ lt-ltb n m (omega arith) ∙ sym (lt-ltb a b lt)
  | inr le ↦ le-ltb n m (omega arith) ∙ sym (le-ltb a b le)
]

found_by : {X : Type 0} (p : X → Bool) (b : Bool) (x : X) (xs : List X) → p x ≡ b → ltb (position_or_len p xs) (length xs) ≡ list_any p xs
    → ltb (position_or_len p (x ∷ xs)) (length (x ∷ xs)) ≡ list_any p (x ∷ xs)
found_by p true x xs e later = rw e (lt-ltb 0 (suc (length xs)) (omega arith))
found_by p false x xs e later = rw e (ltb-more (position_or_len p xs) (length xs) _ _ (omega arith) (omega arith) ∙ later)

found : {X : Type 0} (p : X → Bool) (xs : List X) → ltb (position_or_len p xs) (length xs) ≡ list_any p xs
found p [] = refl
found p (x ∷ xs) = found_by p (p x) x xs refl (found p xs)

-- an index is found exactly where some item is the one
pub position_none : {X : Type 0} (p : X → Bool) (xs : List X) → is_none (position p xs) ≡ not (list_any p xs)
position_none p xs = none_by (list_any p xs) (found p xs)
  where
    none_by : (b : Bool) → ltb (position_or_len p xs) (length xs) ≡ b → is_none (position p xs) ≡ not b
    none_by true e = rw e refl
    none_by false e = rw e refl

-- one more name of a key
counted_by : (columns : List Column) (others names : List (List ℕ)) (name : List ℕ) (b : Bool) → is_none (position (bytes_eq name) others) ≡ not b
    → list_any (bytes_eq name) others ≡ b
    → length (filter is_none (map (λ n. position (bytes_eq n) others) names)) ≡ length (map (type_of columns) (apart_from others names))
    → length (filter is_none (map (λ n. position (bytes_eq n) others) (name ∷ names))) ≡ length (map (type_of columns) (apart_from others (name ∷ names)))
counted_by columns others names name true e f later = rw (e, f) later
counted_by columns others names name false e f later = rw (e, f) (ap suc later)

counted : (columns : List Column) (others names : List (List ℕ))
    → length (filter is_none (map (λ n. position (bytes_eq n) others) names)) ≡ length (map (type_of columns) (apart_from others names))
counted columns others [] = refl
counted columns others (name ∷ names) =
    counted_by columns others names name (list_any (bytes_eq name) others) (position_none (bytes_eq name) others) refl (counted columns others names)

-- a table's shape has a type for each column of the key that isn't the partition's
pub shape_of-HasRest : (s : TableSchema) → HasRest (shape_of s)
shape_of-HasRest s = counted s.columns s.partition s.primary

-- ---- keys

-- what is left of a key without the partition's values is what it was made of
pub rest_of-key_of : (places : List (Option ℕ)) (partition rest : Values) → length (filter is_none places) ≡ length rest → rest_of places (key_of places partition rest) ≡ rest
rest_of-key_of [] partition [] e = refl
rest_of-key_of [] partition (value ∷ rest) e = absurd (omega arith)
rest_of-key_of (Some i ∷ places) partition rest e = rest_of-key_of places partition rest e
rest_of-key_of (None ∷ places) partition [] e = absurd (omega arith)
rest_of-key_of (None ∷ places) partition (value ∷ rest) e = ap (λ (vs : Values). value ∷ vs) (rest_of-key_of places partition rest (omega arith))

-- where places or values end, no more are taken
pub rest_end : (places : List (Option ℕ)) (key : Values) (n : ℕ) → n ≡ min (length places) (length key) → rest_of (drop n places) (drop n key) ≡ []
rest_end places key n e = elim (cases_lt (length places) (length key)) [
  | inl lt ↦ rw (drop_all n places (omega arith)) refl
  | inr le ↦ ended (drop n places) (drop n key) (drop_all n key (omega arith))
]
  where
    ended : (left : List (Option ℕ)) (values : Values) → values ≡ [] → rest_of left values ≡ []
    ended [] values none = refl
    ended (Some i ∷ left) values none = rw none refl
    ended (None ∷ left) values none = rw none refl
