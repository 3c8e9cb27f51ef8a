-- The JSON of a readable type is read as the type.
use Rattle.std.proofs.lemmas.Bool.Decides.{nat_tests}
use Rattle.std.proofs.Common.{◌≡◌, ℕ, ◌+◌, ◌≤◌, List, [], ◌∷◌, ◌++◌, false}
use Rattle.std.proofs.Common.{nat_lt, Some, Result, Ok, refl, ap, ◌∙◌, arith}
use Rattle.serde_json.specs.Data.{depth, items_depth}
use Rattle.serde_json.specs.Written.{has_float, items_have_float}
use Rattle.pm_avro_schema.proofs.Apart.{Apart, IsNew, Apart-split, Apart-push}
use Rattle.pm_avro_schema.specs.Avro.{Avro, null, boolean, int, long, bytes, text, record_of}
use Rattle.pm_avro_schema.specs.Avro.{array_of, map_of, union_of, Fields, no_fields, field}
use Rattle.pm_avro_schema.specs.Avro.{Branches, no_branches, branch, takes_no_byte}
use Rattle.pm_base.specs.Outcome.{◌>>=◌}
use Rattle.pm_avro_schema.specs.Readable.{KeepsBounds, FieldsKeepBounds, BranchesKeepBounds}
use Rattle.pm_avro_schema.specs.Readable.{max_around, levels, fields_levels, branches_levels}
use Rattle.pm_avro_schema.specs.Reading.{type_at, branches_at, fields_at, nested}
use Rattle.pm_avro_schema.specs.Reading.{array_with, array_from, map_from, field_with}
use Rattle.pm_avro_schema.specs.Writing.{records, json_of, fields_json, branches_json}
use Rattle.pm_avro_schema.specs.declared.fault.AvroFault.{AvroFault}

not_deep : (n : ℕ) → n ≤ max_around → nat_lt max_around n ≡ false
not_deep n h = grind (arith, nat_tests)

pub nested-within : {A : Type 0} (n : ℕ) (inner : Result A AvroFault) → n ≤ max_around → nested n inner ≡ inner
nested-within n inner h = rw (not_deep n h)

pub array_with-filled : (t : Avro) → takes_no_byte t ≡ false → array_with t ≡ Ok (array_of t)
array_with-filled t h = rw h

pub field_with-new : (name : List ℕ) (before : List (List ℕ)) (kind : Result Avro AvroFault) (t : Avro) → IsNew name before → kind ≡ Ok t → field_with (Some name) before kind ≡ Ok (name, t)
field_with-new name before kind t new is = rw (new, is)

mutual
  pub type_at-json_of : (t : Avro) (k n : ℕ) → KeepsBounds t n → type_at (json_of t k) n ≡ Ok t
  type_at-json_of null k n h = refl
  type_at-json_of boolean k n h = refl
  type_at-json_of int k n h = refl
  type_at-json_of long k n h = refl
  type_at-json_of bytes k n h = refl
  type_at-json_of text k n h = refl
  type_at-json_of (record_of fs) k n h = ap (λ r. r >>= λ gs. Ok (record_of gs)) (fields_at-fields_json fs (k + 1) [] (n + 1) h tt)
  type_at-json_of (array_of t) k n h =
      nested-within n _ h.0 ∙ ap array_from (type_at-json_of t k (n + 1) h.2) ∙ array_with-filled t h.1
  type_at-json_of (map_of t) k n h = nested-within n _ h.0 ∙ ap map_from (type_at-json_of t k (n + 1) h.1)
  type_at-json_of (union_of ts) k n h = ap (λ r. r >>= λ us. Ok (union_of us)) (branches_at-branches_json ts k (n + 1) h)

  fields_at-fields_json : (fs : Fields) (k : ℕ) (before : List (List ℕ)) (n : ℕ) → FieldsKeepBounds fs n → Apart before fs → fields_at (fields_json fs k) before n ≡ Ok fs
  fields_at-fields_json no_fields k before n h apart = refl
  fields_at-fields_json (field name t fs) k before n h apart =
      let parts = Apart-split before name t fs apart in
      let here = field_with-new name before (type_at (json_of t k) n) t parts.0 (type_at-json_of t k n h.1) in
      let rest = fields_at-fields_json fs (k + records t) (before ++ name ∷ []) n h.2 (Apart-push before name fs parts.1 h.0) in
      ap (λ r. r >>= λ f. fields_at (fields_json fs (k + records t)) (before ++ f.0 ∷ []) n >>= λ gs. Ok (field f.0 f.1 gs)) here ∙ ap (λ r. r >>= λ gs. Ok (field name t gs)) rest

  branches_at-branches_json : (ts : Branches) (k n : ℕ) → BranchesKeepBounds ts n → branches_at (branches_json ts k) n ≡ Ok ts
  branches_at-branches_json no_branches k n h = refl
  branches_at-branches_json (branch t ts) k n h =
      let here = type_at-json_of t k n h.0 in
      let rest = branches_at-branches_json ts (k + records t) n h.1 in
      ap (λ r. r >>= λ u. branches_at (branches_json ts (k + records t)) n >>= λ us. Ok (branch u us)) here ∙ ap (λ r. r >>= λ us. Ok (branch t us)) rest

mutual
  pub depth-json_of : (t : Avro) (k : ℕ) → depth (json_of t k) ≡ levels t
  depth-json_of null k = refl
  depth-json_of boolean k = refl
  depth-json_of int k = refl
  depth-json_of long k = refl
  depth-json_of bytes k = refl
  depth-json_of text k = refl
  depth-json_of (record_of fs) k = let inner = items_depth-fields_json fs (k + 1) in omega arith
  depth-json_of (array_of t) k = let inner = depth-json_of t k in omega arith
  depth-json_of (map_of t) k = let inner = depth-json_of t k in omega arith
  depth-json_of (union_of ts) k = let inner = items_depth-branches_json ts k in omega arith

  items_depth-fields_json : (fs : Fields) (k : ℕ) → items_depth (fields_json fs k) ≡ fields_levels fs
  items_depth-fields_json no_fields k = refl
  items_depth-fields_json (field name t fs) k =
      let here = depth-json_of t k in
      let rest = items_depth-fields_json fs (k + records t) in
      omega arith

  items_depth-branches_json : (ts : Branches) (k : ℕ) → items_depth (branches_json ts k) ≡ branches_levels ts
  items_depth-branches_json no_branches k = refl
  items_depth-branches_json (branch t ts) k =
      let here = depth-json_of t k in
      let rest = items_depth-branches_json ts (k + records t) in
      omega arith

mutual
  pub has_float-json_of : (t : Avro) (k : ℕ) → has_float (json_of t k) ≡ false
  has_float-json_of null k = refl
  has_float-json_of boolean k = refl
  has_float-json_of int k = refl
  has_float-json_of long k = refl
  has_float-json_of bytes k = refl
  has_float-json_of text k = refl
  has_float-json_of (record_of fs) k = rw (items_have_float-fields_json fs (k + 1))
  has_float-json_of (array_of t) k = rw (has_float-json_of t k)
  has_float-json_of (map_of t) k = rw (has_float-json_of t k)
  has_float-json_of (union_of ts) k = items_have_float-branches_json ts k

  items_have_float-fields_json : (fs : Fields) (k : ℕ) → items_have_float (fields_json fs k) ≡ false
  items_have_float-fields_json no_fields k = refl
  items_have_float-fields_json (field name t fs) k = rw (has_float-json_of t k, items_have_float-fields_json fs (k + records t))

  items_have_float-branches_json : (ts : Branches) (k : ℕ) → items_have_float (branches_json ts k) ≡ false
  items_have_float-branches_json no_branches k = refl
  items_have_float-branches_json (branch t ts) k = rw (has_float-json_of t k, items_have_float-branches_json ts (k + records t))
