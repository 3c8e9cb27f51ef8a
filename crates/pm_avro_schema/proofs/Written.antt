-- Lists of JSON values, written one after another.
use Rattle.std.proofs.Common.{◌≡◌, ℕ, ◌+◌, ◌<◌, ◌≤◌, List, [], ◌∷◌, ◌++◌, codes}
use Rattle.std.proofs.Common.{length, drop, get_or, refl, sym, ap, ◌∙◌, add-one}
use Rattle.std.proofs.Math.Seq.{drop-cons}
use Rattle.std.proofs.lemmas.List.{drop_all}
use Rattle.serde_json.specs.Data.{Data, string, object, member, no_members, Items, no_items, item}
use Rattle.serde_json.specs.View.{items_of}
use Rattle.pm_avro_schema.specs.Avro.{field, branch}
use Rattle.pm_avro_schema.specs.Writing.{records, fields_records, branches_records, json_of, fields_json, branches_json}
use Rattle.pm_avro_schema.specs.View.{view, fields_view, branches_view}
use Rattle.pm_avro_schema.specs.declared.kind.AvroType.{AvroType}

-- the values so far, and those that are still to be written
abbrev pub items_before : List Data → Items → Items
items_before [] rest = rest
items_before (d ∷ ds) rest = item d (items_before ds rest)

items_before-push : (ds : List Data) (d : Data) (rest : Items) → items_before ds (item d rest) ≡ items_before (ds ++ d ∷ []) rest
items_before-push [] d rest = refl
items_before-push (e ∷ ds) d rest = ap (item e) (items_before-push ds d rest)

items_before-end : (ds : List Data) → items_before ds no_items ≡ items_of ds
items_before-end [] = refl
items_before-end (e ∷ ds) = ap (item e) (items_before-end ds)

-- the field at an index, and the fields after it
pub fields_view-next : (fs : List (List ℕ × AvroType)) (i : ℕ) (f : List ℕ × AvroType) → i < length fs → f ≡ get_or fs i f → fields_view (drop i fs) ≡ field f.0 (view f.1) (fields_view (drop (i + 1) fs))
fields_view-next fs i f h is =
    let cut : drop i fs ≡ get_or fs i f ∷ drop (i + 1) fs = rw (add-one, drop-cons fs i f) in
    ap fields_view cut ∙ ap (λ (g : List ℕ × AvroType). field g.0 (view g.1) (fields_view (drop (i + 1) fs))) (sym is)

pub branches_view-next : (ts : List AvroType) (i : ℕ) (t : AvroType) → i < length ts → t ≡ get_or ts i t → branches_view (drop i ts) ≡ branch (view t) (branches_view (drop (i + 1) ts))
branches_view-next ts i t h is =
    let cut : drop i ts ≡ get_or ts i t ∷ drop (i + 1) ts = rw (add-one, drop-cons ts i t) in
    ap branches_view cut ∙ ap (λ (u : AvroType). branch (view u) (branches_view (drop (i + 1) ts))) (sym is)

abbrev pub field_json : List ℕ → Data → Data
field_json name d = object (member (codes "name") (string name) (member (codes "type") d no_members))

-- a field that was written comes after those so far
pub fields_json-next : (ds : List Data) (fs : List (List ℕ × AvroType)) (i k next : ℕ) (f : List ℕ × AvroType) (d : Data) → i < length fs → f ≡ get_or fs i f → d ≡ field_json f.0 (json_of (view f.1) k) → next ≡ k + records (view f.1)
    → items_before ds (fields_json (fields_view (drop i fs)) k) ≡ items_before (ds ++ d ∷ []) (fields_json (fields_view (drop (i + 1) fs)) next)
fields_json-next ds fs i k next f d h is written counted =
    let rest = fields_view (drop (i + 1) fs) in
    ap (λ gs. items_before ds (fields_json gs k)) (fields_view-next fs i f h is)
    ∙ items_before-push ds (field_json f.0 (json_of (view f.1) k)) (fields_json rest (k + records (view f.1)))
    ∙ ap (λ e. items_before (ds ++ e ∷ []) (fields_json rest (k + records (view f.1)))) (sym written)
    ∙ ap (λ m. items_before (ds ++ d ∷ []) (fields_json rest m)) (sym counted)

pub branches_json-next : (ds : List Data) (ts : List AvroType) (i k next : ℕ) (t : AvroType) (d : Data) → i < length ts → t ≡ get_or ts i t → d ≡ json_of (view t) k → next ≡ k + records (view t)
    → items_before ds (branches_json (branches_view (drop i ts)) k) ≡ items_before (ds ++ d ∷ []) (branches_json (branches_view (drop (i + 1) ts)) next)
branches_json-next ds ts i k next t d h is written counted =
    let rest = branches_view (drop (i + 1) ts) in
    ap (λ us. items_before ds (branches_json us k)) (branches_view-next ts i t h is)
    ∙ items_before-push ds (json_of (view t) k) (branches_json rest (k + records (view t)))
    ∙ ap (λ e. items_before (ds ++ e ∷ []) (branches_json rest (k + records (view t)))) (sym written)
    ∙ ap (λ m. items_before (ds ++ d ∷ []) (branches_json rest m)) (sym counted)

-- after the last one the values so far are all
pub fields_json-end : (ds : List Data) (fs : List (List ℕ × AvroType)) (i k : ℕ) (all : Items) → length fs ≤ i → items_before ds (fields_json (fields_view (drop i fs)) k) ≡ all → items_of ds ≡ all
fields_json-end ds fs i k all h whole = sym (items_before-end ds) ∙ sym (ap (λ gs. items_before ds (fields_json (fields_view gs) k)) (drop_all i fs h)) ∙ whole

pub branches_json-end : (ds : List Data) (ts : List AvroType) (i k : ℕ) (all : Items) → length ts ≤ i → items_before ds (branches_json (branches_view (drop i ts)) k) ≡ all → items_of ds ≡ all
branches_json-end ds ts i k all h whole = sym (items_before-end ds) ∙ sym (ap (λ us. items_before ds (branches_json (branches_view us) k)) (drop_all i ts h)) ∙ whole

-- the records of what is left, once one more is written
pub fields_records-next : (fs : List (List ℕ × AvroType)) (i : ℕ) (f : List ℕ × AvroType) → i < length fs → f ≡ get_or fs i f → fields_records (fields_view (drop i fs)) ≡ records (view f.1) + fields_records (fields_view (drop (i + 1) fs))
fields_records-next fs i f h is = ap fields_records (fields_view-next fs i f h is)

pub branches_records-next : (ts : List AvroType) (i : ℕ) (t : AvroType) → i < length ts → t ≡ get_or ts i t → branches_records (branches_view (drop i ts)) ≡ records (view t) + branches_records (branches_view (drop (i + 1) ts))
branches_records-next ts i t h is = ap branches_records (branches_view-next ts i t h is)

pub fields_records-end : (fs : List (List ℕ × AvroType)) (i : ℕ) → length fs ≤ i → fields_records (fields_view (drop i fs)) ≡ 0
fields_records-end fs i h = ap (λ gs. fields_records (fields_view gs)) (drop_all i fs h)

pub branches_records-end : (ts : List AvroType) (i : ℕ) → length ts ≤ i → branches_records (branches_view (drop i ts)) ≡ 0
branches_records-end ts i h = ap (λ us. branches_records (branches_view us)) (drop_all i ts h)
