-- Lists of branches and of fields, read one after another.
use Rattle.std.proofs.Common.{◌≡◌, ℕ, ◌+◌, ◌<◌, ◌≤◌, zero, suc, List, [], ◌∷◌, ◌++◌, length, drop}
use Rattle.std.proofs.Common.{get_or, Result, Ok, Err, refl, sym, ap, ◌∙◌, add-one, arith}
use Rattle.std.proofs.Math.Seq.{drop-cons}
use Rattle.std.proofs.lemmas.List.{drop_all}
use Rattle.serde_json.specs.Data.{Items, item, depth, items_depth}
use Rattle.serde_json.specs.View.{view as json_view, items_view}
use Rattle.serde_json.specs.declared.value.Value.{Value}
use Rattle.pm_avro_schema.specs.Avro.{Avro, Fields, no_fields, field, Branches, no_branches, branch}
use Rattle.pm_base.specs.Outcome.{◌>>=◌}
use Rattle.pm_avro_schema.specs.Reading.{type_at, branches_at, fields_at, field_at}
use Rattle.pm_avro_schema.specs.View.{branches_of}
use Rattle.pm_avro_schema.specs.View as view
use Rattle.pm_avro_schema.specs.declared.fault.AvroFault.{AvroFault}

abbrev pub branches_before : List Avro → Branches → Branches
branches_before [] ts = ts
branches_before (t ∷ us) ts = branch t (branches_before us ts)

-- the branches so far, and those that are still to be read
abbrev pub with_branches : List Avro → Result Branches AvroFault → Result Branches AvroFault
with_branches before r = r >>= λ ts. Ok (branches_before before ts)

abbrev pub fields_before : List (List ℕ × Avro) → Fields → Fields
fields_before [] fs = fs
fields_before (f ∷ gs) fs = field f.0 f.1 (fields_before gs fs)

abbrev pub with_fields : List (List ℕ × Avro) → Result Fields AvroFault → Result Fields AvroFault
with_fields before r = r >>= λ fs. Ok (fields_before before fs)

depth-item : (vs : List Value) (i : ℕ) (d : Value) → i < length vs → depth (json_view (get_or vs i d)) ≤ items_depth (items_view vs)
depth-item [] i d h = absurd (omega arith)
depth-item (v ∷ vs) zero d h = omega arith
depth-item (v ∷ vs) (suc i) d h = let below = depth-item vs i d (omega arith) in omega arith

-- an item nests no deeper than the list's items
pub depth-value : (vs ws : List Value) (i : ℕ) (v : Value) → ws ≡ vs → i < length ws → v ≡ get_or ws i v → depth (json_view v) ≤ items_depth (items_view vs)
depth-value vs ws i v same h is =
    let within = depth-item ws i v h in
    let here = ap (λ w. depth (json_view w)) is in
    let there = ap (λ us. items_depth (items_view us)) same in
    omega arith

next_item : (vs : List Value) (i : ℕ) (v : Value) → i < length vs → v ≡ get_or vs i v → items_view (drop i vs) ≡ item (json_view v) (items_view (drop (i + 1) vs))
next_item vs i v h is =
    let cut : drop i vs ≡ get_or vs i v ∷ drop (i + 1) vs = rw (add-one, drop-cons vs i v) in
    ap items_view cut ∙ ap (λ w. item (json_view w) (items_view (drop (i + 1) vs))) (sym is)

branches_before-push : (us : List Avro) (t : Avro) (ts : Branches) → branches_before us (branch t ts) ≡ branches_before (us ++ t ∷ []) ts
branches_before-push [] t ts = refl
branches_before-push (u ∷ us) t ts = ap (branch u) (branches_before-push us t ts)

branches_before-end : (us : List Avro) → branches_before us no_branches ≡ branches_of us
branches_before-end [] = refl
branches_before-end (u ∷ us) = ap (branch u) (branches_before-end us)

with_branches-push : (us : List Avro) (t : Avro) (r : Result Branches AvroFault) → with_branches us (r >>= λ ts. Ok (branch t ts)) ≡ with_branches (us ++ t ∷ []) r
with_branches-push us t (Ok ts) = ap Ok (branches_before-push us t ts)
with_branches-push us t (Err e) = refl

-- a branch that was read comes after those so far
pub with_branches-next : (us : List Avro) (vs : List Value) (i n : ℕ) (v : Value) (t : Avro) → i < length vs → v ≡ get_or vs i v → type_at (json_view v) n ≡ Ok t
    → with_branches us (branches_at (items_view (drop i vs)) n) ≡ with_branches (us ++ t ∷ []) (branches_at (items_view (drop (i + 1) vs)) n)
with_branches-next us vs i n v t h is read =
    ap (λ ds. with_branches us (branches_at ds n)) (next_item vs i v h is) ∙ ap (λ r. with_branches us (r >>= λ u. branches_at (items_view (drop (i + 1) vs)) n >>= λ ts. Ok (branch u ts))) read
    ∙ with_branches-push us t (branches_at (items_view (drop (i + 1) vs)) n)

-- after the last item the branches so far are all
pub with_branches-end : (us : List Avro) (vs : List Value) (i n : ℕ) (all : Result Branches AvroFault) → length vs ≤ i → with_branches us (branches_at (items_view (drop i vs)) n) ≡ all → all ≡ Ok (branches_of us)
with_branches-end us vs i n all h whole = sym whole ∙ ap (λ ws. with_branches us (branches_at (items_view ws) n)) (drop_all i vs h) ∙ ap Ok (branches_before-end us)

fields_before-push : (gs : List (List ℕ × Avro)) (f : List ℕ × Avro) (fs : Fields) → fields_before gs (field f.0 f.1 fs) ≡ fields_before (gs ++ f ∷ []) fs
fields_before-push [] f fs = refl
fields_before-push (g ∷ gs) f fs = ap (field g.0 g.1) (fields_before-push gs f fs)

fields_before-end : (gs : List (List ℕ × Avro)) → fields_before gs no_fields ≡ view.fields_of gs
fields_before-end [] = refl
fields_before-end (g ∷ gs) = ap (field g.0 g.1) (fields_before-end gs)

with_fields-push : (gs : List (List ℕ × Avro)) (f : List ℕ × Avro) (r : Result Fields AvroFault) → with_fields gs (r >>= λ fs. Ok (field f.0 f.1 fs)) ≡ with_fields (gs ++ f ∷ []) r
with_fields-push gs f (Ok fs) = ap Ok (fields_before-push gs f fs)
with_fields-push gs f (Err e) = refl

-- what is read of fields after those so far, once a field's reading is known
abbrev after_field : List (List ℕ × Avro) → Items → List (List ℕ) → ℕ → Result (List ℕ × Avro) AvroFault → Result Fields AvroFault
after_field gs ds before n r = with_fields gs (r >>= λ f. fields_at ds (before ++ f.0 ∷ []) n >>= λ fs. Ok (field f.0 f.1 fs))

-- a field that was read comes after those so far
pub with_fields-next : (gs : List (List ℕ × Avro)) (before : List (List ℕ)) (vs : List Value) (i n : ℕ) (v : Value) (f : List ℕ × Avro) → i < length vs → v ≡ get_or vs i v → field_at (json_view v) before n ≡ Ok f
    → with_fields gs (fields_at (items_view (drop i vs)) before n) ≡ with_fields (gs ++ f ∷ []) (fields_at (items_view (drop (i + 1) vs)) (before ++ f.0 ∷ []) n)
with_fields-next gs before vs i n v f h is read =
    let rest = items_view (drop (i + 1) vs) in
    ap (λ ds. with_fields gs (fields_at ds before n)) (next_item vs i v h is) ∙ ap (after_field gs rest before n) read ∙ with_fields-push gs f (fields_at rest (before ++ f.0 ∷ []) n)

-- after the last item the fields so far are all
pub with_fields-end : (gs : List (List ℕ × Avro)) (before : List (List ℕ)) (vs : List Value) (i n : ℕ) (all : Result Fields AvroFault) → length vs ≤ i → with_fields gs (fields_at (items_view (drop i vs)) before n) ≡ all → all ≡ Ok (view.fields_of gs)
with_fields-end gs before vs i n all h whole = sym whole ∙ ap (λ ws. with_fields gs (fields_at (items_view ws) before n)) (drop_all i vs h) ∙ ap Ok (fields_before-end gs)
