-- Packed values, one after another.
use Rattle.std.proofs.Common.{◌≡◌, ℕ, zero, suc, ◌+◌, List, [], ◌∷◌, ◌++◌, length, refl, sym, ap, ◌∙◌, append_assoc, append-nil, arith}
use Rattle.std.specs.Ordering.{ordering_then}
use Rattle.std.specs.declared.cmp.Ordering.{Ordering}
use Rattle.std.specs.declared.cmp.Ordering.TheVariants.{Less, Equal, Greater}
use Rattle.std.proofs.lemmas.List.{length-append}
use Rattle.pm_values.specs.Order.{key_cmp, value_cmp}
use Rattle.pm_values.specs.declared.kind.Kind.{Kind}
use Rattle.pm_values.specs.declared.record.Stamped.{Stamped}
use Rattle.pm_values.specs.declared.value.Value.{Value}
use Rattle.pm_packed.specs.Values.{AreCodeOf, IsCodeOf, stamped_in, value_in, values_in}

-- ---- those that were added

values_in-add : (n m : ℕ) (bytes : List ℕ) → values_in (n + m) bytes ≡ ((values_in n bytes).0 ++ (values_in m (values_in n bytes).1).0, (values_in m (values_in n bytes).1).1)
values_in-add zero m bytes = ap (λ (k : ℕ). values_in k bytes) (omega arith)
values_in-add (suc n) m bytes =
    let sum : suc n + m ≡ suc (n + m) = omega arith in
    ap (λ (k : ℕ). values_in k bytes) sum
    ∙ ap (λ (x : List Value × List ℕ). ((value_in bytes).0 ∷ x.0, x.1)) (values_in-add n m (value_in bytes).1)

one_code : (v : Value) (code : List ℕ) → IsCodeOf v code → (rest : List ℕ) → values_in 1 (code ++ rest) ≡ (v ∷ [], rest)
one_code v code is rest = ap (λ (x : Value × List ℕ). (x.0 ∷ [], x.1)) (is rest)

pub no_code : AreCodeOf [] []
no_code rest = refl

-- one value more
pub more_code : (vs : List Value) (v : Value) (before code : List ℕ) → AreCodeOf vs before → IsCodeOf v code → AreCodeOf (vs ++ v ∷ []) (before ++ code)
more_code vs v before code are is rest =
    ap (λ (n : ℕ). values_in n ((before ++ code) ++ rest)) (length-append vs (v ∷ []))
    ∙ ap (values_in (length vs + 1)) (append_assoc before code rest)
    ∙ values_in-add (length vs) 1 (before ++ (code ++ rest))
    ∙ ap (λ (x : List Value × List ℕ). (x.0 ++ (values_in 1 x.1).0, (values_in 1 x.1).1)) (are (code ++ rest))
    ∙ ap (λ (x : List Value × List ℕ). (vs ++ x.0, x.1)) (one_code v code is rest)

-- ---- those that are left

first_of : (k n : ℕ) (bytes others : List ℕ) (v : Value) → k + 1 ≡ n → (v, others) ≡ value_in bytes → (values_in n bytes).0 ≡ v ∷ (values_in k others).0
first_of k n bytes others v one is =
    let more : n ≡ suc k = omega arith in
    ap (λ (j : ℕ). (values_in j bytes).0) more ∙ ap (λ (x : Value × List ℕ). x.0 ∷ (values_in k x.1).0) (sym is)

rest_of : (k n : ℕ) (bytes others : List ℕ) (v : Value) → k + 1 ≡ n → (v, others) ≡ value_in bytes → (values_in n bytes).1 ≡ (values_in k others).1
rest_of k n bytes others v one is =
    let more : n ≡ suc k = omega arith in
    ap (λ (j : ℕ). (values_in j bytes).1) more ∙ ap (λ (x : Value × List ℕ). (values_in k x.1).1) (sym is)

-- one of them is taken
pub taken_more : (k n : ℕ) (bytes others : List ℕ) (v : Value) (before : List Value) → k + 1 ≡ n → (v, others) ≡ value_in bytes
    → (before ++ v ∷ []) ++ (values_in k others).0 ≡ before ++ (values_in n bytes).0
taken_more k n bytes others v before one is =
    append_assoc before (v ∷ []) (values_in k others).0 ∙ ap (λ (vs : List Value). before ++ vs) (sym (first_of k n bytes others v one is))

pub taken_rest : (k n : ℕ) (bytes others : List ℕ) (v : Value) → k + 1 ≡ n → (v, others) ≡ value_in bytes → (values_in k others).1 ≡ (values_in n bytes).1
taken_rest k n bytes others v one is = sym (rest_of k n bytes others v one is)

-- ---- how they compare

pub order_first : (k n l m : ℕ) (a b others rest : List ℕ) (v w : Value) → k + 1 ≡ n → l + 1 ≡ m → (v, others) ≡ value_in a → (w, rest) ≡ value_in b
    → key_cmp (values_in n a).0 (values_in m b).0 ≡ ordering_then (value_cmp v w) (key_cmp (values_in k others).0 (values_in l rest).0)
order_first k n l m a b others rest v w one another first second =
    ap (λ (vs : List Value). key_cmp vs (values_in m b).0) (first_of k n a others v one first)
    ∙ ap (key_cmp (v ∷ (values_in k others).0)) (first_of l m b rest w another second)

pub other_first : (o later : Ordering) → (o ≡ Equal → ⊥) → ordering_then o later ≡ o
other_first Less later other = refl
other_first Equal later other = absurd (other refl)
other_first Greater later other = refl

-- ---- a row

pub packed : (row : Stamped) (seq keys count : ℕ) (first second bytes : List ℕ) → seq ≡ row.seq → keys ≡ length row.key → count ≡ length row.row → bytes ≡ first ++ second
    → AreCodeOf row.key first → AreCodeOf row.row second → stamped_in seq row.kind keys count bytes ≡ row
packed row seq keys count first second bytes numbered key_length row_length whole key_code row_code =
    let key_read : values_in keys bytes ≡ (row.key, second) = ap (values_in keys) whole ∙ ap (λ (n : ℕ). values_in n (first ++ second)) key_length ∙ key_code second in
    let row_read : values_in count second ≡ (row.row, []) = ap (λ (n : ℕ). values_in n second) row_length ∙ ap (values_in (length row.row)) (sym (append-nil second)) ∙ row_code [] in
    ap (λ (x : List Value × List ℕ). stamped row.kind seq x.0 (values_in count x.1).0) key_read
    ∙ ap (λ (x : List Value × List ℕ). stamped row.kind seq row.key x.0) row_read
    ∙ ap (λ (n : ℕ). stamped row.kind n row.key row.row) numbered
  where
    stamped : Kind → ℕ → List Value → List Value → Stamped
    stamped kind n key values = record { key = key; seq = n; kind = kind; row = values }
