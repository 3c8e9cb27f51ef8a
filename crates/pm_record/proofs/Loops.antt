-- The indexes of names, found one after another.
use Rattle.std.proofs.Common.{◌≡◌, ℕ, zero, suc, ◌+◌, ◌<◌, Bool, true, false, cond, List, [], ◌∷◌, ◌++◌, length, get_or, drop}
use Rattle.std.proofs.Common.{Option, Some, None, option_map, refl, sym, ap, ◌∙◌, append_assoc, add-one, arith}
use Rattle.std.specs.Prelude.{if◌then◌else◌}
use Rattle.std.proofs.Math.Seq.{drop-cons}
use Rattle.std.specs.Bool.{Decides}
use Rattle.std.specs.Borrow.{Bor}
use Rattle.std.specs.Str.{bytes_eq}
use Rattle.std.proofs.lemmas.Slice.Eq.{bytes_eq-Decides}
use Rattle.pm_base.specs.Steps.{◌>>=◌}
use Rattle.pm_avro_schema.specs.Avro.{Fields}
use Rattle.pm_avro_schema.specs.View as types
use Rattle.pm_avro_schema.specs.declared.kind.AvroType.{AvroType}
use Rattle.pm_record.specs.Record.{index_in, all_indexes, lent}

-- an index in what is left after so many items
abbrev pub moved : ℕ → Option ℕ → Option ℕ
moved k = option_map (λ i. i + k)

moved-suc : (k : ℕ) (found : Option ℕ) → moved k (option_map suc found) ≡ moved (k + 1) found
moved-suc k None = refl
moved-suc k (Some i) = ap Some (omega arith)

moved_by : (same : Bool) (k : ℕ) (found : Option ℕ) → cond same (Some k) (moved (k + 1) found) ≡ moved k (if same then Some zero else option_map suc found)
moved_by true k found = ap Some (omega arith)
moved_by false k found = sym (moved-suc k found)

flip : (x y : Bool) (a b : List ℕ) → Decides x (a ≡ b) → Decides y (b ≡ a) → x ≡ y
flip true true a b p q = refl
flip true false a b p q = sym (q.1 (sym (p.0 refl)))
flip false true a b p q = p.1 (sym (q.0 refl))
flip false false a b p q = refl

-- a map that has the indexes in later fields has those in one more field, once that one's is added
pub one_earlier : (fs : List (List ℕ × AvroType)) (k left : ℕ) (f : List ℕ × AvroType) (key name : List ℕ) (later : Option ℕ) → left ≡ k + 1 → k < length fs → f ≡ get_or fs k f → key ≡ f.0
    → later ≡ moved left (index_in name (types.fields_view (drop left fs)))
    → cond (bytes_eq key name) (Some k) later ≡ moved k (index_in name (types.fields_view (drop k fs)))
one_earlier fs k left f key name later next lt here is found =
    let rest = drop (k + 1) fs in
    let cut : drop k fs ≡ f ∷ rest = drop-cons fs k f lt ∙ ap (λ g. g ∷ drop (suc k) fs) (sym here) ∙ rw (← add-one) refl in
    let same : bytes_eq key name ≡ bytes_eq name f.0 = ap (λ bs. bytes_eq bs name) is ∙ flip (bytes_eq f.0 name) (bytes_eq name f.0) f.0 name (bytes_eq-Decides f.0 name) (bytes_eq-Decides name f.0) in
    let after : later ≡ moved (k + 1) (index_in name (types.fields_view rest)) = rw next at found in
    ap (λ b. cond b (Some k) later) same ∙ ap (cond (bytes_eq name f.0) (Some k)) after ∙ moved_by (bytes_eq name f.0) k (index_in name (types.fields_view rest))
    ∙ ap (λ gs. moved k (index_in name (types.fields_view gs))) (sym cut)

-- indexes that were found earlier, and the later ones
abbrev pub after_earlier : List ℕ → Option (List ℕ) → Option (List ℕ)
after_earlier earlier = option_map (λ later. earlier ++ later)

after_earlier-cons : (earlier : List ℕ) (i : ℕ) (later : Option (List ℕ)) → after_earlier earlier (later >>= λ is. Some (i ∷ is)) ≡ after_earlier (earlier ++ i ∷ []) later
after_earlier-cons earlier i None = refl
after_earlier-cons earlier i (Some is) = ap Some (sym (append_assoc earlier (i ∷ []) is))

module _ (names : List (Bor (List ℕ))) (k : ℕ) (other : Bor (List ℕ)) (fs : Fields) (earlier : List ℕ) (total : Option (List ℕ)) (lt : k < length names)
    (so_far : after_earlier earlier (all_indexes (lent (drop k names)) fs) ≡ total) where
  split : after_earlier earlier (index_in (get_or names k other).now fs >>= λ i. all_indexes (lent (drop (k + 1) names)) fs >>= λ is. Some (i ∷ is)) ≡ total
  split =
      let cut : drop k names ≡ get_or names k other ∷ drop (k + 1) names = rw (add-one, drop-cons names k other lt) refl in
      rw cut at so_far

  -- one more name is found
  pub found_next : (i : ℕ) → Some i ≡ index_in (get_or names k other).now fs → after_earlier (earlier ++ i ∷ []) (all_indexes (lent (drop (k + 1) names)) fs) ≡ total
  found_next i found = sym (after_earlier-cons earlier i (all_indexes (lent (drop (k + 1) names)) fs)) ∙ rw (← found) at split

  -- a name is missing
  pub found_none : None ≡ index_in (get_or names k other).now fs → None ≡ total
  found_none none = rw (← none) at split
