-- The last of the items with the greatest value that isn't null: of two lists joined it is that of one of them.
use Rattle.std.proofs.Common.{◌≡◌, ℕ, List, [], ◌∷◌, ◌++◌, filter, Bool, true, false, cond, not, ◌&&◌, Option, Some, None, refl, sym, ap, ◌∙◌}
use Rattle.std.specs.List.{last_or, list_all}
use Rattle.std.proofs.lemmas.List.Elements.{filter-append}
use Rattle.std.proofs.lemmas.List.Folds.{list_all-append}
use Rattle.pm_values.specs.declared.value.Value.{Value}
use Rattle.pm_values.specs.declared.value.Value.TheVariants.{Null}
use Rattle.pm_model_history.specs.ColumnValue.{is_null, leading_row}
use Rattle.pm_model_history.specs.Merge.{HistoryRow, value_at}
use Rattle.pm_aggregate.specs.Steps.{not_greater}
use Rattle.pm_aggregate.proofs.JoinLemmas.{last_or-append}
use Rattle.pm_aggregate.proofs.ExtremeLemmas.{linear_le, and_left, and_right, and_both}

-- null is least
pub null_least : (a b : Value) → is_null a ≡ true → not_greater a b ≡ true
null_least Null Null e = refl
null_least Null b e = refl
null_least a b e = cc

and_more : (a b c : Bool) → (a ≡ true → b ≡ true → c ≡ true) → (a && (b && c)) ≡ (a && b)
and_more true true c h = h refl refl
and_more true false c h = refl
and_more false b c h = refl

and_between : (a b c : Bool) → (a ≡ true → c ≡ true → b ≡ true) → (a && (b && c)) ≡ (a && c)
and_between true true c h = refl
and_between true false true h = h refl refl
and_between true false false h = refl
and_between false b c h = refl

last-of : {A : Type 0} (o : Option A) (x : A) (xs : List A) → last_or None xs ≡ Some x → last_or o xs ≡ Some x
last-of o x [] e = cc
last-of o x (y ∷ ys) e = e

module _ {X : Type 0} (k : X → Value) where
  abbrev below : List X → X → Bool
  below xs x = list_all (λ other. not_greater (k other) (k x)) xs

  abbrev leads : List X → X → Bool
  leads xs x = not (is_null (k x)) && below xs x

  abbrev pub leader : List X → Option X
  leader xs = last_or None (filter (leads xs) xs)

  abbrev AllNull : List X → Type 0
  AllNull [] = Unit {0}
  AllNull (x ∷ xs) = (is_null (k x) ≡ true) × AllNull xs

  record Top (xs : List X) (r : X) : Type 0 where
    valid : is_null (k r) ≡ false
    above : below xs r ≡ true
    least : (x : X) → below xs x ≡ true → not_greater (k r) (k x) ≡ true

  abbrev Known : List X → Option X → Type 0
  Known xs None = AllNull xs
  Known xs (Some r) = Top xs r

  abbrev pub later : Option X → Option X → Option X
  later None o = o
  later (Some r) None = Some r
  later (Some r) (Some q) = cond (not_greater (k r) (k q)) (Some q) (Some r)

  filter_same : (p q : X → Bool) (xs : List X) → ((x : X) → p x ≡ q x) → filter p xs ≡ filter q xs
  filter_same p q [] h = refl
  filter_same p q (x ∷ xs) h = ap (λ b. cond b (x ∷ filter p xs) (filter p xs)) (h x) ∙ ap (λ rest. cond (q x) (x ∷ rest) rest) (filter_same p q xs h)

  filter_nulls : (p : X → Bool) (xs : List X) → ((x : X) → is_null (k x) ≡ true → p x ≡ false) → AllNull xs → filter p xs ≡ []
  filter_nulls p [] h nulls = refl
  filter_nulls p (x ∷ xs) h nulls = ap (λ b. cond b (x ∷ filter p xs) (filter p xs)) (h x nulls.0) ∙ filter_nulls p xs h nulls.1

  filter_below : (p : X → Bool) (q : X) (xs : List X) → ((x : X) → not_greater (k x) (k q) ≡ true → p x ≡ false) → below xs q ≡ true → filter p xs ≡ []
  filter_below p q [] h all = refl
  filter_below p q (x ∷ xs) h all =
      ap (λ b. cond b (x ∷ filter p xs) (filter p xs)) (h x (and_left (not_greater (k x) (k q)) (below xs q) all))
      ∙ filter_below p q xs h (and_right (not_greater (k x) (k q)) (below xs q) all)

  below-nulls : (x : X) (ys : List X) → AllNull ys → below ys x ≡ true
  below-nulls x [] nulls = refl
  below-nulls x (y ∷ ys) nulls = and_both (not_greater (k y) (k x)) (below ys x) (null_least (k y) (k x) nulls.0) (below-nulls x ys nulls.1)

  below-weaker : (q x : X) (ys : List X) → not_greater (k q) (k x) ≡ true → below ys q ≡ true → below ys x ≡ true
  below-weaker q x [] up all = refl
  below-weaker q x (y ∷ ys) up all =
      and_both (not_greater (k y) (k x)) (below ys x) (linear_le.trans (k y) (k q) (k x) (and_left (not_greater (k y) (k q)) (below ys q) all) up)
      (below-weaker q x ys up (and_right (not_greater (k y) (k q)) (below ys q) all))

  no_null : (x : X) (t : Bool) → is_null (k x) ≡ true → (not (is_null (k x)) && t) ≡ false
  no_null x t e = ap (λ b. not b && t) e

  -- the leader of both lists, from what is known of each
  parts : (xs ys : List X) → leader (xs ++ ys) ≡ last_or (last_or None (filter (leads (xs ++ ys)) xs)) (filter (leads (xs ++ ys)) ys)
  parts xs ys = ap (last_or None) (filter-append (leads (xs ++ ys)) xs ys) ∙ last_or-append None (filter (leads (xs ++ ys)) xs) (filter (leads (xs ++ ys)) ys)

  split : (xs ys : List X) (x : X) → leads (xs ++ ys) x ≡ (not (is_null (k x)) && (below xs x && below ys x))
  split xs ys x = ap (λ b. not (is_null (k x)) && b) (list_all-append (λ other. not_greater (k other) (k x)) xs ys)

  nulls_after : (xs ys : List X) → AllNull ys → leader (xs ++ ys) ≡ leader xs
  nulls_after xs ys nulls =
      parts xs ys
      ∙ ap (λ rest. last_or (last_or None (filter (leads (xs ++ ys)) xs)) rest) (filter_nulls (leads (xs ++ ys)) ys (λ x e. no_null x (below (xs ++ ys) x) e) nulls)
      ∙ ap (last_or None) (filter_same (leads (xs ++ ys)) (leads xs) xs (λ x. split xs ys x ∙ and_more (not (is_null (k x))) (below xs x) (below ys x) (λ _ _. below-nulls x ys nulls)))

  nulls_before : (xs ys : List X) → AllNull xs → leader (xs ++ ys) ≡ leader ys
  nulls_before xs ys nulls =
      parts xs ys
      ∙ ap (λ rest. last_or (last_or None rest) (filter (leads (xs ++ ys)) ys)) (filter_nulls (leads (xs ++ ys)) xs (λ x e. no_null x (below (xs ++ ys) x) e) nulls)
      ∙ ap (last_or None) (filter_same (leads (xs ++ ys)) (leads ys) ys (λ x. split xs ys x ∙ and_between (not (is_null (k x))) (below xs x) (below ys x) (λ _ _. below-nulls x xs nulls)))

  second : (xs ys : List X) (r q : X) → leader ys ≡ Some q → Top xs r → Top ys q → not_greater (k r) (k q) ≡ true → leader (xs ++ ys) ≡ Some q
  second xs ys r q is one two up =
      parts xs ys
      ∙ ap (λ rest. last_or (last_or None (filter (leads (xs ++ ys)) xs)) rest)
      (filter_same (leads (xs ++ ys)) (leads ys) ys (λ x. split xs ys x ∙ and_between (not (is_null (k x))) (below xs x) (below ys x) (λ _ under. below-weaker r x xs (linear_le.trans (k r) (k q) (k x) up (two.least x under)) one.above)))
      ∙ last-of (last_or None (filter (leads (xs ++ ys)) xs)) q (filter (leads ys) ys) is

  lower : (xs ys : List X) (r q : X) → Top xs r → not_greater (k r) (k q) ≡ false → (x : X) → not_greater (k x) (k q) ≡ true → leads (xs ++ ys) x ≡ false
  lower xs ys r q one down x under =
      split xs ys x ∙ elim (below xs x) as (λ b. below xs x ≡ b → (not (is_null (k x)) && (b && below ys x)) ≡ false) [
        | true ↦ λ e. let up = linear_le.trans (k r) (k x) (k q) (one.least x e) under in cc
        | false ↦ λ e. nothing (not (is_null (k x)))
      ] refl
    where
      nothing : (a : Bool) → (a && false) ≡ false
      nothing true = refl
      nothing false = refl

  first : (xs ys : List X) (r q : X) → leader xs ≡ Some r → Top xs r → Top ys q → not_greater (k r) (k q) ≡ false → leader (xs ++ ys) ≡ Some r
  first xs ys r q is one two down =
      parts xs ys
      ∙ ap (λ rest. last_or (last_or None (filter (leads (xs ++ ys)) xs)) rest) (filter_below (leads (xs ++ ys)) q ys (lower xs ys r q one down) two.above)
      ∙ ap (last_or None) (filter_same (leads (xs ++ ys)) (leads xs) xs (λ x. split xs ys x ∙ and_more (not (is_null (k x))) (below xs x) (below ys x) (λ _ under. below-weaker q x ys (linear_le.trans (k q) (k r) (k x) (linear_le.total (k r) (k q) down) (one.least x under)) two.above)))
      ∙ is

  joins : (xs ys : List X) (o p : Option X) → leader xs ≡ o → leader ys ≡ p → Known xs o → Known ys p → leader (xs ++ ys) ≡ later o p
  joins xs ys None p is too one two = nulls_before xs ys one ∙ too
  joins xs ys (Some r) None is too one two = nulls_after xs ys two ∙ is
  joins xs ys (Some r) (Some q) is too one two =
      elim (not_greater (k r) (k q)) as (λ b. not_greater (k r) (k q) ≡ b → leader (xs ++ ys) ≡ cond b (Some q) (Some r)) [
        | true ↦ λ e. second xs ys r q too one two e
        | false ↦ λ e. first xs ys r q is one two e
      ] refl

  nulls-append : (xs ys : List X) → AllNull xs → AllNull ys → AllNull (xs ++ ys)
  nulls-append [] ys one two = two
  nulls-append (x ∷ xs) ys one two = (one.0, nulls-append xs ys one.1 two)

  below-append : (xs ys : List X) (x : X) → below (xs ++ ys) x ≡ (below xs x && below ys x)
  below-append xs ys x = list_all-append (λ other. not_greater (k other) (k x)) xs ys

  both_below : (xs ys : List X) (x : X) → below xs x ≡ true → below ys x ≡ true → below (xs ++ ys) x ≡ true
  both_below xs ys x p q = below-append xs ys x ∙ and_both (below xs x) (below ys x) p q

  left_below : (xs ys : List X) (x : X) → below (xs ++ ys) x ≡ true → below xs x ≡ true
  left_below xs ys x e = and_left (below xs x) (below ys x) (sym (below-append xs ys x) ∙ e)

  right_below : (xs ys : List X) (x : X) → below (xs ++ ys) x ≡ true → below ys x ≡ true
  right_below xs ys x e = and_right (below xs x) (below ys x) (sym (below-append xs ys x) ∙ e)

  known-later : (xs ys : List X) (o p : Option X) → Known xs o → Known ys p → Known (xs ++ ys) (later o p)
  known-later xs ys None None one two = nulls-append xs ys one two
  known-later xs ys None (Some q) one two = record {
    valid = two.valid;
    above = both_below xs ys q (below-nulls q xs one) two.above;
    least = λ x e. two.least x (right_below xs ys x e);
  }
  known-later xs ys (Some r) None one two = record {
    valid = one.valid;
    above = both_below xs ys r one.above (below-nulls r ys two);
    least = λ x e. one.least x (left_below xs ys x e);
  }
  known-later xs ys (Some r) (Some q) one two =
      elim (not_greater (k r) (k q)) as (λ b. not_greater (k r) (k q) ≡ b → Known (xs ++ ys) (cond b (Some q) (Some r))) [
        | true ↦ λ e. record {
          valid = two.valid;
          above = both_below xs ys q (below-weaker r q xs e one.above) two.above;
          least = λ x under. two.least x (right_below xs ys x under);
        }
        | false ↦ λ e. record {
          valid = one.valid;
          above = both_below xs ys r one.above (below-weaker q r ys (linear_le.total (k r) (k q) e) two.above);
          least = λ x under. one.least x (left_below xs ys x under);
        }
      ] refl

  -- of one item
  alone : (x : X) → (o : Option X) × (leader (x ∷ []) ≡ o) × Known (x ∷ []) o
  alone x =
      elim (is_null (k x)) as (λ b. is_null (k x) ≡ b → (o : Option X) × (leader (x ∷ []) ≡ o) × Known (x ∷ []) o) [
        | true ↦ λ e. (None, nothing e, (e, tt))
        | false ↦ λ e. (Some x, only e, record { valid = e; above = and_both _ true (itself (k x)) refl; least = λ y under. and_left (not_greater (k x) (k y)) true under })
      ] refl
    where
      nothing : is_null (k x) ≡ true → leader (x ∷ []) ≡ None
      nothing e = ap (λ b. last_or None (cond b (x ∷ []) [])) (no_null x (below (x ∷ []) x) e)

      itself : (v : Value) → not_greater v v ≡ true
      itself v = elim (not_greater v v) as (λ b. not_greater v v ≡ b → not_greater v v ≡ true) [ true ↦ λ e. e | false ↦ λ e. linear_le.total v v e ] refl

      only : is_null (k x) ≡ false → leader (x ∷ []) ≡ Some x
      only e = ap (λ b. last_or None (cond (not b && below (x ∷ []) x) (x ∷ []) [])) e ∙ ap (λ b. last_or None (cond (b && true) (x ∷ []) [])) (itself (k x))

  known : (xs : List X) → (o : Option X) × (leader xs ≡ o) × Known xs o
  known [] = (None, refl, tt)
  known (x ∷ xs) =
      let one = alone x in
      let more = known xs in
      (later one.0 more.0, joins (x ∷ []) xs one.0 more.0 one.1 more.1 one.2 more.2, known-later (x ∷ []) xs one.0 more.0 one.2 more.2)

  pub leader-append : (xs ys : List X) → leader (xs ++ ys) ≡ later (leader xs) (leader ys)
  leader-append xs ys =
      let one = known xs in
      let two = known ys in
      joins xs ys one.0 two.0 one.1 two.1 one.2 two.2 ∙ ap (λ o. later o two.0) (sym one.1) ∙ ap (λ o. later (leader xs) o) (sym two.1)

  -- a leader has a value
  pub leader-valid : (xs : List X) (r : X) → leader xs ≡ Some r → is_null (k r) ≡ false
  leader-valid xs r is = of (known xs).0 (known xs).1 (known xs).2
    where
      of : (o : Option X) → leader xs ≡ o → Known xs o → is_null (k r) ≡ false
      of None e known = cc
      of (Some q) e known = let same : r ≡ q = cc in ap (λ x. is_null (k x)) same ∙ known.valid

pub leading_row-append : (lead : ℕ) (xs ys : List HistoryRow) → leading_row lead (xs ++ ys) ≡ later (λ r. value_at r.1 lead) (leading_row lead xs) (leading_row lead ys)
leading_row-append lead xs ys = leader-append (λ r. value_at r.1 lead) xs ys

pub leading_row-valid : (lead : ℕ) (rows : List HistoryRow) (r : HistoryRow) → leading_row lead rows ≡ Some r → is_null (value_at r.1 lead) ≡ false
leading_row-valid lead rows r = leader-valid (λ (q : HistoryRow). value_at q.1 lead) rows r

-- of one row, it is that one, where it has a leading value
pub leading_row-one : (lead : ℕ) (r : HistoryRow) → leading_row lead (r ∷ []) ≡ cond (is_null (value_at r.1 lead)) None (Some r)
leading_row-one lead r = of (is_null (value_at r.1 lead)) (itself (value_at r.1 lead))
  where
    itself : (v : Value) → not_greater v v ≡ true
    itself v = elim (not_greater v v) as (λ b. not_greater v v ≡ b → not_greater v v ≡ true) [ true ↦ λ e. e | false ↦ λ e. linear_le.total v v e ] refl

    of : (b : Bool) → not_greater (value_at r.1 lead) (value_at r.1 lead) ≡ true
        → last_or None (cond (not b && (not_greater (value_at r.1 lead) (value_at r.1 lead) && true)) (r ∷ []) []) ≡ cond b None (Some r)
    of true e = refl
    of false e = ap (λ t. last_or None (cond (t && true) (r ∷ []) [])) e
