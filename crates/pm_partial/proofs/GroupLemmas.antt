-- The columns of a sequence group: what is known of rows joined, and of a stored row.
use Rattle.std.proofs.Common.{arith, ◌≡◌, ℕ, zero, suc, List, [], ◌∷◌, ◌++◌, get_or, map, Bool, true, false, not, ◌&&◌, ◌==◌, cond, Option, Some, None, refl, sym, ap, ◌∙◌}
use Rattle.std.specs.Option.{option_map, option_map_or}
use Rattle.std.proofs.lemmas.Bool.Decides.{nat_tests}
use Rattle.pm_values.specs.Kind.{retracts}
use Rattle.pm_values.specs.Order.{Values}
use Rattle.pm_values.specs.declared.kind.Kind.TheVariants.{Insert}
use Rattle.pm_values.specs.declared.value.Value.{Value}
use Rattle.pm_values.specs.declared.value.Value.TheVariants.{Null}
use Rattle.pm_model_history.specs.ColumnValue.{group_value, is_null, leading_row, left_by}
use Rattle.pm_model_history.specs.Merge.{HistoryRow, value_at}
use Rattle.pm_aggregate.specs.Steps.{not_greater}
use Rattle.pm_aggregate.proofs.LeadingLemmas.{later, leading_row-append, leading_row-one, null_least}
use Rattle.pm_partial.specs.PartialUpdate.{IsFrom, follows, left_of}
use Rattle.pm_partial.specs.declared.update.Side.TheVariants as sides

-- what is known of rows: the leading value, and what its row leaves in the column
abbrev pub Known : Type 0
Known = Option (Value × Value)

abbrev known_of : ℕ → ℕ → HistoryRow → Value × Value
known_of lead i r = (value_at r.1 lead, left_by lead i r)

abbrev pub known : ℕ → ℕ → List HistoryRow → Known
known lead i rows = option_map (known_of lead i) (leading_row lead rows)

-- the later of two, unless its leading value is less
abbrev pub join : Known → Known → Known
join None o = o
join (Some a) None = Some a
join (Some a) (Some b) = cond (not_greater a.0 b.0) (Some b) (Some a)

-- the value that is known
abbrev pub read : Known → Value
read None = Null
read (Some a) = a.1

pub group-read : (lead i : ℕ) (rows : List HistoryRow) → group_value lead i rows ≡ read (known lead i rows)
group-read lead i rows = of (leading_row lead rows)
  where
    of : (o : Option HistoryRow) → option_map_or (left_by lead i) o Null ≡ read (option_map (known_of lead i) o)
    of None = refl
    of (Some r) = refl

pub known-append : (lead i : ℕ) (xs ys : List HistoryRow) → known lead i (xs ++ ys) ≡ join (known lead i xs) (known lead i ys)
known-append lead i xs ys = ap (option_map (known_of lead i)) (leading_row-append lead xs ys) ∙ of (leading_row lead xs) (leading_row lead ys)
  where
    of : (o p : Option HistoryRow) → option_map (known_of lead i) (later (λ (r : HistoryRow). value_at r.1 lead) o p) ≡ join (option_map (known_of lead i) o) (option_map (known_of lead i) p)
    of None p = refl
    of (Some r) None = refl
    of (Some r) (Some q) =
        elim (not_greater (value_at r.1 lead) (value_at q.1 lead)) as (λ b. option_map (known_of lead i) (cond b (Some q) (Some r)) ≡ cond b (Some (known_of lead i q)) (Some (known_of lead i r))) [
          | true ↦ refl
          | false ↦ refl
        ]

-- rows of which the same is known are worth the same among others
pub group-among : (lead i : ℕ) (xs ys before after : List HistoryRow) → known lead i xs ≡ known lead i ys → group_value lead i (before ++ (xs ++ after)) ≡ group_value lead i (before ++ (ys ++ after))
group-among lead i xs ys before after same =
    group-read lead i (before ++ (xs ++ after))
    ∙ ap read (known-append lead i before (xs ++ after) ∙ ap (join (known lead i before)) (known-append lead i xs after ∙ ap (λ k. join k (known lead i after)) same ∙ sym (known-append lead i ys after))
    ∙ sym (known-append lead i before (ys ++ after)))
    ∙ sym (group-read lead i (before ++ (ys ++ after)))

-- what is known of one row, by its leading value and what it leaves
abbrev pub shown : Value → Value → Known
shown l v = cond (is_null l) None (Some (l, v))

known-one : (lead i : ℕ) (r : HistoryRow) → known lead i (r ∷ []) ≡ shown (value_at r.1 lead) (left_by lead i r)
known-one lead i r = ap (option_map (known_of lead i)) (leading_row-one lead r) ∙ of (is_null (value_at r.1 lead))
  where
    of : (b : Bool) → option_map (known_of lead i) (cond b None (Some r)) ≡ cond b None (Some (known_of lead i r))
    of true = refl
    of false = refl

-- of a stored row
known-stored : (lead i : ℕ) (values : Values) → known lead i ((Insert, values) ∷ []) ≡ shown (value_at values lead) (value_at values i)
known-stored lead i values = known-one lead i (Insert, values)

-- a value of a group is null where the leading one is
abbrev pub Follows : Value → Value → Type 0
Follows l v = is_null l ≡ true → v ≡ Null

read-shown : (l v : Value) → Follows l v → read (shown l v) ≡ v
read-shown l v null = of (is_null l) null
  where
    of : (b : Bool) → (b ≡ true → v ≡ Null) → read (cond b None (Some (l, v))) ≡ v
    of true e = sym (e refl)
    of false e = refl

-- a stored row has in the column what it is worth by itself, where its value follows the leading one
pub group-alone : (lead i : ℕ) (values : Values) → Follows (value_at values lead) (value_at values i) → group_value lead i ((Insert, values) ∷ []) ≡ value_at values i
group-alone lead i values null = group-read lead i ((Insert, values) ∷ []) ∙ ap read (known-stored lead i values) ∙ read-shown (value_at values lead) (value_at values i) null

-- and it follows it where it has what it is worth by itself
pub group-follows : (lead i : ℕ) (values : Values) → group_value lead i ((Insert, values) ∷ []) ≡ value_at values i → Follows (value_at values lead) (value_at values i)
group-follows lead i values alone null =
    sym alone ∙ group-read lead i ((Insert, values) ∷ []) ∙ ap read (known-stored lead i values) ∙ ap (λ b. read (cond b None (Some (value_at values lead, value_at values i)))) null

-- ---- a row of one row

is_null-is : (v : Value) → is_null v ≡ true → v ≡ Null
is_null-is Null e = refl
is_null-is v e = cc

eq_self : (n : ℕ) → (n == n) ≡ true
eq_self n = grind (arith, nat_tests)

-- what a row leaves in a column of the group that the column at `lead` leads: nothing without a leading value
abbrev pub kept_of : ℕ → ℕ → HistoryRow → Value
kept_of lead i r = cond (is_null (value_at r.1 lead)) Null (left_by lead i r)

-- the leading value is kept
kept-lead : (lead : ℕ) (r : HistoryRow) → kept_of lead lead r ≡ value_at r.1 lead
kept-lead lead r =
    elim (is_null (value_at r.1 lead)) as (λ b. is_null (value_at r.1 lead) ≡ b → cond b Null (left_by lead lead r) ≡ value_at r.1 lead) [
      | true ↦ λ e. sym (is_null-is (value_at r.1 lead) e)
      | false ↦ λ _. ap (λ b. cond (retracts r.0 && not b) Null (value_at r.1 lead)) (eq_self lead) ∙ of (retracts r.0)
    ] refl
  where
    of : (b : Bool) → cond (b && false) Null (value_at r.1 lead) ≡ value_at r.1 lead
    of true = refl
    of false = refl

pub lifted-follows : (lead i : ℕ) (r : HistoryRow) (values : Values) → value_at values lead ≡ kept_of lead lead r → value_at values i ≡ kept_of lead i r → Follows (value_at values lead) (value_at values i)
lifted-follows lead i r values first other null =
    let is : is_null (value_at r.1 lead) ≡ true = ap is_null (sym (kept-lead lead r)) ∙ ap is_null (sym first) ∙ null in
    other ∙ ap (λ b. cond b Null (left_by lead i r)) is

pub lifted-known : (lead i : ℕ) (r : HistoryRow) (values : Values) → value_at values lead ≡ kept_of lead lead r → value_at values i ≡ kept_of lead i r → known lead i (r ∷ []) ≡ known lead i ((Insert, values) ∷ [])
lifted-known lead i r values first other =
    known-one lead i r ∙ of (is_null (value_at r.1 lead))
    ∙ sym (known-stored lead i values ∙ ap (λ l. shown l (value_at values i)) (first ∙ kept-lead lead r) ∙ ap (shown (value_at r.1 lead)) other)
  where
    pair : Value → Value × Value
    pair v = (value_at r.1 lead, v)

    of : (b : Bool) → cond b None (Some (pair (left_by lead i r))) ≡ cond b None (Some (pair (cond b Null (left_by lead i r))))
    of true = refl
    of false = refl

-- where a row has null, or nothing
null-at : (row : Values) (lead : ℕ) → get_or (map is_null row) lead true ≡ is_null (value_at row lead)
null-at [] lead = refl
null-at (v ∷ row) zero = refl
null-at (v ∷ row) (suc lead) = null-at row lead

-- what is left of a value by what is null is what the row leaves
pub left-kept : (lead i : ℕ) (r : HistoryRow) → left_of lead i r.0 (map is_null r.1) (value_at r.1 i) ≡ kept_of lead i r
left-kept lead i r = ap (λ b. cond b Null (left_by lead i r)) (null-at r.1 lead)

-- ---- a row of two stored ones

-- what is taken from a side is the newer row's value where this one's leading value follows
pub from-is : (follow : Bool) (a b v : Value) → IsFrom (cond follow sides.Newer sides.Older) a b v → v ≡ cond follow b a
from-is true a b v is = is
from-is false a b v is = is

-- what is known of both, by their leading values and their values in the column
both-known : (a u b v : Value) → join (shown a u) (shown b v) ≡ shown (cond (follows a b) b a) (cond (follows a b) v u)
both-known a u b v = by (is_null a) (is_null b) refl refl
  where
    side : (x y : Bool) (o : Bool) → not_greater a b ≡ o → is_null a ≡ false → is_null b ≡ false → cond o (Some (b, v)) (Some (a, u)) ≡ shown (cond (true && o) b a) (cond (true && o) v u)
    side x y true le one two = sym (ap (λ t. cond t None (Some (b, v))) two)
    side x y false le one two = sym (ap (λ t. cond t None (Some (a, u))) one)

    by : (x y : Bool) → is_null a ≡ x → is_null b ≡ y → join (cond x None (Some (a, u))) (cond y None (Some (b, v))) ≡ shown (cond (not y && not_greater a b) b a) (cond (not y && not_greater a b) v u)
    by true true one two = sym (ap (λ t. cond t None (Some (a, u))) one)
    by true false one two = sym (ap (λ t. shown (cond t b a) (cond t v u)) (null_least a b one) ∙ ap (λ t. cond t None (Some (b, v))) two)
    by false true one two = sym (ap (λ t. cond t None (Some (a, u))) one)
    by false false one two = side true true (not_greater a b) refl one two

pub combined-known : (lead i : ℕ) (older newer values : Values)
    → value_at values lead ≡ cond (follows (value_at older lead) (value_at newer lead)) (value_at newer lead) (value_at older lead)
    → value_at values i ≡ cond (follows (value_at older lead) (value_at newer lead)) (value_at newer i) (value_at older i)
    → known lead i ((Insert, older) ∷ (Insert, newer) ∷ []) ≡ known lead i ((Insert, values) ∷ [])
combined-known lead i older newer values first other =
    known-append lead i ((Insert, older) ∷ []) ((Insert, newer) ∷ [])
    ∙ ap (λ k. join k (known lead i ((Insert, newer) ∷ []))) (known-stored lead i older) ∙ ap (join (shown (value_at older lead) (value_at older i))) (known-stored lead i newer)
    ∙ both-known (value_at older lead) (value_at older i) (value_at newer lead) (value_at newer i)
    ∙ sym (known-stored lead i values ∙ ap (λ l. shown l (value_at values i)) first
    ∙ ap (shown (cond (follows (value_at older lead) (value_at newer lead)) (value_at newer lead) (value_at older lead))) other)

pub combined-follows : (lead i : ℕ) (older newer values : Values) → Follows (value_at older lead) (value_at older i) → Follows (value_at newer lead) (value_at newer i)
    → value_at values lead ≡ cond (follows (value_at older lead) (value_at newer lead)) (value_at newer lead) (value_at older lead)
    → value_at values i ≡ cond (follows (value_at older lead) (value_at newer lead)) (value_at newer i) (value_at older i)
    → Follows (value_at values lead) (value_at values i)
combined-follows lead i older newer values one two first other null = other ∙ of (follows (value_at older lead) (value_at newer lead)) (ap is_null (sym first) ∙ null)
  where
    of : (b : Bool) → is_null (cond b (value_at newer lead) (value_at older lead)) ≡ true → cond b (value_at newer i) (value_at older i) ≡ Null
    of true e = two e
    of false e = one e
