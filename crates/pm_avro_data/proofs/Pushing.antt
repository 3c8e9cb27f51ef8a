-- Writing a number in groups, as a loop does.
use Rattle.std.proofs.Common.{◌≡◌, ℕ, zero, suc, ◌+◌, ◌*◌, ◌/◌, ◌%◌, ◌^◌, ◌<◌, ◌≤◌, List, [], ◌∷◌}
use Rattle.std.proofs.Common.{◌++◌, pos, length, map, refl, sym, ap, ◌∙◌, append_assoc, arith}
use Rattle.std.proofs.lemmas.Nat.{pow-add}
use Rattle.std.proofs.lemmas.Bool.{lt-ltb, le-ltb}
use Rattle.pm_avro_data.specs.Datum.{Data, items, items_of, entries, entries_of}
use Rattle.pm_avro_data.specs.Writing.{groups, integer, blocked}

-- the output, and then the groups of what is left, is the old output and then the number's groups
abbrev pub Pushed : List ℕ → ℕ → List ℕ → ℕ → Type 0
Pushed out left old n = (more : ℕ) × (left < 2 ^ (7 * more + 7)) × (out ++ groups more left ≡ old ++ groups 9 n)

pub pushed_start : (old : List ℕ) (n : ℕ) → n < 2 ^ 64 → Pushed old n old n
pushed_start old n lt = (9, omega arith, refl)

pub pushed_more : (out : List ℕ) (left : ℕ) (old : List ℕ) (n : ℕ) → 128 ≤ left → Pushed out left old n → Pushed (out ++ (left % 128 + 128) ∷ []) (left / 128) old n
unfolding groups
pushed_more out left old n high (zero, lt, e) = absurd (omega arith)
pushed_more out left old n high (suc more, lt, e) =
    let bits : 7 * suc more + 7 ≡ 7 * more + 7 + 7 = omega arith in
    let below : left < 2 ^ (7 * more + 7 + 7) = rw bits at lt in
    let step : groups (suc more) left ≡ (left % 128 + 128) ∷ groups more (left / 128) = rw (le-ltb left 128 high) refl in
    let low : left / 128 < 2 ^ (7 * more + 7) = omega (arith, pow-add 2 (7 * more + 7) 7) in
    (more, low, append_assoc out ((left % 128 + 128) ∷ []) (groups more (left / 128)) ∙ ap (λ (t : List ℕ). out ++ t) (sym step) ∙ e)

pub pushed_end : (out : List ℕ) (left : ℕ) (old : List ℕ) (n : ℕ) → left < 128 → Pushed out left old n → out ++ left ∷ [] ≡ old ++ groups 9 n
unfolding groups
pushed_end out left old n low (zero, lt, e) = e
pushed_end out left old n low (suc more, lt, e) =
    let step : groups (suc more) left ≡ left ∷ [] = rw (lt-ltb left 128 low) refl in
    ap (λ (t : List ℕ). out ++ t) (sym step) ∙ e

-- ---- blocks

pub blocked_none : (n : ℕ) (content : List ℕ) → n ≡ 0 → blocked n content ≡ 0 ∷ []
unfolding blocked
blocked_none zero content none = refl
blocked_none (suc n) content none = absurd (omega arith)

pub blocked_some : (n : ℕ) (content : List ℕ) → (n ≡ 0 → ⊥) → blocked n content ≡ integer (pos n) ++ (content ++ 0 ∷ [])
unfolding blocked
blocked_some zero content some = absurd (some refl)
blocked_some (suc n) content some = refl

pub length_items : {X : Type 0} (see : X → Data) (xs : List X) → length (items (items_of (map see xs))) ≡ length xs
length_items see [] = refl
length_items see (x ∷ xs) = ap suc (length_items see xs)

pub length_entries : {X : Type 0} (see : X → List ℕ × Data) (xs : List X) → length (entries (entries_of (map see xs))) ≡ length xs
length_entries see [] = refl
length_entries see (x ∷ xs) = ap suc (length_entries see xs)

-- one more piece after the output
pub onward : (out old piece more all : List ℕ) → out ++ (piece ++ more) ≡ old ++ all → (out ++ piece) ++ more ≡ old ++ all
onward out old piece more all e = append_assoc out piece more ∙ e

pub block_joined : (out count content : List ℕ) → ((out ++ count) ++ content) ++ 0 ∷ [] ≡ out ++ (count ++ (content ++ 0 ∷ []))
block_joined out count content = append_assoc (out ++ count) content (0 ∷ []) ∙ append_assoc out count (content ++ 0 ∷ [])
