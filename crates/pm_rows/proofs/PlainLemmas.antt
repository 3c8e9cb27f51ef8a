-- Lines whose texts need no escape.
use Rattle.std.proofs.Common.{◌≡◌, ◌≢◌, ℕ, zero, suc, ◌+◌, ◌<◌, ◌≤◌, ℤ, pos, negsuc, List, [], ◌∷◌, ◌++◌, length, get_or, map, take, true, false, refl, sym, ap, ◌∙◌, append_assoc, append-nil, arith}
use Rattle.std.specs.Prelude.{◌==◌}
use Rattle.std.specs.List.{AllByRecursion}
use Rattle.std.specs.Fmt.{signed_decimal}
use Rattle.std.proofs.lemmas.Bool.{le-ltb, ne_eqb}
use Rattle.std.proofs.lemmas.List.{map-append, take_at, take_more}
use Rattle.json.specs.Print.{escape, escape_byte, quoted}
use Rattle.serde_json.specs.Data.{number}
use Rattle.serde_json.specs.Find.{of_integer}
use Rattle.serde_json.specs.View.{items_of}
use Rattle.serde_json.specs.Written as json
use Rattle.serde_json.specs.Written.{compact_text}
use Rattle.pm_rows.specs.RowText.{item_data, kind_text, row_text}
use Rattle.pm_values.specs.Order.{Values}
use Rattle.pm_values.specs.declared.kind.Kind.{Kind}
use Rattle.pm_values.specs.declared.kind.Kind.TheVariants.{Insert, UpdateBefore, UpdateAfter, Delete}
use Rattle.pm_row_slots.specs.Seen.{seen_value}
use Rattle.pm_row_slots.specs.declared.seen.Seen.{Seen}
use Rattle.pm_rows.specs.Plain.{AddsTo, IsPlain, IsUnescaped, item_text, items_text, kind_head}

-- ---- texts that are added to

pub adds_none : {old new : List ℕ} → new ≡ old → AddsTo old new
adds_none {old} is = record { more = []; joined = is ∙ sym (append-nil old) }

pub adds_further : {old middle new : List ℕ} → AddsTo old middle → AddsTo middle new → AddsTo old new
adds_further {old} first then = record {
  more = first.more ++ then.more;
  joined = then.joined ∙ ap (λ (bs : List ℕ). bs ++ then.more) first.joined ∙ append_assoc old first.more then.more;
}

-- what was there is cut out again
pub added_taken : (old new : List ℕ) → AddsTo old new → take (length old) new ≡ old
added_taken old new adds = ap (take (length old)) adds.joined ∙ take_at old adds.more (length old) refl

-- ---- escapes

other : (a b : ℕ) → a ≢ b → (a == b) ≡ false
other a b differ = ne_eqb a b differ

-- a byte that is none of those that are escaped
pub byte_kept : (b : ℕ) → 32 ≤ b → b ≢ 34 → b ≢ 92 → escape_byte b ≡ b ∷ []
unfolding escape_byte
byte_kept b high quote slash =
    rw (
      other b 34 quote,
      other b 92 slash,
      other b 8 (λ e. absurd (omega arith)),
      other b 12 (λ e. absurd (omega arith)),
      other b 10 (λ e. absurd (omega arith)),
      other b 13 (λ e. absurd (omega arith)),
      other b 9 (λ e. absurd (omega arith)),
      le-ltb b 32 high,
    ) refl

escape-joined : (xs ys : List ℕ) → escape (xs ++ ys) ≡ escape xs ++ escape ys
escape-joined [] ys = refl
escape-joined (x ∷ xs) ys = ap (λ (bs : List ℕ). escape_byte x ++ bs) (escape-joined xs ys) ∙ sym (append_assoc (escape_byte x) (escape xs) (escape ys))

-- one byte more
pub unescaped_next : (content : List ℕ) (i : ℕ) → i < length content → IsUnescaped (take i content) → 32 ≤ get_or content i 0 → get_or content i 0 ≢ 34 → get_or content i 0 ≢ 92
    → IsUnescaped (take (i + 1) content)
unescaped_next content i lt so_far high quote slash =
    let b : ℕ = get_or content i 0 in
    let parts : take (i + 1) content ≡ take i content ++ b ∷ [] = take_more content i 0 lt in
    ap escape parts ∙ escape-joined (take i content) (b ∷ []) ∙ ap (λ (bs : List ℕ). bs ++ escape (b ∷ [])) so_far
    ∙ ap (λ (bs : List ℕ). take i content ++ (bs ++ [])) (byte_kept b high quote slash) ∙ sym parts

-- ---- items

-- the text of an integer
pub integer_text : (z : ℤ) → compact_text (number (of_integer z)) ≡ signed_decimal z
integer_text (pos n) = refl
integer_text (negsuc n) = refl

items_joined : (xs ys : Values) → items_text (xs ++ ys) ≡ items_text xs ++ items_text ys
items_joined [] ys = refl
items_joined (x ∷ xs) ys = ap (λ (bs : List ℕ). item_text x ++ bs) (items_joined xs ys) ∙ sym (append_assoc (item_text x) (items_text xs) (items_text ys))

-- the value at an index is plain
pub plain_at : (values : List Seen) (i : ℕ) (d : Seen) → i < length values → AllByRecursion IsPlain (map seen_value values) → IsPlain (seen_value (get_or values i d))
plain_at [] i d lt all = absurd (omega (arith, lt))
plain_at (value ∷ values) zero d lt all = all.0
plain_at (value ∷ values) (suc i) d lt all = plain_at values i d (omega (arith, lt)) all.1

-- one item more
pub items_next : (values : List Seen) (i : ℕ) (d : Seen) (old text more : List ℕ) → i < length values → text ≡ old ++ items_text (map seen_value (take i values))
    → more ≡ text ++ item_text (seen_value (get_or values i d)) → more ≡ old ++ items_text (map seen_value (take (i + 1) values))
items_next values i d old text more lt so_far pushed =
    let value : Seen = get_or values i d in
    let before : Values = map seen_value (take i values) in
    let parts : take (i + 1) values ≡ take i values ++ value ∷ [] = take_more values i d lt in
    let mapped : map seen_value (take (i + 1) values) ≡ before ++ seen_value value ∷ [] = ap (map seen_value) parts ∙ map-append seen_value (take i values) (value ∷ []) in
    let joined : items_text (map seen_value (take (i + 1) values)) ≡ items_text before ++ item_text (seen_value value) =
    ap items_text mapped ∙ items_joined before (seen_value value ∷ []) ∙ ap (λ (bs : List ℕ). items_text before ++ bs) (append-nil (item_text (seen_value value))) in
    pushed ∙ ap (λ (bs : List ℕ). bs ++ item_text (seen_value value)) so_far ∙ append_assoc old (items_text before) (item_text (seen_value value)) ∙ ap (λ (bs : List ℕ). old ++ bs) (sym joined)

-- ---- the line

-- the items of an array after its first
later_items : (values : Values) → json.items_text true (items_of (map item_data values)) ≡ items_text values ++ 93 ∷ []
later_items [] = refl
later_items (value ∷ values) = ap (λ (bs : List ℕ). 44 ∷ (compact_text (item_data value) ++ bs)) (later_items values) ∙ sym (append_assoc (item_text value) (items_text values) (93 ∷ []))

head_is : (kind : Kind) → 91 ∷ quoted (kind_text kind) ≡ kind_head kind
unfolding escape_byte
head_is Insert = refl
head_is UpdateBefore = refl
head_is UpdateAfter = refl
head_is Delete = refl

pub text_is : (kind : Kind) (values : Values) → row_text kind values ≡ kind_head kind ++ (items_text values ++ 93 ∷ [])
unfolding row_text
text_is kind values =
    let first : List ℕ → List ℕ = λ bs. (91 ∷ quoted (kind_text kind)) ++ bs in
    let last : List ℕ → List ℕ = λ bs. bs ++ (items_text values ++ 93 ∷ []) in
    ap first (later_items values) ∙ ap last (head_is kind)
