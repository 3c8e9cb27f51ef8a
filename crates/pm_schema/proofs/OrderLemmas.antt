-- The members of an object that is read stand by rising key, and so do the settings that it has.
use Rattle.std.proofs.Common.{◌≡◌, ◌==◌, ℕ, zero, suc, ◌^◌, ◌<◌, ◌≤◌, ◌&&◌, pos, Bool, true, false, cond, nat_lt, nat_le, List, [], drop, slice_index, codes, Float, Option, Some, None, option_map, option_and_then, Ordering, Less, Equal, Greater, refl, ap, subst, ◌∙◌, arith, rules}
use Rattle.std.proofs.lemmas.Bool.Decides.{nat_tests}
use Rattle.std.proofs.lemmas.Cmp.{nat_list_cmp_total}
use Rattle.std.specs.Cmp.Lexicographic.{slice_cmp}
use Rattle.std.specs.Float.Numeral.{Parts, minus, numeral_digits, scan_numeral}
use Rattle.std.specs.Int.{w64}
use Rattle.std.specs.List.{AllByRecursion}
use Rattle.std.specs.List.Sorted.{IsStrictlySortedBy}
use Rattle.std.specs.Map.{keys_of}
use Rattle.std.specs.Str.{is_utf8}
use Rattle.std.specs.Ordering.{nat_cmp, match_ordering, ordering_reverse}
use Rattle.std.specs.Prelude.{FitsSigned, neg_ℤ}
use Rattle.json.specs.Json as json
use Rattle.json.specs.Lex.{tokens}
use Rattle.serde_json.specs.Data.{Data, Num, unsigned, negative, float, null, boolean, number, string, array, object, Members, no_members, member, put}
use Rattle.serde_json.specs.Find.{get, get_member}
use Rattle.serde_json.specs.Read.{of_json, of_members, of_items, number_of, number_from, is_integer, max_depth, read}
use Rattle.pm_options.specs.Table.{Setting}
use Rattle.pm_schema.specs.Stated.{at_or, json_of, settings_at, settings_in, settings_of, settings_or}
use Rattle.pm_schema.proofs.Steps.{and_then_parts, member_parts}

abbrev pub order : List ℕ → List ℕ → Ordering
order = slice_cmp nat_cmp

-- ---- members by rising key

-- the key is below each key of the members
abbrev Below : List ℕ → Members → Type 0
Below k no_members = Unit {0}
Below k (member l e ms) = (order k l ≡ Less) × Below k ms

abbrev pub Rises : Members → Type 0
Rises no_members = Unit {0}
Rises (member k d ms) = Below k ms × Rises ms

below_all : (k l : List ℕ) (ms : Members) → order k l ≡ Less → Below l ms → Below k ms
below_all k l no_members less all = tt
below_all k l (member m e ms) less all = (nat_list_cmp_total.trans k l m less all.0, below_all k l ms less all.1)

below_put_at : (o : Ordering) (k l m : List ℕ) (d e : Data) (ms more : Members) → order k l ≡ Less → order k m ≡ Less → Below k ms → Below k more
    → Below k (match_ordering o (member l d (member m e ms)) (member m d ms) (member m e more))
below_put_at Less k l m d e ms more less then all done = (less, (then, all))
below_put_at Equal k l m d e ms more less then all done = (then, all)
below_put_at Greater k l m d e ms more less then all done = (then, done)

below_put : (k l : List ℕ) (d : Data) (ms : Members) → order k l ≡ Less → Below k ms → Below k (put l d ms)
below_put k l d no_members less all = (less, tt)
below_put k l d (member m e ms) less all = below_put_at (order l m) k l m d e ms (put l d ms) less all.0 all.1 (below_put k l d ms less all.1)

rises_put_at : (o : Ordering) (k l : List ℕ) (d e : Data) (ms more : Members) → order k l ≡ o → Below l ms → Rises ms → (order l k ≡ Less → Below l more) → Rises more
    → Rises (match_ordering o (member k d (member l e ms)) (member l d ms) (member l e more))
rises_put_at Less k l d e ms more is all rises below then = ((is, below_all k l ms is all), (all, rises))
rises_put_at Equal k l d e ms more is all rises below then = (all, rises)
rises_put_at Greater k l d e ms more is all rises below then = (below (nat_list_cmp_total.antisymm l k ∙ ap ordering_reverse is), then)

-- a member that is put keeps the order
pub rises_put : (k : List ℕ) (d : Data) (ms : Members) → Rises ms → Rises (put k d ms)
rises_put k d no_members rises = (tt, tt)
rises_put k d (member l e ms) rises =
    rises_put_at (order k l) k l d e ms (put k d ms) refl rises.0 rises.1 (λ less. below_put l k d ms less rises.0) (rises_put k d ms rises.1)

-- ---- numbers that are read

-- an integer below zero fits 64 bits
abbrev pub IsFit : Num → Type 0
IsFit (unsigned n) = Unit {0}
IsFit (negative z) = FitsSigned w64 z
IsFit (float x) = Unit {0}

negated_fits : (n : ℕ) → 0 < n → n ≤ 2 ^ 63 → FitsSigned w64 (neg_ℤ (pos n))
negated_fits zero above small = absurd (omega arith)
negated_fits (suc n) above small = record { sfits = omega arith }

above_zero : (a : Bool) (n : ℕ) → a && nat_lt 0 n && nat_le n (2 ^ 63) ≡ true → 0 < n
above_zero a n is = search (rules, nat_tests)

at_most : (a : Bool) (n : ℕ) → a && nat_lt 0 n && nat_le n (2 ^ 63) ≡ true → n ≤ 2 ^ 63
at_most a n is = search (rules, nat_tests)

float_fits : (b : Bool) (f : Float) (x : Num) → cond b (Some (float f)) None ≡ Some x → IsFit x
float_fits true f x is = let same : float f ≡ x = cc in subst IsFit same tt
float_fits false f x is = absurd cc

whole_fits : (b : Bool) (n : ℕ) (rest : Option Num) (x : Num) → (rest ≡ Some x → IsFit x) → cond b (Some (unsigned n)) rest ≡ Some x → IsFit x
whole_fits true n rest x else_fits is = let same : unsigned n ≡ x = cc in subst IsFit same tt
whole_fits false n rest x else_fits is = else_fits is

below_fits : (b : Bool) (n : ℕ) (rest : Option Num) (x : Num) → (b ≡ true → FitsSigned w64 (neg_ℤ (pos n))) → (rest ≡ Some x → IsFit x)
    → cond b (Some (negative (neg_ℤ (pos n)))) rest ≡ Some x → IsFit x
below_fits true n rest x fits else_fits is = let same : negative (neg_ℤ (pos n)) ≡ x = cc in subst IsFit same (fits refl)
below_fits false n rest x fits else_fits is = else_fits is

from_fits : (sign : Bool) (p : Parts) (x : Num) → number_from sign p ≡ Some x → IsFit x
from_fits false p x is = whole_fits _ _ _ x (float_fits _ _ x) is
from_fits true p x is =
    below_fits _ (numeral_digits p) _ x (λ both. negated_fits (numeral_digits p) (above_zero (is_integer p) (numeral_digits p) both) (at_most (is_integer p) (numeral_digits p) both)) (float_fits _ _ x) is

number_fits : (s : List ℕ) (x : Num) → number_of s ≡ Some x → IsFit x
unfolding number_of
number_fits s x is = signed_at (slice_index s 0 == minus) is
  where
    signed_at : (b : Bool) → cond b (number_from true (scan_numeral (drop 1 s))) (number_from false (scan_numeral s)) ≡ Some x → IsFit x
    signed_at true is = from_fits true (scan_numeral (drop 1 s)) x is
    signed_at false is = from_fits false (scan_numeral s) x is

-- ---- what is read

-- an object's members rise, and a number fits
abbrev pub IsTidy : Data → Type 0
IsTidy null = Unit {0}
IsTidy (boolean b) = Unit {0}
IsTidy (number n) = IsFit n
IsTidy (string s) = Unit {0}
IsTidy (array ds) = Unit {0}
IsTidy (object ms) = Rises ms

map_parts : {A B : Type 0} (f : A → B) (o : Option A) (y : B) → option_map f o ≡ Some y → (x : A) × (o ≡ Some x) × (f x ≡ y)
map_parts f None y is = absurd cc
map_parts f (Some x) y is = (x, refl, cc)

rises_read : (js : json.Members) (found out : Members) → Rises found → of_members js found ≡ Some out → Rises out
rises_read json.no_members found out rises is = let same : found ≡ out = cc in subst Rises same rises
rises_read (json.member k j js) found out rises is =
    let parts = and_then_parts (λ d. of_members js (put k d found)) (of_json j) out is in
    rises_read js (put k parts.0 found) out (rises_put k parts.0 found rises) parts.2

tidy_json : (j : json.Json) (d : Data) → of_json j ≡ Some d → IsTidy d
tidy_json json.null d is = let same : null ≡ d = cc in subst IsTidy same tt
tidy_json (json.boolean b) d is = let same : boolean b ≡ d = cc in subst IsTidy same tt
tidy_json (json.number s) d is = let parts = map_parts number (number_of s) d is in subst IsTidy parts.2 (number_fits s parts.0 parts.1)
tidy_json (json.string s) d is = let same : string s ≡ d = cc in subst IsTidy same tt
tidy_json (json.array js) d is = let parts = map_parts array (of_items js) d is in subst IsTidy parts.2 tt
tidy_json (json.object js) d is =
    let parts = map_parts object (of_members js no_members) d is in subst IsTidy parts.2 (rises_read js no_members parts.0 tt parts.1)

-- each member is tidy
abbrev AreTidy : Members → Type 0
AreTidy no_members = Unit {0}
AreTidy (member k d ms) = IsTidy d × AreTidy ms

tidy_put_at : (o : Ordering) (k l : List ℕ) (d e : Data) (ms more : Members) → IsTidy d → IsTidy e → AreTidy ms → AreTidy more
    → AreTidy (match_ordering o (member k d (member l e ms)) (member l d ms) (member l e more))
tidy_put_at Less k l d e ms more first old all done = (first, (old, all))
tidy_put_at Equal k l d e ms more first old all done = (first, all)
tidy_put_at Greater k l d e ms more first old all done = (old, done)

tidy_put : (k : List ℕ) (d : Data) (ms : Members) → IsTidy d → AreTidy ms → AreTidy (put k d ms)
tidy_put k d no_members tidy all = (tidy, tt)
tidy_put k d (member l e ms) tidy all = tidy_put_at (order k l) k l d e ms (put k d ms) tidy all.0 all.1 (tidy_put k d ms tidy all.1)

tidy_read : (js : json.Members) (found out : Members) → AreTidy found → of_members js found ≡ Some out → AreTidy out
tidy_read json.no_members found out all is = let same : found ≡ out = cc in subst AreTidy same all
tidy_read (json.member k j js) found out all is =
    let parts = and_then_parts (λ d. of_members js (put k d found)) (of_json j) out is in
    tidy_read js (put k parts.0 found) out (tidy_put k parts.0 found (tidy_json j parts.0 parts.1) all) parts.2

tidy_at : (o : Ordering) (e d : Data) (rest : Option Data) → IsTidy e → (rest ≡ Some d → IsTidy d) → match_ordering o rest (Some e) rest ≡ Some d → IsTidy d
tidy_at Less e d rest tidy later is = later is
tidy_at Equal e d rest tidy later is = let same : e ≡ d = cc in subst IsTidy same tidy
tidy_at Greater e d rest tidy later is = later is

tidy_member : (k : List ℕ) (ms : Members) (d : Data) → AreTidy ms → get_member k ms ≡ Some d → IsTidy d
tidy_member k no_members d all is = absurd cc
tidy_member k (member l e ms) d all is = tidy_at (order k l) e d (get_member k ms) all.0 (tidy_member k ms d all.1) is

-- what stands at a key of what is read
abbrev pub HasTidyParts : Data → Type 0
HasTidyParts d = (key : List ℕ) (e : Data) → get key d ≡ Some e → IsTidy e

tidy_parts : (j : json.Json) (d : Data) → of_json j ≡ Some d → HasTidyParts d
tidy_parts json.null d is = let same : null ≡ d = cc in subst HasTidyParts same (λ key e none. absurd cc)
tidy_parts (json.boolean b) d is = let same : boolean b ≡ d = cc in subst HasTidyParts same (λ key e none. absurd cc)
tidy_parts (json.number s) d is = let parts = map_parts number (number_of s) d is in subst HasTidyParts parts.2 (λ key e none. absurd cc)
tidy_parts (json.string s) d is = let same : string s ≡ d = cc in subst HasTidyParts same (λ key e none. absurd cc)
tidy_parts (json.array js) d is = let parts = map_parts array (of_items js) d is in subst HasTidyParts parts.2 (λ key e none. absurd cc)
tidy_parts (json.object js) d is =
    let parts = map_parts object (of_members js no_members) d is in
    subst HasTidyParts parts.2 (λ key e found. tidy_member key parts.0 e (tidy_read js no_members parts.0 tt parts.1) found)

json_parts : (text : List ℕ) (d : Data) → read text ≡ Some d → HasTidyParts d
json_parts text d is =
    let parts = and_then_parts of_json (option_and_then (λ p. json.if_last p.0 p.1) (json.value max_depth (tokens text))) d is in tidy_parts parts.0 d parts.2

pub json_of-parts : (text : List ℕ) (d : Data) → json_of text ≡ Some d → HasTidyParts d
json_of-parts text d is = valid_at (is_utf8 text) is
  where
    valid_at : (b : Bool) → cond b (read text) None ≡ Some d → HasTidyParts d
    valid_at true is = json_parts text d is
    valid_at false is = absurd cc

-- ---- the settings of an object

settings_above : (k : List ℕ) (ms : Members) (ss : List Setting) → Below k ms → settings_in ms ≡ Some ss → AllByRecursion (λ l. order k l ≡ Less) (keys_of ss)
settings_above k no_members ss all is = let same : [] ≡ ss = cc in subst (λ ts. AllByRecursion (λ l. order k l ≡ Less) (keys_of ts)) same tt
settings_above k (member l e ms) ss all is =
    let parts = member_parts l e ms ss is in
    subst (λ ts. AllByRecursion (λ m. order k m ≡ Less) (keys_of ts)) parts.4 (all.0, settings_above k ms parts.1 all.1 parts.3)

-- they rise by key
pub settings_rise : (ms : Members) (ss : List Setting) → Rises ms → settings_in ms ≡ Some ss → IsStrictlySortedBy order (keys_of ss)
unfolding IsStrictlySortedBy
settings_rise no_members ss rises is = let same : [] ≡ ss = cc in subst (λ ts. IsStrictlySortedBy order (keys_of ts)) same tt
settings_rise (member l e ms) ss rises is =
    let parts = member_parts l e ms ss is in
    subst (λ ts. IsStrictlySortedBy order (keys_of ts)) parts.4 (settings_above l ms parts.1 rises.0 parts.3, settings_rise ms parts.1 rises.1 parts.3)

object_settings : (d : Data) (ss : List Setting) → IsTidy d → settings_of d ≡ Some ss → IsStrictlySortedBy order (keys_of ss)
object_settings null ss tidy is = absurd cc
object_settings (boolean b) ss tidy is = absurd cc
object_settings (number n) ss tidy is = absurd cc
object_settings (string s) ss tidy is = absurd cc
object_settings (array ds) ss tidy is = absurd cc
object_settings (object ms) ss tidy is = settings_rise ms ss tidy is

pub settings_at-rise : (d : Data) (ss : List Setting) → HasTidyParts d → settings_at d ≡ Some ss → IsStrictlySortedBy order (keys_of ss)
settings_at-rise d ss tidy is =
    let parts = and_then_parts settings_of (get (codes "options") d) ss is in object_settings parts.0 ss (tidy (codes "options") parts.0 parts.1) parts.2

pub settings_or-rise : (d : Data) (ss : List Setting) → HasTidyParts d → settings_or d ≡ Some ss → IsStrictlySortedBy order (keys_of ss)
unfolding IsStrictlySortedBy
settings_or-rise d ss tidy is = at_least (get (codes "options") d) refl is
  where
    at_least : (o : Option Data) → get (codes "options") d ≡ o → at_or [] settings_of o ≡ Some ss → IsStrictlySortedBy order (keys_of ss)
    at_least None found is = let same : [] ≡ ss = cc in subst (λ ts. IsStrictlySortedBy order (keys_of ts)) same tt
    at_least (Some e) found is = object_settings e ss (tidy (codes "options") e found) is
