-- The compact text of an array of null, truth values, integers and texts: it reads as that array,
-- is UTF-8 and has no newline.
use Rattle.std.proofs.Common.{◌≡◌, ◌≢◌, ℕ, suc, ◌^◌, ◌/◌, ◌%◌, ◌==◌, ◌<◌, ◌≤◌, ℤ, pos, negsuc, List, [], ◌∷◌, Bool, true, false, cond, nat_lt, ◌||◌, Some, option_map, option_and_then, IsUtf8, refl, sym, ap, ◌∙◌, subst, inl, inr, arith, append-nil, ltb-false, eq-eqb}
use Rattle.std.specs.Char.{digit_char}
use Rattle.std.specs.List.{AllByRecursion}
use Rattle.std.proofs.lemmas.Bool.{cases_lt, false≢true}
use Rattle.std.proofs.lemmas.Fmt.{IsAscii-decimal, IsAscii-signed}
use Rattle.std.proofs.lemmas.Str.{IsUtf8-append, IsUtf8-from_ascii}
use Rattle.json.specs.Lex.{tokens}
use Rattle.json.specs.Print.{escape_letter, escape_byte, escape, quoted}
use Rattle.json.specs.Json as json
use Rattle.json.specs.Tree as tree
use Rattle.json.proofs.Printed.Decimals.{IsNumber-decimal, IsNumber-signed_decimal}
use Rattle.json.proofs.Printed.Tokens.{tokens-print}
use Rattle.json.proofs.Printed.Trees.{value-json_tokens, ArePrintable-json_tokens}
use Rattle.json.proofs.Printed.Utf8.{IsUtf8-are_ascii, IsUtf8-quoted, IsUtf8-boolean}
use Rattle.pm_base.specs.Newline.{newline, IsUnbroken}
use Rattle.pm_base.proofs.Laws.{IsUnbroken-nil, IsUnbroken-cons, IsUnbroken-append, IsUnbroken-tested, IsUnbroken-cond, IsUnbroken-decimal}
use Rattle.serde_json.specs.Data.{Num, unsigned, negative, float, Data, null, boolean, number, string, array, object}
use Rattle.serde_json.specs.Find.{of_integer}
use Rattle.serde_json.specs.Read.{of_json, of_items, max_depth, read}
use Rattle.serde_json.specs.View.{items_of}
use Rattle.serde_json.specs.Written.{outline, items_outline, comma_if, compact_text, items_text}
use Rattle.serde_json.proofs.Numbers.{number_of-decimal, number_of-negative}
use Rattle.serde_json.proofs.Texts.{print-outline}

-- an integer of 64 bits, with its sign or without
abbrev pub IsInteger : Num → Type 0
IsInteger (unsigned n) = n < 2 ^ 64
IsInteger (negative (pos n)) = ⊥
IsInteger (negative (negsuc n)) = n < 2 ^ 63
IsInteger (float x) = ⊥

-- null, a truth value, an integer or a text
abbrev pub IsAtom : Data → Type 0
IsAtom null = Unit {0}
IsAtom (boolean b) = Unit {0}
IsAtom (number n) = IsInteger n
IsAtom (string text) = IsUtf8 text
IsAtom (array ds) = ⊥
IsAtom (object ms) = ⊥

abbrev pub AreAtoms : List Data → Type 0
AreAtoms = AllByRecursion IsAtom

-- ---- it reads as the array

of_json-outline : (d : Data) → IsAtom d → of_json (outline d) ≡ Some d
of_json-outline null h = refl
of_json-outline (boolean b) h = refl
of_json-outline (number (unsigned n)) h = ap (option_map number) (number_of-decimal n h)
of_json-outline (number (negative (pos n))) h = absurd h
of_json-outline (number (negative (negsuc n))) h = ap (option_map number) (number_of-negative n h)
of_json-outline (number (float x)) h = absurd h
of_json-outline (string s) h = refl
of_json-outline (array ds) h = absurd h
of_json-outline (object ms) h = absurd h

of_items-outline : (ds : List Data) → AreAtoms ds → of_items (items_outline (items_of ds)) ≡ Some (items_of ds)
of_items-outline [] h = refl
of_items-outline (d ∷ ds) h = rw (of_json-outline d h.0, of_items-outline ds h.1) refl

HasNumbers-outline : (d : Data) → IsAtom d → tree.HasNumbers (outline d)
HasNumbers-outline null h = tt
HasNumbers-outline (boolean b) h = tt
HasNumbers-outline (number (unsigned n)) h = IsNumber-decimal n h
HasNumbers-outline (number (negative (pos n))) h = absurd h
HasNumbers-outline (number (negative (negsuc n))) h = IsNumber-signed_decimal (negsuc n) h
HasNumbers-outline (number (float x)) h = absurd h
HasNumbers-outline (string s) h = tt
HasNumbers-outline (array ds) h = absurd h
HasNumbers-outline (object ms) h = absurd h

ItemsHaveNumbers-outline : (ds : List Data) → AreAtoms ds → tree.ItemsHaveNumbers (items_outline (items_of ds))
ItemsHaveNumbers-outline [] h = tt
ItemsHaveNumbers-outline (d ∷ ds) h = (HasNumbers-outline d h.0, ItemsHaveNumbers-outline ds h.1)

depth-outline : (d : Data) → IsAtom d → tree.depth (outline d) ≤ 0
depth-outline null h = omega arith
depth-outline (boolean b) h = omega arith
depth-outline (number n) h = omega arith
depth-outline (string s) h = omega arith
depth-outline (array ds) h = absurd h
depth-outline (object ms) h = absurd h

items_depth-outline : (ds : List Data) → AreAtoms ds → tree.items_depth (items_outline (items_of ds)) ≤ 0
items_depth-outline [] h = omega arith
items_depth-outline (d ∷ ds) h = omega (arith, depth-outline d h.0, items_depth-outline ds h.1)

pub read-compact_text : (ds : List Data) → AreAtoms ds → read (compact_text (array (items_of ds))) ≡ Some (array (items_of ds))
read-compact_text ds h =
    let d = array (items_of ds) in
    let j = outline d in
    let numbers : tree.HasNumbers j = ItemsHaveNumbers-outline ds h in
    let shallow : tree.depth j ≤ max_depth = omega (arith, items_depth-outline ds h) in
    let lexed = ap tokens (sym (print-outline d)) ∙ tokens-print (tree.json_tokens j) (ArePrintable-json_tokens j numbers) ∙ sym (append-nil (tree.json_tokens j)) in
    let parsed = ap (json.value max_depth) lexed ∙ value-json_tokens j max_depth [] shallow in
    ap (λ p. option_and_then of_json (option_and_then (λ p. json.if_last p.0 p.1) p)) parsed ∙ ap (option_map array) (of_items-outline ds h)

-- ---- it is UTF-8

pub IsUtf8-compact_text : (d : Data) → IsAtom d → IsUtf8 (compact_text d)
IsUtf8-compact_text null h = IsUtf8-are_ascii _ refl
IsUtf8-compact_text (boolean b) h = IsUtf8-boolean b
IsUtf8-compact_text (number (unsigned n)) h = IsUtf8-from_ascii _ (IsAscii-decimal n h)
IsUtf8-compact_text (number (negative (pos n))) h = absurd h
IsUtf8-compact_text (number (negative (negsuc n))) h = IsUtf8-from_ascii _ (IsAscii-signed (negsuc n) h)
IsUtf8-compact_text (number (float x)) h = absurd h
IsUtf8-compact_text (string s) h = IsUtf8-quoted s h
IsUtf8-compact_text (array ds) h = absurd h
IsUtf8-compact_text (object ms) h = absurd h

IsUtf8-comma_if : (later : Bool) → IsUtf8 (comma_if later)
IsUtf8-comma_if true = IsUtf8-are_ascii _ refl
IsUtf8-comma_if false = IsUtf8-are_ascii _ refl

IsUtf8-items_text : (later : Bool) (ds : List Data) → AreAtoms ds → IsUtf8 (items_text later (items_of ds))
IsUtf8-items_text later [] h = IsUtf8-are_ascii _ refl
IsUtf8-items_text later (d ∷ ds) h =
    IsUtf8-append _ _ (IsUtf8-comma_if later) (IsUtf8-append _ _ (IsUtf8-compact_text d h.0) (IsUtf8-items_text true ds h.1))

pub IsUtf8-array_text : (ds : List Data) → AreAtoms ds → IsUtf8 (compact_text (array (items_of ds)))
IsUtf8-array_text ds h = IsUtf8-append (91 ∷ []) _ (IsUtf8-are_ascii _ refl) (IsUtf8-items_text false ds h)

-- ---- it has no newline

digit_char-newline : (d : ℕ) → digit_char d ≢ newline
digit_char-newline d = elim (cases_lt d 10) [ inl small ↦ λ e. grind arith | inr big ↦ λ e. grind arith ]

either_not : (b : Bool) (m n : ℕ) → (b ≡ true → m ≢ newline) → n ≢ newline → cond b m n ≢ newline
either_not true m n h k = h refl
either_not false m n h k = k

either_literal : (b : Bool) (m n : ℕ) → (m == newline) ≡ false → n ≢ newline → cond b m n ≢ newline
either_literal b m n h k = either_not b m n (λ _ same. false≢true (sym h ∙ eq-eqb m newline same)) k

escape_letter-newline : (x : ℕ) → escape_letter x ≢ newline
escape_letter-newline x =
    let tab = either_literal (x == 9) 116 0 refl (omega arith) in
    let return = either_literal (x == 13) 114 _ refl tab in
    let line = either_literal (x == 10) 110 _ refl return in
    let form = either_literal (x == 12) 102 _ refl line in
    let back = either_literal (x == 8) 98 _ refl form in
    either_not ((x == 34) || (x == 92)) x _ (λ is same. false≢true (subst (λ y. ((y == 34) || (y == 92)) ≡ true) same is)) back

IsUnbroken-hex : (x : ℕ) → IsUnbroken (92 ∷ 117 ∷ 48 ∷ 48 ∷ digit_char (x / 16) ∷ digit_char (x % 16) ∷ [])
IsUnbroken-hex x =
    IsUnbroken-append (92 ∷ 117 ∷ 48 ∷ 48 ∷ []) (digit_char (x / 16) ∷ digit_char (x % 16) ∷ [])
    (IsUnbroken-tested (92 ∷ 117 ∷ 48 ∷ 48 ∷ []) refl)
    (IsUnbroken-cons (digit_char (x / 16)) (digit_char (x % 16) ∷ []) (digit_char-newline (x / 16))
    (IsUnbroken-cons (digit_char (x % 16)) [] (digit_char-newline (x % 16)) IsUnbroken-nil))

IsUnbroken-short : (x : ℕ) → IsUnbroken (92 ∷ escape_letter x ∷ [])
IsUnbroken-short x =
    IsUnbroken-cons 92 (escape_letter x ∷ []) (omega arith) (IsUnbroken-cons (escape_letter x) [] (escape_letter-newline x) IsUnbroken-nil)

IsUnbroken-plain : (x : ℕ) → 32 ≤ x → IsUnbroken (x ∷ [])
IsUnbroken-plain x h = IsUnbroken-cons x [] (omega arith) IsUnbroken-nil

IsUnbroken-escape_byte : (x : ℕ) → IsUnbroken (escape_byte x)
unfolding escape_byte
IsUnbroken-escape_byte x =
    let long = IsUnbroken-cond (nat_lt x 32) _ (x ∷ []) (IsUnbroken-hex x) (λ high. IsUnbroken-plain x (ltb-false x 32 high)) in
    IsUnbroken-cond (nat_lt 0 (escape_letter x)) _ _ (IsUnbroken-short x) (λ _. long)

IsUnbroken-escape : (s : List ℕ) → IsUnbroken (escape s)
IsUnbroken-escape [] = IsUnbroken-nil
IsUnbroken-escape (x ∷ xs) = IsUnbroken-append _ _ (IsUnbroken-escape_byte x) (IsUnbroken-escape xs)

IsUnbroken-quoted : (s : List ℕ) → IsUnbroken (quoted s)
IsUnbroken-quoted s =
    IsUnbroken-cons 34 _ (omega arith) (IsUnbroken-append (escape s) (34 ∷ []) (IsUnbroken-escape s) (IsUnbroken-tested (34 ∷ []) refl))

-- one item's text has no newline
abbrev pub IsOneLine : Data → Type 0
IsOneLine d = IsUnbroken (compact_text d)

pub IsOneLine-null : IsOneLine null
IsOneLine-null = IsUnbroken-tested (compact_text null) refl

pub IsOneLine-boolean : (b : Bool) → IsOneLine (boolean b)
IsOneLine-boolean true = IsUnbroken-tested (compact_text (boolean true)) refl
IsOneLine-boolean false = IsUnbroken-tested (compact_text (boolean false)) refl

pub IsOneLine-integer : (z : ℤ) → IsOneLine (number (of_integer z))
IsOneLine-integer (pos n) = IsUnbroken-decimal n
IsOneLine-integer (negsuc n) = IsUnbroken-cons 45 _ (omega arith) (IsUnbroken-decimal (suc n))

pub IsOneLine-string : (s : List ℕ) → IsOneLine (string s)
IsOneLine-string s = IsUnbroken-quoted s

IsUnbroken-comma_if : (later : Bool) → IsUnbroken (comma_if later)
IsUnbroken-comma_if true = IsUnbroken-tested (comma_if true) refl
IsUnbroken-comma_if false = IsUnbroken-nil

IsUnbroken-items_text : (later : Bool) (ds : List Data) → AllByRecursion IsOneLine ds → IsUnbroken (items_text later (items_of ds))
IsUnbroken-items_text later [] h = IsUnbroken-tested (93 ∷ []) refl
IsUnbroken-items_text later (d ∷ ds) h =
    IsUnbroken-append _ _ (IsUnbroken-comma_if later) (IsUnbroken-append _ _ h.0 (IsUnbroken-items_text true ds h.1))

pub IsUnbroken-array_text : (ds : List Data) → AllByRecursion IsOneLine ds → IsUnbroken (compact_text (array (items_of ds)))
IsUnbroken-array_text ds h = IsUnbroken-cons 91 _ (omega arith) (IsUnbroken-items_text false ds h)
