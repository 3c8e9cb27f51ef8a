-- The strings of the JSON that UTF-8 reads as are UTF-8.
use Rattle.std.proofs.Common.{◌≡◌, ℕ, zero, suc, ◌<◌, ◌≤◌, ◌==◌, Bool, true, false, cond, List, [], ◌∷◌, ◌++◌, length, Option, Some, None, Ok, Err, option_map, option_and_then, IsUtf8, inl, inr, refl, sym, ap, ◌∙◌, subst, arith, eqb-true}
use Rattle.std.specs.List.{AllByRecursion}
use Rattle.std.proofs.lemmas.Bool.{cases_lt}
use Rattle.json.specs.Ascii as ascii
use Rattle.json.specs.Json as json
use Rattle.json.specs.Lex.{Lexeme, token, comma, colon, Class, quote, backslash, operator, space, other, class, operator_lexeme, string_token, Mode, between, in_word, in_string, in_escape, lex_byte, lex, Place, fresh, after_value, after_comma, after_key, begins_colon, if_allowed, place_token, punctuate, may_begin, may_close, tokens}
use Rattle.json.specs.Text.{content, plain}
use Rattle.json.specs.Token as tok
use Rattle.json.specs.Tree.{json_tokens, items_tokens}
use Rattle.json.specs.Word.{head, is_operator, is_space, ends_word, literal, number_before, after_number, word}
use Rattle.json.proofs.Unique.Spelling.{value-json_tokens_back}
use Rattle.serde_json.specs.Data.{Data, null, boolean, number, string, array, object, Items, no_items, item}
use Rattle.serde_json.specs.Read.{number_of, of_json, of_items, of_members, max_depth, read}
use Rattle.pm_base.proofs.Laws.{AllByRecursion-parts}
use Rattle.pm_rows.specs.Reading.{Fault, list_of, items_in}
use Rattle.pm_rows.proofs.ContentLemmas.{AreHigh, BeginsHigh-utf8, IsUtf8-content, given, past_byte}

-- ---- tokens and lexemes

-- a string or a key is UTF-8
abbrev IsText : tok.Token → Type 0
IsText (tok.key s) = IsUtf8 s
IsText (tok.string s) = IsUtf8 s
IsText t = Unit {0}

abbrev IsTextLexeme : Lexeme → Type 0
IsTextLexeme (token t) = IsText t
IsTextLexeme l = Unit {0}

abbrev AreTexts : List tok.Token → Type 0
AreTexts ts = AllByRecursion IsText ts

abbrev AreLexed : List Lexeme → Type 0
AreLexed ls = AllByRecursion IsTextLexeme ls

either : (b : Bool) (x y : tok.Token) → IsText x → IsText y → IsText (cond b x y)
either true x y h k = h
either false x y h k = k

IsText-number : (t : List ℕ) (o : Option (List ℕ)) → IsText (number_before t o)
IsText-number t None = tt
IsText-number t (Some rest) = either (ends_word rest) (tok.number _) tok.bad tt tt

IsText-literal : (name t : List ℕ) (x : tok.Token) → IsText x → IsText (literal name x t)
IsText-literal name t x h = either _ x tok.bad h tt

-- a word is no string
IsText-word : (t : List ℕ) → IsText (word t)
unfolding word
IsText-word t =
    let numbers = IsText-number t (after_number t) in
    let nulls = either (head t == ascii.lower_n) (literal ascii.null_text tok.null t) (number_before t (after_number t)) (IsText-literal ascii.null_text t tok.null tt) numbers in
    let falses = either (head t == ascii.lower_f) (literal ascii.false_text (tok.boolean false) t) _ (IsText-literal ascii.false_text t (tok.boolean false) tt) nulls in
    either (head t == ascii.lower_t) (literal ascii.true_text (tok.boolean true) t) _ (IsText-literal ascii.true_text t (tok.boolean true) tt) falses

either_lexeme : (b : Bool) (x y : Lexeme) → IsTextLexeme x → IsTextLexeme y → IsTextLexeme (cond b x y)
either_lexeme true x y h k = h
either_lexeme false x y h k = k

IsTextLexeme-operator : (x : ℕ) → IsTextLexeme (operator_lexeme x)
IsTextLexeme-operator x =
    let commas = either_lexeme (x == ascii.comma) comma colon tt tt in
    let closes = either_lexeme (x == ascii.close_bracket) (token tok.end_array) _ tt commas in
    let opens = either_lexeme (x == ascii.open_bracket) (token tok.begin_array) _ tt closes in
    let ends = either_lexeme (x == ascii.close_brace) (token tok.end_object) _ tt opens in
    either_lexeme (x == ascii.open_brace) (token tok.begin_object) _ tt ends

AreLexed-byte : (m : Mode) (c : Class) (x : ℕ) (xs : List ℕ) (k : Mode → List Lexeme) → (c ≡ quote → IsText (string_token (content plain xs))) → ((next : Mode) → AreLexed (k next))
    → AreLexed (lex_byte m c x xs k)
AreLexed-byte between quote x xs k text more = (text refl, more in_string)
AreLexed-byte between backslash x xs k text more = (tt, more in_word)
AreLexed-byte between operator x xs k text more = (IsTextLexeme-operator x, more between)
AreLexed-byte between space x xs k text more = more between
AreLexed-byte between other x xs k text more = (IsText-word (x ∷ xs), more in_word)
AreLexed-byte in_word quote x xs k text more = more in_word
AreLexed-byte in_word backslash x xs k text more = more in_word
AreLexed-byte in_word operator x xs k text more = (IsTextLexeme-operator x, more between)
AreLexed-byte in_word space x xs k text more = more between
AreLexed-byte in_word other x xs k text more = more in_word
AreLexed-byte in_string quote x xs k text more = more between
AreLexed-byte in_string backslash x xs k text more = more in_escape
AreLexed-byte in_string operator x xs k text more = more in_string
AreLexed-byte in_string space x xs k text more = more in_string
AreLexed-byte in_string other x xs k text more = more in_string
AreLexed-byte in_escape c x xs k text more = more in_string

IsText-string : (xs : List ℕ) (o : Option (List ℕ)) → content plain xs ≡ o → IsUtf8 xs → IsText (string_token o)
IsText-string xs None e utf8 = tt
IsText-string xs (Some s) e utf8 = IsUtf8-content xs s utf8 e

no_quote : (a b c : Bool) → cond a backslash (cond b operator (cond c space other)) ≡ quote → ⊥
no_quote true b c e = cc
no_quote false true c e = cc
no_quote false false true e = cc
no_quote false false false e = cc

-- a quote is ASCII
quote-low : (x : ℕ) → class x ≡ quote → x < 128
quote-low x e =
    elim (x == 34) as (λ b. (x == 34) ≡ b → cond b quote (cond (x == 92) backslash (cond (is_operator x) operator (cond (is_space x) space other))) ≡ quote → x < 128) [
      | true ↦ λ is _. omega (arith, eqb-true x 34 is)
      | false ↦ λ is e. absurd (no_quote (x == 92) (is_operator x) (is_space x) e)
    ] refl e

-- bytes that aren't ASCII begin no string
AreLexed-high : (xs ys : List ℕ) → AreHigh xs → ((next : Mode) → AreLexed (lex next ys)) → (m : Mode) → AreLexed (lex m (xs ++ ys))
unfolding lex
AreLexed-high [] ys high more m = more m
AreLexed-high (x ∷ xs) ys high more m =
    AreLexed-byte m (class x) x (xs ++ ys) (λ next. lex next (xs ++ ys)) (λ is. absurd (omega (arith, quote-low x is, high 0 (omega arith))))
    (AreLexed-high xs ys (λ k below. high (suc k) (omega arith)) more)

AreLexed-nil : (m : Mode) → AreLexed (lex m [])
unfolding lex
AreLexed-nil m = tt

low_byte : (x : ℕ) (xs : List ℕ) (m : Mode) → IsText (string_token (content plain xs)) → ((next : Mode) → AreLexed (lex next xs)) → AreLexed (lex m (x ∷ xs))
unfolding lex
low_byte x xs m text more = AreLexed-byte m (class x) x xs (λ next. lex next xs) (λ _. text) more

AreLexed-lex : (n : ℕ) (xs : List ℕ) → length xs ≤ n → IsUtf8 xs → (m : Mode) → AreLexed (lex m xs)
AreLexed-lex n [] small utf8 m = AreLexed-nil m
AreLexed-lex zero (x ∷ xs) small utf8 m = absurd (omega arith)
AreLexed-lex (suc n) (x ∷ xs) small utf8 m = elim (cases_lt x 128) [
  | inl low ↦
      let rest = past_byte x xs low utf8 in
      low_byte x xs m (IsText-string xs (content plain xs) refl rest) (AreLexed-lex n xs (omega arith) rest)
  | inr high ↦
      let begins = BeginsHigh-utf8 x xs high utf8 in
      subst (λ l. AreLexed (lex m l)) (sym begins.is)
      (AreLexed-high _ begins.later begins.high (AreLexed-lex n begins.later (omega (arith, begins.shorter)) begins.utf8) m)
]

-- ---- commas and colons

allowed : (b : Bool) (t : tok.Token) (k : Place → List tok.Token) (next : Place) → IsText t → AreTexts (k next) → AreTexts (if_allowed b t k next)
allowed true t k next h more = (h, more)
allowed false t k next h more = (tt, tt)

placed : (p : Place) (t : tok.Token) (b : Bool) (k : Place → List tok.Token) → IsText t → ((next : Place) → AreTexts (k next)) → AreTexts (place_token p t b k)
placed p tok.begin_object b k h more = allowed (may_begin p) tok.begin_object k fresh tt (more fresh)
placed p tok.end_object b k h more = allowed (may_close p) tok.end_object k after_value tt (more after_value)
placed p tok.begin_array b k h more = allowed (may_begin p) tok.begin_array k fresh tt (more fresh)
placed p tok.end_array b k h more = allowed (may_close p) tok.end_array k after_value tt (more after_value)
placed p (tok.key s) b k h more = (tt, tt)
placed p (tok.string s) true k h more = allowed (may_begin p) (tok.key s) k after_key h (more after_key)
placed p (tok.string s) false k h more = allowed (may_begin p) (tok.string s) k after_value h (more after_value)
placed p (tok.number s) b k h more = allowed (may_begin p) (tok.number s) k after_value tt (more after_value)
placed p (tok.boolean c) b k h more = allowed (may_begin p) (tok.boolean c) k after_value tt (more after_value)
placed p tok.null b k h more = allowed (may_begin p) tok.null k after_value tt (more after_value)
placed p tok.bad b k h more = (tt, tt)

AreTexts-punctuate : (ls : List Lexeme) → AreLexed ls → (p : Place) → AreTexts (punctuate p ls)
unfolding punctuate
AreTexts-punctuate [] h fresh = tt
AreTexts-punctuate [] h after_value = tt
AreTexts-punctuate [] h after_comma = (tt, tt)
AreTexts-punctuate [] h after_key = (tt, tt)
AreTexts-punctuate (token t ∷ ls) h fresh = placed fresh t (begins_colon ls) (λ next. punctuate next ls) h.0 (AreTexts-punctuate ls h.1)
AreTexts-punctuate (token t ∷ ls) h after_value = placed after_value t (begins_colon ls) (λ next. punctuate next ls) h.0 (AreTexts-punctuate ls h.1)
AreTexts-punctuate (token t ∷ ls) h after_comma = placed after_comma t (begins_colon ls) (λ next. punctuate next ls) h.0 (AreTexts-punctuate ls h.1)
AreTexts-punctuate (token t ∷ ls) h after_key = placed after_key t (begins_colon ls) (λ next. punctuate next ls) h.0 (AreTexts-punctuate ls h.1)
AreTexts-punctuate (comma ∷ ls) h fresh = (tt, tt)
AreTexts-punctuate (comma ∷ ls) h after_value = AreTexts-punctuate ls h.1 after_comma
AreTexts-punctuate (comma ∷ ls) h after_comma = (tt, tt)
AreTexts-punctuate (comma ∷ ls) h after_key = (tt, tt)
AreTexts-punctuate (colon ∷ ls) h fresh = (tt, tt)
AreTexts-punctuate (colon ∷ ls) h after_value = (tt, tt)
AreTexts-punctuate (colon ∷ ls) h after_comma = (tt, tt)
AreTexts-punctuate (colon ∷ ls) h after_key = AreTexts-punctuate ls h.1 fresh

AreTexts-tokens : (text : List ℕ) → IsUtf8 text → AreTexts (tokens text)
AreTexts-tokens text utf8 = AreTexts-punctuate (lex between text) (AreLexed-lex (length text) text (omega arith) utf8 between) fresh

-- ---- data

-- a string is UTF-8
abbrev pub IsTextData : Data → Type 0
IsTextData (string s) = IsUtf8 s
IsTextData d = Unit {0}

mapped : {A B : Type 0} (f : A → B) (o : Option A) (b : B) → option_map f o ≡ Some b → (a : A) × (o ≡ Some a) × (f a ≡ b)
mapped f None b e = cc
mapped f (Some a) b e = (a, refl, cc)

IsTextData-of_json : (j : json.Json) (d : Data) → AreTexts (json_tokens j) → of_json j ≡ Some d → IsTextData d
IsTextData-of_json json.null d h e = let same : null ≡ d = cc in subst IsTextData same tt
IsTextData-of_json (json.boolean b) d h e = let same : boolean b ≡ d = cc in subst IsTextData same tt
IsTextData-of_json (json.number s) d h e = let found = mapped number (number_of s) d e in subst IsTextData found.2 tt
IsTextData-of_json (json.string s) d h e = let same : string s ≡ d = cc in subst IsTextData same h.0
IsTextData-of_json (json.array js) d h e = let found = mapped array (of_items js) d e in subst IsTextData found.2 tt
IsTextData-of_json (json.object ms) d h e = let found = mapped object (of_members ms _) d e in subst IsTextData found.2 tt

AllTextData-of_items : (js : json.Items) (ds : Items) → AreTexts (items_tokens js) → of_items js ≡ Some ds → AllByRecursion IsTextData (list_of ds)
AllTextData-of_items json.no_items ds h e = let same : no_items ≡ ds = cc in subst (λ (ds : Items). AllByRecursion IsTextData (list_of ds)) same tt
AllTextData-of_items (json.item j js) ds h e =
    let first = given (of_json j) (λ d. option_map (item d) (of_items js)) ds e in
    let rest = mapped (item first.0) (of_items js) ds first.2 in
    let texts = AllByRecursion-parts IsText (json_tokens j) (items_tokens js) h in
    subst (λ (ds : Items). AllByRecursion IsTextData (list_of ds)) rest.2
    (IsTextData-of_json j first.0 texts.0 first.1, AllTextData-of_items js rest.0 texts.1 rest.1)

no_array : (d e : Data) (ds : List Data) (x : Fault) → e ≡ d → items_in e ≡ Err x → items_in d ≡ Ok ds → ⊥
no_array d e ds x same none is = let both : Err x ≡ Ok ds = sym none ∙ ap items_in same ∙ is in cc

AllTextData-items_in : (j : json.Json) (d : Data) (ds : List Data) → AreTexts (json_tokens j) → of_json j ≡ Some d → items_in d ≡ Ok ds → AllByRecursion IsTextData ds
AllTextData-items_in json.null d ds h e is = let same : null ≡ d = cc in absurd (no_array d null ds _ same refl is)
AllTextData-items_in (json.boolean b) d ds h e is = let same : boolean b ≡ d = cc in absurd (no_array d (boolean b) ds _ same refl is)
AllTextData-items_in (json.number s) d ds h e is = let found = mapped number (number_of s) d e in absurd (no_array d (number found.0) ds _ found.2 refl is)
AllTextData-items_in (json.string s) d ds h e is = let same : string s ≡ d = cc in absurd (no_array d (string s) ds _ same refl is)
AllTextData-items_in (json.array js) d ds h e is =
    let found = mapped array (of_items js) d e in
    let both : items_in (array found.0) ≡ Ok ds = ap items_in found.2 ∙ is in
    let same : list_of found.0 ≡ ds = cc in
    subst (AllByRecursion IsTextData) same (AllTextData-of_items js found.0 h.1 found.1)
AllTextData-items_in (json.object ms) d ds h e is = let found = mapped object (of_members ms _) d e in absurd (no_array d (object found.0) ds _ found.2 refl is)

last : (i j : json.Json) (ts : List tok.Token) → json.if_last i ts ≡ Some j → i ≡ j
last i j [] e = cc
last i j (t ∷ ts) e = cc

-- the strings among the items of the array that UTF-8 reads as are UTF-8
pub AllTextData-read : (text : List ℕ) (d : Data) (ds : List Data) → IsUtf8 text → read text ≡ Some d → items_in d ≡ Ok ds → AllByRecursion IsTextData ds
AllTextData-read text d ds utf8 e is =
    let whole = given (option_and_then (λ p. json.if_last p.0 p.1) (json.value max_depth (tokens text))) of_json d e in
    let parsed = given (json.value max_depth (tokens text)) (λ p. json.if_last p.0 p.1) whole.0 whole.1 in
    let spelled = value-json_tokens_back max_depth (tokens text) parsed.0.1 parsed.0.0 parsed.1 in
    let texts = AllByRecursion-parts IsText (json_tokens parsed.0.0) parsed.0.1 (subst AreTexts spelled (AreTexts-tokens text utf8)) in
    let same = last parsed.0.0 whole.0 parsed.0.1 parsed.2 in
    AllTextData-items_in whole.0 d ds (subst (λ j. AreTexts (json_tokens j)) same texts.0) whole.2 is
