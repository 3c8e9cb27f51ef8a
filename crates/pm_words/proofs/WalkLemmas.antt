-- What `clap` finds in the words of options, word by word.
use Rattle.std.proofs.Common.{◌≡◌, ◌∙◌, ℕ, Bool, cond, true, false, true≢false, if◌then◌else◌, not, ◌&&◌, ◌||◌, List, [], ◌∷◌, ◌++◌, map, Option, None, Some, option_map, codes, refl, sym, ap, ap₂, append-nil}
use Rattle.std.specs.Option.{option_map_or}
use Rattle.std.specs.Str.{bytes_eq}
use Rattle.std.proofs.lemmas.List.{map-append}
use Rattle.std.proofs.lemmas.Slice.Eq.{bytes_eq-Decides}
use Rattle.clap.specs.Faults.{bundle_fault, flag_word_fault, long_fault, positional_fault, react_fault, settle_fault, step_fault, stray_fault, turn_fault, use_fault}
use Rattle.clap.specs.Kinds.{Kinds, or_else}
use Rattle.clap.specs.Lexer.{long_of, name_and_value, short_of}
use Rattle.clap.specs.Values.{reading_of}
use Rattle.clap.specs.Walk.{Held, Row, Rule, Step, Text, Waiting, Walk, after_flag, after_step, arg_by_id, arg_by_index, arg_by_long, at_row, has_row, idle, long_met, long_or_other, more_values, next, option, option_word, settled_rows, short_or_plain, trailing, used, used_by_id, walked, with_values, without}
use Rattle.clap.specs.declared.parser.matches.ValueSource.TheVariants.{CommandLine}
use Rattle.clap.specs.declared.builder.value_parser.ValueParser.TheVariants as parsers
use Rattle.clap.specs.declared.error.kind.ErrorKind.TheVariants as kinds
use Rattle.clap.proofs.WalkLemmas.{list_any-map}
use Rattle.pm_words.specs.Clap.{Declared, are_new, declared_as, flag, has_option, name_in, row_for, rule_for, shape_for, value}
use Rattle.pm_words.specs.Words.{CommandOption, begins_with_hyphen}

-- ---- steps that fail

pub first_none : (a b : Kinds) → or_else a b ≡ [] → a ≡ []
first_none [] b none = refl
first_none (k ∷ ks) b none = none

pub second_none : (a b : Kinds) → or_else a b ≡ [] → b ≡ []
second_none [] b none = none
second_none (k ∷ ks) b none = absurd cc

pub both_none : (a b : Kinds) → a ≡ [] → b ≡ [] → or_else a b ≡ []
both_none a b one other = ap (λ x. or_else x b) one ∙ other

-- ---- which option a name is

found_long : (d : Declared) (ds : List Declared) (name : List ℕ) (b : Bool) → arg_by_long (map rule_for ds) name ≡ option_map rule_for (declared_as name ds)
    → cond (b || false) (Some (rule_for d)) (arg_by_long (map rule_for ds) name) ≡ option_map rule_for (cond b (Some d) (declared_as name ds))
found_long d ds name true e = refl
found_long d ds name false e = e

by_long : (ds : List Declared) (name : List ℕ) → arg_by_long (map rule_for ds) name ≡ option_map rule_for (declared_as name ds)
by_long [] name = refl
by_long (value n ∷ ds) name = found_long (value n) ds name (bytes_eq n name) (by_long ds name)
by_long (flag n ∷ ds) name = found_long (flag n) ds name (bytes_eq n name) (by_long ds name)

found_id : (d : Declared) (ds : List Declared) (name : List ℕ) (b : Bool) → arg_by_id (map rule_for ds) name ≡ option_map rule_for (declared_as name ds)
    → cond b (Some (rule_for d)) (arg_by_id (map rule_for ds) name) ≡ option_map rule_for (cond b (Some d) (declared_as name ds))
found_id d ds name true e = refl
found_id d ds name false e = e

by_id : (ds : List Declared) (name : List ℕ) → arg_by_id (map rule_for ds) name ≡ option_map rule_for (declared_as name ds)
by_id [] name = refl
by_id (value n ∷ ds) name = found_id (value n) ds name (bytes_eq n name) (by_id ds name)
by_id (flag n ∷ ds) name = found_id (flag n) ds name (bytes_eq n name) (by_id ds name)

no_index : (ds : List Declared) (i : ℕ) → arg_by_index (map rule_for ds) i ≡ None
no_index [] i = refl
no_index (value n ∷ ds) i = no_index ds i
no_index (flag n ∷ ds) i = no_index ds i

pub known_name : (ds : List Declared) (name : List ℕ) (d : Declared) → declared_as name ds ≡ Some d → name_in d ≡ name
known_name [] name d e = absurd cc
known_name (x ∷ ds) name d e = go (bytes_eq (name_in x) name) refl e (known_name ds name d)
  where
    go : (b : Bool) → bytes_eq (name_in x) name ≡ b → cond b (Some x) (declared_as name ds) ≡ Some d
        → (declared_as name ds ≡ Some d → name_in d ≡ name) → name_in d ≡ name
    go true is same rest =
        let one : x ≡ d = cc in
        ap name_in (sym one) ∙ (bytes_eq-Decides (name_in x) name).0 is
    go false is same rest = rest same

-- no option has the name, or one with a value, or a flag
pub data Found (name : List ℕ) (ds : List Declared) : Type 0 where
  unknown : declared_as name ds ≡ None → Found name ds
  valued : declared_as name ds ≡ Some (value name) → Found name ds
  flagged : declared_as name ds ≡ Some (flag name) → Found name ds

pub found : (name : List ℕ) (ds : List Declared) → Found name ds
found name ds = go (declared_as name ds) refl
  where
    go : (r : Option Declared) → declared_as name ds ≡ r → Found name ds
    go None e = unknown e
    go (Some (value n)) e = valued (e ∙ ap (λ m. Some (value m)) (known_name ds name (value n) e))
    go (Some (flag n)) e = flagged (e ∙ ap (λ m. Some (flag m)) (known_name ds name (flag n) e))

-- ---- what is found

pub absent : (id : Text) (change : Row → List Row) (missing rows : List Row) → has_row id rows ≡ false → at_row id change missing rows ≡ rows ++ missing
absent id change missing [] new = refl
absent id change missing (r ∷ rs) new = go (bytes_eq r.id id) new (absent id change missing rs)
  where
    go : (b : Bool) → (b || has_row id rs) ≡ false → (has_row id rs ≡ false → at_row id change missing rs ≡ rs ++ missing)
        → cond b (change r ++ rs) (r ∷ at_row id change missing rs) ≡ r ∷ (rs ++ missing)
    go true is rest = absurd (true≢false is)
    go false is rest = ap (λ x. r ∷ x) (rest is)

-- the rows of options have their names
pub has_rows : (name : List ℕ) (options : List CommandOption) → has_row name (map row_for options) ≡ has_option name options
has_rows name options = sym (list_any-map (λ (r : Row). bytes_eq r.id name) row_for options)

grown_rows : (options : List CommandOption) (one : CommandOption) → map row_for options ++ row_for one ∷ [] ≡ map row_for (options ++ one ∷ [])
grown_rows options one = sym (map-append row_for options (one ∷ []))

-- a first use of an option
used_new : (name : Text) (values : List Text) (rows : List Row) → has_row name rows ≡ false
    → with_values name (reading_of parsers.String) CommandLine values (without name rows)
    ≡ rows ++ record { id = name; values = values; count = None; source = Some CommandLine; reading = reading_of parsers.String } ∷ []
used_new name values rows none =
    ap (with_values name (reading_of parsers.String) CommandLine values) (absent name (λ _. []) [] rows none ∙ append-nil rows)
    ∙ absent name (more_values CommandLine values)
    (record { id = name; values = values; count = None; source = Some CommandLine; reading = reading_of parsers.String } ∷ []) rows none

pub used_value : (name given : List ℕ) (options : List CommandOption) → has_option name options ≡ false
    → used (rule_for (value name)) (given ∷ []) (map row_for options) ≡ map row_for (options ++ record { name = name; value = Some given } ∷ [])
used_value name given options new =
    used_new name (given ∷ []) (map row_for options) (has_rows name options ∙ new) ∙ grown_rows options (record { name = name; value = Some given })

pub used_flag : (name : List ℕ) (options : List CommandOption) → has_option name options ≡ false
    → used (rule_for (flag name)) [] (map row_for options) ≡ map row_for (options ++ record { name = name; value = None } ∷ [])
used_flag name options new =
    used_new name (codes "true" ∷ []) (map row_for options) (has_rows name options ∙ new) ∙ grown_rows options (record { name = name; value = None })

-- it fails where the option was used before
free : (b : Bool) → or_else (cond (b && true) (kinds.ArgumentConflict ∷ []) []) [] ≡ [] → b ≡ false
free false none = refl
free true none = absurd cc

pub value_free : (name given : List ℕ) (options : List CommandOption) → use_fault false (rule_for (value name)) (given ∷ []) (map row_for options) ≡ []
    → has_option name options ≡ false
value_free name given options none = sym (has_rows name options) ∙ free (has_row name (map row_for options)) none

pub flag_free : (name : List ℕ) (options : List CommandOption) → use_fault false (rule_for (flag name)) [] (map row_for options) ≡ [] → has_option name options ≡ false
flag_free name options none = sym (has_rows name options) ∙ free (has_row name (map row_for options)) none

passes : (b : Bool) → b ≡ false → or_else (cond (b && true) (kinds.ArgumentConflict ∷ []) []) [] ≡ []
passes false is = refl
passes true is = absurd (true≢false is)

pub value_passes : (name given : List ℕ) (options : List CommandOption) → has_option name options ≡ false
    → use_fault false (rule_for (value name)) (given ∷ []) (map row_for options) ≡ []
value_passes name given options new = passes (has_row name (map row_for options)) (has_rows name options ∙ new)

pub flag_passes : (name : List ℕ) (options : List CommandOption) → has_option name options ≡ false
    → use_fault false (rule_for (flag name)) [] (map row_for options) ≡ []
flag_passes name options new = passes (has_row name (map row_for options)) (has_rows name options ∙ new)

-- ---- where a walk stands

pub not_true : (b : Bool) → (not b && true) ≡ true → b ≡ false
not_true false is = refl
not_true true is = absurd (true≢false (sym is))

abbrev option_map_else : List Text → List Row → Option Rule → Kinds
option_map_else values rows r = option_map_or (λ a. use_fault false a values rows) r []

-- an option that waits for its value, or has it, and isn't used yet
abbrev pub Pending : Type 0
Pending = Option (List ℕ × List ℕ)

abbrev pub held : Pending → Option (Text × List Text)
held None = None
held (Some p) = Some (p.0, p.1 ∷ [])

abbrev pub pending : Pending → List CommandOption
pending None = []
pending (Some p) = record { name = p.0; value = Some p.1 } ∷ []

abbrev pub IsPending : List Declared → Pending → Type 0
IsPending ds None = Unit {0}
IsPending ds (Some p) = declared_as p.0 ds ≡ Some (value p.0)

abbrev pub holds : List Row → Option (Text × List Text) → Held
holds rows p = record { rows = rows; pending = p; skip = 0 }

abbrev pub at : List Row → Option (Text × List Text) → Waiting → Walk
at rows p waiting = record { held = holds rows p; waiting = waiting; position = 1; is_trailing = false; stopped = None }

-- what is pending is used
pub settled_free : (ds : List Declared) (options : List CommandOption) (p : Pending) → IsPending ds p
    → settle_fault (map rule_for ds) false (holds (map row_for options) (held p)) ≡ [] → are_new options (pending p) ≡ true
settled_free ds options None is none = refl
settled_free ds options (Some p) is none =
    let by = by_id ds p.0 ∙ ap (option_map rule_for) is in
    let used_once : use_fault false (rule_for (value p.0)) (p.1 ∷ []) (map row_for options) ≡ [] =
    sym (ap (option_map_else (p.1 ∷ []) (map row_for options)) by) ∙ none in
    ap (λ b. not b && true) (value_free p.0 p.1 options used_once)

pub settled_passes : (ds : List Declared) (options : List CommandOption) (p : Pending) → IsPending ds p → are_new options (pending p) ≡ true
    → settle_fault (map rule_for ds) false (holds (map row_for options) (held p)) ≡ []
settled_passes ds options None is new = refl
settled_passes ds options (Some p) is new =
    let by = by_id ds p.0 ∙ ap (option_map rule_for) is in
    ap (option_map_else (p.1 ∷ []) (map row_for options)) by ∙ value_passes p.0 p.1 options (not_true (has_option p.0 options) new)

pub settled_is : (ds : List Declared) (options : List CommandOption) (p : Pending) → IsPending ds p → are_new options (pending p) ≡ true
    → settled_rows (map rule_for ds) (held p) (map row_for options) ≡ map row_for (options ++ pending p)
settled_is ds options None is new = ap (map row_for) (sym (append-nil options))
settled_is ds options (Some p) is new =
    let by = by_id ds p.0 ∙ ap (option_map rule_for) is in
    ap (λ r. used_by_id r (p.1 ∷ []) (map row_for options)) by ∙ used_value p.0 p.1 options (not_true (has_option p.0 options) new)

-- ---- one word

-- how a word that is a name, and perhaps a value, goes: which steps fail, and where the walk stands then
abbrev long_kinds : List ℕ → List Declared → Waiting → Text → Option Text → Held → Option Rule → Kinds
long_kinds name ds waiting word given h r = or_else (long_fault (map rule_for ds) false r given h)
    (step_fault (shape_for name ds) 1
    (after_flag (map rule_for ds) waiting word (long_met (map rule_for ds) r given h).0 (long_met (map rule_for ds) r given h).1).0
    (after_flag (map rule_for ds) waiting word (long_met (map rule_for ds) r given h).0 (long_met (map rule_for ds) r given h).1).1)

abbrev long_walk : List Declared → Text → Option Text → Walk → Option Rule → Walk
long_walk ds word given w r = after_step (map rule_for ds) word w
    (after_flag (map rule_for ds) w.waiting word (long_met (map rule_for ds) r given w.held).0 (long_met (map rule_for ds) r given w.held).1).0
    (after_flag (map rule_for ds) w.waiting word (long_met (map rule_for ds) r given w.held).0 (long_met (map rule_for ds) r given w.held).1).1

long_turn : (name : List ℕ) (ds : List Declared) (rows : List Row) (p : Option (Text × List Text)) (x : ℕ) (xs : List ℕ)
    → turn_fault (shape_for name ds) [] (at rows p idle) (45 ∷ 45 ∷ x ∷ xs)
    ≡ long_kinds name ds idle (45 ∷ 45 ∷ x ∷ xs) (name_and_value (x ∷ xs)).1 (holds rows p) (arg_by_long (map rule_for ds) (name_and_value (x ∷ xs)).0)
long_turn name ds rows p x xs = refl

long_walked : (ds : List Declared) (rows : List Row) (p : Option (Text × List Text)) (x : ℕ) (xs : List ℕ)
    → walked (map rule_for ds) [] (at rows p idle) (45 ∷ 45 ∷ x ∷ xs)
    ≡ long_walk ds (45 ∷ 45 ∷ x ∷ xs) (name_and_value (x ∷ xs)).1 (at rows p idle) (arg_by_long (map rule_for ds) (name_and_value (x ∷ xs)).0)
unfolding walked
long_walked ds rows p x xs = refl

-- the same where a value is waited for
late_turn : (name : List ℕ) (ds : List Declared) (rows : List Row) (p : Option (Text × List Text)) (id : Text) (x : ℕ) (xs : List ℕ)
    → turn_fault (shape_for name ds) [] (at rows p (option id)) (45 ∷ 45 ∷ x ∷ xs)
    ≡ long_kinds name ds (option id) (45 ∷ 45 ∷ x ∷ xs) (name_and_value (x ∷ xs)).1 (holds rows p) (arg_by_long (map rule_for ds) (name_and_value (x ∷ xs)).0)
late_turn name ds rows p id x xs = refl

late_walked : (ds : List Declared) (rows : List Row) (p : Option (Text × List Text)) (id : Text) (x : ℕ) (xs : List ℕ)
    → walked (map rule_for ds) [] (at rows p (option id)) (45 ∷ 45 ∷ x ∷ xs)
    ≡ long_walk ds (45 ∷ 45 ∷ x ∷ xs) (name_and_value (x ∷ xs)).1 (at rows p (option id)) (arg_by_long (map rule_for ds) (name_and_value (x ∷ xs)).0)
unfolding walked
late_walked ds rows p id x xs = refl

module _ (name : List ℕ) (ds : List Declared) (rows : List Row) (p : Option (Text × List Text)) (x : ℕ) (xs n : List ℕ) (named : (name_and_value (x ∷ xs)).0 ≡ n) where
  is_long : (r : Option Declared) → declared_as n ds ≡ r → arg_by_long (map rule_for ds) (name_and_value (x ∷ xs)).0 ≡ option_map rule_for r
  is_long r known = ap (arg_by_long (map rule_for ds)) named ∙ by_long ds n ∙ ap (option_map rule_for) known

  pub turn_is : (given : Option Text) (r : Option Declared) → (name_and_value (x ∷ xs)).1 ≡ given → declared_as n ds ≡ r
      → turn_fault (shape_for name ds) [] (at rows p idle) (45 ∷ 45 ∷ x ∷ xs) ≡ long_kinds name ds idle (45 ∷ 45 ∷ x ∷ xs) given (holds rows p) (option_map rule_for r)
  turn_is given r is known = long_turn name ds rows p x xs ∙ ap₂ (λ v q. long_kinds name ds idle (45 ∷ 45 ∷ x ∷ xs) v (holds rows p) q) is (is_long r known)

  pub walked_is : (given : Option Text) (r : Option Declared) → (name_and_value (x ∷ xs)).1 ≡ given → declared_as n ds ≡ r
      → walked (map rule_for ds) [] (at rows p idle) (45 ∷ 45 ∷ x ∷ xs) ≡ long_walk ds (45 ∷ 45 ∷ x ∷ xs) given (at rows p idle) (option_map rule_for r)
  walked_is given r is known = long_walked ds rows p x xs ∙ ap₂ (λ v q. long_walk ds (45 ∷ 45 ∷ x ∷ xs) v (at rows p idle) q) is (is_long r known)

  pub value_turn : (given : Text) → (name_and_value (x ∷ xs)).1 ≡ Some given → declared_as n ds ≡ Some (value n)
      → turn_fault (shape_for name ds) [] (at rows p idle) (45 ∷ 45 ∷ x ∷ xs) ≡ or_else (react_fault (map rule_for ds) false (rule_for (value n)) (given ∷ []) (holds rows p)) []
  value_turn given is known = turn_is (Some given) (Some (value n)) is known

  pub value_walked : (given : Text) → (name_and_value (x ∷ xs)).1 ≡ Some given → declared_as n ds ≡ Some (value n)
      → walked (map rule_for ds) [] (at rows p idle) (45 ∷ 45 ∷ x ∷ xs) ≡ at (used (rule_for (value n)) (given ∷ []) (settled_rows (map rule_for ds) p rows)) None idle
  value_walked given is known = walked_is (Some given) (Some (value n)) is known

  pub wait_turn : (name_and_value (x ∷ xs)).1 ≡ None → declared_as n ds ≡ Some (value n)
      → turn_fault (shape_for name ds) [] (at rows p idle) (45 ∷ 45 ∷ x ∷ xs) ≡ or_else (settle_fault (map rule_for ds) false (holds rows p)) []
  wait_turn is known = turn_is None (Some (value n)) is known

  pub wait_walked : (name_and_value (x ∷ xs)).1 ≡ None → declared_as n ds ≡ Some (value n)
      → walked (map rule_for ds) [] (at rows p idle) (45 ∷ 45 ∷ x ∷ xs) ≡ at (settled_rows (map rule_for ds) p rows) (Some (n, [])) (option n)
  wait_walked is known = walked_is None (Some (value n)) is known

  pub flag_turn : (name_and_value (x ∷ xs)).1 ≡ None → declared_as n ds ≡ Some (flag n)
      → turn_fault (shape_for name ds) [] (at rows p idle) (45 ∷ 45 ∷ x ∷ xs) ≡ or_else (react_fault (map rule_for ds) false (rule_for (flag n)) [] (holds rows p)) []
  flag_turn is known = turn_is None (Some (flag n)) is known

  pub flag_walked : (name_and_value (x ∷ xs)).1 ≡ None → declared_as n ds ≡ Some (flag n)
      → walked (map rule_for ds) [] (at rows p idle) (45 ∷ 45 ∷ x ∷ xs) ≡ at (used (rule_for (flag n)) [] (settled_rows (map rule_for ds) p rows)) None idle
  flag_walked is known = walked_is None (Some (flag n)) is known

  pub unknown_fails : declared_as n ds ≡ None → turn_fault (shape_for name ds) [] (at rows p idle) (45 ∷ 45 ∷ x ∷ xs) ≡ [] → ⊥
  unknown_fails known none =
      let some : kinds.UnknownArgument ∷ [] ≡ [] = sym (turn_is (name_and_value (x ∷ xs)).1 None refl known) ∙ none in
      absurd cc

  pub full_flag_fails : (given : Text) → (name_and_value (x ∷ xs)).1 ≡ Some given → declared_as n ds ≡ Some (flag n)
      → turn_fault (shape_for name ds) [] (at rows p idle) (45 ∷ 45 ∷ x ∷ xs) ≡ [] → ⊥
  full_flag_fails given is known none =
      let some : kinds.TooManyValues ∷ [] ≡ [] = sym (turn_is (Some given) (Some (flag n)) is known) ∙ none in
      absurd cc

-- a word that begins with no hyphen is no name of an option
no_rest : (word : Text) → begins_with_hyphen word ≡ false → bytes_eq word (45 ∷ 45 ∷ []) ≡ false
no_rest [] plain = refl
no_rest (b ∷ word) plain = rw plain refl

not_long : (word : Text) → begins_with_hyphen word ≡ false → long_of word ≡ None
not_long [] plain = refl
not_long (b ∷ word) plain = rw plain refl

not_short : (word : Text) → begins_with_hyphen word ≡ false → short_of word ≡ None
not_short [] plain = refl
not_short (b ∷ word) plain = rw plain refl

-- what a word comes to by three looks at it
abbrev met_as : List Declared → Waiting → Text → Held → Bool → Option (Text × Option Text) → Held × Step
met_as ds waiting word h test long = if test then (h, trailing 1) else long_or_other (map rule_for ds) waiting word long h

abbrev kinds_as : List ℕ → List Declared → Waiting → Text → Held → Bool → Option (Text × Option Text) → Kinds
kinds_as name ds waiting word h test long = or_else (if test then [] else flag_word_fault (map rule_for ds) false long word h)
    (step_fault (shape_for name ds) 1 (met_as ds waiting word h test long).0 (met_as ds waiting word h test long).1)

abbrev plain_kinds : List ℕ → List Declared → Waiting → Text → Held → Option Text → Kinds
plain_kinds name ds waiting word h short = or_else (option_map_or (λ flags. bundle_fault (map rule_for ds) false flags h) short [])
    (step_fault (shape_for name ds) 1 (short_or_plain (map rule_for ds) waiting word short h).0 (short_or_plain (map rule_for ds) waiting word short h).1)

abbrev plain_walk : List Declared → Text → Walk → Option Text → Walk
plain_walk ds word w short =
    after_step (map rule_for ds) word w (short_or_plain (map rule_for ds) w.waiting word short w.held).0 (short_or_plain (map rule_for ds) w.waiting word short w.held).1

-- a value that is waited for has to come
module _ (name : List ℕ) (ds : List Declared) (rows : List Row) (id : Text) (waited : declared_as id ds ≡ Some (value id)) where
  pub unsettled : settle_fault (map rule_for ds) false (holds rows (Some (id, []))) ≡ [] → ⊥
  unsettled none =
      let some : kinds.InvalidValue ∷ [] ≡ [] = sym (ap (option_map_else [] rows) (by_id ds id ∙ ap (option_map rule_for) waited)) ∙ none in
      absurd cc

  late_is : (x : ℕ) (xs : List ℕ) (r : Option Declared) → declared_as (name_and_value (x ∷ xs)).0 ds ≡ r
      → turn_fault (shape_for name ds) [] (at rows (Some (id, [])) (option id)) (45 ∷ 45 ∷ x ∷ xs)
      ≡ long_kinds name ds (option id) (45 ∷ 45 ∷ x ∷ xs) (name_and_value (x ∷ xs)).1 (holds rows (Some (id, []))) (option_map rule_for r)
  late_is x xs r known = late_turn name ds rows (Some (id, [])) id x xs
      ∙ ap (long_kinds name ds (option id) (45 ∷ 45 ∷ x ∷ xs) (name_and_value (x ∷ xs)).1 (holds rows (Some (id, []))))
      (by_long ds (name_and_value (x ∷ xs)).0 ∙ ap (option_map rule_for) known)

  late_fails-as : (x : ℕ) (xs : List ℕ) (given : Option Text) (r : Option Declared)
      → long_kinds name ds (option id) (45 ∷ 45 ∷ x ∷ xs) given (holds rows (Some (id, []))) (option_map rule_for r) ≡ [] → ⊥
  late_fails-as x xs given None none = absurd cc
  late_fails-as x xs None (Some (value n)) none = unsettled (first_none _ _ none)
  late_fails-as x xs (Some g) (Some (value n)) none = unsettled (first_none _ _ (first_none _ _ none))
  late_fails-as x xs None (Some (flag n)) none = unsettled (first_none _ _ (first_none _ _ none))
  late_fails-as x xs (Some g) (Some (flag n)) none = absurd cc

  pub late_fails : (x : ℕ) (xs : List ℕ) → turn_fault (shape_for name ds) [] (at rows (Some (id, [])) (option id)) (45 ∷ 45 ∷ x ∷ xs) ≡ [] → ⊥
  late_fails x xs none =
      late_fails-as x xs (name_and_value (x ∷ xs)).1 (declared_as (name_and_value (x ∷ xs)).0 ds) (sym (late_is x xs (declared_as (name_and_value (x ∷ xs)).0 ds) refl) ∙ none)

  -- and is any word that begins with no hyphen
  late_word : Text → Option Rule → Walk
  late_word word r = after_step (map rule_for ds) word (at rows (Some (id, [])) (option id)) (option_word r id word (holds rows (Some (id, [])))).0
      (next (option_word r id word (holds rows (Some (id, [])))).1)

  late_word-is : (word : Text) → late_word word (Some (rule_for (value id))) ≡ at rows (Some (id, word ∷ [])) idle
  unfolding late_word
  late_word-is word = rw ((bytes_eq-Decides id id).1 refl) refl

  late_plain-as : (word : Text) → begins_with_hyphen word ≡ false → walked (map rule_for ds) [] (at rows (Some (id, [])) (option id)) word ≡ late_word word (arg_by_id (map rule_for ds) id)
  unfolding walked late_word
  late_plain-as word plain =
      let w = at rows (Some (id, [])) (option id) in
      ap₂ (λ test long. after_step (map rule_for ds) word w (met_as ds (option id) word w.held test long).0 (met_as ds (option id) word w.held test long).1)
      (no_rest word plain) (not_long word plain)
      ∙ ap (plain_walk ds word w) (not_short word plain)

  pub late_plain : (word : Text) → begins_with_hyphen word ≡ false → walked (map rule_for ds) [] (at rows (Some (id, [])) (option id)) word ≡ at rows (Some (id, word ∷ [])) idle
  late_plain word plain = late_plain-as word plain ∙ ap (late_word word) (by_id ds id ∙ ap (option_map rule_for) waited) ∙ late_word-is word

  pub late_plain_turn : (word : Text) → begins_with_hyphen word ≡ false → turn_fault (shape_for name ds) [] (at rows (Some (id, [])) (option id)) word ≡ []
  late_plain_turn word plain =
      ap₂ (kinds_as name ds (option id) word (holds rows (Some (id, [])))) (no_rest word plain) (not_long word plain)
      ∙ ap (plain_kinds name ds (option id) word (holds rows (Some (id, [])))) (not_short word plain)

-- elsewhere such a word is none that a command takes
pub stray_fails : (name : List ℕ) (ds : List Declared) (rows : List Row) (p : Option (Text × List Text)) (word : Text) → begins_with_hyphen word ≡ false
    → turn_fault (shape_for name ds) [] (at rows p idle) word ≡ [] → ⊥
stray_fails name ds rows p word plain none =
    let is : turn_fault (shape_for name ds) [] (at rows p idle) word ≡ plain_kinds name ds idle word (holds rows p) None =
    ap₂ (kinds_as name ds idle word (holds rows p)) (no_rest word plain) (not_long word plain)
    ∙ ap (plain_kinds name ds idle word (holds rows p)) (not_short word plain) in
    let some : kinds.UnknownArgument ∷ [] ≡ [] =
    sym (is ∙ ap (λ r. option_map_or (λ a. positional_fault (map rule_for ds) false a (holds rows p)) r (stray_fault (shape_for name ds))) (no_index ds 1)) ∙ none in
    absurd cc
