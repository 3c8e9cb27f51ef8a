-- What `clap` finds is what is given.
use Rattle.std.proofs.Common.{◌≡◌, ◌∙◌, ℕ, Bool, cond, true, false, true≢false, if◌then◌else◌, not, ◌&&◌, ◌||◌, List, [], ◌∷◌, ◌++◌, map, drop, find, Option, None, Some, is_some, option_map, option_and_then, slice_get, codes, refl, sym, ap, ap₂, subst}
use Rattle.std.specs.List.{AllByRecursion, fold, list_all, list_any}
use Rattle.std.specs.Str.{bytes_eq}
use Rattle.std.proofs.lemmas.Slice.Eq.{bytes_eq-Decides}
use Rattle.clap.specs.Faults.{built_fault, defaults_fault, fault_of, level_fault}
use Rattle.clap.specs.Kinds.{Kinds}
use Rattle.clap.specs.Matches.{first_value, found_of, one_text}
use Rattle.clap.specs.Simple.{App, matches_of}
use Rattle.clap.specs.Takes.{is_given}
use Rattle.clap.specs.Values.{reading_of}
use Rattle.clap.specs.Walk.{Row, Rule, Text, first_of, has_row, more_values, nothing_held, one_of, row_text, rows_after, rows_of, with_default}
use Rattle.clap.specs.declared.builder.value_parser.ValueParser.TheVariants as parsers
use Rattle.clap.specs.declared.error.kind.ErrorKind.TheVariants as kinds
use Rattle.clap.specs.declared.parser.matches.ArgMatches.{ArgMatches}
use Rattle.clap.specs.declared.parser.matches.ValueSource.TheVariants.{DefaultValue}
use Rattle.clap.proofs.FaultLemmas.{leaf_fault}
use Rattle.clap.proofs.WalkLemmas.{first_value-rows, one_text-rows}
use Rattle.pm_words.specs.Clap.{AreRead, Declared, HasDeclared, HasFound, IsGiven, are_new, declared_as, fits, fits_as, flag, has_flag, has_option, may_stand, name_in, row_for, rows_for, rule_for, shape_for, value}
use Rattle.pm_words.specs.Words.{AreOf, AreOptions, CommandOption, GiveFlag, differ, given, is_among}
use Rattle.pm_words.proofs.ReadLemmas.{are_taken, both, has_one, neither, takes}
use Rattle.pm_words.proofs.WalkLemmas.{absent, both_none, first_none, has_rows, known_name, second_none}

-- ---- a command of these options

fault_is : (a : App) (ds : List Declared) (words : List (List ℕ)) (has : HasDeclared a ds) → fault_of a words ≡ level_fault (shape_for has.name ds) [] nothing_held words false []
fault_is a ds words has =
    ap₂ (λ b ws. built_fault b nothing_held ws) has.built (ap (λ t. if t then words else drop 1 words) has.words)
    ∙ leaf_fault (record { top = shape_for has.name ds; subs = [] }) nothing_held words refl

matches_are : (a : App) (ds : List Declared) (words : List (List ℕ)) (has : HasDeclared a ds) → matches_of a words ≡ rows_after (map rule_for ds) [] words
matches_are a ds words has =
    ap₂ (λ (b : App) ws. rows_after b.top.rules (Rattle.clap.specs.Simple.names_of b) ws) has.built (ap (λ t. if t then words else drop 1 words) has.words)

-- words at which no step fails are those of options, and these are found
pub read_from : (a : App) (ds : List Declared) (words : List (List ℕ)) → HasDeclared a ds → list_all may_stand words ≡ true → fault_of a words ≡ []
    → (options : List CommandOption) × AreRead ds options words × (matches_of a words ≡ rows_for ds options)
read_from a ds words has may none =
    let level : level_fault (shape_for has.name ds) [] nothing_held words false [] ≡ [] = sym (fault_is a ds words has) ∙ none in
    let q = takes has.name ds words [] None tt refl may (first_none _ _ level) (first_none _ _ (second_none _ _ level)) in
    (q.more, record { are = q.are; fit = q.fit; new = q.new }, matches_are a ds words has ∙ ap (λ rows. fold with_default rows (map rule_for ds)) q.rows)

no_default : (b : Bool) (none some : Kinds) → none ≡ [] → some ≡ [] → cond (b || true) none some ≡ []
no_default true none some is other = is
no_default false none some is other = is

one_default : (b : Bool) (none some : Kinds) → none ≡ [] → some ≡ [] → cond (b || false) none some ≡ []
one_default true none some is other = is
one_default false none some is other = other

defaults_none : (ds : List Declared) (rows : List Row) → defaults_fault rows (map rule_for ds) ≡ []
unfolding defaults_fault
defaults_none [] rows = refl
defaults_none (value n ∷ ds) rows = both_none _ _ (no_default (has_row n rows) [] _ refl refl) (defaults_none ds (with_default rows (rule_for (value n))))
defaults_none (flag n ∷ ds) rows = both_none _ _ (one_default (has_row n rows) [] _ refl refl) (defaults_none ds (with_default rows (rule_for (flag n))))

none_required : (ds : List Declared) (rows : List Row) → list_any (λ (a : Rule). a.required && not (is_given a.id rows)) (map rule_for ds) ≡ false
none_required [] rows = refl
none_required (value n ∷ ds) rows = none_required ds rows
none_required (flag n ∷ ds) rows = none_required ds rows

-- at the words of options no step fails
pub no_fault : (a : App) (ds : List Declared) (words : List (List ℕ)) (options : List CommandOption) → HasDeclared a ds → list_all may_stand words ≡ true
    → AreRead ds options words → fault_of a words ≡ []
no_fault a ds words options has may read =
    let passes = are_taken has.name ds options words [] None tt read.new may read.are read.fit in
    fault_is a ds words has
    ∙ both_none _ _ passes.0 (both_none _ _ passes.1 (both_none _ _ (defaults_none ds _) (ap (λ b. cond b (kinds.MissingRequiredArgument ∷ []) []) (none_required ds _))))

-- ---- rows of flags that aren't given

abbrev default_row : Text → Row
default_row name = record { id = name; values = codes "false" ∷ []; count = None; source = Some DefaultValue; reading = reading_of parsers.Bool }

abbrev named : Text → Row → Bool
named id r = bytes_eq r.id id

value_adds : (b : Bool) (rows : List Row) → cond b rows rows ≡ rows
value_adds true rows = refl
value_adds false rows = refl

-- a flag adds a row where it has none
flag_adds : (n : Text) (rows : List Row) → has_row n rows ≡ false → with_default rows (rule_for (flag n)) ≡ rows ++ default_row n ∷ []
flag_adds n rows none = rw none (absent n (more_values DefaultValue (codes "false" ∷ [])) (default_row n ∷ []) rows none)

-- what is found stays where rows join at the end
found_before : (p : Row → Bool) (rows more : List Row) (r : Row) → find p rows ≡ Some r → find p (rows ++ more) ≡ Some r
found_before p [] more r is = absurd cc
found_before p (x ∷ rows) more r is = go (p x) is (found_before p rows more r)
  where
    go : (b : Bool) → cond b (Some x) (find p rows) ≡ Some r → (find p rows ≡ Some r → find p (rows ++ more) ≡ Some r) → cond b (Some x) (find p (rows ++ more)) ≡ Some r
    go true is rest = is
    go false is rest = rest is

found_after : (p : Row → Bool) (rows more : List Row) → list_any p rows ≡ false → find p (rows ++ more) ≡ find p more
found_after p [] more none = refl
found_after p (x ∷ rows) more none = go (p x) none (found_after p rows more)
  where
    go : (b : Bool) → (b || list_any p rows) ≡ false → (list_any p rows ≡ false → find p (rows ++ more) ≡ find p more) → cond b (Some x) (find p (rows ++ more)) ≡ find p more
    go true none rest = absurd (true≢false none)
    go false none rest = rest none

none_found : (p : Row → Bool) (rows : List Row) → list_any p rows ≡ false → find p rows ≡ None
none_found p [] none = refl
none_found p (x ∷ rows) none = go (p x) none (none_found p rows)
  where
    go : (b : Bool) → (b || list_any p rows) ≡ false → (list_any p rows ≡ false → find p rows ≡ None) → cond b (Some x) (find p rows) ≡ None
    go true none rest = absurd (true≢false none)
    go false none rest = rest none

-- the rows that a declared option leaves: as they are, or one more of its name
data Grown (n : Text) (rows later : List Row) : Type 0 where
  same : later ≡ rows → Grown n rows later
  more : has_row n rows ≡ false → later ≡ rows ++ default_row n ∷ [] → Grown n rows later

grown : (d : Declared) (rows : List Row) → Grown (name_in d) rows (with_default rows (rule_for d))
grown (value n) rows = same (value_adds (has_row n rows) rows)
grown (flag n) rows = go (has_row n rows) refl
  where
    go : (b : Bool) → has_row n rows ≡ b → Grown n rows (with_default rows (rule_for (flag n)))
    go true is = same (rw is refl)
    go false is = more is (flag_adds n rows is)

kept_row : (id : Text) (ds : List Declared) (rows : List Row) (r : Row) → find (named id) rows ≡ Some r → find (named id) (fold with_default rows (map rule_for ds)) ≡ Some r
kept_row id [] rows r is = is
kept_row id (d ∷ ds) rows r is = kept_row id ds (with_default rows (rule_for d)) r (go (grown d rows))
  where
    go : Grown (name_in d) rows (with_default rows (rule_for d)) → find (named id) (with_default rows (rule_for d)) ≡ Some r
    go (same e) = ap (find (named id)) e ∙ is
    go (more none e) = ap (find (named id)) e ∙ found_before (named id) rows (default_row (name_in d) ∷ []) r is

-- where no flag has the name no row of it joins
still_none : (id : Text) (ds : List Declared) (rows : List Row) → list_any (has_flag id) ds ≡ false → find (named id) rows ≡ None
    → find (named id) (fold with_default rows (map rule_for ds)) ≡ None
still_none id [] rows none is = is
still_none id (value n ∷ ds) rows none is = still_none id ds (with_default rows (rule_for (value n))) none (ap (find (named id)) (value_adds (has_row n rows) rows) ∙ is)
still_none id (flag n ∷ ds) rows none is =
    let parts = neither (bytes_eq n id) _ none in
    still_none id ds (with_default rows (rule_for (flag n))) parts.1 (go (grown (flag n) rows) parts.0)
  where
    none_is : (rows : List Row) → find (named id) rows ≡ None → list_any (named id) rows ≡ false
    none_is [] e = refl
    none_is (x ∷ rows) e = pick (named id x) e (none_is rows)
      where
        pick : (b : Bool) → cond b (Some x) (find (named id) rows) ≡ None → (find (named id) rows ≡ None → list_any (named id) rows ≡ false) → (b || list_any (named id) rows) ≡ false
        pick true e rest = absurd cc
        pick false e rest = rest e

    go : Grown n rows (with_default rows (rule_for (flag n))) → bytes_eq n id ≡ false → find (named id) (with_default rows (rule_for (flag n))) ≡ None
    go (same e) other = ap (find (named id)) e ∙ is
    go (more none e) other = ap (find (named id)) e ∙ found_after (named id) rows (default_row n ∷ []) (none_is rows is) ∙ rw other refl

-- and a flag that isn't given has its own
flag_row : (id : Text) (ds : List Declared) (rows : List Row) → declared_as id ds ≡ Some (flag id) → has_row id rows ≡ false
    → find (named id) (fold with_default rows (map rule_for ds)) ≡ Some (default_row id)
flag_row id [] rows known none = absurd cc
flag_row id (d ∷ ds) rows known none = go (bytes_eq (name_in d) id) refl known (grown d rows) (flag_row id ds (with_default rows (rule_for d)))
  where
    go : (b : Bool) → bytes_eq (name_in d) id ≡ b → cond b (Some d) (declared_as id ds) ≡ Some (flag id) → Grown (name_in d) rows (with_default rows (rule_for d))
        → (declared_as id ds ≡ Some (flag id) → has_row id (with_default rows (rule_for d)) ≡ false
        → find (named id) (fold with_default (with_default rows (rule_for d)) (map rule_for ds)) ≡ Some (default_row id))
        → find (named id) (fold with_default (with_default rows (rule_for d)) (map rule_for ds)) ≡ Some (default_row id)
    go false is known (same e) rest = rest known (ap (has_row id) e ∙ none)
    go false is known (more free e) rest = rest known (ap (has_row id) e ∙ one_more rows none)
      where
        one_more : (rows : List Row) → has_row id rows ≡ false → has_row id (rows ++ default_row (name_in d) ∷ []) ≡ false
        one_more [] none = rw is refl
        one_more (x ∷ rows) none = let parts = neither (named id x) _ none in ap₂ (λ a b. a || b) parts.0 (one_more rows parts.1)
    go true is known grows rest =
        let one : d ≡ flag id = cc in
        kept_row id ds (with_default rows (rule_for d)) (default_row id)
        (ap (λ c. find (named id) (with_default rows (rule_for c))) one ∙ ap (find (named id)) (flag_adds id rows none)
        ∙ found_after (named id) rows (default_row id ∷ []) none ∙ rw ((bytes_eq-Decides id id).1 refl) refl)

-- ---- what is found of one option

-- the first value of an option's row is the value that is given
value_given : (ds : List Declared) (n : Text) (options : List CommandOption) → declared_as n ds ≡ Some (value n) → list_all (fits ds) options ≡ true
    → given n options ≡ option_map Some (first_of n (map row_for options))
value_given ds n [] known fit = refl
value_given ds n (o ∷ options) known fit =
    let parts = both (fits ds o) _ fit in
    go (bytes_eq o.name n) refl parts.0 (value_given ds n options known parts.1)
  where
    valued : (one : Option (List ℕ)) → is_some one ≡ true → Some one ≡ option_map Some (slice_get (row_for (record { name = o.name; value = one })).values 0)
    valued (Some v) is = refl
    valued None is = absurd (true≢false (sym is))

    go : (b : Bool) → bytes_eq o.name n ≡ b → fits ds o ≡ true → given n options ≡ option_map Some (first_of n (map row_for options))
        → option_map (λ (p : CommandOption). p.value) (cond b (Some o) (find (λ p. bytes_eq p.name n) options))
        ≡ option_map Some (option_and_then (λ (r : Row). slice_get r.values 0) (cond b (Some (row_for o)) (find (named n) (map row_for options))))
    go true is fit rest =
        let same : o.name ≡ n = (bytes_eq-Decides o.name n).0 is in
        valued o.value (sym (ap (λ d. fits_as d o.value) (ap (λ m. declared_as m ds) same ∙ known)) ∙ fit)
    go false is fit rest = rest

-- a flag that is given has no value, and its row is true
flag_given : (ds : List Declared) (n : Text) (options : List CommandOption) → declared_as n ds ≡ Some (flag n) → list_all (fits ds) options ≡ true
    → given n options ≡ cond (has_option n options) (Some None) None
flag_given ds n [] known fit = refl
flag_given ds n (o ∷ options) known fit =
    let parts = both (fits ds o) _ fit in
    go (bytes_eq o.name n) refl parts.0 (flag_given ds n options known parts.1)
  where
    none : (one : Option (List ℕ)) → not (is_some one) ≡ true → Some one ≡ Some None
    none None is = refl
    none (Some v) is = absurd (true≢false (sym is))

    go : (b : Bool) → bytes_eq o.name n ≡ b → fits ds o ≡ true → given n options ≡ cond (has_option n options) (Some None) None
        → option_map (λ (p : CommandOption). p.value) (cond b (Some o) (find (λ p. bytes_eq p.name n) options)) ≡ cond (b || has_option n options) (Some None) None
    go true is fit rest =
        let same : o.name ≡ n = (bytes_eq-Decides o.name n).0 is in
        none o.value (sym (ap (λ d. fits_as d o.value) (ap (λ m. declared_as m ds) same ∙ known)) ∙ fit)
    go false is fit rest = rest

flag_text : (ds : List Declared) (n : Text) (options : List CommandOption) → declared_as n ds ≡ Some (flag n) → list_all (fits ds) options ≡ true → has_option n options ≡ true
    → (r : Row) × (find (named n) (map row_for options) ≡ Some r) × (row_text r ≡ Some (codes "true"))
flag_text ds n [] known fit has = absurd (true≢false (sym has))
flag_text ds n (o ∷ options) known fit has =
    let parts = both (fits ds o) _ fit in
    go (bytes_eq o.name n) refl parts.0 has (flag_text ds n options known parts.1)
  where
    shown : (one : Option (List ℕ)) → not (is_some one) ≡ true → row_text (row_for (record { name = o.name; value = one })) ≡ Some (codes "true")
    shown None is = refl
    shown (Some v) is = absurd (true≢false (sym is))

    go : (b : Bool) → bytes_eq o.name n ≡ b → fits ds o ≡ true → (b || has_option n options) ≡ true
        → (has_option n options ≡ true → (r : Row) × (find (named n) (map row_for options) ≡ Some r) × (row_text r ≡ Some (codes "true")))
        → (r : Row) × (cond b (Some (row_for o)) (find (named n) (map row_for options)) ≡ Some r) × (row_text r ≡ Some (codes "true"))
    go true is fit has rest =
        let same : o.name ≡ n = (bytes_eq-Decides o.name n).0 is in
        (row_for o, refl, shown o.value (sym (ap (λ d. fits_as d o.value) (ap (λ m. declared_as m ds) same ∙ known)) ∙ fit))
    go false is fit has rest = rest has

-- of a value the rows of flags show nothing
pub value_is : (ds : List Declared) (words : List (List ℕ)) (m : ArgMatches) (found : HasFound ds words m) (n : Text) → declared_as n ds ≡ Some (value n)
    → list_any (has_flag n) ds ≡ false → given n found.options ≡ option_map Some (first_value (found_of m) n)
value_is ds words m found n known alone =
    value_given ds n found.options known found.fit
    ∙ ap (option_map Some) (ap (option_and_then (λ (r : Row). slice_get r.values 0)) (sym (go (find (named n) (map row_for found.options)) refl))
    ∙ ap (first_of n) (sym found.rows) ∙ sym (first_value-rows (found_of m) n))
  where
    go : (r : Option Row) → find (named n) (map row_for found.options) ≡ r → find (named n) (rows_for ds found.options) ≡ find (named n) (map row_for found.options)
    go None is = still_none n ds (map row_for found.options) alone is ∙ sym is
    go (Some r) is = kept_row n ds (map row_for found.options) r is ∙ sym is

-- and a flag reads as true exactly where it is given
flag_reads : (ds : List Declared) (words : List (List ℕ)) (m : ArgMatches) (found : HasFound ds words m) (n : Text) → declared_as n ds ≡ Some (flag n)
    → one_text (found_of m) n ≡ Some (cond (has_option n found.options) (codes "true") (codes "false"))
flag_reads ds words m found n known =
    one_text-rows (found_of m) n ∙ ap (one_of n) found.rows ∙ go (has_option n found.options) refl
  where
    go : (b : Bool) → has_option n found.options ≡ b → one_of n (rows_for ds found.options) ≡ Some (cond b (codes "true") (codes "false"))
    go true is =
        let one = flag_text ds n found.options known found.fit is in
        ap (option_and_then row_text) (kept_row n ds (map row_for found.options) one.0 one.1) ∙ one.2
    go false is = ap (option_and_then row_text) (flag_row n ds (map row_for found.options) known (has_rows n found.options ∙ is))

pub flag_is : (ds : List Declared) (words : List (List ℕ)) (m : ArgMatches) (found : HasFound ds words m) (n : Text) (result : Bool) → declared_as n ds ≡ Some (flag n)
    → (one_text (found_of m) n ≡ Some (codes "true") → result ≡ true) → (one_text (found_of m) n ≡ Some (codes "false") → result ≡ false) → GiveFlag found.options n result
flag_is ds words m found n result known is_true is_false = go (has_option n found.options) refl
  where
    gives : (b : Bool) → given n found.options ≡ cond b (Some None) None → GiveFlag found.options n b
    gives true is = is
    gives false is = is

    go : (b : Bool) → has_option n found.options ≡ b → GiveFlag found.options n result
    go true is =
        let reads = flag_reads ds words m found n known ∙ ap (λ t. Some (cond t (codes "true") (codes "false"))) is in
        subst (GiveFlag found.options n) (sym (is_true reads)) (flag_given ds n found.options known found.fit ∙ ap (λ t. cond t (Some None) None) is)
    go false is =
        let reads = flag_reads ds words m found n known ∙ ap (λ t. Some (cond t (codes "true") (codes "false"))) is in
        subst (GiveFlag found.options n) (sym (is_false reads)) (flag_given ds n found.options known found.fit ∙ ap (λ t. cond t (Some None) None) is)

-- ---- options that a command has, each at most once

given_some : (n : Text) (options : List CommandOption) → is_some (given n options) ≡ has_option n options
given_some n [] = refl
given_some n (o ∷ options) = go (bytes_eq o.name n) (given_some n options)
  where
    go : (b : Bool) → is_some (given n options) ≡ has_option n options
        → is_some (option_map (λ (p : CommandOption). p.value) (cond b (Some o) (find (λ p. bytes_eq p.name n) options))) ≡ (b || has_option n options)
    go true rest = refl
    go false rest = rest

not_false : (b : Bool) → not b ≡ true → b ≡ false
not_false false is = refl
not_false true is = absurd (true≢false (sym is))

other_way : (a b : List ℕ) → bytes_eq a b ≡ false → bytes_eq b a ≡ false
other_way a b differ_ = go (bytes_eq b a) refl
  where
    go : (t : Bool) → bytes_eq b a ≡ t → bytes_eq b a ≡ false
    go false is = is
    go true is = absurd (true≢false (sym ((bytes_eq-Decides a b).1 (sym ((bytes_eq-Decides b a).0 is))) ∙ differ_))

own_name : (before : List CommandOption) (o : CommandOption) → has_option o.name (before ++ o ∷ []) ≡ true
own_name [] o = rw ((bytes_eq-Decides o.name o.name).1 refl) refl
own_name (x ∷ before) o = go (bytes_eq x.name o.name) (own_name before o)
  where
    go : (b : Bool) → has_option o.name (before ++ o ∷ []) ≡ true → (b || has_option o.name (before ++ o ∷ [])) ≡ true
    go true rest = refl
    go false rest = rest

-- a name that came before comes no more
fresh : (before options : List CommandOption) (n : Text) → are_new before options ≡ true → has_option n before ≡ true → has_option n options ≡ false
fresh before [] n new has = refl
fresh before (o ∷ options) n new has =
    let parts = both (not (has_option o.name before)) _ new in
    ap₂ (λ a b. a || b) (go (bytes_eq o.name n) refl (not_false (has_option o.name before) parts.0)) (fresh (before ++ o ∷ []) options n parts.1 (has_one n before (o ∷ []) ∙ ap (λ b. b || has_option n (o ∷ [])) has))
  where
    go : (b : Bool) → bytes_eq o.name n ≡ b → has_option o.name before ≡ false → bytes_eq o.name n ≡ false
    go false is free = is
    go true is free =
        let same : o.name ≡ n = (bytes_eq-Decides o.name n).0 is in
        absurd (true≢false (sym has ∙ ap (λ m. has_option m before) (sym same) ∙ free))

new_differ : (before options : List CommandOption) → are_new before options ≡ true → differ options ≡ true
new_differ before [] new = refl
new_differ before (o ∷ options) new =
    let parts = both (not (has_option o.name before)) _ new in
    ap₂ (λ a b. not a && b) (given_some o.name options ∙ fresh (before ++ o ∷ []) options o.name parts.1 (own_name before o)) (new_differ (before ++ o ∷ []) options parts.1)

spread : (before options : List CommandOption) (o : CommandOption) → list_all (λ (p : CommandOption). not (has_option p.name before)) options ≡ true → has_option o.name options ≡ false
    → list_all (λ (p : CommandOption). not (has_option p.name (before ++ o ∷ []))) options ≡ true
spread before [] o all none = refl
spread before (p ∷ options) o all none =
    let parts = both (not (has_option p.name before)) _ all in
    let names = neither (bytes_eq p.name o.name) _ none in
    let here : has_option p.name (before ++ o ∷ []) ≡ false =
    has_one p.name before (o ∷ []) ∙ ap₂ (λ a b. a || (b || false)) (not_false (has_option p.name before) parts.0) (other_way p.name o.name names.0) in
    ap₂ (λ a b. not a && b) here (spread before options o parts.1 names.1)

differ_new : (before options : List CommandOption) → differ options ≡ true → list_all (λ (p : CommandOption). not (has_option p.name before)) options ≡ true → are_new before options ≡ true
differ_new before [] once all = refl
differ_new before (o ∷ options) once all =
    let parts = both (not (is_some (given o.name options))) _ once in
    let apart = both (not (has_option o.name before)) _ all in
    ap₂ (λ a b. a && b) apart.0
    (differ_new (before ++ o ∷ []) options parts.1 (spread before options o apart.1 (sym (given_some o.name options) ∙ not_false (is_some (given o.name options)) parts.0)))

none_before : (options : List CommandOption) → list_all (λ (p : CommandOption). not (has_option p.name [])) options ≡ true
none_before [] = refl
none_before (o ∷ options) = none_before options

-- a name that is declared is among the names
among : (ds : List Declared) (name : Text) → is_some (declared_as name ds) ≡ is_among (map name_in ds) name
among [] name = refl
among (d ∷ ds) name = go (bytes_eq (name_in d) name) (among ds name)
  where
    go : (b : Bool) → is_some (declared_as name ds) ≡ is_among (map name_in ds) name → is_some (cond b (Some d) (declared_as name ds)) ≡ (b || is_among (map name_in ds) name)
    go true rest = refl
    go false rest = rest

known_of : (ds : List Declared) (options : List CommandOption) → list_all (fits ds) options ≡ true → list_all (λ (o : CommandOption). is_among (map name_in ds) o.name) options ≡ true
known_of ds [] fit = refl
known_of ds (o ∷ options) fit =
    let parts = both (fits ds o) _ fit in
    ap₂ (λ a b. a && b) (sym (among ds o.name) ∙ go (declared_as o.name ds) parts.0) (known_of ds options parts.1)
  where
    go : (r : Option Declared) → fits_as r o.value ≡ true → is_some r ≡ true
    go None is = absurd (true≢false (sym is))
    go (Some d) is = refl

-- what was read
pub has_found : (ds : List Declared) (words : List (List ℕ)) (m : ArgMatches) (options : List CommandOption) → AreRead ds options words → rows_of (found_of m) ≡ rows_for ds options → HasFound ds words m
has_found ds words m options read rows = record {
  options = options;
  are = read.are;
  of = record { known = known_of ds options read.fit; once = new_differ [] options read.new };
  fit = read.fit;
  rows = rows;
}

-- each option by what is given of it
each_given : (ds : List Declared) (n : Text) (d : Declared) (options : List CommandOption) → declared_as n ds ≡ Some d
    → AllByRecursion (λ d. IsGiven d (given (name_in d) options)) ds → IsGiven d (given (name_in d) options)
each_given [] n d options known all = absurd cc
each_given (x ∷ ds) n d options known all = go (bytes_eq (name_in x) n) known (each_given ds n d options)
  where
    go : (b : Bool) → cond b (Some x) (declared_as n ds) ≡ Some d
        → (declared_as n ds ≡ Some d → AllByRecursion (λ d. IsGiven d (given (name_in d) options)) ds → IsGiven d (given (name_in d) options)) → IsGiven d (given (name_in d) options)
    go true is rest = let one : x ≡ d = cc in subst (λ c. IsGiven c (given (name_in c) options)) one all.0
    go false is rest = rest is all.1

fit_as : (d : Declared) (one : Option (List ℕ)) → IsGiven d (Some one) → fits_as (Some d) one ≡ true
fit_as (value n) None is = absurd (is refl)
fit_as (value n) (Some v) is = refl
fit_as (flag n) None is = refl
fit_as (flag n) (Some v) is = absurd (is v refl)

not_given : (d : Declared) → IsGiven d None
not_given (value n) = λ e. absurd cc
not_given (flag n) = λ v e. absurd cc

-- without the first option
later_given : (ds : List Declared) (o : CommandOption) (options : List CommandOption) → has_option o.name options ≡ false
    → AllByRecursion (λ d. IsGiven d (given (name_in d) (o ∷ options))) ds → AllByRecursion (λ d. IsGiven d (given (name_in d) options)) ds
later_given [] o options none all = tt
later_given (d ∷ ds) o options none all = (go (bytes_eq o.name (name_in d)) refl all.0, later_given ds o options none all.1)
  where
    none_is : (r : Option (Option (List ℕ))) → is_some r ≡ false → r ≡ None
    none_is None e = refl
    none_is (Some r) e = absurd (true≢false e)

    go : (b : Bool) → bytes_eq o.name (name_in d) ≡ b → IsGiven d (option_map (λ (p : CommandOption). p.value) (cond b (Some o) (find (λ p. bytes_eq p.name (name_in d)) options)))
        → IsGiven d (given (name_in d) options)
    go false is one = one
    go true is one =
        let same : o.name ≡ name_in d = (bytes_eq-Decides o.name (name_in d)).0 is in
        subst (IsGiven d) (sym (none_is (given (name_in d) options) (given_some (name_in d) options ∙ ap (λ m. has_option m options) (sym same) ∙ none))) (not_given d)

fit_all : (ds : List Declared) (options : List CommandOption) → list_all (λ (o : CommandOption). is_among (map name_in ds) o.name) options ≡ true → differ options ≡ true
    → AllByRecursion (λ d. IsGiven d (given (name_in d) options)) ds → list_all (fits ds) options ≡ true
fit_all ds [] known once all = refl
fit_all ds (o ∷ options) known once all =
    let names = both (is_among (map name_in ds) o.name) _ known in
    let parts = both (not (is_some (given o.name options))) _ once in
    let none = sym (given_some o.name options) ∙ not_false (is_some (given o.name options)) parts.0 in
    ap₂ (λ a b. a && b) (go (declared_as o.name ds) refl (among ds o.name ∙ names.0)) (fit_all ds options names.1 parts.1 (later_given ds o options none all))
  where
    go : (r : Option Declared) → declared_as o.name ds ≡ r → is_some (declared_as o.name ds) ≡ true → fits ds o ≡ true
    go None is some = absurd (true≢false (sym some ∙ ap is_some is))
    go (Some d) is some =
        let own : given o.name (o ∷ options) ≡ Some o.value = rw ((bytes_eq-Decides o.name o.name).1 refl) refl in
        let one = each_given ds o.name d (o ∷ options) is all in
        ap (λ r. fits_as r o.value) is ∙ fit_as d o.value (subst (IsGiven d) (ap (λ m. given m (o ∷ options)) (known_name ds o.name d is) ∙ own) one)

-- options of the command, by what is given of each, are read
pub are_read : (ds : List Declared) (words : List (List ℕ)) (options : List CommandOption) → AreOptions options words → AreOf (map name_in ds) options
    → AllByRecursion (λ d. IsGiven d (given (name_in d) options)) ds → AreRead ds options words
are_read ds words options are of all = record {
  are = are;
  fit = fit_all ds options of.known of.once all;
  new = differ_new [] options of.once (none_before options);
}
