-- What settings say of columns: found at the columns' keys, and read from what lists are written as.
use Rattle.std.proofs.Common.{◌≡◌, ℕ, Bool, true, false, cond, ◌==◌, List, [], ◌∷◌, ◌++◌, map, Option, Some, None, option_map, is_some, refl, sym, ap, subst, ◌∙◌}
use Rattle.std.proofs.lemmas.Bool.Decides.{same_from_decides}
use Rattle.std.proofs.lemmas.Slice.Eq.{bytes_eq-Decides}
use Rattle.std.specs.Cmp.Lexicographic.{slice_cmp}
use Rattle.std.specs.List.{AllByRecursion, cons_option, filter_map}
use Rattle.std.specs.List.Sorted.{IsStrictlySortedBy}
use Rattle.std.specs.Option.{option_or}
use Rattle.std.specs.Ordering.{nat_cmp}
use Rattle.std.specs.Str.{bytes_eq}
use Rattle.pm_base.proofs.Laws.{AllByRecursion-append}
use Rattle.pm_options.specs.Entries.{Entries, entry_at}
use Rattle.pm_options.specs.Fields.{column_in, column_setting, delimiter_suffix, function_suffix, group_suffix, meant, retract_suffix, texts_of}
use Rattle.pm_options.specs.Kinds.{function_text, truth_text}
use Rattle.pm_options.specs.Options.{is_kept_key}
use Rattle.pm_options.specs.Pairs.{column_key}
use Rattle.pm_options.specs.Stands.{Rises}
use Rattle.pm_options.specs.Table.{Setting, table}
use Rattle.pm_options.specs.Written.{column_settings, field_settings, list_text}
use Rattle.pm_options.specs.declared.options.Options.{Options}
use Rattle.pm_options.proofs.ColumnKeyLemmas.{EndsIn, column_in-column_key, column_in-is, column_in-other, kept-delimiter, kept-function, kept-group, kept-retract}
use Rattle.pm_options.proofs.EntryLemmas.{all_map, by_name-Rises, entry_at-append, entry_at-apart, entry_at-by_name, entry_at-map, same_entries}
use Rattle.pm_options.proofs.SlotLemmas.{rest_of}

-- ---- the texts of a suffix

-- an entry that is passed over
passed : {A : Type 0} (b : Bool) (v : A) (o : Option A) → (b ≡ true → ⊥) → o ≡ cond b (Some v) o
passed true v o never = absurd (never refl)
passed false v o never = refl

-- a key that is compared to that of a column names it
named : (suffix key column : List ℕ) → bytes_eq key (column_key suffix column) ≡ true → column_in suffix key ≡ Some column
named suffix key column e =
    ap (column_in suffix) ((bytes_eq-Decides key (column_key suffix column)).0 e) ∙ column_in-column_key suffix column

-- nothing is no value
none_some : {A : Type 0} (x : A) → ◌≡◌ {A = Option A} None (Some x) → ⊥
none_some x is = cc

-- equal values that are there
same_some : {A : Type 0} (x y : A) → ◌≡◌ {A = Option A} (Some x) (Some y) → x ≡ y
same_some x y is = cc

-- a setting that names the column, another or none
texts_at_one : (suffix column : List ℕ) (s : Setting) (o : Option (List ℕ)) (more : Entries (List ℕ))
    (later : Option (List ℕ)) → column_in suffix s.0 ≡ o → entry_at column more ≡ later
    → entry_at column (cons_option (option_map (λ c. (c, s.1)) o) more)
    ≡ cond (bytes_eq s.0 (column_key suffix column)) (Some s.1) later
texts_at_one suffix column s None more later is found =
    let key = column_key suffix column in
    let never = λ (e : bytes_eq s.0 key ≡ true). none_some column (sym is ∙ named suffix s.0 column e) in
    found ∙ passed (bytes_eq s.0 key) s.1 later never
texts_at_one suffix column s (Some d) more later is found =
    let key = column_key suffix column in
    let to = λ (e : bytes_eq s.0 key ≡ true). same_some d column (sym is ∙ named suffix s.0 column e) in
    let own = column_in-is suffix s.0 d is in
    let from = λ (e : d ≡ column). (bytes_eq-Decides s.0 key).1 (own ∙ ap (column_key suffix) e) in
    let first = bytes_eq-Decides d column in
    let same = same_from_decides {P = d ≡ column} (bytes_eq d column) (bytes_eq s.0 key) first (to, from) in
    ap (λ r. cond (bytes_eq d column) (Some s.1) r) found ∙ ap (λ b. cond b (Some s.1) later) same

-- the text of a column is that of its key, before they are put in order
texts_at : (suffix column : List ℕ) (ss : List Setting)
    → entry_at column (filter_map (column_setting suffix) ss) ≡ entry_at (column_key suffix column) ss
texts_at suffix column [] = refl
texts_at suffix column (s ∷ ss) =
    texts_at_one suffix column s (column_in suffix s.0) (filter_map (column_setting suffix) ss)
    (entry_at (column_key suffix column) ss) refl (texts_at suffix column ss)

-- the text of a column is that of its key
pub texts_of-at : (suffix column : List ℕ) (ss : List Setting)
    → entry_at column (texts_of suffix ss) ≡ entry_at (column_key suffix column) ss
texts_of-at suffix column ss =
    entry_at-by_name column (filter_map (column_setting suffix) ss) ∙ texts_at suffix column ss

-- ---- lists again

-- the same keys with other values
keys-map : {A B : Type 0} (f : A → B) (es : Entries A)
    → map (λ (d : List ℕ × B). d.0) (map (λ (e : List ℕ × A). (e.0, f e.1)) es) ≡ map (λ e. e.0) es
keys-map f [] = refl
keys-map f (e ∷ es) = ap (λ ks. e.0 ∷ ks) (keys-map f es)

-- they rise as well
map-Rises : {A B : Type 0} (f : A → B) (es : Entries A) → Rises es → Rises (map (λ e. (e.0, f e.1)) es)
map-Rises f es rises = subst (IsStrictlySortedBy (slice_cmp nat_cmp)) (sym (keys-map f es)) rises

-- a list of columns is read from settings that have its texts
pub texts_again : {A : Type 0} (suffix : List ℕ) (text_of : A → List ℕ) (es : Entries A) (ss : List Setting) → Rises es
    → ((column : List ℕ) → entry_at (column_key suffix column) ss ≡ option_map text_of (entry_at column es))
    → texts_of suffix ss ≡ map (λ e. (e.0, text_of e.1)) es
texts_again suffix text_of es ss rises same =
    same_entries (texts_of suffix ss) (map (λ e. (e.0, text_of e.1)) es)
    (by_name-Rises (filter_map (column_setting suffix) ss)) (map-Rises text_of es rises)
    (λ column. texts_of-at suffix column ss ∙ same column ∙ sym (entry_at-map text_of column es))

-- texts that mean what they were made of
pub meant_again : {A : Type 0} (meaning : List ℕ → Option A) (text_of : A → List ℕ) (es : Entries A)
    → AllByRecursion (λ e. meaning (text_of e.1) ≡ Some e.1) es
    → meant meaning (map (λ e. (e.0, text_of e.1)) es) ≡ es
meant_again meaning text_of [] all = refl
meant_again meaning text_of (e ∷ es) all =
    ap (λ o. cons_option (option_map (λ x. (e.0, x)) o) (meant meaning (map (λ d. (d.0, text_of d.1)) es))) all.0
    ∙ ap (λ more. e ∷ more) (meant_again meaning text_of es all.1)

-- texts that mean themselves
pub same_texts : (es : Entries (List ℕ)) → map (λ e. (e.0, e.1)) es ≡ es
same_texts [] = refl
same_texts (e ∷ es) = ap (λ more. e ∷ more) (same_texts es)

-- ---- the settings of columns

-- the columns and texts of the settings of a list
own_texts : {A : Type 0} (suffix : List ℕ) (text_of : A → List ℕ) (es : Entries A)
    → filter_map (column_setting suffix) (column_settings suffix text_of es) ≡ map (λ e. (e.0, text_of e.1)) es
own_texts suffix text_of [] = refl
own_texts suffix text_of (e ∷ es) =
    let later = filter_map (column_setting suffix) (column_settings suffix text_of es) in
    ap (λ o. cons_option (option_map (λ c. (c, text_of e.1)) o) later) (column_in-column_key suffix e.0)
    ∙ ap (λ more. (e.0, text_of e.1) ∷ more) (own_texts suffix text_of es)

-- what a list says of a column is found at its key
own_at : {A : Type 0} (suffix : List ℕ) (text_of : A → List ℕ) (es : Entries A) (column : List ℕ)
    → entry_at (column_key suffix column) (column_settings suffix text_of es) ≡ option_map text_of (entry_at column es)
own_at suffix text_of es column =
    sym (texts_at suffix column (column_settings suffix text_of es))
    ∙ ap (entry_at column) (own_texts suffix text_of es) ∙ entry_at-map text_of column es

-- what a list says of a column isn't found at a key by another suffix
other_at : {A : Type 0} (s t : List ℕ) (a b : ℕ) → EndsIn s a → EndsIn t b → (a == b) ≡ false
    → (text_of : A → List ℕ) (es : Entries A) (column : List ℕ)
    → entry_at (column_key s column) (column_settings t text_of es) ≡ None
other_at {A} s t a b ends others differ text_of es column =
    let P = λ (s' : Setting). is_some (column_in s s'.0) ≡ false in
    let each = λ (e : List ℕ × A). ap is_some (column_in-other s t e.0 a b ends others differ) in
    entry_at-apart (λ k. is_some (column_in s k)) true (column_key s column) (column_settings t text_of es)
    (ap is_some (column_in-column_key s column)) (all_map (λ e. (column_key t e.0, text_of e.1)) P each es)

-- a key that isn't kept is none of the kept
kept_none : (key : List ℕ) (kept : List Setting) → is_kept_key key ≡ false
    → AllByRecursion (λ s. is_kept_key s.0 ≡ true) kept → entry_at key kept ≡ None
kept_none key kept is all = entry_at-apart is_kept_key false key kept is all

-- nothing later changes nothing
pub or_none : {A : Type 0} (o : Option A) → option_or o None ≡ o
or_none None = refl
or_none (Some x) = refl

-- what the four lists and the kept settings have at a key
fields_at : (o : Options) (key : List ℕ) (f d r g k : Option (List ℕ))
    → entry_at key (column_settings function_suffix function_text o.functions) ≡ f
    → entry_at key (column_settings delimiter_suffix (λ text. text) o.delimiters) ≡ d
    → entry_at key (column_settings retract_suffix truth_text o.ignore_retract) ≡ r
    → entry_at key (column_settings group_suffix list_text o.groups) ≡ g → entry_at key o.kept ≡ k
    → entry_at key (rest_of o) ≡ option_or (option_or f (option_or d (option_or r g))) k
fields_at o key f d r g k a b c e h =
    let fs = column_settings function_suffix function_text o.functions in
    let ds = column_settings delimiter_suffix (λ text. text) o.delimiters in
    let rs = column_settings retract_suffix truth_text o.ignore_retract in
    let gs = column_settings group_suffix list_text o.groups in
    let first = entry_at key fs in
    let last = entry_at key o.kept in
    entry_at-append key (field_settings o) o.kept
    ∙ ap (λ p. option_or p last) (entry_at-append key fs (ds ++ (rs ++ gs)))
    ∙ ap (λ p. option_or (option_or first p) last) (entry_at-append key ds (rs ++ gs))
    ∙ ap (λ p. option_or (option_or first (option_or (entry_at key ds) p)) last) (entry_at-append key rs gs)
    ∙ (λ i. option_or (option_or (a i) (option_or (b i) (option_or (c i) (e i)))) (h i))

-- each kept setting has a key that is kept
abbrev pub AllKeptKeys : Options → Type 0
AllKeptKeys o = AllByRecursion (λ s. is_kept_key s.0 ≡ true) o.kept

-- what the settings say at the key of a function
pub functions_at : (o : Options) → AllKeptKeys o → (column : List ℕ)
    → entry_at (column_key function_suffix column) (rest_of o) ≡ option_map function_text (entry_at column o.functions)
functions_at o all column =
    let own = option_map function_text (entry_at column o.functions) in
    fields_at o (column_key function_suffix column) own None None None None
    (own_at function_suffix function_text o.functions column)
    (other_at function_suffix delimiter_suffix 110 114 (λ o. refl) (λ o. refl) refl (λ text. text) o.delimiters column)
    (other_at function_suffix retract_suffix 110 116 (λ o. refl) (λ o. refl) refl truth_text o.ignore_retract column)
    (other_at function_suffix group_suffix 110 112 (λ o. refl) (λ o. refl) refl list_text o.groups column)
    (kept_none (column_key function_suffix column) o.kept (kept-function column) all)
    ∙ or_none (option_or own None) ∙ or_none own

-- at that of a delimiter
pub delimiters_at : (o : Options) → AllKeptKeys o → (column : List ℕ)
    → entry_at (column_key delimiter_suffix column) (rest_of o) ≡ option_map (λ text. text) (entry_at column o.delimiters)
delimiters_at o all column =
    let own = option_map (λ (text : List ℕ). text) (entry_at column o.delimiters) in
    fields_at o (column_key delimiter_suffix column) None own None None None
    (other_at delimiter_suffix function_suffix 114 110 (λ o. refl) (λ o. refl) refl function_text o.functions column)
    (own_at delimiter_suffix (λ text. text) o.delimiters column)
    (other_at delimiter_suffix retract_suffix 114 116 (λ o. refl) (λ o. refl) refl truth_text o.ignore_retract column)
    (other_at delimiter_suffix group_suffix 114 112 (λ o. refl) (λ o. refl) refl list_text o.groups column)
    (kept_none (column_key delimiter_suffix column) o.kept (kept-delimiter column) all)
    ∙ or_none (option_or own None) ∙ or_none own

-- at that of a retraction
pub retracts_at : (o : Options) → AllKeptKeys o → (column : List ℕ)
    → entry_at (column_key retract_suffix column) (rest_of o) ≡ option_map truth_text (entry_at column o.ignore_retract)
retracts_at o all column =
    let own = option_map truth_text (entry_at column o.ignore_retract) in
    fields_at o (column_key retract_suffix column) None None own None None
    (other_at retract_suffix function_suffix 116 110 (λ o. refl) (λ o. refl) refl function_text o.functions column)
    (other_at retract_suffix delimiter_suffix 116 114 (λ o. refl) (λ o. refl) refl (λ text. text) o.delimiters column)
    (own_at retract_suffix truth_text o.ignore_retract column)
    (other_at retract_suffix group_suffix 116 112 (λ o. refl) (λ o. refl) refl list_text o.groups column)
    (kept_none (column_key retract_suffix column) o.kept (kept-retract column) all)
    ∙ or_none (option_or own None) ∙ or_none own

-- at that of a group
pub groups_at : (o : Options) → AllKeptKeys o → (column : List ℕ)
    → entry_at (column_key group_suffix column) (rest_of o) ≡ option_map list_text (entry_at column o.groups)
groups_at o all column =
    let own = option_map list_text (entry_at column o.groups) in
    fields_at o (column_key group_suffix column) None None None own None
    (other_at group_suffix function_suffix 112 110 (λ o. refl) (λ o. refl) refl function_text o.functions column)
    (other_at group_suffix delimiter_suffix 112 114 (λ o. refl) (λ o. refl) refl (λ text. text) o.delimiters column)
    (other_at group_suffix retract_suffix 112 116 (λ o. refl) (λ o. refl) refl truth_text o.ignore_retract column)
    (own_at group_suffix list_text o.groups column)
    (kept_none (column_key group_suffix column) o.kept (kept-group column) all)
    ∙ or_none own

-- what each setting of a column has
pub all_fields : (P : Setting → Type 0) (o : Options)
    → AllByRecursion P (column_settings function_suffix function_text o.functions)
    → AllByRecursion P (column_settings delimiter_suffix (λ text. text) o.delimiters)
    → AllByRecursion P (column_settings retract_suffix truth_text o.ignore_retract)
    → AllByRecursion P (column_settings group_suffix list_text o.groups) → AllByRecursion P (field_settings o)
all_fields P o fs ds rs gs =
    let d = column_settings delimiter_suffix (λ text. text) o.delimiters in
    let r = column_settings retract_suffix truth_text o.ignore_retract in
    let g = column_settings group_suffix list_text o.groups in
    AllByRecursion-append P (column_settings function_suffix function_text o.functions) (d ++ (r ++ g)) fs
    (AllByRecursion-append P d (r ++ g) ds (AllByRecursion-append P r g rs gs))

-- no setting of a column is kept
pub fields_not_kept : (o : Options) → AllByRecursion (λ s. is_kept_key s.0 ≡ false) (field_settings o)
fields_not_kept o =
    let P : Setting → Type 0 = λ s. is_kept_key s.0 ≡ false in
    all_fields P o
    (all_map (λ e. (column_key function_suffix e.0, function_text e.1)) P (λ e. kept-function e.0) o.functions)
    (all_map (λ e. (column_key delimiter_suffix e.0, e.1)) P (λ e. kept-delimiter e.0) o.delimiters)
    (all_map (λ e. (column_key retract_suffix e.0, truth_text e.1)) P (λ e. kept-retract e.0) o.ignore_retract)
    (all_map (λ e. (column_key group_suffix e.0, list_text e.1)) P (λ e. kept-group e.0) o.groups)

-- no setting of a column is of the table
pub fields_outside : (o : Options) → AllByRecursion (λ s. is_some (entry_at s.0 table) ≡ false) (field_settings o)
fields_outside o =
    let P : Setting → Type 0 = λ s. is_some (entry_at s.0 table) ≡ false in
    all_fields P o
    (all_map (λ e. (column_key function_suffix e.0, function_text e.1)) P (λ e. refl) o.functions)
    (all_map (λ e. (column_key delimiter_suffix e.0, e.1)) P (λ e. refl) o.delimiters)
    (all_map (λ e. (column_key retract_suffix e.0, truth_text e.1)) P (λ e. refl) o.ignore_retract)
    (all_map (λ e. (column_key group_suffix e.0, list_text e.1)) P (λ e. refl) o.groups)
