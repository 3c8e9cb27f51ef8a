-- The keys of the options of columns: each names its column by its own suffix, and by no other.
use Rattle.std.proofs.Common.{◌≡◌, ℕ, ◌-◌, nat_eq, Bool, true, false, cond, not, ◌||◌, ◌==◌, List, [], ◌∷◌, ◌++◌, length, take, drop, Option, Some, None, is_some, refl, sym, ap, ◌∙◌, arith, length-append}
use Rattle.std.proofs.Math.Seq.{take-append_seam}
use Rattle.std.proofs.lemmas.Bool.{and_parts, eqb-false, not-true}
use Rattle.std.proofs.lemmas.Bool.Decides.{Decides-eqb}
use Rattle.std.proofs.lemmas.Slice.Eq.{ends_is, starts_is}
use Rattle.std.specs.List.{AllByRecursion, ends_with, last_or, list_all, starts_with}
use Rattle.pm_options.specs.Entries.{Entries, entry_at}
use Rattle.pm_options.specs.Fields.{before_suffix, column_in, delimiter_suffix, function_suffix, group_suffix, is_of_column, prefix, retract_suffix}
use Rattle.pm_options.specs.Options.{is_kept_key}
use Rattle.pm_options.specs.Pairs.{column_key}
use Rattle.pm_options.specs.Table.{table, unsupported}
use Rattle.pm_options.specs.declared.table.Only.{Only}
use Rattle.pm_options.proofs.EntryLemmas.{entry_at-apart}

-- a text without the suffix that it was given
before_suffix-append : (suffix column : List ℕ) → before_suffix suffix (column ++ suffix) ≡ Some column
before_suffix-append suffix column =
    let text = column ++ suffix in
    let ends = (ends_is Decides-eqb text suffix (ends_with nat_eq text suffix) refl).1 column refl in
    let count : length text - length suffix ≡ length column = let whole = length-append column suffix in omega arith in
    ap (λ b. cond b (Some (take (length text - length suffix) text)) None) ends
    ∙ ap (λ k. Some (take k text)) count ∙ ap Some (take-append_seam column suffix)

-- a key names its column
pub column_in-column_key : (suffix column : List ℕ) → column_in suffix (column_key suffix column) ≡ Some column
column_in-column_key suffix column = before_suffix-append suffix column

-- a choice that gave a value was made
taken : {A : Type 0} (b : Bool) (o : Option A) (x : A) → cond b o None ≡ Some x → (b ≡ true) × (o ≡ Some x)
taken true o x is = (refl, is)
taken false o x is = cc

-- a key that names a column is its key
pub column_in-is : (suffix key column : List ℕ) → column_in suffix key ≡ Some column → key ≡ column_key suffix column
column_in-is suffix key column is =
    let rest = drop (length prefix) key in
    let starts = taken (starts_with nat_eq key prefix) (before_suffix suffix rest) column is in
    let ends = taken (ends_with nat_eq rest suffix) (Some (take (length rest - length suffix) rest)) column starts.1 in
    let front : take (length rest - length suffix) rest ≡ column = let same = ends.1 in cc in
    (starts_is Decides-eqb key prefix (starts_with nat_eq key prefix) refl).0 starts.0
    ∙ ap (λ r. prefix ++ r) ((ends_is Decides-eqb rest suffix (ends_with nat_eq rest suffix) refl).0 ends.0)
    ∙ ap (λ c. prefix ++ (c ++ suffix)) front

-- ---- two suffixes

-- the last byte of texts joined
last_or-append : (o : Option ℕ) (xs ys : List ℕ) → last_or o (xs ++ ys) ≡ last_or (last_or o xs) ys
last_or-append o [] ys = refl
last_or-append o (x ∷ xs) ys = last_or-append (Some x) xs ys

-- the suffix ends in the byte
abbrev pub EndsIn : List ℕ → ℕ → Type 0
EndsIn suffix b = (o : Option ℕ) → last_or o suffix ≡ Some b

-- the key ends as the suffix does
last-column_key : (suffix column : List ℕ) (b : ℕ) → EndsIn suffix b → last_or None (column_key suffix column) ≡ Some b
last-column_key suffix column b ends =
    last_or-append (last_or None prefix) column suffix ∙ ends (last_or (last_or None prefix) column)

-- what has no value is none
not_here : {A : Type 0} (o : Option A) → ((x : A) → o ≡ Some x → ⊥) → o ≡ None
not_here None never = refl
not_here (Some x) never = absurd (never x refl)

-- a key names no column by a suffix that ends otherwise
pub column_in-other : (s t column : List ℕ) (a b : ℕ) → EndsIn s a → EndsIn t b → (a == b) ≡ false
    → column_in s (column_key t column) ≡ None
column_in-other s t column a b ends others differ =
    not_here (column_in s (column_key t column)) (λ c is. same_end c (column_in-is s (column_key t column) c is))
  where
    same_end : (c : List ℕ) → column_key t column ≡ column_key s c → ⊥
    same_end c is =
        let same : Some a ≡ Some b =
        sym (last-column_key s c a ends) ∙ ap (last_or None) (sym is) ∙ last-column_key t column b others in
        eqb-false a b differ cc

-- ---- no option without a column

-- a test by which no entry passes
apart_by : {A : Type 0} (test : List ℕ → Bool) (es : Entries A) → list_all (λ e. not (test e.0)) es ≡ true
    → AllByRecursion (λ e. test e.0 ≡ false) es
apart_by test [] is = tt
apart_by test (e ∷ es) is =
    let parts = and_parts (not (test e.0)) (list_all (λ d. not (test d.0)) es) is in
    (not-true (test e.0) parts.0, apart_by test es parts.1)

-- the key of a column isn't in the table
pub column_key-table : (suffix column : List ℕ) → entry_at (column_key suffix column) table ≡ None
column_key-table suffix column = refl

-- nor among the options that aren't supported, if none of these is that of a column
pub column_key-unsupported : (suffix column : List ℕ)
    → list_all (λ (e : List ℕ × Only). not (is_some (column_in suffix e.0))) unsupported ≡ true
    → entry_at (column_key suffix column) unsupported ≡ None
column_key-unsupported suffix column none =
    entry_at-apart (λ k. is_some (column_in suffix k)) true (column_key suffix column) unsupported
    (ap is_some (column_in-column_key suffix column))
    (apart_by (λ k. is_some (column_in suffix k)) unsupported none)

-- ---- what a key names by each suffix

-- the columns that a key names as that of a function, a delimiter, a retraction and a group
pub record Names (key : List ℕ) (f d r g : Option (List ℕ)) : Type 0 where
  pub function : column_in function_suffix key ≡ f
  pub delimiter : column_in delimiter_suffix key ≡ d
  pub retract : column_in retract_suffix key ≡ r
  pub group : column_in group_suffix key ≡ g

-- the key of a function names its column, by its own suffix alone
pub names_function : (column : List ℕ) → Names (column_key function_suffix column) (Some column) None None None
names_function column = record {
  function = column_in-column_key function_suffix column;
  delimiter = column_in-other delimiter_suffix function_suffix column 114 110 (λ o. refl) (λ o. refl) refl;
  retract = column_in-other retract_suffix function_suffix column 116 110 (λ o. refl) (λ o. refl) refl;
  group = column_in-other group_suffix function_suffix column 112 110 (λ o. refl) (λ o. refl) refl;
}

-- that of a delimiter
pub names_delimiter : (column : List ℕ) → Names (column_key delimiter_suffix column) None (Some column) None None
names_delimiter column = record {
  function = column_in-other function_suffix delimiter_suffix column 110 114 (λ o. refl) (λ o. refl) refl;
  delimiter = column_in-column_key delimiter_suffix column;
  retract = column_in-other retract_suffix delimiter_suffix column 116 114 (λ o. refl) (λ o. refl) refl;
  group = column_in-other group_suffix delimiter_suffix column 112 114 (λ o. refl) (λ o. refl) refl;
}

-- that of a retraction
pub names_retract : (column : List ℕ) → Names (column_key retract_suffix column) None None (Some column) None
names_retract column = record {
  function = column_in-other function_suffix retract_suffix column 110 116 (λ o. refl) (λ o. refl) refl;
  delimiter = column_in-other delimiter_suffix retract_suffix column 114 116 (λ o. refl) (λ o. refl) refl;
  retract = column_in-column_key retract_suffix column;
  group = column_in-other group_suffix retract_suffix column 112 116 (λ o. refl) (λ o. refl) refl;
}

-- that of a group
pub names_group : (column : List ℕ) → Names (column_key group_suffix column) None None None (Some column)
names_group column = record {
  function = column_in-other function_suffix group_suffix column 110 112 (λ o. refl) (λ o. refl) refl;
  delimiter = column_in-other delimiter_suffix group_suffix column 114 112 (λ o. refl) (λ o. refl) refl;
  retract = column_in-other retract_suffix group_suffix column 116 112 (λ o. refl) (λ o. refl) refl;
  group = column_in-column_key group_suffix column;
}

-- whether a key is that of a column
of_column : (key : List ℕ) (f d r g : Option (List ℕ)) → Names key f d r g
    → is_of_column key ≡ (is_some f || is_some d || is_some r || is_some g)
of_column key f d r g is =
    λ i. is_some (is.function i) || is_some (is.delimiter i) || is_some (is.retract i) || is_some (is.group i)

-- the key of a column isn't kept
kept_at : (suffix column : List ℕ) → is_of_column (column_key suffix column) ≡ true
    → is_kept_key (column_key suffix column) ≡ false
kept_at suffix column is = ap not is

-- that of a function
pub kept-function : (column : List ℕ) → is_kept_key (column_key function_suffix column) ≡ false
kept-function column = kept_at function_suffix column (of_column _ _ _ _ _ (names_function column))

-- that of a delimiter
pub kept-delimiter : (column : List ℕ) → is_kept_key (column_key delimiter_suffix column) ≡ false
kept-delimiter column = kept_at delimiter_suffix column (of_column _ _ _ _ _ (names_delimiter column))

-- that of a retraction
pub kept-retract : (column : List ℕ) → is_kept_key (column_key retract_suffix column) ≡ false
kept-retract column = kept_at retract_suffix column (of_column _ _ _ _ _ (names_retract column))

-- that of a group
pub kept-group : (column : List ℕ) → is_kept_key (column_key group_suffix column) ≡ false
kept-group column = kept_at group_suffix column (of_column _ _ _ _ _ (names_group column))
