-- Options that are read from settings in the order of their keys can be stated.
use Rattle.std.proofs.Common.{◌≡◌, ℕ, ◌+◌, ◌*◌, Bool, true, false, cond, not, ◌&&◌, nat_le, nat_lt, List, [], ◌∷◌, map, length, take, drop, codes, Option, Some, None, option_map, option_and_then, unwrap_or, IfSome, Ok, Less, lit≤, refl, sym, ap, subst, ◌∙◌, arith}
use Rattle.std.proofs.lemmas.Bool.{and_parts, leb-true, not-true}
use Rattle.std.specs.Char.{is_ascii_digit}
use Rattle.std.specs.Cmp.Lexicographic.{slice_cmp}
use Rattle.std.specs.Int.{IsInRange}
use Rattle.std.specs.List.{AllByRecursion, cons_option, filter, filter_map, prefix_len}
use Rattle.std.specs.List.Sorted.{IsStrictlySortedBy}
use Rattle.std.specs.Ordering.{nat_cmp}
use Rattle.std.specs.Str.Parse.{digits_value}
use Rattle.pm_base.specs.Outcome.{◌>>=◌}
use Rattle.pm_base.proofs.Laws.{step_ok}
use Rattle.pm_options.specs.Entries.{Entries, entry_at}
use Rattle.pm_options.specs.Faults.{first_of, judged}
use Rattle.pm_options.specs.Fields.{column_in, column_setting, delimiter_suffix, function_suffix, group_suffix, has_comma, meant, names_meant, retract_suffix, texts_of}
use Rattle.pm_options.specs.Kinds.{function_in, truth_in}
use Rattle.pm_options.specs.Numbers.{longest, number_from, number_in, time_in, unit_millis, unspaced, within}
use Rattle.pm_options.specs.Options.{is_kept, is_kept_key, number_or, options_in}
use Rattle.pm_options.specs.Pairs.{column_key, pair_fault}
use Rattle.pm_options.specs.Reading.{options_of, setting_fault, unless_taken}
use Rattle.pm_options.specs.Stands.{IsGroup, IsKept, Rises, Stands}
use Rattle.pm_options.specs.Table.{Setting, most_buckets}
use Rattle.pm_options.specs.declared.options.Options.{Options}
use Rattle.pm_options.proofs.ColumnKeyLemmas.{column_in-is}
use Rattle.pm_options.proofs.EntryLemmas.{all_by_name, all_filter, all_then, by_name-Rises, filter-Rises}
use Rattle.pm_options.proofs.FaultLemmas.{group_fault}
use Rattle.pm_options.proofs.Judging.{all_none, judged_none}
use Rattle.pm_options.proofs.NamesLemmas.{names_in-is}

-- ---- numbers

-- what a value has and its default has
or_default : (P : ℕ → Type 0) (o : Option ℕ) (default : ℕ) → IfSome o P → P default → P (unwrap_or o default)
or_default P None default has usual = usual
or_default P (Some n) default has usual = has

-- a number that is within a range is of the range
within_range : (low high n : ℕ) (b : Bool) → (nat_le low n && nat_le n high) ≡ b
    → IfSome (cond b (Some n) None) (IsInRange low high)
within_range low high n true is =
    let parts = and_parts (nat_le low n) (nat_le n high) is in
    (leb-true low n parts.0, leb-true n high parts.1)
within_range low high n false is = tt

-- where there is one
number_range : (low high : ℕ) (o : Option ℕ) → IfSome (option_and_then (within low high) o) (IsInRange low high)
number_range low high None = tt
number_range low high (Some n) = within_range low high n (nat_le low n && nat_le n high) refl

-- where a text states one
text_range : (low high : ℕ) (text : Option (List ℕ))
    → IfSome (option_and_then (number_from low high) text) (IsInRange low high)
text_range low high None = tt
text_range low high (Some text) = number_range low high (number_in text)

-- a number that is read, or its default, is in its range
stated_range : (low high default : ℕ) (text : Option (List ℕ)) → IsInRange low high default
    → IsInRange low high (unwrap_or (option_and_then (number_from low high) text) default)
stated_range low high default text usual =
    or_default (IsInRange low high) (option_and_then (number_from low high) text) default
    (text_range low high text) usual

-- so is a time
millis_range : (b : Bool) (n : ℕ) (unit : Option ℕ)
    → IfSome (cond b (option_and_then (λ millis. within 0 longest (n * millis)) unit) None) (IsInRange 0 longest)
millis_range true n None = tt
millis_range true n (Some millis) =
    within_range 0 longest (n * millis) (nat_le 0 (n * millis) && nat_le (n * millis) longest) refl
millis_range false n unit = tt

-- where a text states one in milliseconds or another unit
time_range : (text : Option (List ℕ)) → IfSome (option_and_then time_in text) (IsInRange 0 longest)
time_range None = tt
time_range (Some text) =
    let count = prefix_len is_ascii_digit text in
    millis_range (nat_lt 0 (length (take count text))) (digits_value 10 (take count text))
    (unit_millis (unspaced (drop count text)))

-- ---- lists

-- a text that means something, or nothing
meant_keys_at : {A : Type 0} (P : List ℕ → Type 0) (key : List ℕ) (o : Option A) (more : Entries A) → P key
    → AllByRecursion P (map (λ e. e.0) more)
    → AllByRecursion P (map (λ e. e.0) (cons_option (option_map (λ x. (key, x)) o) more))
meant_keys_at P key None more here all = all
meant_keys_at P key (Some x) more here all = (here, all)

-- the keys of what is meant are those of texts
meant_keys : {A : Type 0} (P : List ℕ → Type 0) (meaning : List ℕ → Option A) (es : Entries (List ℕ))
    → AllByRecursion P (map (λ e. e.0) es) → AllByRecursion P (map (λ e. e.0) (meant meaning es))
meant_keys P meaning [] all = tt
meant_keys P meaning (e ∷ es) all =
    meant_keys_at P e.0 (meaning e.1) (meant meaning es) all.0 (meant_keys P meaning es all.1)

-- a text that means something, or nothing, before those that rise
meant_rises_at : {A : Type 0} (key : List ℕ) (o : Option A) (more : Entries A)
    → AllByRecursion (λ y. slice_cmp nat_cmp key y ≡ Less) (map (λ e. e.0) more) → Rises more
    → Rises (cons_option (option_map (λ x. (key, x)) o) more)
unfolding IsStrictlySortedBy
meant_rises_at key None more below rises = rises
meant_rises_at key (Some x) more below rises = (below, rises)

-- what is meant rises as its texts do
meant-Rises : {A : Type 0} (meaning : List ℕ → Option A) (es : Entries (List ℕ)) → Rises es → Rises (meant meaning es)
unfolding IsStrictlySortedBy
meant-Rises meaning [] rises = tt
meant-Rises meaning (e ∷ es) rises =
    meant_rises_at e.0 (meaning e.1) (meant meaning es)
    (meant_keys (λ y. slice_cmp nat_cmp e.0 y ≡ Less) meaning es rises.0) (meant-Rises meaning es rises.1)

-- the texts of a suffix rise by column
texts-Rises : (suffix : List ℕ) (ss : List Setting) → Rises (texts_of suffix ss)
texts-Rises suffix ss = by_name-Rises (filter_map (column_setting suffix) ss)

-- ---- groups

-- a setting that isn't refused is taken
taken_if : (b : Bool) (s : Setting) → unless_taken b s ≡ None → b ≡ true
taken_if true s is = refl
taken_if false s is = cc

-- the column of a group that is read has no comma
plain_at : (s : Setting) (o : Option (List ℕ)) (more : Entries (List ℕ)) → column_in group_suffix s.0 ≡ o
    → setting_fault s ≡ None → AllByRecursion (λ e. has_comma e.0 ≡ false) more
    → AllByRecursion (λ e. has_comma e.0 ≡ false) (cons_option (option_map (λ c. (c, s.1)) o) more)
plain_at s None more is good all = all
plain_at s (Some column) more is good all =
    let here : setting_fault (column_key group_suffix column, s.1) ≡ None = ap (λ k. setting_fault (k, s.1))
    (sym (column_in-is group_suffix s.0 column is)) ∙ good in
    let taken = taken_if (not (has_comma column)) (column_key group_suffix column, s.1)
    (sym (group_fault column s.1) ∙ here) in
    (not-true (has_comma column) taken, all)

-- no column of a group has a comma
all_plain : (ss : List Setting) → AllByRecursion (λ s. setting_fault s ≡ None) ss
    → AllByRecursion (λ e. has_comma e.0 ≡ false) (filter_map (column_setting group_suffix) ss)
all_plain [] all = tt
all_plain (s ∷ ss) all =
    plain_at s (column_in group_suffix s.0) (filter_map (column_setting group_suffix) ss) refl all.0
    (all_plain ss all.1)

-- what is read as groups are groups
are_groups : (es : Entries (List ℕ)) → AllByRecursion (λ e. has_comma e.0 ≡ false) es
    → AllByRecursion IsGroup (meant names_meant es)
are_groups [] all = tt
are_groups (e ∷ es) all =
    let names = names_in-is e.1 in
    (record { column = all.0; listed = names.0; names = names.1 }, are_groups es all.1)

-- ---- the whole

-- options in settings without a fault can be stated
stands_in : (ss : List Setting) → Rises ss → AllByRecursion (λ s. setting_fault s ≡ None) ss
    → pair_fault (options_in ss) ≡ None → Stands (options_in ss)
stands_in ss rises good pairs =
    let text = λ (key : List ℕ). entry_at key ss in
    let trigger = stated_range 1 100 5 (text (codes "num-sorted-run.compaction-trigger")) (lit≤ tt, lit≤ tt) in
    let low = trigger.0 in
    let high = trigger.1 in
    let next : IsInRange 2 101 (number_or 5 (codes "num-sorted-run.compaction-trigger") ss + 1) =
    (omega arith, omega arith) in
    let kept = all_filter is_kept (λ s. setting_fault s ≡ None) ss good in
    record {
      bucket = stated_range 1 most_buckets 1 (text (codes "bucket")) (lit≤ tt, lit≤ tt);
      delta_commits = text_range 1 1000000 (text (codes "full-compaction.delta-commits"));
      trigger = trigger;
      levels = stated_range 2 101 (number_or 5 (codes "num-sorted-run.compaction-trigger") ss + 1)
          (text (codes "num-levels")) next;
      amplification = stated_range 0 1000000 200 (text (codes "compaction.max-size-amplification-percent"))
          (lit≤ tt, lit≤ tt);
      ratio = stated_range 0 1000000 1 (text (codes "compaction.size-ratio")) (lit≤ tt, lit≤ tt);
      merge_min = stated_range 2 1000 30 (text (codes "manifest.merge-min-count")) (lit≤ tt, lit≤ tt);
      retained_millis = or_default (IsInRange 0 longest)
          (option_and_then time_in (text (codes "snapshot.time-retained"))) 3600000
          (time_range (text (codes "snapshot.time-retained"))) (lit≤ tt, lit≤ tt);
      retained_min = stated_range 1 2147483647 10 (text (codes "snapshot.num-retained.min")) (lit≤ tt, lit≤ tt);
      retained_max = stated_range 1 2147483647 2147483647 (text (codes "snapshot.num-retained.max")) (lit≤ tt, lit≤ tt);
      functions = meant-Rises function_in (texts_of function_suffix ss) (texts-Rises function_suffix ss);
      delimiters = texts-Rises delimiter_suffix ss;
      ignore_retract = meant-Rises truth_in (texts_of retract_suffix ss) (texts-Rises retract_suffix ss);
      groups = meant-Rises names_meant (texts_of group_suffix ss) (texts-Rises group_suffix ss);
      all_groups = are_groups (texts_of group_suffix ss)
          (all_by_name (λ e. has_comma e.0 ≡ false) (filter_map (column_setting group_suffix) ss) (all_plain ss good));
      kept = filter-Rises is_kept_key ss rises;
      all_kept = all_then (λ s. (is_kept s ≡ true) × (setting_fault s ≡ None)) IsKept
          (λ s k. record { key = k.0; taken = k.1 }) (filter is_kept ss) kept;
      pairs = pairs;
    }

-- options that are read can be stated
pub options_of-Stands : (ss : List Setting) (o : Options) → Rises ss → options_of ss ≡ Ok o → Stands o
unfolding options_of
options_of-Stands ss o rises is =
    let texts = step_ok (judged (first_of setting_fault ss))
    (λ texts. judged (pair_fault (options_in ss)) >>= λ pairs. Ok (options_in ss)) o is in
    let pairs = step_ok (judged (pair_fault (options_in ss))) (λ pairs. Ok (options_in ss)) o texts.2 in
    let same : options_in ss ≡ o = let last = pairs.2 in cc in
    let good = all_none setting_fault ss (judged_none (first_of setting_fault ss) texts.0 texts.1) in
    subst Stands same (stands_in ss rises good (judged_none (pair_fault (options_in ss)) pairs.0 pairs.1))
