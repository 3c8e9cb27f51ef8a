-- Settings that options are written as have no fault.
use Rattle.std.proofs.Common.{◌≡◌, ℕ, ◌+◌, ◌^◌, ◌<◌, ◌==◌, Bool, true, false, cond, not, ◌&&◌, ◌||◌, nat_lt, List, [], ◌∷◌, ◌++◌, codes, decimal, Option, Some, None, option_map, unwrap_or, is_some, IfSome, lit<, refl, sym, ap, subst, ◌∙◌, arith}
use Rattle.std.proofs.lemmas.Bool.{le-ltb}
use Rattle.std.specs.Int.{IsInRange}
use Rattle.std.specs.List.{AllByRecursion}
use Rattle.pm_values.specs.declared.refusal.Refusal.TheVariants.{Limit}
use Rattle.pm_base.proofs.Laws.{AllByRecursion-append}
use Rattle.pm_options.specs.Entries.{Entries, entry_at}
use Rattle.pm_options.specs.Faults.{refused}
use Rattle.pm_options.specs.Fields.{delimiter_suffix, function_suffix, group_suffix, has_comma, retract_suffix}
use Rattle.pm_options.specs.Kinds.{engine_text, function_in, function_text, producer_text, truth_in, truth_text}
use Rattle.pm_options.specs.Numbers.{longest}
use Rattle.pm_options.specs.Pairs.{column_key, is_engine, is_producer}
use Rattle.pm_options.specs.Reading.{form_fault, other_fault, setting_fault, unless_taken}
use Rattle.pm_options.specs.Stands.{IsGroup, IsKept, Stands}
use Rattle.pm_options.specs.Table.{Setting, most_buckets, unsupported}
use Rattle.pm_options.specs.Written.{column_settings, field_settings, list_text, settings_of}
use Rattle.pm_options.specs.declared.kinds.EngineKind.{EngineKind}
use Rattle.pm_options.specs.declared.kinds.EngineKind.TheVariants as engines
use Rattle.pm_options.specs.declared.kinds.Producer.{Producer}
use Rattle.pm_options.specs.declared.kinds.Producer.TheVariants as producers
use Rattle.pm_options.specs.declared.kinds.Function.{Function}
use Rattle.pm_options.specs.declared.options.Options.{Options}
use Rattle.pm_options.specs.declared.table.Form.TheVariants.{Bucket, Number, Time}
use Rattle.pm_options.proofs.ColumnKeyLemmas.{Names, column_key-unsupported, names_delimiter, names_function, names_group, names_retract}
use Rattle.pm_options.proofs.ColumnListLemmas.{all_fields}
use Rattle.pm_options.proofs.DecimalLemmas.{number_from-decimal, number_in-decimal, time_in-decimal}
use Rattle.pm_options.proofs.EntryLemmas.{all_map, all_then}
use Rattle.pm_options.proofs.KindLemmas.{function_in-function_text, truth_in-truth_text}
use Rattle.pm_options.proofs.SlotLemmas.{Slot, all_standing, count_slots, kind_slots, rest_of, retained_slots, settings_of-slots, slots, unless}

-- ---- the options of the table

-- a number of buckets is taken
bucket_taken : (key : List ℕ) (n : ℕ) → IsInRange 1 most_buckets n → form_fault Bucket (key, decimal n) ≡ None
bucket_taken key n range =
    let below = range.1 in
    let exceeds = λ (o : Option ℕ). unwrap_or (option_map (λ m. nat_lt most_buckets m) o) false in
    let few = ap exceeds (number_in-decimal n (omega arith)) ∙ le-ltb most_buckets n below in
    let read = number_from-decimal 1 most_buckets n (lit< tt) range in
    let other = Some (refused (key, decimal n)) in
    λ i. cond (few i) (Some (Limit (codes "buckets") most_buckets)) (cond (is_some (read i)) None other)

-- so is a number of a range
number_taken : (key : List ℕ) (low high n : ℕ) → high < 2 ^ 64 → IsInRange low high n
    → form_fault (Number low high) (key, decimal n) ≡ None
number_taken key low high n small range =
    ap (λ o. cond (is_some o) None (Some (refused (key, decimal n)))) (number_from-decimal low high n small range)

-- and a time
time_taken : (key : List ℕ) (n : ℕ) → IsInRange 0 longest n → form_fault Time (key, decimal n ++ codes " ms") ≡ None
time_taken key n range =
    ap (λ o. cond (is_some o) None (Some (refused (key, decimal n ++ codes " ms")))) (time_in-decimal n range)

-- and the name of an engine
engine_taken : (e : EngineKind) → setting_fault (codes "merge-engine", engine_text e) ≡ None
engine_taken engines.Deduplicate = refl
engine_taken engines.PartialUpdate = refl
engine_taken engines.Aggregation = refl
engine_taken engines.FirstRow = refl

-- and that of a producer
producer_taken : (p : Producer) → setting_fault (codes "changelog-producer", producer_text p) ≡ None
producer_taken producers.None = refl
producer_taken producers.Input = refl
producer_taken producers.Lookup = refl
producer_taken producers.FullCompaction = refl

-- what is left out as the default has no fault
unless_has : (P : List ℕ → Type 0) (b : Bool) (text : List ℕ) → P text → IfSome (unless b text) P
unless_has P true text has = tt
unless_has P false text has = has

-- nor has a number that isn't there
number_has : (P : List ℕ → Type 0) (range : ℕ → Type 0) (o : Option ℕ) → ((n : ℕ) → range n → P (decimal n))
    → IfSome o range → IfSome (option_map decimal o) P
number_has P range None each is = tt
number_has P range (Some n) each is = each n is

-- the setting of a slot, where it stands, has no fault
abbrev IsTaken : Slot → Type 0
IsTaken s = IfSome s.1 (λ text. setting_fault (s.0, text) ≡ None)

-- the settings of engines and producers have no fault
kinds_taken : (o : Options) → AllByRecursion IsTaken (kind_slots o)
kinds_taken o =
    let P = λ (key text : List ℕ). setting_fault (key, text) ≡ None in
    let default = is_engine engines.Deduplicate o.engine in
    let engine = unless_has (P (codes "merge-engine")) default (engine_text o.engine) (engine_taken o.engine) in
    let deletes = unless_has (P (codes "ignore-delete")) (not o.ignore_delete) (truth_text true) refl in
    let none = is_producer producers.None o.producer in
    let text = producer_text o.producer in
    let producer = unless_has (P (codes "changelog-producer")) none text (producer_taken o.producer) in
    let key = codes "changelog-producer.row-deduplicate" in
    let rows = unless_has (P key) (not o.row_deduplicate) (truth_text true) refl in
    (engine, (deletes, (producer, (rows, tt))))

-- those of compactions and manifests
counts_taken : (o : Options) → Stands o → AllByRecursion IsTaken (count_slots o)
counts_taken o is =
    let P = λ (key text : List ℕ). setting_fault (key, text) ≡ None in
    let key = codes "full-compaction.delta-commits" in
    let each = λ (n : ℕ) (range : IsInRange 1 1000000 n). number_taken key 1 1000000 n (lit< tt) range in
    let commits = number_has (P key) (IsInRange 1 1000000) o.delta_commits each is.delta_commits in
    let key = codes "num-sorted-run.compaction-trigger" in
    let taken = number_taken key 1 100 o.trigger (lit< tt) is.trigger in
    let trigger = unless_has (P key) (o.trigger == 5) (decimal o.trigger) taken in
    let key = codes "num-levels" in
    let taken = number_taken key 2 101 o.levels (lit< tt) is.levels in
    let levels = unless_has (P key) (o.levels == o.trigger + 1) (decimal o.levels) taken in
    let key = codes "compaction.max-size-amplification-percent" in
    let taken = number_taken key 0 1000000 o.amplification (lit< tt) is.amplification in
    let amplification = unless_has (P key) (o.amplification == 200) (decimal o.amplification) taken in
    let key = codes "compaction.size-ratio" in
    let taken = number_taken key 0 1000000 o.ratio (lit< tt) is.ratio in
    let ratio = unless_has (P key) (o.ratio == 1) (decimal o.ratio) taken in
    let key = codes "manifest.merge-min-count" in
    let taken = number_taken key 2 1000 o.merge_min (lit< tt) is.merge_min in
    let merge_min = unless_has (P key) (o.merge_min == 30) (decimal o.merge_min) taken in
    (commits, (trigger, (levels, (amplification, (ratio, (merge_min, tt))))))

-- those of what is retained
retained_taken : (o : Options) → Stands o → AllByRecursion IsTaken (retained_slots o)
retained_taken o is =
    let P = λ (key text : List ℕ). setting_fault (key, text) ≡ None in
    let key = codes "snapshot.time-retained" in
    let text = decimal o.retained_millis ++ codes " ms" in
    let taken = time_taken key o.retained_millis is.retained_millis in
    let millis = unless_has (P key) (o.retained_millis == 3600000) text taken in
    let key = codes "snapshot.num-retained.min" in
    let taken = number_taken key 1 2147483647 o.retained_min (lit< tt) is.retained_min in
    let least = unless_has (P key) (o.retained_min == 10) (decimal o.retained_min) taken in
    let key = codes "snapshot.num-retained.max" in
    let taken = number_taken key 1 2147483647 o.retained_max (lit< tt) is.retained_max in
    let most = unless_has (P key) (o.retained_max == 2147483647) (decimal o.retained_max) taken in
    (millis, (least, (most, tt)))

-- no setting of the table has a fault
slots_taken : (o : Options) → Stands o → AllByRecursion IsTaken (slots o)
slots_taken o is =
    let counts = count_slots o in
    let retained = retained_slots o in
    let later = AllByRecursion-append IsTaken counts retained (counts_taken o is) (retained_taken o is) in
    let all = AllByRecursion-append IsTaken (kind_slots o) (counts ++ retained) (kinds_taken o) later in
    (bucket_taken (codes "bucket") o.bucket is.bucket, (refl, all))

-- ---- the options of columns

-- the text or the column that an option of a column takes
abbrev takes_named : Option (List ℕ) → Option (List ℕ) → Option (List ℕ) → List ℕ → Bool
takes_named f r g text =
    (not (is_some f) || is_some (function_in text)) &&
    ((not (is_some r) || is_some (truth_in text)) && not (unwrap_or (option_map has_comma g) false))

-- the fault of a setting of a column
pub column_fault : (suffix column text : List ℕ) (f d r g : Option (List ℕ))
    → entry_at (column_key suffix column) unsupported ≡ None → Names (column_key suffix column) f d r g
    → setting_fault (column_key suffix column, text)
    ≡ unless_taken (takes_named f r g text) (column_key suffix column, text)
column_fault suffix column text f d r g supported names =
    let s : Setting = (column_key suffix column, text) in
    ap (λ o. other_fault o s) supported
    ∙ (λ i. unless_taken (takes_named (names.function i) (names.retract i) (names.group i) text) s)

-- a setting without a fault
abbrev NoFault : Setting → Type 0
NoFault s = setting_fault s ≡ None

-- the function of a column is taken
function_taken : (column : List ℕ) (f : Function) → NoFault (column_key function_suffix column, function_text f)
function_taken column f =
    let s : Setting = (column_key function_suffix column, function_text f) in
    column_fault function_suffix column (function_text f) _ _ _ _ (column_key-unsupported function_suffix column refl)
    (names_function column)
    ∙ ap (λ o. unless_taken (is_some o && true) s) (function_in-function_text f)

-- so is any delimiter
delimiter_taken : (column text : List ℕ) → NoFault (column_key delimiter_suffix column, text)
delimiter_taken column text =
    column_fault delimiter_suffix column text _ _ _ _ (column_key-unsupported delimiter_suffix column refl)
    (names_delimiter column)

-- and a truth
retract_taken : (column : List ℕ) (b : Bool) → NoFault (column_key retract_suffix column, truth_text b)
retract_taken column b =
    let s : Setting = (column_key retract_suffix column, truth_text b) in
    column_fault retract_suffix column (truth_text b) _ _ _ _ (column_key-unsupported retract_suffix column refl)
    (names_retract column)
    ∙ ap (λ o. unless_taken (is_some o && true) s) (truth_in-truth_text b)

-- the column of a group has no comma where the setting has no fault
pub group_fault : (column text : List ℕ)
    → setting_fault (column_key group_suffix column, text)
    ≡ unless_taken (not (has_comma column)) (column_key group_suffix column, text)
group_fault column text =
    column_fault group_suffix column text _ _ _ _ (column_key-unsupported group_suffix column refl) (names_group column)

-- and the groups
groups_taken : (es : Entries (List (List ℕ))) → AllByRecursion IsGroup es
    → AllByRecursion NoFault (column_settings group_suffix list_text es)
groups_taken [] all = tt
groups_taken (e ∷ es) all =
    let is = all.0 in
    let s : Setting = (column_key group_suffix e.0, list_text e.1) in
    (group_fault e.0 (list_text e.1) ∙ ap (λ b. unless_taken (not b) s) is.column, groups_taken es all.1)

-- no setting that options are written as has a fault
pub settings_taken : (o : Options) → Stands o → AllByRecursion NoFault (settings_of o)
settings_taken o is =
    let function : List ℕ × Function → Setting = λ e. (column_key function_suffix e.0, function_text e.1) in
    let delimiter : List ℕ × List ℕ → Setting = λ e. (column_key delimiter_suffix e.0, e.1) in
    let retract : List ℕ × Bool → Setting = λ e. (column_key retract_suffix e.0, truth_text e.1) in
    let fields =
    all_fields NoFault o (all_map function NoFault (λ e. function_taken e.0 e.1) o.functions)
    (all_map delimiter NoFault (λ e. delimiter_taken e.0 e.1) o.delimiters)
    (all_map retract NoFault (λ e. retract_taken e.0 e.1) o.ignore_retract) (groups_taken o.groups is.all_groups) in
    let kept = all_then IsKept NoFault (λ s k. k.taken) o.kept is.all_kept in
    let rest = AllByRecursion-append NoFault (field_settings o) o.kept fields kept in
    subst (AllByRecursion NoFault) (sym (settings_of-slots o))
    (all_standing NoFault (slots o) (rest_of o) (slots_taken o is) rest)
