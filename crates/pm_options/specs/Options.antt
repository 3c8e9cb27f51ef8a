-- The options that settings state: each has the value of its text, or its default.
use Rattle.std.specs.Prelude.{ℕ, ◌+◌, List, codes, Bool, false, not, ◌||◌, Option, option_and_then, unwrap_or, is_some, filter}
use Rattle.pm_options.specs.Kinds.{engine_in, producer_in, function_in, truth_in}
use Rattle.pm_options.specs.Numbers.{time_in}
use Rattle.pm_options.specs.Entries.{entry_at}
use Rattle.pm_options.specs.Table.{Setting, table, number_read}
use Rattle.pm_options.specs.Fields.{is_of_column, texts_of, meant, names_meant, function_suffix, delimiter_suffix, retract_suffix, group_suffix}
use Rattle.pm_options.specs.declared.kinds.EngineKind.{EngineKind}
use Rattle.pm_options.specs.declared.kinds.EngineKind.TheVariants.{Deduplicate}
use Rattle.pm_options.specs.declared.kinds.Producer.{Producer}
use Rattle.pm_options.specs.declared.kinds.Producer.TheVariants as producers
use Rattle.pm_options.specs.declared.options.Options.{Options}

-- what the text of a key means, if there is one and it means something
abbrev pub meaning_at : {A : Type 0} → (List ℕ → Option A) → List ℕ → List Setting → Option A
meaning_at meaning key settings = option_and_then meaning (entry_at key settings)

-- a number, of the range that the table has for the key
abbrev pub number_at : List ℕ → List Setting → Option ℕ
number_at key settings = meaning_at (number_read (entry_at key table)) key settings

-- the number, or a default
abbrev pub number_or : ℕ → List ℕ → List Setting → ℕ
number_or default key settings = unwrap_or (number_at key settings) default

-- a truth, false by default
abbrev pub truth_at : List ℕ → List Setting → Bool
truth_at key settings = unwrap_or (meaning_at truth_in key settings) false

abbrev pub engine_at : List Setting → EngineKind
engine_at settings = unwrap_or (meaning_at engine_in (codes "merge-engine") settings) Deduplicate

abbrev pub producer_at : List Setting → Producer
producer_at settings = unwrap_or (meaning_at producer_in (codes "changelog-producer") settings) producers.None

-- the retained time, one hour by default
abbrev pub time_at : List Setting → ℕ
time_at settings = unwrap_or (meaning_at time_in (codes "snapshot.time-retained") settings) 3600000

-- the number of levels, by default one more than the trigger
abbrev pub levels_at : List Setting → ℕ
levels_at settings =
    number_or (number_or 5 (codes "num-sorted-run.compaction-trigger") settings + 1) (codes "num-levels") settings

-- the key is that of no option that has a field
abbrev pub is_kept_key : List ℕ → Bool
is_kept_key key = not (is_some (entry_at key table) || is_of_column key)

abbrev pub is_kept : Setting → Bool
is_kept s = is_kept_key s.0

abbrev pub options_in : List Setting → Options
options_in settings = record {
  bucket = number_or 1 (codes "bucket") settings;
  engine = engine_at settings;
  ignore_delete = truth_at (codes "ignore-delete") settings;
  producer = producer_at settings;
  row_deduplicate = truth_at (codes "changelog-producer.row-deduplicate") settings;
  delta_commits = number_at (codes "full-compaction.delta-commits") settings;
  trigger = number_or 5 (codes "num-sorted-run.compaction-trigger") settings;
  levels = levels_at settings;
  amplification = number_or 200 (codes "compaction.max-size-amplification-percent") settings;
  ratio = number_or 1 (codes "compaction.size-ratio") settings;
  merge_min = number_or 30 (codes "manifest.merge-min-count") settings;
  retained_millis = time_at settings;
  retained_min = number_or 10 (codes "snapshot.num-retained.min") settings;
  retained_max = number_or 2147483647 (codes "snapshot.num-retained.max") settings;
  functions = meant function_in (texts_of function_suffix settings);
  delimiters = texts_of delimiter_suffix settings;
  ignore_retract = meant truth_in (texts_of retract_suffix settings);
  groups = meant names_meant (texts_of group_suffix settings);
  kept = filter is_kept settings;
}
