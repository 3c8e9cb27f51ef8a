-- The settings that options are written as: the file format, the number of buckets, each further option whose value
-- isn't its default, each option of a column that stands, and those that are kept.
use Rattle.std.specs.Prelude.{◌≡◌, ℕ, ◌+◌, ◌==◌, List, [], ◌∷◌, ◌++◌, map, codes, decimal, Bool, true, not, Option, Some, None, if◌then◌else◌, String, string_bytes}
use Rattle.std.specs.declared.alloc.Global.{Global}
use Rattle.std.specs.List.{join_with_byte}
use Rattle.pm_options.specs.Fields.{function_suffix, delimiter_suffix, retract_suffix, group_suffix}
use Rattle.pm_options.specs.Kinds.{engine_text, producer_text, function_text, truth_text}
use Rattle.pm_options.specs.Pairs.{column_key, is_engine, is_producer}
use Rattle.pm_options.specs.Entries.{Entries}
use Rattle.pm_options.specs.Table.{Setting}
use Rattle.pm_options.specs.declared.kinds.EngineKind.TheVariants.{Deduplicate}
use Rattle.pm_options.specs.declared.kinds.Producer.TheVariants as producers
use Rattle.pm_options.specs.declared.options.Options.{Options}

-- a setting, unless its value is the default
abbrev pub unless_default : Bool → List ℕ → List ℕ → List Setting
unless_default default key text = if default then [] else (key, text) ∷ []

-- a number, unless it is the default
abbrev pub number_unless : ℕ → List ℕ → ℕ → List Setting
number_unless default key n = unless_default (n == default) key (decimal n)

-- a truth, unless it is false
abbrev pub truth_if : List ℕ → Bool → List Setting
truth_if key b = unless_default (not b) key (truth_text true)

-- a number, where there is one
abbrev pub number_if : List ℕ → Option ℕ → List Setting
number_if key None = []
number_if key (Some n) = (key, decimal n) ∷ []

-- the options of columns with a suffix
abbrev pub column_settings : {A : Type 0} → List ℕ → (A → List ℕ) → Entries A → List Setting
column_settings suffix text_of entries = map (λ e. (column_key suffix e.0, text_of e.1)) entries

-- names with a comma between each two
abbrev pub list_text : List (List ℕ) → List ℕ
list_text names = join_with_byte 44 names

-- how the rows of a key become one, and where the changelog comes from
abbrev pub kind_settings : Options → List Setting
kind_settings o =
    unless_default (is_engine Deduplicate o.engine) (codes "merge-engine") (engine_text o.engine)
    ++ (truth_if (codes "ignore-delete") o.ignore_delete
    ++ (unless_default (is_producer producers.None o.producer) (codes "changelog-producer") (producer_text o.producer)
    ++ truth_if (codes "changelog-producer.row-deduplicate") o.row_deduplicate))

-- when runs are compacted and manifests merged
abbrev pub count_settings : Options → List Setting
count_settings o =
    number_if (codes "full-compaction.delta-commits") o.delta_commits
    ++ (number_unless 5 (codes "num-sorted-run.compaction-trigger") o.trigger
    ++ (number_unless (o.trigger + 1) (codes "num-levels") o.levels
    ++ (number_unless 200 (codes "compaction.max-size-amplification-percent") o.amplification
    ++ (number_unless 1 (codes "compaction.size-ratio") o.ratio
    ++ number_unless 30 (codes "manifest.merge-min-count") o.merge_min))))

-- how long snapshots are retained
abbrev pub retained_settings : Options → List Setting
retained_settings o =
    unless_default (o.retained_millis == 3600000) (codes "snapshot.time-retained")
    (decimal o.retained_millis ++ codes " ms")
    ++ (number_unless 10 (codes "snapshot.num-retained.min") o.retained_min
    ++ number_unless 2147483647 (codes "snapshot.num-retained.max") o.retained_max)

-- what is said of columns
abbrev pub field_settings : Options → List Setting
field_settings o =
    column_settings function_suffix function_text o.functions
    ++ (column_settings delimiter_suffix (λ text. text) o.delimiters
    ++ (column_settings retract_suffix truth_text o.ignore_retract
    ++ column_settings group_suffix list_text o.groups))

-- all settings, in no order
abbrev pub settings_of : Options → List Setting
settings_of o =
    (codes "bucket", decimal o.bucket) ∷ (codes "file.format", codes "avro")
    ∷ (kind_settings o ++ (count_settings o ++ (retained_settings o ++ (field_settings o ++ o.kept))))

-- settings as texts of their own
abbrev pub text_views : List (String Global × String Global) → List Setting
text_views settings = map (λ s. (string_bytes s.0, string_bytes s.1)) settings

-- the settings were added at the end
pub record Adds (old new : List (String Global × String Global)) (settings : List Setting) : Type 0 where
  pub views : text_views new ≡ text_views old ++ settings
