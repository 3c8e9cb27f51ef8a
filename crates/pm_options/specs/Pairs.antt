-- Pairs of options that don't go together. The list has them in order; each names the first of its two options.
use Rattle.std.specs.Prelude.{ℕ, List, [], ◌∷◌, ◌++◌, codes, Bool, true, false, ◌&&◌, not, Option, Some, None, if◌then◌else◌, option_map}
use Rattle.std.specs.List.{find}
use Rattle.pm_values.specs.declared.refusal.Refusal.{Refusal}
use Rattle.pm_options.specs.Faults.{first_of, refused}
use Rattle.pm_options.specs.Fields.{prefix, function_suffix, retract_suffix}
use Rattle.pm_options.specs.Kinds.{producer_text, function_text, truth_text}
use Rattle.pm_options.specs.Entries.{Entries, entry_at}
use Rattle.pm_options.specs.Table.{Setting}
use Rattle.pm_options.specs.declared.kinds.EngineKind.{EngineKind}
use Rattle.pm_options.specs.declared.kinds.EngineKind.TheVariants as engines
use Rattle.pm_options.specs.declared.kinds.Producer.{Producer}
use Rattle.pm_options.specs.declared.kinds.Producer.TheVariants as producers
use Rattle.pm_options.specs.declared.kinds.Function.{Function}
use Rattle.pm_options.specs.declared.kinds.Function.TheVariants as functions
use Rattle.pm_options.specs.declared.options.Options.{Options}
use Rattle.pm_options.specs.declared.pairs.Pair.{Pair}
use Rattle.pm_options.specs.declared.pairs.Pair.TheVariants as pairs

abbrev pub is_engine : EngineKind → EngineKind → Bool
is_engine engines.Deduplicate engines.Deduplicate = true
is_engine engines.PartialUpdate engines.PartialUpdate = true
is_engine engines.Aggregation engines.Aggregation = true
is_engine engines.FirstRow engines.FirstRow = true
is_engine engine other = false

abbrev pub is_producer : Producer → Producer → Bool
is_producer producers.None producers.None = true
is_producer producers.Input producers.Input = true
is_producer producers.Lookup producers.Lookup = true
is_producer producers.FullCompaction producers.FullCompaction = true
is_producer producer other = false

-- the setting, where the test holds
abbrev pub where_true : Bool → Setting → Option Setting
where_true test setting = if test then Some setting else None

-- the key of an option of a column
abbrev pub column_key : List ℕ → List ℕ → List ℕ
column_key suffix column = prefix ++ (column ++ suffix)

-- a function with which retractions can't be ignored
abbrev pub takes_retractions : Function → Bool
takes_retractions functions.LastValue = true
takes_retractions functions.FirstValue = true
takes_retractions other = false

-- the first column of an aggregate function, with its setting
abbrev pub first_function : Entries Function → Option Setting
first_function [] = None
first_function (e ∷ es) = Some (column_key function_suffix e.0, function_text e.1)

-- the function stands, and takes retractions
abbrev pub is_taker : Option Function → Bool
is_taker None = false
is_taker (Some f) = takes_retractions f

-- the first column that ignores retractions and whose function takes them, with its setting
abbrev pub first_ignored : Entries Function → Entries Bool → Option Setting
first_ignored functions retracts =
    option_map (λ e. (column_key retract_suffix e.0, truth_text true))
    (find (λ e. e.1 && is_taker (entry_at e.0 functions)) retracts)

-- the setting that a pair names, where the options have the pair
abbrev pub setting_of : Pair → Options → Option Setting
setting_of pairs.InputEngine o =
    where_true (is_producer producers.Input o.producer && not (is_engine engines.Deduplicate o.engine))
    (codes "changelog-producer", producer_text producers.Input)
setting_of pairs.FullFirstRow o =
    where_true (is_producer producers.FullCompaction o.producer && is_engine engines.FirstRow o.engine)
    (codes "changelog-producer", producer_text producers.FullCompaction)
setting_of pairs.DeleteAggregation o =
    where_true (o.ignore_delete && is_engine engines.Aggregation o.engine) (codes "ignore-delete", truth_text true)
setting_of pairs.FunctionPartialUpdate o =
    if is_engine engines.PartialUpdate o.engine then first_function o.functions else None
setting_of pairs.RetractFunction o = first_ignored o.functions o.ignore_retract

-- the pairs in their order
abbrev pub all_pairs : List Pair
all_pairs =
    pairs.InputEngine ∷ pairs.FullFirstRow ∷ pairs.DeleteAggregation ∷ pairs.FunctionPartialUpdate
    ∷ pairs.RetractFunction ∷ []

-- the fault of a pair
abbrev pub refused_pair : Options → Pair → Option Refusal
refused_pair o p = option_map refused (setting_of p o)

-- the fault of the first pair that the options have
abbrev pub pair_fault : Options → Option Refusal
pair_fault o = first_of (refused_pair o) all_pairs
