-- The texts of merge engines, changelog producers, aggregate functions and truths.
use Rattle.std.specs.Prelude.{ℕ, List, [], ◌∷◌, map, codes, Bool, true, false, Option}
use Rattle.pm_options.specs.Entries.{entry_at}
use Rattle.pm_options.specs.declared.kinds.EngineKind.{EngineKind}
use Rattle.pm_options.specs.declared.kinds.EngineKind.TheVariants as engines
use Rattle.pm_options.specs.declared.kinds.Producer.{Producer}
use Rattle.pm_options.specs.declared.kinds.Producer.TheVariants as producers
use Rattle.pm_options.specs.declared.kinds.Function.{Function}
use Rattle.pm_options.specs.declared.kinds.Function.TheVariants as functions

-- the one of these that has the text
abbrev pub named : {A : Type 0} → (A → List ℕ) → List A → List ℕ → Option A
named text_of all text = entry_at text (map (λ x. (text_of x, x)) all)

abbrev pub engine_text : EngineKind → List ℕ
engine_text engines.Deduplicate = codes "deduplicate"
engine_text engines.PartialUpdate = codes "partial-update"
engine_text engines.Aggregation = codes "aggregation"
engine_text engines.FirstRow = codes "first-row"

abbrev pub engine_in : List ℕ → Option EngineKind
engine_in =
    named engine_text (engines.Deduplicate ∷ engines.PartialUpdate ∷ engines.Aggregation ∷ engines.FirstRow ∷ [])

abbrev pub producer_text : Producer → List ℕ
producer_text producers.None = codes "none"
producer_text producers.Input = codes "input"
producer_text producers.Lookup = codes "lookup"
producer_text producers.FullCompaction = codes "full-compaction"

abbrev pub producer_in : List ℕ → Option Producer
producer_in = named producer_text (producers.None ∷ producers.Input ∷ producers.Lookup ∷ producers.FullCompaction ∷ [])

abbrev pub function_text : Function → List ℕ
function_text functions.Sum = codes "sum"
function_text functions.Max = codes "max"
function_text functions.Min = codes "min"
function_text functions.LastValue = codes "last_value"
function_text functions.LastNonNullValue = codes "last_non_null_value"
function_text functions.FirstValue = codes "first_value"
function_text functions.FirstNonNullValue = codes "first_non_null_value"
function_text functions.ListAgg = codes "listagg"
function_text functions.BoolAnd = codes "bool_and"
function_text functions.BoolOr = codes "bool_or"

abbrev pub function_in : List ℕ → Option Function
function_in =
    named function_text
    (functions.Sum ∷ functions.Max ∷ functions.Min ∷ functions.LastValue ∷ functions.LastNonNullValue
    ∷ functions.FirstValue ∷ functions.FirstNonNullValue ∷ functions.ListAgg
    ∷ functions.BoolAnd ∷ functions.BoolOr ∷ [])

abbrev pub truth_text : Bool → List ℕ
truth_text true = codes "true"
truth_text false = codes "false"

abbrev pub truth_in : List ℕ → Option Bool
truth_in = named truth_text (true ∷ false ∷ [])
