-- The options of the table are read again from what they are written as.
use Rattle.std.proofs.Common.{◌≡◌, ℕ, ◌+◌, ◌^◌, ◌<◌, ◌==◌, Bool, true, false, not, List, ◌++◌, codes, decimal, Option, Some, None, option_map, option_and_then, unwrap_or, is_some, IfSome, lit<, refl, sym, ap, ◌∙◌}
use Rattle.std.proofs.lemmas.Bool.{eqb-true}
use Rattle.std.specs.Int.{IsInRange}
use Rattle.std.specs.Option.{option_or}
use Rattle.pm_options.specs.Entries.{entry_at}
use Rattle.pm_options.specs.Kinds.{engine_in, engine_text, producer_in, producer_text, truth_in, truth_text}
use Rattle.pm_options.specs.Numbers.{longest, number_from, time_in}
use Rattle.pm_options.specs.Options.{engine_at, levels_at, number_at, number_or, producer_at, time_at, truth_at}
use Rattle.pm_options.specs.Pairs.{is_engine, is_producer}
use Rattle.pm_options.specs.Stands.{Stands}
use Rattle.pm_options.specs.Table.{most_buckets, table}
use Rattle.pm_options.specs.declared.kinds.EngineKind.{EngineKind}
use Rattle.pm_options.specs.declared.kinds.EngineKind.TheVariants as engines
use Rattle.pm_options.specs.declared.kinds.Producer.{Producer}
use Rattle.pm_options.specs.declared.kinds.Producer.TheVariants as producers
use Rattle.pm_options.specs.declared.options.Options.{Options}
use Rattle.pm_options.proofs.ColumnListLemmas.{or_none}
use Rattle.pm_options.proofs.DecimalLemmas.{number_from-decimal, time_in-decimal}
use Rattle.pm_options.proofs.SlotLemmas.{found, slots, unless}
use Rattle.pm_options.proofs.LookupLemmas.{table_at, written}

-- what a slot says is found at its key
slot_at : (o : Options) → Stands o → (key : List ℕ) (text : Option (List ℕ)) → is_some (entry_at key table) ≡ true
    → found key (slots o) None ≡ option_or text None → entry_at key (written o) ≡ text
slot_at o is key text known slot = table_at o is key known ∙ slot ∙ or_none text

-- a number that stands, or its default
number_unless : (low high default n : ℕ) (b : Bool) → (n == default) ≡ b → high < 2 ^ 64 → IsInRange low high n
    → unwrap_or (option_and_then (number_from low high) (unless b (decimal n))) default ≡ n
number_unless low high default n true is small range = sym (eqb-true n default is)
number_unless low high default n false is small range =
    ap (λ o. unwrap_or o default) (number_from-decimal low high n small range)

-- a number that stands unless it is its default
pub number_again : (o : Options) → Stands o → (key : List ℕ) (low high default n : ℕ) → is_some (entry_at key table) ≡ true
    → found key (slots o) None ≡ option_or (unless (n == default) (decimal n)) None → high < 2 ^ 64 → IsInRange low high n
    → unwrap_or (option_and_then (number_from low high) (entry_at key (written o))) default ≡ n
number_again o is key low high default n known slot small range =
    ap (λ t. unwrap_or (option_and_then (number_from low high) t) default)
    (slot_at o is key (unless (n == default) (decimal n)) known slot)
    ∙ number_unless low high default n (n == default) refl small range

-- the number of buckets, which always stands
pub bucket_again : (o : Options) → Stands o → number_or 1 (codes "bucket") (written o) ≡ o.bucket
bucket_again o is =
    ap (λ t. unwrap_or (option_and_then (number_from 1 most_buckets) t) 1)
    (slot_at o is (codes "bucket") (Some (decimal o.bucket)) refl refl)
    ∙ ap (λ n. unwrap_or n 1) (number_from-decimal 1 most_buckets o.bucket (lit< tt) is.bucket)

-- a number, where there is one
commits_in : (n : Option ℕ) → IfSome n (IsInRange 1 1000000)
    → option_and_then (number_from 1 1000000) (option_map decimal n) ≡ n
commits_in None range = refl
commits_in (Some n) range = number_from-decimal 1 1000000 n (lit< tt) range

-- a number that may not be there
pub commits_again : (o : Options) → Stands o
    → number_at (codes "full-compaction.delta-commits") (written o) ≡ o.delta_commits
commits_again o is =
    ap (option_and_then (number_from 1 1000000))
    (slot_at o is (codes "full-compaction.delta-commits") (option_map decimal o.delta_commits) refl refl)
    ∙ commits_in o.delta_commits is.delta_commits

-- the number of levels, whose default is one more than the trigger
pub levels_again : (o : Options) → Stands o → levels_at (written o) ≡ o.levels
levels_again o is =
    let trigger =
    number_again o is (codes "num-sorted-run.compaction-trigger") 1 100 5 o.trigger refl refl (lit< tt) is.trigger in
    ap (λ t. number_or (t + 1) (codes "num-levels") (written o)) trigger
    ∙ number_again o is (codes "num-levels") 2 101 (o.trigger + 1) o.levels refl refl (lit< tt) is.levels

-- a time that stands, or its default
time_unless : (n : ℕ) (b : Bool) → (n == 3600000) ≡ b → IsInRange 0 longest n
    → unwrap_or (option_and_then time_in (unless b (decimal n ++ codes " ms"))) 3600000 ≡ n
time_unless n true is range = sym (eqb-true n 3600000 is)
time_unless n false is range = ap (λ o. unwrap_or o 3600000) (time_in-decimal n range)

-- the retained time
pub time_again : (o : Options) → Stands o → time_at (written o) ≡ o.retained_millis
time_again o is =
    let text = unless (o.retained_millis == 3600000) (decimal o.retained_millis ++ codes " ms") in
    ap (λ t. unwrap_or (option_and_then time_in t) 3600000) (slot_at o is (codes "snapshot.time-retained") text refl refl)
    ∙ time_unless o.retained_millis (o.retained_millis == 3600000) refl is.retained_millis

-- a truth that stands, or its default
truth_unless : (b : Bool) → unwrap_or (option_and_then truth_in (unless (not b) (truth_text true))) false ≡ b
truth_unless true = refl
truth_unless false = refl

-- a truth that stands unless it is false
pub truth_again : (o : Options) → Stands o → (key : List ℕ) (b : Bool) → is_some (entry_at key table) ≡ true
    → found key (slots o) None ≡ option_or (unless (not b) (truth_text true)) None → truth_at key (written o) ≡ b
truth_again o is key b known slot =
    ap (λ t. unwrap_or (option_and_then truth_in t) false) (slot_at o is key (unless (not b) (truth_text true)) known slot)
    ∙ truth_unless b

-- an engine that stands, or the default
engine_unless : (e : EngineKind)
    → unwrap_or (option_and_then engine_in (unless (is_engine engines.Deduplicate e) (engine_text e))) engines.Deduplicate
    ≡ e
engine_unless engines.Deduplicate = refl
engine_unless engines.PartialUpdate = refl
engine_unless engines.Aggregation = refl
engine_unless engines.FirstRow = refl

-- the merge engine
pub engine_again : (o : Options) → Stands o → engine_at (written o) ≡ o.engine
engine_again o is =
    let text = unless (is_engine engines.Deduplicate o.engine) (engine_text o.engine) in
    ap (λ t. unwrap_or (option_and_then engine_in t) engines.Deduplicate)
    (slot_at o is (codes "merge-engine") text refl refl)
    ∙ engine_unless o.engine

-- a producer that stands, or the default
producer_unless : (p : Producer)
    → unwrap_or (option_and_then producer_in (unless (is_producer producers.None p) (producer_text p))) producers.None ≡ p
producer_unless producers.None = refl
producer_unless producers.Input = refl
producer_unless producers.Lookup = refl
producer_unless producers.FullCompaction = refl

-- the changelog producer
pub producer_again : (o : Options) → Stands o → producer_at (written o) ≡ o.producer
producer_again o is =
    let text = unless (is_producer producers.None o.producer) (producer_text o.producer) in
    ap (λ t. unwrap_or (option_and_then producer_in t) producers.None)
    (slot_at o is (codes "changelog-producer") text refl refl)
    ∙ producer_unless o.producer
