-- What the reading of a consumer's file shows of the table at that moment.
use Rattle.std.specs.Prelude.{◌≡◌, ℕ, ◌+◌, ◌≤◌, List, length, false, IsSomeAnd}
use Rattle.std.specs.FinMap as map
use Rattle.pm_store.specs.Files.{Files}
use Rattle.pm_model_consumers.specs.Claims.{Counts, settled}
use Rattle.pm_model_history.specs.History.{IsTableOf}
use Rattle.pm_schema.specs.declared.schema.TableSchema.{TableSchema}
use Rattle.pm_snapshot.specs.declared.consumer.Consumer.{Consumer}
use Rattle.pm_model_folder.specs.Ledger.{Past}
use Rattle.pm_model_folder.specs.Meaning.{IsLeast}
use Rattle.pm_model_folder.specs.Paths.{consumer_path}
use Rattle.pm_read_consumer.specs.Reader.{Says}
use Rattle.pm_read_consumer.specs.declared.phase.FoundConsumer.{FoundConsumer}

-- the snapshot that the consumer reads next hasn't gone
abbrev pub IsServed : Files → TableSchema → Consumer → Type 0
IsServed f s c = (least : ℕ) × IsLeast f s least × (least ≤ c.next)

-- What was found is there, and says this. Where the consumer counts, it is one whose next snapshot hasn't gone. Where
-- it is settled, it isn't new, and its number is one above the last of the frames that it was moved past.
pub record IsFoundIn (name : List ℕ) (r : FoundConsumer) (f : Files) (p : Past) : Type 0 where
  pub found : r.found ≡ map.get f (consumer_path name)
  pub says : Says r.found r.consumer
  pub counts : (s : TableSchema) → IsTableOf s p.history → Counts (p.claims name) → IsSomeAnd r.consumer (IsServed f s)
  pub settled : (from : ℕ) (moved : List (List ℕ)) → p.claims name ≡ settled from moved
      → IsSomeAnd r.consumer (λ c. (c.fresh ≡ false) × (c.next ≡ from + length moved))
