-- Consumers, floors and snapshots as a table's files have them, and what is known of each consumer beside its file.
use Rattle.std.specs.Prelude.{ℕ, List, [], length, Bool, Option, Some, None, is_some}
use Rattle.std.specs.Prelude.{Result, Ok, Err, nat_le, ◌&&◌}
use Rattle.std.specs.FinMap as map
use Rattle.pm_store.specs.Files.{Files}
use Rattle.pm_model_history.specs.History.{Entry, History, no_table, table}
use Rattle.pm_model_following.specs.Following.{frame}
use Rattle.pm_schema.specs.declared.schema.TableSchema.{TableSchema}
use Rattle.pm_snapshot.specs.Consumer.{consumer_in}
use Rattle.pm_snapshot.specs.Names.{greatest}
use Rattle.pm_snapshot.specs.declared.consumer.Consumer.{Consumer}
use Rattle.pm_snapshot.specs.declared.fault.SnapFault.{SnapFault}
use Rattle.pm_model_consumers.specs.Changes as kinds
use Rattle.pm_model_consumers.specs.Claims.{Claim, Follower, Holds, Moment, Said}
use Rattle.pm_model_folder.specs.Changes.{Actor}
use Rattle.pm_model_folder.specs.Meaning.{IsLeast}
use Rattle.pm_model_folder.specs.Paths.{consumer_path, floor_path}

-- who registers consumers as an actor
abbrev pub follower_of : Actor → Follower
follower_of me = record { session = me.session; number = me.number }

-- what a consumer's file says, where it reads
abbrev pub said_of : Result Consumer SnapFault → Option Said
said_of (Ok c) = Some (record { next = c.next; fresh = c.fresh })
said_of (Err e) = None

abbrev pub said_in : Option (List ℕ) → Option Said
said_in None = None
said_in (Some bytes) = said_of (consumer_in bytes)

abbrev pub said_at : Files → List ℕ → Option Said
said_at f name = said_in (map.get f (consumer_path name))

-- whether the floor of a number is there
abbrev pub floor_at : Files → ℕ → Bool
floor_at f n = nat_le n greatest && is_some (map.get f (floor_path n))

-- the frame of a snapshot, by the entries of the history: nothing where there is no table
abbrev pub frame_in : History → ℕ → List ℕ
frame_in no_table id = []
frame_in (table s entries) id = frame s entries id

-- what a table's files have of snapshots, floors and consumers, with the frames of its entries, and with what is known
-- of each consumer
abbrev pub moment_of : Files → TableSchema → List Entry → ℕ → (List ℕ → Claim) → Moment
moment_of f s entries least claims = record {
  least = least;
  newest = length entries;
  frame = λ id. frame s entries id;
  floor = λ n. floor_at f n;
  file = λ name. said_at f name;
  claim = claims;
}

-- what holds of the consumers of a table with these entries
pub record KnowsConsumers (f : Files) (s : TableSchema) (entries : List Entry) (claims : List ℕ → Claim) : Type 0 where
  pub least : ℕ
  pub is : IsLeast f s least
  pub holds : Holds (moment_of f s entries least claims)

-- two changes lead from a moment to another
abbrev pub IsMoved : Follower → Moment → Moment → Type 0
IsMoved me m n = (between : Moment) × kinds.Change me m between × kinds.Change me between n
