-- What a command promises that ran out of memory before it did anything.
use Rattle.std.proofs.Common.{inl, ℕ, Bool, List, [], Option, None, Some, IfSome, Err, refl}
use Rattle.pm_values.specs.declared.refusal.Refusal.{Refusal}
use Rattle.pm_values.specs.declared.refusal.Refusal.TheVariants as refusals
use Rattle.pm_io.specs.Sink.{SinkView}
use Rattle.pm_io.specs.Source.{SourceView}
use Rattle.pm_store.specs.Files.{Files}
use Rattle.pm_store.specs.Store.{StoreView}
use Rattle.pm_machine.specs.Trace.{HasTrace, before_call}
use Rattle.pm_machine.proofs.Facts.{Traces-none}
use Rattle.pm_model_folder.specs.Changes.{Actor}
use Rattle.pm_model_folder.specs.Ledger.{Advances, Past, Stands}
use Rattle.pm_read_schema.specs.AllCalls.{DidRead, ReadsTables}
use Rattle.pm_read_schema.specs.Beside.{AnyPast}
use Rattle.pm_read_schema.specs.declared.phase.Phase.TheVariants as readers
use Rattle.pm_read_schema.proofs.AllCallsLemmas.{read_history}
use Rattle.pm_read_schema.proofs.BesideFacts.{learns-none}
use Rattle.pm_words.specs.Words.{IsInRange}
use Rattle.pm_words.specs.declared.command.Command.{Command}
use Rattle.pm_words.specs.declared.command.Command.TheVariants as commands
use Rattle.pm_command.specs.Outside.{outside}
use Rattle.pm_command.specs.declared.start.Start.{Start}
use Rattle.pm_expire_end.specs.declared.keep.KeepAsked.{KeepAsked}
use Rattle.pm_cli.specs.Commands.{Acts, Answers, ServesHistories, drawing, keep_asked}
use Rattle.pm_command_compact.specs.Compact as compact
use Rattle.pm_command_consume.specs.Alone.{ConsumesAny}
use Rattle.pm_command_consume.specs.Consume.{HasConsumed, IsConsuming, consuming}
use Rattle.pm_command_consume.specs.declared.consuming.Consuming.{Consuming}
use Rattle.pm_command_consumers.specs.Consumers as consumers
use Rattle.pm_command_consumers.specs.Drop as drops
use Rattle.pm_command_expire.specs.Expire as expire
use Rattle.pm_command_follow.specs.Follow as follow
use Rattle.pm_command_follow.specs.Follow.{DidSchema}
use Rattle.pm_command_generate.specs.Generate.{Generates, commands_of, out_of_memory}
use Rattle.pm_command_generate.specs.declared.drawing.Drawing.{Drawing}
use Rattle.pm_command_scan.specs.Scan as scan
use Rattle.pm_command_snapshots.specs.Snapshots as snapshots
use Rattle.pm_command_write.specs.Write.{writer_of}
use Rattle.pm_words.proofs.NameLemmas.{name_is_plain}
use Rattle.pm_command_create.proofs.CreateLaws.{nothing_made}
use Rattle.pm_command_compact.proofs.CompactLaws as compacts
use Rattle.pm_command_consume.proofs.OpenLemmas.{schema_refused}
use Rattle.pm_command_consume.proofs.PieceLemmas.{schema_shown}
use Rattle.pm_command_consumers.proofs.ConsumerLaws as reads
use Rattle.pm_command_consumers.proofs.DropLaws as removes
use Rattle.pm_command_expire.proofs.ExpireLaws as expires
use Rattle.pm_command_scan.proofs.ScanLaws as scans
use Rattle.pm_command_snapshots.proofs.SnapshotLaws as lists
use Rattle.pm_command_write.proofs.WriteLaws.{input_acts, input_refused, refused_serves}

-- no schema was read
read_none : (store : StoreView) → HasTrace (DidRead (Err refusals.Memory)) store store
read_none store = ([], before_call readers.Schemas refl refl, Traces-none store)

reads_none : (store : StoreView) → ReadsTables store store (Err refusals.Memory)
reads_none store = read_history (Err refusals.Memory) store store (read_none store)

scanned_none : (at : Option ℕ) (out : SinkView) (store : StoreView) → scan.IsScanned at out out store store (Some refusals.Memory)
scanned_none at out store =
    scans.refused_scanned at refusals.Memory out store store (scans.read_refused at refusals.Memory store store (read_none store))
    (scans.read_beside at refusals.Memory store store (read_none store) (learns-none AnyPast store)) (scans.read_keeps at refusals.Memory store store (reads_none store))

listed_none : (out : SinkView) (store : StoreView) → snapshots.IsListed out out store store (Some refusals.Memory)
listed_none out store =
    lists.refused_listed refusals.Memory out store store (lists.read_refused refusals.Memory store store (read_none store))
    (learns-none AnyPast store) (lists.read_keeps refusals.Memory store store (reads_none store))

read_of_none : (out : SinkView) (store : StoreView) → consumers.IsListed out out store store (Some refusals.Memory)
read_of_none out store =
    reads.refused_listed refusals.Memory out store store (reads.read_refused refusals.Memory store store (read_none store)) (learns-none AnyPast store)
    (reads.read_keeps refusals.Memory store store (reads_none store))

removed_none : (name : List ℕ) (out : SinkView) (store : StoreView) → drops.IsRemoved name out out store store (Some refusals.Memory)
removed_none name out store =
    removes.refused_removed name refusals.Memory out store store (removes.read_refused name refusals.Memory store store (read_none store))
    (removes.read_beside name refusals.Memory store store (learns-none AnyPast store)) (removes.read_keeps name refusals.Memory store store (reads_none store))

compacted_none : (start : Start) (full : Bool) (out : SinkView) (store : StoreView)
    → compact.IsCompacted start full out out store store (Some refusals.Memory)
compacted_none start full out store =
    compacts.refused_compacted start full refusals.Memory out store store (compacts.read_refused start full refusals.Memory store store (read_none store))
    (compacts.read_keeps start full refusals.Memory store store (reads_none store))

expired_none : (start : Start) (asked : KeepAsked) (out : SinkView) (store : StoreView)
    → expire.IsTableExpired start asked out out store store (Some refusals.Memory)
expired_none start asked out store =
    expires.refused_expired start asked refusals.Memory out store store (expires.read_refused start asked refusals.Memory store store (read_none store))
    (expires.read_beside refusals.Memory store store (read_none store) (learns-none AnyPast store)) (expires.read_keeps start asked refusals.Memory store store (reads_none store))

followed_none : (from : Option ℕ) (full : Bool) (out : SinkView) (store : StoreView)
    → follow.IsFollowed from full out out store store (Some refusals.Memory)
followed_none from full out store =
    let none = read_none store in
    ((none.0, follow.refused_first refusals.Memory (follow.of_schema (follow.of_reader none.1)) refl, none.2), follow.refuses refusals.Memory refl (learns-none AnyPast store))

schema_none : (store : StoreView) → HasTrace (DidSchema (Err refusals.Memory)) store store
schema_none store = let none = read_none store in (none.0, follow.of_reader none.1, none.2)

consumed_none : (from : Option ℕ) (name : List ℕ) (full : Bool) (out : SinkView) (store : StoreView)
    → HasConsumed (consuming name from full) out out store store (Some refusals.Memory)
consumed_none from name full out store = schema_shown (consuming name from full) refusals.Memory out store store (schema_none store)

generated_none : (d : Drawing) (start : Start) (out : SinkView) (store : StoreView) → Generates d start out out store store (Some refusals.Memory)
generated_none d start out store = ([], Some refusals.Memory, out_of_memory (commands_of d) 0 store, (refl, refl))

-- what the law of changes says, and that of a following with a consumer
abbrev pub PastStays : Type 0
PastStays = (me : Actor) (f after : Files) (p q : Past) → Stands f p → Advances me f p after q → Stands after q

abbrev pub ConsumeLaw : Type 0
ConsumeLaw = (c : Consuming) (out out_after : SinkView) (store store_after : StoreView) (answer : Option Refusal) → IsConsuming c
    → HasConsumed c out out_after store store_after answer → ConsumesAny c out out_after store store_after answer

-- what the law of `follow` says
abbrev pub FollowLaw : Type 0
FollowLaw = (from : Option ℕ) (full : Bool) (out out_after : SinkView) (store store_after : StoreView) (answer : Option Refusal)
    → follow.IsFollowed from full out out_after store store_after answer → follow.FollowsAny from full out out_after store store_after answer

any_bytes : (left : Option (List ℕ)) → IfSome left (λ bytes. Unit {0})
any_bytes None = tt
any_bytes (Some bytes) = tt

module _ (start : Start) (input : SourceView) (out : SinkView) (store : StoreView) where
  pub nothing_answers : PastStays → (command : Command) → Answers command start (outside input out store) (outside input out store) (Some refusals.Memory)
  nothing_answers past commands.Create = λ bytes is. inl (refusals.Memory, refl, tt, record { store = refl; out = refl })
  nothing_answers past (commands.Write user identifier) = λ bytes is. input_refused start (writer_of user identifier) bytes input input out store refusals.Memory tt
  nothing_answers past (commands.Scan at) =
      (refl, scans.scanned_answers at (outside input out store) (outside input out store) (Some refusals.Memory) (scanned_none at out store))
  nothing_answers past commands.Snapshots =
      (refl, lists.listed_answers (outside input out store) (outside input out store) (Some refusals.Memory) (listed_none out store))
  nothing_answers past (commands.Consumers (Some name)) =
      (refl, removes.removed_answers name (outside input out store) (outside input out store) (Some refusals.Memory) (removed_none name out store))
  nothing_answers past (commands.Consumers None) =
      (refl, reads.listed_answers (outside input out store) (outside input out store) (Some refusals.Memory) (read_of_none out store))
  nothing_answers past (commands.Follow from None full) = (refl, followed_none from full out store)
  nothing_answers past (commands.Follow from (Some name) full) =
      (refl, (consumed_none from name full out store, λ me. schema_refused me (consuming name from full) refusals.Memory out store store (learns-none AnyPast store)))
  nothing_answers past (commands.Generate batches rows seed) = (refl, generated_none (drawing batches rows seed) start out store)
  nothing_answers past (commands.Compact full) =
      (refl, compacts.compacted_answers start full (outside input out store) (outside input out store) (Some refusals.Memory) (compacted_none start full out store))
  nothing_answers past (commands.Expire min max millis) = (
    refl,
    expires.expired_answers start (keep_asked min max millis) (outside input out store) (outside input out store) (Some refusals.Memory)
        (expired_none start (keep_asked min max millis) out store),
  )

  pub nothing_acts : PastStays → (command : Command) → Acts command start (outside input out store) (outside input out store) (Some refusals.Memory)
  nothing_acts past commands.Create = inl (refusals.Memory, refl, tt, record { store = refl; out = refl })
  nothing_acts past (commands.Write user identifier) = input_acts start (writer_of user identifier) input input out store refusals.Memory tt
  nothing_acts past (commands.Scan at) =
      scans.scanned_answers at (outside input out store) (outside input out store) (Some refusals.Memory) (scanned_none at out store)
  nothing_acts past commands.Snapshots = lists.listed_answers (outside input out store) (outside input out store) (Some refusals.Memory) (listed_none out store)
  nothing_acts past (commands.Consumers (Some name)) =
      removes.removed_answers name (outside input out store) (outside input out store) (Some refusals.Memory) (removed_none name out store)
  nothing_acts past (commands.Consumers None) = reads.listed_answers (outside input out store) (outside input out store) (Some refusals.Memory) (read_of_none out store)
  nothing_acts past (commands.Follow from None full) = followed_none from full out store
  nothing_acts past (commands.Follow from (Some name) full) =
      (consumed_none from name full out store, λ me. schema_refused me (consuming name from full) refusals.Memory out store store (learns-none AnyPast store))
  nothing_acts past (commands.Generate batches rows seed) = generated_none (drawing batches rows seed) start out store
  nothing_acts past (commands.Compact full) =
      compacts.compacted_answers start full (outside input out store) (outside input out store) (Some refusals.Memory) (compacted_none start full out store)
  nothing_acts past (commands.Expire min max millis) =
      expires.expired_answers start (keep_asked min max millis) (outside input out store) (outside input out store) (Some refusals.Memory)
      (expired_none start (keep_asked min max millis) out store)

  pub nothing_serves : FollowLaw → ConsumeLaw → (command : Command) → IsInRange command → ServesHistories command start (outside input out store) (outside input out store) (Some refusals.Memory)
  nothing_serves law consume commands.Create range = nothing_made start input out store
  nothing_serves law consume (commands.Write user identifier) range =
      refused_serves start (writer_of user identifier) input input out store refusals.Memory (any_bytes input.left)
  nothing_serves law consume (commands.Scan at) range =
      scans.scanned_serves at (outside input out store) (outside input out store) (Some refusals.Memory) (scanned_none at out store)
  nothing_serves law consume commands.Snapshots range = lists.listed_serves (outside input out store) (outside input out store) (Some refusals.Memory) (listed_none out store)
  nothing_serves law consume (commands.Consumers (Some name)) range =
      removes.removed_serves name (outside input out store) (outside input out store) (Some refusals.Memory) (removed_none name out store)
  nothing_serves law consume (commands.Consumers None) range = reads.listed_serves (outside input out store) (outside input out store) (Some refusals.Memory) (read_of_none out store)
  nothing_serves law consume (commands.Follow from None full) range =
      law from full out out store store (Some refusals.Memory) (followed_none from full out store)
  nothing_serves law consume (commands.Follow from (Some name) full) (first, named) =
      consume (consuming name from full) out out store store (Some refusals.Memory) (record { plain = name_is_plain name named; from = first })
      (consumed_none from name full out store)
  nothing_serves law consume (commands.Generate batches rows seed) range = generated_none (drawing batches rows seed) start out store
  nothing_serves law consume (commands.Compact full) range =
      compacts.compacted_serves start full (outside input out store) (outside input out store) (Some refusals.Memory) (compacted_none start full out store)
  nothing_serves law consume (commands.Expire min max millis) range =
      expires.expired_serves start (keep_asked min max millis) (outside input out store) (outside input out store) (Some refusals.Memory)
      (expired_none start (keep_asked min max millis) out store)
