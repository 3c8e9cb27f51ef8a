use Rattle.std.proofs.Common.{ℕ, ◌≤◌, Option, None, Some, IfSome, refl}
use Rattle.std.specs.Result.{result_err}
use Rattle.pm_words.specs.Words.{IsRetained}
use Rattle.pm_command.specs.Outside.{outside}
use Rattle.pm_command_compact.proofs.CompactLaws.{compacted_answers, compacted_serves}
use Rattle.pm_command_expire.proofs.ExpireLaws.{expired_answers, expired_serves}
use Rattle.pm_command_scan.proofs.ScanLaws.{scanned_serves}
use Rattle.pm_command_snapshots.proofs.SnapshotLaws.{listed_answers, listed_serves}
use Rattle.pm_cli.specs.Commands.{keep_asked}
use Rattle.pm_cli.proofs.ListOrDrop.{answers_of, serves_of}
use Rattle.pm_cli.proofs.execute.execute_command.Goals as goal

pub returns-in-Create-clause-command : goal.returns-in-Create-clause-command
returns-in-Create-clause-command g c = rw c.in-Create.is c.run_create.ensures.command

pub returns-in-Create-clause-acts : goal.returns-in-Create-clause-acts
returns-in-Create-clause-acts g c = rw c.in-Create.is c.run_create.ensures.acts

pub returns-in-Create-clause-history : goal.returns-in-Create-clause-history
returns-in-Create-clause-history g c = rw c.in-Create.is c.run_create.ensures.history

pub returns-in-Scan-clause-history : goal.returns-in-Scan-clause-history
returns-in-Scan-clause-history g c =
    rw c.in-Scan.is
    (scanned_serves c.in-Scan.snapshot (outside (g.S.Source.seen c.args.input.now) (g.W.Sink.seen c.args.out.now) (g.F.FileStore.seen c.args.store.now))
    (outside (g.S.Source.seen c.args.input.now) (g.W.Sink.seen c.run_scan.new.out) (g.F.FileStore.seen c.run_scan.new.store))
    (result_err c.run_scan.result) c.run_scan.ensures.scanned)

pub returns-in-Snapshots-clause-command : goal.returns-in-Snapshots-clause-command
returns-in-Snapshots-clause-command g c =
    rw c.in-Snapshots.is (
      refl,
      listed_answers (outside (g.S.Source.seen c.args.input.now) (g.W.Sink.seen c.args.out.now) (g.F.FileStore.seen c.args.store.now))
          (outside (g.S.Source.seen c.args.input.now) (g.W.Sink.seen c.run_snapshots.new.out) (g.F.FileStore.seen c.run_snapshots.new.store))
          (result_err c.run_snapshots.result) c.run_snapshots.ensures.listed,
    )

pub returns-in-Snapshots-clause-acts : goal.returns-in-Snapshots-clause-acts
returns-in-Snapshots-clause-acts g c =
    rw c.in-Snapshots.is
    (listed_answers (outside (g.S.Source.seen c.args.input.now) (g.W.Sink.seen c.args.out.now) (g.F.FileStore.seen c.args.store.now))
    (outside (g.S.Source.seen c.args.input.now) (g.W.Sink.seen c.run_snapshots.new.out) (g.F.FileStore.seen c.run_snapshots.new.store))
    (result_err c.run_snapshots.result) c.run_snapshots.ensures.listed)

pub returns-in-Snapshots-clause-history : goal.returns-in-Snapshots-clause-history
returns-in-Snapshots-clause-history g c =
    rw c.in-Snapshots.is
    (listed_serves (outside (g.S.Source.seen c.args.input.now) (g.W.Sink.seen c.args.out.now) (g.F.FileStore.seen c.args.store.now))
    (outside (g.S.Source.seen c.args.input.now) (g.W.Sink.seen c.run_snapshots.new.out) (g.F.FileStore.seen c.run_snapshots.new.store))
    (result_err c.run_snapshots.result) c.run_snapshots.ensures.listed)

pub list_or_drop-requires : goal.list_or_drop-requires
list_or_drop-requires g c = rw c.in-Consumers.is at c.requires

pub returns-in-Consumers-clause-command : goal.returns-in-Consumers-clause-command
returns-in-Consumers-clause-command g c =
    rw c.in-Consumers.is (
      refl,
      answers_of c.in-Consumers.dropped (outside (g.S.Source.seen c.args.input.now) (g.W.Sink.seen c.args.out.now) (g.F.FileStore.seen c.args.store.now))
          (outside (g.S.Source.seen c.args.input.now) (g.W.Sink.seen c.list_or_drop.new.out) (g.F.FileStore.seen c.list_or_drop.new.store))
          (result_err c.list_or_drop.result) c.list_or_drop.ensures.done,
    )

pub returns-in-Consumers-clause-acts : goal.returns-in-Consumers-clause-acts
returns-in-Consumers-clause-acts g c =
    rw c.in-Consumers.is
    (answers_of c.in-Consumers.dropped (outside (g.S.Source.seen c.args.input.now) (g.W.Sink.seen c.args.out.now) (g.F.FileStore.seen c.args.store.now))
    (outside (g.S.Source.seen c.args.input.now) (g.W.Sink.seen c.list_or_drop.new.out) (g.F.FileStore.seen c.list_or_drop.new.store))
    (result_err c.list_or_drop.result) c.list_or_drop.ensures.done)

pub returns-in-Consumers-clause-history : goal.returns-in-Consumers-clause-history
returns-in-Consumers-clause-history g c =
    rw c.in-Consumers.is
    (serves_of c.in-Consumers.dropped (outside (g.S.Source.seen c.args.input.now) (g.W.Sink.seen c.args.out.now) (g.F.FileStore.seen c.args.store.now))
    (outside (g.S.Source.seen c.args.input.now) (g.W.Sink.seen c.list_or_drop.new.out) (g.F.FileStore.seen c.list_or_drop.new.store))
    (result_err c.list_or_drop.result) c.list_or_drop.ensures.done)

pub returns-in-Compact-clause-command : goal.returns-in-Compact-clause-command
returns-in-Compact-clause-command g c =
    rw c.in-Compact.is (
      refl,
      compacted_answers c.args.start.now c.in-Compact.full
          (outside (g.S.Source.seen c.args.input.now) (g.W.Sink.seen c.args.out.now) (g.F.FileStore.seen c.args.store.now))
          (outside (g.S.Source.seen c.args.input.now) (g.W.Sink.seen c.run_compact.new.out) (g.F.FileStore.seen c.run_compact.new.store))
          (result_err c.run_compact.result) c.run_compact.ensures.compacted,
    )

pub returns-in-Compact-clause-acts : goal.returns-in-Compact-clause-acts
returns-in-Compact-clause-acts g c =
    rw c.in-Compact.is
    (compacted_answers c.args.start.now c.in-Compact.full
    (outside (g.S.Source.seen c.args.input.now) (g.W.Sink.seen c.args.out.now) (g.F.FileStore.seen c.args.store.now))
    (outside (g.S.Source.seen c.args.input.now) (g.W.Sink.seen c.run_compact.new.out) (g.F.FileStore.seen c.run_compact.new.store))
    (result_err c.run_compact.result) c.run_compact.ensures.compacted)

pub returns-in-Compact-clause-history : goal.returns-in-Compact-clause-history
returns-in-Compact-clause-history g c =
    rw c.in-Compact.is
    (compacted_serves c.args.start.now c.in-Compact.full
    (outside (g.S.Source.seen c.args.input.now) (g.W.Sink.seen c.args.out.now) (g.F.FileStore.seen c.args.store.now))
    (outside (g.S.Source.seen c.args.input.now) (g.W.Sink.seen c.run_compact.new.out) (g.F.FileStore.seen c.run_compact.new.store))
    (result_err c.run_compact.result) c.run_compact.ensures.compacted)

pub returns-in-Expire-clause-command : goal.returns-in-Expire-clause-command
returns-in-Expire-clause-command g c =
    rw c.in-Expire.is (
      refl,
      expired_answers c.args.start.now (keep_asked c.in-Expire.min c.in-Expire.max c.in-Expire.millis)
          (outside (g.S.Source.seen c.args.input.now) (g.W.Sink.seen c.args.out.now) (g.F.FileStore.seen c.args.store.now))
          (outside (g.S.Source.seen c.args.input.now) (g.W.Sink.seen c.run_expire.new.out) (g.F.FileStore.seen c.run_expire.new.store))
          (result_err c.run_expire.result) c.run_expire.ensures.expired,
    )

pub returns-in-Expire-clause-acts : goal.returns-in-Expire-clause-acts
returns-in-Expire-clause-acts g c =
    rw c.in-Expire.is
    (expired_answers c.args.start.now (keep_asked c.in-Expire.min c.in-Expire.max c.in-Expire.millis)
    (outside (g.S.Source.seen c.args.input.now) (g.W.Sink.seen c.args.out.now) (g.F.FileStore.seen c.args.store.now))
    (outside (g.S.Source.seen c.args.input.now) (g.W.Sink.seen c.run_expire.new.out) (g.F.FileStore.seen c.run_expire.new.store))
    (result_err c.run_expire.result) c.run_expire.ensures.expired)

pub returns-in-Expire-clause-history : goal.returns-in-Expire-clause-history
returns-in-Expire-clause-history g c =
    rw c.in-Expire.is
    (expired_serves c.args.start.now (keep_asked c.in-Expire.min c.in-Expire.max c.in-Expire.millis)
    (outside (g.S.Source.seen c.args.input.now) (g.W.Sink.seen c.args.out.now) (g.F.FileStore.seen c.args.store.now))
    (outside (g.S.Source.seen c.args.input.now) (g.W.Sink.seen c.run_expire.new.out) (g.F.FileStore.seen c.run_expire.new.store))
    (result_err c.run_expire.result) c.run_expire.ensures.expired)

-- a least number that is asked isn't 0
least_asked : (min : Option ℕ) → IsRetained min → IfSome min (λ n. 1 ≤ n)
least_asked None range = tt
least_asked (Some n) range = range.0

pub run_expire-requires : goal.run_expire-requires
run_expire-requires g c = let range = rw c.in-Expire.is at c.requires in record { some = least_asked c.in-Expire.min range.0 }

pub returns-in-Follow-clause-command : goal.returns-in-Follow-clause-command
returns-in-Follow-clause-command g c =
    let input = g.S.Source.seen c.args.input.now in
    rw c.in-Follow.is (refl, (c.follow_or_consume.ensures.done input input).0)

pub returns-in-Follow-clause-acts : goal.returns-in-Follow-clause-acts
returns-in-Follow-clause-acts g c =
    let input = g.S.Source.seen c.args.input.now in
    rw c.in-Follow.is (c.follow_or_consume.ensures.done input input).0

pub returns-in-Follow-clause-history : goal.returns-in-Follow-clause-history
returns-in-Follow-clause-history g c =
    let input = g.S.Source.seen c.args.input.now in
    rw c.in-Follow.is (c.follow_or_consume.ensures.done input input).1

pub run_generate-requires : goal.run_generate-requires
run_generate-requires g c = rw c.in-Generate.is at c.requires

pub returns-in-Generate-clause-command : goal.returns-in-Generate-clause-command
returns-in-Generate-clause-command g c = rw c.in-Generate.is (refl, c.run_generate.ensures.generated)

pub returns-in-Generate-clause-acts : goal.returns-in-Generate-clause-acts
returns-in-Generate-clause-acts g c = rw c.in-Generate.is c.run_generate.ensures.generated

pub returns-in-Generate-clause-history : goal.returns-in-Generate-clause-history
returns-in-Generate-clause-history g c = rw c.in-Generate.is c.run_generate.ensures.generated

pub returns-in-Write-clause-command : goal.returns-in-Write-clause-command
returns-in-Write-clause-command g c = rw c.in-Write.is c.run_write.ensures.command

pub returns-in-Write-clause-acts : goal.returns-in-Write-clause-acts
returns-in-Write-clause-acts g c = rw c.in-Write.is c.run_write.ensures.acts

pub returns-in-Write-clause-history : goal.returns-in-Write-clause-history
returns-in-Write-clause-history g c = rw c.in-Write.is c.run_write.ensures.history
