-- Snapshots that an expiry keeps, and what who reads them prints before it and after it.
use Rattle.std.specs.Prelude.{◌≡◌, ℕ, ◌-◌, ◌≤◌, List, Bool, true, false, Option, None, Some}
use Rattle.pm_base.specs.Known.{and_then}
use Rattle.pm_values.specs.declared.refusal.Refusal.{Refusal}
use Rattle.pm_values.specs.declared.refusal.Refusal.TheVariants as refusals
use Rattle.pm_io.specs.Sink.{TookPrefix}
use Rattle.pm_store.specs.Files.{Files}
use Rattle.pm_schema.specs.declared.schema.TableSchema.{TableSchema}
use Rattle.pm_expire_end.specs.declared.keep.KeepAsked.{KeepAsked}
use Rattle.pm_expire.specs.AllCalls.{IsEndIn}
use Rattle.pm_command.specs.declared.start.Start.{Start}
use Rattle.pm_command_expire.specs.Expire.{asked_by}
use Rattle.pm_cli.specs.Promise.{Execution}

-- the snapshot isn't below the end of an expiry of these files
abbrev pub IsKeptBy : Start → KeepAsked → TableSchema → ℕ → Files → Type 0
IsKeptBy start asked s id f = (end : ℕ) × IsEndIn (asked_by start asked s) f end × (end ≤ id)

-- the least snapshot that `follow --from` reads: with the starting table the one below its start
abbrev pub least_read : ℕ → Bool → ℕ
least_read from false = from
least_read from true = from - 1

-- It was refused, if it was, for what no expiry changes: as memory ran out, or for a fault of the store or of the sink.
abbrev pub IsForNoLoss : Option Refusal → Type 0
IsForNoLoss None = Unit {0}
IsForNoLoss (Some refusals.Memory) = Unit {0}
IsForNoLoss (Some (refusals.StoreFault path)) = Unit {0}
IsForNoLoss (Some (refusals.SinkFault snapshot)) = Unit {0}
IsForNoLoss (Some other) = ⊥

-- or, as whoever follows may be, of a table that tells no changes
abbrev pub IsForNoLossFollowed : Option Refusal → Type 0
IsForNoLossFollowed (Some refusals.NoChangelog) = Unit {0}
IsForNoLossFollowed other = IsForNoLoss other

-- A prefix of this text was printed, and with status 0 all of it; and it was refused, if it was, for such a cause.
pub record PrintsText (IsCause : Option Refusal → Type 0) (e : Execution) (text : List ℕ) : Type 0 where
  pub all : e.refusal ≡ None → e.after.out.taken ≡ and_then e.before.out.taken text
  pub part : TookPrefix e.before.out.taken e.after.out.taken text
  pub cause : IsCause e.refusal
