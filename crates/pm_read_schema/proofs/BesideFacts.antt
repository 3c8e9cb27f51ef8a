-- What calls of readers make known, one step after another.
use Rattle.std.proofs.Common.{[]}
use Rattle.pm_store.specs.Files.{Files}
use Rattle.pm_store.specs.Store.{StoreView}
use Rattle.pm_machine.specs.Moves.{IsKept, Moves}
use Rattle.pm_machine.proofs.BesideLaws.{carries-moves, carries-none, carries-then, carries-weaker}
use Rattle.pm_model_folder.specs.Changes.{Actor}
use Rattle.pm_model_folder.specs.Ledger.{Advances, Past, Stands}
use Rattle.pm_read_schema.specs.Beside.{Learns, OthersAdvance}
use Rattle.pm_read_schema.proofs.Facts.{kept_nothing}

-- what the law on pasts says
abbrev pub PastStays : Type 0
PastStays = (me : Actor) (f after : Files) (p q : Past) → Stands f p → Advances me f p after q → Stands after q

-- each kind of change of every actor keeps this
abbrev pub IsKeptByAll : (Files → Past → Type 0) → Type 0
IsKeptByAll knew = (other : Actor) (f after : Files) (p q : Past) → Stands f p → Advances other f p after q → knew f p → knew after q

-- an actor that does nothing
nobody : Actor
nobody = record { session = []; number = 0 }

pub learns-none : (knows : Files → Past → Type 0) (store : StoreView) → Learns knows knows store store
learns-none knows store = carries-none Stands OthersAdvance knows store

pub learns-weaker : (knew had has knows : Files → Past → Type 0) (before after : StoreView) → ((f : Files) (p : Past) → knew f p → had f p)
    → ((f : Files) (p : Past) → Stands f p → has f p → knows f p) → Learns had has before after → Learns knew knows before after
learns-weaker = carries-weaker Stands OthersAdvance

pub learns-then : (knew had knows : Files → Past → Type 0) (first middle after : StoreView) → Learns knew had first middle → Learns had knows middle after
    → Learns knew knows first after
learns-then = carries-then Stands OthersAdvance

-- a step more of a reader
pub learns-moves : PastStays → (knew had knows : Files → Past → Type 0) (first before after : StoreView) → IsKeptByAll had
    → Learns knew had first before → Moves Stands IsKept had knows before after → Learns knew knows first after
learns-moves past knew had knows first before after all learned moves =
    learns-then knew had knows first before after learned
    (carries-moves Stands OthersAdvance had
    (λ f changed p q stands known others. (past others.0 f changed p q stands others.1, all others.0 f changed p q stands others.1 known))
    knows before after (λ f changed p q stands kept. past nobody f changed p q stands (kept_nothing nobody f changed p q kept)) moves)
