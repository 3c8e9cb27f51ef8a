-- How the pieces of what `follow` prints are read and printed, each in turn; and what is known of them.
use Rattle.std.specs.Prelude.{◌≡◌, ◌⊎◌, ℕ, ◌+◌, ◌-◌, ◌<◌, ◌≤◌, List, length, Bool, true, false}
use Rattle.std.specs.Prelude.{Option, None, Some, Result, Ok, Err}
use Rattle.pm_base.specs.Known.{and_then}
use Rattle.pm_values.specs.declared.refusal.Refusal.{Refusal}
use Rattle.pm_values.specs.declared.refusal.Refusal.TheVariants as refusals
use Rattle.pm_io.specs.Sink.{SinkView, SinkFailed, TookPrefix}
use Rattle.pm_store.specs.Files.{Files}
use Rattle.pm_store.specs.Store.{StoreView}
use Rattle.pm_machine.specs.Trace.{Event, HasTrace}
use Rattle.pm_schema.specs.declared.schema.TableSchema.{TableSchema}
use Rattle.pm_snapshot.specs.Names.{greatest}
use Rattle.pm_model_history.specs.History.{IsTableOf}
use Rattle.pm_model_folder.specs.Ledger.{Past, count_of}
use Rattle.pm_read_schema.specs.Beside.{AnyPast, IsTold, Learns}
use Rattle.pm_read_frame.specs.AllCalls.{DidFrame}
use Rattle.pm_read_frame.specs.Frames.{AreFramesFrom, joined}
use Rattle.pm_read_frame.specs.Meaning.{IsFrame}
use Rattle.pm_command_follow.specs.Beside.{IsStartOf}
use Rattle.pm_command_follow.specs.Follow.{DidTable, ReadsFrames, Took}
use Rattle.pm_command_follow.specs.Printed.{count_from}

-- the sink failed in this text
abbrev pub FailsIn : List ℕ → SinkView → SinkView → Refusal → Type 0
FailsIn text before after e =
    (e ≡ refusals.SinkFault None) × SinkFailed before after × TookPrefix before.taken after.taken text

-- Calls with an answer of one piece, which was printed where they made it.
abbrev pub PrintsPiece : (Result (List ℕ) Refusal → List Event → Type 0) → SinkView → SinkView → StoreView → StoreView
    → Option Refusal → Type 0
PrintsPiece did out out_after store store_after None = (text : List ℕ) × HasTrace (did (Ok text)) store store_after
    × (out_after.taken ≡ and_then out.taken text)
PrintsPiece did out out_after store store_after (Some e) =
    ((text : List ℕ) × HasTrace (did (Ok text)) store store_after × FailsIn text out out_after e)
    ⊎ (HasTrace (did (Err e)) store store_after × (out_after ≡ out))

-- the starting table
abbrev pub PrintsStart : TableSchema → ℕ → SinkView → SinkView → StoreView → StoreView → Option Refusal → Type 0
PrintsStart s start = PrintsPiece (DidTable s start)

-- the frame of a snapshot
abbrev pub PrintsFrame : TableSchema → ℕ → SinkView → SinkView → StoreView → StoreView → Option Refusal → Type 0
PrintsFrame s id = PrintsPiece (DidFrame s id)

-- Private: so many frames were read and printed
abbrev pub HasPrinted : TableSchema → ℕ → ℕ → SinkView → SinkView → StoreView → StoreView → Type 0
HasPrinted s start count out out_after store store_after = (text : List ℕ)
    × HasTrace (ReadsFrames s start count text) store store_after × Took false count text out out_after

-- Private: the frames from the start to the latest snapshot, or up to one at which the sink failed or a refusal came
abbrev pub PrintsFrames : TableSchema → ℕ → ℕ → SinkView → SinkView → StoreView → StoreView → Option Refusal → Type 0
PrintsFrames s start latest out out_after store store_after None =
    HasPrinted s start (count_from start latest) out out_after store store_after
PrintsFrames s start latest out out_after store store_after (Some e) = (count : ℕ) × (count < count_from start latest)
    × ((middle : SinkView) × (between : StoreView) × HasPrinted s start count out middle store between
    × PrintsFrame s (start + count) middle out_after between store_after (Some e))

-- ---- whatever others do before, between and after these calls

-- the table has this schema
abbrev pub LearnsTable : TableSchema → StoreView → StoreView → Type 0
LearnsTable s = Learns AnyPast (λ f p. IsTableOf s p.history)

-- and the text is that of the starting table, where it is asked for
abbrev pub IsStarting : TableSchema → Bool → ℕ → List ℕ → Past → Type 0
IsStarting s full start text p = IsTableOf s p.history × IsStartOf p.history full start text

-- the text that was read is that of the starting table
abbrev pub LearnsStart : TableSchema → ℕ → List ℕ → StoreView → StoreView → Type 0
LearnsStart s start text = Learns (λ f p. IsTableOf s p.history) (λ f p. IsStarting s true start text p)

-- the table has this schema, and the snapshot was committed
abbrev pub IsCommittedOf : TableSchema → ℕ → Files → Past → Type 0
IsCommittedOf s id f p = IsTableOf s p.history × (id ≤ greatest) × (id ≤ count_of p.history)

-- the text that was read is the frame of that snapshot
abbrev pub LearnsFrame : TableSchema → ℕ → List ℕ → StoreView → StoreView → Type 0
LearnsFrame s id text = Learns (IsCommittedOf s id) (λ f p. IsFrame p id text)

-- or it wasn't read, and the refusal tells what is so
abbrev pub RefusesFrame : TableSchema → ℕ → Refusal → StoreView → StoreView → Type 0
RefusesFrame s id e = Learns (IsCommittedOf s id) (IsTold e)

-- The text of a piece was printed, of which this is known; or the sink failed in it; or the calls for it were refused
-- so, and nothing was printed.
abbrev pub PieceBeside : (List ℕ → StoreView → StoreView → Type 0) → (Refusal → StoreView → StoreView → Type 0)
    → SinkView → SinkView → StoreView → StoreView → Option Refusal → Type 0
PieceBeside learns refused out out_after store store_after None =
    (text : List ℕ) × learns text store store_after × (out_after.taken ≡ and_then out.taken text)
PieceBeside learns refused out out_after store store_after (Some e) =
    ((text : List ℕ) × learns text store store_after × FailsIn text out out_after e)
    ⊎ ((out_after ≡ out) × refused e store store_after)

-- Private: the table has this schema, and the snapshots up to one that was listed as the latest
abbrev pub IsListed : TableSchema → ℕ → Past → Type 0
IsListed s latest p = IsTableOf s p.history × (latest ≤ count_of p.history)

-- Private: then these texts, one after another, are frames of the history from the start on
abbrev pub LearnsFrames : TableSchema → ℕ → ℕ → List (List ℕ) → StoreView → StoreView → Type 0
LearnsFrames s start latest frames = Learns (λ f p. IsListed s latest p)
    (λ f p. IsListed s latest p × AreFramesFrom p.history start frames)

-- Private: so many were printed, of which this is known
abbrev pub HasLearned : TableSchema → ℕ → ℕ → ℕ → SinkView → SinkView → StoreView → StoreView → Type 0
HasLearned s start latest count out out_after store store_after = (frames : List (List ℕ)) × (length frames ≡ count)
    × LearnsFrames s start latest frames store store_after × (out_after.taken ≡ and_then out.taken (joined frames))

-- Private: the snapshot below the start was committed, or is the origin
abbrev pub LearnsBelow : TableSchema → ℕ → StoreView → StoreView → Type 0
LearnsBelow s start = Learns AnyPast (λ f p. IsListed s (start - 1) p)

-- Private: all up to the latest were; or the sink failed; or those were that had been read before a refusal, which
-- tells what is so
abbrev pub FramesBeside : TableSchema → ℕ → ℕ → SinkView → SinkView → StoreView → StoreView → Option Refusal → Type 0
FramesBeside s start latest out out_after store store_after None =
    HasLearned s start latest (count_from start latest) out out_after store store_after
FramesBeside s start latest out out_after store store_after (Some e) = (frames : List (List ℕ))
    × LearnsFrames s start latest frames store store_after
    × (((e ≡ refusals.SinkFault None) × TookPrefix out.taken out_after.taken (joined frames))
    ⊎ ((out_after.taken ≡ and_then out.taken (joined frames))
    × Learns (λ f p. IsListed s latest p) (IsTold e) store store_after))

-- Private: the starting table was printed, where it is asked for, and is known
abbrev pub HasBegun : TableSchema → Bool → ℕ → SinkView → SinkView → StoreView → StoreView → Type 0
HasBegun s full start out out_after store store_after = (text : List ℕ)
    × Learns AnyPast (λ f p. IsStarting s full start text p) store store_after
    × (out_after.taken ≡ and_then out.taken text)
