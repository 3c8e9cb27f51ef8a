-- Private: the pieces of a following with a consumer, each in turn: how it opens, and how its frames are handed out;
-- and what each brings to any past, whatever others do.
use Rattle.std.specs.Prelude.{◌≡◌, ◌⊎◌, ℕ, ◌<◌, ◌≤◌, List, [], ◌∷◌, ◌++◌, length, Bool, false}
use Rattle.std.specs.Prelude.{Option, None, Some, Result, Ok, Err}
use Rattle.pm_base.specs.Known.{and_then}
use Rattle.pm_values.specs.declared.refusal.Refusal.{Refusal}
use Rattle.pm_values.specs.declared.refusal.Refusal.TheVariants as refusals
use Rattle.pm_io.specs.Sink.{SinkLater, SinkView, TookPrefix}
use Rattle.pm_store.specs.Files.{Files}
use Rattle.pm_store.specs.Store.{StoreView}
use Rattle.pm_machine.specs.Trace.{Event, HasTrace}
use Rattle.pm_schema.specs.declared.schema.TableSchema.{TableSchema}
use Rattle.pm_snapshot.specs.Consumer.{consumer_in}
use Rattle.pm_model_history.specs.History.{History, IsTableOf}
use Rattle.pm_model_folder.specs.Changes.{Actor, HavePlainNames}
use Rattle.pm_model_folder.specs.Ledger.{Past, count_of}
use Rattle.pm_beside.specs.Bringing.{BringsBeside}
use Rattle.pm_read_schema.specs.Beside.{AnyPast}
use Rattle.pm_register.specs.AllCalls.{DidRegister}
use Rattle.pm_register.specs.Meaning.{IsWithin, Registers}
use Rattle.pm_register.specs.Registrar.{Registering, consumer_at, known_text}
use Rattle.pm_move_consumer.specs.MoverAllCalls.{DidMove}
use Rattle.pm_read_frame.specs.AllCalls.{DidFrame}
use Rattle.pm_read_frame.specs.Frames.{AreFramesFrom, IsFrameOf, joined}
use Rattle.pm_command_follow.specs.Follow.{Then, Took}
use Rattle.pm_command_follow.specs.Pieces.{FailsIn, IsStarting}
use Rattle.pm_command_follow.specs.Printed.{count_from}
use Rattle.pm_command_consume.specs.Beside.{ConsumesBeside, IsToldTo, Steps, StepsOf, StepsStill}
use Rattle.pm_command_consume.specs.Consume.{HandsOne, HandsOut, HasConsumed, Opens, moving_from, place_at}
use Rattle.pm_command_consume.specs.declared.consuming.Consuming.{Consuming}
use Rattle.pm_command_consume.specs.declared.place.Place.{Place}

-- a place is one after the origin, and its bytes say that the consumer is settled there
pub record IsPlace (p : Place) : Type 0 where
  pub after_origin : 1 ≤ p.next
  pub reads : consumer_in p.bytes ≡ Ok (consumer_at p.next false)

-- ---- its calls

-- The opening: at this place, behind the text that was printed; or what the calls came to that were refused, or in
-- whose text the sink failed.
abbrev pub Opened : TableSchema → Consuming → StoreView → SinkView → SinkView → StoreView → Result Place Refusal
    → Type 0
Opened s c first out out_after store_after (Ok p) = (full : Bool) × (text : List ℕ)
    × HasTrace (Opens s c p full text) first store_after × Took full 0 text out out_after
Opened s c first out out_after store_after (Err e) = HasConsumed c out out_after first store_after (Some e)

-- the calls of a registering, by the place that the consumer has then
abbrev pub DidJoin : Registering → Result Place Refusal → List Event → Type 0
DidJoin r (Ok p) own = DidRegister r (Ok tt) own × (p ≡ record { next = r.next; bytes = known_text r.next })
DidJoin r (Err e) own = DidRegister r (Err e) own

-- A frame was handed out, and the consumer is at the next place. Or the sink failed in it, and no call came any more;
-- or reading it was refused, and nothing printed; or it was printed, and the move was refused.
abbrev pub HandsPiece : TableSchema → Consuming → Place → SinkView → SinkView → StoreView → StoreView
    → Result Place Refusal → Type 0
HandsPiece s c p out out_after store store_after (Ok later) = (frame : List ℕ)
    × HasTrace (HandsOne s c p frame) store store_after × (out_after.taken ≡ and_then out.taken frame)
    × (later ≡ place_at p 1)
HandsPiece s c p out out_after store store_after (Err e) =
    ((frame : List ℕ) × HasTrace (DidFrame s p.next (Ok frame)) store store_after × FailsIn frame out out_after e)
    ⊎ ((HasTrace (DidFrame s p.next (Err e)) store store_after × (out_after ≡ out))
    ⊎ ((frame : List ℕ)
    × HasTrace (Then (DidFrame s p.next (Ok frame)) (DidMove (moving_from c p) (Err e))) store store_after
    × (out_after.taken ≡ and_then out.taken frame)))

-- so many were handed out from the place on
abbrev pub HasHandedOut : TableSchema → Consuming → Place → ℕ → SinkView → SinkView → StoreView → StoreView → Type 0
HasHandedOut s c p count out out_after store store_after = (text : List ℕ)
    × HasTrace (HandsOut s c p count text) store store_after × Took false count text out out_after

-- all up to the latest snapshot, or those up to one at which the sink failed or a refusal came
abbrev pub HandsFrames : TableSchema → Consuming → Place → ℕ → SinkView → SinkView → StoreView → StoreView
    → Option Refusal → Type 0
HandsFrames s c p latest out out_after store store_after None =
    HasHandedOut s c p (count_from p.next latest) out out_after store store_after
HandsFrames s c p latest out out_after store store_after (Some e) = (count : ℕ) × (count < count_from p.next latest)
    × ((middle : SinkView) × (between : StoreView) × HasHandedOut s c p count out middle store between
    × SinkLater middle out_after × HandsPiece s c (place_at p count) middle out_after between store_after (Err e))

-- ---- whatever others do

-- it opened and this was printed, which is the starting table where that is asked for; and no call of it was a move
abbrev pub HasOpened : Actor → TableSchema → Consuming → Place → Bool → List ℕ → SinkView → SinkView → StoreView
    → StoreView → Type 0
HasOpened me s c p full text out out_after store store_after = (out_after.taken ≡ and_then out.taken text)
    × BringsBeside me (StepsStill me c) AnyPast (λ f q. IsStarting s full p.next text q) store store_after

abbrev pub OpenedBeside : Actor → TableSchema → Consuming → StoreView → SinkView → SinkView → StoreView
    → Result Place Refusal → Type 0
OpenedBeside me s c first out out_after store_after (Ok p) = (full : Bool)
    × ((table : List ℕ) × HasTrace (Opens s c p full table) first store_after)
    × ((text : List ℕ) × HasOpened me s c p full text out out_after first store_after)
OpenedBeside me s c first out out_after store_after (Err e) =
    ConsumesBeside me c out out_after first store_after (Some e)

-- what a registering brings, by whatever it is answered
abbrev pub JoinsBeside : Actor → Registering → StoreView → StoreView → Type 0
JoinsBeside me r store store_after =
    BringsBeside me (Registers me r) (λ f q. IsWithin r q) (λ f q. IsWithin r q) store store_after

-- the table has this schema, whose names are plain, and the snapshots up to one that was listed as the latest
pub record IsListed (s : TableSchema) (latest : ℕ) (h : History) : Type 0 where
  pub is : IsTableOf s h
  pub plain : HavePlainNames s
  pub within : latest ≤ count_of h

-- what one frame brings
abbrev pub BringsFrame : Actor → TableSchema → Consuming → ℕ → List ℕ → StoreView → StoreView → Type 0
BringsFrame me s c id frame store store_after = BringsBeside me (StepsOf me c id frame)
    (λ f q. IsListed s id q.history) (λ f q. IsFrameOf q.history id frame) store store_after

-- and calls none of which is a move
abbrev pub BringsNoMove : Actor → TableSchema → Consuming → ℕ → (Files → Past → Type 0) → StoreView → StoreView → Type 0
BringsNoMove me s c id knows store store_after = BringsBeside me (StepsStill me c)
    (λ f q. IsListed s id q.history) knows store store_after

-- A frame was handed out, which is that of the history, and the move was past it; or it was printed, and the move was
-- refused, which tells nothing; or the sink failed in it, or reading it was refused, and no move came.
abbrev pub HandsBeside : Actor → TableSchema → Consuming → Place → SinkView → SinkView → StoreView → StoreView
    → Result Place Refusal → Type 0
HandsBeside me s c p out out_after store store_after (Ok later) = (frame : List ℕ)
    × (out_after.taken ≡ and_then out.taken frame) × BringsFrame me s c p.next frame store store_after
HandsBeside me s c p out out_after store store_after (Err e) =
    ((frame : List ℕ) × (out_after.taken ≡ and_then out.taken frame)
    × BringsFrame me s c p.next frame store store_after × ((f : Files) (q : Past) → IsToldTo c e f q))
    ⊎ (((frame : List ℕ) × (e ≡ refusals.SinkFault None) × TookPrefix out.taken out_after.taken frame
    × BringsNoMove me s c p.next (λ f q. IsFrameOf q.history p.next frame) store store_after)
    ⊎ ((out_after ≡ out) × BringsNoMove me s c p.next (IsToldTo c e) store store_after))

-- each call is a change of the actor's own kinds, and a move one past one of these texts; and those are frames of the
-- history from the start on
abbrev pub BringsFrames : Actor → TableSchema → Consuming → ℕ → ℕ → List (List ℕ) → List (List ℕ) → StoreView
    → StoreView → Type 0
BringsFrames me s c start latest moved frames store store_after = BringsBeside me (Steps me c start moved)
    (λ f q. IsListed s latest q.history) (λ f q. IsListed s latest q.history × AreFramesFrom q.history start frames)
    store store_after

-- so many were handed out, of which this is known
abbrev pub HasBrought : Actor → TableSchema → Consuming → ℕ → ℕ → ℕ → SinkView → SinkView → StoreView → StoreView
    → Type 0
HasBrought me s c start latest count out out_after store store_after = (frames : List (List ℕ))
    × (length frames ≡ count) × (out_after.taken ≡ and_then out.taken (joined frames))
    × BringsFrames me s c start latest frames frames store store_after

-- All up to the latest were handed out; or these were printed, and then a call was refused, and why; or these were
-- handed out, and the sink failed in the next.
abbrev pub FramesBeside : Actor → TableSchema → Consuming → Place → ℕ → SinkView → SinkView → StoreView → StoreView
    → Option Refusal → Type 0
FramesBeside me s c p latest out out_after store store_after None =
    HasBrought me s c p.next latest (count_from p.next latest) out out_after store store_after
FramesBeside me s c p latest out out_after store store_after (Some e) = (frames : List (List ℕ))
    × (((out_after.taken ≡ and_then out.taken (joined frames))
    × BringsFrames me s c p.next latest frames frames store store_after
    × BringsBeside me (Steps me c p.next frames) (λ f q. IsListed s latest q.history) (IsToldTo c e) store store_after)
    ⊎ ((last : List ℕ) × (e ≡ refusals.SinkFault None)
    × TookPrefix (and_then out.taken (joined frames)) out_after.taken last
    × BringsFrames me s c p.next latest frames (frames ++ last ∷ []) store store_after))
