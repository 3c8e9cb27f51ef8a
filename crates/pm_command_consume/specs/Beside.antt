-- What `follow` with a consumer does whatever others do before, between and after its calls.
use Rattle.std.specs.Prelude.{◌≡◌, ◌≢◌, ◌⊎◌, ℕ, suc, ◌+◌, List, [], ◌++◌, length, slice_get, Bool, true}
use Rattle.std.specs.Prelude.{Option, None, Some}
use Rattle.std.specs.FinMap as map
use Rattle.pm_base.specs.Known.{and_then}
use Rattle.pm_values.specs.declared.refusal.Refusal.{Refusal}
use Rattle.pm_values.specs.declared.refusal.Refusal.TheVariants as refusals
use Rattle.pm_io.specs.Sink.{SinkView, TookPrefix}
use Rattle.pm_store.specs.Files.{Files}
use Rattle.pm_store.specs.Store.{StoreView}
use Rattle.pm_machine.specs.Trace.{Event, HasTrace}
use Rattle.pm_schema.specs.declared.schema.TableSchema.{TableSchema}
use Rattle.pm_model_consumers.specs.Claims.{known_at, moved_past, with_claim}
use Rattle.pm_model_history.specs.History.{Entry, table}
use Rattle.pm_model_folder.specs.Changes.{Actor}
use Rattle.pm_model_folder.specs.Consumers.{said_at}
use Rattle.pm_model_folder.specs.Ledger.{Advances, Past}
use Rattle.pm_model_folder.specs.Paths.{consumer_path}
use Rattle.pm_beside.specs.Bringing.{BringsBeside, StaysPast}
use Rattle.pm_read_schema.specs.Beside.{AnyPast}
use Rattle.pm_read_frame.specs.Frames.{joined}
use Rattle.pm_command_follow.specs.Beside.{IsFirstOf}
use Rattle.pm_command_follow.specs.Follow.{IsToldFrom, Then}
use Rattle.pm_command_follow.specs.Printed.{count_from}
use Rattle.pm_command_consume.specs.Consume.{HandsOut, Joins, Lists, Opens}
use Rattle.pm_command_consume.specs.declared.consuming.Consuming.{Consuming}
use Rattle.pm_command_consume.specs.declared.place.Place.{Place}

-- ---- what each of its calls changes

-- Where the file goes on from one snapshot to the next, it is moved past one of these texts, each said of a snapshot,
-- and nothing else is known anew.
abbrev pub MovesPast : List ℕ → (ℕ → List ℕ → Type 0) → Files → Past → Files → Past → Type 0
MovesPast name Printed f p after later = (next : ℕ) → said_at f name ≡ Some (known_at next)
    → said_at after name ≡ Some (known_at (suc next))
    → (text : List ℕ) × Printed next text
    × (later.claims ≡ with_claim name (moved_past text (p.claims name)) p.claims)

-- A change of a kind that the actor may make, which leaves the history; of all files only the consumer's is another,
-- and of all names only that of the consumer has something new known of it. Where it moves the consumer on, then past a
-- text that was printed of that snapshot.
pub record StepsAs (me : Actor) (c : Consuming) (Printed : ℕ → List ℕ → Type 0) (f : Files) (p : Past) (after : Files)
    (later : Past) : Type 0 where
  pub advances : Advances me f p after later
  pub history : later.history ≡ p.history
  pub files : (path : List ℕ) → path ≢ consumer_path c.name → map.get after path ≡ map.get f path
  pub claims : (other : List ℕ) → other ≢ c.name → later.claims other ≡ p.claims other
  pub moves : MovesPast c.name Printed f p after later

-- or the past stays, as it does where a file is read or listed
abbrev pub MayStep : Actor → Consuming → (ℕ → List ℕ → Type 0) → Files → Past → Files → Past → Type 0
MayStep me c Printed f p after later = StaysPast f p after later ⊎ StepsAs me c Printed f p after later

-- none was printed, so no such change moves it on
abbrev pub StepsStill : Actor → Consuming → Files → Past → Files → Past → Type 0
StepsStill me c = MayStep me c (λ next text. ⊥)

-- the texts that were printed are those of the snapshots from the start on
abbrev pub Steps : Actor → Consuming → ℕ → List (List ℕ) → Files → Past → Files → Past → Type 0
Steps me c start moved = MayStep me c (λ next text. (n : ℕ) × (next ≡ start + n) × (slice_get moved n ≡ Some text))

-- Private: one alone was printed, of this snapshot
abbrev pub StepsOf : Actor → Consuming → ℕ → List ℕ → Files → Past → Files → Past → Type 0
StepsOf me c id frame = MayStep me c (λ next text. (next ≡ id) × (text ≡ frame))

-- ---- what it answers

-- What a refusal tells of the files and of what they stand for, as of `follow`. That another touched the consumer's
-- file, or that a floor is above the start, tells nothing of these.
abbrev pub IsToldTo : Consuming → Refusal → Files → Past → Type 0
IsToldTo c (refusals.ConsumerMoved found) f p = Unit {0}
IsToldTo c (refusals.BelowFloor next floor) f p = Unit {0}
IsToldTo c e f p = IsToldFrom c.from e f p

-- Its calls are such changes, of any past, the moves past these texts. At the end the text is that of the first pieces
-- of what is printed of the table.
abbrev pub BringsFirst : Actor → TableSchema → Consuming → ℕ → Bool → List (List ℕ) → ℕ → List ℕ → StoreView
    → StoreView → Type 0
BringsFirst me s c start full moved count text before after = BringsBeside me (Steps me c start moved) AnyPast
    (λ f p. (entries : List Entry) × (p.history ≡ table s entries) × IsFirstOf s entries full start count text)
    before after

-- the consumer was registered to read this snapshot next, and any calls came after these
abbrev pub HasRegistered : TableSchema → Consuming → ℕ → List Event → Type 0
HasRegistered s c start own = Then (Joins s c start) (λ later. Unit {0}) own

-- it opened, and any calls came after these
abbrev pub HasBegun : TableSchema → Consuming → Place → Bool → List Event → Type 0
HasBegun s c p full own = (table : List ℕ) × Then (Opens s c p full table) (λ later. Unit {0}) own

-- it opened, the snapshots were listed, whose latest this is, and the frames of all up to it were handed out
abbrev pub HandsTo : TableSchema → Consuming → Place → Bool → ℕ → List Event → Type 0
HandsTo s c p full latest own = (table frames : List ℕ)
    × Then (Lists s c p full table latest) (HandsOut s c p (count_from p.next latest) frames) own

-- What was printed, what it is of the history, and what each call changed. All frames were, up to the latest snapshot
-- that was listed, behind the starting table, if it was asked for. Or the sink failed, in the starting table, before
-- any move; or in a frame, behind all that the consumer was moved past. Or these frames were printed, before calls that
-- were refused, and the move past the last may be one of these. Or nothing was, and no call is a move. And why they
-- were refused.
pub data ConsumesBeside (me : Actor) (c : Consuming) (before after : SinkView) (store store_after : StoreView)
    : Option Refusal → Type 0 where
  prints : (s : TableSchema) (p : Place) (full : Bool) (latest : ℕ) (text : List ℕ) (frames : List (List ℕ))
      → HasTrace (HandsTo s c p full latest) store store_after → length frames ≡ count_from p.next latest
      → after.taken ≡ and_then before.taken (text ++ joined frames)
      → BringsFirst me s c p.next full frames (length frames) (text ++ joined frames) store store_after
      → ConsumesBeside me c before after store store_after None
  breaks_table : (s : TableSchema) (start : ℕ) (text : List ℕ) → c.full ≡ true
      → HasTrace (HasRegistered s c start) store store_after → TookPrefix before.taken after.taken text
      → BringsFirst me s c start true [] 0 text store store_after
      → ConsumesBeside me c before after store store_after (Some (refusals.SinkFault None))
  breaks_frame : (s : TableSchema) (p : Place) (full : Bool) (text last : List ℕ) (frames : List (List ℕ))
      → HasTrace (HasBegun s c p full) store store_after
      → TookPrefix (and_then before.taken (text ++ joined frames)) after.taken last
      → BringsFirst me s c p.next full frames (suc (length frames)) ((text ++ joined frames) ++ last) store store_after
      → ConsumesBeside me c before after store store_after (Some (refusals.SinkFault None))
  stops : (e : Refusal) (s : TableSchema) (p : Place) (full : Bool) (text : List ℕ) (frames : List (List ℕ))
      → HasTrace (HasBegun s c p full) store store_after
      → after.taken ≡ and_then before.taken (text ++ joined frames)
      → BringsFirst me s c p.next full frames (length frames) (text ++ joined frames) store store_after
      → BringsBeside me (Steps me c p.next frames) AnyPast (IsToldTo c e) store store_after
      → ConsumesBeside me c before after store store_after (Some e)
  refuses : (e : Refusal) → after ≡ before
      → BringsBeside me (StepsStill me c) AnyPast (IsToldTo c e) store store_after
      → ConsumesBeside me c before after store store_after (Some e)
