-- What the calls of `follow` with a consumer are, by what it answers and what the sink took meanwhile.
use Rattle.std.specs.Prelude.{◌≡◌, ℕ, zero, suc, ◌+◌, ◌<◌, ◌≤◌, List, [], ◌++◌, Bool, true, false}
use Rattle.std.specs.Prelude.{Option, None, Some, IfSome, Ok, Err}
use Rattle.pm_base.specs.Known.{and_then}
use Rattle.pm_values.specs.declared.refusal.Refusal.{Refusal}
use Rattle.pm_values.specs.declared.refusal.Refusal.TheVariants as refusals
use Rattle.pm_io.specs.Sink.{SinkFailed, SinkView, TookPrefix}
use Rattle.pm_store.specs.Store.{StoreView}
use Rattle.pm_machine.specs.Trace.{Event, HasTrace}
use Rattle.pm_schema.specs.declared.schema.TableSchema.{TableSchema}
use Rattle.pm_snapshot.specs.declared.consumer.Consumer.{Consumer}
use Rattle.pm_model_folder.specs.Changes.{IsPlain}
use Rattle.pm_read_latest.specs.AllCalls.{DidLatest}
use Rattle.pm_read_consumer.specs.AllCalls.{DidFind}
use Rattle.pm_read_consumer.specs.Reader.{found_as}
use Rattle.pm_register.specs.AllCalls.{DidRegister}
use Rattle.pm_register.specs.Registrar.{IsUnregistered, consumer_at, known_text, registering}
use Rattle.pm_move_consumer.specs.Mover.{Moving, moving_of}
use Rattle.pm_move_consumer.specs.MoverAllCalls.{DidMove}
use Rattle.pm_read_frame.specs.AllCalls.{DidFrame}
use Rattle.pm_command_follow.specs.Follow.{DidTable, HasSchema, ReadsTable, ShowsSchema, Then, Took}
use Rattle.pm_command_follow.specs.Printed.{count_from, start_of}
use Rattle.pm_command_consume.specs.declared.consuming.Consuming.{Consuming}
use Rattle.pm_command_consume.specs.declared.place.Place.{Place}

-- ---- what is asked for

-- the name of the consumer, the snapshot whose frame is the first, and whether the table before it is asked for
abbrev pub consuming : List ℕ → Option ℕ → Bool → Consuming
consuming name from full = record { name = name; from = from; full = full }

-- the name leads to a file of its own, and no frame is asked for of the origin
pub record IsConsuming (c : Consuming) : Type 0 where
  pub plain : IsPlain c.name
  pub from : IfSome c.from (λ id. 1 ≤ id)

-- ---- where its frames begin

-- this was found at the consumer's path, and says that
abbrev pub Finds : TableSchema → Consuming → Option (List ℕ) → Option Consumer → List Event → Type 0
Finds s c found said own = Then (HasSchema s) (DidFind c.name (Ok (found_as found said))) own

-- the consumer is settled, and this is where it stands
abbrev pub FindsSettled : TableSchema → Consuming → Place → List Event → Type 0
FindsSettled s c p own = Finds s c (Some p.bytes) (Some (consumer_at p.next false)) own

-- it isn't: no file was found, or one that is new
abbrev pub FindsUnsettled : TableSchema → Consuming → Option (List ℕ) → List Event → Type 0
FindsUnsettled s c found own = IsUnregistered found × ((said : Option Consumer) × Finds s c found said own)

-- and then the snapshots were listed, after whose latest it starts, or at the one that is asked for; whatever number a
-- new file has
abbrev pub Starts : TableSchema → Consuming → Option (List ℕ) → ℕ → List Event → Type 0
Starts s c found start own = (latest : ℕ) × Then (FindsUnsettled s c found) (DidLatest (Ok latest)) own
    × (start ≡ start_of c.from latest) × (1 ≤ start) × (start ≤ suc latest)

-- and the consumer was registered there
abbrev pub Joins : TableSchema → Consuming → ℕ → List Event → Type 0
Joins s c start own = (found : Option (List ℕ))
    × Then (Starts s c found start) (DidRegister (registering c.name found start) (Ok tt)) own

-- How it opens: at the place of a settled consumer, of which nothing is asked, and without the table; or at that of one
-- that was registered, behind the text of the table, which was read where it is asked for.
pub data Opens (s : TableSchema) (c : Consuming) (p : Place) (full : Bool) (text : List ℕ) (own : List Event)
    : Type 0 where
  settled : FindsSettled s c p own → full ≡ false → text ≡ [] → Opens s c p full text own
  joined : Then (Joins s c p.next) (ReadsTable s c.full p.next text) own → full ≡ c.full → p.bytes ≡ known_text p.next
      → Opens s c p full text own

-- and the snapshots were listed, whose latest this is
abbrev pub Lists : TableSchema → Consuming → Place → Bool → List ℕ → ℕ → List Event → Type 0
Lists s c p full text latest own = Then (Opens s c p full text) (DidLatest (Ok latest)) own

-- ---- its frames

-- the bytes of the consumer's file once it was moved past so many snapshots: those that it was found or left with, or
-- those of the last move
abbrev pub bytes_at : Place → ℕ → List ℕ
bytes_at p zero = p.bytes
bytes_at p (suc count) = known_text (p.next + count + 1)

-- where it stands then
abbrev pub place_at : Place → ℕ → Place
place_at p count = record { next = p.next + count; bytes = bytes_at p count }

-- the move from a place on
abbrev pub moving_from : Consuming → Place → Moving
moving_from c p = moving_of c.name p.bytes p.next

-- the frame of the place was read, and the consumer moved past its snapshot
abbrev pub HandsOne : TableSchema → Consuming → Place → List ℕ → List Event → Type 0
HandsOne s c p frame own =
    Then (DidFrame s p.next (Ok frame)) (DidMove (moving_from c p) (Ok (known_text (p.next + 1)))) own

-- so many frames were read from the place on, of which this is the text, and the consumer was moved past each before
-- the next was read
abbrev pub HandsOut : TableSchema → Consuming → Place → ℕ → List ℕ → List Event → Type 0
HandsOut s c p zero text own = (text ≡ []) × (own ≡ [])
HandsOut s c p (suc count) text own = (before frame : List ℕ)
    × Then (HandsOut s c p count before) (HandsOne s c (place_at p count) frame) own × (text ≡ before ++ frame)

-- it opened, so many frames were handed out, of which this is the text with that of the starting table, and a frame was
-- left, for which these calls came
abbrev pub GoesOn : TableSchema → Consuming → Place → Bool → ℕ → List ℕ → (List Event → Type 0) → List Event → Type 0
GoesOn s c p full count text Next own = (latest : ℕ) × (table frames : List ℕ) × (count < count_from p.next latest)
    × Then (Lists s c p full table latest) (Then (HandsOut s c p count frames) Next) own × (text ≡ table ++ frames)

-- all up to the latest snapshot were handed out
abbrev pub HandsOutAll : TableSchema → Consuming → Place → Bool → ℕ → List ℕ → List Event → Type 0
HandsOutAll s c p full count text own = (latest : ℕ) × (table frames : List ℕ) × (count ≡ count_from p.next latest)
    × Then (Lists s c p full table latest) (HandsOut s c p count frames) own × (text ≡ table ++ frames)

-- ---- its ends

-- Which calls show a refusal before anything is printed: those up to the schema; that of the consumer's file; where it
-- isn't settled the listing, or what it shows is asked for of a snapshot that is too high; those of the registering;
-- those for the starting table.
pub data ShowsFirst (c : Consuming) (e : Refusal) (own : List Event) : Type 0 where
  of_schema : ShowsSchema e own → ShowsFirst c e own
  of_file : (s : TableSchema) → Then (HasSchema s) (DidFind c.name (Err e)) own → ShowsFirst c e own
  of_listing : (s : TableSchema) (found : Option (List ℕ))
      → Then (FindsUnsettled s c found) (DidLatest (Err e)) own → ShowsFirst c e own
  of_start : (s : TableSchema) (found : Option (List ℕ)) (id latest : ℕ) → c.from ≡ Some id → suc latest < id
      → e ≡ refusals.NoSnapshot id latest → Then (FindsUnsettled s c found) (DidLatest (Ok latest)) own
      → ShowsFirst c e own
  of_registering : (s : TableSchema) (found : Option (List ℕ)) (start : ℕ)
      → Then (Starts s c found start) (DidRegister (registering c.name found start) (Err e)) own → ShowsFirst c e own
  of_table : (s : TableSchema) (start : ℕ) → c.full ≡ true → Then (Joins s c start) (DidTable s start (Err e)) own
      → ShowsFirst c e own

-- What its calls came to, and what the sink took meanwhile. All was handed out. Or the sink failed in the starting
-- table, or in a frame, and then the reading of that frame was the last call: the consumer wasn't moved past it. Or the
-- calls show a refusal, and what had been read before was printed; a move that is refused comes behind its frame.
pub data Ends (c : Consuming) (before after : SinkView) (own : List Event) : Option Refusal → Type 0 where
  all : (s : TableSchema) (p : Place) (full : Bool) (count : ℕ) (text : List ℕ)
      → HandsOutAll s c p full count text own → Took full count text before after → Ends c before after own None
  fails_table : (s : TableSchema) (p : Place) (text : List ℕ) → Opens s c p true text own → SinkFailed before after
      → TookPrefix before.taken after.taken text → Ends c before after own (Some (refusals.SinkFault None))
  fails_frame : (s : TableSchema) (p : Place) (full : Bool) (count : ℕ) (text frame : List ℕ)
      → GoesOn s c p full count text (DidFrame s (p.next + count) (Ok frame)) own → SinkFailed before after
      → TookPrefix (and_then before.taken text) after.taken frame
      → Ends c before after own (Some (refusals.SinkFault None))
  refused_first : (e : Refusal) → ShowsFirst c e own → after ≡ before → Ends c before after own (Some e)
  refused_listing : (e : Refusal) (s : TableSchema) (p : Place) (full : Bool) (text : List ℕ)
      → Then (Opens s c p full text) (DidLatest (Err e)) own → Took full 0 text before after
      → Ends c before after own (Some e)
  refused_frame : (e : Refusal) (s : TableSchema) (p : Place) (full : Bool) (count : ℕ) (text : List ℕ)
      → GoesOn s c p full count text (DidFrame s (p.next + count) (Err e)) own → Took full count text before after
      → Ends c before after own (Some e)
  refused_move : (e : Refusal) (s : TableSchema) (p : Place) (full : Bool) (count : ℕ) (text frame : List ℕ)
      → GoesOn s c p full count text
      (Then (DidFrame s (p.next + count) (Ok frame)) (DidMove (moving_from c (place_at p count)) (Err e))) own
      → Took full (suc count) (text ++ frame) before after → Ends c before after own (Some e)

-- its calls, with what was printed
abbrev pub HasConsumed : Consuming → SinkView → SinkView → StoreView → StoreView → Option Refusal → Type 0
HasConsumed c out out_after store store_after answer =
    HasTrace (λ own. Ends c out out_after own answer) store store_after
