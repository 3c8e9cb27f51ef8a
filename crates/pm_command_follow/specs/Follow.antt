-- What the command `follow` answers, what it prints, and that it leaves a folder as it is.
use Rattle.std.specs.Prelude.{◌≡◌, ◌≢◌, ◌⊎◌, ℕ, zero, suc, ◌+◌, ◌-◌, ◌<◌, ◌≤◌, List, [], ◌++◌, length}
use Rattle.std.specs.Prelude.{Bool, true, false, Option, None, Some, IsSome, Result, Ok, Err}
use Rattle.std.specs.FinMap as map
use Rattle.pm_base.specs.Faults.{Rose}
use Rattle.pm_base.specs.Known.{and_then}
use Rattle.pm_values.specs.declared.refusal.Refusal.{Refusal}
use Rattle.pm_values.specs.declared.refusal.Refusal.TheVariants as refusals
use Rattle.pm_io.specs.Sink.{SinkView, SinkFailed, SinkLater, TookPrefix}
use Rattle.pm_store.specs.Files.{Files}
use Rattle.pm_store.specs.Store.{StoreView, FromFirst}
use Rattle.pm_machine.specs.Trace.{Event, HasTrace, Traces}
use Rattle.pm_options.specs.declared.kinds.Producer.TheVariants as producers
use Rattle.pm_schema.specs.Again.{IsDeclared}
use Rattle.pm_schema.specs.declared.schema.TableSchema.{TableSchema}
use Rattle.pm_model_history.specs.History.{Entry, History, IsTableOf, no_table, table}
use Rattle.pm_model_following.specs.Following.{frame}
use Rattle.pm_model_folder.specs.Folder.{Folder}
use Rattle.pm_model_folder.specs.Ledger.{Past, count_of}
use Rattle.pm_create.specs.Making.{LeavesFiles}
use Rattle.pm_read_schema.specs.Beside.{AnyPast, IsTold, Learns}
use Rattle.pm_read_schema.specs.Trace as reader
use Rattle.pm_read_schema.specs.declared.phase.Phase.TheVariants as readers
use Rattle.pm_read_latest.specs.AllCalls.{DidLatest}
use Rattle.pm_scan.specs.AllCalls as scanner
use Rattle.pm_scan.specs.AllCalls.{path_of}
use Rattle.pm_scan.specs.Asked.{passed_at}
use Rattle.pm_read_frame.specs.AllCalls.{DidFrame}
use Rattle.pm_command.specs.Outside.{ImagesRest, Outside, Rests}
use Rattle.pm_command_follow.specs.Beside.{IsFirstOf}
use Rattle.pm_command_follow.specs.Printed.{count_from, follow_text, start_of, table_head, text_so_far}

-- ---- its calls

-- calls of one kind, and then calls of another
abbrev pub Then : (List Event → Type 0) → (List Event → Type 0) → List Event → Type 0
Then First Next own = (earlier later : List Event) × First earlier × Next later × (own ≡ earlier ++ later)

-- a table tells its changes
abbrev pub TellsChanges : TableSchema → Type 0
TellsChanges s = s.options.producer ≢ producers.None

-- the schema was read, of a table that tells its changes
abbrev pub HasSchema : TableSchema → List Event → Type 0
HasSchema s own = TellsChanges s × IsDeclared s × reader.Did (readers.Ready s) own

-- which calls show a refusal before that: those that read the schema; or its table doesn't tell its changes
pub data ShowsSchema (e : Refusal) (own : List Event) : Type 0 where
  of_reader : reader.Shows e own → ShowsSchema e own
  of_producer : (s : TableSchema) → s.options.producer ≡ producers.None → e ≡ refusals.NoChangelog
      → reader.Did (readers.Ready s) own → ShowsSchema e own

-- the calls up to the schema, by what was made of them
abbrev pub DidSchema : Result TableSchema Refusal → List Event → Type 0
DidSchema (Ok s) own = HasSchema s own
DidSchema (Err e) own = ShowsSchema e own

-- and then the snapshots were listed, after whose latest it starts, or at the one that is asked for
abbrev pub Starts : TableSchema → Option ℕ → ℕ → List Event → Type 0
Starts s from start own = (latest : ℕ) × Then (HasSchema s) (DidLatest (Ok latest)) own
    × (start ≡ start_of from latest) × (1 ≤ start) × (start ≤ suc latest)

-- The calls for the starting table, the one that is passed on at one below the start, by what was made of them: its
-- rows were read, and this is its text; or they show a refusal, or memory ran out for the text.
abbrev pub DidTable : TableSchema → ℕ → Result (List ℕ) Refusal → List Event → Type 0
DidTable s start (Ok text) own = (rows : List ℕ) × scanner.Ends (passed_at s (start - 1)) (Ok rows) own
    × (text ≡ table_head (start - 1) ++ rows)
DidTable s start (Err e) own = scanner.Ends (passed_at s (start - 1)) (Err e) own
    ⊎ ((e ≡ refusals.Memory) × (rows : List ℕ) × scanner.Ends (passed_at s (start - 1)) (Ok rows) own)

-- it was read where it is asked for, and this is its text
abbrev pub ReadsTable : TableSchema → Bool → ℕ → List ℕ → List Event → Type 0
ReadsTable s false start text own = (text ≡ []) × (own ≡ [])
ReadsTable s true start text own = DidTable s start (Ok text) own

-- so many frames were read from the start on, of which this is the text
abbrev pub ReadsFrames : TableSchema → ℕ → ℕ → List ℕ → List Event → Type 0
ReadsFrames s start zero text own = (text ≡ []) × (own ≡ [])
ReadsFrames s start (suc count) text own = (before frame : List ℕ)
    × Then (ReadsFrames s start count before) (DidFrame s (start + count) (Ok frame)) own × (text ≡ before ++ frame)

-- it starts, and the starting table was read where it is asked for
abbrev pub Opens : TableSchema → Option ℕ → Bool → ℕ → List ℕ → List Event → Type 0
Opens s from full start text own = Then (Starts s from start) (ReadsTable s full start text) own

-- and the snapshots were listed again, whose latest this is
abbrev pub Lists : TableSchema → Option ℕ → Bool → ℕ → ℕ → List ℕ → List Event → Type 0
Lists s from full start latest text own = Then (Opens s from full start text) (DidLatest (Ok latest)) own

-- and then so many frames were read, of which this is the text with that of the starting table, and these calls came
abbrev pub GoesOn : Option ℕ → Bool → ℕ → List ℕ → (TableSchema → ℕ → List Event → Type 0) → List Event → Type 0
GoesOn from full count text Next own = (s : TableSchema) × (start latest : ℕ) × (table frames : List ℕ)
    × (count < count_from start latest)
    × Then (Lists s from full start latest table) (Then (ReadsFrames s start count frames) (Next s (start + count))) own
    × (text ≡ table ++ frames)

-- all frames up to the latest snapshot were read
abbrev pub ReadsAll : Option ℕ → Bool → ℕ → List ℕ → List Event → Type 0
ReadsAll from full count text own = (s : TableSchema) × (start latest : ℕ) × (table frames : List ℕ)
    × (count ≡ count_from start latest)
    × Then (Lists s from full start latest table) (ReadsFrames s start count frames) own × (text ≡ table ++ frames)

-- Which calls show a refusal before anything is printed: those up to the schema; the first listing, or what it shows is
-- asked for of a snapshot that is too high; those for the starting table.
pub data ShowsFirst (from : Option ℕ) (full : Bool) (e : Refusal) (own : List Event) : Type 0 where
  of_schema : ShowsSchema e own → ShowsFirst from full e own
  of_listing : (s : TableSchema) → Then (HasSchema s) (DidLatest (Err e)) own → ShowsFirst from full e own
  of_start : (s : TableSchema) (id latest : ℕ) → from ≡ Some id → suc latest < id → e ≡ refusals.NoSnapshot id latest
      → Then (HasSchema s) (DidLatest (Ok latest)) own → ShowsFirst from full e own
  of_table : (s : TableSchema) (start : ℕ) → full ≡ true
      → Then (Starts s from start) (DidTable s start (Err e)) own → ShowsFirst from full e own

-- the sink took this text, of so many frames and of the starting table, if that was printed; without these it wasn't
-- called
abbrev pub Took : Bool → ℕ → List ℕ → SinkView → SinkView → Type 0
Took full count text before after = (after.taken ≡ and_then before.taken text)
    × (full ≡ false → count ≡ 0 → after ≡ before) × SinkLater before after

-- What its calls came to, and what the sink took meanwhile: all was printed; or the sink failed in the starting table,
-- or in a frame; or the calls show a refusal, and what had been read before was printed.
pub data Ends (from : Option ℕ) (full : Bool) (before after : SinkView) (own : List Event)
    : Option Refusal → Type 0 where
  all : (count : ℕ) (text : List ℕ) → ReadsAll from full count text own → Took full count text before after
      → Ends from full before after own None
  fails_table : (s : TableSchema) (start : ℕ) (text : List ℕ) → full ≡ true → Opens s from full start text own
      → SinkFailed before after → TookPrefix before.taken after.taken text
      → Ends from full before after own (Some (refusals.SinkFault None))
  fails_frame : (count : ℕ) (text frame : List ℕ)
      → GoesOn from full count text (λ s id. DidFrame s id (Ok frame)) own → SinkFailed before after
      → TookPrefix (and_then before.taken text) after.taken frame
      → Ends from full before after own (Some (refusals.SinkFault None))
  refused_first : (e : Refusal) → ShowsFirst from full e own → after ≡ before
      → Ends from full before after own (Some e)
  refused_listing : (e : Refusal) (s : TableSchema) (start : ℕ) (text : List ℕ)
      → Then (Opens s from full start text) (DidLatest (Err e)) own → Took full 0 text before after
      → Ends from full before after own (Some e)
  refused_frame : (e : Refusal) (count : ℕ) (text : List ℕ)
      → GoesOn from full count text (λ s id. DidFrame s id (Err e)) own → Took full count text before after
      → Ends from full before after own (Some e)

-- its calls, with what was printed
abbrev pub HasEnded : Option ℕ → Bool → SinkView → SinkView → StoreView → StoreView → Option Refusal → Type 0
HasEnded from full out out_after store store_after answer =
    (own : List Event) × Ends from full out out_after own answer × Traces own store store_after

-- ---- whatever others do before, between and after its calls

-- it starts there, and any calls came after these
abbrev pub HasStarted : TableSchema → Option ℕ → ℕ → List Event → Type 0
HasStarted s from start own = Then (Starts s from start) (λ later. Unit {0}) own

-- it opened, the snapshots were listed again, whose latest this is, and the frames of all up to it were read
abbrev pub ReadsTo : TableSchema → Option ℕ → Bool → ℕ → ℕ → List Event → Type 0
ReadsTo s from full start latest own = (table frames : List ℕ)
    × Then (Lists s from full start latest table) (ReadsFrames s start (count_from start latest) frames) own

-- The text is that of the first pieces of what is printed of the table: of each history that the files stand for, once
-- others changed them by the kinds of change alone.
abbrev pub LearnsFirst : TableSchema → Bool → ℕ → ℕ → List ℕ → StoreView → StoreView → Type 0
LearnsFirst s full start count text before after = Learns AnyPast
    (λ f p. (entries : List Entry) × (p.history ≡ table s entries) × IsFirstOf s entries full start count text)
    before after

-- What a refusal tells of the files and of what they stand for, at the call that shows it: the table tells no changes;
-- the start that is asked for is above the one after the latest snapshot; or what any reader tells: there is no table,
-- or the snapshot that it names has gone. No file is damaged.
abbrev pub IsToldFrom : Option ℕ → Refusal → Files → Past → Type 0
IsToldFrom from refusals.NoChangelog f p =
    (s : TableSchema) × IsTableOf s p.history × (s.options.producer ≡ producers.None)
IsToldFrom from (refusals.NoSnapshot id latest) f p =
    (from ≡ Some id) × (suc latest < id) × (latest ≤ count_of p.history)
IsToldFrom from e f p = IsTold e f p

-- it is so of each history that the files stand for, once others changed them by the kinds of change alone
abbrev pub LearnsWhy : Option ℕ → Refusal → StoreView → StoreView → Type 0
LearnsWhy from e before after = Learns AnyPast (IsToldFrom from e) before after

-- What was printed, and what it is of the history. All frames were, up to the latest snapshot that was listed, behind
-- the starting table, if it is asked for. Or a prefix of so many was, where the sink failed; or so many were, before
-- calls that were refused; or nothing was. And why they were refused.
pub data FollowsBeside (from : Option ℕ) (full : Bool) (before after : SinkView) (store store_after : StoreView)
    : Option Refusal → Type 0 where
  prints : (s : TableSchema) (start latest : ℕ) (text : List ℕ)
      → HasTrace (ReadsTo s from full start latest) store store_after → after.taken ≡ and_then before.taken text
      → LearnsFirst s full start (count_from start latest) text store store_after
      → FollowsBeside from full before after store store_after None
  breaks_off : (s : TableSchema) (start count : ℕ) (text : List ℕ)
      → HasTrace (HasStarted s from start) store store_after → TookPrefix before.taken after.taken text
      → LearnsFirst s full start count text store store_after
      → FollowsBeside from full before after store store_after (Some (refusals.SinkFault None))
  stops : (e : Refusal) (s : TableSchema) (start count : ℕ) (text : List ℕ)
      → HasTrace (HasStarted s from start) store store_after → after.taken ≡ and_then before.taken text
      → LearnsFirst s full start count text store store_after → LearnsWhy from e store store_after
      → FollowsBeside from full before after store store_after (Some e)
  refuses : (e : Refusal) → after ≡ before → LearnsWhy from e store store_after
      → FollowsBeside from full before after store store_after (Some e)

-- its calls, with what was printed, and what that is of the history
abbrev pub IsFollowed : Option ℕ → Bool → SinkView → SinkView → StoreView → StoreView → Option Refusal → Type 0
IsFollowed from full out out_after store store_after answer =
    HasEnded from full out out_after store store_after answer
    × FollowsBeside from full out out_after store store_after answer

-- what `follow` answers, from the snapshot with an id on or after the latest, with the starting table or without it
abbrev pub Follows : Option ℕ → Bool → Outside → Outside → Option Refusal → Type 0
Follows from full before after answer = IsFollowed from full before.out after.out before.store after.store answer

-- ---- a history that stands at its first call, where nobody else acts from then on

-- its table tells its changes
abbrev pub HasFollowedTable : History → Type 0
HasFollowedTable h = (s : TableSchema) × IsTableOf s h × TellsChanges s × IsDeclared s

-- the file of a table's snapshot has gone
abbrev pub HasGone : History → ℕ → StoreView → Type 0
HasGone h id first = (s : TableSchema) × IsTableOf s h × LeavesFiles (λ f. map.get f (path_of s id) ≡ None) first

-- it is there
abbrev pub IsThere : TableSchema → ℕ → StoreView → Type 0
IsThere s id first = LeavesFiles (λ f. IsSome (map.get f (path_of s id))) first

-- that of the starting table is, if it is asked for, and each from the start to below another one
pub record AreThere (s : TableSchema) (full : Bool) (start next : ℕ) (first : StoreView) : Type 0 where
  pub base : full ≡ true → IsThere s (start - 1) first
  pub each : (id : ℕ) → start ≤ id → id < next → IsThere s id first

-- What a history may be refused for before anything is printed: there is no table, or none that tells its changes; the
-- start that is asked for is too high; the snapshot of the starting table has gone; a fault of the store was counted;
-- or memory ran out.
abbrev pub MayRefuse : History → Option ℕ → Bool → StoreView → StoreView → Refusal → Type 0
MayRefuse h from full first after refusals.Memory = Unit {0}
MayRefuse h from full first after (refusals.StoreFault path) = Rose first.faults after.faults
MayRefuse h from full first after refusals.NoTable = h ≡ no_table
MayRefuse h from full first after refusals.NoChangelog =
    (s : TableSchema) × IsTableOf s h × (s.options.producer ≡ producers.None)
MayRefuse h from full first after (refusals.NoSnapshot id latest) =
    HasFollowedTable h × (from ≡ Some id) × (latest ≡ count_of h) × (suc latest < id)
MayRefuse h from full first after (refusals.Expired id) =
    HasFollowedTable h × (full ≡ true) × (id ≡ start_of from (count_of h) - 1) × (id ≤ count_of h) × HasGone h id first
MayRefuse h from full first after other = ⊥

-- and then, before the frame of a snapshot, or of none where none is left: that snapshot has gone
abbrev pub MayStop : History → ℕ → StoreView → StoreView → Refusal → Type 0
MayStop h id first after refusals.Memory = Unit {0}
MayStop h id first after (refusals.StoreFault path) = Rose first.faults after.faults
MayStop h id first after (refusals.Expired gone) = (gone ≡ id) × (id ≤ count_of h) × HasGone h id first
MayStop h id first after other = ⊥

-- the start isn't too high, for a table that tells its changes
abbrev pub MayStartAt : TableSchema → List Entry → Option ℕ → Type 0
MayStartAt s entries from = TellsChanges s × (start_of from (length entries) ≤ suc (length entries))

-- A part of what is to be printed was: the starting table, if it is asked for, and so many frames, none where none is
-- left.
pub record TookPieces (s : TableSchema) (entries : List Entry) (from : Option ℕ) (full : Bool) (count : ℕ)
    (before after : SinkView) : Type 0 where
  pub starts : MayStartAt s entries from
  pub some : (count < count_from (start_of from (length entries)) (length entries)) ⊎ (count ≡ 0)
  pub took : Took full count (text_so_far s entries full (start_of from (length entries)) count) before after

-- what was printed before a refusal: nothing, or the first pieces of the history's table
abbrev pub PrintsSome : History → Option ℕ → Bool → SinkView → SinkView → Type 0
PrintsSome no_table from full before after = after ≡ before
PrintsSome (table s entries) from full before after =
    (after ≡ before) ⊎ ((count : ℕ) × TookPieces s entries from full count before after)

-- the refusal came after these, whose snapshots are there
abbrev pub StopsAfter : History → Option ℕ → Bool → StoreView → StoreView → SinkView → SinkView → Refusal → Type 0
StopsAfter no_table from full first last before after e = ⊥
StopsAfter (table s entries) from full first last before after e = (count : ℕ)
    × TookPieces s entries from full count before after
    × AreThere s full (start_of from (length entries)) (start_of from (length entries) + count) first
    × MayStop (table s entries) (start_of from (length entries) + count) first last e

-- Exactly the starting table of the history, if it is asked for, and the frames from the start to the newest snapshot
-- were printed; all these snapshots are there.
pub record PrintsTable (s : TableSchema) (entries : List Entry) (from : Option ℕ) (full : Bool) (first : StoreView)
    (before after : SinkView) : Type 0 where
  pub starts : MayStartAt s entries from
  pub base : full ≡ true → IsThere s (start_of from (length entries) - 1) first
  pub each : (id : ℕ) → start_of from (length entries) ≤ id → id ≤ length entries → IsThere s id first
  pub taken : after.taken ≡ and_then before.taken (follow_text s entries from full)

abbrev pub Prints : History → Option ℕ → Bool → StoreView → SinkView → SinkView → Type 0
Prints no_table from full first before after = ⊥
Prints (table s entries) from full first before after = PrintsTable s entries from full first before after

-- The sink took a part of one piece, behind those before it: of the starting table, or of the frame behind so many.
-- The snapshots of all these are there, and that of this piece.
pub data TookPart (s : TableSchema) (entries : List Entry) (full : Bool) (start : ℕ) (first : StoreView)
    (before after : SinkView) : Type 0 where
  in_table : full ≡ true → AreThere s full start start first
      → TookPrefix before.taken after.taken (text_so_far s entries full start 0)
      → TookPart s entries full start first before after
  in_frame : (count : ℕ) → count < count_from start (length entries)
      → AreThere s full start (start + suc count) first
      → TookPrefix (and_then before.taken (text_so_far s entries full start count)) after.taken
      (frame s entries (start + count)) → TookPart s entries full start first before after

-- a prefix of it was printed, up to a part of one piece
abbrev pub PrintsPrefix : History → Option ℕ → Bool → StoreView → SinkView → SinkView → Type 0
PrintsPrefix no_table from full first before after = ⊥
PrintsPrefix (table s entries) from full first before after = MayStartAt s entries from
    × TookPrefix before.taken after.taken (follow_text s entries from full)
    × TookPart s entries full (start_of from (length entries)) first before after

-- The answer to a history: all was printed; or a prefix of it, where the sink failed; or nothing was, or the first
-- pieces, and why it may be refused for that.
abbrev pub AnswersHistory : History → Option ℕ → Bool → StoreView → StoreView → SinkView → SinkView → Option Refusal
    → Type 0
AnswersHistory h from full first last before after None = Prints h from full first before after
AnswersHistory h from full first last before after (Some (refusals.SinkFault snapshot)) =
    (snapshot ≡ None) × SinkFailed before after × PrintsPrefix h from full first before after
AnswersHistory h from full first last before after (Some e) =
    (MayRefuse h from full first last e × (after ≡ before)) ⊎ StopsAfter h from full first last before after e

-- what `follow` does to a history: the folder goes on to stand for it, unchanged, and each image does
pub record FollowsTable (h : History) (from : Option ℕ) (full : Bool) (first last : StoreView)
    (before after : SinkView) (answer : Option Refusal) : Type 0 where
  pub answers : AnswersHistory h from full first last before after answer
  pub rests : Rests h first last
  pub images : ImagesRest h first last

-- what it promises of histories, from its first call of the store on
abbrev pub FollowsAny : Option ℕ → Bool → SinkView → SinkView → StoreView → StoreView → Option Refusal → Type 0
FollowsAny from full out out_after store store_after answer =
    FromFirst (λ first last. (h : History) → LeavesFiles (λ f. Folder f h) first
    → FollowsTable h from full first last out out_after answer) store store_after

abbrev pub FollowsTables : Option ℕ → Bool → Outside → Outside → Option Refusal → Type 0
FollowsTables from full before after answer =
    FollowsAny from full before.out after.out before.store after.store answer
