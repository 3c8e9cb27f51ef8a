-- What the command `expire` answers, what it prints, and what it leaves of a folder.
use Rattle.std.specs.Prelude.{◌≡◌, ◌⊎◌, ℕ, List, [], ◌++◌, codes, decimal, Option, None, Some, Result, Ok, Err}
use Rattle.std.specs.Result.{result_err}
use Rattle.pm_base.specs.Known.{and_then}
use Rattle.pm_base.specs.Newline.{line}
use Rattle.pm_values.specs.declared.refusal.Refusal.{Refusal}
use Rattle.pm_values.specs.declared.refusal.Refusal.TheVariants as refusals
use Rattle.pm_io.specs.Sink.{SinkView, SinkFailed, TookPrefix}
use Rattle.pm_store.specs.Files.{Files}
use Rattle.pm_store.specs.Images.{Extends}
use Rattle.pm_store.specs.Store.{StoreView, FromFirst}
use Rattle.pm_machine.specs.Trace.{Event, HasTrace}
use Rattle.pm_model_history.specs.History.{History, IsTableOf}
use Rattle.pm_schema.specs.Again.{IsDeclared}
use Rattle.pm_schema.specs.declared.schema.TableSchema.{TableSchema}
use Rattle.pm_model_folder.specs.Changes.{Actor}
use Rattle.pm_model_folder.specs.Folder.{Folder}
use Rattle.pm_model_folder.specs.Ledger.{count_of}
use Rattle.pm_expire_end.specs.Keep.{keep_of}
use Rattle.pm_expire_end.specs.declared.keep.KeepAsked.{KeepAsked}
use Rattle.pm_create.specs.Making.{LeavesFiles}
use Rattle.pm_read_schema.specs.Beside.{AnyPast, IsTold, Learns}
use Rattle.pm_read_schema.specs.Trace as reader
use Rattle.pm_read_expiry.specs.declared.asking.Asking.{Asking}
use Rattle.pm_commit.specs.AllCalls.{MayStart}
use Rattle.pm_expire.specs.AllCalls as expiry
use Rattle.pm_expire.specs.AllCalls.{Becomes, IsImageOf, StopsAtTag}
use Rattle.pm_expire.specs.Beside.{ExpiresBeside}
use Rattle.pm_expire.specs.declared.all_calls.Kept.{Kept}
use Rattle.pm_command.specs.Outside.{ConsumersRest, HaveSame, Outside, Prints}
use Rattle.pm_command.specs.Table.{MayRefuse}
use Rattle.pm_command.specs.declared.start.Start.{Start}

-- ---- its calls

-- what is asked of an expiry of a table: what is to be kept, by the words or else by the table's options, at the moment
-- at which the command began
abbrev pub asked_by : Start → KeepAsked → TableSchema → Asking
asked_by start asked s = record { schema = s; keep = keep_of asked s.options; now = start.now_millis }

-- the calls from those that read the schema on are those of an expiry with this answer
abbrev pub GoesOnAs : Start → KeepAsked → Result Kept Refusal → List Event → Type 0
GoesOnAs start asked made own =
    (s : TableSchema) × IsDeclared s × expiry.DidExpire (asked_by start asked s) made own

-- its calls of the store, by which snapshots are kept; or they show why no schema was read, or end later
abbrev pub DidExpire : Start → KeepAsked → Result Kept Refusal → List Event → Type 0
DidExpire start asked (Ok kept) own = GoesOnAs start asked (Ok kept) own
DidExpire start asked (Err e) own = reader.Shows e own ⊎ GoesOnAs start asked (Err e) own

-- Whatever others do, to each past that has the table whose schema was read its calls bring what those of an expiry
-- may, whoever makes them, and what its answer tells.
abbrev pub GoesOnBeside : Result Kept Refusal → StoreView → StoreView → Type 0
GoesOnBeside made before after = (s : TableSchema) × (middle : StoreView)
    × Learns AnyPast (λ f p. IsTableOf s p.history) before middle
    × ((me : Actor) → ExpiresBeside me s made middle after)

-- or they end before it was read, and the refusal tells what is so
abbrev pub MadeBeside : Result Kept Refusal → StoreView → StoreView → Type 0
MadeBeside (Ok kept) before after = GoesOnBeside (Ok kept) before after
MadeBeside (Err e) before after =
    (HasTrace (reader.Shows e) before after × Learns AnyPast (IsTold e) before after)
    ⊎ GoesOnBeside (Err e) before after

-- ---- what it prints

-- the line of what is kept
abbrev pub kept_text : Kept → List ℕ
kept_text kept = line (codes "kept " ++ (decimal kept.first ++ (codes " " ++ decimal kept.last)))

abbrev pub text_of : Result Kept Refusal → List ℕ
text_of (Ok kept) = kept_text kept
text_of (Err e) = []

-- what `expire` answers
abbrev pub AnswersExpire : Start → KeepAsked → Outside → Outside → Option Refusal → Type 0
AnswersExpire start asked before after answer =
    (made : Result Kept Refusal) × HasTrace (DidExpire start asked made) before.store after.store
    × MadeBeside made before.store after.store
    × Prints (text_of made) None (result_err made) before.out after.out answer

-- ---- a history that stands at its first call, where nobody else acts from then on

-- the history has a table, and of its schema this holds
abbrev pub OfTable : History → (TableSchema → Type 0) → Type 0
OfTable h P = (s : TableSchema) × IsTableOf s h × IsDeclared s × P s

-- what becomes of files that stand for the history, by what is kept
abbrev pub HasKept : Start → KeepAsked → History → Kept → Files → Files → Type 0
HasKept start asked h kept f g = OfTable h (λ s.
    Becomes (asked_by start asked s) (count_of h) f g kept.first kept.last)

-- what a crash may leave of them: what an expiry may that was stopped, or no path with another content
abbrev pub IsImage : Start → KeepAsked → History → Files → Files → Type 0
IsImage start asked h f g =
    HaveSame f g ⊎ OfTable h (λ s. IsImageOf (asked_by start asked s) f g)

-- a tag is there, of which the refusal names the least: no path changes, but that the floor of the end is there
abbrev pub StopsForTag : Start → KeepAsked → History → List ℕ → List ℕ → Files → Files → Type 0
StopsForTag start asked h what text f g =
    (what ≡ codes "tag") × OfTable h (λ s. StopsAtTag (asked_by start asked s) f text g)

-- What a refusal leaves of them: what a crash may, where memory ran out or the store failed; what it leaves for a tag;
-- and else the same.
abbrev pub IsSpoiled : Start → KeepAsked → History → Refusal → Files → Files → Type 0
IsSpoiled start asked h refusals.Memory f g = IsImage start asked h f g
IsSpoiled start asked h (refusals.StoreFault path) f g = IsImage start asked h f g
IsSpoiled start asked h (refusals.Unsupported what text) f g =
    StopsForTag start asked h what text f g
IsSpoiled start asked h other f g = HaveSame f g

-- why it is refused; of a tag that is said with what it leaves
abbrev pub IsRefused : History → StoreView → StoreView → Refusal → Type 0
IsRefused h first after (refusals.Unsupported what text) = Unit {0}
IsRefused h first after other = MayRefuse h first after other

-- what its answer leaves of them: where what is kept was told, or the sink failed, what becomes of them by that
abbrev pub IsLeftBy : Start → KeepAsked → History → Option Refusal → Files → Files → Type 0
IsLeftBy start asked h None f g = (kept : Kept) × HasKept start asked h kept f g
IsLeftBy start asked h (Some (refusals.SinkFault snapshot)) f g = (kept : Kept) × HasKept start asked h kept f g
IsLeftBy start asked h (Some e) f g = IsSpoiled start asked h e f g

-- this is so of the files at the first call and of those after the last
abbrev pub FromTo : (Files → Files → Type 0) → StoreView → StoreView → Type 0
FromTo P first after = LeavesFiles (λ f. LeavesFiles (P f) after) first

-- The answer to a history: what is kept was printed, and the files became so; or a prefix of that was, where the sink
-- failed, and no snapshot is named; or it was refused with its cause, nothing printed.
abbrev pub AnswersHistory : Start → KeepAsked → History → StoreView → Outside → Outside → Option Refusal → Type 0
AnswersHistory start asked h first before after None = (kept : Kept)
    × FromTo (HasKept start asked h kept) first after.store
    × (after.out.taken ≡ and_then before.out.taken (kept_text kept))
AnswersHistory start asked h first before after (Some (refusals.SinkFault snapshot)) = (snapshot ≡ None) × (kept : Kept)
    × FromTo (HasKept start asked h kept) first after.store
    × SinkFailed before.out after.out × TookPrefix before.out.taken after.out.taken (kept_text kept)
AnswersHistory start asked h first before after (Some e) = IsRefused h first after.store e
    × FromTo (IsSpoiled start asked h e) first after.store × (after.out ≡ before.out)

-- What `expire` does to a history: the folder goes on to stand for it, and so does each image of a crash, which is one
-- of an expiry that was stopped. Each consumer's file stays, and those are settled that were; and each actor that might
-- have started before may start after it.
pub record ExpiresTable (start : Start) (asked : KeepAsked) (h : History) (first : StoreView) (before after : Outside)
    (answer : Option Refusal) : Type 0 where
  pub answers : AnswersHistory start asked h first before after answer
  pub folder : LeavesFiles (λ g. Folder g h) after.store
  pub images : LeavesFiles (λ f. Extends (λ g. Folder g h × IsImage start asked h f g) first.ops after.store.ops) first
  pub consumers : ConsumersRest h first after.store
  pub free : (other : Actor) → LeavesFiles (MayStart other h) first
      → Extends (MayStart other h) first.ops after.store.ops

-- what it promises of histories, from its first call of the store on
abbrev pub ExpiresTables : Start → KeepAsked → Outside → Outside → Option Refusal → Type 0
ExpiresTables start asked before after answer =
    FromFirst (λ first _. (h : History) → LeavesFiles (λ f. Folder f h) first
    → ExpiresTable start asked h first before after answer) before.store after.store

-- ---- before anything is printed

-- Private: what was made of a history
abbrev pub MakesOf : Start → KeepAsked → History → StoreView → StoreView → Result Kept Refusal → Type 0
MakesOf start asked h first after (Ok kept) = FromTo (HasKept start asked h kept) first after
MakesOf start asked h first after (Err e) = IsRefused h first after e × FromTo (IsSpoiled start asked h e) first after

-- Private: what the calls of `expire` do to a history
pub record Keeps (start : Start) (asked : KeepAsked) (h : History) (first after : StoreView)
    (made : Result Kept Refusal) : Type 0 where
  pub makes : MakesOf start asked h first after made
  pub folder : LeavesFiles (λ g. Folder g h) after
  pub images : LeavesFiles (λ f. Extends (λ g. Folder g h × IsImage start asked h f g) first.ops after.ops) first
  pub consumers : ConsumersRest h first after
  pub free : (other : Actor) → LeavesFiles (MayStart other h) first → Extends (MayStart other h) first.ops after.ops

-- Private: and to histories
abbrev pub KeepsHistories : Start → KeepAsked → StoreView → StoreView → Result Kept Refusal → Type 0
KeepsHistories start asked before after made =
    FromFirst (λ first after. (h : History) → LeavesFiles (λ f. Folder f h) first
    → Keeps start asked h first after made) before after

-- Private: the calls of `expire`, what they do beside others and to histories, and what was printed
abbrev pub IsTableExpired : Start → KeepAsked → SinkView → SinkView → StoreView → StoreView → Option Refusal → Type 0
IsTableExpired start asked out out_after store store_after answer =
    (made : Result Kept Refusal) × HasTrace (DidExpire start asked made) store store_after
    × MadeBeside made store store_after × KeepsHistories start asked store store_after made
    × Prints (text_of made) None (result_err made) out out_after answer
