-- Laws of `consumers`: what is so of its calls, and of a history.
use Rattle.std.proofs.Common.{◌≡◌, ◌≢◌, inl, inr, ℕ, ◌≤◌, List, Vec, Option, None, Some, Ok, Err, refl, sym, subst}
use Rattle.std.specs.Global.{Global}
use Rattle.std.specs.Result.{result_err}
use Rattle.pm_values.specs.declared.refusal.Refusal.{Refusal}
use Rattle.pm_values.specs.declared.refusal.Refusal.TheVariants as refusals
use Rattle.pm_io.specs.Sink.{SinkView}
use Rattle.pm_store.specs.Files.{Files}
use Rattle.pm_store.specs.Store.{StoreView, at_first_own}
use Rattle.pm_machine.specs.Trace.{Event, HasTrace}
use Rattle.pm_model_history.specs.History.{History, IsTableOf, no_table}
use Rattle.pm_schema.specs.Again.{IsDeclared}
use Rattle.pm_schema.specs.declared.schema.TableSchema.{TableSchema}
use Rattle.pm_model_folder.specs.Folder.{Folder}
use Rattle.pm_consumer_files.specs.declared.lines.NamedConsumer.{NamedConsumer}
use Rattle.pm_read_schema.specs.AllCalls.{DidRead, HasFiles, ReadsTables, Stay}
use Rattle.pm_read_schema.specs.Beside.{AnyPast, IsTold, Learns}
use Rattle.pm_read_schema.proofs.BesideFacts.{learns-then, learns-weaker}
use Rattle.pm_read_latest.specs.AllCalls.{IsCaused}
use Rattle.pm_consumers.specs.AllCalls as lister
use Rattle.pm_consumers.specs.AllCalls.{AreConsumersOf, DidList, Listing}
use Rattle.pm_command.specs.Outside.{Outside, Prints}
use Rattle.pm_command.specs.Table.{MayRefuse}
use Rattle.pm_command.proofs.TableLemmas.{trace_weaker, files_of, leaves_of, rests_of, images_rest, caused}
use Rattle.pm_command_consumers.specs.Consumers.{AfterSchema, AnswersHistory, DidConsumers, IsListed, Keeps, KeepsHistories, ListsConsumers, ListsTables, MadeBeside, MakesLines, ShowsListing, text_of}
use Rattle.pm_command_consumers.proofs.JoinLemmas.{after_schema, read_then, rose_wider, stay_join}

-- ---- its calls

pub read_refused : (e : Refusal) (before after : StoreView) → HasTrace (DidRead (Err e)) before after → HasTrace (DidConsumers (Err e)) before after
read_refused e before after = trace_weaker (DidRead (Err e)) (DidConsumers (Err e)) (λ own shows. inl shows) before after

after_weaker : (P Q : List Event → Type 0) → ((own : List Event) → P own → Q own) → (own : List Event) → AfterSchema P own → AfterSchema Q own
after_weaker P Q weaker own (s, earlier, later, declared, has, next, at) = (s, earlier, later, declared, has, weaker later next, at)

pub listed_trace : (s : TableSchema) (result : Listing) (before middle after : StoreView) → IsDeclared s → HasTrace (DidRead (Ok s)) before middle
    → HasTrace (DidList result) middle after → HasTrace (DidConsumers result) before after
listed_trace s (Ok consumers) before middle after declared has listed = after_schema s (DidList (Ok consumers)) before middle after declared has listed
listed_trace s (Err e) before middle after declared has listed =
    trace_weaker (AfterSchema (DidList (Err e))) (DidConsumers (Err e)) (λ own did. inr (after_weaker (DidList (Err e)) (ShowsListing e) (λ later shows. inl shows) own did))
    before after (after_schema s (DidList (Err e)) before middle after declared has listed)

-- memory may run out for the text
memory_trace : (consumers : Vec NamedConsumer Global) (before after : StoreView) → HasTrace (DidConsumers (Ok consumers)) before after
    → HasTrace (DidConsumers (Err refusals.Memory)) before after
memory_trace consumers before after =
    trace_weaker (DidConsumers (Ok consumers)) (DidConsumers (Err refusals.Memory))
    (λ own did. inr (after_weaker (DidList (Ok consumers)) (ShowsListing refusals.Memory) (λ later listed. inr (refl, consumers.items, listed)) own did))
    before after

-- ---- what they show, whatever others do

pub read_beside : (e : Refusal) (before after : StoreView) → Learns AnyPast (IsTold e) before after → MadeBeside (Err e) before after
read_beside e before after told = told

-- of the schema's table no more is asked than that a history stands
stood : (s : TableSchema) (before after : StoreView) → Learns AnyPast (λ f p. IsTableOf s p.history) before after → Learns AnyPast AnyPast before after
stood s before after = learns-weaker AnyPast AnyPast (λ f p. IsTableOf s p.history) AnyPast before after (λ f p known. known) (λ f p stands of. tt)

pub listed_beside : (s : TableSchema) (result : Listing) (before middle after : StoreView) → Learns AnyPast (λ f p. IsTableOf s p.history) before middle
    → lister.ListsBeside middle after result → MadeBeside result before after
listed_beside s (Ok consumers) before middle after learned beside =
    learns-then AnyPast AnyPast AnyPast before middle after (stood s before middle learned) beside
listed_beside s (Err e) before middle after learned told =
    learns-then AnyPast AnyPast (IsTold e) before middle after (stood s before middle learned) told

-- where memory runs out for the text
memory_beside : (consumers : Vec NamedConsumer Global) (before after : StoreView) → MadeBeside (Ok consumers) before after → MadeBeside (Err refusals.Memory) before after
memory_beside consumers before after =
    learns-weaker AnyPast AnyPast AnyPast (IsTold refusals.Memory) before after (λ f p known. known) (λ f p stands known. tt)

-- ---- files that stay

-- they go on to stand for a history
keeps : (h : History) (f : Files) (first after : StoreView) (made : Listing) → HasFiles f first → Folder f h → Stay f first after → MakesLines h first after made
    → Keeps h first after made
keeps h f first after made has folder stay makes = record {
  makes = makes;
  rests = rests_of h f first after has stay.here folder;
  images = images_rest h f first after has folder stay.images;
}

a_table : (s : TableSchema) (h : History) → IsTableOf s h → h ≢ no_table
a_table s h is none = subst (IsTableOf s) none is

-- ---- what its calls do to histories

pub read_keeps : (e : Refusal) (before after : StoreView) → ReadsTables before after (Err e) → KeepsHistories before after (Err e)
read_keeps e before after reads = λ alone h stands.
    let first = at_first_own before after in
    let at = files_of (λ f. Folder f h) first stands in
    let read = reads alone at.0 h at.1 at.2 in
    keeps h at.0 first after (Err e) at.1 at.2 read.files (caused h first after e read.cause)

cause_of : (h : History) (first middle after : StoreView) (e : Refusal) → first.faults ≤ middle.faults → IsCaused middle after e → MayRefuse h first after e
cause_of h first middle after refusals.Memory wider is = tt
cause_of h first middle after (refusals.StoreFault path) wider is = rose_wider first.faults middle.faults after.faults wider is
cause_of h first middle after e wider is = absurd is

listed_makes : (f : Files) (h : History) (s : TableSchema) (first middle after : StoreView) (result : Listing) → HasFiles f first → IsTableOf s h
    → first.faults ≤ middle.faults → lister.ListsAll f middle after result → MakesLines h first after result
listed_makes f h s first middle after (Ok consumers) has is wider lists =
    (a_table s h is, leaves_of (λ f. AreConsumersOf f consumers.items) f first has lists.consumers)
listed_makes f h s first middle after (Err e) has is wider lists = cause_of h first middle after e wider lists.cause

-- what a listing promises of the files that stand at its first call
abbrev ListsAt : Listing → StoreView → StoreView → Type 0
ListsAt result first after = (f : Files) (h : History) → HasFiles f first → Folder f h → lister.ListsAll f first after result

pub listed_keeps : (s : TableSchema) (result : Listing) (before middle after : StoreView) → HasTrace (DidRead (Ok s)) before middle
    → ReadsTables before middle (Ok s) → HasTrace (DidList result) middle after → lister.ListsConsumers middle after result → KeepsHistories before after result
listed_keeps s result before middle after did reads does lists = λ alone h stands.
    let first = at_first_own before after in
    let at = files_of (λ f. Folder f h) first stands in
    let read = read_then (ListsAt result) (DidList result) s at.0 h before middle after alone at.1 at.2 did reads does lists in
    let list = read.next at.0 h read.stay.here at.2 in
    keeps h at.0 first after result at.1 at.2 (stay_join at.0 first middle after read.stay list.files)
    (listed_makes at.0 h s first middle after result at.1 read.schema read.wider list)

memory_keeps : (made : Listing) (before after : StoreView) → KeepsHistories before after made → KeepsHistories before after (Err refusals.Memory)
memory_keeps made before after kept = λ alone h stands. let was = kept alone h stands in record { makes = tt; rests = was.rests; images = was.images }

-- ---- and what was printed

pub refused_listed : (e : Refusal) (out : SinkView) (store after : StoreView) → HasTrace (DidConsumers (Err e)) store after → MadeBeside (Err e) store after
    → KeepsHistories store after (Err e) → IsListed out out store after (Some e)
refused_listed e out store after trace beside kept = (Err e, trace, beside, kept, (refl, refl))

pub memory_listed : (consumers : Vec NamedConsumer Global) (out : SinkView) (store after : StoreView) → HasTrace (DidConsumers (Ok consumers)) store after
    → MadeBeside (Ok consumers) store after → KeepsHistories store after (Ok consumers) → IsListed out out store after (Some refusals.Memory)
memory_listed consumers out store after trace beside kept =
    refused_listed refusals.Memory out store after (memory_trace consumers store after trace) (memory_beside consumers store after beside)
    (memory_keeps (Ok consumers) store after kept)

pub printed_listed : (consumers : Vec NamedConsumer Global) (text : List ℕ) (out out_after : SinkView) (store after : StoreView) (answer : Option Refusal)
    → text ≡ text_of (Ok consumers) → HasTrace (DidConsumers (Ok consumers)) store after → MadeBeside (Ok consumers) store after
    → KeepsHistories store after (Ok consumers) → Prints text None None out out_after answer → IsListed out out_after store after answer
printed_listed consumers text out out_after store after answer is trace beside kept prints =
    (Ok consumers, trace, beside, kept, subst (λ (text : List ℕ). Prints text None None out out_after answer) is prints)

pub listed_answers : (before after : Outside) (answer : Option Refusal) → IsListed before.out after.out before.store after.store answer → ListsConsumers before after answer
listed_answers before after answer (made, trace, beside, kept, prints) = (made, trace, beside, prints)

refusal_answers : (h : History) (first : StoreView) (before after : Outside) (e : Refusal) → MayRefuse h first after.store e → AnswersHistory h first before after (Some e)
refusal_answers h first before after (refusals.SinkFault snapshot) may = absurd may
refusal_answers h first before after e may = may

made_answers : (h : History) (first : StoreView) (before after : Outside) (made : Listing) (answer : Option Refusal) → MakesLines h first after.store made
    → Prints (text_of made) None (result_err made) before.out after.out answer → AnswersHistory h first before after answer
made_answers h first before after (Ok consumers) None (some, at) prints = (some, (consumers.items, at, prints))
made_answers h first before after (Ok consumers) (Some e) (some, at) (fault, failed, prefix) =
    subst (λ (e : Refusal). AnswersHistory h first before after (Some e)) (sym fault) (failed, some, (consumers.items, at, prefix))
made_answers h first before after (Err e) answer makes (is, untaken) =
    subst (AnswersHistory h first before after) (sym is) (refusal_answers h first before after e makes)

pub listed_serves : (before after : Outside) (answer : Option Refusal) → IsListed before.out after.out before.store after.store answer → ListsTables before after answer
listed_serves before after answer (made, trace, beside, kept, prints) = λ alone h stands.
    let first = at_first_own before.store after.store in
    let was = kept alone h stands in record {
      answers = made_answers h first before after made answer was.makes prints;
      rests = was.rests;
      images = was.images;
    }
