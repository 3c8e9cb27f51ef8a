-- Laws of `snapshots`: what is so of its calls, and of a history.
use Rattle.std.proofs.Common.{◌≡◌, ◌≢◌, inl, inr, ℕ, List, [], ◌∷◌, IfErr, IfOk, Option, None, Some, Result, Ok, Err, refl, sym, subst, ◌++◌, ap, append_assoc, ◌∙◌}
use Rattle.std.specs.Result.{result_err}
use Rattle.pm_values.specs.declared.refusal.Refusal.{Refusal}
use Rattle.pm_values.specs.declared.refusal.Refusal.TheVariants as refusals
use Rattle.pm_io.specs.Sink.{SinkView}
use Rattle.pm_store.specs.Files.{Files}
use Rattle.pm_store.specs.Store.{StoreView, at_first_own}
use Rattle.pm_machine.specs.Trace.{Event, HasTrace}
use Rattle.pm_model_history.specs.History.{History, IsTableOf, no_table}
use Rattle.pm_schema.specs.Again.{IsDeclared}
use Rattle.pm_schema.specs.declared.schema.TableSchema.{TableSchema}
use Rattle.pm_model_folder.specs.Folder.{Folder}
use Rattle.pm_read_schema.specs.AllCalls.{DidRead, HasFiles, Stay, ReadsTables}
use Rattle.pm_read_schema.specs.Beside.{AnyPast, IsTold, Learns}
use Rattle.pm_read_schema.proofs.BesideFacts.{learns-then, learns-weaker}
use Rattle.pm_read_schema.specs.Trace.{listed_snapshots}
use Rattle.pm_snapshots.specs.AllCalls as lister
use Rattle.pm_snapshots.specs.AllCalls.{AreLinesIn, AreLinesOf, GoesOnFrom, ListsBeside}
use Rattle.pm_snapshots.specs.Lister.{lines_of}
use Rattle.pm_snapshots.specs.Trace.{HasListed}
use Rattle.pm_snapshots.specs.declared.line.SnapshotLine.{SnapshotLine}
use Rattle.pm_snapshots.specs.declared.phase.Phase.{Phase}
use Rattle.pm_command.specs.Outside.{Outside, Prints}
use Rattle.pm_command.specs.Table.{MayRefuse}
use Rattle.pm_command.proofs.TableLemmas.{trace_weaker, files_of, leaves_of, rests_of, images_rest, caused}
use Rattle.pm_command_snapshots.specs.Snapshots.{DidSnapshots, text_of, ListsSnapshots, AnswersHistory, ListsTables, MadeBeside, made_of, MakesLines, Keeps, KeepsHistories, IsListed}

-- ---- its calls

pub read_refused : (e : Refusal) (before after : StoreView) → HasTrace (DidRead (Err e)) before after → HasTrace (DidSnapshots (made_of (Err e))) before after
read_refused e before after = trace_weaker (DidRead (Err e)) (DidSnapshots (Err e)) (λ own shows. inl shows) before after

pub listed_trace : (s : TableSchema) (result : Result Phase Refusal) (before after : StoreView) → IsDeclared s
    → HasTrace (lister.DidList s result) before after → HasTrace (DidSnapshots (made_of result)) before after
listed_trace s (Ok m) before after declared = trace_weaker (lister.DidList s (Ok m)) (DidSnapshots (Ok (lines_of m))) (λ own listed. (s, declared, listed)) before after
listed_trace s (Err e) before after declared = trace_weaker (lister.DidList s (Err e)) (DidSnapshots (Err e)) (λ own (from, shows). inr (s, declared, from, shows)) before after

-- the calls of the lines go on from the schema
listed_from : (s : TableSchema) (lines : List SnapshotLine) (own : List Event) → HasListed s lines own → GoesOnFrom s own
listed_from s lines own (names, earlier, reads, are, (before, has, listed), all, is) = (
  before,
  listed_snapshots names ∷ reads,
  has,
  is ∙ ap (λ (own : List Event). own ++ reads) listed ∙ append_assoc before (listed_snapshots names ∷ []) reads,
)

-- memory may run out for the text
memory_trace : (lines : List SnapshotLine) (before after : StoreView) → HasTrace (DidSnapshots (Ok lines)) before after → HasTrace (DidSnapshots (Err refusals.Memory)) before after
memory_trace lines before after =
    trace_weaker (DidSnapshots (Ok lines)) (DidSnapshots (Err refusals.Memory))
    (λ own (s, declared, listed). inr (s, declared, listed_from s lines own listed, inr (inr (s, lines, listed))))
    before after

-- ---- what they make known

-- calls that read the schema, and those of a listing after them
pub listed_known : (s : TableSchema) (result : Result Phase Refusal) (before middle after : StoreView) → HasTrace (lister.DidList s result) before after
    → Learns AnyPast (λ f p. IsTableOf s p.history) before middle → IfOk result (λ m. ListsBeside s (lines_of m) middle after)
    → IfErr result (λ e. Learns (λ f p. IsTableOf s p.history) (IsTold e) middle after) → MadeBeside (made_of result) before after
listed_known s (Err e) before middle after did learned lists refused =
    learns-then AnyPast (λ f p. IsTableOf s p.history) (IsTold e) before middle after learned refused
listed_known s (Ok m) before middle after did learned lists refused =
    (s, did, learns-then AnyPast (λ f p. IsTableOf s p.history) (λ f p. AreLinesIn s (lines_of m) p) before middle after learned lists)

-- or those that read no schema
pub read_known : (e : Refusal) (before after : StoreView) → Learns AnyPast (IsTold e) before after → MadeBeside (made_of (Err e)) before after
read_known e before after told = told

-- where memory runs out for the text that is told of what the lines are
memory_known : (lines : List SnapshotLine) (before after : StoreView) → MadeBeside (Ok lines) before after → MadeBeside (Err refusals.Memory) before after
memory_known lines before after (s, trace, learned) =
    learns-weaker AnyPast AnyPast (λ f p. AreLinesIn s lines p) (IsTold refusals.Memory) before after (λ f p known. known) (λ f p stands known. tt) learned

-- ---- files that stay

-- they go on to stand for a history
keeps : (h : History) (f : Files) (first after : StoreView) (made : Result (List SnapshotLine) Refusal) → HasFiles f first → Folder f h → Stay f first after
    → MakesLines h first after made → Keeps h first after made
keeps h f first after made has folder stay makes = record {
  makes = makes;
  rests = rests_of h f first after has stay.here folder;
  images = images_rest h f first after has folder stay.images;
}

a_table : (s : TableSchema) (h : History) → IsTableOf s h → h ≢ no_table
a_table s h is none = subst (IsTableOf s) none is

-- ---- what its calls do to histories

pub read_keeps : (e : Refusal) (before after : StoreView) → ReadsTables before after (Err e) → KeepsHistories before after (made_of (Err e))
read_keeps e before after reads = λ alone h stands.
    let first = at_first_own before after in
    let at = files_of (λ f. Folder f h) first stands in
    let read = reads alone at.0 h at.1 at.2 in
    keeps h at.0 first after (Err e) at.1 at.2 read.files (caused h first after e read.cause)

listed_makes : (f : Files) (h : History) (s : TableSchema) (first after : StoreView) (result : Result Phase Refusal) → HasFiles f first
    → lister.ListsTable f h s first after result → MakesLines h first after (made_of result)
listed_makes f h s first after (Ok m) has lists = (a_table s h lists.schema, leaves_of (λ f. AreLinesOf f (lines_of m)) f first has lists.lines)
listed_makes f h s first after (Err e) has lists = caused h first after e lists.cause

pub listed_keeps : (s : TableSchema) (result : Result Phase Refusal) (before after : StoreView) → lister.ListsTables s before after result
    → KeepsHistories before after (made_of result)
listed_keeps s result before after lists = λ alone h stands.
    let first = at_first_own before after in
    let at = files_of (λ f. Folder f h) first stands in
    let list = lists alone at.0 h at.1 at.2 in
    keeps h at.0 first after (made_of result) at.1 at.2 list.files (listed_makes at.0 h s first after result at.1 list)

memory_keeps : (lines : List SnapshotLine) (before after : StoreView) → KeepsHistories before after (Ok lines) → KeepsHistories before after (Err refusals.Memory)
memory_keeps lines before after kept = λ alone h stands. let was = kept alone h stands in record { makes = tt; rests = was.rests; images = was.images }

-- ---- and what was printed

pub refused_listed : (e : Refusal) (out : SinkView) (store after : StoreView) → HasTrace (DidSnapshots (made_of (Err e))) store after
    → MadeBeside (made_of (Err e)) store after → KeepsHistories store after (made_of (Err e)) → IsListed out out store after (Some e)
refused_listed e out store after trace beside kept = (Err e, trace, beside, kept, (refl, refl))

pub memory_listed : (m : Phase) (out : SinkView) (store after : StoreView) → HasTrace (DidSnapshots (made_of (Ok m))) store after
    → MadeBeside (made_of (Ok m)) store after → KeepsHistories store after (made_of (Ok m)) → IsListed out out store after (Some refusals.Memory)
memory_listed m out store after trace beside kept =
    (Err refusals.Memory, memory_trace (lines_of m) store after trace, memory_known (lines_of m) store after beside, memory_keeps (lines_of m) store after kept, (refl, refl))

pub printed_listed : (m : Phase) (text : List ℕ) (out out_after : SinkView) (store after : StoreView) (answer : Option Refusal) → text ≡ text_of (made_of (Ok m))
    → HasTrace (DidSnapshots (made_of (Ok m))) store after → MadeBeside (made_of (Ok m)) store after → KeepsHistories store after (made_of (Ok m)) → Prints text None None out out_after answer
    → IsListed out out_after store after answer
printed_listed m text out out_after store after answer is trace beside kept prints =
    (Ok (lines_of m), trace, beside, kept, subst (λ (text : List ℕ). Prints text None None out out_after answer) is prints)

pub listed_answers : (before after : Outside) (answer : Option Refusal) → IsListed before.out after.out before.store after.store answer → ListsSnapshots before after answer
listed_answers before after answer (made, trace, beside, kept, prints) = (made, trace, beside, prints)

refusal_answers : (h : History) (first : StoreView) (before after : Outside) (e : Refusal) → MayRefuse h first after.store e → AnswersHistory h first before after (Some e)
refusal_answers h first before after (refusals.SinkFault snapshot) may = absurd may
refusal_answers h first before after e may = may

made_answers : (h : History) (first : StoreView) (before after : Outside) (made : Result (List SnapshotLine) Refusal) (answer : Option Refusal)
    → MakesLines h first after.store made → Prints (text_of made) None (result_err made) before.out after.out answer → AnswersHistory h first before after answer
made_answers h first before after (Ok lines) None (some, at) prints = (some, (lines, at, prints))
made_answers h first before after (Ok lines) (Some e) (some, at) (fault, failed, prefix) =
    subst (λ (e : Refusal). AnswersHistory h first before after (Some e)) (sym fault) (failed, some, (lines, at, prefix))
made_answers h first before after (Err e) answer makes (is, untaken) =
    subst (AnswersHistory h first before after) (sym is) (refusal_answers h first before after e makes)

pub listed_serves : (before after : Outside) (answer : Option Refusal) → IsListed before.out after.out before.store after.store answer → ListsTables before after answer
listed_serves before after answer (made, trace, beside, kept, prints) = λ alone h stands.
    let first = at_first_own before.store after.store in
    let was = kept alone h stands in record {
      answers = made_answers h first before after made answer was.makes prints;
      rests = was.rests;
      images = was.images;
    }
