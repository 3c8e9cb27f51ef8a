-- Laws of `scan`: what is so of its calls, and of a history.
use Rattle.std.proofs.Common.{◌≡◌, inl, inr, ℕ, List, ◌++◌, IfErr, IfOk, Option, None, Some, IsSome, Result, Ok, Err, Vec, refl, sym, subst, ap, ◌∙◌}
use Rattle.std.specs.FinMap as map
use Rattle.std.specs.Global.{Global}
use Rattle.std.specs.Result.{result_err}
use Rattle.pm_base.specs.Known.{and_then}
use Rattle.pm_values.specs.declared.refusal.Refusal.{Refusal}
use Rattle.pm_values.specs.declared.refusal.Refusal.TheVariants as refusals
use Rattle.pm_io.specs.Sink.{SinkView, TookPrefix}
use Rattle.pm_store.specs.Files.{Files}
use Rattle.pm_store.specs.Store.{StoreView, at_first_own}
use Rattle.pm_machine.specs.Trace.{Event, HasTrace}
use Rattle.pm_machine.proofs.Facts.{Traces-join}
use Rattle.pm_model_history.specs.History.{History, IsTableOf, no_table, table}
use Rattle.pm_schema.specs.Again.{IsDeclared}
use Rattle.pm_schema.specs.declared.schema.TableSchema.{TableSchema}
use Rattle.pm_model_folder.specs.Folder.{Folder}
use Rattle.pm_model_folder.specs.Ledger.{count_of}
use Rattle.pm_read_schema.specs.AllCalls.{DidRead, HasFiles, Stay, ReadsTables}
use Rattle.pm_read_schema.specs.Beside.{AnyPast, IsTold, Learns}
use Rattle.pm_read_schema.proofs.BesideFacts.{learns-then}
use Rattle.pm_scan.specs.AllCalls as scanner
use Rattle.pm_scan.specs.AllCalls.{id_of, path_of, text_in, NamesAsked, PrintsScan}
use Rattle.pm_scan.specs.Beside.{ScansBeside, TellsBeside}
use Rattle.pm_scan.specs.Meaning.{IsScan}
use Rattle.pm_command.specs.Outside.{Outside, Prints}
use Rattle.pm_command.specs.Table as tables
use Rattle.pm_command_scan.specs.Scan.{DidScan, text_of, Scans, MayRefuse, IsThere, PrintsTable, PrintsPrefix, AnswersHistory, ScansTables, MadeBeside, MakesText, Keeps, KeepsHistories, IsScanned}
use Rattle.pm_command.proofs.TableLemmas.{trace_weaker, files_of, leaves_of, rests_of, images_rest, caused}

-- ---- its calls

pub read_refused : (at : Option ℕ) (e : Refusal) (before after : StoreView) → HasTrace (DidRead (Err e)) before after → HasTrace (DidScan at (Err e)) before after
read_refused at e before after = trace_weaker (DidRead (Err e)) (DidScan at (Err e)) (λ own shows. inl shows) before after

pub scanned_trace : (at : Option ℕ) (s : TableSchema) (made : Result (List ℕ) Refusal) (before after : StoreView) → IsDeclared s
    → HasTrace (scanner.DidScan s at made) before after → HasTrace (DidScan at made) before after
scanned_trace at s (Ok text) before after declared = trace_weaker (scanner.DidScan s at (Ok text)) (DidScan at (Ok text)) (λ own did. (s, declared, did)) before after
scanned_trace at s (Err e) before after declared = trace_weaker (scanner.DidScan s at (Err e)) (DidScan at (Err e)) (λ own did. inr (s, declared, did)) before after

-- ---- what they make known

-- where no schema is read, no snapshot is named
read_names : (at : Option ℕ) (e : Refusal) (own : List Event) → DidRead (Err e) own → NamesAsked at e
read_names at (refusals.NoSnapshot id latest) own shows = absurd shows
read_names at (refusals.Expired id) own shows = absurd shows
read_names at e own shows = tt

pub read_beside : (at : Option ℕ) (e : Refusal) (before after : StoreView) → HasTrace (DidRead (Err e)) before after → Learns AnyPast (IsTold e) before after
    → MadeBeside at (Err e) before after
read_beside at e before after (own, shows, trace) told = (read_names at e own shows, told)

-- calls that read the schema, and those of a scan after them
pub scanned_beside : (at : Option ℕ) (s : TableSchema) (made : Result (Vec ℕ Global) Refusal) (before middle after : StoreView)
    → HasTrace (DidRead (Ok s)) before middle → Learns AnyPast (λ f p. IsTableOf s p.history) before middle
    → IfOk made (λ text. ScansBeside s at text.items middle after) → IfErr made (λ refusal. TellsBeside s refusal middle after)
    → IfErr made (NamesAsked at) → MadeBeside at (text_in made) before after
scanned_beside at s (Err e) before middle after read learned scans told names =
    (names, learns-then AnyPast (λ f p. IsTableOf s p.history) (IsTold e) before middle after learned told)
scanned_beside at s (Ok text) before middle after (earlier, did, first) learned (id, (later, has, then_came), knows) told names = (
  s,
  id,
  (earlier ++ later, (earlier, later, did, has, refl), Traces-join earlier later before middle after first then_came),
  learns-then AnyPast (λ f p. IsTableOf s p.history) (λ f p. IsScan p id text.items) before middle after learned knows,
)

-- ---- files that stay

-- files that stay go on to stand for a history
keeps : (h : History) (at : Option ℕ) (f : Files) (first after : StoreView) (made : Result (List ℕ) Refusal) → HasFiles f first → Folder f h
    → Stay f first after → MakesText h at first after made → Keeps h at first after made
keeps h at f first after made has folder stay makes = record {
  makes = makes;
  rests = rests_of h f first after has stay.here folder;
  images = images_rest h f first after has folder stay.images;
}

-- ---- what a history may be refused for

as_listing : (h : History) (at : Option ℕ) (first after : StoreView) (e : Refusal) → tables.MayRefuse h first after e → MayRefuse h at first after e
as_listing h at first after (refusals.NoSnapshot id latest) may = absurd may
as_listing h at first after (refusals.Expired id) may = absurd may
as_listing h at first after e may = may

scan_caused : (f : Files) (s : TableSchema) (h : History) (at : Option ℕ) (first after : StoreView) (e : Refusal) → HasFiles f first → IsTableOf s h
    → IsDeclared s → scanner.IsCaused f s h at first after e → MayRefuse h at first after e
scan_caused f s h at first after refusals.Memory has is declared cause = tt
scan_caused f s h at first after (refusals.StoreFault path) has is declared cause = cause
scan_caused f s h at first after (refusals.NoSnapshot id latest) has is declared (asked, newest, above) =
    ((s, is, declared), asked, newest, above)
scan_caused f s h at first after (refusals.Expired id) has is declared (asked, within, gone) =
    ((s, is, declared), asked, within, (s, is, leaves_of (λ f. map.get f (path_of s id) ≡ None) f first has gone))
scan_caused f s h at first after e has is declared cause = absurd cause

-- ---- what its calls do to histories

pub read_keeps : (at : Option ℕ) (e : Refusal) (before after : StoreView) → ReadsTables before after (Err e) → KeepsHistories at before after (Err e)
read_keeps at e before after reads = λ alone h stands.
    let first = at_first_own before after in
    let files = files_of (λ f. Folder f h) first stands in
    let read = reads alone files.0 h files.1 files.2 in
    keeps h at files.0 first after (Err e) files.1 files.2 read.files (as_listing h at first after e (caused h first after e read.cause))

is_there : (f : Files) (s : TableSchema) (h : History) (id : ℕ) (first : StoreView) → HasFiles f first → IsTableOf s h
    → scanner.IsThere f s h id → IsThere h id first
is_there f s h id first has is (within, there) =
    (within, (s, is, leaves_of (λ f. IsSome (map.get f (path_of s id))) f first has there))

scanned_makes : (f : Files) (h : History) (s : TableSchema) (at : Option ℕ) (first after : StoreView) (made : Result (List ℕ) Refusal) → HasFiles f first
    → IsDeclared s → scanner.ScansTable f h s at first after made → MakesText h at first after made
scanned_makes f h s at first after (Ok text) has declared scans =
    (is_there f s h (id_of at (count_of h)) first has scans.schema scans.there, scans.text)
scanned_makes f h s at first after (Err e) has declared scans = scan_caused f s h at first after e has scans.schema declared scans.cause

pub scanned_keeps : (at : Option ℕ) (s : TableSchema) (made : Result (List ℕ) Refusal) (before after : StoreView) → IsDeclared s → scanner.ScansTables s at before after made
    → KeepsHistories at before after made
scanned_keeps at s made before after declared scans = λ alone h stands.
    let first = at_first_own before after in
    let files = files_of (λ f. Folder f h) first stands in
    let scan = scans alone files.0 h files.1 files.2 in
    keeps h at files.0 first after made files.1 files.2 scan.files (scanned_makes files.0 h s at first after made files.1 declared scan)

-- ---- and what was printed

pub refused_scanned : (at : Option ℕ) (e : Refusal) (out : SinkView) (store after : StoreView) → HasTrace (DidScan at (Err e)) store after
    → MadeBeside at (Err e) store after → KeepsHistories at store after (Err e) → IsScanned at out out store after (Some e)
refused_scanned at e out store after trace beside kept = (Err e, trace, beside, kept, (refl, refl))

pub printed_scanned : (at : Option ℕ) (text printed : List ℕ) (out out_after : SinkView) (store after : StoreView) (answer : Option Refusal)
    → printed ≡ text → HasTrace (DidScan at (Ok text)) store after → MadeBeside at (Ok text) store after → KeepsHistories at store after (Ok text)
    → Prints printed None None out out_after answer → IsScanned at out out_after store after answer
printed_scanned at text printed out out_after store after answer is trace beside kept prints =
    (Ok text, trace, beside, kept, subst (λ (text : List ℕ). Prints text None None out out_after answer) is prints)

pub scanned_answers : (at : Option ℕ) (before after : Outside) (answer : Option Refusal) → IsScanned at before.out after.out before.store after.store answer → Scans at before after answer
scanned_answers at before after answer (made, trace, beside, kept, prints) = (made, trace, beside, prints)

-- the scan of a history was printed
prints_table : (h : History) (at : Option ℕ) (text : List ℕ) (before after : SinkView) → PrintsScan h at text
    → after.taken ≡ and_then before.taken text → PrintsTable h at before after
prints_table no_table at text before after is taken = absurd is
prints_table (table s entries) at text before after is taken = taken ∙ ap (and_then before.taken) is

-- or a prefix of it was
prints_prefix : (h : History) (at : Option ℕ) (text : List ℕ) (before after : SinkView) → PrintsScan h at text
    → TookPrefix before.taken after.taken text → PrintsPrefix h at before after
prints_prefix no_table at text before after is prefix = absurd is
prints_prefix (table s entries) at text before after is prefix = subst (TookPrefix before.taken after.taken) is prefix

refusal_answers : (h : History) (at : Option ℕ) (first : StoreView) (before after : Outside) (e : Refusal) → MayRefuse h at first after.store e
    → AnswersHistory h at first before after (Some e)
refusal_answers h at first before after (refusals.SinkFault snapshot) may = absurd may
refusal_answers h at first before after e may = may

made_answers : (h : History) (at : Option ℕ) (first : StoreView) (before after : Outside) (made : Result (List ℕ) Refusal) (answer : Option Refusal)
    → MakesText h at first after.store made → Prints (text_of made) None (result_err made) before.out after.out answer → AnswersHistory h at first before after answer
made_answers h at first before after (Ok text) None (there, makes) prints = (there, prints_table h at text before.out after.out makes prints)
made_answers h at first before after (Ok text) (Some e) (there, makes) (fault, failed, prefix) =
    subst (λ (e : Refusal). AnswersHistory h at first before after (Some e)) (sym fault)
    (failed, there, prints_prefix h at text before.out after.out makes prefix)
made_answers h at first before after (Err e) answer makes (is, untaken) =
    subst (AnswersHistory h at first before after) (sym is) (refusal_answers h at first before after e makes)

pub scanned_serves : (at : Option ℕ) (before after : Outside) (answer : Option Refusal) → IsScanned at before.out after.out before.store after.store answer → ScansTables at before after answer
scanned_serves at before after answer (made, trace, beside, kept, prints) = λ alone h stands.
    let first = at_first_own before.store after.store in
    let was = kept alone h stands in record {
      answers = made_answers h at first before after made answer was.makes prints;
      rests = was.rests;
      images = was.images;
    }
