-- A reader of what an expiry needs to know keeps the laws of machines.
use Rattle.std.proofs.Common.{◌≡◌, ◌⊎◌, inl, inr, ℕ, ◌+◌, ◌<◌, List, [], ◌∷◌, ◌++◌, Option, None, Some, IsSome, IfSome, refl, sym, ap, ◌∙◌, subst, arith, append_assoc}
use Rattle.std.proofs.lemmas.List.{append-nil}
use Rattle.std.proofs.lemmas.Option.{IfSome_then}
use Rattle.pm_values.specs.declared.refusal.Refusal.{Refusal}
use Rattle.pm_values.specs.declared.refusal.Refusal.TheVariants as refusals
use Rattle.pm_store.specs.declared.answer.Answer.{Answer}
use Rattle.pm_store.specs.declared.answer.Answer.TheVariants as answers
use Rattle.pm_store.specs.declared.call.Call.{Call}
use Rattle.pm_store.specs.Answers.{Answers, MayAnswer}
use Rattle.pm_store.specs.Files.{Files}
use Rattle.pm_store.specs.Images.{MayLeave}
use Rattle.pm_machine.specs.Moves.{IsKept, Sound}
use Rattle.pm_machine.specs.Running.{Refuses, Stops}
use Rattle.pm_machine.specs.Step.{path_of}
use Rattle.pm_machine.specs.Trace.{Event, Recounts, answered, faulted}
use Rattle.pm_machine.proofs.PhaseFacts.{Spares, image_spared, sound_of_spared}
use Rattle.pm_model_folder.specs.Changes.{Actor}
use Rattle.pm_model_folder.specs.Ledger.{Advances, Past, Stands}
use Rattle.pm_model_folder.specs.Paths.{floor_folder}
use Rattle.pm_read_schema.specs.Trace.{Names}
use Rattle.pm_read_schema.proofs.Facts.{list_effect}
use Rattle.pm_snapshots.specs.Lister as lister
use Rattle.pm_snapshots.specs.Reading.{ReadingView, add_line, reading_of}
use Rattle.pm_snapshots.specs.Trace as listing_trace
use Rattle.pm_snapshots.specs.declared.line.SnapshotLine.{SnapshotLine}
use Rattle.pm_snapshots.specs.declared.phase.Phase as listing
use Rattle.pm_snapshots.specs.declared.phase.Phase.TheVariants as listers
use Rattle.pm_snapshots.proofs.Facts as listing_facts
use Rattle.pm_consumers.specs.Lister as consumers
use Rattle.pm_consumers.specs.Trace as consumers_trace
use Rattle.pm_consumers.specs.declared.phase.Phase as consuming
use Rattle.pm_consumers.specs.declared.phase.Phase.TheVariants as consumer_listers
use Rattle.pm_consumers.proofs.Facts as consumers_facts
use Rattle.pm_read_expiry.specs.Found.{IsFoundIn, IsNoneFound}
use Rattle.pm_read_expiry.specs.Meaning.{Knows, KnowsLister}
use Rattle.pm_read_expiry.specs.Reader.{next_call, calls_left, AfterConsumers, AfterSnapshots, AfterTimes, Goes, IsReader, IsReady, Shown}
use Rattle.pm_read_expiry.specs.Reader.{all_consumers, all_times, more_consumers, more_times, none_listed, some_listed}
use Rattle.pm_read_expiry.specs.Times.{times_of}
use Rattle.pm_read_expiry.specs.Trace as trace
use Rattle.pm_read_expiry.specs.Trace.{listed_floors, Did, HasConsumers, HasFloors, HasFound, HasIds, HasLines, HasTimes, Shows}
use Rattle.pm_read_expiry.specs.declared.asking.Asking.{Asking}
use Rattle.pm_read_expiry.specs.declared.asking.Listed.{Listed}
use Rattle.pm_read_expiry.specs.declared.phase.Phase.{Phase}
use Rattle.pm_read_expiry.specs.declared.phase.Phase.TheVariants as phases
use Rattle.pm_read_expiry.proofs.KnowsLemmas.{GoneStays, found_known, found_still, lister_next, lister_still, none_known}
use Rattle.pm_read_expiry.proofs.ListLemmas.{list_lister, listed_to, no_first, read_to}

-- ---- its calls change nothing

pub spares : (m : Phase) (f : Files) → IfSome (next_call m) (Spares f)
spares (phases.Snapshots a m) f = listing_facts.spares m f
spares (phases.Floors a m) f = λ effect. list_effect floor_folder effect f
spares (phases.Consumers l c) f = consumers_facts.spares c f
spares (phases.Times l next) f = listing_facts.spares l.lister f
spares (phases.Ready x) f = tt
spares phases.Over f = tt

-- ---- what it knows

snapshots_known : (a : Asking) (to : listing.Phase) (new : Phase) (f : Files) (p : Past) → AfterSnapshots a to new → KnowsLister a to f p → Knows new f p
snapshots_known a to new f p (none_listed x done none is) known = subst (λ (m : Phase). Knows m f p) (sym is) (none_known a to x f p known none)
snapshots_known a to new f p (some_listed more is) known = subst (λ (m : Phase). Knows m f p) (sym is) known

consumers_known : (l : Listed) (to : consuming.Phase) (new : Phase) (f : Files) (p : Past) → AfterConsumers l to new → KnowsLister l.asking l.lister f p
    → Knows new f p
consumers_known l to new f p (more_consumers more is) known = subst (λ (m : Phase). Knows m f p) (sym is) known
consumers_known l to new f p (all_consumers next done least is) known = subst (λ (m : Phase). Knows m f p) (sym is) known

times_known : (a : Asking) (to : listing.Phase) (floors : Names) (next : Option ℕ) (new : Phase) (f : Files) (p : Past) → AfterTimes a to floors next new
    → KnowsLister a to f p → Knows new f p
times_known a to floors next new f p (more_times more is) known = subst (λ (m : Phase). Knows m f p) (sym is) known
times_known a to floors next new f p (all_times x done found is) known =
    subst (λ (m : Phase). Knows m f p) (sym is) (found_known a to next floors.items x f p known done found)

-- what is so is so whatever a call was answered
whatever : (next : Option Call) (answer : Answer) (f : Files) (X : Type 0) → X → IfSome next (λ call. Answers call answer f → X)
whatever None answer f X so = tt
whatever (Some call) answer f X so = λ told. so

-- what an answer leads to is known of the same files
knows_next : (m : Phase) (answer : Answer) (new : Phase) (f : Files) (p : Past) → Goes m answer new → Stands f p → Knows m f p
    → IfSome (next_call m) (λ call. Answers call answer f → Knows new f p)
knows_next (phases.Snapshots a m) answer new f p (to, on, after) stands known =
    IfSome_then (lister.next_call m) (lister_next a f p stands m to answer on known) (λ call next told. snapshots_known a to new f p after (next told))
knows_next (phases.Floors a m) (answers.Listed names) new f p is stands known = λ told. subst (λ (m : Phase). Knows m f p) (sym is) known
knows_next (phases.Consumers l c) answer new f p (to, on, after) stands known =
    whatever (consumers.next_call c) answer f (Knows new f p) (consumers_known l to new f p after known)
knows_next (phases.Times l next) answer new f p (to, on, after) stands known =
    IfSome_then (lister.next_call l.lister) (lister_next l.asking f p stands l.lister to answer on known)
    (λ call knows told. times_known l.asking to l.floors next new f p after (knows told))
knows_next m answer new f p goes stands known = absurd goes

pub sound : Sound next_call Goes (Refuses Shown phases.Over) (Stops phases.Over) Stands (λ m. IsKept) Knows
sound = sound_of_spared next_call Goes Shown phases.Over Stands Knows spares knows_next (λ f p. tt)

-- ---- its calls

-- a call more of the lister of consumers
floors_with : (a : Asking) (ids : List ℕ) (floors : List (List ℕ)) (P Q : List Event → Type 0) (own : List Event) (event : Event)
    → (has : HasFloors a ids floors P own) → Q (has.rest ++ event ∷ []) → HasFloors a ids floors Q (own ++ event ∷ [])
floors_with a ids floors P Q own event has then = record {
  first = has.first;
  names = has.names;
  rest = has.rest ++ event ∷ [];
  listed = has.listed;
  are = has.are;
  then_consumers = then;
  is = ap (λ (own : List Event). own ++ event ∷ []) has.is ∙ append_assoc has.first (listed_floors has.names ∷ has.rest) (event ∷ []);
}

-- the same calls, of which more is said
floors_so : (a : Asking) (ids : List ℕ) (floors : List (List ℕ)) (P Q : List Event → Type 0) (own : List Event)
    → (has : HasFloors a ids floors P own) → Q has.rest → HasFloors a ids floors Q own
floors_so a ids floors P Q own has then = record {
  first = has.first;
  names = has.names;
  rest = has.rest;
  listed = has.listed;
  are = has.are;
  then_consumers = then;
  is = has.is;
}

-- a read of a snapshot more
times_with : (a : Asking) (ids : List ℕ) (floors : List (List ℕ)) (next : Option ℕ) (P Q : List Event → Type 0) (own : List Event) (event : Event)
    → (has : HasTimes a ids floors next P own) → Q ((has.listed.first ++ has.reads) ++ event ∷ []) → HasTimes a ids floors next Q (own ++ event ∷ [])
times_with a ids floors next P Q own event has then = record {
  before = has.before;
  reads = has.reads ++ event ∷ [];
  listed = has.listed;
  then_reads = subst Q (append_assoc has.listed.first has.reads (event ∷ [])) then;
  is = ap (λ (own : List Event). own ++ event ∷ []) has.is ∙ append_assoc has.before has.reads (event ∷ []);
}

times_so : (a : Asking) (ids : List ℕ) (floors : List (List ℕ)) (next : Option ℕ) (P Q : List Event → Type 0) (own : List Event)
    → (has : HasTimes a ids floors next P own) → Q (has.listed.first ++ has.reads) → HasTimes a ids floors next Q own
times_so a ids floors next P Q own has then =
    record { before = has.before; reads = has.reads; listed = has.listed; then_reads = then; is = has.is }

-- none was read yet
times_first : (a : Asking) (ids : List ℕ) (floors : List (List ℕ)) (next : Option ℕ) (own : List Event) → HasFloors a ids floors (HasConsumers next) own
    → HasLines a floors next (reading_of a.schema ids []) own
times_first a ids floors next own has = record {
  schema = refl;
  read = record {
    before = own;
    reads = [];
    listed = has;
    then_reads = subst (listing_trace.HasRead (reading_of a.schema ids [])) (sym (append-nil has.first)) has.listed;
    is = sym (append-nil own);
  };
}

-- what the lister has done after its first call
ids_did : (a : Asking) (m to : listing.Phase) (answer : Answer) (own : List Event) → m ≡ listers.List a.schema → lister.Goes m answer to → listing_trace.Did to own
    → (ids : List ℕ) × (to ≡ listers.Read (reading_of a.schema ids [])) × HasIds a ids own
ids_did a m to answer own at on did =
    let went = listed_to a.schema answer to (subst (λ (m : listing.Phase). lister.Goes m answer to) at on) in
    (went.0, went.2, subst (λ (m : listing.Phase). listing_trace.Did m own) went.2 did)

snapshots_did : (a b : Asking) (to : listing.Phase) (new : Phase) (own : List Event) → b ≡ a → AfterSnapshots b to new
    → (ids : List ℕ) × (to ≡ listers.Read (reading_of a.schema ids [])) × HasIds a ids own → Did a new own
snapshots_did a b to new own same (none_listed x done none is) (ids, at, has) =
    let no_id : ids ≡ [] = no_first ids (subst lister.IsDone at done) in
    let found : HasFound a x own = trace.none_listed (subst (λ (b : Asking). IsNoneFound b x) same none) (subst (λ (ids : List ℕ). HasIds a ids own) no_id has) in
    subst (λ (m : Phase). Did a m own) (sym is) found
snapshots_did a b to new own same (some_listed more is) has = subst (λ (m : Phase). Did a m own) (sym is) (same, has)

consumers_did : (a : Asking) (l : Listed) (to : consuming.Phase) (new : Phase) (ids : List ℕ) (own : List Event) → AfterConsumers l to new → l.asking ≡ a
    → l.lister ≡ listers.Read (reading_of a.schema ids []) → HasFloors a ids l.floors.items (consumers_trace.Did to) own → Did a new own
consumers_did a l to new ids own (more_consumers more is) same at has = subst (λ (m : Phase). Did a m own) (sym is) (same, (ids, at, has))
consumers_did a l to new ids own (all_consumers next done least is) same at has =
    let listed : HasConsumers next has.rest = (consumers.consumers_in to, consumers_facts.listed_all to has.rest done has.then_consumers, least) in
    let read = times_first a ids l.floors.items next own (floors_so a ids l.floors.items (consumers_trace.Did to) (HasConsumers next) own has listed) in
    subst (λ (m : Phase). Did a m own) (sym is) (same, (reading_of a.schema ids [], at, read))

-- a line more was read
lines_more : (a : Asking) (floors : List (List ℕ)) (next : Option ℕ) (r : ReadingView) (l : SnapshotLine) (own : List Event) (event : Event)
    → (has : HasLines a floors next r own)
    → listing_trace.HasRead (add_line r l) ((has.read.listed.first ++ has.read.reads) ++ event ∷ []) → HasLines a floors next (add_line r l) (own ++ event ∷ [])
lines_more a floors next r l own event has read = record {
  schema = has.schema;
  read = times_with a r.ids floors next (listing_trace.HasRead r) (listing_trace.HasRead (add_line r l)) own event has.read read;
}

times_did : (a b : Asking) (to : listing.Phase) (floors : Names) (next : Option ℕ) (new : Phase) (r : ReadingView) (own : List Event)
    → AfterTimes b to floors next new → b ≡ a → to ≡ listers.Read r → HasLines a floors.items next r own → Did a new own
times_did a b to floors next new r own (more_times more is) same at has = subst (λ (m : Phase). Did a m own) (sym is) (same, (r, at, has))
times_did a b to floors next new r own (all_times x done found is) same at has =
    let read : IsFoundIn b (times_of r.lines) next floors.items x = subst (λ (m : listing.Phase). IsFoundIn b (times_of (lister.lines_of m)) next floors.items x) at found in
    let all : HasFound a x own = trace.all_read floors.items next r has (subst lister.IsDone at done) (subst (λ (b : Asking). IsFoundIn b (times_of r.lines) next floors.items x) same read) in
    subst (λ (m : Phase). Did a m own) (sym is) all

-- the lister's calls so far
lines_did : (a : Asking) (m : listing.Phase) (floors : List (List ℕ)) (next : Option ℕ) (r : ReadingView) (own : List Event) → m ≡ listers.Read r
    → (has : HasLines a floors next r own) → listing_trace.Did m (has.read.listed.first ++ has.read.reads)
lines_did a m floors next r own at has =
    subst (λ (m : listing.Phase). listing_trace.Did m (has.read.listed.first ++ has.read.reads)) (sym at) has.read.then_reads

went_times : (a : Asking) (l : Listed) (next : Option ℕ) (to : listing.Phase) (new : Phase) (answer : Answer) (r : ReadingView) (own : List Event)
    → l.asking ≡ a → l.lister ≡ listers.Read r → lister.Goes l.lister answer to → AfterTimes l.asking to l.floors next new → HasLines a l.floors.items next r own
    → IfSome (lister.next_call l.lister) (λ call. MayAnswer call answer → Did a new (own ++ answered call answer ∷ []))
went_times a l next to new answer r own same at on after has =
    let read = read_to r answer to (subst (λ (m : listing.Phase). lister.Goes m answer to) at on) in
    IfSome_then (lister.next_call l.lister)
    (listing_facts.recounts.went l.lister to answer (has.read.listed.first ++ has.read.reads) on (lines_did a l.lister l.floors.items next r own at has))
    (λ call did may.
    let event : Event = answered call answer in
    let more : listing_trace.HasRead (add_line r read.0) ((has.read.listed.first ++ has.read.reads) ++ event ∷ []) =
    subst (λ (m : listing.Phase). listing_trace.Did m ((has.read.listed.first ++ has.read.reads) ++ event ∷ [])) read.2 (did may) in
    times_did a l.asking to l.floors next new (add_line r read.0) (own ++ event ∷ []) after same read.2
    (lines_more a l.floors.items next r read.0 own event has more))

went_on : (a : Asking) (m : Phase) (answer : Answer) (new : Phase) (own : List Event) → Goes m answer new → Did a m own
    → IfSome (next_call m) (λ call. MayAnswer call answer → Did a new (own ++ answered call answer ∷ []))
went_on a (phases.Snapshots b m) answer new own (to, on, after) (same, at, did) =
    IfSome_then (lister.next_call m)
    (listing_facts.recounts.went m to answer own on (subst (λ (m : listing.Phase). listing_trace.Did m own) (sym at) did))
    (λ call did may. snapshots_did a b to new (own ++ answered call answer ∷ []) same after
    (ids_did a m to answer (own ++ answered call answer ∷ []) at on (did may)))
went_on a (phases.Floors b m) (answers.Listed names) new own is (same, (ids, at, has)) = λ may.
    let floors : HasFloors a ids names.items (consumers_trace.Did consumer_listers.List) (own ++ listed_floors names ∷ []) = record {
      first = own;
      names = names;
      rest = [];
      listed = has;
      are = refl;
      then_consumers = refl;
      is = refl;
    } in
    subst (λ (m : Phase). Did a m (own ++ listed_floors names ∷ [])) (sym is) (same, (ids, at, floors))
went_on a (phases.Consumers l c) answer new own (to, on, after) (same, (ids, at, has)) =
    IfSome_then (consumers.next_call c) (consumers_facts.recounts.went c to answer has.rest on has.then_consumers)
    (λ call did may. consumers_did a l to new ids (own ++ answered call answer ∷ []) after same at
    (floors_with a ids l.floors.items (consumers_trace.Did c) (consumers_trace.Did to) own (answered call answer) has (did may)))
went_on a (phases.Times l next) answer new own (to, on, after) (same, (r, at, has)) = went_times a l next to new answer r own same at on after has
went_on a m answer new own goes did = absurd goes

-- ---- what they show

-- memory ran out once all times were read
unfound : (a : Asking) (m to : listing.Phase) (answer : Answer) (floors : List (List ℕ)) (next : Option ℕ) (r : ReadingView) (refusal : Refusal)
    (own : List Event) → m ≡ listers.Read r → refusal ≡ refusals.Memory → lister.Goes m answer to → lister.IsDone to → HasLines a floors next r own
    → IfSome (lister.next_call m) (λ call. MayAnswer call answer → Shows a refusal (own ++ answered call answer ∷ []))
unfound a m to answer floors next r refusal own at is on done has =
    let read = read_to r answer to (subst (λ (m : listing.Phase). lister.Goes m answer to) at on) in
    let calls : List Event = has.read.listed.first ++ has.read.reads in
    IfSome_then (lister.next_call m) (listing_facts.recounts.went m to answer calls on (lines_did a m floors next r own at has))
    (λ call did may.
    let event : Event = answered call answer in
    let more : listing_trace.HasRead (add_line r read.0) (calls ++ event ∷ []) =
    subst (λ (m : listing.Phase). listing_trace.Did m (calls ++ event ∷ [])) read.2 (did may) in
    let listed = listing_facts.printed (listers.Read (add_line r read.0)) r.schema (calls ++ event ∷ []) more.4 (subst lister.IsDone read.2 done) refl more in
    let shows : listing_trace.Shows refusals.Memory (calls ++ event ∷ []) = inr (inr (r.schema, r.lines ++ read.0 ∷ [], listed)) in
    let times = times_with a r.ids floors next (listing_trace.HasRead r) (listing_trace.Shows refusals.Memory) own event has.read shows in
    subst (λ (refusal : Refusal). Shows a refusal (own ++ event ∷ [])) (sym is) (inr (inr (inr (r.ids, floors, next, times)))))

refused_on : (a : Asking) (m : Phase) (answer : Answer) (refusal : Refusal) (own : List Event) → Shown m answer refusal → Did a m own
    → IfSome (next_call m) (λ call. MayAnswer call answer → Shows a refusal (own ++ answered call answer ∷ []))
refused_on a (phases.Snapshots b m) answer refusal own shown (same, at, did) =
    IfSome_then (lister.next_call m)
    (listing_facts.recounts.refused m listers.Over answer refusal own (shown, refl) (subst (λ (m : listing.Phase). listing_trace.Did m own) (sym at) did))
    (λ call shows may. inl (shows may).1)
refused_on a (phases.Consumers l c) answer refusal own shown (same, (ids, at, has)) =
    IfSome_then (consumers.next_call c) (consumers_facts.recounts.refused c consumer_listers.Over answer refusal has.rest (shown, refl) has.then_consumers)
    (λ call shows may. inr (inr (inl (
      ids,
      l.floors.items,
      floors_with a ids l.floors.items (consumers_trace.Did c) (consumers_trace.Shows refusal) own (answered call answer) has (shows may).1,
    ))))
refused_on a (phases.Times l next) answer refusal own (inl (is, (to, on, done))) (same, (r, at, has)) =
    unfound a l.lister to answer l.floors.items next r refusal own at is on done has
refused_on a (phases.Times l next) answer refusal own (inr shown) (same, (r, at, has)) =
    IfSome_then (lister.next_call l.lister)
    (listing_facts.recounts.refused l.lister listers.Over answer refusal (has.read.listed.first ++ has.read.reads) (shown, refl)
    (lines_did a l.lister l.floors.items next r own at has))
    (λ call shows may. inr (inr (inr (
      r.ids,
      l.floors.items,
      next,
      times_with a r.ids l.floors.items next (listing_trace.HasRead r) (listing_trace.Shows refusal) own (answered call answer) has.read (shows may).1,
    ))))
refused_on a m answer refusal own shown did = absurd shown

failed_on : (a : Asking) (m : Phase) (own : List Event) → Did a m own
    → IfSome (next_call m) (λ call. Shows a (refusals.StoreFault (path_of call)) (own ++ faulted call ∷ []))
failed_on a (phases.Snapshots b m) own (same, at, did) =
    IfSome_then (lister.next_call m)
    (listing_facts.recounts.failed m listers.Over own refl (subst (λ (m : listing.Phase). listing_trace.Did m own) (sym at) did)) (λ call shows. inl shows.1)
failed_on a (phases.Floors b m) own (same, (ids, at, has)) = inr (inl (ids, own, has, refl, refl))
failed_on a (phases.Consumers l c) own (same, (ids, at, has)) =
    IfSome_then (consumers.next_call c) (consumers_facts.recounts.failed c consumer_listers.Over has.rest refl has.then_consumers)
    (λ call shows. inr (inr (inl (
      ids,
      l.floors.items,
      floors_with a ids l.floors.items (consumers_trace.Did c) (consumers_trace.Shows (refusals.StoreFault (path_of call))) own (faulted call) has shows.1,
    ))))
failed_on a (phases.Times l next) own (same, (r, at, has)) =
    IfSome_then (lister.next_call l.lister)
    (listing_facts.recounts.failed l.lister listers.Over (has.read.listed.first ++ has.read.reads) refl (lines_did a l.lister l.floors.items next r own at has))
    (λ call shows. inr (inr (inr (
      r.ids,
      l.floors.items,
      next,
      times_with a r.ids l.floors.items next (listing_trace.HasRead r) (listing_trace.Shows (refusals.StoreFault (path_of call))) own (faulted call) has.read
          shows.1,
    ))))
failed_on a (phases.Ready x) own did = tt
failed_on a phases.Over own did = tt

stopped_on : (a : Asking) (m : Phase) (own : List Event) → IsSome (next_call m) → Did a m own → Shows a refusals.Memory own
stopped_on a (phases.Snapshots b m) own called (same, at, did) =
    inl (listing_facts.recounts.stopped m listers.Over own called refl (subst (λ (m : listing.Phase). listing_trace.Did m own) (sym at) did)).1
stopped_on a (phases.Floors b m) own called (same, (ids, at, has)) = inr (inl (ids, has))
stopped_on a (phases.Consumers l c) own called (same, (ids, at, has)) =
    let shows = (consumers_facts.recounts.stopped c consumer_listers.Over has.rest called refl has.then_consumers).1 in
    inr (inr (inl (
      ids,
      l.floors.items,
      floors_so a ids l.floors.items (consumers_trace.Did c) (consumers_trace.Shows refusals.Memory) own has shows,
    )))
stopped_on a (phases.Times l next) own called (same, (r, at, has)) =
    let shows = (listing_facts.recounts.stopped l.lister listers.Over (has.read.listed.first ++ has.read.reads) called refl
    (lines_did a l.lister l.floors.items next r own at has)).1 in
    inr (inr (inr (
      r.ids,
      l.floors.items,
      next,
      times_so a r.ids l.floors.items next (listing_trace.HasRead r) (listing_trace.Shows refusals.Memory) own has.read shows,
    )))
stopped_on a (phases.Ready x) own called did = absurd (let clash = called in cc)
stopped_on a phases.Over own called did = absurd (let clash = called in cc)

over_did : (a : Asking) (new : Phase) (refusal : Refusal) (own : List Event) → new ≡ phases.Over → Shows a refusal own → Did a new own × Shows a refusal own
over_did a new refusal own over shows = (subst (λ (m : Phase). Did a m own) (sym over) (refusal, shows), shows)

pub recounts : (a : Asking) → Recounts next_call Goes (Refuses Shown phases.Over) (Stops phases.Over) (Did a) (Shows a)
recounts a = record {
  went = λ m new answer own goes did. went_on a m answer new own goes did;
  refused = λ m new answer refusal own refuses did. IfSome_then (next_call m) (refused_on a m answer refusal own refuses.0 did)
      (λ call shows may. over_did a new refusal (own ++ answered call answer ∷ []) refuses.1 (shows may));
  failed = λ m new own stops did. IfSome_then (next_call m) (failed_on a m own did)
      (λ call shows. over_did a new (refusals.StoreFault (path_of call)) (own ++ faulted call ∷ []) stops shows);
  stopped = λ m new own called stops did. over_did a new refusals.Memory own stops (stopped_on a m own called did);
}

-- ---- how far it has come

-- fewer calls than that are left, and some if not all is known
abbrev IsAhead : ℕ → Phase → Type 0
IsAhead n m = (calls_left m < n) × (IsReady m ⊎ (0 < calls_left m))

snapshots_ahead : (a : Asking) (n : ℕ) (to : listing.Phase) (new : Phase) → lister.calls_left to < n → AfterSnapshots a to new
    → IsAhead (n + (consumers.calls_left consumer_listers.List + 1)) new
snapshots_ahead a n to new fewer (none_listed x done none is) =
    subst (IsAhead (n + (consumers.calls_left consumer_listers.List + 1))) (sym is) (omega arith, inl tt)
snapshots_ahead a n to new fewer (some_listed more is) =
    subst (IsAhead (n + (consumers.calls_left consumer_listers.List + 1))) (sym is) (omega (arith, fewer), inr (omega arith))

left_some : {X : Type 0} (n : ℕ) → (X → ⊥) → X ⊎ (0 < n) → 0 < n
left_some n not (inl so) = absurd (not so)
left_some n not (inr some) = some

consumers_ahead : (l : Listed) (n : ℕ) (to : consuming.Phase) (new : Phase) → consumers.calls_left to < n → consumers.IsDone to ⊎ (0 < consumers.calls_left to)
    → 0 < lister.calls_left l.lister → AfterConsumers l to new → IsAhead (lister.calls_left l.lister + n) new
consumers_ahead l n to new fewer left some (more_consumers more is) =
    let one = left_some (consumers.calls_left to) more left in
    subst (IsAhead (lister.calls_left l.lister + n)) (sym is) (omega (arith, fewer), inr (omega (arith, one)))
consumers_ahead l n to new fewer left some (all_consumers next done least is) =
    subst (IsAhead (lister.calls_left l.lister + n)) (sym is) (omega (arith, fewer), inr some)

times_ahead : (a : Asking) (n : ℕ) (to : listing.Phase) (floors : Names) (next : Option ℕ) (new : Phase) → lister.calls_left to < n
    → lister.IsDone to ⊎ (0 < lister.calls_left to) → AfterTimes a to floors next new → IsAhead n new
times_ahead a n to floors next new fewer left (more_times more is) =
    subst (IsAhead n) (sym is) (fewer, inr (left_some (lister.calls_left to) more left))
times_ahead a n to floors next new fewer left (all_times x done found is) = subst (IsAhead n) (sym is) (omega (arith, fewer), inl tt)

-- an answer that it goes on with leaves fewer calls
pub goes_ahead : (m : Phase) (answer : Answer) (new : Phase) → IsReader m → Goes m answer new
    → (calls_left new < calls_left m) × (IsReady new ⊎ (0 < calls_left new))
goes_ahead (phases.Snapshots a m) answer new is (to, on, after) =
    snapshots_ahead a (lister.calls_left m) to new (listing_facts.goes_ahead m answer to on).0 after
goes_ahead (phases.Floors a m) (answers.Listed names) new is at =
    subst (IsAhead (lister.calls_left m + (consumers.calls_left consumer_listers.List + 1))) (sym at) (omega arith, inr (omega arith))
goes_ahead (phases.Consumers l c) answer new is (to, on, after) =
    let ahead = consumers_facts.goes_ahead c answer to on in
    consumers_ahead l (consumers.calls_left c) to new ahead.0 ahead.1 is.1.left after
goes_ahead (phases.Times l next) answer new is (to, on, after) =
    let ahead = listing_facts.goes_ahead l.lister answer to on in
    times_ahead l.asking (lister.calls_left l.lister) to l.floors next new ahead.0 ahead.1 after
goes_ahead m answer new is goes = absurd goes

-- a reader with calls left has a next one
pub has_call : (m : Phase) → IsReader m → 0 < calls_left m → IsSome (next_call m)
has_call (phases.Snapshots a m) is left = subst (λ (m : listing.Phase). IsSome (lister.next_call m)) (sym is.1) refl
has_call (phases.Floors a m) is left = refl
has_call (phases.Consumers l c) is left = consumers_facts.has_call c is.2
has_call (phases.Times l next) is left = listing_facts.has_call l.lister (list_lister l.asking l.lister is.1.of) is.1.left
has_call (phases.Ready x) is left = absurd (let none : 0 < 0 = left in omega (arith, none))
has_call phases.Over is left = absurd (let none : 0 < 0 = left in omega (arith, none))

-- ---- laws

pub knows_still : GoneStays → (m : Phase) (other : Actor) (f after : Files) (p q : Past) → Stands f p → Advances other f p after q → Knows m f p → Knows m after q
knows_still law (phases.Snapshots a m) other f after p q stands advances known = lister_still law other f after p q stands advances a m known
knows_still law (phases.Floors a m) other f after p q stands advances known = lister_still law other f after p q stands advances a m known
knows_still law (phases.Consumers l c) other f after p q stands advances known = lister_still law other f after p q stands advances l.asking l.lister known
knows_still law (phases.Times l next) other f after p q stands advances known = lister_still law other f after p q stands advances l.asking l.lister known
knows_still law (phases.Ready x) other f after p q stands advances known = found_still law other f after p q stands advances x known
knows_still law phases.Over other f after p q stands advances known = tt

pub images : (m : Phase) (call : Call) (f image : Files) (p : Past) → next_call m ≡ Some call → MayLeave call f image → IsKept f p image p
images m call f image p = image_spared next_call m call f image p (spares m f)
