-- All calls of a lister of consumers, and what they say where nobody else acts.
use Rattle.std.proofs.Common.{◌≡◌, ◌⊎◌, inl, inr, ℕ, ◌<◌, List, [], ◌∷◌, ◌++◌, Contains, map, Option, None, Some, IsSome, Ok, Err, Vec, refl, sym, ap, subst}
use Rattle.std.specs.Cmp.Lexicographic.{slice_cmp}
use Rattle.std.specs.FinMap as finite
use Rattle.std.specs.Global.{Global}
use Rattle.std.specs.List.{AllByRecursion}
use Rattle.std.specs.List.Sorted.{IsStrictlySortedBy}
use Rattle.std.specs.Ordering.{nat_cmp}
use Rattle.pm_values.specs.declared.refusal.Refusal.{Refusal}
use Rattle.pm_values.specs.declared.refusal.Refusal.TheVariants as refusals
use Rattle.pm_store.specs.Files.{Files}
use Rattle.pm_store.specs.Store.{StoreView, IsLater, at_first_own}
use Rattle.pm_machine.specs.Trace.{Event, Acts, HasTrace, Traces}
use Rattle.pm_machine.proofs.AloneLaws.{Traces-first}
use Rattle.pm_machine.proofs.Facts.{HasTrace-acts, Traces-none}
use Rattle.pm_machine.proofs.PhaseFacts.{failed_rose}
use Rattle.pm_model_history.specs.History.{History}
use Rattle.pm_snapshot.specs.declared.consumer.Consumer.{Consumer}
use Rattle.pm_model_folder.specs.Folder.{Folder}
use Rattle.pm_model_folder.specs.Meaning.{ConsumerAt}
use Rattle.pm_model_folder.specs.Paths.{consumer_folder, consumer_path}
use Rattle.pm_paths.proofs.ListLemmas.{here, more}
use Rattle.pm_consumer_files.specs.declared.lines.NamedConsumer.{NamedConsumer}
use Rattle.pm_read_schema.specs.Trace.{Names}
use Rattle.pm_read_schema.proofs.AllCallsLemmas.{list_still, read_still}
use Rattle.pm_read_schema.proofs.StillLemmas.{AreStill, AreTold, calls_more, ended_still, failed_still, told_last, stayed}
use Rattle.pm_read_latest.specs.AllCalls.{IsCaused}
use Rattle.pm_read_consumer.specs.Reader.{Says}
use Rattle.pm_read_consumer.specs.Trace.{read_consumer}
use Rattle.pm_read_consumer.proofs.Facts.{not_damaged}
use Rattle.pm_consumers.specs.AllCalls.{AreConsumersOf, DidList, Listing, ListsConsumers}
use Rattle.pm_consumers.specs.Lister.{next_call, calls_left, consumers_in, IsDone}
use Rattle.pm_consumers.specs.Reading.{ReadingView}
use Rattle.pm_consumers.specs.Trace.{listed_consumers, FileRead, AreSaid, consumers_of, named, names_of, reads_of, HasRead, Meets, HasListed, DidSoFar, MayTakeMemory, Shows, Did}
use Rattle.pm_consumers.specs.declared.phase.Phase.{Phase}
use Rattle.pm_consumers.specs.declared.phase.Phase.TheVariants as phases
use Rattle.pm_consumers.proofs.Facts.{listed_all, spares}
use Rattle.pm_consumers.proofs.NameLemmas.{listed_there}

-- ---- its calls change nothing

reads_still : (reads : List FileRead) → AreStill (reads_of reads)
reads_still [] = tt
reads_still (r ∷ reads) = (read_still (consumer_path r.name), reads_still reads)

all_still : (files : Names) (reads : List FileRead) (own : List Event) → own ≡ listed_consumers files ∷ reads_of reads → AreStill own
all_still files reads own is = subst AreStill (sym is) (list_still consumer_folder, reads_still reads)

read_calls : (r : ReadingView) (own : List Event) → HasRead r own → AreStill own
read_calls r own (files, reads, are, names, all, lines, is) = all_still files reads own is

pub listed_calls : (consumers : List NamedConsumer) (own : List Event) → HasListed consumers own → AreStill own
listed_calls consumers own (files, reads, are, all, lines, is) = all_still files reads own is

meets_calls : (r : ReadingView) (name : List ℕ) (found : Option (List ℕ)) (own : List Event) → Meets r name found own → AreStill own
meets_calls r name found own (earlier, has, next, is) =
    subst AreStill (sym is) (calls_more earlier (read_consumer name found) (read_calls r earlier has) (read_still (consumer_path name)))

so_far_calls : (m : Phase) (own : List Event) → IsSome (next_call m) → DidSoFar m own → AreStill own
so_far_calls phases.List own called did = subst AreStill (sym did) tt
so_far_calls (phases.Read r) own called did = read_calls r own did
so_far_calls phases.Over own called did = absurd did

pub shows_calls : (refusal : Refusal) (own : List Event) → Shows refusal own → AreStill own
shows_calls refusals.Memory own ends = ended_still next_call DidSoFar MayTakeMemory spares so_far_calls own ends
shows_calls (refusals.StoreFault path) own failed = failed_still next_call DidSoFar MayTakeMemory spares so_far_calls path own failed
shows_calls (refusals.Damaged path place) own (r, name, bytes, at, zero, bad, meets) = meets_calls r name (Some bytes) own meets
shows_calls other own shows = absurd shows

-- ---- what they say of the files that each answer is of

abbrev IsReadIn : Files → FileRead → Type 0
IsReadIn f r = r.found ≡ finite.get f (consumer_path r.name)

reads_at : (f : Files) (reads : List FileRead) → AreTold f (reads_of reads) → AllByRecursion (IsReadIn f) reads
reads_at f [] told = tt
reads_at f (r ∷ reads) (one, told) = (one, reads_at f reads told)

-- the consumer that a file says is that of the file
said_at : (f : Files) (name : List ℕ) (found : Option (List ℕ)) (c : Consumer) → Says found (Some c) → found ≡ finite.get f (consumer_path name)
    → ConsumerAt f name c
said_at f name None c says is = absurd says
said_at f name (Some bytes) c says is = (bytes, sym is, says)

abbrev IsConsumerAt : Files → NamedConsumer → Type 0
IsConsumerAt f c = ConsumerAt f c.name c.consumer

one_at : (f : Files) (r : FileRead) (said : Option Consumer) (consumers : List NamedConsumer) → Says r.found said → IsReadIn f r
    → AllByRecursion (IsConsumerAt f) consumers → AllByRecursion (IsConsumerAt f) (named r.name said ++ consumers)
one_at f r None consumers says is all = all
one_at f r (Some c) consumers says is all = (said_at f r.name r.found c says is, all)

each_at : (f : Files) (reads : List FileRead) → AreSaid reads → AllByRecursion (IsReadIn f) reads → AllByRecursion (IsConsumerAt f) (consumers_of reads)
each_at f [] all told = tt
each_at f (r ∷ reads) (says, all) (is, told) = one_at f r r.said (consumers_of reads) says is (each_at f reads all told)

-- a file that is there says one
none_not : (found : Option (List ℕ)) → Says found None → IsSome found → ⊥
none_not None says some = let clash = some in cc
none_not (Some bytes) says some = says

-- where all files are there, the consumers have these names
abbrev names_in : List NamedConsumer → List (List ℕ)
names_in consumers = map (λ (c : NamedConsumer). c.name) consumers

one_named : (r : FileRead) (said : Option Consumer) (consumers : List NamedConsumer) (names : List (List ℕ)) → Says r.found said → IsSome r.found
    → names_in consumers ≡ names → names_in (named r.name said ++ consumers) ≡ r.name ∷ names
one_named r None consumers names says some is = absurd (none_not r.found says some)
one_named r (Some c) consumers names says some is = ap (λ (names : List (List ℕ)). r.name ∷ names) is

all_named : (f : Files) (reads : List FileRead) → AreSaid reads → AllByRecursion (IsReadIn f) reads
    → ((name : List ℕ) → Contains (names_of reads) name → IsSome (finite.get f (consumer_path name))) → names_in (consumers_of reads) ≡ names_of reads
all_named f [] all told there = refl
all_named f (r ∷ reads) (says, all) (is, told) there =
    one_named r r.said (consumers_of reads) (names_of reads) says
    (subst (λ (found : Option (List ℕ)). IsSome found) (sym is) (there r.name (here r.name (names_of reads))))
    (all_named f reads all told (λ name c. there name (more r.name (names_of reads) name c)))

module _ (f : Files) (h : History) (folder : Folder f h) where
  pub listed_at : (consumers : List NamedConsumer) (own : List Event) → HasListed consumers own → AreTold f own → AreConsumersOf f consumers
  listed_at consumers own (files, reads, are, all, lines, is) told =
      let parts = subst (AreTold f) is told in
      let at = reads_at f reads parts.1 in
      let there = λ (name : List ℕ). listed_there f h files.items (names_of reads) name folder parts.0 are in
      let names = all_named f reads all at (λ name c. (there name).0 c) in
      subst (AreConsumersOf f) (sym lines) (record {
        rising = subst (λ (names : List (List ℕ)). IsStrictlySortedBy (slice_cmp nat_cmp) names) (sym names) are.rising;
        exact = λ name. (
          λ c. (there name).0 (subst (λ (names : List (List ℕ)). Contains names name) names c),
          λ some. subst (λ (names : List (List ℕ)). Contains names name) (sym names) ((there name).1 some),
        );
        each = each_at f reads all at;
      })

  damaged_at : (r : ReadingView) (name bytes : List ℕ) (own : List Event) → Meets r name (Some bytes) own → AreTold f own
      → Some bytes ≡ finite.get f (consumer_path name)
  damaged_at r name bytes own (earlier, has, next, is) told = (told_last f earlier (read_consumer name (Some bytes)) (subst (AreTold f) is told)).1

  pub caused : (first after : StoreView) (refusal : Refusal) (own : List Event) → Shows refusal own → AreTold f own → Traces own first after
      → IsCaused first after refusal
  caused first after refusals.Memory own shows told trace = tt
  caused first after (refusals.StoreFault path) own shows told trace = failed_rose next_call DidSoFar path own first after shows trace
  caused first after (refusals.Damaged path place) own (r, name, bytes, at, zero, bad, meets) told trace =
      not_damaged f h name bytes folder (damaged_at r name bytes own meets told) bad
  caused first after other own shows told trace = absurd shows

-- ---- all calls

pub listed_history : (result : Listing) (before after : StoreView) → HasTrace (DidList result) before after → ListsConsumers before after result
listed_history (Ok consumers) before after (own, did, trace) = λ alone f h has folder.
    let first = at_first_own before after in
    let stay = stayed f own first after (listed_calls consumers.items own did) (Traces-first own before after trace) alone has in
    record { files = stay.0; consumers = listed_at f h folder consumers.items own did stay.1; cause = tt }
listed_history (Err refusal) before after (own, shows, trace) = λ alone f h has folder.
    let first = at_first_own before after in
    let rest = Traces-first own before after trace in
    let stay = stayed f own first after (shows_calls refusal own shows) rest alone has in
    record { files = stay.0; consumers = tt; cause = caused f h folder first after refusal own shows stay.1 rest }

-- ---- steps in a row

pub begun : (m : Phase) (store : StoreView) → m ≡ phases.List → HasTrace (Did m) store store
begun m store is = subst (λ (m : Phase). HasTrace (Did m) store store) (sym is) ([], refl, Traces-none store)

pub went_further : (old new : Phase) (first before after : StoreView) → HasTrace (Did old) first before
    → Acts (Did old) (λ own. Did new own × Unit {0}) before after → IsLater before after → HasTrace (Did new) first after
went_further old new first before after trace acted later =
    let t = HasTrace-acts {did = Did old} {before = before} trace acted later in
    (t.0, t.1.0, t.2)

pub was_refused : (old new : Phase) (first before after : StoreView) (refusal : Refusal) → HasTrace (Did old) first before
    → Acts (Did old) (λ own. Did new own × Shows refusal own) before after → IsLater before after → HasTrace (DidList (Err refusal)) first after
was_refused old new first before after refusal trace acted later =
    let t = HasTrace-acts {did = Did old} {before = before} trace acted later in
    (t.0, t.1.1, t.2)

pub was_done : (m : Phase) (consumers : Vec NamedConsumer Global) (first after : StoreView) → IsDone m → consumers.items ≡ consumers_in m
    → HasTrace (Did m) first after → HasTrace (DidList (Ok consumers)) first after
was_done m consumers first after done is (own, did, trace) =
    (own, subst (λ (items : List NamedConsumer). HasListed items own) (sym is) (listed_all m own done did), trace)

-- a step that went on leaves a call, or all files were read
pub call_left : (m : Phase) → IsDone m ⊎ (0 < calls_left m) → ¬ IsDone m → 0 < calls_left m
call_left m (inl done) not = absurd (not done)
call_left m (inr left) not = left
