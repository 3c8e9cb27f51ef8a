-- What the calls of a commit show: what each answer of a try leads to, once its view is read, and which tries were lost,
-- but that memory may run out. So the calls show one answer at most.
use Rattle.std.proofs.Common.{◌≡◌, ◌⊎◌, inl, inr, ℕ, suc, ◌+◌, ◌<◌, nat_lt, pos, int_le, Bool, ◌||◌, true, false, if◌then◌else◌, List, [], ◌∷◌, ◌++◌, length, Option, None, Some, IsSome, Result, Ok, Err, refl, sym, ap, subst, ◌∙◌, arith, append_assoc, append-nil}
use Rattle.std.specs.List.{AllByRecursion, list_any}
use Rattle.std.specs.Str.Iter.{HasSubslice}
use Rattle.pm_base.proofs.Laws.{AllByRecursion-append, AllByRecursion-parts}
use Rattle.pm_values.specs.Names.{Naming}
use Rattle.pm_values.specs.declared.group.Group.{Group}
use Rattle.pm_values.specs.declared.refusal.Refusal.{Refusal}
use Rattle.pm_values.specs.declared.refusal.Refusal.TheVariants as refusals
use Rattle.pm_store.specs.declared.answer.Answer.{Answer}
use Rattle.pm_store.specs.declared.answer.Answer.TheVariants as answers
use Rattle.pm_store.specs.declared.answer.Made.TheVariants as makes
use Rattle.pm_store.specs.declared.answer.Published.{Published}
use Rattle.pm_store.specs.declared.answer.Published.TheVariants as published
use Rattle.pm_store.specs.declared.call.Call.{Call}
use Rattle.pm_machine.specs.Step.{path_of}
use Rattle.pm_machine.specs.Trace.{Event, faulted}
use Rattle.pm_schema.specs.declared.schema.TableSchema.{TableSchema}
use Rattle.pm_snapshot.specs.Snapshot.{snapshot_in}
use Rattle.pm_snapshot.specs.declared.fault.SnapFault.{SnapFault}
use Rattle.pm_snapshot.specs.declared.snapshot.Snapshot.{Snapshot}
use Rattle.pm_manifest.specs.declared.entry.Entry.{Entry}
use Rattle.pm_run.specs.Row.{most_sequence}
use Rattle.pm_model_contents.specs.Lists.{manifest_path}
use Rattle.pm_model_folder.specs.Paths.{snapshot_path}
use Rattle.pm_paths.specs.Ids.{AreIds}
use Rattle.pm_read_schema.specs.Trace.{Names, listed_snapshots}
use Rattle.pm_read_schema.proofs.IdLemmas.{one_ids}
use Rattle.pm_read_schema.proofs.LeadLemmas.{AreOne, Fails, IsAnswered, Leads, Stays, all_answered, failed, failed_not, head_same, lead_join, lead_step, led, one_end, one_failed, one_lead, tail_same}
use Rattle.pm_read_schema.proofs.OneLemmas as schema
use Rattle.pm_read_table.specs.Asked.{Asked}
use Rattle.pm_read_table.specs.Trace as reader
use Rattle.pm_read_table.specs.Trace.{HasSought, read_file}
use Rattle.pm_read_table.specs.declared.view.View.{View}
use Rattle.pm_read_table.proofs.OneLemmas as view
use Rattle.pm_write.specs.Batch.{Groups}
use Rattle.pm_write.specs.Files.{no_sequence}
use Rattle.pm_made.specs.Intent.{batch_of, removed_of}
use Rattle.pm_made.specs.Refusals.{above_files, above_id, above_numbers, fence_of, first_not_live, live_count, next_number, no_files, no_id, not_live_or}
use Rattle.pm_made.specs.declared.intent.Intent.{Intent}
use Rattle.pm_made.specs.declared.intent.Intent.TheVariants as intents
use Rattle.pm_made.specs.declared.newest.Made.{Made}
use Rattle.pm_made.specs.declared.newest.Author.{Author}
use Rattle.pm_put.specs.Meaning.{Putting}
use Rattle.pm_put.specs.Trace as puts
use Rattle.pm_put.specs.Trace.{all_created, all_put, creates, publishes}
use Rattle.pm_put.specs.declared.phase.Phase.TheVariants as put_phases
use Rattle.pm_put.specs.declared.putting.CommitFile.{CommitFile}
use Rattle.pm_commit.specs.AllCalls.{DidAppend, Ends, Has}
use Rattle.pm_commit.specs.Committer.{newest_of, next_call, put_of}
use Rattle.pm_commit.specs.Marks.{FindsUsed, HaveNone, mark_of}
use Rattle.pm_commit.specs.Own.{AreAlike, AreAlikeFor, OwnView, begun, begun_after, counts_of, tries}
use Rattle.pm_commit.specs.Search.{older_ids, seen_in, seen_of}
use Rattle.pm_commit.specs.Trace.{AfterLost, Commits, DidSoFar, FindsDone, FindsReason, HasListed, HasSearch, HasTry, HaveLost, HavePassed, LosesLast, LosesTry, MayCommit, MeetsFile, Meets, Misreads, Searched, ShowsOwn, Views, at_newest, at_older, has_begun, has_lost, is_absent, is_below, is_none, listed_manifests, lost_by, not_asked}
use Rattle.pm_commit.specs.declared.all_calls.Appended.{Appended}
use Rattle.pm_commit.specs.declared.all_calls.Appended.TheVariants as appends
use Rattle.pm_commit.specs.declared.search.Seen.{Seen}
use Rattle.pm_commit.specs.declared.search.Seen.TheVariants as seen

-- ---- why a commit is refused

-- by what a view says
abbrev reason_of : ℕ → Option Snapshot → List Entry → Author → Intent → Option Refusal
reason_of id snapshot live author intent =
    if int_le (pos author.base) (fence_of snapshot) then Some (refusals.Fenced author.base (fence_of snapshot))
    else not_live_or (first_not_live live (removed_of intent)) (
    if above_files (live_count (length live) intent) then Some no_files
    else if above_numbers live (batch_of intent) then Some no_sequence
    else if above_id id then Some no_id
    else None
    )

-- the names of a listing
abbrev names_in : Option Answer → List (List ℕ)
names_in (Some (answers.Listed names)) = names.items
names_in other = []

-- ---- where a try leads, once its view is read

-- this older snapshot is to be read, and then these; its files are to be created and its snapshot published; it is done,
-- as the user committed before; it was refused, committed or lost
pub data Place : Type 0 where
  seeking : ℕ → List ℕ → Place
  making : Place
  done : Place
  over : Refusal → Place
  committed : Place
  lost : Place

abbrev IsEnd : Place → Type 0
IsEnd (seeking id left) = ⊥
IsEnd making = ⊥
IsEnd other = Unit {0}

-- nothing keeps it from its commit but a reason against it
abbrev ready_for : Option Refusal → Place
ready_for None = making
ready_for (Some e) = over e

module _ (author : Author) (reason : Option Refusal) where
  abbrev seek : List ℕ → Place
  seek [] = ready_for reason
  seek (id ∷ left) = seeking id left

  -- a snapshot says this
  abbrev heard : Seen → List ℕ → Place
  heard seen.Other left = seek left
  heard seen.Below left = ready_for reason
  heard seen.Reached left = done

  abbrev older_leads : ℕ → List ℕ → Result Snapshot SnapFault → Place
  older_leads id left (Ok x) = heard (seen_of author x) left
  older_leads id left (Err fault) = over (refusals.Damaged (snapshot_path id) 0)

  -- where an earlier commit is looked for, or not
  abbrev begin_if : Bool → Seen → List ℕ → Place
  begin_if true said left = heard said left
  begin_if false said left = ready_for reason

  abbrev After : Place → Call → Answer → Place → Type 0
  After (seeking id left) call (answers.Found None) new = new ≡ ready_for reason
  After (seeking id left) call (answers.Found (Some bytes)) new = new ≡ older_leads id left (snapshot_in id bytes)
  After making call (answers.Made makes.Created) new = new ≡ making
  After making call (answers.Made makes.Exists) new = new ≡ over (refusals.SessionUsed (path_of call))
  After making call (answers.Published published.Created) new = new ≡ committed
  After making call (answers.Published published.Exists) new = new ≡ lost
  After making call (answers.Published published.AfterGone) new = new ≡ lost
  After m call answer new = ⊥

  abbrev Given : Place → Call → Option Answer → Place → Type 0
  Given m call None new = ⊥
  Given m call (Some answer) new = After m call answer new

  abbrev Goes : Place → Event → Place → Type 0
  Goes m event new = Given m event.call event.answer new

  one_after : (m : Place) (call : Call) (answer : Answer) (one other : Place) → After m call answer one → After m call answer other → one ≡ other
  one_after (seeking id left) call (answers.Found None) one other p q = p ∙ sym q
  one_after (seeking id left) call (answers.Found (Some bytes)) one other p q = p ∙ sym q
  one_after making call (answers.Made makes.Created) one other p q = p ∙ sym q
  one_after making call (answers.Made makes.Exists) one other p q = p ∙ sym q
  one_after making call (answers.Published published.Created) one other p q = p ∙ sym q
  one_after making call (answers.Published published.Exists) one other p q = p ∙ sym q
  one_after making call (answers.Published published.AfterGone) one other p q = p ∙ sym q
  one_after m call answer one other p q = absurd p

  one_given : (m : Place) (call : Call) (answer : Option Answer) (one other : Place) → Given m call answer one → Given m call answer other → one ≡ other
  one_given m call None one other p q = absurd p
  one_given m call (Some answer) one other p q = one_after m call answer one other p q

  are_one : AreOne Goes
  are_one m event one other p q = one_given m event.call event.answer one other p q

  given_answered : (m new : Place) (call : Call) (answer : Option Answer) → Given m call answer new → IsSome answer
  given_answered m new call None goes = absurd goes
  given_answered m new call (Some answer) goes = refl

  answered : (own : List Event) (m n : Place) → Leads Goes own m n → AllByRecursion IsAnswered own
  answered own m n lead = all_answered Goes (λ m event new goes. given_answered m new event.call event.answer goes) own m n lead

  given_not : (call : Call) (answer : Option Answer) (m new : Place) → ((answer : Answer) → After m call answer new → ⊥) → Given m call answer new → ⊥
  given_not call None m new none goes = goes
  given_not call (Some answer) m new none goes = none answer goes

  ends_stay : Stays Goes IsEnd
  ends_stay (seeking id left) new event ends goes = ends
  ends_stay making new event ends goes = ends
  ends_stay m new event ends goes = given_not event.call event.answer m new (λ answer goes. goes) goes

-- ---- how far a try has come

-- these calls of one with such a view lead here
abbrev Reach : Author → Intent → Bool → ℕ → Option Snapshot → List Entry → List ℕ → List Event → Place → Type 0
Reach author intent check id snapshot live listed own n =
    Leads (Goes author (reason_of id snapshot live author intent)) own
    (begin_if author (reason_of id snapshot live author intent) check (seen_in author snapshot) (older_ids listed)) n

abbrev Reaches : OwnView → View → List Event → Place → Type 0
Reaches p v own n = Reach p.author p.intent p.check v.id v.snapshot v.live.items v.listed.items own n

module _ (p : OwnView) (v : View) where
  abbrev reason : Option Refusal
  reason = reason_of v.id v.snapshot v.live.items p.author p.intent

  abbrev begin : Place
  begin = begin_if p.author reason p.check (seen_in p.author v.snapshot) (older_ids v.listed.items)

  abbrev Step : Place → Event → Place → Type 0
  Step = Goes p.author reason

  passed_lead : (ids left : List ℕ) (own : List Event) → HavePassed p.author ids own → Leads Step own (seek p.author reason (ids ++ left)) (seek p.author reason left)
  passed_lead [] left own none = led Step own [] (seek p.author reason left) (seek p.author reason left) none refl
  passed_lead (id ∷ ids) left own (bytes, x, later, reads, other, is, rest) =
      let next : Place = seek p.author reason (ids ++ left) in
      let at : next ≡ older_leads p.author reason id (ids ++ left) (snapshot_in id bytes) =
      ap (λ (said : Seen). heard p.author reason said (ids ++ left)) (sym other) ∙ ap (older_leads p.author reason id (ids ++ left)) (sym reads) in
      led Step own (read_file (snapshot_path id) (Some bytes) ∷ later) (seeking id (ids ++ left)) (seek p.author reason left) is (next, at, passed_lead ids left later rest)

  searched_lead : (left : List ℕ) (own : List Event) → Searched p v left own → Leads Step own begin (seek p.author reason left)
  searched_lead left own searched =
      let from : seek p.author reason (searched.passed ++ left) ≡ begin =
      ap (seek p.author reason) (sym searched.parts)
      ∙ ap (λ (said : Seen). heard p.author reason said (older_ids v.listed.items)) (sym searched.newest)
      ∙ ap (λ (check : Bool). begin_if p.author reason check (seen_in p.author v.snapshot) (older_ids v.listed.items)) (sym searched.asked) in
      subst (λ (m : Place). Leads Step own m (seek p.author reason left)) from (passed_lead searched.passed left own searched.read)

  meets_lead : (said : Seen) (n : Place) (own : List Event) → ((left : List ℕ) → n ≡ heard p.author reason said left) → Meets p v said own → Leads Step own begin n
  meets_lead said n own leads (at_newest asked is none) =
      led Step own [] begin n none
      (leads (older_ids v.listed.items) ∙ ap (λ (said : Seen). heard p.author reason said (older_ids v.listed.items)) (sym is)
      ∙ ap (λ (check : Bool). begin_if p.author reason check (seen_in p.author v.snapshot) (older_ids v.listed.items)) (sym asked))
  meets_lead said n own leads (at_older id left bytes x earlier searched reads is at) =
      let goes : n ≡ older_leads p.author reason id left (snapshot_in id bytes) =
      leads left ∙ ap (λ (said : Seen). heard p.author reason said left) (sym is) ∙ ap (older_leads p.author reason id left) (sym reads) in
      led Step own (earlier ++ read_file (snapshot_path id) (Some bytes) ∷ []) begin n at
      (lead_step Step earlier begin (seeking id left) n (read_file (snapshot_path id) (Some bytes)) (searched_lead (id ∷ left) earlier searched) goes)

  may_lead : (own : List Event) → MayCommit p v own → Leads Step own begin (ready_for reason)
  may_lead own (not_asked none is) =
      led Step own [] begin (ready_for reason) is
      (ap (λ (check : Bool). begin_if p.author reason check (seen_in p.author v.snapshot) (older_ids v.listed.items)) (sym none))
  may_lead own (is_below meets) = meets_lead seen.Below (ready_for reason) own (λ left. refl) meets
  may_lead own (is_none searched) = searched_lead [] own searched
  may_lead own (is_absent id left earlier searched is) =
      led Step own (earlier ++ read_file (snapshot_path id) None ∷ []) begin (ready_for reason) is
      (lead_step Step earlier begin (seeking id left) (ready_for reason) (read_file (snapshot_path id) None) (searched_lead (id ∷ left) earlier searched) refl)

  created_lead : (files : List CommitFile) → Leads Step (all_created files) making making
  created_lead [] = refl
  created_lead (file ∷ files) = (making, refl, created_lead files)

  -- and then the publish is answered so
  abbrev published_by : Published → Place
  published_by published.Created = committed
  published_by published.Exists = lost
  published_by published.AfterGone = lost

  put_lead : (put : Putting) (answer : Published) → Leads Step (all_put put answer) making (published_by answer)
  put_lead put published.Created =
      lead_step Step (all_created put.files) making making committed (publishes put.last published.Created) (created_lead put.files) refl
  put_lead put published.Exists =
      lead_step Step (all_created put.files) making making lost (publishes put.last published.Exists) (created_lead put.files) refl
  put_lead put published.AfterGone =
      lead_step Step (all_created put.files) making making lost (publishes put.last published.AfterGone) (created_lead put.files) refl

  published_lead : (put : Putting) (own : List Event) → puts.Did put put_phases.Published own → Leads Step own making committed
  published_lead put own is = led Step own (all_put put published.Created) making committed is (put_lead put published.Created)

  lost_lead : (put : Putting) (own : List Event) → puts.Did put put_phases.Lost own → Leads Step own making lost
  lost_lead put own (published.Created, gone, is) = absurd gone
  lost_lead put own (published.Exists, gone, is) = led Step own (all_put put published.Exists) making lost is (put_lead put published.Exists)
  lost_lead put own (published.AfterGone, gone, is) = led Step own (all_put put published.AfterGone) making lost is (put_lead put published.AfterGone)

  met_lead : (put : Putting) (path : List ℕ) (own : List Event) → puts.MeetsFile put path own → Leads Step own making (over (refusals.SessionUsed path))
  met_lead put path own (created, file, left, parts, path_is, is) =
      led Step own (all_created created ++ creates file makes.Exists ∷ []) making (over (refusals.SessionUsed path)) is
      (lead_step Step (all_created created) making making (over (refusals.SessionUsed path)) (creates file makes.Exists) (created_lead created)
      (ap (λ (path : List ℕ). over (refusals.SessionUsed path)) path_is))

-- ---- what it answers

-- what a try answers where it ends, which read the snapshot with the id, after these were lost
abbrev IsAnswer : ℕ → List ℕ → Place → Result Appended Refusal → Type 0
IsAnswer id ids done (Ok appends.Already) = Unit {0}
IsAnswer id ids (over e) (Err other) = e ≡ other
IsAnswer id ids committed (Ok (appends.Committed new)) = new ≡ id + 1
IsAnswer id ids lost (Err e) = (e ≡ refusals.Contended (ids ++ (id + 1) ∷ [])) × (length ids + 1 ≡ tries)
IsAnswer id ids n made = ⊥

answer_ends : (id : ℕ) (ids : List ℕ) (n : Place) (made : Result Appended Refusal) → IsAnswer id ids n made → IsEnd n
answer_ends id ids (seeking other left) made is = absurd is
answer_ends id ids making made is = absurd is
answer_ends id ids n made is = tt

one_answer_at : (id : ℕ) (ids : List ℕ) (n : Place) (one other : Result Appended Refusal) → IsAnswer id ids n one → IsAnswer id ids n other → one ≡ other
one_answer_at id ids done (Ok appends.Already) (Ok appends.Already) is was = refl
one_answer_at id ids done (Ok appends.Already) (Ok (appends.Committed new)) is was = absurd was
one_answer_at id ids done (Ok appends.Already) (Err e) is was = absurd was
one_answer_at id ids (over e) (Err one) (Err other) is was = ap Err (sym is ∙ was)
one_answer_at id ids (over e) (Err one) (Ok appended) is was = absurd was
one_answer_at id ids committed (Ok (appends.Committed one)) (Ok (appends.Committed other)) is was = ap (λ (new : ℕ). Ok (appends.Committed new)) (is ∙ sym was)
one_answer_at id ids committed (Ok (appends.Committed one)) (Ok appends.Already) is was = absurd was
one_answer_at id ids committed (Ok (appends.Committed one)) (Err e) is was = absurd was
one_answer_at id ids lost (Err one) (Err other) is was = ap Err (is.0 ∙ sym was.0)
one_answer_at id ids lost (Err one) (Ok appended) is was = absurd was
one_answer_at id ids n one other is was = absurd is

lost_last : (id : ℕ) (ids : List ℕ) (made : Result Appended Refusal) → IsAnswer id ids lost made → length ids + 1 ≡ tries
lost_last id ids (Err e) is = is.1
lost_last id ids (Ok appended) is = absurd is

module _ (laws : view.OneLaws) (s : TableSchema) where
  abbrev a : Asked
  a = newest_of s

  -- the view was read, and then the try led here
  record TryAt (p : OwnView) (v : View) (own : List Event) (n : Place) : Type 0 where
    views : List Event
    rest : List Event
    is : own ≡ views ++ rest
    viewed : Views s v views
    reach : Reaches p v rest n

  try_step : (p : OwnView) (v : View) (earlier own : List Event) (event : Event) (m n : Place) → TryAt p v earlier m → own ≡ earlier ++ event ∷ [] → Step p v m event n → TryAt p v own n
  try_step p v earlier own event m n t is goes = record {
    views = t.views;
    rest = t.rest ++ event ∷ [];
    is = is ∙ ap (λ (own : List Event). own ++ event ∷ []) t.is ∙ append_assoc t.views t.rest (event ∷ []);
    viewed = t.viewed;
    reach = lead_step (Step p v) t.rest (begin p v) m n event t.reach goes;
  }

  search_at : (o : OwnView) (v : View) (Ended : OwnView → View → List Event → Type 0) (n : Place) (own : List Event) → HasSearch s o v Ended own
      → ((searches : List Event) → Ended (begun v.id o) v searches → Leads (Step (begun v.id o) v) searches (begin (begun v.id o) v) n) → TryAt (begun v.id o) v own n
  search_at o v Ended n own (views, searches, viewed, ended, is) leads =
      record { views = views; rest = searches; is = is; viewed = viewed; reach = leads searches ended }

  try_at : (o : OwnView) (v : View) (made : Made) (Puts : List Event → Type 0) (n : Place) (own : List Event)
      → ((puts : List Event) → Puts puts → Leads (Step (begun v.id o) v) puts making n) → HasTry s o v made Puts own → TryAt (begun v.id o) v own n
  try_at o v made Puts n own leads t =
      let p = begun v.id o in
      let first : TryAt p v t.searches (ready_for (reason p v)) = search_at o v MayCommit (ready_for (reason p v)) t.searches t.searched (may_lead p v) in
      let at : ready_for (reason p v) ≡ making = ap ready_for t.allowed in
      let made_at : TryAt p v t.searches making = subst (TryAt p v t.searches) at first in record {
        views = made_at.views;
        rest = made_at.rest ++ t.puts;
        is = t.is ∙ ap (λ (own : List Event). own ++ t.puts) made_at.is ∙ append_assoc made_at.views made_at.rest t.puts;
        viewed = made_at.viewed;
        reach = lead_join (Step p v) made_at.rest t.puts (begin p v) making n made_at.reach (leads t.puts t.put_so);
      }

  -- ---- by what is known of the commit before the try

  abbrev author_after : List ℕ → ℕ → Author → Author
  author_after [] newest author = record author { base = newest }
  author_after (id ∷ ids) newest author = author

  -- what else there is of it is the same
  begun_same : (ids : List ℕ) (newest : ℕ) (o : OwnView) → ((begun_after ids newest o).author ≡ author_after ids newest o.author)
      × ((begun_after ids newest o).intent ≡ o.intent) × ((begun_after ids newest o).check ≡ o.check) × ((begun_after ids newest o).lost ≡ o.lost)
  begun_same [] newest o = (refl, refl, refl, refl)
  begun_same (id ∷ ids) newest o = (refl, refl, refl, refl)

  module _ (intent : Intent) (check : Bool) where
    -- the commit has this author, and lost these ids
    record Is (o : OwnView) (author : Author) (ids : List ℕ) : Type 0 where
      author_is : o.author ≡ author
      ids_are : o.lost ≡ ids
      intent_is : o.intent ≡ intent
      check_is : o.check ≡ check

    abbrev ReachAt : Author → List ℕ → ℕ → Option Snapshot → List Entry → List ℕ → List Event → Place → Type 0
    ReachAt author ids id snapshot live listed own n = Reach (author_after ids id author) intent check id snapshot live listed own n

    record TriedAt (author : Author) (ids : List ℕ) (v : View) (own : List Event) (n : Place) : Type 0 where
      views : List Event
      rest : List Event
      is : own ≡ views ++ rest
      viewed : Views s v views
      reach : ReachAt author ids v.id v.snapshot v.live.items v.listed.items rest n

    tried : (o : OwnView) (author : Author) (ids : List ℕ) (v : View) (own : List Event) (n : Place) → Is o author ids → TryAt (begun v.id o) v own n → TriedAt author ids v own n
    tried o author ids v own n is t =
        let p = begun v.id o in
        let author_is : p.author ≡ author_after ids v.id author =
        (begun_same o.lost v.id o).0 ∙ ap (λ (ids : List ℕ). author_after ids v.id o.author) is.ids_are ∙ ap (author_after ids v.id) is.author_is in
        let intent_is : p.intent ≡ intent = (begun_same o.lost v.id o).1 ∙ is.intent_is in
        let check_is : p.check ≡ check = (begun_same o.lost v.id o).2 ∙ is.check_is in
        let one = subst (λ (author : Author). Reach author p.intent p.check v.id v.snapshot v.live.items v.listed.items t.rest n) author_is t.reach in
        let two = subst (λ (intent : Intent). Reach (author_after ids v.id author) intent p.check v.id v.snapshot v.live.items v.listed.items t.rest n) intent_is one in record {
          views = t.views;
          rest = t.rest;
          is = t.is;
          viewed = t.viewed;
          reach = subst (λ (check : Bool). Reach (author_after ids v.id author) intent check v.id v.snapshot v.live.items v.listed.items t.rest n) check_is two;
        }

    is_after : (o : OwnView) (author : Author) (ids : List ℕ) (v : View) (made : Made) → Is o author ids → made.id ≡ v.id + 1
        → Is (lost_by o v made) (author_after ids v.id author) (ids ++ (v.id + 1) ∷ [])
    is_after o author ids v made is next = record {
      author_is = (begun_same o.lost v.id o).0 ∙ ap (λ (ids : List ℕ). author_after ids v.id o.author) is.ids_are ∙ ap (author_after ids v.id) is.author_is;
      ids_are = ap (λ (ids : List ℕ). ids ++ made.id ∷ []) ((begun_same o.lost v.id o).3 ∙ is.ids_are) ∙ ap (λ (id : ℕ). ids ++ id ∷ []) next;
      intent_is = (begun_same o.lost v.id o).1 ∙ is.intent_is;
      check_is = (begun_same o.lost v.id o).2 ∙ is.check_is;
    }

    -- ---- all tries

    -- the last try ends so; or its view's reader is refused; or this one was lost, and the next ones follow
    data Runs : Author → List ℕ → List Event → Result Appended Refusal → Type 0 where
      ends_at : {author : Author} {ids : List ℕ} {own : List Event} {made : Result Appended Refusal} (v : View) (n : Place) → TriedAt author ids v own n
          → IsAnswer v.id ids n made → Runs author ids own made
      refused_at : {author : Author} {ids : List ℕ} {own : List Event} {made : Result Appended Refusal} (e : Refusal) (m : view.Place) → made ≡ Err e
          → Leads (view.Goes a) own (view.start a) m → view.IsRefusedAt a e m → Runs author ids own made
      loses : {author : Author} {ids : List ℕ} {own : List Event} {made : Result Appended Refusal} (v : View) (first more : List Event) → TriedAt author ids v first lost
          → own ≡ first ++ more → length ids + 1 < tries → Runs (author_after ids v.id author) (ids ++ (v.id + 1) ∷ []) more made → Runs author ids own made

    -- ---- one view

    record Alike (v w : View) : Type 0 where
      id : v.id ≡ w.id
      snapshot : v.snapshot ≡ w.snapshot
      live : v.live.items ≡ w.live.items

    alike : (v w : View) (m : view.Place) → view.IsViewAt a v m → view.IsViewAt a w m → Alike v w
    alike v w view.origin is was = record { id = is.id ∙ sym was.id; snapshot = is.snapshot ∙ sym was.snapshot; live = is.entries ∙ sym was.entries }
    alike v w (view.manifests x metas [] es) (live, left, is) (other, gone, was) =
        record { id = is.id ∙ sym was.id; snapshot = is.snapshot ∙ sym was.snapshot; live = is.entries ∙ sym was.entries }
    alike v w m is was = absurd is

    one_names : (names others : Names) (own more : List Event) → listed_snapshots names ∷ own ≡ listed_snapshots others ∷ more → names.items ≡ others.items
    one_names names others own more is =
        ap (λ (event : Event). names_in event.answer) (head_same (listed_snapshots names) (listed_snapshots others) own more is)

    one_listed : (v w : View) (own : List Event) → HasSought a v own → HasSought a w own → v.listed.items ≡ w.listed.items
    one_listed v w own (ids, (names, later, are, is), by) (others, (more, rest, were, was), also) =
        let same : more.items ≡ names.items = one_names more names rest later (sym was ∙ is) in
        by.listed ∙ one_ids names.items ids others are (subst (λ (names : List (List ℕ)). AreIds names others) same were) ∙ sym also.listed

    -- ---- one run

    record Same (v w : View) (n k : Place) (more rest : List Event) : Type 0 where
      id : v.id ≡ w.id
      place : n ≡ k
      left : more ≡ rest

    one_tried : (author : Author) (ids : List ℕ) (v w : View) (own other more rest : List Event) (n k : Place) → TriedAt author ids v own n → TriedAt author ids w other k
        → own ++ more ≡ other ++ rest → IsEnd n → IsEnd k → Same v w n k more rest
    one_tried author ids v w own other more rest n k t u is end stop =
        let one = view.view_lead a laws v t.views t.viewed.0 in
        let two = view.view_lead a laws w u.views u.viewed.0 in
        let whole : t.views ++ (t.rest ++ more) ≡ u.views ++ (u.rest ++ rest) =
        sym (append_assoc t.views t.rest more) ∙ ap (λ (own : List Event). own ++ more) (sym t.is) ∙ is ∙ ap (λ (own : List Event). own ++ rest) u.is ∙ append_assoc u.views u.rest rest in
        let ended = one_end (view.Goes a) (view.IsEnd a) (view.are_one a laws) (view.ends_stay a) t.views u.views (t.rest ++ more) (u.rest ++ rest) (view.start a) one.0 two.0 whole
        one.1 (view.view_ends a v one.0 one.2) two.1 (view.view_ends a w two.0 two.2) in
        let same = alike w v two.0 two.2 (subst (view.IsViewAt a v) ended.1 one.2) in
        let listed = one_listed w v u.views u.viewed.1 (subst (HasSought a v) ended.0 t.viewed.1) in
        let by_id = subst (λ (id : ℕ). ReachAt author ids id w.snapshot w.live.items w.listed.items u.rest k) same.id u.reach in
        let by_snapshot = subst (λ (x : Option Snapshot). ReachAt author ids v.id x w.live.items w.listed.items u.rest k) same.snapshot by_id in
        let by_live = subst (λ (live : List Entry). ReachAt author ids v.id v.snapshot live w.listed.items u.rest k) same.live by_snapshot in
        let by_all = subst (λ (listed : List ℕ). ReachAt author ids v.id v.snapshot v.live.items listed u.rest k) listed by_live in
        let who : Author = author_after ids v.id author in
        let why : Option Refusal = reason_of v.id v.snapshot v.live.items who intent in
        let last = one_end (Goes who why) IsEnd (are_one who why) (ends_stay who why) t.rest u.rest more rest
        (begin_if who why check (seen_in who v.snapshot) (older_ids v.listed.items)) n k ended.2 t.reach end by_all stop in
        record { id = sym same.id; place = last.1; left = last.2 }

    refused_not : (author : Author) (ids : List ℕ) (v : View) (own first more : List Event) (n : Place) (e : Refusal) (m : view.Place) → TriedAt author ids v first n → own ≡ first ++ more
        → Leads (view.Goes a) own (view.start a) m → view.IsRefusedAt a e m → ⊥
    refused_not author ids v own first more n e m t is lead refused =
        let one = view.view_lead a laws v t.views t.viewed.0 in
        let whole : own ++ [] ≡ t.views ++ (t.rest ++ more) =
        append-nil own ∙ is ∙ ap (λ (own : List Event). own ++ more) t.is ∙ append_assoc t.views t.rest more in
        let ended = one_end (view.Goes a) (view.IsEnd a) (view.are_one a laws) (view.ends_stay a) own t.views [] (t.rest ++ more) (view.start a) m one.0 whole
        lead (view.refused_ends a e m refused) one.1 (view.view_ends a v one.0 one.2) in
        view.view_not_refused a laws v e one.0 one.2 (subst (view.IsRefusedAt a e) ended.1 refused)

    not_below : (n : ℕ) → n ≡ tries → n < tries → ⊥
    not_below n is below = omega (arith, is, below)

    one_run : (author : Author) (ids : List ℕ) (own : List Event) (one other : Result Appended Refusal) → Runs author ids own one → Runs author ids own other → one ≡ other
    one_run author ids own one other (ends_at v n t is) (ends_at w k u was) =
        let same = one_tried author ids v w own own [] [] n k t u refl (answer_ends v.id ids n one is) (answer_ends w.id ids k other was) in
        one_answer_at w.id ids k one other (subst (λ (n : Place). IsAnswer w.id ids n one) same.place (subst (λ (id : ℕ). IsAnswer id ids n one) same.id is)) was
    one_run author ids own one other (ends_at v n t is) (refused_at e m was lead refused) = absurd (refused_not author ids v own own [] n e m t (sym (append-nil own)) lead refused)
    one_run author ids own one other (ends_at v n t is) (loses w first more u parts below rest) =
        let same = one_tried author ids v w own first [] more n lost t u (append-nil own ∙ parts) (answer_ends v.id ids n one is) tt in
        absurd (not_below (length ids + 1) (lost_last v.id ids one (subst (λ (n : Place). IsAnswer v.id ids n one) same.place is)) below)
    one_run author ids own one other (refused_at e m was lead refused) (ends_at v n t is) = absurd (refused_not author ids v own own [] n e m t (sym (append-nil own)) lead refused)
    one_run author ids own one other (refused_at e m is lead refused) (refused_at d k was leads denied) =
        let same = one_lead (view.Goes a) (view.are_one a laws) own (view.start a) m k lead leads in
        is ∙ ap Err (view.one_refused a laws e d k (subst (view.IsRefusedAt a e) same refused) denied) ∙ sym was
    one_run author ids own one other (refused_at e m is lead refused) (loses w first more u parts below rest) = absurd (refused_not author ids w own first more lost e m u parts lead refused)
    one_run author ids own one other (loses v first more t parts below rest) (ends_at w k u is) =
        let same = one_tried author ids w v own first [] more k lost u t (append-nil own ∙ parts) (answer_ends w.id ids k other is) tt in
        absurd (not_below (length ids + 1) (lost_last w.id ids other (subst (λ (n : Place). IsAnswer w.id ids n other) same.place is)) below)
    one_run author ids own one other (loses v first more t parts below rest) (refused_at e m was lead refused) = absurd (refused_not author ids v own first more lost e m t parts lead refused)
    one_run author ids own one other (loses v first more t parts below rest) (loses w start later u split under runs) =
        let same = one_tried author ids v w first start more later lost lost t u (sym parts ∙ split) tt tt in
        let by_id = subst (λ (id : ℕ). Runs (author_after ids id author) (ids ++ (id + 1) ∷ []) later other) (sym same.id) runs in
        one_run (author_after ids v.id author) (ids ++ (v.id + 1) ∷ []) more one other rest
        (subst (λ (own : List Event). Runs (author_after ids v.id author) (ids ++ (v.id + 1) ∷ []) own other) (sym same.left) by_id)

    tried_answered : (author : Author) (ids : List ℕ) (v : View) (own : List Event) (n : Place) → TriedAt author ids v own n → AllByRecursion IsAnswered own
    tried_answered author ids v own n t =
        let one = view.view_lead a laws v t.views t.viewed.0 in
        let who : Author = author_after ids v.id author in
        let why : Option Refusal = reason_of v.id v.snapshot v.live.items who intent in
        subst (AllByRecursion IsAnswered) (sym t.is)
        (AllByRecursion-append IsAnswered t.views t.rest (view.leads_answered a t.views one.0 one.1)
        (answered who why t.rest (begin_if who why check (seen_in who v.snapshot) (older_ids v.listed.items)) n t.reach))

    runs_answered : (author : Author) (ids : List ℕ) (own : List Event) (made : Result Appended Refusal) → Runs author ids own made → AllByRecursion IsAnswered own
    runs_answered author ids own made (ends_at v n t is) = tried_answered author ids v own n t
    runs_answered author ids own made (refused_at e m is lead refused) = view.leads_answered a own m lead
    runs_answered author ids own made (loses v first more t parts below rest) =
        subst (AllByRecursion IsAnswered) (sym parts)
        (AllByRecursion-append IsAnswered first more (tried_answered author ids v first lost t)
        (runs_answered (author_after ids v.id author) (ids ++ (v.id + 1) ∷ []) more made rest))

  -- ---- of commits that are refused alike

  other_intent : (intent more : Intent) (check : Bool) → ((id : ℕ) (snapshot : Option Snapshot) (live : List Entry) (author : Author)
      → reason_of id snapshot live author intent ≡ reason_of id snapshot live author more) → (author : Author) (ids : List ℕ) (own : List Event) (made : Result Appended Refusal)
      → Runs intent check author ids own made → Runs more check author ids own made
  other_intent intent more check same author ids own made runs = at author ids own runs
    where
      moved : (author : Author) (ids : List ℕ) (v : View) (own : List Event) (n : Place) → TriedAt intent check author ids v own n → TriedAt more check author ids v own n
      moved author ids v own n t =
          let who : Author = author_after ids v.id author in record {
            views = t.views;
            rest = t.rest;
            is = t.is;
            viewed = t.viewed;
            reach = subst (λ (why : Option Refusal). Leads (Goes who why) t.rest (begin_if who why check (seen_in who v.snapshot) (older_ids v.listed.items)) n)
                (same v.id v.snapshot v.live.items who) t.reach;
          }

      at : (author : Author) (ids : List ℕ) (own : List Event) → Runs intent check author ids own made → Runs more check author ids own made
      at author ids own (ends_at v n t is) = ends_at v n (moved author ids v own n t) is
      at author ids own (refused_at e m is lead refused) = refused_at e m is lead refused
      at author ids own (loses v first later t parts below rest) =
          loses v first later (moved author ids v first lost t) parts below (at (author_after ids v.id author) (ids ++ (v.id + 1) ∷ []) later rest)

  -- ---- what they show

  module _ (first : OwnView) where
    abbrev Tries : Author → List ℕ → List Event → Result Appended Refusal → Type 0
    Tries author ids own made = Runs first.intent first.check author ids own made

    -- memory ran out; or the last call failed; or a name that was listed has the actor's mark; or it has none, and tries
    -- follow
    data IsShown (made : Result Appended Refusal) (own : List Event) : Type 0 where
      of_memory : made ≡ Err refusals.Memory → IsShown made own
      of_failure : (e : Refusal) → made ≡ Err e → Fails e own → IsShown made own
      of_names : (names : Names) (path : List ℕ) → FindsUsed first.names names.items (Some path) → own ≡ listed_manifests names ∷ []
          → made ≡ Err (refusals.SessionUsed path) → IsShown made own
      of_tries : (names : Names) (rest : List Event) → FindsUsed first.names names.items None → own ≡ listed_manifests names ∷ rest
          → Tries first.author first.lost rest made → IsShown made own

    -- the tries that were lost, and what follows them
    record Left (o : OwnView) (earlier : List Event) : Type 0 where
      author : Author
      ids : List ℕ
      names : Names
      rest : List Event
      is_at : Is first.intent first.check o author ids
      unused : FindsUsed first.names names.items None
      is : earlier ≡ listed_manifests names ∷ rest
      follows : (later : List Event) (made : Result Appended Refusal) → Tries author ids later made → Tries first.author first.lost (rest ++ later) made

    loses_at : (o : OwnView) (v : View) (made : Made) (own : List Event) → LosesTry s o v made own → TryAt (begun v.id o) v own lost × (made.id ≡ v.id + 1)
    loses_at o v made own has =
        (try_at o v made (puts.Did (put_of s made) put_phases.Lost) lost own (lost_lead (begun v.id o) v (put_of s made)) has, has.is_made.id)

    left_of : (o : OwnView) (earlier : List Event) → HaveLost s (HasListed first) o earlier → Left o earlier
    left_of o earlier (has_begun _ _ (same, names, none, is)) = record {
      author = first.author;
      ids = first.lost;
      names = names;
      rest = [];
      is_at = record {
        author_is = ap (λ (o : OwnView). o.author) same;
        ids_are = ap (λ (o : OwnView). o.lost) same;
        intent_is = ap (λ (o : OwnView). o.intent) same;
        check_is = ap (λ (o : OwnView). o.check) same;
      };
      unused = none;
      is = is;
      follows = λ later made runs. runs;
    }
    left_of o earlier (has_lost p v made before later below gone loses_it) =
        let prior = left_of p before gone in
        let at = loses_at p v made later loses_it in
        let here = tried first.intent first.check p prior.author prior.ids v later lost prior.is_at at.0 in
        let fewer : length prior.ids + 1 < tries = subst (λ (ids : List ℕ). length ids + 1 < tries) prior.is_at.ids_are below in record {
          author = author_after prior.ids v.id prior.author;
          ids = prior.ids ++ (v.id + 1) ∷ [];
          names = prior.names;
          rest = prior.rest ++ later;
          is_at = is_after first.intent first.check p prior.author prior.ids v made prior.is_at at.1;
          unused = prior.unused;
          is = ap (λ (own : List Event). own ++ later) prior.is;
          follows = λ more answer runs.
              subst (λ (own : List Event). Tries first.author first.lost own answer) (sym (append_assoc prior.rest later more))
              (prior.follows (later ++ more) answer (loses v later more here refl fewer runs));
        }

    -- one more try
    by_tries : (made : Result Appended Refusal) (own : List Event) (Tried : OwnView → List Event → Type 0) → AfterLost s first Tried own
        → ((o : OwnView) (author : Author) (ids : List ℕ) (later : List Event) → Is first.intent first.check o author ids → Tried o later → Tries author ids later made) → IsShown made own
    by_tries made own Tried (o, earlier, later, gone, tried_so, is) runs =
        let l = left_of o earlier gone in
        of_tries l.names (l.rest ++ later) l.unused (is ∙ ap (λ (own : List Event). own ++ later) l.is) (l.follows later made (runs o l.author l.ids later l.is_at tried_so))

    ends_so : (made : Result Appended Refusal) (o : OwnView) (author : Author) (ids : List ℕ) (v : View) (own : List Event) (n : Place) → Is first.intent first.check o author ids
        → TryAt (begun v.id o) v own n → IsAnswer v.id ids n made → Tries author ids own made
    ends_so made o author ids v own n is t answer = ends_at v n (tried first.intent first.check o author ids v own n is t) answer

    commits : (by : Author) (id : ℕ) (o : OwnView) (author : Author) (ids : List ℕ) (own : List Event) → Is first.intent first.check o author ids → Commits s by id o own
        → Tries author ids own (Ok (appends.Committed id))
    commits by id o author ids own is (v, made, who, id_is, has) =
        ends_so (Ok (appends.Committed id)) o author ids v own committed is
        (try_at o v made (puts.Did (put_of s made) put_phases.Published) committed own (published_lead (begun v.id o) v (put_of s made)) has) (id_is ∙ has.is_made.id)

    finds_done : (by : Author) (o : OwnView) (author : Author) (ids : List ℕ) (own : List Event) → Is first.intent first.check o author ids → FindsDone s by o own
        → Tries author ids own (Ok appends.Already)
    finds_done by o author ids own is (v, who, search) =
        let p = begun v.id o in
        ends_so (Ok appends.Already) o author ids v own done is
        (search_at o v (λ p v. Meets p v seen.Reached) done own search (λ searches meets. meets_lead p v seen.Reached done searches (λ left. refl) meets)) tt

    meets_file : (path : List ℕ) (o : OwnView) (author : Author) (ids : List ℕ) (own : List Event) → Is first.intent first.check o author ids → MeetsFile s path o own
        → Tries author ids own (Err (refusals.SessionUsed path))
    meets_file path o author ids own is (v, made, has) =
        let e : Refusal = refusals.SessionUsed path in
        ends_so (Err e) o author ids v own (over e) is
        (try_at o v made (puts.MeetsFile (put_of s made) path) (over e) own (met_lead (begun v.id o) v (put_of s made) path) has) refl

    finds_reason : (e : Refusal) (o : OwnView) (author : Author) (ids : List ℕ) (own : List Event) → Is first.intent first.check o author ids → FindsReason s e o own
        → Tries author ids own (Err e)
    finds_reason e o author ids own is (v, why, search) =
        let p = begun v.id o in
        let t : TryAt p v own (ready_for (reason p v)) = search_at o v MayCommit (ready_for (reason p v)) own search (may_lead p v) in
        ends_so (Err e) o author ids v own (over e) is (subst (TryAt p v own) (ap ready_for why) t) refl

    misreads : (path : List ℕ) (place : ℕ) (o : OwnView) (author : Author) (ids : List ℕ) (own : List Event) → Is first.intent first.check o author ids → Misreads s path place o own
        → Tries author ids own (Err (refusals.Damaged path place))
    misreads path place o author ids own is (v, id, left, bytes, earlier, search, bad, path_is, first_is, at) =
        let p = begun v.id o in
        let e : Refusal = refusals.Damaged path place in
        let t : TryAt p v earlier (seeking id left) = search_at o v (λ p v. Searched p v (id ∷ left)) (seeking id left) earlier search (searched_lead p v (id ∷ left)) in
        let goes : over e ≡ older_leads p.author (reason p v) id left (snapshot_in id bytes) =
        ap (λ (path : List ℕ). over (refusals.Damaged path place)) path_is ∙ ap (λ (place : ℕ). over (refusals.Damaged (snapshot_path id) place)) first_is
        ∙ ap (older_leads p.author (reason p v) id left) (sym bad) in
        ends_so (Err e) o author ids v own (over e) is (try_step p v earlier own (read_file path (Some bytes)) (seeking id left) (over e) t at goes) refl

    loses_last : (others : List ℕ) (o : OwnView) (author : Author) (ids : List ℕ) (own : List Event) → Is first.intent first.check o author ids → LosesLast s others o own
        → Tries author ids own (Err (refusals.Contended others))
    loses_last others o author ids own is (v, made, gone, last, are) =
        let at = loses_at o v made own gone in
        let whole : others ≡ ids ++ (v.id + 1) ∷ [] = are ∙ ap (λ (ids : List ℕ). ids ++ made.id ∷ []) is.ids_are ∙ ap (λ (id : ℕ). ids ++ id ∷ []) at.1 in
        ends_so (Err (refusals.Contended others)) o author ids v own lost is at.0 (ap refusals.Contended whole, subst (λ (ids : List ℕ). length ids + 1 ≡ tries) is.ids_are last)

    -- a failure of the last try is one of all
    lift_failure : (e : Refusal) (earlier later own : List Event) → own ≡ earlier ++ later → Fails e later → Fails e own
    lift_failure e earlier later own is (before, call, names, at) =
        (earlier ++ before, call, names, is ∙ ap (λ (later : List Event). earlier ++ later) at ∙ sym (append_assoc earlier before (faulted call ∷ [])))

    reader_shown : (e : Refusal) (own : List Event) → AfterLost s first (λ o later. reader.Shows a e later) own → IsShown (Err e) own
    reader_shown e own (o, earlier, later, gone, shows, is) = by (view.is_shown a laws e later shows)
      where
        by : view.IsShown a e later → IsShown (Err e) own
        by (view.of_memory memory) = of_memory (ap Err memory)
        by (view.of_failure fails) = of_failure e refl (lift_failure e earlier later own is fails)
        by (view.of_place m lead refused) =
            let l = left_of o earlier gone in
            of_tries l.names (l.rest ++ later) l.unused (is ∙ ap (λ (own : List Event). own ++ later) l.is) (l.follows later (Err e) (refused_at e m refl lead refused))

    used_shown : (path : List ℕ) (own : List Event) → ShowsOwn s first (refusals.SessionUsed path) own → IsShown (Err (refusals.SessionUsed path)) own
    used_shown path own (inl (names, used, is)) = of_names names path used is refl
    used_shown path own (inr after) = by_tries (Err (refusals.SessionUsed path)) own (MeetsFile s path) after (meets_file path)

    own_shown : (e : Refusal) (own : List Event) → ShowsOwn s first e own → IsShown (Err e) own
    own_shown refusals.Memory own shows = of_memory refl
    own_shown (refusals.StoreFault path) own fails = of_failure (refusals.StoreFault path) refl (failed next_call (DidSoFar s first) path own fails)
    own_shown (refusals.SessionUsed path) own used = used_shown path own used
    own_shown (refusals.Contended ids) own after = by_tries (Err (refusals.Contended ids)) own (LosesLast s ids) after (loses_last ids)
    own_shown (refusals.Damaged path place) own after = by_tries (Err (refusals.Damaged path place)) own (Misreads s path place) after (misreads path place)
    own_shown (refusals.Fenced base fence) own after =
        by_tries (Err (refusals.Fenced base fence)) own (FindsReason s (refusals.Fenced base fence)) after (finds_reason (refusals.Fenced base fence))
    own_shown (refusals.CompactTaken file) own (none, after) =
        by_tries (Err (refusals.CompactTaken file)) own (FindsReason s (refusals.CompactTaken file)) after (finds_reason (refusals.CompactTaken file))
    own_shown (refusals.Limit which number) own after =
        by_tries (Err (refusals.Limit which number)) own (FindsReason s (refusals.Limit which number)) after (finds_reason (refusals.Limit which number))
    own_shown e own shows = absurd shows

    is_shown : (made : Result Appended Refusal) (own : List Event) → Ends s first made own → IsShown made own
    is_shown (Ok (appends.Committed id)) own (author, after) = by_tries (Ok (appends.Committed id)) own (Commits s author id) after (commits author id)
    is_shown (Ok appends.Already) own (author, after) = by_tries (Ok appends.Already) own (FindsDone s author) after (finds_done author)
    is_shown (Err e) own (inl after) = reader_shown e own after
    is_shown (Err e) own (inr shows) = own_shown e own shows

    -- ---- one answer

    -- a name with the mark is the first, or none has it
    marked_not : (mark : List ℕ) (before after names : List (List ℕ)) (name : List ℕ) → names ≡ before ++ name ∷ after → HasSubslice name mark → HaveNone mark names → ⊥
    marked_not mark before after names name is has none =
        (AllByRecursion-parts (λ (name : List ℕ). HasSubslice name mark → ⊥) before (name ∷ after) (subst (HaveNone mark) is none)).1.0 has

    one_marked : (mark : List ℕ) (before others after more : List (List ℕ)) (name other : List ℕ) → before ++ name ∷ after ≡ others ++ other ∷ more → HaveNone mark before
        → HaveNone mark others → HasSubslice name mark → HasSubslice other mark → name ≡ other
    one_marked mark [] [] after more name other is none empty has had = head_same name other after more is
    one_marked mark [] (x ∷ others) after more name other is none empty has had =
        absurd (empty.0 (subst (λ (name : List ℕ). HasSubslice name mark) (head_same name x after (others ++ other ∷ more) is) has))
    one_marked mark (x ∷ before) [] after more name other is none empty has had =
        absurd (none.0 (subst (λ (name : List ℕ). HasSubslice name mark) (sym (head_same x other (before ++ name ∷ after) more is)) had))
    one_marked mark (x ∷ before) (y ∷ others) after more name other is none empty has had =
        one_marked mark before others after more name other (tail_same x y (before ++ name ∷ after) (others ++ other ∷ more) is) none.1 empty.1 has had

    one_used : (names : List (List ℕ)) (path other : List ℕ) → FindsUsed first.names names (Some path) → FindsUsed first.names names (Some other) → path ≡ other
    one_used names path other (before, after, name, is, none, has, at) (others, more, found, was, empty, had, there) =
        at ∙ ap manifest_path (one_marked (mark_of first.names) before others after more name found (sym is ∙ was) none empty has had) ∙ sym there

    used_not : (names : List (List ℕ)) (path : List ℕ) → FindsUsed first.names names (Some path) → FindsUsed first.names names None → ⊥
    used_not names path (before, after, name, is, none, has, at) unused = marked_not (mark_of first.names) before after names name is has unused

    listed_same : (names others : Names) (own rest : List Event) → listed_manifests names ∷ own ≡ listed_manifests others ∷ rest → names.items ≡ others.items
    listed_same names others own rest is =
        ap (λ (event : Event). names_in event.answer) (head_same (listed_manifests names) (listed_manifests others) own rest is)

    listed_answered : (names : Names) → IsAnswered (listed_manifests names)
    listed_answered names = refl

    shown_answered : (names : Names) (rest own : List Event) (made : Result Appended Refusal) → own ≡ listed_manifests names ∷ rest → Tries first.author first.lost rest made
        → AllByRecursion IsAnswered own
    shown_answered names rest own made is runs =
        subst (AllByRecursion IsAnswered) (sym is) (listed_answered names, runs_answered first.intent first.check first.author first.lost rest made runs)

    abbrev AreOneAnswer : Result Appended Refusal → Result Appended Refusal → Type 0
    AreOneAnswer one other = (one ≡ other) ⊎ ((one ≡ Err refusals.Memory) ⊎ (other ≡ Err refusals.Memory))

    one_shown : (own : List Event) (one other : Result Appended Refusal) → IsShown one own → IsShown other own → AreOneAnswer one other
    one_shown own one other (of_memory memory) was = inr (inl memory)
    one_shown own one other is (of_memory memory) = inr (inr memory)
    one_shown own one other (of_failure e is fails) (of_failure d was failed_so) = inl (is ∙ ap Err (one_failed e d own fails failed_so) ∙ sym was)
    one_shown own one other (of_failure e is fails) (of_names names path used at was) =
        absurd (failed_not e own fails (subst (AllByRecursion IsAnswered) (sym at) (listed_answered names, tt)))
    one_shown own one other (of_failure e is fails) (of_tries names rest unused at runs) = absurd (failed_not e own fails (shown_answered names rest own other at runs))
    one_shown own one other (of_names names path used at is) (of_failure d was fails) =
        absurd (failed_not d own fails (subst (AllByRecursion IsAnswered) (sym at) (listed_answered names, tt)))
    one_shown own one other (of_names names path used at is) (of_names others place also there was) =
        let same = listed_same names others [] [] (sym at ∙ there) in
        let found = subst (λ (names : List (List ℕ)). FindsUsed first.names names (Some path)) same used in
        inl (is ∙ ap (λ (path : List ℕ). Err (refusals.SessionUsed path)) (one_used others.items path place found also) ∙ sym was)
    one_shown own one other (of_names names path used at is) (of_tries others rest unused there runs) =
        let same = listed_same names others [] rest (sym at ∙ there) in
        absurd (used_not others.items path (subst (λ (names : List (List ℕ)). FindsUsed first.names names (Some path)) same used) unused)
    one_shown own one other (of_tries names rest unused at runs) (of_failure d was fails) = absurd (failed_not d own fails (shown_answered names rest own one at runs))
    one_shown own one other (of_tries names rest unused at runs) (of_names others path used there was) =
        let same = listed_same others names [] rest (sym there ∙ at) in
        absurd (used_not names.items path (subst (λ (names : List (List ℕ)). FindsUsed first.names names (Some path)) same used) unused)
    one_shown own one other (of_tries names rest unused at runs) (of_tries others more also there follow) =
        let same : more ≡ rest = tail_same (listed_manifests others) (listed_manifests names) more rest (sym there ∙ at) in
        inl (one_run first.intent first.check first.author first.lost rest one other runs
        (subst (λ (own : List Event). Tries first.author first.lost own other) same follow))

    -- ---- from the reading of the schema on

    same_reading : (earlier later before more : List Event) → Has s earlier → Has s before → earlier ++ later ≡ before ++ more → later ≡ more
    same_reading earlier later before more has had is =
        (one_end schema.Goes schema.IsEnd schema.are_one schema.ends_stay earlier before later more schema.listing (schema.ready s) (schema.ready s) is
        (schema.ready_lead s earlier has) tt (schema.ready_lead s before had) tt).2

    -- where the last call failed the answer says so
    failed_answer : (own : List Event) (made : Result Appended Refusal) (e : Refusal) → DidAppend s first made own → Fails e own
        → (made ≡ Err refusals.Memory) ⊎ (made ≡ Err e)
    failed_answer own made e (earlier, later, has, is, ends_made) fails = by (is_shown made later ends_made)
      where
        whole : AllByRecursion IsAnswered later → AllByRecursion IsAnswered own
        whole all =
            subst (AllByRecursion IsAnswered) (sym is)
            (AllByRecursion-append IsAnswered earlier later (schema.leads_answered earlier (schema.ready s) (schema.ready_lead s earlier has)) all)

        by : IsShown made later → (made ≡ Err refusals.Memory) ⊎ (made ≡ Err e)
        by (of_memory memory) = inl memory
        by (of_failure d was fails_so) = inr (was ∙ ap Err (one_failed d e own (lift_failure d earlier later own is fails_so) fails))
        by (of_names names path used at was) = absurd (failed_not e own fails (whole (subst (AllByRecursion IsAnswered) (sym at) (listed_answered names, tt))))
        by (of_tries names rest unused at runs) = absurd (failed_not e own fails (whole (shown_answered names rest later made at runs)))

  -- ---- two commits that are refused alike

  same_length : (batch : Groups) → length (counts_of batch) ≡ length batch
  same_length [] = refl
  same_length (e ∷ batch) = ap suc (same_length batch)

  abbrev is_above : List Entry → Group × ℕ → Bool
  is_above live e = nat_lt (most_sequence + 1) (next_number live e.0 + e.1)

  same_above : (live : List Entry) (batch : Groups) → list_any (is_above live) (counts_of batch) ≡ above_numbers live batch
  same_above live [] = refl
  same_above live (e ∷ batch) = ap (λ (any : Bool). is_above live (e.0, e.1.count) || any) (same_above live batch)

  same_reason : (one other : Intent) → AreAlikeFor one other → (id : ℕ) (snapshot : Option Snapshot) (live : List Entry) (author : Author)
      → reason_of id snapshot live author one ≡ reason_of id snapshot live author other
  same_reason (intents.Append batch) (intents.Append more) same id snapshot live author =
      let lengths : length batch ≡ length more = sym (same_length batch) ∙ ap length same ∙ same_length more in
      let above : above_numbers live batch ≡ above_numbers live more = sym (same_above live batch) ∙ ap (list_any (is_above live)) same ∙ same_above live more in
      λ i. if int_le (pos author.base) (fence_of snapshot) then Some (refusals.Fenced author.base (fence_of snapshot))
      else if above_files (length live + lengths i) then Some no_files
      else if above i then Some no_sequence
      else if above_id id then Some no_id
      else None
  same_reason one other same id snapshot live author = ap (reason_of id snapshot live author) same

  as_first : (one other : OwnView) (made : Result Appended Refusal) (own : List Event) → AreAlike one other → IsShown other made own → IsShown one made own
  as_first one other made own alike_so (of_memory memory) = of_memory memory
  as_first one other made own alike_so (of_failure e is fails) = of_failure e is fails
  as_first one other made own alike_so (of_names names path used at is) =
      of_names names path (subst (λ (maker : Naming). FindsUsed maker names.items (Some path)) (sym alike_so.names) used) at is
  as_first one other made own alike_so (of_tries names rest unused at runs) =
      let by_intent = other_intent other.intent one.intent other.check (λ id snapshot live author. sym (same_reason one.intent other.intent alike_so.counts id snapshot live author)) other.author other.lost rest made runs in
      let by_check = subst (λ (check : Bool). Runs one.intent check other.author other.lost rest made) (sym alike_so.check) by_intent in
      let by_author = subst (λ (author : Author). Runs one.intent one.check author other.lost rest made) (sym alike_so.author) by_check in
      of_tries names rest (subst (λ (maker : Naming). FindsUsed maker names.items None) (sym alike_so.names) unused) at
      (subst (λ (ids : List ℕ). Runs one.intent one.check one.author ids rest made) (sym alike_so.lost) by_author)

  pub one_answer_of : (first second : OwnView) → AreAlike first second → (own : List Event) (one other : Result Appended Refusal) → DidAppend s first one own
      → DidAppend s second other own → (one ≡ other) ⊎ ((one ≡ Err refusals.Memory) ⊎ (other ≡ Err refusals.Memory))
  one_answer_of first second alike_so own one other (earlier, later, has, is, ends_one) (before, more, had, was, ends_other) =
      let same = same_reading first earlier later before more has had (sym is ∙ was) in
      one_shown first more one other (is_shown first one more (subst (Ends s first one) same ends_one)) (as_first first second other more alike_so (is_shown second other more ends_other))

pub one_answer : view.OneLaws → (s : TableSchema) (first second : OwnView) → AreAlike first second → (own : List Event) (one other : Result Appended Refusal) → DidAppend s first one own
    → DidAppend s second other own → (one ≡ other) ⊎ ((one ≡ Err refusals.Memory) ⊎ (other ≡ Err refusals.Memory))
one_answer laws s = one_answer_of laws s

pub failed_commit : view.OneLaws → (s : TableSchema) (first : OwnView) (earlier : List Event) (call : Call) (made : Result Appended Refusal)
    → DidAppend s first made (earlier ++ faulted call ∷ []) → (made ≡ Err refusals.Memory) ⊎ (made ≡ Err (refusals.StoreFault (path_of call)))
failed_commit laws s first earlier call made did =
    failed_answer laws s first (earlier ++ faulted call ∷ []) made (refusals.StoreFault (path_of call)) did (earlier, call, refl, refl)
