-- What the calls of a compactor show.
use Rattle.std.proofs.Common.{◌≡◌, ◌⊎◌, inl, inr, ℕ, List, [], ◌∷◌, ◌++◌, codes, Option, None, Some, IsSome, IfSome, Ok, Err, refl, sym, ap, ◌∙◌, subst, append_assoc}
use Rattle.std.specs.List.{FoldsTo}
use Rattle.std.proofs.lemmas.List.{append-nil}
use Rattle.std.proofs.lemmas.Option.{IfSome_then}
use Rattle.pm_values.specs.declared.refusal.Refusal.{Refusal}
use Rattle.pm_values.specs.declared.refusal.Refusal.TheVariants as refusals
use Rattle.pm_store.specs.Answers.{MayAnswer}
use Rattle.pm_store.specs.declared.answer.Answer.{Answer}
use Rattle.pm_store.specs.declared.answer.Answer.TheVariants as answers
use Rattle.pm_store.specs.declared.answer.Made.TheVariants as answered_as
use Rattle.pm_store.specs.declared.call.Call.{Call}
use Rattle.pm_store.specs.declared.call.Call.TheVariants as calls
use Rattle.pm_machine.specs.Running.{Refuses, Stops}
use Rattle.pm_machine.specs.Trace.{Event, Recounts, answered, faulted}
use Rattle.pm_machine.proofs.PhaseFacts.{ended, recounts_of}
use Rattle.pm_schema.specs.declared.schema.TableSchema.{TableSchema}
use Rattle.pm_scan_rows.specs.Group.{GroupRead}
use Rattle.pm_put.proofs.Facts as put_facts
use Rattle.pm_put.specs.Putter as putters
use Rattle.pm_put.specs.Trace.{all_created, creates}
use Rattle.pm_put.specs.declared.phase.Phase as put_phase
use Rattle.pm_put.specs.declared.phase.Phase.TheVariants as puts
use Rattle.pm_put.specs.declared.putting.CommitFile.{CommitFile}
use Rattle.pm_model_contents.specs.Lists.{manifest_path}
use Rattle.pm_model_folder.specs.Paths.{origin_path, snapshot_folder, snapshot_path}
use Rattle.pm_read_table.specs.Reader as reader
use Rattle.pm_read_table.specs.Trace as reader_trace
use Rattle.pm_read_table.specs.declared.phase.Phase as view_phase
use Rattle.pm_read_table.specs.declared.phase.Phase.TheVariants as views
use Rattle.pm_read_table.specs.declared.view.View.{View}
use Rattle.pm_read_table.proofs.Facts as reader_facts
use Rattle.pm_read_table.proofs.Facts.{Joined}
use Rattle.pm_read_table.proofs.WithinLemmas.{with_reader}
use Rattle.pm_group_files.specs.Chosen.{Chosen, chosen_of}
use Rattle.pm_group_files.specs.Collected.{Collected, collected_of, nothing_of, with_groups, without_groups}
use Rattle.pm_group_files.specs.Jobs.{Wanted, all_wanted}
use Rattle.pm_group_files.specs.Reader as files
use Rattle.pm_group_files.specs.Reader.{HandsOut, read_next}
use Rattle.pm_group_files.specs.Trace as files_trace
use Rattle.pm_group_files.specs.Trace.{HasPart, HaveRead}
use Rattle.pm_group_files.specs.declared.job.Job.{Job}
use Rattle.pm_group_files.specs.declared.phase.Phase as files_phase
use Rattle.pm_group_files.specs.declared.phase.Phase.TheVariants as readers
use Rattle.pm_group_files.proofs.Facts as files_facts
use Rattle.pm_group_files.proofs.Facts.{also_given, part_none}
use Rattle.pm_group_files.proofs.FaultLemmas.{IsOfFiles, damaged, expired, shown_as, unsupported}
use Rattle.pm_made.specs.declared.intent.Intent.TheVariants as intents
use Rattle.pm_made.specs.declared.newest.Made.{Made}
use Rattle.pm_made.proofs.AllowedLemmas.{IsReason, is-reason}
use Rattle.pm_commit.specs.Committer as commit
use Rattle.pm_commit.specs.Committer.{AfterPutter, AfterReader, Hears, Makes, Outcome, first_of_put, found_in, put_of}
use Rattle.pm_commit.specs.Own.{OwnView, begun, own_for_plan}
use Rattle.pm_commit.specs.Search.{older_ids, seen_in, seen_of}
use Rattle.pm_commit.specs.Trace as commit_trace
use Rattle.pm_commit.specs.Trace.{DidAfter, DidToEnd, ShowsAfter, listed_manifests}
use Rattle.pm_commit.specs.declared.found.Found.{Found}
use Rattle.pm_commit.specs.declared.phase.Phase as commit_phase
use Rattle.pm_commit.specs.declared.phase.Phase.TheVariants as commits
use Rattle.pm_commit.specs.declared.search.Seen.{Seen}
use Rattle.pm_commit.proofs.OutcomeLemmas.{err-ok, heard, ok-same, read-on, tried}
use Rattle.pm_commit.proofs.TraceLemmas.{if-is, some-at}
use Rattle.pm_scan.specs.Trace.{AfterView}
use Rattle.pm_choice.specs.declared.choice.ChosenGroup.{ChosenGroup}
use Rattle.pm_plan.specs.Planned.{AllRewritten, HasTold, RefusesSome, RewritesFirst}
use Rattle.pm_plan.specs.declared.planned.Asking.{Asking}
use Rattle.pm_plan.specs.declared.planned.Planned.{Planned}
use Rattle.pm_compactor.specs.Compactor.{AfterFiles, AfterGroups, Begins, CreatesNext, Goes, Opens, OpensWith, RefusesPlan, Shown, chosen_in, next_call, wanted_in}
use Rattle.pm_compactor.specs.Trace.{AskedOf, Did, DidSoFar, FailsToTell, FindsReason, HasCreated, HasMade, HasPlan, IsFirst, Listed, MayTakeMemory, Shows, ShowsOfCommit, ShowsOfFiles, ShowsOwn}
use Rattle.pm_compactor.specs.declared.phase.Phase.{Phase}
use Rattle.pm_compactor.specs.declared.phase.Phase.TheVariants as phases
use Rattle.pm_compactor.proofs.TellLemmas.{refuses-kind, refuses-none}

-- ---- lists of events

nil-push : (own : List Event) (e : Event) → [] ≡ own ++ e ∷ [] → ⊥
nil-push [] e is = cc
nil-push (x ∷ own) e is = cc

-- the last of the same events is the same
last-same : (xs ys : List Event) (a b : Event) → xs ++ a ∷ [] ≡ ys ++ b ∷ [] → a ≡ b
last-same [] [] a b is = cc
last-same [] (y ∷ ys) a b is = absurd (nil-push ys b (let rest : [] ≡ ys ++ b ∷ [] = cc in rest))
last-same (x ∷ xs) [] a b is = absurd (nil-push xs a (let rest : [] ≡ xs ++ a ∷ [] = cc in rest))
last-same (x ∷ xs) (y ∷ ys) a b is = last-same xs ys a b (let rest : xs ++ a ∷ [] ≡ ys ++ b ∷ [] = cc in rest)

-- a call that was answered didn't fail
no-fault : (xs ys : List Event) (call other : Call) (answer : Answer) → xs ++ answered call answer ∷ [] ≡ ys ++ faulted other ∷ [] → ⊥
no-fault xs ys call other answer is =
    let same : Some answer ≡ None = ap (λ (e : Event). e.answer) (last-same xs ys (answered call answer) (faulted other) is) in cc

created-push : (files : List CommitFile) (file : CommitFile)
    → all_created files ++ creates file answered_as.Created ∷ [] ≡ all_created (files ++ file ∷ [])
created-push [] file = refl
created-push (one ∷ files) file = ap (λ (own : List Event). creates one answered_as.Created ∷ own) (created-push files file)

joined-push : (first later own : List Event) (e : Event) → own ≡ first ++ later → own ++ e ∷ [] ≡ first ++ (later ++ e ∷ [])
joined-push first later own e is = ap (λ (own : List Event). own ++ e ∷ []) is ∙ append_assoc first later (e ∷ [])

-- ---- groups that are made

folds-join : {P A : Type 0} (R : P → A → P → Type 0) (p q r : P) (xs ys : List A) → FoldsTo R p xs q → FoldsTo R q ys r → FoldsTo R p (xs ++ ys) r
folds-join R p q r [] ys first later = subst (λ q. FoldsTo R q ys r) (sym first) later
folds-join R p q r (x ∷ xs) ys (m, one, rest) later = (m, one, folds-join R m q r xs ys rest later)

pub rewritten-join : (p q r : Planned) (xs ys : List GroupRead) → AllRewritten p xs q → AllRewritten q ys r → AllRewritten p (xs ++ ys) r
rewritten-join p q r xs ys first later = folds-join RewritesFirst p q r xs ys first later

-- ---- the reader of files

same-whole : (given : List GroupRead) (c : Collected) → with_groups given c ≡ with_groups (given ++ c.groups) (without_groups c)
same-whole given c = ap (λ (groups : List GroupRead). collected_of c.schema groups c.runs c.kept c.rows) (sym (append-nil (given ++ c.groups)))

part-given : (a : Chosen) (c : Collected) (left : List Job) (own : List Event) → HasPart a c left own → HasPart (also_given a c.groups) (without_groups c) left own
part-given a c left own part = record {
  done = part.done;
  parts = part.parts;
  read = subst (λ (whole : Collected). HaveRead part.done (nothing_of a.schema) whole own) (same-whole a.given c) part.read;
}

none-given : (a : Chosen) → also_given a [] ≡ a
none-given a = ap (λ (given : List GroupRead). chosen_of a.schema a.id a.groups given) (append-nil a.given)

-- it handed groups out, which were given with those before
handed : (a : Chosen) (m : files_phase.Phase) (groups : List GroupRead) (new : files_phase.Phase) (own : List Event) → HandsOut m groups new
    → files_trace.DidSoFar a m own → files_trace.DidSoFar (also_given a groups) new own
handed a (readers.Files r) groups new own (are, is) (same, part) =
    subst (λ (groups : List GroupRead). files_trace.DidSoFar (also_given a groups) new own) (sym are)
    (subst (λ (m : files_phase.Phase). files_trace.DidSoFar (also_given a r.collected.groups) m own) (sym is) (same, part-given a r.collected (r.next ∷ r.rest) own part))
handed a (readers.Ready c) groups new own (are, is) part =
    subst (λ (groups : List GroupRead). files_trace.DidSoFar (also_given a groups) new own) (sym are)
    (subst (λ (m : files_phase.Phase). files_trace.DidSoFar (also_given a c.groups) m own) (sym is) (part-given a c [] own part))
handed a (readers.Again id path) groups new own (none, is) lacks =
    subst (λ (groups : List GroupRead). files_trace.DidSoFar (also_given a groups) new own) (sym none)
    (subst (λ (m : files_phase.Phase). files_trace.DidSoFar (also_given a []) m own) (sym is)
    (subst (λ (a : Chosen). files_trace.LacksFile a id path own) (sym (none-given a)) lacks))
handed a readers.Over groups new own hands did = absurd did

-- where it has all files, it has no group left then
handed-none : (m : files_phase.Phase) (groups : List GroupRead) (c : Collected) → HandsOut m groups (readers.Ready c) → c.groups ≡ []
handed-none (readers.Ready old) groups c (are, is) =
    let same : c ≡ without_groups old = let e : readers.Ready c ≡ readers.Ready (without_groups old) = is in cc in ap (λ (c : Collected). c.groups) same
handed-none (readers.Files r) groups c (are, is) = absurd (let clash = is in cc)
handed-none (readers.Again id path) groups c (are, is) = absurd (let clash = is in cc)
handed-none readers.Over groups c (are, is) = absurd (let clash = is in cc)

-- it made calls so far, and isn't over
as-did : (a : Chosen) (m : files_phase.Phase) (own : List Event) → files_trace.DidSoFar a m own → files_trace.Did a m own
as-did a (readers.Files r) own did = did
as-did a (readers.Again id path) own did = did
as-did a (readers.Ready c) own did = did
as-did a readers.Over own did = absurd did

-- it went on, so it isn't over
as-so-far : (a : Chosen) (m : files_phase.Phase) (answer : Answer) (new : files_phase.Phase) (own : List Event) → files.Goes m answer new → files_trace.Did a new own
    → files_trace.DidSoFar a new own
as-so-far a m answer (readers.Files r) own goes did = did
as-so-far a m answer (readers.Again id path) own goes did = did
as-so-far a m answer (readers.Ready c) own goes did = did
as-so-far a m answer readers.Over own goes did = absurd (files_facts.goes_on_not_over m answer goes)

-- none was read yet
first-jobs : (s : TableSchema) (id : ℕ) (groups : List Wanted) (jobs : List Job) → HasPart (chosen_of s id groups []) (nothing_of s) jobs []
    → files_trace.DidSoFar (chosen_of s id groups []) (read_next id (nothing_of s) jobs) []
first-jobs s id groups [] part = part
first-jobs s id groups (job ∷ jobs) part = (refl, part)

first-did : (s : TableSchema) (id : ℕ) (groups : List Wanted)
    → files_trace.DidSoFar (chosen_of s id groups []) (read_next id (nothing_of s) (all_wanted s groups)) []
first-did s id groups = first-jobs s id groups (all_wanted s groups) (part_none (chosen_of s id groups []) refl)

-- a group is whole, or all files were read
abbrev IsWhole : files_phase.Phase → Type 0
IsWhole m = files.HasGroup m ⊎ files.IsReady m

-- that comes only once a file was found
may-take : (m : files_phase.Phase) (answer : Answer) (new : files_phase.Phase) → files.Goes m answer new → IsWhole new → files_trace.MayTakeMemory m answer
may-take (readers.Files r) (answers.Found None) new is has = absurd (none (subst IsWhole is has))
  where
    none : IsWhole (readers.Again r.id r.next.path) → ⊥
    none (inl group) = group
    none (inr ready) = ready
may-take (readers.Files r) (answers.Found (Some bytes)) new goes has = tt
may-take m answer new goes has = absurd goes

-- ---- calls after the view was read

module _ (a : AskedOf) (v : View) (p : Planned) where
  plan-as : (P Q : List Event → Type 0) (own : List Event) → ((later : List Event) → P later → Q later) → HasPlan a v p P own → HasPlan a v p Q own
  plan-as P Q own as_other has = record {
    some = has.some;
    plan = has.plan;
    after = record {
      first = has.after.first;
      viewed = has.after.viewed;
      reads = has.after.reads;
      so = as_other has.after.reads has.after.so;
      is = has.after.is;
    };
  }

  plan-push : (P Q : List Event → Type 0) (own : List Event) (e : Event) → ((later : List Event) → P later → Q (later ++ e ∷ [])) → HasPlan a v p P own
      → HasPlan a v p Q (own ++ e ∷ [])
  plan-push P Q own e more has = record {
    some = has.some;
    plan = has.plan;
    after = record {
      first = has.after.first;
      viewed = has.after.viewed;
      reads = has.after.reads ++ e ∷ [];
      so = more has.after.reads has.after.so;
      is = joined-push has.after.first has.after.reads own e has.after.is;
    };
  }

  -- and after the manifests were listed
  listed-push : (P Q : List Event → Type 0) (own : List Event) (e : Event) → ((later : List Event) → P later → Q (later ++ e ∷ []))
      → HasPlan a v p (Listed p P) own → HasPlan a v p (Listed p Q) (own ++ e ∷ [])
  listed-push P Q own e more has =
      plan-push (Listed p P) (Listed p Q) own e
      (λ reads listed. let (names, later, none, is, so) = listed in (names, later ++ e ∷ [], none, ap (λ (own : List Event). own ++ e ∷ []) is, more later so)) has

  listed-as : (P Q : List Event → Type 0) (own : List Event) → ((later : List Event) → P later → Q later) → HasPlan a v p (Listed p P) own
      → HasPlan a v p (Listed p Q) own
  listed-as P Q own as_other has =
      plan-as (Listed p P) (Listed p Q) own (λ reads listed. let (names, later, none, is, so) = listed in (names, later, none, is, as_other later so)) has

  -- what was asked of the reader of files
  abbrev given-of : List GroupRead → Chosen
  given-of groups = chosen_of p.schema p.newest.id (wanted_in p) groups

  abbrev DidFiles : Planned → List GroupRead → files_phase.Phase → List Event → Type 0
  DidFiles made groups m own = HasPlan a v p (Listed p (HasMade p made groups (files_trace.DidSoFar (given-of groups) m))) own

  -- ---- the commit begins

  created-none : (made all : Planned) (groups : List GroupRead) (c : Collected) (own : List Event) → c.groups ≡ [] → HasTold made all
      → HasMade p made groups (files_trace.DidSoFar (given-of groups) (readers.Ready c)) own → HasCreated p all [] own
  created-none made all groups c own none told has = record {
    reads = own;
    groups = groups;
    collected = c;
    made = made;
    all_read = record { rewritten = has.rewritten; so = has.so };
    none_left = none;
    told = told;
    is = sym (append-nil own);
  }

  created-more : (all : Planned) (done : List CommitFile) (file : CommitFile) (own : List Event) → HasCreated p all done own
      → HasCreated p all (done ++ file ∷ []) (own ++ creates file answered_as.Created ∷ [])
  created-more all done file own has = record {
    reads = has.reads;
    groups = has.groups;
    collected = has.collected;
    made = has.made;
    all_read = has.all_read;
    none_left = has.none_left;
    told = has.told;
    is = joined-push has.reads (all_created done) own (creates file answered_as.Created) has.is
        ∙ ap (λ (later : List Event). has.reads ++ later) (created-push done file);
  }

  -- none of its own calls was made yet
  commit-first : (s : TableSchema) (first : OwnView) (made : Made) → DidAfter s first made (first_of_put first s made) []
  commit-first s first made = inl (refl, refl, refl, put_facts.first_did (put_of s made))

  -- so many of its files were created
  did-created : (all : Planned) (first : OwnView) (made : Made) (done rest : List CommitFile) (later : Phase) (own : List Event) → all.files.items ≡ done ++ rest
      → IsFirst all first made → CreatesNext (first_of_put first all.schema made) rest later → HasPlan a v p (Listed p (HasCreated p all done)) own → DidSoFar a later own
  did-created all first made done [] later own parts is_first is has =
      let whole : done ≡ all.files.items = sym (append-nil done) ∙ sym parts in
      subst (λ (m : Phase). DidSoFar a m own) (sym is) (
        v,
        p,
        all,
        first,
        made,
        is_first,
        listed-as (HasCreated p all done) _ own
            (λ later created. (later, [], sym (append-nil later), subst (λ (done : List CommitFile). HasCreated p all done later) whole created, commit-first all.schema first made))
            has,
      )
  did-created all first made done (next ∷ rest) (phases.Create m file left) own parts is_first (is_m, is_file, same) has = (
    v,
    p,
    all,
    first,
    made,
    done,
    parts ∙ ap (λ (rest : List CommitFile). done ++ next ∷ rest) (sym same) ∙ ap (λ (next : CommitFile). done ++ next ∷ left.items) (sym is_file),
    is_first,
    is_m,
    has,
  )
  did-created all first made done (next ∷ rest) later own parts is_first none has = absurd none

  did-begun : (all : Planned) (later : Phase) (own : List Event) → Begins all later → HasPlan a v p (Listed p (HasCreated p all [])) own → DidSoFar a later own
  did-begun all later own (m, (plan, is_plan, (made, is_made, allowed, at)), creates) has =
      let first : OwnView = own_for_plan plan all.author all.names in
      let is_first : IsFirst all first made = record { plan = plan; is_plan = is_plan; own = refl; is_made = is_made; allowed = allowed } in
      did-created all first made [] all.files.items later own refl is_first (subst (λ (m : commit_phase.Phase). CreatesNext m all.files.items later) at creates) has

  -- ---- with a reader of files

  made-more : (made all : Planned) (groups more : List GroupRead) (m rest : files_phase.Phase) (own : List Event) → HandsOut m more rest → AllRewritten made more all
      → HasMade p made groups (files_trace.DidSoFar (given-of groups) m) own
      → HasMade p all (groups ++ more) (files_trace.DidSoFar (given-of (groups ++ more)) rest) own
  made-more made all groups more m rest own hands rewritten has = record {
    rewritten = rewritten-join p made all groups more has.rewritten rewritten;
    so = handed (given-of groups) m more rest own hands has.so;
  }

  did-groups : (all : Planned) (groups : List GroupRead) (rest : files_phase.Phase) (later : Phase) (own : List Event)
      → ((c : Collected) → rest ≡ readers.Ready c → c.groups ≡ []) → AfterGroups all rest later → DidFiles all groups rest own → DidSoFar a later own
  did-groups all groups (readers.Files r) later own none is has = subst (λ (m : Phase). DidSoFar a m own) (sym is) (v, p, groups, has)
  did-groups all groups (readers.Again id path) later own none is has = subst (λ (m : Phase). DidSoFar a m own) (sym is) (v, p, groups, has)
  did-groups made groups (readers.Ready c) later own none (all, told, room, begins) has =
      did-begun all later own begins
      (listed-as (HasMade p made groups (files_trace.DidSoFar (given-of groups) (readers.Ready c))) (HasCreated p all []) own
      (λ reads so. created-none made all groups c reads (none c refl) told so) has)
  did-groups all groups readers.Over later own none is has = subst (λ (m : Phase). DidSoFar a m own) (sym is) (v, p, groups, has)

  did-files : (made : Planned) (groups : List GroupRead) (m : files_phase.Phase) (later : Phase) (own : List Event) → AfterFiles made m later
      → DidFiles made groups m own → DidSoFar a later own
  did-files made groups m later own (more, rest, all, hands, rewritten, room, after) has =
      did-groups all (groups ++ more) rest later own (λ c is. handed-none m more c (subst (HandsOut m more) is hands)) after
      (listed-as (HasMade p made groups (files_trace.DidSoFar (given-of groups) m))
      (HasMade p all (groups ++ more) (files_trace.DidSoFar (given-of (groups ++ more)) rest)) own
      (λ reads so. made-more made all groups more m rest reads hands rewritten so) has)

-- ---- a view

-- nothing came after the view yet
view-only : (a : AskedOf) (v : View) (own : List Event) → reader_trace.HasView a.view v own → AfterView a.view v (λ later. later ≡ []) own
view-only a v own viewed = record { first = own; viewed = viewed; reads = []; so = refl; is = sym (append-nil own) }

did-opened : (a : AskedOf) (v : View) (chosen : List ChosenGroup) (later : Phase) (own : List Event) → chosen_in a.asking v ≡ chosen
    → OpensWith a.asking v chosen later → reader_trace.HasView a.view v own → DidSoFar a later own
did-opened a v [] later own none is viewed = subst (λ (m : Phase). DidSoFar a m own) (sym is) (v, none, view-only a v own viewed)
did-opened a v (c ∷ chosen) later own some (p, plan, is) viewed =
    subst (λ (m : Phase). DidSoFar a m own) (sym is)
    (v, record { some = λ none. (let clash : c ∷ chosen ≡ [] = sym some ∙ none in cc); plan = plan; after = view-only a v own viewed })

did-viewed : (a : AskedOf) (asking : Asking) (to : view_phase.Phase) (later : Phase) (own : List Event) → asking ≡ a.asking
    → reader.WithReader (λ m. phases.View asking m) (Opens asking) to later → reader_trace.Did a.view to own → DidSoFar a later own
did-viewed a asking to later own same with did =
    with_reader (λ m. phases.View asking m) (Opens asking) (λ m. reader_trace.Did a.view m own) (DidSoFar a later own) to later with did
    (λ is. subst (λ (m : Phase). DidSoFar a m own) (sym is) (same, did))
    (λ v viewed opens. did-opened a v (chosen_in a.asking v) later own refl (subst (λ (asking : Asking). OpensWith asking v (chosen_in asking v) later) same opens.2) viewed.0)

-- ---- the committer that it holds

-- it isn't over where it goes on
abbrev IsOn : Outcome → Type 0
IsOn (Ok commits.Over) = ⊥
IsOn other = Unit {0}

make-on : (own : OwnView) (found : Found) (outcome : Outcome) → Makes own found outcome → IsOn outcome
make-on own found (Ok m) (made, is_made, allowed, is) = subst (λ (m : commit_phase.Phase). IsOn (Ok m)) (sym is) tt
make-on own found (Err refusal) makes = tt

hear-on : (own : OwnView) (found : Found) (left : List ℕ) (said : Seen) (outcome : Outcome) → Hears own found left said outcome → IsOn outcome
hear-on own found left said outcome on = heard IsOn own found left said outcome (λ free makes. make-on own found outcome makes) (λ id rest other at few. tt) (λ reached. tt) on

try-on : (own : OwnView) (v : View) (outcome : Outcome) → commit.Tries own v outcome → IsOn outcome
try-on own v outcome on =
    tried (IsOn outcome) own v outcome (λ unasked makes. make-on own (found_in v) outcome makes)
    (λ asked hears. hear-on own (found_in v) (older_ids v.listed.items) (seen_in own.author v.snapshot) outcome hears) on

reader-on : (own : OwnView) (m : view_phase.Phase) (outcome : Outcome) → AfterReader own m outcome → IsOn outcome
reader-on own m outcome on = read-on IsOn (λ m. Unit {0}) own outcome (λ v has tries. try-on (begun v.id own) v outcome tries) (λ m none has. tt) m tt on

is-on : (m to : commit_phase.Phase) → m ≡ to → IsOn (Ok to) → IsOn (Ok m)
is-on m to is on = subst (λ (m : commit_phase.Phase). IsOn (Ok m)) (sym is) on

putter-on : (own : OwnView) (s : TableSchema) (id : ℕ) (m : put_phase.Phase) (to : commit_phase.Phase) → AfterPutter own s id m (Ok to) → IsOn (Ok to)
putter-on own s id puts.Published to is = is-on to _ (ok-same to _ is) tt
putter-on own s id puts.Lost to (few, is) = is-on to _ is tt
putter-on own s id m to is = is-on to _ (ok-same to _ is) tt

goes-on : (m : commit_phase.Phase) (answer : Answer) (to : commit_phase.Phase) → commit.Goes m answer to → IsOn (Ok to)
goes-on (commits.Names own s) (answers.Listed names) to (none, is) = is-on to _ is tt
goes-on (commits.View own m) answer to (new, goes, after) = reader-on own new (Ok to) after
goes-on (commits.Search own q) (answers.Found None) to makes = make-on own q.found (Ok to) makes
goes-on (commits.Search own q) (answers.Found (Some bytes)) to (x, reads, hears) = hear-on own q.found q.left (seen_of own.author x) (Ok to) hears
goes-on (commits.Put own s id m) answer to (new, goes, after) = putter-on own s id new to after
goes-on m answer to goes = absurd goes

as-after : (s : TableSchema) (first : OwnView) (made : Made) (to : commit_phase.Phase) (own : List Event) → IsOn (Ok to) → DidToEnd s first made to own
    → DidAfter s first made to own
as-after s first made commits.Over own on did = absurd on
as-after s first made to own on did = did

as-end : (s : TableSchema) (first : OwnView) (made : Made) (m : commit_phase.Phase) (own : List Event) → DidAfter s first made m own → DidToEnd s first made m own
as-end s first made commits.Over own (inl none) = absurd none
as-end s first made commits.Over own (inr (o, earlier, later, lost, none, is)) = absurd none
as-end s first made m own did = did

-- ---- what a committer's answer may show

-- it is neither that memory ran out nor a fault of the store
abbrev IsOfCommit : Refusal → Type 0
IsOfCommit refusals.Memory = ⊥
IsOfCommit (refusals.StoreFault path) = ⊥
IsOfCommit other = Unit {0}

abbrev IsKind : Refusal → Type 0
IsKind refusal = IsOfCommit refusal ⊎ ((refusal ≡ refusals.Memory) ⊎ ((path : List ℕ) × (refusal ≡ refusals.StoreFault path)))

kind-of : (refusal : Refusal) → IsKind refusal
kind-of refusals.Memory = inr (inl refl)
kind-of (refusals.StoreFault path) = inr (inr (path, refl))
kind-of other = inl tt

-- an answer to a call of a reader tells of no create, and publishes nothing
listed-no : (folder : List ℕ) (answer : Answer) → MayAnswer (calls.List folder) answer → commit_trace.MayTakeMemory answer
listed-no folder (answers.Listed names) may = tt
listed-no folder answer may = absurd may

read-no : (path : List ℕ) (answer : Answer) → MayAnswer (calls.Read path) answer → commit_trace.MayTakeMemory answer
read-no path (answers.Found found) may = tt
read-no path answer may = absurd may

view-no : (m : view_phase.Phase) (answer : Answer) → IfSome (reader.next_call m) (λ call. MayAnswer call answer → commit_trace.MayTakeMemory answer)
view-no (views.List a) answer = listed-no snapshot_folder answer
view-no (views.Ready v) answer = tt
view-no views.Over answer = tt
view-no (views.Origin q) answer = read-no (origin_path q.asked.schema) answer
view-no (views.Snapshot q id) answer = read-no (snapshot_path id) answer
view-no (views.Base q x) answer = read-no (manifest_path x.base_list) answer
view-no (views.Delta q x base) answer = read-no (manifest_path x.delta_list) answer
view-no (views.Manifests r) answer = read-no (manifest_path r.next.name) answer
view-no (views.Again a id path) answer = read-no (snapshot_path id) answer

used-clash : (path : List ℕ) → refusals.Memory ≡ refusals.SessionUsed path → ⊥
used-clash path e = cc

lost-clash : (ids : List ℕ) → refusals.Memory ≡ refusals.Contended ids → ⊥
lost-clash ids e = cc

put-no : (m : put_phase.Phase) (answer : Answer) → putters.Shown m answer refusals.Memory → ⊥
put-no (puts.Create making) (answers.Made answered_as.Exists) is = used-clash making.next.path is
put-no m answer shown = shown

putter-no : (own : OwnView) (s : TableSchema) (id : ℕ) (m : put_phase.Phase) → AfterPutter own s id m (Err refusals.Memory) → ⊥
putter-no own s id puts.Lost (last, is) = lost-clash (own.lost ++ id ∷ []) is
putter-no own s id m is = err-ok refusals.Memory _ is

-- where memory ran out the answer may take some
memory-no : (m : commit_phase.Phase) (answer : Answer) → commit.Shown m answer refusals.Memory
    → IfSome (commit.next_call m) (λ call. MayAnswer call answer → commit_trace.MayTakeMemory answer)
memory-no (commits.Names own s) answer shown = listed-no (codes "manifest") answer
memory-no (commits.View own m) answer shown = view-no m answer
memory-no (commits.Search own q) answer shown = read-no (snapshot_path q.id) answer
memory-no (commits.Put own s id m) answer (inl shown) = absurd (put-no m answer shown)
memory-no (commits.Put own s id m) answer (inr (to, goes, after)) = absurd (putter-no own s id to after)
memory-no m answer shown = absurd shown

-- an answer shows no fault of the store
answered-no : (s : TableSchema) (first : OwnView) (made : Made) (path : List ℕ) (own : List Event) (call : Call) (answer : Answer)
    → ShowsAfter s first made (refusals.StoreFault path) (own ++ answered call answer ∷ []) → ⊥
answered-no s first made path own call answer (inl (o, earlier, later, lost, shows, is)) =
    no-fault own (earlier ++ shows.earlier) call shows.call answer
    (is ∙ ap (λ (own : List Event). earlier ++ own) shows.is ∙ sym (append_assoc earlier shows.earlier (faulted shows.call ∷ [])))
answered-no s first made path own call answer (inr failed) = no-fault own failed.earlier call failed.call answer failed.is

-- ---- all phases

-- what the law of a committer that is held says
abbrev pub Recounted : Type 0
Recounted = (s : TableSchema) (first : OwnView) (made : Made) → first.lost ≡ []
    → Recounts commit.next_call commit.Goes commit.Refuses commit.Stops (DidToEnd s first made) (ShowsAfter s first made)

first-lost : (p : Planned) (first : OwnView) (made : Made) → IsFirst p first made → first.lost ≡ []
first-lost p first made is = ap (λ (o : OwnView). o.lost) is.own

module _ (law : Joined) (held : Recounted) (a : AskedOf) where
  -- the calls of a commit, with what its own show
  abbrev Commits : View → Planned → Planned → (List Event → Type 0) → List Event → Type 0
  Commits v p all P own = HasPlan a v p (Listed p (λ later. (created tries : List Event) × (later ≡ created ++ tries)
      × HasCreated p all all.files.items created × P tries)) own

  commit-push : (v : View) (p all : Planned) (P Q : List Event → Type 0) (own : List Event) (e : Event) → ((tries : List Event) → P tries → Q (tries ++ e ∷ []))
      → Commits v p all P own → Commits v p all Q (own ++ e ∷ [])
  commit-push v p all P Q own e more has =
      listed-push a v p _ _ own e
      (λ later so. let (created, tries, is, done, did) = so in (created, tries ++ e ∷ [], joined-push created tries later e is, done, more tries did)) has

  -- with the answer to a call of the reader of files
  did-next : (v : View) (p made : Planned) (groups : List GroupRead) (m to : files_phase.Phase) (call : Call) (answer : Answer) (own : List Event)
      → files.next_call m ≡ Some call → MayAnswer call answer → files.Goes m answer to → DidFiles a v p made groups m own
      → DidFiles a v p made groups to (own ++ answered call answer ∷ [])
  did-next v p made groups m to call answer own at may goes has =
      listed-push a v p (HasMade p made groups (files_trace.DidSoFar (given-of a v p groups) m)) (HasMade p made groups (files_trace.DidSoFar (given-of a v p groups) to)) own
      (answered call answer) (λ reads so. record {
        rewritten = so.rewritten;
        so = as-so-far (given-of a v p groups) m answer to _ goes
            (some-at (files.next_call m) call _ at ((files_facts.recounts (given-of a v p groups)).went m to answer reads goes (as-did (given-of a v p groups) m reads so.so)) may);
      }) has

  went-so : (m : Phase) (answer : Answer) (new : Phase) (own : List Event) → Goes m answer new → DidSoFar a m own
      → IfSome (next_call m) (λ call. MayAnswer call answer → DidSoFar a new (own ++ answered call answer ∷ []))
  went-so (phases.View asking m) answer new own (to, goes, with) (same, did) =
      IfSome_then (reader.next_call m) ((reader_facts.recounts law a.view).went m to answer own goes did)
      (λ call next may. did-viewed a asking to new (own ++ answered call answer ∷ []) same with (next may))
  went-so (phases.Names p) (answers.Listed names) new own (none, (within, is)) (v, has) = λ may.
      let e : Event = listed_manifests names in
      subst (λ (m : Phase). DidSoFar a m (own ++ e ∷ [])) (sym is) (
        v,
        p,
        [],
        plan-push a v p (λ later. later ≡ []) _ own e (λ later quiet. (
          names,
          [],
          none,
          ap (λ (own : List Event). own ++ e ∷ []) quiet,
          record { rewritten = refl; so = first-did p.schema p.newest.id (wanted_in p) },
        )) has,
      )
  went-so (phases.Files made m) answer new own (to, goes, after) (v, p, groups, has) =
      if-is (files.next_call m) _ (λ call at may.
      did-files a v p made groups to new (own ++ answered call answer ∷ []) after (did-next v p made groups m to call answer own at may goes has))
  went-so (phases.Create m next rest) (answers.Made answered_as.Created) new own creates_next (v, p, all, first, made, done, parts, is_first, at, has) = λ may.
      let e : Event = creates next answered_as.Created in
      did-created a v p all first made (done ++ next ∷ []) rest.items new (own ++ e ∷ []) (parts ∙ sym (append_assoc done (next ∷ []) rest.items)) is_first
      (subst (λ (m : commit_phase.Phase). CreatesNext m rest.items new) at creates_next)
      (listed-push a v p (HasCreated p all done) (HasCreated p all (done ++ next ∷ [])) own e (λ later so. created-more a v p all done next later so) has)
  went-so (phases.Commit m) answer new own (to, goes, is) (v, p, all, first, made, is_first, has) =
      if-is (commit.next_call m) _ (λ call at may.
      subst (λ (m : Phase). DidSoFar a m (own ++ answered call answer ∷ [])) (sym is) (
        v,
        p,
        all,
        first,
        made,
        is_first,
        commit-push v p all (DidAfter all.schema first made m) (DidAfter all.schema first made to) own (answered call answer) (λ tries did.
            as-after all.schema first made to (tries ++ answered call answer ∷ []) (goes-on m answer to goes)
            (some-at (commit.next_call m) call _ at
            ((held all.schema first made (first-lost all first made is_first)).went m to answer tries goes (as-end all.schema first made m tries did)) may)) has,
      ))
  went-so m answer new own goes did = absurd goes

  -- ---- refusals

  shows-as : (refusal defined : Refusal) (own : List Event) → refusal ≡ defined → ShowsOwn a defined own → Shows a refusal own
  shows-as refusal defined own is shows = inr (subst (λ (e : Refusal). ShowsOwn a e own) (sym is) shows)

  forgot : (m : Phase) (answer : Answer) (refusal : Refusal) (own : List Event) → DidSoFar a m own → MayTakeMemory m answer → refusal ≡ refusals.Memory
      → IfSome (next_call m) (λ call. MayAnswer call answer → Shows a refusal (own ++ answered call answer ∷ []))
  forgot m answer refusal own did takes is =
      IfSome_then (next_call m) (ended next_call (DidSoFar a) MayTakeMemory m (next_call m) answer own refl did takes)
      (λ call ends may. shows-as refusal refusals.Memory (own ++ answered call answer ∷ []) is (ends may))

  -- a refusal of the files is shown
  of-files : (refusal : Refusal) (own : List Event) → IsOfFiles refusal → ShowsOfFiles a refusal own → Shows a refusal own
  of-files refusal own (expired id) shows = inr (inl shows)
  of-files refusal own (damaged path place) shows = inr (inl shows)
  of-files refusal own (unsupported what text) shows = inr (inl shows)

  -- so is one of a file in which an old value is looked up
  of-tell : (refusal : Refusal) (own : List Event) → IsOfFiles refusal → FailsToTell a refusal own → Shows a refusal own
  of-tell refusal own (expired id) fails = inr (inr (inl fails))
  of-tell refusal own (damaged path place) fails = inr (inr (inl fails))
  of-tell refusal own (unsupported what text) fails = inr (inr (inl fails))

  -- and so is a reason against the commit
  of-reason : (refusal : Refusal) (own : List Event) → IsReason refusal → FindsReason a refusal own → Shows a refusal own
  of-reason (refusals.Fenced base fence) own is finds = inr (inr (inr (inl finds)))
  of-reason (refusals.CompactTaken file) own is finds = inr (inr (inr (inl finds)))
  of-reason (refusals.Limit which number) own is finds = inr (inr (inr (inl finds)))
  of-reason other own is finds = absurd is

  of-commit : (refusal : Refusal) (own : List Event) → IsOfCommit refusal → ShowsOfCommit a refusal own → Shows a refusal own
  of-commit refusals.Memory own is shows = absurd is
  of-commit (refusals.StoreFault path) own is shows = absurd is
  of-commit (refusals.SessionUsed path) own is shows = inr (inr (inr shows))
  of-commit other own is shows = inr (inr (inr (inr shows)))

  -- all files were read and made, and there is a reason
  finds-reason : (v : View) (p made after all : Planned) (groups more : List GroupRead) (m rest : files_phase.Phase) (refusal : Refusal) (own : List Event)
      → HandsOut m more rest → AllRewritten made more after → files.IsReady rest → HasTold after all → RefusesPlan all refusal → DidFiles a v p made groups m own
      → FindsReason a refusal own
  finds-reason v p made after all groups more m (readers.Ready c) refusal own hands rewritten ready told refuses has = (
    v,
    p,
    all,
    refuses,
    listed-as a v p (HasMade p made groups (files_trace.DidSoFar (given-of a v p groups) m)) (HasCreated p all []) own
        (λ reads so. created-none a v p after all (groups ++ more) c reads (handed-none m more c hands) told
        (made-more a v p made after groups more m (readers.Ready c) reads hands rewritten so)) has,
  )
  finds-reason v p made after all groups more m (readers.Files r) refusal own hands rewritten ready told refuses has = absurd ready
  finds-reason v p made after all groups more m (readers.Again id path) refusal own hands rewritten ready told refuses has = absurd ready
  finds-reason v p made after all groups more m readers.Over refusal own hands rewritten ready told refuses has = absurd ready

  -- groups are whole, and nothing can be told of one of them
  part-as : (v : View) (p made : Planned) (groups : List GroupRead) (m : files_phase.Phase) (c : Collected) (rest : List Job) (own : List Event)
      → ((reads : List Event) → files_trace.DidSoFar (given-of a v p groups) m reads → HasPart (given-of a v p groups) c rest reads) → DidFiles a v p made groups m own
      → HasPlan a v p (Listed p (HasMade p made groups (HasPart (given-of a v p groups) c rest))) own
  part-as v p made groups m c rest own as_part has =
      listed-as a v p (HasMade p made groups (files_trace.DidSoFar (given-of a v p groups) m)) (HasMade p made groups (HasPart (given-of a v p groups) c rest)) own
      (λ reads so. record { rewritten = so.rewritten; so = as_part reads so.so }) has

  fails-to-tell : (v : View) (p made : Planned) (groups more : List GroupRead) (m rest : files_phase.Phase) (refusal : Refusal) (own : List Event)
      → HandsOut m more rest → RefusesSome made more refusal → DidFiles a v p made groups m own → FailsToTell a refusal own
  fails-to-tell v p made groups more (readers.Files r) rest refusal own (are, is) fails has =
      (v, p, made, groups, more, r.collected, r.next ∷ r.rest, sym are, fails, part-as v p made groups (readers.Files r) r.collected (r.next ∷ r.rest) own (λ reads did. did.1) has)
  fails-to-tell v p made groups more (readers.Ready c) rest refusal own (are, is) fails has =
      (v, p, made, groups, more, c, [], sym are, fails, part-as v p made groups (readers.Ready c) c [] own (λ reads did. did) has)
  fails-to-tell v p made groups more (readers.Again id path) rest refusal own (none, is) fails has = absurd (refuses-none made more refusal fails none)
  fails-to-tell v p made groups more readers.Over rest refusal own (none, is) fails has = absurd (refuses-none made more refusal fails none)

  -- one is whole then
  has-group : (made : Planned) (m rest : files_phase.Phase) (groups : List GroupRead) (refusal : Refusal) → HandsOut m groups rest → RefusesSome made groups refusal
      → files.HasGroup m
  has-group made (readers.Files r) rest groups refusal (are, is) fails = λ none. refuses-none made groups refusal fails (are ∙ none)
  has-group made (readers.Ready c) rest groups refusal (are, is) fails = λ none. refuses-none made groups refusal fails (are ∙ none)
  has-group made (readers.Again id path) rest groups refusal (none, is) fails = absurd (refuses-none made groups refusal fails none)
  has-group made readers.Over rest groups refusal (none, is) fails = absurd (refuses-none made groups refusal fails none)

  refused-commit : (m : commit_phase.Phase) (answer : Answer) (refusal : Refusal) (own : List Event) → commit.Shown m answer refusal → DidSoFar a (phases.Commit m) own
      → IsKind refusal → IfSome (commit.next_call m) (λ call. MayAnswer call answer → Shows a refusal (own ++ answered call answer ∷ []))
  refused-commit m answer refusal own shown (v, p, all, first, made, is_first, has) kind = if-is (commit.next_call m) _ (λ call at may. by call at may kind)
    where
      shows-tries : (call : Call) → commit.next_call m ≡ Some call → MayAnswer call answer → (tries : List Event) → DidAfter all.schema first made m tries
          → ShowsAfter all.schema first made refusal (tries ++ answered call answer ∷ [])
      shows-tries call at may tries did =
          (some-at (commit.next_call m) call _ at
          ((held all.schema first made (first-lost all first made is_first)).refused m commits.Over answer refusal tries (shown, refl) (as-end all.schema first made m tries did))
          may).1

      by : (call : Call) → commit.next_call m ≡ Some call → MayAnswer call answer → IsKind refusal → Shows a refusal (own ++ answered call answer ∷ [])
      by call at may (inl of) = of-commit refusal _ of (
        v,
        p,
        all,
        first,
        made,
        is_first,
        commit-push v p all (DidAfter all.schema first made m) (ShowsAfter all.schema first made refusal) own (answered call answer)
            (λ tries did. shows-tries call at may tries did) has,
      )
      by call at may (inr (inl is)) =
          some-at (commit.next_call m) call _ at
          (forgot (phases.Commit m) answer refusal own (v, p, all, first, made, is_first, has)
          (some-at (commit.next_call m) call _ at (memory-no m answer (subst (commit.Shown m answer) is shown)) may) is) may
      by call at may (inr (inr (path, is))) =
          let (names, later, none, listed, (created, tries, joined, done, did)) = has.after.so in
          absurd (answered-no all.schema first made path tries call answer
          (subst (λ (e : Refusal). ShowsAfter all.schema first made e (tries ++ answered call answer ∷ [])) is (shows-tries call at may tries did)))

  refused-so : (m : Phase) (answer : Answer) (refusal : Refusal) (own : List Event) → Shown m answer refusal → DidSoFar a m own
      → IfSome (next_call m) (λ call. MayAnswer call answer → Shows a refusal (own ++ answered call answer ∷ []))
  refused-so (phases.View asking m) answer refusal own (inl (is, v, engine, goes)) did = forgot (phases.View asking m) answer refusal own did (v, goes) is
  refused-so (phases.View asking m) answer refusal own (inr shown) (same, did) =
      IfSome_then (reader.next_call m) ((reader_facts.recounts law a.view).refused m views.Over answer refusal own (shown, refl) did) (λ call shows may. inl (shows may).1)
  refused-so (phases.Names p) (answers.Listed names) refusal own (inl is) did = forgot (phases.Names p) (answers.Listed names) refusal own did tt is
  refused-so (phases.Names p) (answers.Listed names) refusal own (inr (path, finds, is)) (v, has) = λ may.
      let e : Event = listed_manifests names in
      shows-as refusal (refusals.SessionUsed path) (own ++ e ∷ []) is
      (inl (v, p, names, finds, plan-push a v p (λ later. later ≡ []) (λ later. later ≡ e ∷ []) own e (λ later quiet. ap (λ (own : List Event). own ++ e ∷ []) quiet) has))
  refused-so (phases.Files made m) answer refusal own (inl shown) (v, p, groups, has) = elim (shown_as m answer refusal shown) [
    | inl memory ↦ forgot (phases.Files made m) answer refusal own (v, p, groups, has) memory.1 memory.0
    | inr fault ↦ if-is (files.next_call m) _ (λ call at may. of-files refusal _ fault (
      v,
      p,
      made,
      groups,
      listed-push a v p (HasMade p made groups (files_trace.DidSoFar (given-of a v p groups) m)) (HasMade p made groups (files_trace.Shows (given-of a v p groups) refusal)) own
          (answered call answer) (λ reads so. record {
            rewritten = so.rewritten;
            so = (some-at (files.next_call m) call _ at
                ((files_facts.recounts (given-of a v p groups)).refused m readers.Over answer refusal reads (shown, refl) (as-did (given-of a v p groups) m reads so.so)) may).1;
          }) has,
    ))
  ]
  refused-so (phases.Files made m) answer refusal own (inr (to, goes, inl (is, some))) did =
      forgot (phases.Files made m) answer refusal own did (may-take m answer to goes some) is
  refused-so (phases.Files made m) answer refusal own (inr (to, goes, inr (inl (rest, more, hands, fails)))) (v, p, groups, has) =
      elim (refuses-kind made more refusal fails) [
        | inl is ↦ forgot (phases.Files made m) answer refusal own (v, p, groups, has) (may-take m answer to goes (inl (has-group made to rest more refusal hands fails))) is
        | inr of ↦ if-is (files.next_call m) _ (λ call at may.
            of-tell refusal (own ++ answered call answer ∷ []) of
            (fails-to-tell v p made groups more to rest refusal (own ++ answered call answer ∷ []) hands fails (did-next v p made groups m to call answer own at may goes has)))
      ]
  refused-so (phases.Files made m) answer refusal own (inr (to, goes, inr (inr (rest, more, after, all, hands, rewritten, ready, told, refuses)))) (v, p, groups, has) =
      if-is (files.next_call m) _ (λ call at may.
      (let (plan, is_plan, reason) = refuses in
      of-reason refusal (own ++ answered call answer ∷ []) (is-reason all.newest all.author (intents.Compact plan) refusal reason)
      (finds-reason v p made after all groups more to rest refusal (own ++ answered call answer ∷ []) hands rewritten ready told refuses
      (did-next v p made groups m to call answer own at may goes has))))
  refused-so (phases.Create m next rest) (answers.Made answered_as.Exists) refusal own is (v, p, all, first, made, done, parts, is_first, at, has) = λ may.
      let e : Event = creates next answered_as.Exists in
      shows-as refusal (refusals.SessionUsed next.path) (own ++ e ∷ []) is
      (inr (inl (v, p, all, done, rest.items, next, refl, parts, listed-push a v p (HasCreated p all done) _ own e (λ later so. (later, so, refl)) has)))
  refused-so (phases.Commit m) answer refusal own shown did = refused-commit m answer refusal own shown did (kind-of refusal)
  refused-so m answer refusal own shown did = absurd shown

  so-far : (m : Phase) (own : List Event) → IsSome (next_call m) → Did a m own → DidSoFar a m own
  so-far phases.Over own called did = absurd (let clash = called in cc)
  so-far m own called did = did

  as-whole : (m : Phase) (own : List Event) → DidSoFar a m own → Did a m own
  as-whole phases.Over own did = absurd did
  as-whole m own did = did

  went-on : (m : Phase) (answer : Answer) (new : Phase) (own : List Event) → Goes m answer new → Did a m own
      → IfSome (next_call m) (λ call. MayAnswer call answer → Did a new (own ++ answered call answer ∷ []))
  went-on m answer new own goes did =
      if-is (next_call m) _ (λ call at may.
      as-whole new _ (some-at (next_call m) call _ at (went-so m answer new own goes (so-far m own (subst (λ (o : Option Call). IsSome o) (sym at) refl) did)) may))

  refused-on : (m : Phase) (answer : Answer) (refusal : Refusal) (own : List Event) → Shown m answer refusal → Did a m own
      → IfSome (next_call m) (λ call. MayAnswer call answer → Shows a refusal (own ++ answered call answer ∷ []))
  refused-on m answer refusal own shown did =
      if-is (next_call m) _ (λ call at.
      some-at (next_call m) call _ at (refused-so m answer refusal own shown (so-far m own (subst (λ (o : Option Call). IsSome o) (sym at) refl) did)))

  pub recounts : Recounts next_call Goes (Refuses Shown phases.Over) (Stops phases.Over) (Did a) (Shows a)
  recounts = recounts_of next_call Goes Shown phases.Over (DidSoFar a) (Did a) MayTakeMemory (Shows a) so-far
      (λ refusal own shows. (refusal, shows)) (λ path own failed. inr failed) (λ own ends. inr ends) went-on refused-on
