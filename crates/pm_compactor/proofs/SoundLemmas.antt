-- What a compactor's calls change, and what it knows after each answer.
use Rattle.std.proofs.Common.{◌≡◌, ◌≢◌, inr, ℕ, ◌<◌, ◌≤◌, List, [], ◌∷◌, ◌++◌, codes, length, length-append, Option, None, Some, IfSome, refl, sym, ap, subst, ◌∙◌, append_assoc, append-nil, arith}
use Rattle.std.specs.FinMap as paths
use Rattle.std.proofs.lemmas.Option.{IfSome_then}
use Rattle.pm_values.specs.Names.{Naming}
use Rattle.pm_store.specs.Answers.{Answers}
use Rattle.pm_store.specs.Files.{Files, Puts, after_effect, carried}
use Rattle.pm_store.specs.Images.{MayLeave}
use Rattle.pm_store.specs.declared.answer.Answer.{Answer}
use Rattle.pm_store.specs.declared.answer.Answer.TheVariants as answers
use Rattle.pm_store.specs.declared.answer.Made.TheVariants as creates
use Rattle.pm_store.specs.declared.call.Call.{Call}
use Rattle.pm_store.specs.declared.call.Call.TheVariants as calls
use Rattle.pm_store.specs.declared.call.Effect.{Effect}
use Rattle.pm_store.specs.declared.call.Effect.TheVariants as effects
use Rattle.pm_store.proofs.ChangeLaws.{Answers-Changed}
use Rattle.pm_store.proofs.FileLaws.{effect_left}
use Rattle.pm_machine.specs.Moves.{Changes, IsKept, Leads, Sound}
use Rattle.pm_machine.specs.Running.{Refuses, Stops}
use Rattle.pm_machine.proofs.PhaseFacts.{both_if}
use Rattle.pm_model_history.specs.History.{Entry, compaction}
use Rattle.pm_schema.specs.Again.{IsDeclared}
use Rattle.pm_schema.specs.declared.schema.TableSchema.{TableSchema}
use Rattle.pm_snapshot.specs.Names.{MayName}
use Rattle.pm_runs.specs.Succession.{Taking}
use Rattle.pm_model_folder.specs.Changes.{Actor}
use Rattle.pm_model_folder.specs.Ledger.{HasNamedNone, Past, Stands}
use Rattle.pm_read_schema.proofs.Facts.{list_effect}
use Rattle.pm_put.specs.Making.{making_of}
use Rattle.pm_put.specs.declared.phase.Phase.TheVariants as puts
use Rattle.pm_put.specs.declared.putting.CommitFile.{CommitFile}
use Rattle.pm_put.proofs.Facts as put_facts
use Rattle.pm_put.proofs.Facts.{created_absent}
use Rattle.pm_read_table.specs.Asked.{Asked, asked_of}
use Rattle.pm_read_table.specs.Meaning as view_meaning
use Rattle.pm_read_table.specs.Meaning.{AsksLatest}
use Rattle.pm_read_table.specs.Reader as view_reader
use Rattle.pm_read_table.specs.declared.asked.Wanted.TheVariants as wants
use Rattle.pm_read_table.specs.declared.phase.Phase as view_phase
use Rattle.pm_read_table.specs.declared.phase.Phase.TheVariants as views
use Rattle.pm_read_table.specs.declared.view.View.{View}
use Rattle.pm_read_table.proofs.Facts as view_facts
use Rattle.pm_read_table.proofs.Facts.{Joined, OneList}
use Rattle.pm_read_table.proofs.WithinLemmas.{with_reader}
use Rattle.pm_group_files.specs.Chosen.{Chosen, chosen_of}
use Rattle.pm_scan_rows.specs.Group.{GroupRead}
use Rattle.pm_group_files.specs.Collected.{Collected, nothing_of}
use Rattle.pm_group_files.specs.Jobs.{Wanted, all_wanted}
use Rattle.pm_group_files.specs.Meaning as files_meaning
use Rattle.pm_group_files.specs.Meaning.{IsChosen, IsTableView}
use Rattle.pm_group_files.specs.Reader as files_reader
use Rattle.pm_group_files.specs.declared.phase.Phase as files_phase
use Rattle.pm_group_files.specs.declared.phase.Phase.TheVariants as readers
use Rattle.pm_group_files.proofs.Facts as files_facts
use Rattle.pm_group_files.proofs.Facts.{handed_known, next_known}
use Rattle.pm_group_files.proofs.ReadLemmas.{first-taken}
use Rattle.pm_choice.specs.Question.{rule_of}
use Rattle.pm_choice.specs.declared.choice.ChosenGroup.{ChosenGroup}
use Rattle.pm_made.specs.declared.intent.Intent.{Intent}
use Rattle.pm_made.specs.declared.intent.Intent.TheVariants as intents
use Rattle.pm_made.specs.declared.intent.Plan.{Plan}
use Rattle.pm_made.specs.declared.newest.Author.{Author}
use Rattle.pm_made.specs.declared.newest.Newest.{Newest}
use Rattle.pm_compaction.specs.Plan.{KnowsPlan, NamesSoMany, RewrittenGroup}
use Rattle.pm_plan.specs.Known.{AreTakenAt, KnowsPlanned, MayBegin}
use Rattle.pm_plan.specs.Planned.{CanMake, HasRoom, HasTold, IsPlanFor, IsPlanOf}
use Rattle.pm_plan.specs.declared.planned.Asking.{Asking}
use Rattle.pm_plan.specs.declared.planned.Planned.{Planned}
use Rattle.pm_commit.specs.Committer as commit
use Rattle.pm_commit.specs.Committer.{IsCommitter, newest_in, newest_of}
use Rattle.pm_commit.specs.Meaning as commit_meaning
use Rattle.pm_commit.specs.Meaning.{IsFoundIn, KnowsBut, MakesEntry, MakesFile}
use Rattle.pm_commit.specs.Own.{IsAppend, OwnView, begun}
use Rattle.pm_commit.specs.declared.phase.Phase as commit_phase
use Rattle.pm_commit.specs.declared.phase.Phase.TheVariants as commits
use Rattle.pm_commit.proofs.CommitterLemmas.{asked-same, begun-first, ready-schema}
use Rattle.pm_commit.proofs.PhaseLemmas.{own-on}
use Rattle.pm_commit.proofs.ReadsLemmas.{EntriesRead, reads-on}
use Rattle.pm_compactor.specs.Compactor.{AfterFiles, AfterGroups, Begins, CreatesNext, Goes, IsCompactor, IsPlanIn, Opens, OpensWith, Shown}
use Rattle.pm_compactor.specs.Compactor.{actor_of, asked_of_view, chosen_in, next_call, wanted_groups, wanted_in, wanted_of}
use Rattle.pm_compactor.specs.Meaning.{IsEntryIn, IsEntryOf, Knows, KnowsIn, KnowsOfPlan, Leaves, asked_for, made_groups}
use Rattle.pm_compactor.specs.declared.phase.Phase.{Phase}
use Rattle.pm_compactor.specs.declared.phase.Phase.TheVariants as phases
use Rattle.pm_compactor.proofs.SoundLemmasFiles.{KeptHave, OneRows, PlanGrows, WholeAre, all-made, are-handed, none-mapped}
use Rattle.pm_compactor.proofs.PartLemmasRewritten.{ToldSame, told-same}
use Rattle.pm_compactor.proofs.SoundLemmasView.{ViewLaws, may-begin, seen-at, taken-stood}

-- what the laws of a plan say
pub record PlanLaws : Type 0 where
  pub begins : (me : Actor) (p : Past) (asking : Asking) (s : TableSchema) (newest : Newest) (chosen : List ChosenGroup) (x : Planned) → IsPlanOf asking s newest chosen x
      → MayBegin me p asking s newest chosen → (takings : List Taking) × KnowsPlanned me p x [] takings
  pub grows : PlanGrows
  pub named : (me : Actor) (p : Past) (x y : Planned) (done : List RewrittenGroup) → KnowsPlanned me p x done [] → HasTold x y → HasRoom y → NamesSoMany me x.newest.id 0 y.names
  pub whole : (me : Actor) (p : Past) (x y : Planned) (done : List RewrittenGroup) (plan : Plan) → KnowsPlanned me p x done [] → HasTold x y → HasRoom y → IsPlanFor y plan
      → KnowsPlan me x.schema x.newest.id plan y.files.items p

-- what those of a committer say: of its beginning, of the files that it is given, and of its calls
pub record CommitLaws : Type 0 where
  pub begins : (f : Files) (p : Past) (s : TableSchema) (newest : Newest) (author : Author) (plan : Plan) (names : Naming) (given : List CommitFile) (m : commit_phase.Phase)
      → Stands f p → IsFoundIn p (record { schema = s; newest = newest }) → author.base ≡ newest.id
      → KnowsPlan (record { session = names.session; number = names.actor }) s newest.id plan given p → MayName names
      → HasNamedNone (record { session = names.session; number = names.actor }) p → IsCommitter m → commit.Begins s newest author plan names m
      → KnowsBut (compaction newest.id plan.groups.items) given [] m f p
  pub created : (e : Entry) (given done left : List CommitFile) (file : CommitFile) (m : commit_phase.Phase) (f after : Files) (p : Past) → Stands f p
      → given ≡ done ++ file ∷ left → KnowsBut e given done m f p → 0 < commit.calls_left m → paths.get f file.path ≡ None → Puts f file.path (Some file.bytes) after
      → KnowsBut e given (done ++ file ∷ []) m after p
  pub own : (e : Entry) (given done left : List CommitFile) (file : CommitFile) (m : commit_phase.Phase) (f after : Files) (p : Past) → Stands f p
      → given ≡ done ++ file ∷ left → KnowsBut e given done m f p → 0 < commit.calls_left m → MakesFile file f after → MakesEntry e m f p after p
  pub sound : (e : Entry) → Sound commit.next_call commit.Goes commit.Refuses commit.Stops Stands (MakesEntry e) (commit_meaning.Knows e)

-- what the laws of lower crates say, and what an answer leads to
pub record SoundLaws : Type 0 where
  pub joined : Joined
  pub lists : OneList
  pub read : EntriesRead
  pub views : ViewLaws
  pub rows : OneRows
  pub kept : KeptHave
  pub whole : WholeAre
  pub plans : PlanLaws
  pub commits : CommitLaws
  pub still : (m : Phase) (answer : Answer) (later : Phase) → IsCompactor m → Goes m answer later → IsCompactor later

-- ---- what its calls change

kept : (f after : Files) (p : Past) → after ≡ f → IsKept f p after p
kept f after p same = record { files = λ q. ap (λ (g : Files). paths.get g q) same; past = refl }

-- a create makes the file, whole or in part, or nothing
makes-file : (file : CommitFile) (f : Files) (effect : Effect) → MakesFile file f (after_effect (calls.Create file.path file.bytes) effect f)
makes-file file f effect =
    put_facts.call_makes (puts.Create (making_of (record { after = []; path = []; bytes = [] }) file [])) f effect

module _ (laws : SoundLaws) where
  pub changes : (m : Phase) (f : Files) (p : Past) → Stands f p → Knows m f p → IfSome (next_call m) (λ call. Changes (Leaves m) call f p)
  changes (phases.View asking r) f p stands known =
      IfSome_then (view_reader.next_call r) (view_facts.spares r f) (λ call same effect. (p, kept f (after_effect call effect f) p (same effect)))
  changes (phases.Names x) f p stands known = λ effect. (p, kept f (after_effect (calls.List (codes "manifest")) effect f) p (list_effect (codes "manifest") effect f))
  changes (phases.Files x r) f p stands known =
      IfSome_then (files_reader.next_call r) (files_facts.spares r f) (λ call same effect. (p, kept f (after_effect call effect f) p (same effect)))
  changes (phases.Create m next rest) f p stands ((committer, searches, some), (e, given, done, parts, entry, but)) = λ effect. (
    p,
    (e, entry, laws.commits.own e given done rest.items next m f (after_effect (calls.Create next.path next.bytes) effect f) p stands parts but some (makes-file next f effect)),
  )
  changes (phases.Commit m) f p stands (is, (e, entry, known)) =
      IfSome_then (commit.next_call m) ((laws.commits.sound e).changes m f p stands known)
      (λ call makes effect. (let (later, made) = makes effect in (later, (e, entry, made))))
  changes phases.Nothing f p stands known = tt
  changes phases.Over f p stands known = tt

-- ---- files are created before the commit's own

module _ (f : Files) (p : Past) where
  -- the next of those that are left is to be, or the commit goes on
  next-on : (e : Entry) (m : commit_phase.Phase) (given done left : List CommitFile) (later : Phase) → given ≡ done ++ left → IsEntryIn m e
      → KnowsBut e given done m f p → CreatesNext m left later → KnowsIn later f p
  next-on e m given done [] later parts entry (committer, known, was) is =
      let all : done ≡ given = sym (parts ∙ append-nil done) in
      subst (λ (m : Phase). KnowsIn m f p) (sym is)
      (e, entry, (committer, known, (given, subst (λ (done : List CommitFile). commit_meaning.WasGiven given done m f p) all was)))
  next-on e m given done (next ∷ left) (phases.Create n file rest) parts entry but (same, is, items) = (
    e,
    given,
    done,
    parts ∙ sym (λ i. done ++ is i ∷ items i),
    subst (λ (m : commit_phase.Phase). IsEntryIn m e) (sym same) entry,
    subst (λ (m : commit_phase.Phase). KnowsBut e given done m f p) (sym same) but,
  )
  next-on e m given done (next ∷ left) later parts entry but creates = absurd creates

committer-of : (m : commit_phase.Phase) (left : List CommitFile) (later : Phase) → CreatesNext m left later → IsCompactor later → IsCommitter m
committer-of m [] later is compactor = (subst IsCompactor is compactor).0
committer-of m (next ∷ left) (phases.Create n file rest) (same, is, items) compactor = subst IsCommitter same compactor.0
committer-of m (next ∷ left) later creates compactor = absurd creates

-- ---- the view

opens-with : (asking : Asking) (v : View) (chosen : List ChosenGroup) (later : Phase) (X : Type 0) → OpensWith asking v chosen later → (later ≡ phases.Nothing → X)
    → (chosen ≢ [] → (x : Planned) → IsPlanIn asking v x → later ≡ phases.Names x → X) → X
opens-with asking v [] later X is nothing names = nothing is
opens-with asking v (c ∷ cs) later X (x, plan, is) nothing names = names (λ none. let clash : c ∷ cs ≡ [] = none in cc) x plan is

module _ (laws : SoundLaws) (f : Files) (p : Past) (stands : Stands f p) where
  -- a plan of what a view chose
  plan-known : (asking : Asking) (s : TableSchema) (v : View) (x : Planned) → commit.Reads (views.Ready v) s → IsDeclared s → view_meaning.Knows (views.Ready v) f p
      → IsTableView p v → chosen_in asking v ≢ [] → MayName asking.names → HasNamedNone (actor_of asking.names) p → IsPlanIn asking v x
      → KnowsIn (phases.Names x) f p
  plan-known asking s v x reads declared (table, viewed, sought) is some may none plan =
      let wanted : v.wanted ≡ wants.Entries = ap (λ (a : Asked). a.wanted) (asked-same (asked_of v.schema v.wanted) (newest_of s) reads.asked) in
      let since : p.since ≤ v.id = sought.reaches (subst AsksLatest (sym wanted) tt) in
      let seen = seen-at p v (asked_of_view asking v) (rule_of v.schema) is.is_view some in
      let declared_v : IsDeclared v.schema = subst IsDeclared (sym (ready-schema v s reads)) declared in
      let me : actor_of x.names ≡ actor_of asking.names = ap actor_of plan.names_are in
      let begun =
      laws.plans.begins (actor_of asking.names) p asking v.schema (newest_in v) (chosen_in asking v) x plan
      (may-begin laws.views f p v stands is since seen asking may declared_v some) in
      let after_origin = seen.own.known.after_origin in
      let asked : asked_for x [] [] ≡ chosen_of v.schema v.id (wanted_groups v.schema (chosen_in asking v)) [] =
      λ i. chosen_of (plan.schema_is i) (plan.newest_is i).id (wanted_groups (plan.schema_is i) (plan.left i)) [] in (
        (
          begun.0,
          subst (λ (me : Actor). KnowsPlanned me p x [] begun.0) (sym me) begun.1,
          record {
            view = v;
            is = λ i. record { schema = plan.schema_is i; newest = plan.newest_is i };
            wanted = wanted;
            stood = viewed;
            origin = λ first. absurd (omega (arith, first, after_origin));
          },
          subst (λ (me : Actor). HasNamedNone me p) (sym me) none,
        ),
        subst (IsChosen p) (sym asked) (taken-stood laws.views f p v stands is since seen asking declared_v),
      )

  view-leads : (asking : Asking) (s : TableSchema) (to : view_phase.Phase) (new : Phase) → IsDeclared s → MayName asking.names → HasNamedNone (actor_of asking.names) p
      → commit.Reads to s → view_meaning.Knows to f p → view_reader.WithReader (λ m. phases.View asking m) (Opens asking) to new → KnowsIn new f p
  view-leads asking s to new declared may none reads reading after =
      with_reader (λ m. phases.View asking m) (Opens asking) (λ m. commit.Reads m s × view_meaning.Knows m f p) (KnowsIn new f p) to new after (reads, reading)
      (λ is. subst (λ (m : Phase). KnowsIn m f p) (sym is) (reading, may, none))
      (λ v has opens. opens-with asking v (chosen_in asking v) new (KnowsIn new f p) opens.2
      (λ is. subst (λ (m : Phase). KnowsIn m f p) (sym is) tt)
      (λ some x plan is. subst (λ (m : Phase). KnowsIn m f p) (sym is)
      (plan-known asking s v x has.0 declared has.1 (record { is_view = has.1.1; order = opens.0; table = has.1.0 }) some may none plan)))

  -- ---- the files that are read

  -- more files are to be read, or the commit begins
  with-groups : (Q : files_phase.Phase → Type 0) (X : Type 0) (made : Planned) (rest : files_phase.Phase) (later : Phase) → AfterGroups made rest later → Q rest
      → (later ≡ phases.Files made rest → X)
      → ((c : Collected) → Q (readers.Ready c) → (all : Planned) → HasTold made all → HasRoom all → Begins all later → X) → X
  with-groups Q X made (readers.Files r) later is so held begun = held is
  with-groups Q X made (readers.Again id path) later is so held begun = held is
  with-groups Q X made (readers.Ready c) later (all, told, room, begins) so held begun = begun c so all told room begins
  with-groups Q X made readers.Over later is so held begun = held is

  taken-none : (s : TableSchema) (x : Planned) (left : List ChosenGroup) (takings : List Taking) → left ≡ []
      → AreTakenAt s x.newest.id p left takings → takings ≡ []
  taken-none s x [] [] none taken = refl
  taken-none s x [] (t ∷ takings) none taken = absurd taken
  taken-none s x (c ∷ left) takings none taken = absurd (let clash : c ∷ left ≡ [] = none in cc)

  -- y is the plan x once what is told was written
  begin-known : (x y : Planned) (done : List RewrittenGroup) (later : Phase) → KnowsOfPlan x done p → x.left.items ≡ [] → HasTold x y → HasRoom y → IsCompactor later
      → Begins y later → KnowsIn later f p
  begin-known x y done later (takings, knows, is_found, none) left told room compactor (m, (plan, is_plan, begins), next) =
      let me : Actor = actor_of x.names in
      let same : ToldSame x y = told-same x y told in
      let all : KnowsPlanned me p x done [] =
      subst (λ (ts : List Taking). KnowsPlanned me p x done ts) (taken-none x.schema x x.left.items takings left knows.left) knows in
      let named : NamesSoMany me x.newest.id 0 y.names = laws.plans.named me p x y done all told room in
      let mine : actor_of y.names ≡ me = λ i. record { session = named.session i; number = named.actor i } in
      let whole : KnowsPlan me y.schema y.newest.id plan y.files.items p =
      subst (λ (s : TableSchema). KnowsPlan me s y.newest.id plan y.files.items p) (sym same.schema)
      (subst (λ (n : Newest). KnowsPlan me x.schema n.id plan y.files.items p) (sym same.newest) (laws.plans.whole me p x y done plan all told room is_plan)) in
      let found = subst (IsFoundIn p) (λ i. record { schema = sym same.schema i; newest = sym same.newest i }) is_found in
      let author : y.author.base ≡ y.newest.id = ap (λ (a : Author). a.base) same.author ∙ knows.author ∙ sym (ap (λ (n : Newest). n.id) same.newest) in
      let committer = committer-of m y.files.items later next compactor in
      let but =
      laws.commits.begins f p y.schema y.newest y.author plan y.names y.files.items m stands found author
      (subst (λ (me : Actor). KnowsPlan me y.schema y.newest.id plan y.files.items p) (sym mine) whole) named.may
      (subst (λ (me : Actor). HasNamedNone me p) (sym mine) none) committer begins in
      next-on f p (compaction y.newest.id plan.groups.items) m y.files.items [] y.files.items later refl (begins-entry y m author begins) but next
    where
      begins-entry : (x : Planned) (m : commit_phase.Phase) → x.author.base ≡ x.newest.id → commit.Begins x.schema x.newest x.author plan x.names m
          → IsEntryIn m (compaction x.newest.id plan.groups.items)
      begins-entry x m base (made, is_made, allowed, is) =
          subst (λ (m : commit_phase.Phase). IsEntryIn m (compaction x.newest.id plan.groups.items)) (sym is)
          (ap (λ (n : ℕ). compaction n plan.groups.items) (sym base))

  files-known : (x : Planned) (done : List RewrittenGroup) (given : List GroupRead) (m : files_phase.Phase) (later : Phase) → length given ≡ length done → CanMake x
      → KnowsOfPlan x done p → files_meaning.Knows (asked_for x done given) m f p → IsCompactor later → AfterFiles x m later → KnowsIn later f p
  files-known x done given m later many can (takings, knows, is_found, none) reading compactor (groups, rest, made, hands, rewritten, room, after) =
      let me : Actor = actor_of x.names in
      let handed = are-handed laws.whole x done given many f p m groups rest reading hands in
      let a = all-made laws.rows laws.kept laws.plans.grows f p stands me groups x made done takings handed.first handed.later can knows handed.parts handed.read rewritten room.few in
      let mine : actor_of made.names ≡ me = λ i. record { session = a.knows.names.session i; number = a.knows.names.actor i } in
      let asked : asked_for made a.all (given ++ groups) ≡ chosen_of x.schema x.newest.id (made_groups x.schema done ++ wanted_in x) (given ++ groups) =
      (λ i. chosen_of (a.schema i) (a.newest i).id (made_groups (a.schema i) a.all ++ wanted_in made) (given ++ groups))
      ∙ ap (λ (ws : List Wanted). chosen_of x.schema x.newest.id ws (given ++ groups)) a.asked in
      let reading_on : files_meaning.Knows (asked_for made a.all (given ++ groups)) rest f p =
      subst (λ (a : Chosen). files_meaning.Knows a rest f p) (sym asked) (handed_known (asked_for x done given) m groups rest f p hands reading) in
      let all_many : length (given ++ groups) ≡ length a.all =
      (let longer = length-append given groups in let made_many = a.many in omega (arith, longer, made_many, many)) in
      let plan : KnowsOfPlan made a.all p = (
        a.takings,
        subst (λ (me : Actor). KnowsPlanned me p made a.all a.takings) (sym mine) a.knows,
        subst (IsFoundIn p) (λ i. record { schema = sym a.schema i; newest = sym a.newest i }) is_found,
        subst (λ (me : Actor). HasNamedNone me p) (sym mine) none,
      ) in
      with-groups (λ m. files_reader.IsReady m → handed.later ≡ []) (KnowsIn later f p) made rest later after handed.ended
      (λ is. subst (λ (m : Phase). KnowsIn m f p) (sym is) (a.all, given ++ groups, all_many, plan, reading_on))
      (λ c ended all told more begins. begin-known made all a.all later plan
      (none-mapped (wanted_of made.schema) made.left.items (a.left ∙ ended tt)) told more compactor begins)

-- ---- the commit

-- its entry is of no append
not-append : (intent : Intent) (author : Author) (e : Entry) → IsEntryOf intent author e → IsAppend intent → ⊥
not-append (intents.Append batch) author e is append = is
not-append (intents.Compact plan) author e is append = append
not-append (intents.Fence number) author e is append = is

-- it stays its entry
entry-on : (e : Entry) (m : commit_phase.Phase) (answer : Answer) (later : commit_phase.Phase) → IsCommitter m → commit.Goes m answer later → IsEntryIn m e → IsEntryIn later e
entry-on e m answer later committer goes entry =
    own-on (λ own. IsEntryOf own.intent own.author e) (λ count own is. is) (λ id own is. is) m answer later (λ own r n view is. begins own r n view is) entry goes
  where
    begins : (own : OwnView) (r : view_phase.Phase) (n : ℕ) → m ≡ commits.View own r → IsEntryOf own.intent own.author e
        → IsEntryOf (begun n own).intent (begun n own).author e
    begins own r n view is =
        begun-first (λ o. IsEntryOf o.intent o.author e) own n is
        (λ first. absurd (not-append own.intent own.author e is ((subst IsCommitter view committer).2 first)))

-- ---- what it knows after an answer

module _ (laws : SoundLaws) where
  -- where a call changes nothing
  spared-leads : (m new : Phase) (call : Call) (f : Files) (p : Past) → (Leaves m f p (carried call f) p) → carried call f ≡ f → IsCompactor new → KnowsIn new f p
      → Leads (Leaves m) (Knows new) f p (carried call f)
  spared-leads m new call f p leaves same compactor known =
      (p, leaves, subst (λ (g : Files). Knows new g p) (sym same) (compactor, known))

  went : (m new : Phase) (answer : Answer) (f : Files) (p : Past) → Goes m answer new → Stands f p → Knows m f p
      → IfSome (next_call m) (λ call. Answers call answer f → Leads (Leaves m) (Knows new) f p (carried call f))
  went (phases.View asking r) new answer f p (to, on, after) stands (is, (reading, may, none)) =
      let (left, count, (s, reads, declared, engine)) = is in
      let still = laws.still (phases.View asking r) answer new is (to, on, after) in
      both_if (view_reader.next_call r) _ _ _
      (λ call same next told. spared-leads (phases.View asking r) new call f p (kept f (carried call f) p (same effects.Whole)) (same effects.Whole) still
      (view-leads laws f p stands asking s to new declared may none (reads-on laws.read s r answer to reads on).reads (next told) after))
      (view_facts.spares r f) (view_facts.knows_next laws.joined laws.lists r answer to f p on stands reading)
  went (phases.Names x) new (answers.Listed names) f p (unused, (within, is)) stands (compactor, (plan, chosen)) = λ told.
      let call : Call = calls.List (codes "manifest") in
      let same : carried call f ≡ f = list_effect (codes "manifest") effects.Whole f in
      spared-leads (phases.Names x) new call f p (kept f (carried call f) p same) same (laws.still (phases.Names x) (answers.Listed names) new compactor (unused, (within, is)))
      (subst (λ (m : Phase). KnowsIn m f p) (sym is) (
        [],
        [],
        refl,
        plan,
        next_known (asked_for x [] []) x.newest.id (nothing_of x.schema) (all_wanted x.schema (wanted_in x)) f p refl (first-taken p (asked_for x [] []) chosen refl),
      ))
  went (phases.Files x r) new answer f p (to, on, after) stands (compactor, (done, given, many, plan, reading)) =
      let still = laws.still (phases.Files x r) answer new compactor (to, on, after) in
      both_if (files_reader.next_call r) _ _ _
      (λ call same next told. spared-leads (phases.Files x r) new call f p (kept f (carried call f) p (same effects.Whole)) (same effects.Whole) still
      (files-known laws f p stands x done given to new many compactor.0 plan (next told) still after))
      (files_facts.spares r f) (files_facts.knows_next (asked_for x done given) r answer to f p on stands reading)
  went (phases.Create m next rest) new (answers.Made creates.Created) f p goes stands (compactor, (e, given, done, parts, entry, but)) = λ told.
      let call : Call = calls.Create next.path next.bytes in
      let put_at : Puts f next.path (Some next.bytes) (carried call f) = Answers-Changed call (answers.Made creates.Created) f told in
      let absent = created_absent (paths.get f next.path) told in
      let some = compactor.2 in
      let created = laws.commits.created e given done rest.items next m f (carried call f) p stands parts but some absent put_at in (
        p,
        (e, entry, laws.commits.own e given done rest.items next m f (carried call f) p stands parts but some (inr (next.bytes, (absent, put_at)))),
        (
          laws.still (phases.Create m next rest) (answers.Made creates.Created) new compactor goes,
          next-on (carried call f) p e m given (done ++ next ∷ []) rest.items new (parts ∙ sym (append_assoc done (next ∷ []) rest.items)) entry created goes,
        ),
      )
  went (phases.Commit m) new answer f p (to, on, is) stands (compactor, (e, entry, known)) =
      IfSome_then (commit.next_call m) ((laws.commits.sound e).went m to answer f p on stands known)
      (λ call leads told. (let (q, makes, knows) = leads told in (
        q,
        (e, entry, makes),
        (
          laws.still (phases.Commit m) answer new compactor (to, on, is),
          subst (λ (m : Phase). KnowsIn m (carried call f) q) (sym is) (e, entry-on e m answer to compactor.0 on entry, knows),
        ),
      )))
  went m new answer f p goes stands known = absurd goes

  over-known : (new : Phase) (f : Files) (p : Past) → new ≡ phases.Over → Knows new f p
  over-known new f p over = subst (λ (m : Phase). Knows m f p) (sym over) (tt, tt)

  pub is-sound : Sound next_call Goes (Refuses Shown phases.Over) (Stops phases.Over) Stands Leaves Knows
  is-sound = record {
    changes = changes laws;
    went = went;
    refused = λ m new answer refusal f p refuses stands known. IfSome_then (next_call m) (changes laws m f p stands known)
        (λ call makes told. (let (q, leaves) = makes effects.Whole in (q, leaves, over-known new (carried call f) q refuses.1)));
    failed = λ m new effect f p stops stands known. IfSome_then (next_call m) (changes laws m f p stands known)
        (λ call makes may. (let (q, leaves) = makes effect in (q, leaves, over-known new (after_effect call effect f) q stops)));
    stopped = λ m new f p called stops stands known. over-known new f p stops;
  }

-- ---- images

at-call : (P : Call → Type 0) (o : Option Call) (call : Call) → o ≡ Some call → IfSome o P → P call
at-call P o call is so = subst (λ (o : Option Call). IfSome o P) is so

-- whatever a crash leaves of its next call is one of its changes
pub images : Sound next_call Goes (Refuses Shown phases.Over) (Stops phases.Over) Stands Leaves Knows → (m : Phase) (call : Call) (f image : Files) (p : Past)
    → Stands f p → Knows m f p → next_call m ≡ Some call → MayLeave call f image → (q : Past) × Leaves m f p image q
images sound m call f image p stands known at left =
    let had = effect_left call f image left in
    let (q, leaves) = at-call (λ call. Changes (Leaves m) call f p) (next_call m) call at (sound.changes m f p stands known) had.0 in
    (q, subst (λ (g : Files). Leaves m f p g q) (sym had.1) leaves)
