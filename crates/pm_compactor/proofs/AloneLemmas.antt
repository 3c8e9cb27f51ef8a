-- What a compactor knows stays true from call to call where nobody else acts.
use Rattle.std.proofs.Common.{◌≡◌, ◌≢◌, inl, inr, ℕ, zero, suc, ◌+◌, ◌<◌, ◌≤◌, List, [], ◌∷◌, ◌++◌, codes, length, append_assoc, None, Some, IfSome, refl, sym, ap, ◌∙◌, subst, arith}
use Rattle.std.specs.FinMap as map
use Rattle.pm_values.specs.Names.{Naming}
use Rattle.pm_values.specs.declared.refusal.Refusal.{Refusal}
use Rattle.pm_store.specs.Answers.{Answers}
use Rattle.pm_store.specs.Files.{Files, Puts, after_effect, carried}
use Rattle.pm_store.specs.declared.answer.Answer.{Answer}
use Rattle.pm_store.specs.declared.answer.Answer.TheVariants as answers
use Rattle.pm_store.specs.declared.answer.Made.TheVariants as creates
use Rattle.pm_store.specs.declared.call.Call.{Call}
use Rattle.pm_store.specs.declared.call.Call.TheVariants as calls
use Rattle.pm_store.specs.declared.call.Effect.{Effect}
use Rattle.pm_store.specs.declared.call.Effect.TheVariants as effects
use Rattle.pm_store.proofs.ChangeLaws.{Answers-Changed}
use Rattle.pm_machine.specs.Moves.{IsKept, Leads, Sound}
use Rattle.pm_machine.specs.Running.{Refuses, Stops}
use Rattle.pm_machine.proofs.PhaseFacts.{Spares}
use Rattle.pm_model_history.specs.History.{Entry, History, compaction}
use Rattle.pm_schema.specs.declared.schema.TableSchema.{TableSchema}
use Rattle.pm_snapshot.specs.Names.{MayName}
use Rattle.pm_scan_rows.specs.Group.{GroupRead}
use Rattle.pm_model_folder.specs.Changes.{Actor}
use Rattle.pm_model_folder.specs.Ledger.{Advances, Past, Stands, count_of}
use Rattle.pm_model_folder.specs.Meaning.{HasSnapshotAt}
use Rattle.pm_model_folder.specs.Paths.{snapshot_path}
use Rattle.pm_model_folder.proofs.Facts.{some-none}
use Rattle.pm_put.proofs.Facts.{created_absent}
use Rattle.pm_put.specs.declared.phase.Phase as put_phase
use Rattle.pm_put.specs.declared.putting.CommitFile.{CommitFile}
use Rattle.pm_read_schema.proofs.Facts.{list_effect}
use Rattle.pm_read_table.specs.Asked.{Asked, asked_of}
use Rattle.pm_read_table.specs.Meaning as reader_meaning
use Rattle.pm_read_table.specs.Meaning.{HasGone}
use Rattle.pm_read_table.specs.Reader as reader
use Rattle.pm_read_table.specs.declared.phase.Phase as view_phase
use Rattle.pm_read_table.specs.declared.view.View.{View}
use Rattle.pm_read_table.proofs.Facts as reader_facts
use Rattle.pm_read_table.proofs.WithinLemmas.{with_reader}
use Rattle.pm_group_files.specs.Chosen.{Chosen, chosen_of}
use Rattle.pm_group_files.specs.Collected.{Collected, nothing_of, without_groups}
use Rattle.pm_group_files.specs.Jobs.{all_wanted}
use Rattle.pm_group_files.specs.Meaning as files_meaning
use Rattle.pm_group_files.specs.Meaning.{IsChosen}
use Rattle.pm_group_files.specs.Reader as files
use Rattle.pm_group_files.specs.Reader.{HandsOut, read_next}
use Rattle.pm_group_files.specs.declared.job.Job.{Job}
use Rattle.pm_group_files.specs.declared.phase.Phase as files_phase
use Rattle.pm_group_files.specs.declared.phase.Phase.TheVariants as readers
use Rattle.pm_group_files.proofs.Facts as files_facts
use Rattle.pm_group_files.proofs.Facts.{handed_known}
use Rattle.pm_group_files.proofs.ViewLemmas.{OneRuns}
use Rattle.pm_made.specs.declared.newest.Newest.{Newest}
use Rattle.pm_made.proofs.MadeLemmas.{PathFacts, at, may-count}
use Rattle.pm_choice.specs.declared.choice.ChosenGroup.{ChosenGroup}
use Rattle.pm_plan.specs.Planned.{AllRewritten, HasRoom, HasTold}
use Rattle.pm_plan.specs.declared.planned.Asking.{Asking}
use Rattle.pm_plan.specs.declared.planned.Planned.{Planned}
use Rattle.pm_commit.specs.Alone.{IsTryAt, ReadsNewest, left_of}
use Rattle.pm_commit.specs.Committer as commit
use Rattle.pm_commit.specs.Committer.{first_of_put, newest_of}
use Rattle.pm_commit.specs.Meaning as commit_meaning
use Rattle.pm_commit.specs.Meaning.{AddsOwn, KnowsBut, MakesEntry, MakesFile, MakesOwn, path_after}
use Rattle.pm_commit.specs.Own as owns
use Rattle.pm_commit.specs.Own.{OwnView, own_for_plan}
use Rattle.pm_commit.specs.declared.phase.Phase as commit_phase
use Rattle.pm_commit.specs.declared.phase.Phase.TheVariants as commits
use Rattle.pm_commit.proofs.AddsLemmas.{adds-none}
use Rattle.pm_commit.proofs.AdvanceLemmas.{same-advances}
use Rattle.pm_commit.proofs.AloneCauseLemmas.{begun-actor}
use Rattle.pm_commit.proofs.ApartLemmas.{untouched-puts}
use Rattle.pm_commit.proofs.CauseLemmas.{ReaderCauses}
use Rattle.pm_commit.proofs.CommitterLemmas.{asked-same}
use Rattle.pm_commit.proofs.Facts.{Laws}
use Rattle.pm_commit.proofs.NewestLemmas.{newest-at, reads-newest}
use Rattle.pm_commit.proofs.ReadsLemmas.{reads-on}
use Rattle.pm_commit.proofs.StillLemmas.{OthersNone}
use Rattle.pm_commit.proofs.TraceLemmas.{some-at}
use Rattle.pm_compactor.specs.AllCalls.{Beginning, IsNewestView, entry_of, newest_id}
use Rattle.pm_compactor.specs.Alone.{AreApart, AreUntouched, CommitsAlone, CreatesAlone, HasMadeOf, IsCommitOf, IsPastOf, IsPutAt, IsStill, KnewAlone, LacksNone, MakesAlone, begun_in}
use Rattle.pm_compactor.specs.Compactor.{AfterGroups, Begins, CreatesNext, Goes, IsCreating, Opens, OpensWith, Shown, actor_of, chosen_in, next_call, wanted_in, IsPlanIn}
use Rattle.pm_compactor.specs.Meaning.{IsEntryIn, Knows, Leaves, MayRefuse}
use Rattle.pm_compactor.specs.declared.phase.Phase.{Phase}
use Rattle.pm_compactor.specs.declared.phase.Phase.TheVariants as phases
use Rattle.pm_compactor.proofs.AloneLemmasBegin.{IsDone, WholeGroups, commit-of, entry-is, put-at}
use Rattle.pm_compactor.proofs.AloneLemmasMade.{Grows, all-grow, told-grows}
use Rattle.pm_compactor.proofs.AloneLemmasView.{SeenLaws, newest-view}
use Rattle.pm_compactor.proofs.TraceLemmas.{rewritten-join}

-- ---- what laws say

pub record AloneLaws : Type 0 where
  pub held : Laws
  pub causes : ReaderCauses
  pub parts : PathFacts
  pub runs : OneRuns
  pub others : OthersNone
  pub whole : WholeGroups
  pub begun : (a : Chosen) (f : Files) (p : Past) → IsChosen p a → a.given ≡ []
      → files_meaning.Knows a (read_next a.id (nothing_of a.schema) (all_wanted a.schema a.groups)) f p
  pub created : (e : Entry) (given done left : List CommitFile) (file : CommitFile) (m : commit_phase.Phase) (f after : Files) (p : Past) → Stands f p
      → given ≡ done ++ file ∷ left → KnowsBut e given done m f p → 0 < commit.calls_left m → map.get f file.path ≡ None
      → Puts f file.path (Some file.bytes) after → KnowsBut e given (done ++ file ∷ []) m after p
  pub own : (e : Entry) (given done left : List CommitFile) (file : CommitFile) (m : commit_phase.Phase) (f after : Files) (p : Past) → Stands f p
      → given ≡ done ++ file ∷ left → KnowsBut e given done m f p → 0 < commit.calls_left m → MakesFile file f after → MakesEntry e m f p after p
  pub sound : Sound next_call Goes (Refuses Shown phases.Over) (Stops phases.Over) Stands Leaves Knows
  pub may : (m : Phase) (call : Call) (answer : Answer) (refusal : Refusal) (f : Files) (p : Past) → Stands f p → Knows m f p → next_call m ≡ Some call
      → Answers call answer f → Shown m answer refusal → MayRefuse m f p refusal

pub seen-laws : AloneLaws → SeenLaws
seen-laws laws = record { one = laws.held.one; runs = laws.runs; same = laws.held.same; live = laws.held.live }

-- ---- before a file is created

abbrev pub IsCalm : Phase → Type 0
IsCalm (phases.View asking m) = Unit {0}
IsCalm (phases.Names x) = Unit {0}
IsCalm (phases.Files x m) = Unit {0}
IsCalm other = ⊥

pub calm-spares : (m : Phase) → IsCalm m → (f : Files) → IfSome (next_call m) (Spares f)
calm-spares (phases.View asking m) calm f = reader_facts.spares m f
calm-spares (phases.Names x) calm f = λ effect. list_effect (codes "manifest") effect f
calm-spares (phases.Files x m) calm f = files_facts.spares m f
calm-spares m calm f = absurd calm

calm-kept : (m : Phase) → IsCalm m → (f after : Files) (p later : Past) → Leaves m f p after later → IsKept f p after later
calm-kept (phases.View asking m) calm f after p later kept = kept
calm-kept (phases.Names x) calm f after p later kept = kept
calm-kept (phases.Files x m) calm f after p later kept = kept
calm-kept m calm f after p later kept = absurd calm

-- ---- a file that a snapshot names is there

next-present : (id : ℕ) (c : Collected) (jobs : List Job) → LacksNone (read_next id c jobs)
next-present id c [] = tt
next-present id c (job ∷ jobs) = tt

not-again : (id at : ℕ) (path : List ℕ) (c : Collected) (jobs : List Job) → readers.Again id path ≡ read_next at c jobs → ⊥
not-again id at path c [] is = cc
not-again id at path c (job ∷ jobs) is = cc

again-id : (a : Chosen) (m : files_phase.Phase) (answer : Answer) (id : ℕ) (path : List ℕ) (f : Files) (p : Past) → LacksNone m → files_meaning.Knows a m f p
    → files.Goes m answer (readers.Again id path) → id ≡ a.id
again-id a (readers.Files r) (answers.Found None) id path f p none (same, taken) is =
    let e : readers.Again id path ≡ readers.Again r.id r.next.path = is in
    let one : id ≡ r.id = cc in one ∙ same
again-id a (readers.Files r) (answers.Found (Some bytes)) id path f p none (same, taken) (c, takes, is) = absurd (not-again id r.id path c r.rest is)
again-id a (readers.Again other at) answer id path f p none knows goes = absurd none
again-id a m answer id path f p none knows goes = absurd goes

snapshot-gone : (f : Files) (s : TableSchema) (id : ℕ) → 1 ≤ id → HasSnapshotAt f s id → map.get f (snapshot_path id) ≡ None → ⊥
snapshot-gone f s zero some there absent = omega (arith, some)
snapshot-gone f s (suc id) some there absent = some-none (map.get f (snapshot_path (suc id))) there absent

gone-never : (f : Files) (p : Past) (s : TableSchema) (id : ℕ) → Stands f p → id ≡ count_of p.history → HasGone f p s id → ⊥
gone-never f p s id stands is gone =
    snapshot-gone f s id gone.known.after_origin (subst (HasSnapshotAt f s) (sym is) (newest-at f p s stands gone.table)) gone.absent

present-on : (a : Chosen) (m : files_phase.Phase) (answer : Answer) (to : files_phase.Phase) (f : Files) (p : Past) → LacksNone m → files_meaning.Knows a m f p
    → files.Goes m answer to → a.id ≡ count_of p.history → Stands f p → files_meaning.Knows a to f p → LacksNone to
present-on a m answer (readers.Again id path) f p none knows goes newest stands gone =
    gone-never f p a.schema id stands (again-id a m answer id path f p none knows goes ∙ newest) gone
present-on a m answer to f p none knows goes newest stands known = tt

present-handed : (m : files_phase.Phase) (groups : List GroupRead) (rest : files_phase.Phase) → LacksNone m → HandsOut m groups rest → LacksNone rest
present-handed (readers.Files r) groups rest none (are, is) = subst LacksNone (sym is) tt
present-handed (readers.Ready c) groups rest none (are, is) = subst LacksNone (sym is) tt
present-handed (readers.Again id path) groups rest none hands = absurd none
present-handed readers.Over groups rest none (are, is) = subst LacksNone (sym is) tt

-- where it has all files, it has no group left then
pub ready-none : (m : files_phase.Phase) (groups : List GroupRead) (c : Collected) → HandsOut m groups (readers.Ready c) → c.groups ≡ []
ready-none (readers.Ready old) groups c (are, is) =
    let e : readers.Ready c ≡ readers.Ready (without_groups old) = is in
    let same : c ≡ without_groups old = cc in ap (λ (c : Collected). c.groups) same
ready-none (readers.Files r) groups c (are, is) = absurd (let clash = is in cc)
ready-none (readers.Again id path) groups c (are, is) = absurd (let clash = is in cc)
ready-none readers.Over groups c (are, is) = absurd (let clash = is in cc)

-- ---- the committer's first try

-- its putter, of which the files before are yet to be created
pub record IsPutter (b : Beginning) (v : View) (own : OwnView) (before : List CommitFile) (m : commit_phase.Phase) (f : Files) : Type 0 where
  pub tried : OwnView
  pub schema : TableSchema
  pub id : ℕ
  pub putter : put_phase.Phase
  pub is : m ≡ commits.Put tried schema id putter
  pub is_try : IsTryAt (begun_in b v own) tried id
  pub apart : AreApart (before ++ left_of putter)
  pub untouched : AreUntouched b (before ++ left_of putter) f

pub putter-of : (b : Beginning) (v : View) (own : OwnView) (before : List CommitFile) (m : commit_phase.Phase) (f : Files) → IsPutAt b v own before m f
    → IsPutter b v own before m f
putter-of b v own before (commits.Put o s id m) f (is_try, apart, untouched) = record {
  tried = o;
  schema = s;
  id = id;
  putter = m;
  is = refl;
  is_try = is_try;
  apart = apart;
  untouched = untouched;
}
putter-of b v own before m f none = absurd none

-- its actor is that of the beginning
pub try-actor : (b : Beginning) (v : View) (own o : OwnView) (id : ℕ) → IsCommitOf b v own → IsTryAt (begun_in b v own) o id → owns.actor_of o ≡ actor_of b.asking.names
try-actor b v own o id of ((count, is), next, reason) = ap owns.actor_of is ∙ begun-actor own (newest_id b) ∙ of.maker

-- ---- a step

module _ (laws : AloneLaws) (b : Beginning) where
  still-makes : (f after : Files) (p : Past) → ((path : List ℕ) → map.get after path ≡ map.get f path) → p.history ≡ b.history → MakesAlone b f p after p
  still-makes f after p same is = record {
    same = is;
    advances = same-advances (actor_of b.asking.names) f after p same;
    either = inl is;
    adds = adds-none (actor_of b.asking.names) (path_after b.history) f after same;
    consumers = λ name. refl;
  }

  pub spares-makes : (f : Files) (p : Past) (call : Call) → Spares f call → p.history ≡ b.history → (effect : Effect) → MakesAlone b f p (after_effect call effect f) p
  spares-makes f p call spares is effect = still-makes f (after_effect call effect f) p (λ path. ap (λ (g : Files). map.get g path) (spares effect)) is

  -- what the phase after an answer knows by the machine's laws
  pub calm-knows : (m : Phase) (answer : Answer) (new : Phase) (f : Files) (p : Past) → IsCalm m → Goes m answer new → Stands f p → Knows m f p
      → (call : Call) → next_call m ≡ Some call → Answers call answer f → Knows new f p
  calm-knows m answer new f p calm goes stands knows call is told =
      let leads : Leads (Leaves m) (Knows new) f p (carried call f) = some-at (next_call m) call _ is (laws.sound.went m new answer f p goes stands knows) told in
      let (later, change, known) = leads in
      let kept = calm-kept m calm f (carried call f) p later change in
      let spares : Spares f call = some-at (next_call m) call _ is (calm-spares m calm f) in
      subst (λ (q : Past). Knows new f q) kept.past (subst (λ (g : Files). Knows new g later) (spares effects.Whole) known)

  -- ---- the view is read

  opens-to : (v : View) (asking : Asking) (chosen : List ChosenGroup) (new : Phase) (f : Files) (p : Past) → asking ≡ b.asking → chosen_in asking v ≡ chosen
      → OpensWith asking v chosen new → IsNewestView b v → IsStill b f p → IsPastOf b p → Knows new f p → KnewAlone b new f p
  opens-to v asking [] new f p same are is newest still past knows =
      subst (λ (m : Phase). KnewAlone b m f p) (sym is) (past, (still, (v, newest, subst (λ (a : Asking). chosen_in a v ≡ []) same are)))
  opens-to v asking (c ∷ chosen) new f p same are (x, plan, is) newest still past knows =
      let some : chosen_in b.asking v ≢ [] = λ none. (let clash : c ∷ chosen ≡ [] = sym are ∙ ap (λ (a : Asking). chosen_in a v) same ∙ none in cc) in
      subst (λ (m : Phase). KnewAlone b m f p) (sym is)
      (past, (subst (λ (m : Phase). Knows m f p) is knows, still, (v, newest, some, subst (λ (a : Asking). IsPlanIn a v x) same plan)))

  pub went-view : (asking : Asking) (m : view_phase.Phase) (answer : Answer) (new : Phase) (f : Files) (p : Past) → Goes (phases.View asking m) answer new → Stands f p
      → KnewAlone b (phases.View asking m) f p → (call : Call) → reader.next_call m ≡ Some call → Answers call answer f → Knows new f p → KnewAlone b new f p
  went-view asking m answer new f p (to, goes, with) stands (past, (((some, count, (s, reads, declared, engine)), (reading, may, none)), still, same, newest)) call is told knows =
      let reads_to = (reads-on laws.held.read s m answer to reads goes).reads in
      let reading_to = some-at (reader.next_call m) call _ is (reader_facts.knows_next laws.held.joined laws.held.lists m answer to f p goes stands reading) told in
      let newest_to = some-at (reader.next_call m) call _ is
      (reads-newest laws.held.joined laws.held.lists f p s (newest_id b) stands (ap count_of (sym still.same)) m answer to reads reading newest goes) told in
      with_reader (λ m. phases.View asking m) (Opens asking)
      (λ m. reader_meaning.Knows m f p × ReadsNewest (newest_id b) m × commit.Reads m s) (KnewAlone b new f p) to new with (reading_to, newest_to, reads_to)
      (λ held. subst (λ (m : Phase). KnewAlone b m f p) (sym held) (past, (subst (λ (m : Phase). Knows m f p) held knows, still, same, newest_to)))
      (λ v has opens.
      let wanted = ap (λ (a : Asked). a.wanted) (asked-same (asked_of v.schema v.wanted) (newest_of s) has.2.asked) in
      opens-to v asking (chosen_in asking v) new f p same refl opens.2
      (newest-view (seen-laws laws) b f p stands still v has.0.0 has.1 has.0.1 wanted) still past knows)

  -- ---- the manifests are listed

  pub went-names : (x : Planned) (answer : Answer) (new : Phase) (f : Files) (p : Past) → Goes (phases.Names x) answer new → KnewAlone b (phases.Names x) f p
      → Knows new f p → KnewAlone b new f p
  went-names x (answers.Listed names) new f p (none, (within, is)) (past, ((is_compactor, (of_plan, chosen)), still, (v, newest, some, plan))) knows =
      subst (λ (m : Phase). KnewAlone b m f p) (sym is) (
        past,
        (
          subst (λ (m : Phase). Knows m f p) is knows,
          still,
          (
            v,
            newest,
            some,
            record {
              planned = x;
              is_plan = plan;
              groups = [];
              rewritten = refl;
              reading = laws.begun (chosen_of x.schema x.newest.id (wanted_in x) []) f p chosen refl;
              present = next-present x.newest.id (nothing_of x.schema) (all_wanted x.schema (wanted_in x));
            },
          ),
        ),
      )
  went-names x answer new f p goes known knows = absurd goes

  -- ---- the files are read

  -- the commit begins
  module _ (v : View) (x y : Planned) (f : Files) (p : Past) (past : IsPastOf b p) (still : IsStill b f p) (newest : IsNewestView b v) (some : chosen_in b.asking v ≢ [])
      (done : IsDone b v x f p) (logged : HasTold x y) (room : HasRoom y) (may : MayName y.names) where
    enter : (new : Phase) → Begins y new → Knows new f p → KnewAlone b new f p
    enter new (first, (plan, is_plan, (made, is_made, allowed, at_first)), creates_next) knows = by y.files.items refl creates_next
      where
        of : IsCommitOf b v (own_for_plan plan y.author y.names)
        of = commit-of laws.whole b v x y f p past newest done logged plan is_plan

        at-put : IsPutAt b v (own_for_plan plan y.author y.names) y.files.items (first_of_put (own_for_plan plan y.author y.names) y.schema made) f
        at-put = put-at laws.whole b v x y f p past newest done logged plan is_plan made is_made allowed still room may laws.parts

        same-entry : (m : commit_phase.Phase) (e : Entry) → m ≡ first_of_put (own_for_plan plan y.author y.names) y.schema made → IsEntryIn m e → e ≡ entry_of b.asking v
        same-entry m e is entry =
            let own_entry : e ≡ compaction y.author.base plan.groups.items =
            subst (λ (m : commit_phase.Phase). IsEntryIn m e) is entry in
            own_entry ∙ entry-is laws.whole b v x y f p past newest done logged plan is_plan

        create : (next : CommitFile) (rest : List CommitFile) (later : Phase) → y.files.items ≡ next ∷ rest → IsCreating first next rest later → Knows later f p
            → KnewAlone b later f p
        create next rest (phases.Create m file left) are (is_m, is_file, is_left) ((is_committer, never, more), (e, given, done_files, parts, entry, but)) =
            let is_first : m ≡ first_of_put (own_for_plan plan y.author y.names) y.schema made = is_m ∙ at_first in
            let files_are : y.files.items ≡ file ∷ left.items =
            are ∙ ap (λ (next : CommitFile). next ∷ rest) (sym is_file) ∙ ap (λ (rest : List CommitFile). file ∷ rest) (sym is_left) in (
              past,
              (
                still.same,
                (
                  v,
                  newest,
                  some,
                  record {
                    own = own_for_plan plan y.author y.names;
                    of = of;
                    given = given;
                    done = done_files;
                    parts = parts;
                    knows = subst (λ (e : Entry). KnowsBut e given done_files m f p) (same-entry m e is_first entry) but;
                    left = more;
                    at = subst (λ (m : commit_phase.Phase). IsPutAt b v (own_for_plan plan y.author y.names) (file ∷ left.items) m f) (sym is_first)
                        (subst (λ (files : List CommitFile). IsPutAt b v (own_for_plan plan y.author y.names) files
                        (first_of_put (own_for_plan plan y.author y.names) y.schema made) f) files_are at-put);
                  },
                ),
              ),
            )
        create next rest later are none known = absurd none

        by : (files : List CommitFile) → y.files.items ≡ files → CreatesNext first files new → KnewAlone b new f p
        by [] are is =
            let to : new ≡ phases.Commit (first_of_put (own_for_plan plan y.author y.names) y.schema made) = is ∙ ap (λ (m : commit_phase.Phase). phases.Commit m) at_first in
            let known : Knows (phases.Commit (first_of_put (own_for_plan plan y.author y.names) y.schema made)) f p = subst (λ (m : Phase). Knows m f p) to knows in
            let (is_compactor, (e, entry, commit_known)) = known in
            let put_first = subst (λ (files : List CommitFile). IsPutAt b v (own_for_plan plan y.author y.names) files
            (first_of_put (own_for_plan plan y.author y.names) y.schema made) f) are at-put in
            subst (λ (m : Phase). KnewAlone b m f p) (sym to) (
              past,
              (
                v,
                newest,
                some,
                (
                  own_for_plan plan y.author y.names,
                  of,
                  (
                    subst (λ (e : Entry). commit_meaning.Knows e (first_of_put (own_for_plan plan y.author y.names) y.schema made) f p)
                        (same-entry (first_of_put (own_for_plan plan y.author y.names) y.schema made) e refl entry) commit_known,
                    (still.same, (put_first.0, put_first.2)),
                  ),
                ),
              ),
            )
        by (next ∷ rest) are creating = create next rest new are creating knows

  -- the names may stand in paths
  grown-may : (x y : Planned) → Grows x y → HasRoom y → MayName x.names → MayName y.names
  grown-may x y grown room may =
      let named = room.named in
      let few = room.few in
      let count : y.names.count ≡ x.names.count + length grown.more = ap (λ (t : Naming). t.count) grown.names in
      subst MayName (sym grown.names) (may-count x.names (x.names.count + length grown.more) may (omega (arith, named, few, count)))

  -- with the groups that are whole by now
  after-groups : (v : View) (x made : Planned) (m : files_phase.Phase) (new : Phase) (f : Files) (p : Past) → IsPastOf b p → IsStill b f p → IsNewestView b v
      → chosen_in b.asking v ≢ [] → HasMadeOf b v made m f p → ((c : Collected) → m ≡ readers.Ready c → c.groups ≡ []) → HasRoom made → MayName made.names
      → AfterGroups made m new → Knows new f p → KnewAlone b new f p
  after-groups v x made (readers.Files r) new f p past still newest some has none room may is knows =
      subst (λ (m : Phase). KnewAlone b m f p) (sym is) (past, (subst (λ (m : Phase). Knows m f p) is knows, still, (v, newest, some, has)))
  after-groups v x made (readers.Again id path) new f p past still newest some has none room may is knows = absurd has.present
  after-groups v x made (readers.Ready c) new f p past still newest some has none room may (all, logged, more_room, begins) knows =
      enter v made all f p past still newest some (record {
        planned = has.planned;
        is_plan = has.is_plan;
        groups = has.groups;
        rewritten = has.rewritten;
        taken = (c, none c refl, has.reading);
      }) logged more_room (grown-may made all (told-grows made all logged) more_room may) new begins knows
  after-groups v x made readers.Over new f p past still newest some has none room may is knows =
      subst (λ (m : Phase). KnewAlone b m f p) (sym is) (past, (subst (λ (m : Phase). Knows m f p) is knows, still, (v, newest, some, has)))

  -- of a view's choice more was read
  pub read-more : (v : View) (x : Planned) (m : files_phase.Phase) (answer : Answer) (to : files_phase.Phase) (f : Files) (p : Past) → files.Goes m answer to → Stands f p
      → IsStill b f p → IsNewestView b v → HasMadeOf b v x m f p → (call : Call) → files.next_call m ≡ Some call → Answers call answer f → HasMadeOf b v x to f p
  read-more v x m answer to f p goes stands still newest has call is told =
      let a : Chosen = chosen_of has.planned.schema has.planned.newest.id (wanted_in has.planned) has.groups in
      let reading = some-at (files.next_call m) call _ is (files_facts.knows_next a m answer to f p goes stands has.reading) told in
      let id : has.planned.newest.id ≡ count_of p.history =
      ap (λ (n : Newest). n.id) has.is_plan.newest_is ∙ newest.newest.id ∙ ap count_of (sym still.same) in
      record {
        planned = has.planned;
        is_plan = has.is_plan;
        groups = has.groups;
        rewritten = has.rewritten;
        reading = reading;
        present = present-on a m answer to f p has.present has.reading goes id stands reading;
      }

  -- and made
  pub made-more : (v : View) (x made : Planned) (groups : List GroupRead) (m rest : files_phase.Phase) (f : Files) (p : Past) → HandsOut m groups rest
      → AllRewritten x groups made → HasMadeOf b v x m f p → HasMadeOf b v made rest f p
  made-more v x made groups m rest f p hands rewritten has =
      let a : Chosen = chosen_of has.planned.schema has.planned.newest.id (wanted_in has.planned) has.groups in
      record {
        planned = has.planned;
        is_plan = has.is_plan;
        groups = has.groups ++ groups;
        rewritten = rewritten-join has.planned x made has.groups groups has.rewritten rewritten;
        reading = handed_known a m groups rest f p hands has.reading;
        present = present-handed m groups rest has.present hands;
      }

  pub made-may : (x made : Planned) (groups : List GroupRead) → AllRewritten x groups made → HasRoom made → MayName x.names → MayName made.names
  made-may x made groups rewritten room may = grown-may x made (all-grow x groups made rewritten) room may

  pub went-files : (x : Planned) (m : files_phase.Phase) (answer : Answer) (new : Phase) (f : Files) (p : Past) → Goes (phases.Files x m) answer new → Stands f p
      → KnewAlone b (phases.Files x m) f p → (call : Call) → files.next_call m ≡ Some call → Answers call answer f → Knows new f p → KnewAlone b new f p
  went-files x m answer new f p (to, goes, (groups, rest, made, hands, rewritten, room, after)) stands
      (past, ((is_compactor, (done, given, many, (takings, known, found, unnamed), reading)), still, (v, newest, some, has))) call is told knows =
      let so_far = read-more v x m answer to f p goes stands still newest has call is told in
      after-groups v x made rest new f p past still newest some (made-more v x made groups to rest f p hands rewritten so_far)
      (λ c ready. ready-none to groups c (subst (HandsOut to groups) ready hands)) room (made-may x made groups rewritten room known.names.may) after knows

  -- ---- a file is created

  -- it makes one of the actor's own
  pub create-makes : (v : View) (m : commit_phase.Phase) (next : CommitFile) (rest : List CommitFile) (f after : Files) (p : Past) → Stands f p → p.history ≡ b.history
      → CreatesAlone b v m next rest f p → MakesFile next f after → MakesAlone b f p after p
  create-makes v m next rest f after p stands same c makes =
      let putter = putter-of b v c.own (next ∷ rest) m f c.at in
      let entry : MakesEntry (entry_of b.asking v) m f p after p = laws.own (entry_of b.asking v) c.given c.done rest next m f after p stands c.parts c.knows c.left makes in
      let own : MakesOwn putter.tried (entry_of b.asking v) f p after p = subst (λ (m : commit_phase.Phase). MakesEntry (entry_of b.asking v) m f p after p) putter.is entry in
      record {
        same = same;
        advances = subst (λ (me : Actor). Advances me f p after p) (try-actor b v c.own putter.tried putter.id c.of putter.is_try) own.advances;
        either = inl same;
        adds = subst (λ (me : Actor). AddsOwn me (path_after b.history) f after) (try-actor b v c.own putter.tried putter.id c.of putter.is_try)
            (subst (λ (h : History). AddsOwn (owns.actor_of putter.tried) (path_after h) f after) same own.adds);
        consumers = own.consumers;
      }

  pub went-create : (m : commit_phase.Phase) (next : CommitFile) (rest : List CommitFile) (new : Phase) (f : Files) (p : Past) (v : View) → Stands f p
      → IsPastOf b p → p.history ≡ b.history → IsNewestView b v → chosen_in b.asking v ≢ [] → CreatesAlone b v m next rest f p → CreatesNext m rest new
      → Answers (calls.Create next.path next.bytes) (answers.Made creates.Created) f
      → Leads (MakesAlone b) (KnewAlone b new) f p (carried (calls.Create next.path next.bytes) f)
  went-create m next rest new f p v stands past same newest some c creates_next told =
      (p, create-makes v m next rest f after p stands same c (inr (next.bytes, (absent, puts))), by rest refl creates_next)
    where
      after : Files
      after = carried (calls.Create next.path next.bytes) f

      absent : map.get f next.path ≡ None
      absent = created_absent (map.get f next.path) told

      puts : Puts f next.path (Some next.bytes) (carried (calls.Create next.path next.bytes) f)
      puts = Answers-Changed (calls.Create next.path next.bytes) (answers.Made creates.Created) f told

      but : KnowsBut (entry_of b.asking v) c.given (c.done ++ next ∷ []) m (carried (calls.Create next.path next.bytes) f) p
      but = laws.created (entry_of b.asking v) c.given c.done rest next m f (carried (calls.Create next.path next.bytes) f) p stands c.parts c.knows c.left absent puts

      put-on : (m : commit_phase.Phase) → IsPutAt b v c.own (next ∷ rest) m f → IsPutAt b v c.own rest m (carried (calls.Create next.path next.bytes) f)
      put-on (commits.Put o s id putter) (is_try, apart, untouched) = (
        is_try,
        apart.1,
        untouched-puts f b.files (carried (calls.Create next.path next.bytes) f) next.path next.bytes (rest ++ left_of putter) puts apart.0 untouched.1,
      )
      put-on m none = absurd none

      ended : (m : commit_phase.Phase) → IsPutAt b v c.own [] m (carried (calls.Create next.path next.bytes) f)
          → commit_meaning.Knows (entry_of b.asking v) m (carried (calls.Create next.path next.bytes) f) p
          → CommitsAlone b v c.own m (carried (calls.Create next.path next.bytes) f) p
      ended (commits.Put o s id putter) (is_try, apart, untouched) known = (known, (same, (is_try, untouched)))
      ended m none known = absurd none

      more : (file : CommitFile) (files : List CommitFile) (later : Phase) → rest ≡ file ∷ files → IsCreating m file files later
          → KnewAlone b later (carried (calls.Create next.path next.bytes) f) p
      more file files (phases.Create n one left) are (is_m, is_file, is_left) =
          let rest_are : rest ≡ one ∷ left.items =
          are ∙ ap (λ (file : CommitFile). file ∷ files) (sym is_file) ∙ ap (λ (files : List CommitFile). one ∷ files) (sym is_left) in (
            past,
            (
              same,
              (
                v,
                newest,
                some,
                record {
                  own = c.own;
                  of = c.of;
                  given = c.given;
                  done = c.done ++ next ∷ [];
                  parts = c.parts ∙ sym (append_assoc c.done (next ∷ []) rest) ∙ ap (λ (rest : List CommitFile). (c.done ++ next ∷ []) ++ rest) rest_are;
                  knows = subst (λ (m : commit_phase.Phase). KnowsBut (entry_of b.asking v) c.given (c.done ++ next ∷ []) m (carried (calls.Create next.path next.bytes) f) p)
                      (sym is_m) but;
                  left = subst (λ (m : commit_phase.Phase). 0 < commit.calls_left m) (sym is_m) c.left;
                  at = subst (λ (m : commit_phase.Phase). IsPutAt b v c.own (one ∷ left.items) m (carried (calls.Create next.path next.bytes) f)) (sym is_m)
                      (subst (λ (files : List CommitFile). IsPutAt b v c.own files m (carried (calls.Create next.path next.bytes) f)) rest_are (put-on m c.at));
                },
              ),
            ),
          )
      more file files later are none = absurd none

      by : (files : List CommitFile) → rest ≡ files → CreatesNext m files new → KnewAlone b new (carried (calls.Create next.path next.bytes) f) p
      by [] are is =
          let whole : c.done ++ next ∷ [] ≡ c.given = sym (c.parts ∙ ap (λ (rest : List CommitFile). c.done ++ next ∷ rest) are) in
          let known : commit_meaning.Knows (entry_of b.asking v) m (carried (calls.Create next.path next.bytes) f) p = (
            but.0,
            but.1,
            (c.given, subst (λ (done : List CommitFile). commit_meaning.WasGiven c.given done m (carried (calls.Create next.path next.bytes) f) p) whole but.2),
          ) in
          let put_now = subst (λ (files : List CommitFile). IsPutAt b v c.own files m (carried (calls.Create next.path next.bytes) f)) are (put-on m c.at) in
          subst (λ (m : Phase). KnewAlone b m (carried (calls.Create next.path next.bytes) f) p) (sym is) (past, (v, newest, some, (c.own, c.of, ended m put_now known)))
      by (file ∷ files) are creating = more file files new are creating
