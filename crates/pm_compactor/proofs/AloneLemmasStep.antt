-- What a step of a compactor leaves where nobody else acts.
use Rattle.std.proofs.Common.{◌≡◌, inl, inr, ℕ, List, [], ◌∷◌, codes, Option, Some, IsSome, IfSome, Result, refl, sym, ap, ◌∙◌, subst}
use Rattle.std.specs.FinMap as map
use Rattle.std.specs.List.{AllByRecursion}
use Rattle.pm_values.specs.Names.{Naming}
use Rattle.pm_values.specs.declared.refusal.Refusal.{Refusal}
use Rattle.pm_values.specs.declared.refusal.Refusal.TheVariants as refusals
use Rattle.pm_store.specs.Answers.{Answers, MayHave}
use Rattle.pm_store.specs.Files.{Files, after_effect, carried, files_after}
use Rattle.pm_store.specs.Store.{whole, Meanwhile, StoreView, own_op}
use Rattle.pm_store.specs.declared.answer.Answer.{Answer}
use Rattle.pm_store.specs.declared.answer.Answer.TheVariants as answers
use Rattle.pm_store.specs.declared.answer.Made.TheVariants as creates
use Rattle.pm_store.specs.declared.call.Call.{Call}
use Rattle.pm_store.specs.declared.call.Call.TheVariants as calls
use Rattle.pm_store.specs.declared.call.Effect.{Effect}
use Rattle.pm_store.specs.declared.call.Effect.TheVariants as effects
use Rattle.pm_store.specs.declared.call.Op.{Op}
use Rattle.pm_store.proofs.StepLaws.{Meanwhile-refl, Steps-weaker}
use Rattle.pm_machine.specs.Moves.{Changes, Keeps, Leads, Moves}
use Rattle.pm_machine.specs.Running.{Refuses, Stops}
use Rattle.pm_machine.specs.Step.{Stepped, Failed, Refused, Rested, Stopped, Went, path_of}
use Rattle.pm_machine.proofs.PhaseFacts.{Spares}
use Rattle.pm_scan_rows.specs.Group.{GroupRead}
use Rattle.pm_model_folder.specs.Changes.{Actor, IsNamedBy, IsOwnFile}
use Rattle.pm_model_folder.specs.Ledger.{Past, Stands, count_of}
use Rattle.pm_put.proofs.Facts.{call_makes}
use Rattle.pm_put.specs.Making.{making_of}
use Rattle.pm_put.specs.declared.phase.Phase.TheVariants as puts
use Rattle.pm_put.specs.declared.putting.CommitFile.{CommitFile}
use Rattle.pm_put.specs.declared.putting.Publishing.{Publishing}
use Rattle.pm_read_table.specs.Meaning as reader_meaning
use Rattle.pm_read_table.specs.declared.view.View.{View}
use Rattle.pm_read_table.proofs.FaultLemmas.{IsFileFault}
use Rattle.pm_group_files.specs.Reader as files
use Rattle.pm_group_files.specs.Reader.{HandsOut}
use Rattle.pm_group_files.specs.declared.phase.Phase as files_phase
use Rattle.pm_group_files.specs.declared.phase.Phase.TheVariants as readers
use Rattle.pm_group_files.proofs.FaultLemmas.{refuses_fault}
use Rattle.pm_made.specs.Refusals.{refusal_of}
use Rattle.pm_made.specs.declared.intent.Intent.TheVariants as intents
use Rattle.pm_made.specs.declared.newest.Author.{Author}
use Rattle.pm_made.proofs.AllowedLemmas.{IsReason, is-reason}
use Rattle.pm_plan.specs.Planned.{AllRewritten, HasTold}
use Rattle.pm_plan.specs.declared.planned.Planned.{Planned}
use Rattle.pm_commit.specs.Committer as commit
use Rattle.pm_commit.specs.Marks.{FindsUsed}
use Rattle.pm_commit.specs.Meaning.{MakesFile, WasGiven, own_in}
use Rattle.pm_commit.specs.Own as owns
use Rattle.pm_commit.specs.Own.{OwnView}
use Rattle.pm_commit.specs.declared.phase.Phase as commit_phase
use Rattle.pm_commit.specs.declared.phase.Phase.TheVariants as commits
use Rattle.pm_commit.proofs.AloneCauseLemmas.{listing-same}
use Rattle.pm_commit.proofs.CauseLemmas.{IsNone, met-at, shown-none}
use Rattle.pm_commit.proofs.CreateLemmas.{all-at}
use Rattle.pm_commit.proofs.NewestLemmas.{IsOfNewest, expired-never, shown-newest}
use Rattle.pm_commit.proofs.StillLemmas.{IsHeld, IsMadeBy, given-own, held-in}
use Rattle.pm_commit.proofs.TraceLemmas.{if-is, some-at}
use Rattle.pm_compactor.specs.AllCalls.{Beginning, Chooses, GivesReason, IsNewestView, entry_of, newest_id}
use Rattle.pm_compactor.specs.Alone.{AloneRefused, CommitsAlone, CreatesAlone, HasMadeOf, IsPastOf, IsStill, KnewAlone, KnewIn, KnowsAlone, MakesAlone}
use Rattle.pm_compactor.specs.Compactor.{Goes, RefusesPlan, Shown, actor_of, next_call}
use Rattle.pm_compactor.specs.Meaning.{Knows}
use Rattle.pm_compactor.specs.declared.phase.Phase.{Phase}
use Rattle.pm_compactor.specs.declared.phase.Phase.TheVariants as phases
use Rattle.pm_compactor.proofs.AloneLemmas.{AloneLaws, IsCalm, calm-knows, calm-spares, create-makes, made-more, putter-of, read-more, ready-none, spares-makes, try-actor, went-create, went-files, went-names, went-view}
use Rattle.pm_compactor.proofs.AloneLemmasBegin.{IsDone, author-is, found-is, of-choice}
use Rattle.pm_compactor.proofs.TellLemmas.{refuses-fault}
use Rattle.pm_compactor.proofs.AloneLemmasCommit.{changes-commit, failed-commit, refused-commit, went-commit}

-- ---- before a file is created

-- what a compactor knows there, and that nothing has changed
calm-known : (b : Beginning) (m : Phase) (f : Files) (p : Past) → IsCalm m → KnewIn b m f p → Knows m f p × IsStill b f p
calm-known b (phases.View asking m) f p calm known = (known.0, known.1)
calm-known b (phases.Names x) f p calm known = (known.0, known.1)
calm-known b (phases.Files x m) f p calm known = (known.0, known.1)
calm-known b m f p calm known = absurd calm

-- the history is as it was while a call is left
same-in : (b : Beginning) (m : Phase) (f : Files) (p : Past) → IsSome (next_call m) → KnewIn b m f p → p.history ≡ b.history
same-in b (phases.View asking m) f p some known = known.1.same
same-in b (phases.Names x) f p some known = known.1.same
same-in b (phases.Files x m) f p some known = known.1.same
same-in b (phases.Create m next rest) f p some (same, more) = same
same-in b (phases.Commit m) f p some (v, newest, chosen, (own, of, known)) = by m some known
  where
    by : (m : commit_phase.Phase) → IsSome (commit.next_call m) → CommitsAlone b v own m f p → p.history ≡ b.history
    by (commits.Put o s id m) some known = known.1.0
    by (commits.Committed author id) some known = absurd (let clash = some in cc)
    by m some known = absurd known
same-in b phases.Nothing f p some known = absurd (let clash = some in cc)
same-in b phases.Over f p some known = absurd (let clash = some in cc)

abbrev RefusedFiles : Beginning → Refusal → Files → Past → Type 0
RefusedFiles b refusal f p = IsPastOf b p × AloneRefused b refusal f p

no-publishing : Publishing
no-publishing = record { after = []; path = []; bytes = [] }

-- what the create of a file may make
file-makes : (next : CommitFile) (rest : List CommitFile) (f : Files) (effect : Effect) → MakesFile next f (after_effect (calls.Create next.path next.bytes) effect f)
file-makes next rest f effect = call_makes (puts.Create (making_of no-publishing next rest)) f effect

-- no file of rows that is read as it should is refused so
file-kind : (refusal : Refusal) (P : Type 0) → IsFileFault refusal → (refusal ≡ refusals.Memory → P)
    → ((path : List ℕ) (place : ℕ) → refusal ≡ refusals.Damaged path place → P) → ((what text : List ℕ) → refusal ≡ refusals.Unsupported what text → P) → P
file-kind refusals.Memory P fault memory damaged unsupported = memory refl
file-kind (refusals.Damaged path place) P fault memory damaged unsupported = damaged path place refl
file-kind (refusals.Unsupported what text) P fault memory damaged unsupported = unsupported what text refl
file-kind other P fault memory damaged unsupported = absurd fault

module _ (laws : AloneLaws) (b : Beginning) where
  -- ---- whatever is carried out

  changes-calm : (m : Phase) (f : Files) (p : Past) → IsCalm m → KnewAlone b m f p → IfSome (next_call m) (λ call. Changes (MakesAlone b) call f p)
  changes-calm m f p calm (past, known) =
      if-is (next_call m) (λ call. Changes (MakesAlone b) call f p) (λ call is effect.
      (p, spares-makes laws b f p call (some-at (next_call m) call (Spares f) is (calm-spares m calm f)) (calm-known b m f p calm known).1.same effect))

  changes-on : (m : Phase) (f : Files) (p : Past) → Stands f p → KnewAlone b m f p → IfSome (next_call m) (λ call. Changes (MakesAlone b) call f p)
  changes-on (phases.View asking m) f p stands known = changes-calm (phases.View asking m) f p tt known
  changes-on (phases.Names x) f p stands known = changes-calm (phases.Names x) f p tt known
  changes-on (phases.Files x m) f p stands known = changes-calm (phases.Files x m) f p tt known
  changes-on (phases.Create m next rest) f p stands (past, (same, (v, newest, some, c))) = λ effect.
      (p, create-makes laws b v m next rest.items f (after_effect (calls.Create next.path next.bytes) effect f) p stands same c (file-makes next rest.items f effect))
  changes-on (phases.Commit m) f p stands (past, (v, newest, some, (own, of, known))) = changes-commit laws b v newest some own of m f p stands known
  changes-on phases.Nothing f p stands known = tt
  changes-on phases.Over f p stands known = tt

  -- ---- an answer that it goes on with

  calm-went : (m : Phase) (answer : Answer) (new : Phase) (f : Files) (p : Past) → IsCalm m → Goes m answer new → Stands f p → KnewAlone b m f p → (call : Call)
      → next_call m ≡ Some call → Answers call answer f → KnewAlone b new f p
  calm-went (phases.View asking m) answer new f p calm goes stands (past, known) call is told =
      went-view laws b asking m answer new f p goes stands (past, known) call is told
      (calm-knows laws b (phases.View asking m) answer new f p tt goes stands known.0 call is told)
  calm-went (phases.Names x) answer new f p calm goes stands (past, known) call is told =
      went-names laws b x answer new f p goes (past, known) (calm-knows laws b (phases.Names x) answer new f p tt goes stands known.0 call is told)
  calm-went (phases.Files x m) answer new f p calm goes stands (past, known) call is told =
      went-files laws b x m answer new f p goes stands (past, known) call is told
      (calm-knows laws b (phases.Files x m) answer new f p tt goes stands known.0 call is told)
  calm-went m answer new f p calm goes stands known call is told = absurd calm

  -- what holds of the files still holds of them after the call
  calm-leads : (m : Phase) (f : Files) (p : Past) (P : Files → Past → Type 0) → IsCalm m → KnewAlone b m f p → (call : Call) → next_call m ≡ Some call → P f p
      → Leads (MakesAlone b) P f p (carried call f)
  calm-leads m f p P calm (past, known) call is so =
      let spares : Spares f call = some-at (next_call m) call _ is (calm-spares m calm f) in
      (p, spares-makes laws b f p call spares (calm-known b m f p calm known).1.same effects.Whole, subst (λ (g : Files). P g p) (sym (spares effects.Whole)) so)

  went-calm : (m : Phase) (answer : Answer) (new : Phase) (f : Files) (p : Past) → IsCalm m → Goes m answer new → Stands f p → KnewAlone b m f p
      → IfSome (next_call m) (λ call. Answers call answer f → Leads (MakesAlone b) (KnewAlone b new) f p (carried call f))
  went-calm m answer new f p calm goes stands known =
      if-is (next_call m) _ (λ call is told. calm-leads m f p (KnewAlone b new) calm known call is (calm-went m answer new f p calm goes stands known call is told))

  went-on : (m : Phase) (answer : Answer) (new : Phase) (f : Files) (p : Past) → Goes m answer new → Stands f p → KnewAlone b m f p
      → IfSome (next_call m) (λ call. Answers call answer f → Leads (MakesAlone b) (KnewAlone b new) f p (carried call f))
  went-on (phases.View asking m) answer new f p goes stands known = went-calm (phases.View asking m) answer new f p tt goes stands known
  went-on (phases.Names x) answer new f p goes stands known = went-calm (phases.Names x) answer new f p tt goes stands known
  went-on (phases.Files x m) answer new f p goes stands known = went-calm (phases.Files x m) answer new f p tt goes stands known
  went-on (phases.Create m next rest) (answers.Made creates.Created) new f p creates_next stands (past, (same, (v, newest, some, c))) = λ told.
      went-create laws b m next rest.items new f p v stands past same newest some c creates_next told
  went-on (phases.Commit m) answer new f p (to, goes, is) stands (past, (v, newest, some, (own, of, known))) =
      subst (λ (new : Phase). IfSome (commit.next_call m) (λ call. Answers call answer f → Leads (MakesAlone b) (KnewAlone b new) f p (carried call f))) (sym is)
      (went-commit laws b v newest some own of m answer to f p goes stands past known)
  went-on m answer new f p goes stands known = absurd goes

  -- ---- an answer that shows a refusal

  forgotten : (refusal : Refusal) (f : Files) (p : Past) → refusal ≡ refusals.Memory → p.history ≡ b.history → AloneRefused b refusal f p
  forgotten refusal f p is same = subst (λ (r : Refusal). AloneRefused b r f p) (sym is) same

  seen-refused : (refusal : Refusal) (f : Files) (p : Past) → Stands f p → p.history ≡ b.history → IsNone refusal → IsOfNewest (newest_id b) refusal
      → reader_meaning.MayRefuse f p refusal → AloneRefused b refusal f p
  seen-refused refusals.Memory f p stands same none newest may = same
  seen-refused (refusals.Expired id) f p stands same none newest may = absurd (expired-never f p id stands (newest ∙ ap count_of (sym same)) may)
  seen-refused (refusals.NoSnapshot id latest) f p stands same none newest may = absurd none
  seen-refused other f p stands same none newest may = absurd may

  -- a reason against the plan, once all files were read and made, and what is told was written
  gives-reason : (x made all : Planned) (groups : List GroupRead) (to rest : files_phase.Phase) (refusal : Refusal) (f : Files) (p : Past) (v : View) → IsPastOf b p
      → IsNewestView b v → HasMadeOf b v x to f p → HandsOut to groups rest → AllRewritten x groups made → files.IsReady rest → HasTold made all
      → RefusesPlan all refusal → GivesReason b v refusal
  gives-reason x made all groups to (readers.Ready c) refusal f p v past newest has hands rewritten ready logged (plan, is_plan, reason) =
      let more = made-more laws b v x made groups to (readers.Ready c) f p hands rewritten has in
      let done : IsDone b v made f p = record {
        planned = more.planned;
        is_plan = more.is_plan;
        groups = more.groups;
        rewritten = more.rewritten;
        taken = (c, ready-none to groups c hands, more.reading);
      } in (
        plan,
        of-choice laws.whole b v made all f p past newest done logged plan is_plan,
        all.newest,
        found-is laws.whole b v made all f p past newest done logged,
        subst (λ (a : Author). refusal_of all.newest a (intents.Compact plan) ≡ Some refusal) (author-is laws.whole b v made all f p past newest done logged) reason,
      )
  gives-reason x made all groups to (readers.Files r) refusal f p v past newest has hands rewritten ready logged refuses = absurd ready
  gives-reason x made all groups to (readers.Again id path) refusal f p v past newest has hands rewritten ready logged refuses = absurd ready
  gives-reason x made all groups to readers.Over refusal f p v past newest has hands rewritten ready logged refuses = absurd ready

  by-reason : (x : Planned) (m : files_phase.Phase) (call : Call) (answer : Answer) (refusal : Refusal) (f : Files) (p : Past) → IsReason refusal
      → Stands f p → Knows (phases.Files x m) f p → next_call (phases.Files x m) ≡ Some call → Answers call answer f → Shown (phases.Files x m) answer refusal
      → IsStill b f p → Chooses b (λ v. GivesReason b v refusal) → AloneRefused b refusal f p
  by-reason x m call answer (refusals.Fenced base fence) f p is stands known at told shown still gives =
      absurd (laws.may (phases.Files x m) call answer (refusals.Fenced base fence) f p stands known at told shown)
  by-reason x m call answer (refusals.CompactTaken file) f p is stands known at told shown still gives =
      absurd (laws.may (phases.Files x m) call answer (refusals.CompactTaken file) f p stands known at told shown)
  by-reason x m call answer (refusals.Limit which number) f p is stands known at told shown still gives = (still, gives)
  by-reason x m call answer other f p is stands known at told shown still gives = absurd is

  -- no file is damaged
  no-fault : (x : Planned) (m : files_phase.Phase) (call : Call) (answer : Answer) (refusal : Refusal) (f : Files) (p : Past) → Stands f p
      → Knows (phases.Files x m) f p → next_call (phases.Files x m) ≡ Some call → Answers call answer f → Shown (phases.Files x m) answer refusal → IsStill b f p
      → IsFileFault refusal → AloneRefused b refusal f p
  no-fault x m call answer refusal f p stands known at told shown still fault =
      file-kind refusal (AloneRefused b refusal f p) fault
      (λ memory. forgotten refusal f p memory still.same)
      (λ path place is. absurd (laws.may (phases.Files x m) call answer (refusals.Damaged path place) f p stands known at told
      (subst (λ (e : Refusal). Shown (phases.Files x m) answer e) is shown)))
      (λ what text is. absurd (laws.may (phases.Files x m) call answer (refusals.Unsupported what text) f p stands known at told
      (subst (λ (e : Refusal). Shown (phases.Files x m) answer e) is shown)))

  refused-file : (x : Planned) (m : files_phase.Phase) (call : Call) (answer : Answer) (refusal : Refusal) (f : Files) (p : Past) (v : View) → Stands f p
      → Knows (phases.Files x m) f p → next_call (phases.Files x m) ≡ Some call → Answers call answer f → files.Shown m answer refusal → IsStill b f p
      → HasMadeOf b v x m f p → AloneRefused b refusal f p
  refused-file x (readers.Files r) call (answers.Found (Some bytes)) refusal f p v stands known at told (inl memory) still has = forgotten refusal f p memory still.same
  refused-file x (readers.Files r) call (answers.Found (Some bytes)) refusal f p v stands known at told (inr bad) still has =
      no-fault x (readers.Files r) call (answers.Found (Some bytes)) refusal f p stands known at told (inl (inr bad)) still
      (refuses_fault r.collected.schema r.next bytes r.collected.rows refusal bad)
  refused-file x (readers.Again id path) call answer refusal f p v stands known at told shown still has = absurd has.present
  refused-file x m call answer refusal f p v stands known at told shown still has = absurd shown

  calm-refused : (m : Phase) (answer : Answer) (refusal : Refusal) (f : Files) (p : Past) → IsCalm m → Shown m answer refusal → Stands f p → KnewAlone b m f p
      → (call : Call) → next_call m ≡ Some call → Answers call answer f → AloneRefused b refusal f p
  calm-refused (phases.View asking m) answer refusal f p calm (inl (is, v, engine, goes)) stands (past, (known, still, same, newest)) call at told =
      forgotten refusal f p is still.same
  calm-refused (phases.View asking m) answer refusal f p calm (inr shown) stands
      (past, (((some, count, (s, reads, declared, engine)), (reading, may, none)), still, same, newest)) call at told =
      seen-refused refusal f p stands still.same (shown-none s m answer refusal reads shown) (shown-newest (newest_id b) m answer refusal newest shown)
      (laws.causes m call answer refusal f p stands reading at told shown)
  calm-refused (phases.Names x) (answers.Listed names) refusal f p calm (inl memory) stands (past, (known, still, more)) call at told =
      forgotten refusal f p memory still.same
  calm-refused (phases.Names x) (answers.Listed names) refusal f p calm (inr (path, finds, is)) stands (past, (known, still, (v, newest, some, plan))) call at told =
      let told_here : Answers (calls.List (codes "manifest")) (answers.Listed names) f =
      subst (λ (call : Call). Answers call (answers.Listed names) f) (let e : Some (calls.List (codes "manifest")) ≡ Some call = at in let same : call ≡ calls.List (codes "manifest") = cc in same) told in
      subst (λ (r : Refusal). AloneRefused b r f p) (sym is) (
        still.same,
        inl (
          names.items,
          listing-same f b.files (codes "manifest") names.items still.unchanged told_here,
          subst (λ (t : Naming). FindsUsed t names.items (Some path)) plan.names_are finds,
        ),
      )
  calm-refused (phases.Names x) answer refusal f p calm shown stands known call at told = absurd shown
  calm-refused (phases.Files x m) answer refusal f p calm (inl shown) stands (past, (known, still, (v, newest, some, has))) call at told =
      refused-file x m call answer refusal f p v stands known at told shown still has
  calm-refused (phases.Files x m) answer refusal f p calm (inr (to, goes, inl (memory, has_all))) stands (past, (known, still, more)) call at told =
      forgotten refusal f p memory still.same
  calm-refused (phases.Files x m) answer refusal f p calm (inr (to, goes, inr (inl (rest, groups, hands, fails)))) stands (past, (known, still, more)) call at told =
      no-fault x m call answer refusal f p stands known at told (inr (to, goes, inr (inl (rest, groups, hands, fails)))) still (refuses-fault x groups refusal fails)
  calm-refused (phases.Files x m) answer refusal f p calm (inr (to, goes, inr (inr (rest, groups, made, all, hands, rewritten, ready, logged, (plan, is_plan, reason))))) stands
      (past, (known, still, (v, newest, some, has))) call at told =
      let so_far = read-more laws b v x m answer to f p goes stands still newest has call at told in
      by-reason x m call answer refusal f p (is-reason all.newest all.author (intents.Compact plan) refusal reason) stands known at told
      (inr (to, goes, inr (inr (rest, groups, made, all, hands, rewritten, ready, logged, (plan, is_plan, reason))))) still
      (v, newest, some, gives-reason x made all groups to rest refusal f p v past newest so_far hands rewritten ready logged (plan, is_plan, reason))
  calm-refused m answer refusal f p calm shown stands known call at told = absurd calm

  -- a create met a file that was there at the beginning
  named-next : (v : View) (m : commit_phase.Phase) (next : CommitFile) (rest : List CommitFile) (f : Files) (p : Past) → CreatesAlone b v m next rest f p
      → IsNamedBy (actor_of b.asking.names) next.path
  named-next v m next rest f p c =
      let putter = putter-of b v c.own (next ∷ rest) m f c.at in
      let o : OwnView = putter.tried in
      let held : IfSome (own_in m) (IsHeld (entry_of b.asking v) p) = held-in (entry_of b.asking v) m f p c.knows.0 c.knows.1 in
      let held_here : IsHeld (entry_of b.asking v) p o = subst (λ (m : commit_phase.Phase). IfSome (own_in m) (IsHeld (entry_of b.asking v) p)) putter.is held in
      let given = subst (λ (m : commit_phase.Phase). WasGiven c.given c.done m f p) putter.is c.knows.2 in
      let (s, plain, known) = held_here in
      let all = given-own laws.held.compact.given o.intent (owns.actor_of o) o.author.base c.given p s known.is_table plain given.0 in
      let own_file : IsOwnFile (owns.actor_of o) o.author.base next.path =
      all-at (IsMadeBy (owns.actor_of o) o.author.base) c.done rest next (subst (AllByRecursion (IsMadeBy (owns.actor_of o) o.author.base)) c.parts all) in
      subst (λ (me : Actor). IsNamedBy me next.path) (try-actor b v c.own o putter.id c.of putter.is_try) own_file.by

  was-there : (v : View) (m : commit_phase.Phase) (next : CommitFile) (rest : List CommitFile) (f : Files) (p : Past) → CreatesAlone b v m next rest f p
      → Answers (calls.Create next.path next.bytes) (answers.Made creates.Exists) f → IsSome (map.get b.files next.path)
  was-there v m next rest f p c told =
      let putter = putter-of b v c.own (next ∷ rest) m f c.at in
      let met = met-at (map.get f next.path) told in
      let was : map.get b.files next.path ≡ Some met.0 = sym putter.untouched.0 ∙ met.1 in
      subst (λ (o : Option (List ℕ)). IsSome o) (sym was) refl

  refused-calm : (m : Phase) (answer : Answer) (refusal : Refusal) (f : Files) (p : Past) → IsCalm m → Shown m answer refusal → Stands f p → KnewAlone b m f p
      → IfSome (next_call m) (λ call. Answers call answer f → Leads (MakesAlone b) (RefusedFiles b refusal) f p (carried call f))
  refused-calm m answer refusal f p calm shown stands known =
      if-is (next_call m) _ (λ call is told.
      calm-leads m f p (RefusedFiles b refusal) calm known call is (known.0, calm-refused m answer refusal f p calm shown stands known call is told))

  refused-on : (m : Phase) (answer : Answer) (refusal : Refusal) (f : Files) (p : Past) → Shown m answer refusal → Stands f p → KnewAlone b m f p
      → IfSome (next_call m) (λ call. Answers call answer f → Leads (MakesAlone b) (RefusedFiles b refusal) f p (carried call f))
  refused-on (phases.View asking m) answer refusal f p shown stands known = refused-calm (phases.View asking m) answer refusal f p tt shown stands known
  refused-on (phases.Names x) answer refusal f p shown stands known = refused-calm (phases.Names x) answer refusal f p tt shown stands known
  refused-on (phases.Files x m) answer refusal f p shown stands known = refused-calm (phases.Files x m) answer refusal f p tt shown stands known
  refused-on (phases.Create m next rest) (answers.Made creates.Exists) refusal f p is stands (past, (same, (v, newest, some, c))) = λ told.
      let call : Call = calls.Create next.path next.bytes in (
        p,
        create-makes laws b v m next rest.items f (carried call f) p stands same c (file-makes next rest.items f effects.Whole),
        (
          past,
          subst (λ (r : Refusal). AloneRefused b r (carried call f) p) (sym is)
              (same, inr (named-next v m next rest.items f p c, was-there v m next rest.items f p c told)),
        ),
      )
  refused-on (phases.Commit m) answer refusal f p shown stands (past, (v, newest, some, (own, of, known))) =
      refused-commit laws b v newest some own of m answer refusal f p shown stands past known
  refused-on m answer refusal f p shown stands known = absurd shown

  -- ---- a fault of the store

  abbrev FailedFiles : Call → Files → Past → Type 0
  FailedFiles call f p = RefusedFiles b (refusals.StoreFault (path_of call)) f p

  failed-calm : (m : Phase) (effect : Effect) (f : Files) (p : Past) → IsCalm m → KnewAlone b m f p
      → IfSome (next_call m) (λ call. Leads (MakesAlone b) (FailedFiles call) f p (after_effect call effect f))
  failed-calm m effect f p calm (past, known) =
      if-is (next_call m) (λ call. Leads (MakesAlone b) (FailedFiles call) f p (after_effect call effect f)) (λ call is.
      (let same = (calm-known b m f p calm known).1.same in
      (p, spares-makes laws b f p call (some-at (next_call m) call (Spares f) is (calm-spares m calm f)) same effect, (past, inl same))))

  failed-on : (m : Phase) (effect : Effect) (f : Files) (p : Past) → Stands f p → KnewAlone b m f p
      → IfSome (next_call m) (λ call. Leads (MakesAlone b) (FailedFiles call) f p (after_effect call effect f))
  failed-on (phases.View asking m) effect f p stands known = failed-calm (phases.View asking m) effect f p tt known
  failed-on (phases.Names x) effect f p stands known = failed-calm (phases.Names x) effect f p tt known
  failed-on (phases.Files x m) effect f p stands known = failed-calm (phases.Files x m) effect f p tt known
  failed-on (phases.Create m next rest) effect f p stands (past, (same, (v, newest, some, c))) = (
    p,
    create-makes laws b v m next rest.items f (after_effect (calls.Create next.path next.bytes) effect f) p stands same c (file-makes next rest.items f effect),
    (past, inl same),
  )
  failed-on (phases.Commit m) effect f p stands (past, (v, newest, some, (own, of, known))) =
      failed-commit laws b v newest some own of m effect f p stands past known
  failed-on phases.Nothing effect f p stands known = tt
  failed-on phases.Over effect f p stands known = tt

  -- ---- a step

  has-call : {next : Option Call} {call : Call} → next ≡ Some call → IsSome next
  has-call is = subst (λ (next : Option Call). IsSome next) (sym is) refl

  pub alone-moves : {old new : Phase} {before after : StoreView} {result : Result (Unit {0}) Refusal}
      → Stepped next_call Goes (Refuses Shown phases.Over) (Stops phases.Over) old new before after result
      → Moves Stands (MakesAlone b) (KnewAlone b old) (KnowsAlone b new result) before after
  alone-moves {old} {new} {before} {after} (Rested none same still) =
      inr (subst (Meanwhile before) (sym still) (Meanwhile-refl before), λ (f : Files) (p : Past) stands known. subst (λ (m : Phase). KnewAlone b m f p) (sym same) known)
  alone-moves {old} {new} {before} {after} (Went call answer is came on) =
      let keeps : (ops : List Op) → Answers call answer (files_after ops)
      → Keeps Stands (MakesAlone b) (KnewAlone b old) (KnewAlone b new) (whole call) (files_after ops) =
      λ ops here p stands known. (
        (rw is at (changes-on old (files_after ops) p stands known)),
        (rw is at (went-on old answer new (files_after ops) p on stands known)) here,
      ) in
      inl (whole call, refl, Steps-weaker (whole call) _ _ before after keeps came.0)
  alone-moves {old} {new} {before} {after} (Refused call answer refusal is came on) =
      let keeps : (ops : List Op) → Answers call answer (files_after ops)
      → Keeps Stands (MakesAlone b) (KnewAlone b old) (RefusedFiles b refusal) (whole call) (files_after ops) =
      λ ops here p stands known. (
        (rw is at (changes-on old (files_after ops) p stands known)),
        (rw is at (refused-on old answer refusal (files_after ops) p on.0 stands known)) here,
      ) in
      inl (whole call, refl, Steps-weaker (whole call) _ _ before after keeps came.0)
  alone-moves {old} {new} {before} {after} (Stopped call is meanwhile stop) =
      inr (meanwhile, λ f p stands known. (known.0, same-in b old f p (has-call is) known.1))
  alone-moves {old} {new} {before} {after} (Failed call is came stop) =
      let effect : Effect = came.0.0 in
      let op : Op = own_op call effect in
      let keeps : (ops : List Op) → MayHave call effect (files_after ops)
      → Keeps Stands (MakesAlone b) (KnewAlone b old) (RefusedFiles b (refusals.StoreFault (path_of call))) op (files_after ops) =
      λ ops may p stands known. (
        (rw is at (changes-on old (files_after ops) p stands known)),
        rw is at (failed-on old effect (files_after ops) p stands known),
      ) in
      inl (op, refl, Steps-weaker op _ _ before after keeps came.0.1)
