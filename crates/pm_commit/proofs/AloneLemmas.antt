-- What a committer does to a history where nobody else acts.
use Rattle.std.proofs.Common.{◌≡◌, ◌⊎◌, inl, inr, ℕ, ◌+◌, ◌≤◌, true, List, [], ◌∷◌, length, Option, None, Some, IsSome, IfSome, Result, Ok, Err, IfOk, refl, sym, ap, ◌∙◌, subst, arith}
use Rattle.std.proofs.lemmas.Option.{IfSome_then}
use Rattle.pm_values.specs.declared.refusal.Refusal.{Refusal}
use Rattle.pm_values.specs.declared.refusal.Refusal.TheVariants as refusals
use Rattle.pm_store.specs.Answers.{Answers, MayHave}
use Rattle.pm_store.specs.Files.{Files, Puts, after_effect, carried, files_after}
use Rattle.pm_store.specs.Store.{whole, Meanwhile, StoreView, own_op}
use Rattle.pm_store.specs.declared.answer.Answer.{Answer}
use Rattle.pm_store.specs.declared.answer.Answer.TheVariants as answers
use Rattle.pm_store.specs.declared.answer.Made.TheVariants as creates
use Rattle.pm_store.specs.declared.answer.Published.{Published}
use Rattle.pm_store.specs.declared.answer.Published.TheVariants as published
use Rattle.pm_store.specs.declared.call.Call.{Call}
use Rattle.pm_store.specs.declared.call.Effect.{Effect}
use Rattle.pm_store.specs.declared.call.Effect.TheVariants as effects
use Rattle.pm_store.specs.declared.call.Op.{Op}
use Rattle.pm_store.proofs.ChangeLaws.{Answers-Changed}
use Rattle.pm_store.proofs.StepLaws.{Meanwhile-refl, Steps-weaker}
use Rattle.pm_machine.specs.Moves.{Keeps, Leads, Moves}
use Rattle.pm_machine.specs.Step.{Stepped, Failed, Refused, Rested, Stopped, Went, path_of}
use Rattle.pm_model_history.specs.History.{Entry, History}
use Rattle.pm_snapshot.specs.Names.{greatest}
use Rattle.pm_model_folder.specs.Ledger.{Past, Stands, count_of}
use Rattle.pm_model_folder.specs.Paths.{snapshot_path}
use Rattle.pm_read_table.specs.Reader as reader
use Rattle.pm_read_table.specs.declared.phase.Phase as view_phase
use Rattle.pm_read_table.specs.declared.phase.Phase.TheVariants as readers
use Rattle.pm_read_table.specs.declared.view.View.{View}
use Rattle.pm_machine.proofs.PhaseFacts.{both_if}
use Rattle.pm_made.specs.Refusals.{refusal_of}
use Rattle.pm_made.proofs.AllowedLemmas.{allowed-id}
use Rattle.pm_made.proofs.MadeLemmas.{PathFacts}
use Rattle.pm_put.specs.declared.putting.CommitFile.{CommitFile}
use Rattle.pm_schema.specs.declared.schema.TableSchema.{TableSchema}
use Rattle.pm_commit.specs.Alone.{AloneAt, AloneRefused, AreUntouched, Beginning, IsTryAt, IsUnchanged, KnewAlone, KnowsAlone, ReadsNewest, SeesNewest, begun_at, newest_id, with_entry}
use Rattle.pm_commit.specs.Committer.{After, AfterReader, Goes, Hears, Makes, Outcome, Refuses, Stops, Tries, first_of_try, found_in, next_call, publishing_of}
use Rattle.pm_commit.specs.Meaning.{Appends, KnowsTry, MakesEntry}
use Rattle.pm_commit.specs.Own.{OwnView, begun, with_named}
use Rattle.pm_commit.specs.Search.{older_ids, seen_in, seen_of}
use Rattle.pm_put.specs.Putter as put
use Rattle.pm_put.specs.Putter.{create_call, publish_call}
use Rattle.pm_put.specs.Trace.{IsLost}
use Rattle.pm_put.specs.declared.phase.Phase as put_phase
use Rattle.pm_put.specs.declared.phase.Phase.TheVariants as puts
use Rattle.pm_put.specs.declared.putting.Publishing.{Publishing}
use Rattle.pm_commit.specs.declared.found.Found.{Found}
use Rattle.pm_commit.specs.declared.phase.Phase.{Phase}
use Rattle.pm_commit.specs.declared.phase.Phase.TheVariants as phases
use Rattle.pm_commit.specs.declared.search.Seen.{Seen}
use Rattle.pm_commit.proofs.AloneCauseLemmas.{begun-same, calm-caused, view-rests, view-sees}
use Rattle.pm_commit.proofs.ApartLemmas.{rest-apart, untouched-puts}
use Rattle.pm_commit.proofs.CauseLemmas.{ReaderCauses}
use Rattle.pm_commit.proofs.CommitterLemmas.{begun-at, still-committer}
use Rattle.pm_commit.proofs.Facts.{Laws, NoPublish, by-publish, changes-on, gave-after, keeps-on, makes-on, next-on, published-leads, putter-at}
use Rattle.pm_commit.proofs.NewestLemmas.{never-lost, reads-newest}
use Rattle.pm_commit.proofs.OutcomeLemmas.{err-ok, heard, ok-same, read-on, tried}
use Rattle.pm_commit.proofs.TraceLemmas.{if-is, some-at}

-- ---- nothing is committed yet

module _ (b : Beginning) (f : Files) (now : History) (same : now ≡ b.history) where
  to-alone : (to new : Phase) → new ≡ to → AloneAt b to f now → AloneAt b new f now
  to-alone to new is at = subst (λ (m : Phase). AloneAt b m f now) (sym is) at

  pub put-alone : (own : OwnView) (s : TableSchema) (id : ℕ) (x : Publishing) (files : List CommitFile) → IsTryAt b own id → AreUntouched b files f
      → AloneAt b (phases.Put own s id (put.create_next x files)) f now
  put-alone own s id x [] is untouched = (same, (is, tt))
  put-alone own s id x (file ∷ files) is untouched = (same, (is, untouched))

  -- before the first file is created
  module _ (unchanged : IsUnchanged b f) where
    pub all-untouched : (files : List CommitFile) → AreUntouched b files f
    all-untouched [] = tt
    all-untouched (file ∷ files) = (unchanged file.path, all-untouched files)

    pub makes-alone : (own : OwnView) (found : Found) (new : Phase) → own ≡ begun_at b → SeesNewest b found → Makes own found (Ok new) → AloneAt b new f now
    makes-alone own found new is sees (made, is_made, allowed, to) =
        let count : ℕ = own.names.count + length made.files.items in
        to-alone _ new to
        (put-alone (with_named count own) found.schema made.id (publishing_of found.schema made.id made.text) made.files.items (
          (count, ap (with_named count) is),
          is_made.id ∙ ap (λ (id : ℕ). id + 1) sees.id,
          (found, sees, subst (λ (o : OwnView). refusal_of found.newest o.author o.intent ≡ None) is allowed),
        ) (all-untouched made.files.items))

    hears-alone : (own : OwnView) (found : Found) (left : List ℕ) (said : Seen) (new : Phase) → own ≡ begun_at b → SeesNewest b found → b.own.check ≡ true
        → Hears own found left said (Ok new) → AloneAt b new f now
    hears-alone own found left said new is sees asked on =
        heard (λ (o : Outcome). IfOk o (λ m. AloneAt b m f now)) own found left said (Ok new) (λ free on. makes-alone own found new is sees on)
        (λ id rest other at few. (same, (unchanged, is, sees, asked))) (λ reached. (same, (unchanged, ap (λ (o : OwnView). o.author) is, asked))) on

    -- whether an earlier commit is looked for says the beginning
    begun-check : (own : OwnView) → own ≡ begun_at b → own.check ≡ b.own.check
    begun-check own is = ap (λ (o : OwnView). o.check) is ∙ begun-at (λ o. o.check ≡ b.own.check) b.own (newest_id b) refl refl

    tries-alone : (own : OwnView) (v : View) (new : Phase) → own ≡ begun_at b → SeesNewest b (found_in v) → Tries own v (Ok new) → AloneAt b new f now
    tries-alone own v new is sees on =
        tried (AloneAt b new f now) own v (Ok new) (λ unasked on. makes-alone own (found_in v) new is sees on)
        (λ asked on. hears-alone own (found_in v) (older_ids v.listed.items) (seen_in own.author v.snapshot) new is sees (sym (begun-check own is) ∙ asked) on) on

    reader-alone : (own : OwnView) (m : view_phase.Phase) (new : Phase) → own ≡ b.own → ReadsNewest (newest_id b) m
        → ((v : View) → m ≡ readers.Ready v → SeesNewest b (found_in v)) → AfterReader own m (Ok new) → AloneAt b new f now
    reader-alone own m new is newest sees on =
        read-on (λ (o : Outcome). IfOk o (λ m. AloneAt b m f now)) (λ m. ReadsNewest (newest_id b) m × ((v : View) → m ≡ readers.Ready v → SeesNewest b (found_in v)))
        own (Ok new) (λ v has on. tries-alone (begun v.id own) v new (begun-same b own v.id is has.0) (has.1 v refl) on)
        (λ m none has. (same, (unchanged, is, has.0))) m (newest, sees) on

-- ---- a step

-- before the publish the history is the same
pub calm-same : (b : Beginning) (m : Phase) (f : Files) (now : History) → IsSome (next_call m) → AloneAt b m f now → now ≡ b.history
calm-same b (phases.Committed author id) f now some alone = absurd (let clash = some in cc)
calm-same b m f now some alone = alone.0

-- the history has the entry more, or stays
pub either-way : (b : Beginning) (now later : History) → now ≡ b.history → Appends b.entry now later
    → (later ≡ b.history) ⊎ (later ≡ with_entry b.entry b.history)
either-way b now later same (inl stays) = inl (stays ∙ same)
either-way b now later same (inr (s, es, at, appended)) = inr (appended ∙ ap (with_entry b.entry) (sym at ∙ same))

-- the id of a publish may stand in a name
try-bound : (own : OwnView) (e : Entry) (s : TableSchema) (id : ℕ) (m : put_phase.Phase) (f : Files) (p : Past) → KnowsTry own e s id m f p
    → id ≤ greatest
try-bound own e s id m f p is_try =
    let next = is_try.is ∙ is_try.made.id in
    let below = allowed-id is_try.attempt.newest is_try.attempt.author is_try.attempt.intent is_try.allowed in
    omega (arith, next, below)

-- what is published is the snapshot with that id, after the one before it
try-last : (own : OwnView) (e : Entry) (s : TableSchema) (id : ℕ) (x : Publishing) (f : Files) (p : Past)
    → (is_try : KnowsTry own e s id (puts.Publish x) f p) → x ≡ publishing_of s id is_try.attempt.made.text
try-last own e s id x f p is_try = is_try.put.0 ∙ ap (λ (n : ℕ). publishing_of s n is_try.attempt.made.text) (sym is_try.is)

module _ (laws : Laws) (causes : ReaderCauses) (parts : PathFacts) (b : Beginning) where
  -- no try is lost
  lost-never : (own : OwnView) (s : TableSchema) (id : ℕ) (x : Publishing) (answer : Published) (f : Files) (p : Past) → Stands f p
      → KnewAlone b (phases.Put own s id (puts.Publish x)) f p → Answers (publish_call x) (answers.Published answer) f → IsLost answer → ⊥
  lost-never own s id x answer f p stands ((putting, (known, is_try), gave), (same, (is, untouched))) told lost =
      never-lost f p s id is_try.attempt.made.text x answer stands known.is_table (is.1 ∙ ap (λ (h : History). count_of h + 1) (sym same))
      (try-bound own b.entry s id (puts.Publish x) f p is_try) (try-last own b.entry s id x f p is_try) told lost

  -- what is so after an answer before the publish
  alone-on : (m : Phase) (answer : Answer) (new : Phase) (f : Files) (p : Past) → NoPublish m → After m answer (Ok new) → Stands f p → KnewAlone b m f p
      → IfSome (next_call m) (λ call. Answers call answer f → AloneAt b new (carried call f) p.history)
  alone-on (phases.Names own s) (answers.Listed names) new f p calm (none, to) stands (known, (same, (unchanged, is))) = λ told.
      to-alone b f p.history same (first_of_try own s) new to (same, (unchanged, is, tt))
  alone-on (phases.View own m) answer new f p calm (to, goes, after) stands ((committer, (s, reads, known, reading, origin), gave), (same, (unchanged, is, newest))) =
      if-is (reader.next_call m) _ (λ call at told.
      (let rests = some-at (reader.next_call m) call _ at (view-rests m f) in
      let newest_to = some-at (reader.next_call m) call _ at
      (reads-newest laws.joined laws.lists f p s (newest_id b) stands (ap count_of (sym same)) m answer to reads reading newest goes) told in
      subst (λ (g : Files). AloneAt b new g p.history) (sym rests) (reader-alone b f p.history same unchanged own to new is newest_to
      (λ v ready. view-sees laws b f p stands same causes call answer s m v reads known.is_table reading origin unchanged at told
      (subst (reader.Goes m answer) ready goes) (subst (ReadsNewest (newest_id b)) ready newest_to)) after)))
  alone-on (phases.Search own q) (answers.Found None) new f p calm on stands (known, (same, (unchanged, is, sees, asked))) = λ told.
      makes-alone b f p.history same unchanged own q.found new is sees on
  alone-on (phases.Search own q) (answers.Found (Some bytes)) new f p calm (x, reads, on) stands (known, (same, (unchanged, is, sees, asked))) = λ told.
      hears-alone b f p.history same unchanged own q.found q.left (seen_of own.author x) new is sees asked on
  alone-on (phases.Put own s id (puts.Publish x)) answer new f p calm after stands known = absurd calm
  alone-on (phases.Put own s id (puts.Create making)) (answers.Made creates.Created) new f p calm (to, goes, on) stands ((putting, (known, is_try), gave), (same, (is, untouched))) = λ told.
      let call : Call = create_call making.next in
      let put_at : Puts f making.next.path (Some making.next.bytes) (carried call f) = Answers-Changed call (answers.Made creates.Created) f told in
      let apart = rest-apart parts own b.entry s id making f p is_try in
      to-alone b (carried call f) p.history same _ new (next-on laws b.entry own s id making.publishing making.rest to new goes on)
      (put-alone b (carried call f) p.history same own s id making.publishing making.rest is
      (untouched-puts f b.files (carried call f) making.next.path making.next.bytes making.rest put_at apart untouched.1))
  alone-on (phases.Put own s id m) answer new f p calm (to, goes, on) stands known = absurd goes
  alone-on m answer new f p calm after stands known = absurd after

  abbrev WentAlone : Phase → Phase → Files → Past → Files → Type 0
  WentAlone m new f p after = Leads (MakesEntry b.entry m) (KnewAlone b new) f p after

  went-calm : (m : Phase) (answer : Answer) (new : Phase) (f : Files) (p : Past) → NoPublish m → After m answer (Ok new) → Stands f p
      → KnewAlone b m f p → IfSome (next_call m) (λ call. Answers call answer f → WentAlone m new f p (carried call f))
  went-calm m answer new f p calm after stands known =
      both_if (next_call m) _ _ _ (λ call keeps alone told. (
        p,
        (keeps told).0,
        (
          (
            still-committer laws.read m answer new known.0.0 after,
            (keeps told).1,
            gave-after laws b.entry m answer new f (carried call f) p p stands known.0.0 known.0.1 known.0.2 after (keeps told).0,
          ),
          alone told,
        ),
      )) (keeps-on laws b.entry m answer new f p calm after stands known.0.0 known.0.1) (alone-on m answer new f p calm after stands known)

  went-published : (own : OwnView) (s : TableSchema) (id : ℕ) (x : Publishing) (answer : Answer) (new : Phase) (f : Files) (p : Past)
      → After (phases.Put own s id (puts.Publish x)) answer (Ok new) → Stands f p → KnewAlone b (phases.Put own s id (puts.Publish x)) f p
      → Answers (publish_call x) answer f → WentAlone (phases.Put own s id (puts.Publish x)) new f p (carried (publish_call x) f)
  went-published own s id x (answers.Published published.Created) new f p (to, goes, on) stands ((putting, known, gave), (same, (at, untouched))) told =
      let is = putter-at own s id to puts.Published (Ok new) goes on in
      let leads = published-leads laws b.entry own s id x new f p is stands putting.0 known.0 known.1 gave told in
      let appended = leads.2.1 ∙ ap (with_entry b.entry) same in
      let next = leads.2.2 ∙ ap (λ (h : History). count_of h + 1) same in
      let author = ap (λ (o : OwnView). o.author) at.0.1 in (
        leads.0,
        leads.1,
        (
          (
            still-committer laws.read (phases.Put own s id (puts.Publish x)) (answers.Published published.Created) new putting (to, goes, on),
            leads.2.0,
            gave-after laws b.entry (phases.Put own s id (puts.Publish x)) (answers.Published published.Created) new f (carried (publish_call x) f) p leads.0 stands putting
                known gave (to, goes, on) leads.1,
          ),
          subst (λ (m : Phase). AloneAt b m (carried (publish_call x) f) leads.0.history) (sym (ok-same new _ is)) (appended, (author, next, at.2)),
        ),
      )
  went-published own s id x (answers.Published answer) new f p (to, goes, on) stands known told = absurd (lost-never own s id x answer f p stands known told tt)
  went-published own s id x answer new f p (to, goes, on) stands known told = absurd goes

  pub went-on : (m : Phase) (answer : Answer) (new : Phase) (f : Files) (p : Past) → After m answer (Ok new) → Stands f p
      → KnewAlone b m f p → IfSome (next_call m) (λ call. Answers call answer f → WentAlone m new f p (carried call f))
  went-on m answer new f p after stands =
      by-publish (λ m. After m answer (Ok new) → KnewAlone b m f p → IfSome (next_call m) (λ call. Answers call answer f → WentAlone m new f p (carried call f)))
      (λ own s id x after known. went-published own s id x answer new f p after stands known)
      (λ m calm after known. went-calm m answer new f p calm after stands known) m after

  -- a refusal that an answer shows
  abbrev RefusedAlone : Phase → Refusal → Files → Past → Files → Type 0
  RefusedAlone m refusal f p after = Leads (MakesEntry b.entry m) (AloneRefused b refusal) f p after

  refused-calm : (m : Phase) (answer : Answer) (refusal : Refusal) (f : Files) (p : Past) → NoPublish m → After m answer (Err refusal) → Stands f p
      → KnewAlone b m f p → IfSome (next_call m) (λ call. Answers call answer f → RefusedAlone m refusal f p (carried call f))
  refused-calm m answer refusal f p calm after stands known =
      both_if (next_call m) _ _ _ (λ call makes caused told. (p, makes effects.Whole, caused told)) (makes-on laws b.entry m f p calm stands known.0.0 known.0.1)
      (calm-caused laws causes b m answer refusal f p calm stands known after)

  refused-published : (own : OwnView) (s : TableSchema) (id : ℕ) (x : Publishing) (answer : Answer) (refusal : Refusal) (f : Files) (p : Past)
      → After (phases.Put own s id (puts.Publish x)) answer (Err refusal) → Stands f p → KnewAlone b (phases.Put own s id (puts.Publish x)) f p
      → Answers (publish_call x) answer f → ⊥
  refused-published own s id x answer refusal f p (inl shown) stands known told = shown
  refused-published own s id x (answers.Published published.Created) refusal f p (inr (to, goes, on)) stands known told =
      err-ok refusal _ (putter-at own s id to puts.Published (Err refusal) goes on)
  refused-published own s id x (answers.Published answer) refusal f p (inr (to, goes, on)) stands known told = lost-never own s id x answer f p stands known told tt
  refused-published own s id x answer refusal f p (inr (to, goes, on)) stands known told = goes

  pub refused-on : (m : Phase) (answer : Answer) (refusal : Refusal) (f : Files) (p : Past) → After m answer (Err refusal) → Stands f p
      → KnewAlone b m f p → IfSome (next_call m) (λ call. Answers call answer f → RefusedAlone m refusal f p (carried call f))
  refused-on m answer refusal f p after stands =
      by-publish (λ m. After m answer (Err refusal) → KnewAlone b m f p → IfSome (next_call m) (λ call. Answers call answer f → RefusedAlone m refusal f p (carried call f)))
      (λ own s id x after known told. absurd (refused-published own s id x answer refusal f p after stands known told))
      (λ m calm after known. refused-calm m answer refusal f p calm after stands known) m after

  -- a fault of the store
  abbrev FailedAlone : Phase → Call → Files → Past → Files → Type 0
  FailedAlone m call f p after = Leads (MakesEntry b.entry m) (AloneRefused b (refusals.StoreFault (path_of call))) f p after

  failed-calm : (m : Phase) (effect : Effect) (f : Files) (p : Past) → IsSome (next_call m) → NoPublish m → Stands f p → KnewAlone b m f p
      → IfSome (next_call m) (λ call. FailedAlone m call f p (after_effect call effect f))
  failed-calm m effect f p some calm stands (known, alone) =
      IfSome_then (next_call m) (makes-on laws b.entry m f p calm stands known.0 known.1) (λ call makes. (p, makes effect, inl (calm-same b m f p.history some alone)))

  failed-published : (own : OwnView) (s : TableSchema) (id : ℕ) (x : Publishing) (effect : Effect) (f : Files) (p : Past) → Stands f p
      → KnewAlone b (phases.Put own s id (puts.Publish x)) f p
      → FailedAlone (phases.Put own s id (puts.Publish x)) (publish_call x) f p (after_effect (publish_call x) effect f)
  failed-published own s id x effect f p stands ((putting, known, gave), (same, (at, untouched))) =
      let change = changes-on laws b.entry (phases.Put own s id (puts.Publish x)) f p stands putting known gave effect in
      let either = either-way b p.history change.0.history same change.1.appends in
      let last = try-last own b.entry s id x f p known.1 in (
        change.0,
        change.1,
        elim either as (λ _. AloneRefused b (refusals.StoreFault x.path) (after_effect (publish_call x) effect f) change.0) [
          | inl stays ↦ inl stays
          | inr more ↦ inr (more, ap (λ (y : Publishing). y.path) last ∙ ap snapshot_path at.1)
        ],
      )

  pub failed-on : (m : Phase) (effect : Effect) (f : Files) (p : Past) → IsSome (next_call m) → Stands f p → KnewAlone b m f p
      → IfSome (next_call m) (λ call. FailedAlone m call f p (after_effect call effect f))
  failed-on m effect f p some stands =
      by-publish (λ m. IsSome (next_call m) → KnewAlone b m f p → IfSome (next_call m) (λ call. FailedAlone m call f p (after_effect call effect f)))
      (λ own s id x some known. failed-published own s id x effect f p stands known)
      (λ m calm some known. failed-calm m effect f p some calm stands known) m some

  has-call : {next : Option Call} {call : Call} → next ≡ Some call → IsSome next
  has-call is = subst (λ (next : Option Call). IsSome next) (sym is) refl

  pub alone-moves : {old new : Phase} {before after : StoreView} {result : Result (Unit {0}) Refusal}
      → Stepped next_call Goes Refuses Stops old new before after result
      → Moves Stands (MakesEntry b.entry old) (KnewAlone b old) (KnowsAlone b new result) before after
  alone-moves {old} {new} {before} {after} (Rested none same still) =
      inr (subst (Meanwhile before) (sym still) (Meanwhile-refl before), λ (f : Files) (p : Past) stands known. subst (λ (m : Phase). KnewAlone b m f p) (sym same) known)
  alone-moves {old} {new} {before} {after} (Went call answer is came on) =
      let keeps : (ops : List Op) → Answers call answer (files_after ops)
      → Keeps Stands (MakesEntry b.entry old) (KnewAlone b old) (KnewAlone b new) (whole call) (files_after ops) =
      λ ops here p stands known. (
        (rw is at (changes-on laws b.entry old (files_after ops) p stands known.0.0 known.0.1 known.0.2)),
        (rw is at (went-on old answer new (files_after ops) p on stands known)) here,
      ) in
      inl (whole call, refl, Steps-weaker (whole call) _ _ before after keeps came.0)
  alone-moves {old} {new} {before} {after} (Refused call answer refusal is came on) =
      let keeps : (ops : List Op) → Answers call answer (files_after ops)
      → Keeps Stands (MakesEntry b.entry old) (KnewAlone b old) (AloneRefused b refusal) (whole call) (files_after ops) =
      λ ops here p stands known. (
        (rw is at (changes-on laws b.entry old (files_after ops) p stands known.0.0 known.0.1 known.0.2)),
        (rw is at (refused-on old answer refusal (files_after ops) p on.0 stands known)) here,
      ) in
      inl (whole call, refl, Steps-weaker (whole call) _ _ before after keeps came.0)
  alone-moves {old} {new} {before} {after} (Stopped call is meanwhile stop) =
      inr (meanwhile, λ f p stands known. calm-same b old f p.history (has-call is) known.1)
  alone-moves {old} {new} {before} {after} (Failed call is came stop) =
      let effect : Effect = came.0.0 in
      let op : Op = own_op call effect in
      let keeps : (ops : List Op) → MayHave call effect (files_after ops)
      → Keeps Stands (MakesEntry b.entry old) (KnewAlone b old) (AloneRefused b (refusals.StoreFault (path_of call))) op (files_after ops) =
      λ ops may p stands known. (
        (rw is at (changes-on laws b.entry old (files_after ops) p stands known.0.0 known.0.1 known.0.2)),
        rw is at (failed-on old effect (files_after ops) p (has-call is) stands known),
      ) in
      inl (op, refl, Steps-weaker op _ _ before after keeps came.0.1)
