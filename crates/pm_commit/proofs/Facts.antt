-- A committer keeps the laws of machines.
use Rattle.std.proofs.Common.{◌≡◌, inr, ℕ, ◌+◌, List, [], ◌∷◌, codes, None, Some, IfSome, Ok, Err, IfOk, refl, sym, ap, ◌∙◌, subst, arith}
use Rattle.std.specs.FinMap as map
use Rattle.std.proofs.lemmas.Option.{IfSome_then}
use Rattle.pm_values.specs.declared.refusal.Refusal.{Refusal}
use Rattle.pm_store.specs.Answers.{Answers}
use Rattle.pm_store.specs.Files.{Files, Puts, after_effect, carried}
use Rattle.pm_store.specs.declared.answer.Answer.{Answer}
use Rattle.pm_store.specs.declared.answer.Answer.TheVariants as answers
use Rattle.pm_store.specs.declared.answer.Made.TheVariants as creates
use Rattle.pm_store.specs.declared.answer.Published.{Published}
use Rattle.pm_store.specs.declared.answer.Published.TheVariants as published
use Rattle.pm_store.specs.declared.call.Call.{Call}
use Rattle.pm_store.specs.declared.call.Call.TheVariants as calls
use Rattle.pm_store.specs.declared.call.Effect.{Effect}
use Rattle.pm_store.specs.declared.call.Effect.TheVariants as effects
use Rattle.pm_store.proofs.ChangeLaws.{Answers-Changed}
use Rattle.pm_machine.specs.Moves.{Changes, IsKept, Leads, Sound}
use Rattle.pm_model_history.specs.History.{Entry}
use Rattle.pm_schema.specs.declared.schema.TableSchema.{TableSchema}
use Rattle.pm_model_folder.specs.Ledger.{Past, Stands, count_of}
use Rattle.pm_model_folder.specs.Paths.{snapshot_path}
use Rattle.pm_model_folder.proofs.HoldLemmas.{OneContents, SameContents}
use Rattle.pm_model_folder.proofs.LedgerFacts.{stood-read}
use Rattle.pm_read_schema.proofs.Facts.{list_effect, read_effect}
use Rattle.pm_read_table.specs.Asked.{Asked, asked_of}
use Rattle.pm_read_table.specs.Meaning as reader_meaning
use Rattle.pm_read_table.specs.Reader as reader
use Rattle.pm_read_table.specs.declared.phase.Phase as view_phase
use Rattle.pm_read_table.specs.declared.phase.Phase.TheVariants as readers
use Rattle.pm_read_table.specs.declared.view.View.{View}
use Rattle.pm_read_table.proofs.Facts as reader_facts
use Rattle.pm_machine.proofs.PhaseFacts.{both_if}
use Rattle.pm_read_table.proofs.Facts.{Joined, OneList}
use Rattle.pm_commit.specs.Alone.{with_entry}
use Rattle.pm_commit.specs.Committer.{After, AfterPutter, AfterReader, Goes, IsCommitter, Loses, Outcome, Reads, Refuses, Stops, Tries, first_of_try, found_in, manifests_call, newest_of, next_call}
use Rattle.pm_commit.specs.Meaning.{HasGiven, HasOrigin, IsFoundIn, Knows, KnowsIn, KnowsOwn, KnowsTry, MakesEntry, MakesOwn}
use Rattle.pm_commit.specs.Own.{IsOwn, IsTried, MayView, OwnView, begun, with_lost}
use Rattle.pm_commit.specs.Search.{seen_of}
use Rattle.pm_put.proofs.Facts as put_facts
use Rattle.pm_put.proofs.Facts.{created_absent}
use Rattle.pm_put.specs.Putter as put
use Rattle.pm_put.specs.Putter.{create_call, publish_call}
use Rattle.pm_put.specs.Trace.{IsLost}
use Rattle.pm_put.specs.declared.phase.Phase as put_phase
use Rattle.pm_put.specs.declared.phase.Phase.TheVariants as puts
use Rattle.pm_put.specs.declared.putting.CommitFile.{CommitFile}
use Rattle.pm_put.specs.declared.putting.Publishing.{Publishing}
use Rattle.pm_commit.specs.declared.phase.Phase.{Phase}
use Rattle.pm_commit.specs.declared.phase.Phase.TheVariants as phases
use Rattle.pm_commit.proofs.AdvanceLemmas.{NamedPaths}
use Rattle.pm_commit.proofs.CommitterLemmas.{asked-same, begun-own, ready-schema, still-committer}
use Rattle.pm_commit.proofs.CreateLemmas.{create-makes, created-try}
use Rattle.pm_commit.proofs.StillLemmas.{OwnFiles}
use Rattle.pm_commit.proofs.FoundLemmas.{LiveEntries}
use Rattle.pm_commit.proofs.KnownLemmas.{begun-known, count-bound, hears-known, lost-known, makes-known, tries-known, view-within}
use Rattle.pm_commit.proofs.OriginLemmas.{origin-on}
use Rattle.pm_commit.proofs.OutcomeLemmas.{err-ok, ok-same, read-on}
use Rattle.pm_commit.proofs.GivenLemmas.{gave-on}
use Rattle.pm_commit.proofs.PublishLemmas.{AppendsTry, CompactLaws, IsNewest, NamesNone, own-same, publish-makes, published-whole}
use Rattle.pm_commit.proofs.ReadsLemmas.{EntriesRead, reads-on}

-- what the laws of lower crates say
pub record Laws : Type 0 where
  pub joined : Joined
  pub lists : OneList
  pub read : EntriesRead
  pub one : OneContents
  pub same : SameContents
  pub paths : NamedPaths
  pub live : LiveEntries
  pub newest : IsNewest
  pub unnamed : NamesNone
  pub append : AppendsTry
  pub compact : CompactLaws
  pub own_files : OwnFiles

-- ---- what its calls may change

-- the phase isn't that of the publish
abbrev pub NoPublish : Phase → Type 0
NoPublish (phases.Put own s id (puts.Publish x)) = ⊥
NoPublish m = Unit {0}

-- it is that phase or another
pub by-publish : (P : Phase → Type 0) → ((own : OwnView) (s : TableSchema) (id : ℕ) (x : Publishing) → P (phases.Put own s id (puts.Publish x)))
    → ((m : Phase) → NoPublish m → P m) → (m : Phase) → P m
by-publish P publish calm (phases.Put own s id (puts.Publish x)) = publish own s id x
by-publish P publish calm m = calm m tt

still : (own : OwnView) (e : Entry) (f after : Files) (p : Past) → after ≡ f → MakesOwn own e f p after p
still own e f after p same = own-same own e f after p (λ q. ap (λ (g : Files). map.get g q) same)

-- what follows with the putter that an answer leads to
pub putter-at : (own : OwnView) (s : TableSchema) (id : ℕ) (to m : put_phase.Phase) (outcome : Outcome) → to ≡ m → AfterPutter own s id to outcome
    → AfterPutter own s id m outcome
putter-at own s id to m outcome is on = subst (λ (to : put_phase.Phase). AfterPutter own s id to outcome) is on

-- with files left to create it doesn't refuse
pub next-not : (own : OwnView) (s : TableSchema) (id : ℕ) (x : Publishing) (files : List CommitFile) (to : put_phase.Phase) (refusal : Refusal)
    → to ≡ put.create_next x files → AfterPutter own s id to (Err refusal) → ⊥
next-not own s id x files to refusal is on = at files (putter-at own s id to (put.create_next x files) (Err refusal) is on)
  where
    at : (files : List CommitFile) → AfterPutter own s id (put.create_next x files) (Err refusal) → ⊥
    at [] on = err-ok refusal _ on
    at (file ∷ files) on = err-ok refusal _ on

module _ (laws : Laws) (e : Entry) where
  -- before the publish the history stays
  pub makes-on : (m : Phase) (f : Files) (p : Past) → NoPublish m → Stands f p → IsCommitter m → KnowsIn e m f p
      → IfSome (next_call m) (λ call. (effect : Effect) → MakesEntry e m f p (after_effect call effect f) p)
  makes-on (phases.Names own s) f p calm stands is known = λ effect. still own e f _ p (list_effect (codes "manifest") effect f)
  makes-on (phases.View own m) f p calm stands is (s, reads, known, reading, origin) =
      IfSome_then (reader.next_call m) ((reader_facts.sound laws.joined laws.lists).changes m f p stands reading)
      (λ call changes effect. own-same own e f (after_effect call effect f) p (changes effect).1.files)
  makes-on (phases.Search own q) f p calm stands is known = λ effect. still own e f _ p (read_effect (snapshot_path q.id) effect f)
  makes-on (phases.Put own s id (puts.Create making)) f p calm stands (tried, some, few) (known, is_try) = λ effect.
      create-makes laws.own_files own e s id making f p tried known is_try (after_effect (create_call making.next) effect f)
      (put_facts.call_makes (puts.Create making) f effect)
  makes-on (phases.Put own s id (puts.Publish x)) f p calm stands is known = absurd calm
  makes-on m f p calm stands is known = tt

  -- the publish appends, or leaves the history
  publish-changes : (own : OwnView) (s : TableSchema) (id : ℕ) (x : Publishing) (f : Files) (p : Past) → Stands f p → IsTried s own → KnowsOwn own e s p
      → KnowsTry own e s id (puts.Publish x) f p → HasGiven (phases.Put own s id (puts.Publish x)) f p → Changes (MakesOwn own e) (publish_call x) f p
  publish-changes own s id x f p stands tried known is_try gave effect =
      publish-makes laws.one laws.same laws.paths laws.live laws.newest laws.unnamed laws.append laws.compact own e s id x f p stands tried known is_try gave
      (after_effect (publish_call x) effect f) (put_facts.call_makes (puts.Publish x) f effect)

  pub changes-on : (m : Phase) (f : Files) (p : Past) → Stands f p → IsCommitter m → KnowsIn e m f p → HasGiven m f p
      → IfSome (next_call m) (λ call. Changes (MakesEntry e m) call f p)
  changes-on m f p stands =
      by-publish (λ m. IsCommitter m → KnowsIn e m f p → HasGiven m f p → IfSome (next_call m) (λ call. Changes (MakesEntry e m) call f p))
      (λ own s id x is known gave. publish-changes own s id x f p stands is.0 known.0 known.1 gave)
      (λ m calm is known gave. IfSome_then (next_call m) (makes-on m f p calm stands is known) (λ call makes effect. (p, makes effect))) m

  -- ---- what it knows

  -- the try goes on with its view once that is ready
  ready-known : (own : OwnView) (s : TableSchema) (v : View) (new : Phase) (f g : Files) (p : Past) → Stands f p → Reads (readers.Ready v) s → IsOwn s own → MayView own
      → KnowsOwn own e s p → reader_meaning.Knows (readers.Ready v) g p → HasOrigin (readers.Ready v) → Tries (begun v.id own) v (Ok new) → KnowsIn e new g p
  ready-known own s v new f g p stands reads own_of may known (is_table, stood, sought) origin tried =
      let same = ready-schema v s reads in
      let within = view-within p v stood in
      let most = count-bound f p s stands known.is_table in
      let begun_of : IsOwn v.schema (begun v.id own) = subst (λ (t : TableSchema). IsOwn t (begun v.id own)) (sym same) (begun-own s own v.id own_of) in
      let begun_is : KnowsOwn (begun v.id own) e v.schema p =
      subst (λ (t : TableSchema). KnowsOwn (begun v.id own) e t p) (sym same)
      (begun-known e s p own v.id within (omega (arith, within, most)) may known) in
      let wanted = ap (λ (a : Asked). a.wanted) (asked-same (asked_of v.schema v.wanted) (newest_of s) reads.asked) in
      let is_found : IsFoundIn p (found_in v) = record { view = v; is = refl; wanted = wanted; stood = stood; origin = origin } in
      tries-known e g p (begun v.id own) v new begun_of begun_is is_found tried

  reader-known : (own : OwnView) (s : TableSchema) (m : view_phase.Phase) (new : Phase) (f g : Files) (p : Past) → Stands f p → Reads m s → IsOwn s own → MayView own
      → KnowsOwn own e s p → reader_meaning.Knows m g p → HasOrigin m → AfterReader own m (Ok new) → KnowsIn e new g p
  reader-known own s m new f g p stands reads own_of may known reading origin on =
      read-on (λ (o : Outcome). IfOk o (λ m. KnowsIn e m g p)) (λ m. Reads m s × reader_meaning.Knows m g p × HasOrigin m) own (Ok new)
      (λ v has on. ready-known own s v new f g p stands has.0 own_of may known has.1 has.2 on) (λ m none has. (s, has.0, known, has.1, has.2)) m (reads, reading, origin) on

  -- its putter goes on
  pub next-on : (own : OwnView) (s : TableSchema) (id : ℕ) (x : Publishing) (files : List CommitFile) (to : put_phase.Phase) (new : Phase)
      → to ≡ put.create_next x files → AfterPutter own s id to (Ok new) → new ≡ phases.Put own s id (put.create_next x files)
  next-on own s id x files to new is on = at files (subst (λ (to : put_phase.Phase). AfterPutter own s id to (Ok new)) is on)
    where
      at : (files : List CommitFile) → AfterPutter own s id (put.create_next x files) (Ok new) → new ≡ phases.Put own s id (put.create_next x files)
      at [] on = ok-same new _ on
      at (file ∷ files) on = ok-same new _ on

  -- a try begins
  first-known : (own : OwnView) (s : TableSchema) (new : Phase) (g : Files) (p : Past) → KnowsOwn own e s p → new ≡ first_of_try own s → KnowsIn e new g p
  first-known own s new g p known is =
      subst (λ (m : Phase). KnowsIn e m g p) (sym is) (s, record { asked = refl; numbers = tt; ids = tt }, known, known.is_table, tt)

  -- what was made with the history as it is, after which this is known
  abbrev Keeps : OwnView → Phase → Files → Past → Files → Type 0
  Keeps own new f p after = MakesOwn own e f p after p × KnowsIn e new after p

  keeps-still : (own : OwnView) (new : Phase) (f after : Files) (p : Past) → after ≡ f → KnowsIn e new f p → Keeps own new f p after
  keeps-still own new f after p same known = (still own e f after p same, subst (λ (g : Files). KnowsIn e new g p) (sym same) known)

  -- the reader of its view went on
  view-keeps : (own : OwnView) (s t : TableSchema) (m to : view_phase.Phase) (new : Phase) (f after : Files) (p : Past) → Stands f p
      → (answer : Answer) → reader.Goes m answer to → AfterReader own to (Ok new) → Reads m s → Reads m t → IsOwn t own → MayView own → KnowsOwn own e s p
      → Leads IsKept (reader_meaning.Knows to) f p after → HasOrigin to → Keeps own new f p after
  view-keeps own s t m to new f after p stands answer goes on reads reads_t own_of may known (later, kept, reading) origin =
      let same : t ≡ s = ap (λ (a : Asked). a.schema) (asked-same (newest_of t) (newest_of s) (sym reads_t.asked ∙ reads.asked)) in
      let reading_at : reader_meaning.Knows to after p = subst (λ (q : Past). reader_meaning.Knows to after q) kept.past reading in (
        own-same own e f after p kept.files,
        reader-known own s to new f after p stands (reads-on laws.read s m answer to reads goes).reads (subst (λ (u : TableSchema). IsOwn u own) same own_of)
            may known reading_at origin on,
      )

  abbrev pub KeepsAt : Phase → Phase → Files → Past → Files → Type 0
  KeepsAt m new f p after = MakesEntry e m f p after p × KnowsIn e new after p

  -- before the publish
  pub keeps-on : (m : Phase) (answer : Answer) (new : Phase) (f : Files) (p : Past) → NoPublish m → After m answer (Ok new) → Stands f p → IsCommitter m
      → KnowsIn e m f p → IfSome (next_call m) (λ call. Answers call answer f → KeepsAt m new f p (carried call f))
  keeps-on (phases.Names own s) (answers.Listed names) new f p calm (none, is) stands committer known = λ told.
      keeps-still own new f (carried manifests_call f) p (list_effect (codes "manifest") effects.Whole f) (first-known own s new f p known is)
  keeps-on (phases.View own m) answer new f p calm (to, goes, after) stands (left, (t, reads_t, own_of), may) (s, reads, known, reading, origin) =
      both_if (reader.next_call m) _ _ _ (λ call leads has told. view-keeps own s t m to new f (carried call f) p stands answer goes after reads reads_t own_of may known (leads told) (has told))
      ((reader_facts.sound laws.joined laws.lists).went m to answer f p goes stands reading)
      (origin-on f p s m answer to stands reads reading origin goes)
  keeps-on (phases.Search own q) (answers.Found None) new f p calm on stands (may, few, ids) (known, is_found) = λ told.
      keeps-still own new f (carried (calls.Read (snapshot_path q.id)) f) p (read_effect (snapshot_path q.id) effects.Whole f)
      (makes-known e f p own q.found new may.own_of known is_found on)
  keeps-on (phases.Search own q) (answers.Found (Some bytes)) new f p calm (x, reads, on) stands (may, few, ids) (known, is_found) = λ told.
      let read = stood-read f p q.found.schema q.id bytes x stands known.is_table ids.0.0 ids.0.1 (sym told) reads in
      keeps-still own new f (carried (calls.Read (snapshot_path q.id)) f) p (read_effect (snapshot_path q.id) effects.Whole f)
      (hears-known e f p own q.found q.left (seen_of own.author x) new may.own_of known is_found
      (λ reached. record { id = q.id; known = read.0; snapshot = x; stood = read.1; reached = reached }) on)
  keeps-on (phases.Put own s id (puts.Publish x)) answer new f p calm after stands committer known = absurd calm
  keeps-on (phases.Put own s id (puts.Create making)) (answers.Made creates.Created) new f p calm (to, goes, on) stands (tried, some, few) (known, is_try) = λ told.
      let call : Call = create_call making.next in
      let put_at : Puts f making.next.path (Some making.next.bytes) (carried call f) = Answers-Changed call (answers.Made creates.Created) f told in
      let absent = created_absent (map.get f making.next.path) told in (
        create-makes laws.own_files own e s id making f p tried known is_try (carried call f) (inr (making.next.bytes, (absent, put_at))),
        subst (λ (m : Phase). KnowsIn e m (carried call f) p) (sym (next-on own s id making.publishing making.rest to new goes on))
            (known, created-try laws.own_files own e s id making f p tried known is_try (carried call f) absent put_at),
      )
  keeps-on (phases.Put own s id m) answer new f p calm (to, goes, on) stands committer known = absurd goes
  keeps-on m answer new f p calm after stands committer known = absurd after

  -- an answer by which nothing is published
  pub lost-keeps : (own : OwnView) (x : Publishing) (answer : Published) (f : Files) (p : Past) → IsLost answer
      → Answers (publish_call x) (answers.Published answer) f → MakesOwn own e f p (carried (publish_call x) f) p
  lost-keeps own x published.Created f p lost told = absurd lost
  lost-keeps own x published.Exists f p lost told =
      own-same own e f (carried (publish_call x) f) p (Answers-Changed (publish_call x) (answers.Published published.Exists) f told)
  lost-keeps own x published.AfterGone f p lost told =
      own-same own e f (carried (publish_call x) f) p (Answers-Changed (publish_call x) (answers.Published published.AfterGone) f told)

  pub lost-leads : (own : OwnView) (s : TableSchema) (id : ℕ) (x : Publishing) (answer : Published) (new : Phase) (f : Files) (p : Past) → IsLost answer
      → Loses own s id (Ok new) → KnowsOwn own e s p → Answers (publish_call x) (answers.Published answer) f
      → Keeps own new f p (carried (publish_call x) f)
  lost-leads own s id x answer new f p lost (left, is) known told = (
    lost-keeps own x answer f p lost told,
    first-known (with_lost id own) s new (carried (publish_call x) f) p (lost-known e s p own id known) is,
  )

  -- the answer by which it is
  pub published-leads : (own : OwnView) (s : TableSchema) (id : ℕ) (x : Publishing) (new : Phase) (f : Files) (p : Past)
      → ◌≡◌ {A = Outcome} (Ok new) (Ok (phases.Committed own.author id))
      → Stands f p → IsTried s own → KnowsOwn own e s p → KnowsTry own e s id (puts.Publish x) f p
      → HasGiven (phases.Put own s id (puts.Publish x)) f p → Answers (publish_call x) (answers.Published published.Created) f
      → Leads (MakesOwn own e) (λ g q. KnowsIn e new g q × (q.history ≡ with_entry e p.history)
      × (id ≡ count_of p.history + 1)) f p (carried (publish_call x) f)
  published-leads own s id x new f p is stands tried known is_try gave told =
      let all = published-whole laws.one laws.same laws.paths laws.live laws.newest laws.unnamed laws.append laws.compact own e s id x f p stands tried known is_try gave
      told in
      (all.0, all.1, (subst (λ (m : Phase). KnowsIn e m (carried (publish_call x) f) all.0) (sym (ok-same new _ is)) all.2, all.3.0, all.3.1))

  leads-at : (own : OwnView) (new : Phase) (f after : Files) (p : Past) → Keeps own new f p after → Leads (MakesOwn own e) (KnowsIn e new) f p after
  leads-at own new f after p (makes, known) = (p, makes, known)

  publish-leads : (own : OwnView) (s : TableSchema) (id : ℕ) (x : Publishing) (answer : Answer) (new : Phase) (f : Files) (p : Past)
      → After (phases.Put own s id (puts.Publish x)) answer (Ok new) → Stands f p → IsTried s own → KnowsOwn own e s p × KnowsTry own e s id (puts.Publish x) f p
      → HasGiven (phases.Put own s id (puts.Publish x)) f p → Answers (publish_call x) answer f → Leads (MakesOwn own e) (KnowsIn e new) f p (carried (publish_call x) f)
  publish-leads own s id x (answers.Published published.Created) new f p (to, goes, on) stands tried (known, is_try) gave told =
      let leads = published-leads own s id x new f p (putter-at own s id to puts.Published (Ok new) goes on) stands tried known is_try gave told in
      (leads.0, leads.1, leads.2.0)
  publish-leads own s id x (answers.Published published.Exists) new f p (to, goes, on) stands tried (known, is_try) gave told =
      leads-at own new f (carried (publish_call x) f) p
      (lost-leads own s id x published.Exists new f p tt (putter-at own s id to puts.Lost (Ok new) goes on) known told)
  publish-leads own s id x (answers.Published published.AfterGone) new f p (to, goes, on) stands tried (known, is_try) gave told =
      leads-at own new f (carried (publish_call x) f) p
      (lost-leads own s id x published.AfterGone new f p tt (putter-at own s id to puts.Lost (Ok new) goes on) known told)
  publish-leads own s id x answer new f p (to, goes, on) stands tried known gave told = absurd goes

  leads-on : (m : Phase) (answer : Answer) (new : Phase) (f : Files) (p : Past) → After m answer (Ok new) → Stands f p → IsCommitter m → KnowsIn e m f p → HasGiven m f p
      → IfSome (next_call m) (λ call. Answers call answer f → Leads (MakesEntry e m) (KnowsIn e new) f p (carried call f))
  leads-on m answer new f p after stands =
      by-publish (λ m. After m answer (Ok new) → IsCommitter m → KnowsIn e m f p → HasGiven m f p
      → IfSome (next_call m) (λ call. Answers call answer f → Leads (MakesEntry e m) (KnowsIn e new) f p (carried call f)))
      (λ own s id x after is known gave. publish-leads own s id x answer new f p after stands is.0 known gave)
      (λ m calm after is known gave. IfSome_then (next_call m) (keeps-on m answer new f p calm after stands is known)
      (λ call keeps told. (let kept = keeps told in (p, kept.0, kept.1)))) m after

  -- ---- a machine

  -- what it was given is there after a call
  pub gave-after : (m : Phase) (answer : Answer) (new : Phase) (f after : Files) (p q : Past) → Stands f p → IsCommitter m → KnowsIn e m f p → HasGiven m f p
      → After m answer (Ok new) → MakesEntry e m f p after q → HasGiven new after q
  gave-after m answer new f after p q = gave-on laws.compact.stays laws.compact.given laws.own_files e m answer new f after p q

  over-knows : (new : Phase) (f : Files) (p : Past) → new ≡ phases.Over → Knows e new f p
  over-knows new f p over = subst (λ (m : Phase). Knows e m f p) (sym over) (tt, tt, ([], tt))

  over-leads : (m new : Phase) (call : Call) (f : Files) (p : Past) (effect : Effect) → new ≡ phases.Over → Changes (MakesEntry e m) call f p
      → Leads (MakesEntry e m) (Knows e new) f p (after_effect call effect f)
  over-leads m new call f p effect over changes =
      let change = changes effect in
      (change.0, change.1, over-knows new (after_effect call effect f) change.0 over)

  pub sound : Sound next_call Goes Refuses Stops Stands (MakesEntry e) (Knows e)
  sound = record {
    changes = λ m f p stands known. changes-on m f p stands known.0 known.1 known.2;
    went = λ m new answer f p goes stands known. IfSome_then (next_call m) (leads-on m answer new f p goes stands known.0 known.1 known.2)
        (λ call leads told. (let led = leads told in (
          led.0,
          led.1,
          (
            still-committer laws.read m answer new known.0 goes,
            led.2,
            gave-after m answer new f (carried call f) p led.0 stands known.0 known.1 known.2 goes led.1,
          ),
        )));
    refused = λ m new answer refusal f p refuses stands known. IfSome_then (next_call m) (changes-on m f p stands known.0 known.1 known.2)
        (λ call changes told. over-leads m new call f p effects.Whole refuses.1 changes);
    failed = λ m new effect f p stops stands known. IfSome_then (next_call m) (changes-on m f p stands known.0 known.1 known.2)
        (λ call changes may. over-leads m new call f p effect stops changes);
    stopped = λ m new f p called stops stands known. over-knows new f p stops;
  }
