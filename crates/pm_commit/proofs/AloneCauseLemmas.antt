-- Which refusals a committer meets where nobody else acts.
use Rattle.std.proofs.Common.{◌≡◌, inl, inr, ℕ, List, codes, Option, None, Some, IsSome, IfSome, Err, refl, sym, ap, ◌∙◌, subst}
use Rattle.std.specs.FinMap as map
use Rattle.pm_values.specs.declared.refusal.Refusal.{Refusal}
use Rattle.pm_values.specs.declared.refusal.Refusal.TheVariants as refusals
use Rattle.pm_store.specs.Answers.{Answers, made_at}
use Rattle.pm_store.specs.Files.{Files, IsListing, carried}
use Rattle.pm_store.specs.declared.answer.Answer.{Answer}
use Rattle.pm_store.specs.declared.answer.Answer.TheVariants as answers
use Rattle.pm_store.specs.declared.answer.Made.TheVariants as created
use Rattle.pm_store.specs.declared.call.Call.{Call}
use Rattle.pm_model_history.specs.History.{History, IsTableOf}
use Rattle.pm_schema.specs.declared.schema.TableSchema.{TableSchema}
use Rattle.pm_model_folder.specs.Changes.{Actor, IsNamedBy}
use Rattle.pm_model_folder.specs.Ledger.{Past, Stands, count_of}
use Rattle.pm_model_folder.specs.Meaning.{HasSnapshotAt}
use Rattle.pm_read_table.specs.Meaning as reader_meaning
use Rattle.pm_read_table.specs.Reader as reader
use Rattle.pm_read_table.specs.declared.phase.Phase as view_phase
use Rattle.pm_read_table.specs.declared.phase.Phase.TheVariants as readers
use Rattle.pm_read_table.specs.declared.view.View.{View}
use Rattle.pm_made.specs.Refusals.{refusal_of}
use Rattle.pm_made.proofs.AllowedLemmas.{IsReason, is-reason}
use Rattle.pm_commit.specs.Alone.{AloneIn, AloneRefused, Beginning, GivesReason, IsUnchanged, KnewAlone, ReadsNewest, SeesNewest, begun_at, newest_id}
use Rattle.pm_commit.specs.Committer.{After, AfterReader, Makes, Reads, found_in, next_call}
use Rattle.pm_put.specs.Making.{MakingView}
use Rattle.pm_put.specs.Putter.{create_call}
use Rattle.pm_put.specs.declared.phase.Phase.TheVariants as puts
use Rattle.pm_commit.specs.Marks.{FindsUsed}
use Rattle.pm_commit.specs.Meaning.{HasOrigin, IsFoundIn, KnowsOwn, KnowsTry}
use Rattle.pm_commit.specs.Own.{IsNoAppend, IsTried, OwnView, actor_of, begun}
use Rattle.pm_commit.specs.Search.{seen_of}
use Rattle.pm_commit.specs.declared.found.Found.{Found}
use Rattle.pm_commit.specs.declared.phase.Phase.{Phase}
use Rattle.pm_commit.specs.declared.phase.Phase.TheVariants as phases
use Rattle.pm_commit.proofs.CauseLemmas.{IsNone, ReaderCauses, good-snapshot, met-at, shown-none, view-found}
use Rattle.pm_commit.proofs.CommitterLemmas.{begun-at, begun-intent, ready-schema}
use Rattle.pm_commit.proofs.CreateLemmas.{create-named}
use Rattle.pm_commit.proofs.Facts.{Laws, NoPublish, next-not}
use Rattle.pm_commit.proofs.FoundLemmas.{found-same, found-there}
use Rattle.pm_commit.proofs.NewestLemmas.{IsOfNewest, expired-never, newest-at, reads-newest, shown-newest}
use Rattle.pm_commit.proofs.OutcomeLemmas.{heard-refused, read-refused, tried-refused}
use Rattle.pm_commit.proofs.OwnLemmas.{none-taken}
use Rattle.pm_commit.proofs.ReadsLemmas.{reads-on}
use Rattle.pm_commit.proofs.TraceLemmas.{if-is, some-at}

-- ---- the commit once its try has begun

pub begun-actor : (own : OwnView) (n : ℕ) → actor_of (begun n own) ≡ actor_of own
begun-actor own n = begun-at (λ o. actor_of o ≡ actor_of own) own n refl refl

pub begun-same : (b : Beginning) (own : OwnView) (id : ℕ) → own ≡ b.own → id ≡ newest_id b → begun id own ≡ begun_at b
begun-same b own id is newest = ap (λ (n : ℕ). begun n own) newest ∙ ap (begun (newest_id b)) is

-- ---- the reader's calls

-- each leaves the files as they are
pub view-rests : (m : view_phase.Phase) (f : Files) → IfSome (reader.next_call m) (λ call. carried call f ≡ f)
view-rests (readers.Ready v) f = tt
view-rests readers.Over f = tt
view-rests m f = refl

-- ---- each refusal

-- a listing of files that are the same
pub listing-same : (f g : Files) (folder : List ℕ) (names : List (List ℕ)) → ((path : List ℕ) → map.get f path ≡ map.get g path) → IsListing folder names f
    → IsListing folder names g
listing-same f g folder names same listing = record {
  rising = listing.rising;
  exact = λ name. (
    λ has. (let led = (listing.exact name).0 has in (led.0, subst (λ (o : Option (List ℕ)). IsSome o) (same led.0) led.1, led.2)),
    λ led. (listing.exact name).1 (led.0, subst (λ (o : Option (List ℕ)). IsSome o) (sym (same led.0)) led.1, led.2),
  );
}

module _ (laws : Laws) (b : Beginning) (f : Files) (p : Past) (stands : Stands f p) (same : p.history ≡ b.history) where
  many : newest_id b ≡ count_of p.history
  many = ap count_of (sym same)

  -- memory ran out
  forgotten : (refusal : Refusal) → refusal ≡ refusals.Memory → AloneRefused b refusal f p
  forgotten refusal memory = subst (λ (r : Refusal). AloneRefused b r f p) (sym memory) same

  -- what a try found of the newest snapshot is as it was
  pub found-sees : (found : Found) → IsUnchanged b f → IsFoundIn p found → IsTableOf found.schema p.history → found.newest.id ≡ newest_id b → SeesNewest b found
  found-sees found unchanged is_found table newest =
      let there : HasSnapshotAt f found.schema found.newest.id =
      subst (HasSnapshotAt f found.schema) (sym (newest ∙ many)) (newest-at f p found.schema stands table) in record {
        is_table = subst (λ (h : History). IsTableOf found.schema h) same table;
        id = newest;
        as_is = found-same laws.same f b.files found.schema found.newest found.newest.snapshot (λ path. sym (unchanged path))
            (found-there laws.same laws.live f p found stands is_found there);
      }

  -- and so is a view
  pub view-sees : (causes : ReaderCauses) (call : Call) (answer : Answer) (s : TableSchema) (m : view_phase.Phase) (v : View) → Reads m s → IsTableOf s p.history
      → reader_meaning.Knows m f p → HasOrigin m → IsUnchanged b f → reader.next_call m ≡ Some call → Answers call answer f
      → reader.Goes m answer (readers.Ready v) → v.id ≡ newest_id b → SeesNewest b (found_in v)
  view-sees causes call answer s m v reads table reading origin unchanged at told goes newest =
      let is_found = view-found laws causes b.entry call answer refusals.Memory f p stands s m v reads reading origin at told goes in
      let schema : s ≡ v.schema = sym (ready-schema v s (reads-on laws.read s m answer (readers.Ready v) reads goes).reads) in
      found-sees (found_in v) unchanged is_found (subst (λ (s : TableSchema). IsTableOf s p.history) schema table) newest

  denied-by : (refusal : Refusal) → IsReason refusal → IsUnchanged b f → GivesReason b (Some refusal) → AloneRefused b refusal f p
  denied-by (refusals.Fenced base fence) is unchanged gives = (same, unchanged, gives)
  denied-by (refusals.CompactTaken file) is unchanged (found, sees, reason) =
      let none : IsNoAppend (begun_at b).intent = none-taken found.newest (begun_at b).author (begun_at b).intent file reason in
      (subst IsNoAppend (begun-intent b.own (newest_id b)) none, same, unchanged, (found, sees, reason))
  denied-by (refusals.Limit which number) is unchanged gives = (same, unchanged, gives)
  denied-by other is unchanged gives = absurd is

  -- there is a reason in what a try found of the newest snapshot
  make-caused : (own : OwnView) (found : Found) (refusal : Refusal) → IsUnchanged b f → own ≡ begun_at b → SeesNewest b found → Makes own found (Err refusal)
      → AloneRefused b refusal f p
  make-caused own found refusal unchanged is sees (inl memory) = forgotten refusal memory
  make-caused own found refusal unchanged is sees (inr reason) =
      denied-by refusal (is-reason found.newest own.author own.intent refusal reason) unchanged
      (found, sees, subst (λ (o : OwnView). refusal_of found.newest o.author o.intent ≡ Some refusal) is reason)

  -- a view's reader shows nothing but that memory ran out
  pub seen-caused : (refusal : Refusal) → IsNone refusal → IsOfNewest (newest_id b) refusal → reader_meaning.MayRefuse f p refusal → AloneRefused b refusal f p
  seen-caused refusals.Memory none newest may = same
  seen-caused (refusals.Expired id) none newest may = absurd (expired-never f p id stands (newest ∙ many) may)
  seen-caused (refusals.NoSnapshot id latest) none newest may = absurd none
  seen-caused other none newest may = absurd may

  -- once the view is ready
  module _ (causes : ReaderCauses) (call : Call) (answer : Answer) (refusal : Refusal) (own : OwnView) (s : TableSchema) (m : view_phase.Phase)
      (reads : Reads m s) (table : IsTableOf s p.history) (reading : reader_meaning.Knows m f p) (origin : HasOrigin m) (unchanged : IsUnchanged b f)
      (is : own ≡ b.own) (at : reader.next_call m ≡ Some call) (told : Answers call answer f) where
    ready-caused : (to : view_phase.Phase) → reader.Goes m answer to → ReadsNewest (newest_id b) to → AfterReader own to (Err refusal) → AloneRefused b refusal f p
    ready-caused to goes newest on =
        read-refused (AloneRefused b refusal f p) (λ to. reader.Goes m answer to × ReadsNewest (newest_id b) to) own refusal
        (λ v has on. tried-refused (AloneRefused b refusal f p) (begun v.id own) v refusal
        (make-caused (begun v.id own) (found_in v) refusal unchanged (begun-same b own v.id is has.1)
        (view-sees causes call answer s m v reads table reading origin unchanged at told has.0 has.1)) on) to (goes, newest) on

-- a create meets a file that was there at the beginning
met-caused : (laws : Laws) (b : Beginning) (own : OwnView) (s : TableSchema) (id : ℕ) (making : MakingView) (f : Files) (p : Past) → IsTried s own
    → KnowsOwn own b.entry s p → KnowsTry own b.entry s id (puts.Create making) f p → p.history ≡ b.history
    → AloneIn b (phases.Put own s id (puts.Create making)) f
    → created.Exists ≡ made_at (map.get f making.next.path) → AloneRefused b (refusals.SessionUsed making.next.path) f p
met-caused laws b own s id making f p tried known is_try same (((count, is), next, gives), (untouched, rest)) told =
    let met = met-at (map.get f making.next.path) told in
    let was : map.get b.files making.next.path ≡ Some met.0 = sym untouched ∙ met.1 in
    let actor : actor_of own ≡ actor_of b.own = ap actor_of is ∙ begun-actor b.own (newest_id b) in
    let by = create-named laws.own_files own b.entry s id making f p tried known is_try in
    (same, inr (subst (λ (me : Actor). IsNamedBy me making.next.path) actor by, subst (λ (o : Option (List ℕ)). IsSome o) (sym was) refl))

-- ---- each phase

-- before the publish
pub calm-caused : (laws : Laws) (causes : ReaderCauses) (b : Beginning) (m : Phase) (answer : Answer) (refusal : Refusal) (f : Files) (p : Past)
    → NoPublish m → Stands f p → KnewAlone b m f p → After m answer (Err refusal)
    → IfSome (next_call m) (λ call. Answers call answer f → AloneRefused b refusal (carried call f) p)
calm-caused laws causes b (phases.Names own s) (answers.Listed names) refusal f p calm stands (known, (same, alone)) (inl memory) = λ told.
    forgotten laws b f p stands same refusal memory
calm-caused laws causes b (phases.Names own s) (answers.Listed names) refusal f p calm stands (known, (same, (unchanged, own_is))) (inr (path, finds, is)) = λ told.
    subst (λ (r : Refusal). AloneRefused b r f p) (sym is) (
      same,
      inl (
        names.items,
        listing-same f b.files (codes "manifest") names.items unchanged told,
        subst (λ (o : OwnView). FindsUsed o.names names.items (Some path)) own_is finds,
      ),
    )
calm-caused laws causes b (phases.View own m) answer refusal f p calm stands ((committer, (s, reads, known, reading, origin), gave), (same, (unchanged, is, newest))) (inl shown) =
    if-is (reader.next_call m) _ (λ call at told.
    (let rests = some-at (reader.next_call m) call _ at (view-rests m f) in
    subst (λ (g : Files). AloneRefused b refusal g p) (sym rests)
    (seen-caused laws b f p stands same refusal (shown-none s m answer refusal reads shown) (shown-newest (newest_id b) m answer refusal newest shown)
    (causes m call answer refusal f p stands reading at told shown))))
calm-caused laws causes b (phases.View own m) answer refusal f p calm stands ((committer, (s, reads, known, reading, origin), gave), (same, (unchanged, is, newest)))
    (inr (to, goes, on)) =
    if-is (reader.next_call m) _ (λ call at told.
    (let rests = some-at (reader.next_call m) call _ at (view-rests m f) in
    let newest_to = some-at (reader.next_call m) call _ at
    (reads-newest laws.joined laws.lists f p s (newest_id b) stands (ap count_of (sym same)) m answer to reads reading newest goes) told in
    subst (λ (g : Files). AloneRefused b refusal g p) (sym rests)
    (ready-caused laws b f p stands same causes call answer refusal own s m reads known.is_table reading origin unchanged is at told to goes newest_to on)))
calm-caused laws causes b (phases.Search own q) (answers.Found None) refusal f p calm stands (known, (same, (unchanged, is, sees, asked))) on = λ told.
    make-caused laws b f p stands same own q.found refusal unchanged is sees on
calm-caused laws causes b (phases.Search own q) (answers.Found (Some bytes)) refusal f p calm stands (known, (same, alone)) (inl memory) = λ told.
    forgotten laws b f p stands same refusal memory
calm-caused laws causes b (phases.Search own q) (answers.Found (Some bytes)) refusal f p calm stands (((may, few, ids), (known, is_found), gave), alone) (inr (inl (bad, is))) = λ told.
    absurd (good-snapshot f p q.found.schema q.id bytes stands known.is_table ids.0.0 ids.0.1 told bad)
calm-caused laws causes b (phases.Search own q) (answers.Found (Some bytes)) refusal f p calm stands (known, (same, (unchanged, is, sees, asked))) (inr (inr (x, reads, on))) = λ told.
    heard-refused (AloneRefused b refusal f p) own q.found q.left (seen_of own.author x) refusal
    (λ free on. make-caused laws b f p stands same own q.found refusal unchanged is sees on) on
calm-caused laws causes b (phases.Put own s id (puts.Publish x)) answer refusal f p calm stands known after = absurd calm
calm-caused laws causes b (phases.Put own s id (puts.Create making)) (answers.Made created.Created) refusal f p calm stands known (inr (to, goes, on)) =
    absurd (next-not own s id making.publishing making.rest to refusal goes on)
calm-caused laws causes b (phases.Put own s id (puts.Create making)) (answers.Made created.Exists) refusal f p calm stands (((tried, some, few), (known, is_try), gave), (same, alone)) (inl is) = λ told.
    subst (λ (r : Refusal). AloneRefused b r (carried (create_call making.next) f) p) (sym is)
    (met-caused laws b own s id making f p tried known is_try same alone told)
calm-caused laws causes b (phases.Put own s id m) answer refusal f p calm stands known (inl shown) = absurd shown
calm-caused laws causes b (phases.Put own s id m) answer refusal f p calm stands known (inr (to, goes, on)) = absurd goes
calm-caused laws causes b m answer refusal f p calm stands known after = absurd after
