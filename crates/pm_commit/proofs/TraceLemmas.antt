-- What the calls of a committer show.
use Rattle.std.proofs.Common.{◌≡◌, ◌⊎◌, inl, inr, ℕ, ◌+◌, ◌<◌, true, List, [], ◌∷◌, ◌++◌, length, Option, None, Some, IsSome, IfSome, Ok, Err, IfOk, refl, sym, ap, ◌∙◌, subst, append_assoc, arith}
use Rattle.std.proofs.lemmas.List.{append-nil}
use Rattle.std.proofs.lemmas.Option.{IfSome_then}
use Rattle.pm_values.specs.declared.refusal.Refusal.{Refusal}
use Rattle.pm_values.specs.declared.refusal.Refusal.TheVariants as refusals
use Rattle.pm_store.specs.Answers.{MayAnswer}
use Rattle.pm_store.specs.declared.answer.Answer.{Answer}
use Rattle.pm_store.specs.declared.answer.Answer.TheVariants as answers
use Rattle.pm_store.specs.declared.answer.Made.TheVariants as created
use Rattle.pm_store.specs.declared.call.Call.{Call}
use Rattle.pm_store.specs.declared.call.Call.TheVariants as calls
use Rattle.pm_machine.specs.Trace.{Event, Recounts, answered, after_answer}
use Rattle.pm_machine.proofs.PhaseFacts.{recounts_of}
use Rattle.pm_schema.specs.declared.schema.TableSchema.{TableSchema}
use Rattle.pm_snapshot.specs.Snapshot.{snapshot_in}
use Rattle.pm_snapshot.specs.declared.snapshot.Snapshot.{Snapshot}
use Rattle.pm_model_contents.specs.Lists.{manifest_path}
use Rattle.pm_model_folder.specs.Paths.{origin_path, snapshot_folder, snapshot_path}
use Rattle.pm_read_table.specs.Reader as reader
use Rattle.pm_read_table.specs.Trace as reader_trace
use Rattle.pm_read_table.specs.Trace.{of_origin, of_snapshot, read_file}
use Rattle.pm_read_table.specs.declared.phase.Phase as view_phase
use Rattle.pm_read_table.specs.declared.phase.Phase.TheVariants as readers
use Rattle.pm_read_table.specs.declared.view.View.{View}
use Rattle.pm_read_table.proofs.Facts as reader_facts
use Rattle.pm_read_table.proofs.Facts.{Joined}
use Rattle.pm_made.specs.Files.{IsMadeOf}
use Rattle.pm_made.specs.declared.newest.Made.{Made}
use Rattle.pm_made.specs.declared.newest.Author.{Author}
use Rattle.pm_made.proofs.AllowedLemmas.{IsReason, is-reason}
use Rattle.pm_commit.specs.Committer.{After, AfterPutter, AfterReader, Goes, Hears, Loses, Makes, Outcome, Refuses, Shown, Stops, Tries, first_of_try, found_in, manifests_call, newest_in, newest_of, next_call, publishing_of, put_of}
use Rattle.pm_commit.specs.Marks.{FindsUsed}
use Rattle.pm_commit.specs.Own.{IsNoAppend, OwnView, begun, tries, with_lost}
use Rattle.pm_commit.specs.Search.{SearchingView, older_ids, seen_in, seen_of}
use Rattle.pm_commit.specs.Trace.{AfterBegun, AfterLost, Did, DidAfter, DidFirst, DidInTry, DidSoFar, DidToEnd, FindsReason, HasListed, HasPut, HasSearch, HasTry, HaveLost, HavePassed, ListsUsed, LosesFirst, LosesTry, MayCommit, MayTakeMemory, Meets, Searched, Shows, ShowsAfter, ShowsBegun, Views, at_newest, at_older, has_begun, has_lost, is_absent, is_below, is_none, listed_manifests, lost_by, named_by, named_first, not_asked}
use Rattle.pm_commit.specs.declared.search.Seen.{Seen}
use Rattle.pm_commit.specs.declared.search.Seen.TheVariants as seen
use Rattle.pm_commit.specs.declared.found.Found.{Found}
use Rattle.pm_put.proofs.Facts as put_facts
use Rattle.pm_put.specs.Putter as putters
use Rattle.pm_put.specs.Putter.{create_next as put_next}
use Rattle.pm_put.specs.Trace as put
use Rattle.pm_put.specs.declared.phase.Phase as put_phase
use Rattle.pm_put.specs.declared.phase.Phase.TheVariants as puts
use Rattle.pm_commit.specs.declared.phase.Phase.{Phase}
use Rattle.pm_commit.specs.declared.phase.Phase.TheVariants as phases
use Rattle.pm_commit.proofs.CommitterLemmas.{begun-intent, begun-lost}
use Rattle.pm_commit.proofs.OutcomeLemmas.{IsFree, err-ok, heard, heard-refused, ok-same, read-on, read-refused, tried}
use Rattle.pm_commit.proofs.OwnLemmas.{none-taken}

-- ---- one event more

passed-push : (a : Author) (ids : List ℕ) (id : ℕ) (bytes : List ℕ) (x : Snapshot) (own : List Event) → HavePassed a ids own → snapshot_in id bytes ≡ Ok x
    → seen_of a x ≡ seen.Other → HavePassed a (ids ++ id ∷ []) (own ++ read_file (snapshot_path id) (Some bytes) ∷ [])
passed-push a [] id bytes x own quiet reads other =
    let event : Event = read_file (snapshot_path id) (Some bytes) in
    (bytes, x, [], reads, other, ap (λ (own : List Event). own ++ event ∷ []) quiet, refl)
passed-push a (first ∷ ids) id bytes x own (some, y, later, has, others, is, rest) reads other =
    let event : Event = read_file (snapshot_path id) (Some bytes) in
    (some, y, later ++ event ∷ [], has, others, ap (λ (own : List Event). own ++ event ∷ []) is, passed-push a ids id bytes x later rest reads other)

searched-more : (o : OwnView) (v : View) (id : ℕ) (left bytes : List ℕ) (x : Snapshot) (own : List Event) → Searched o v (id ∷ left) own → snapshot_in id bytes ≡ Ok x
    → seen_of o.author x ≡ seen.Other → Searched o v left (own ++ read_file (snapshot_path id) (Some bytes) ∷ [])
searched-more o v id left bytes x own searched reads other = record {
  asked = searched.asked;
  newest = searched.newest;
  passed = searched.passed ++ id ∷ [];
  parts = searched.parts ∙ sym (append_assoc searched.passed (id ∷ []) left);
  read = passed-push o.author searched.passed id bytes x own searched.read reads other;
}

-- ---- a next call

pub if-is : (next : Option Call) (P : Call → Type 0) → ((call : Call) → next ≡ Some call → P call) → IfSome next P
if-is None P each = tt
if-is (Some call) P each = each call refl

call-same : (one other : Call) → Some one ≡ Some other → one ≡ other
call-same one other e = cc

pub some-at : (next : Option Call) (call : Call) (P : Call → Type 0) → next ≡ Some call → IfSome next P → P call
some-at next call P is all = subst (λ (o : Option Call). IfSome o P) is all

-- a reader's answer tells of no create, and publishes nothing
listed-no : (folder : List ℕ) (answer : Answer) → MayAnswer (calls.List folder) answer → MayTakeMemory answer
listed-no folder (answers.Listed names) may = tt
listed-no folder answer may = absurd may

read-no : (path : List ℕ) (answer : Answer) → MayAnswer (calls.Read path) answer → MayTakeMemory answer
read-no path (answers.Found found) may = tt
read-no path answer may = absurd may

reader-no : (m : view_phase.Phase) (answer : Answer) → IfSome (reader.next_call m) (λ call. MayAnswer call answer → MayTakeMemory answer)
reader-no (readers.List a) answer = listed-no snapshot_folder answer
reader-no (readers.Ready v) answer = tt
reader-no readers.Over answer = tt
reader-no (readers.Origin q) answer = read-no (origin_path q.asked.schema) answer
reader-no (readers.Snapshot q id) answer = read-no (snapshot_path id) answer
reader-no (readers.Base q x) answer = read-no (manifest_path x.base_list) answer
reader-no (readers.Delta q x base) answer = read-no (manifest_path x.delta_list) answer
reader-no (readers.Manifests r) answer = read-no (manifest_path r.next.name) answer
reader-no (readers.Again a id path) answer = read-no (snapshot_path id) answer

module _ (s : TableSchema) where
  -- a search goes on with an event
  search-push : (p : OwnView) (v : View) (P Q : OwnView → View → List Event → Type 0) (own : List Event) (event : Event)
      → ((searches : List Event) → P (begun v.id p) v searches → Q (begun v.id p) v (searches ++ event ∷ [])) → HasSearch s p v P own
      → HasSearch s p v Q (own ++ event ∷ [])
  search-push p v P Q own event more (views, searches, viewed, ended, is) = (
    views,
    searches ++ event ∷ [],
    viewed,
    more searches ended,
    ap (λ (own : List Event). own ++ event ∷ []) is ∙ append_assoc views searches (event ∷ []),
  )

  search-as : (p : OwnView) (v : View) (P Q : OwnView → View → List Event → Type 0) (own : List Event)
      → ((searches : List Event) → P (begun v.id p) v searches → Q (begun v.id p) v searches) → HasSearch s p v P own → HasSearch s p v Q own
  search-as p v P Q own as_other (views, searches, viewed, ended, is) = (views, searches, viewed, as_other searches ended, is)

  -- no search came yet
  search-none : (p : OwnView) (v : View) (P : OwnView → View → List Event → Type 0) (own : List Event) → Views s v own → P (begun v.id p) v [] → HasSearch s p v P own
  search-none p v P own viewed none = (own, [], viewed, none, sym (append-nil own))

  search-views : (p : OwnView) (v : View) (P : OwnView → View → List Event → Type 0) (own : List Event) → HasSearch s p v P own → v.schema ≡ s
  search-views p v P own (views, searches, viewed, ended, is) = view-schema views viewed.0
    where
      view-schema : (views : List Event) → reader_trace.HasView (newest_of s) v views → v.schema ≡ s
      view-schema views (of_origin bytes is read) = is.schema
      view-schema views (of_snapshot x metas entries live read leaves is) = is.schema

  -- ---- a try

  did-make : (p : OwnView) (v : View) (new : Phase) (own : List Event) → HasSearch s p v MayCommit own → Makes (begun v.id p) (found_in v) (Ok new)
      → DidInTry s new p own
  did-make p v new own searched (made, is_made, allowed, is) =
      let same = search-views p v MayCommit own searched in
      let own_of = begun v.id p in
      subst (λ (m : Phase). DidInTry s m p own) (sym is) (
        v,
        made,
        refl,
        same,
        refl,
        record {
          searches = own;
          puts = [];
          searched = searched;
          is_made = subst (λ (t : TableSchema). IsMadeOf t (newest_in v) own_of.author own_of.intent own_of.names made) same is_made;
          allowed = allowed;
          put_so = subst (λ (t : TableSchema). put.Did (put_of s made) (put_next (publishing_of t made.id made.text) made.files.items) []) (sym same)
              (put_facts.first_did (put_of s made));
          is = sym (append-nil own);
        },
      )

  -- nothing keeps it from its files
  free-search : (p : OwnView) (v : View) (left : List ℕ) (said : Seen) (own : List Event) → (said ≡ seen.Other → HasSearch s p v (λ o v. Searched o v left) own)
      → HasSearch s p v (λ o v. Meets o v said) own → IsFree said left → HasSearch s p v MayCommit own
  free-search p v left said own searched meets (inl (other, none)) =
      search-as p v (λ o v. Searched o v left) MayCommit own
      (λ searches so_far. is_none (subst (λ (left : List ℕ). Searched (begun v.id p) v left searches) none so_far)) (searched other)
  free-search p v left said own searched meets (inr below) =
      search-as p v (λ o v. Meets o v said) MayCommit own
      (λ searches met. is_below (subst (λ (said : Seen). Meets (begun v.id p) v said searches) below met)) meets

  did-hear : (p : OwnView) (v : View) (left : List ℕ) (said : Seen) (new : Phase) (own : List Event)
      → (said ≡ seen.Other → HasSearch s p v (λ o v. Searched o v left) own) → HasSearch s p v (λ o v. Meets o v said) own
      → Hears (begun v.id p) (found_in v) left said (Ok new) → DidInTry s new p own
  did-hear p v left said new own searched meets on =
      heard (λ (o : Outcome). IfOk o (λ m. DidInTry s m p own)) (begun v.id p) (found_in v) left said (Ok new)
      (λ free on. did-make p v new own (free-search p v left said own searched meets free) on)
      (λ id rest other is few. (v, refl, refl, subst (λ (left : List ℕ). HasSearch s p v (λ o v. Searched o v left) own) is (searched other)))
      (λ reached. (v, refl, subst (λ (said : Seen). HasSearch s p v (λ o v. Meets o v said) own) reached meets)) on

  -- the newest snapshot was heard
  newest-searched : (p : OwnView) (v : View) (own : List Event) → Views s v own → (begun v.id p).check ≡ true → seen_in (begun v.id p).author v.snapshot ≡ seen.Other
      → HasSearch s p v (λ o v. Searched o v (older_ids v.listed.items)) own
  newest-searched p v own viewed asked other = search-none p v (λ o v. Searched o v (older_ids v.listed.items)) own viewed
      (record { asked = asked; newest = other; passed = []; parts = refl; read = refl })

  newest-meets : (p : OwnView) (v : View) (own : List Event) → Views s v own → (begun v.id p).check ≡ true
      → HasSearch s p v (λ o v. Meets o v (seen_in (begun v.id p).author v.snapshot)) own
  newest-meets p v own viewed asked = search-none p v (λ o v. Meets o v (seen_in (begun v.id p).author v.snapshot)) own viewed (at_newest asked refl refl)

  did-ready : (p : OwnView) (v : View) (new : Phase) (own : List Event) → Views s v own → Tries (begun v.id p) v (Ok new) → DidInTry s new p own
  did-ready p v new own viewed on =
      tried (DidInTry s new p own) (begun v.id p) v (Ok new) (λ unasked on. did-make p v new own (search-none p v MayCommit own viewed (not_asked unasked refl)) on)
      (λ asked on. did-hear p v (older_ids v.listed.items) (seen_in (begun v.id p).author v.snapshot) new own (newest-searched p v own viewed asked)
      (newest-meets p v own viewed asked) on) on

  did-after : (p o : OwnView) (m : view_phase.Phase) (new : Phase) (own : List Event) → o ≡ p → AfterReader o m (Ok new) → reader_trace.Did (newest_of s) m own
      → DidInTry s new p own
  did-after p o m new own same on did =
      read-on (λ (o : Outcome). IfOk o (λ m. DidInTry s m p own)) (λ m. reader_trace.Did (newest_of s) m own) o (Ok new)
      (λ v did on. did-ready p v new own did (subst (λ (o : OwnView). Tries (begun v.id o) v (Ok new)) same on)) (λ m none did. (same, did)) m did on

  -- an older snapshot was read
  older-searched : (p : OwnView) (v : View) (id : ℕ) (left bytes : List ℕ) (x : Snapshot) (own : List Event)
      → HasSearch s p v (λ o v. Searched o v (id ∷ left)) own → snapshot_in id bytes ≡ Ok x → seen_of (begun v.id p).author x ≡ seen.Other
      → HasSearch s p v (λ o v. Searched o v left) (own ++ read_file (snapshot_path id) (Some bytes) ∷ [])
  older-searched p v id left bytes x own searched reads other =
      search-push p v (λ o v. Searched o v (id ∷ left)) (λ o v. Searched o v left) own (read_file (snapshot_path id) (Some bytes))
      (λ searches so_far. searched-more (begun v.id p) v id left bytes x searches so_far reads other) searched

  older-meets : (p : OwnView) (v : View) (id : ℕ) (left bytes : List ℕ) (x : Snapshot) (own : List Event)
      → HasSearch s p v (λ o v. Searched o v (id ∷ left)) own → snapshot_in id bytes ≡ Ok x
      → HasSearch s p v (λ o v. Meets o v (seen_of (begun v.id p).author x)) (own ++ read_file (snapshot_path id) (Some bytes) ∷ [])
  older-meets p v id left bytes x own searched reads =
      search-push p v (λ o v. Searched o v (id ∷ left)) (λ o v. Meets o v (seen_of (begun v.id p).author x)) own (read_file (snapshot_path id) (Some bytes))
      (λ searches so_far. at_older id left bytes x searches so_far reads refl refl) searched

  older-absent : (p : OwnView) (v : View) (id : ℕ) (left : List ℕ) (own : List Event) → HasSearch s p v (λ o v. Searched o v (id ∷ left)) own
      → HasSearch s p v MayCommit (own ++ read_file (snapshot_path id) None ∷ [])
  older-absent p v id left own searched =
      search-push p v (λ o v. Searched o v (id ∷ left)) MayCommit own (read_file (snapshot_path id) None)
      (λ searches so_far. is_absent id left searches so_far refl) searched

  -- the putter of a try went on, or showed a refusal
  try-push : (p : OwnView) (v : View) (made : Made) (P Q : List Event → Type 0) (own : List Event) (event : Event) → (has : HasTry s p v made P own)
      → Q (has.puts ++ event ∷ []) → HasTry s p v made Q (own ++ event ∷ [])
  try-push p v made P Q own event has so = record {
    searches = has.searches;
    puts = has.puts ++ event ∷ [];
    searched = has.searched;
    is_made = has.is_made;
    allowed = has.allowed;
    put_so = so;
    is = ap (λ (own : List Event). own ++ event ∷ []) has.is ∙ append_assoc has.searches has.puts (event ∷ []);
  }

  -- a snapshot's search, of what the phase holds
  search-went : (p o : OwnView) (q : SearchingView) (v : View) (bytes : List ℕ) (x : Snapshot) (new : Phase) (own : List Event) → o ≡ begun v.id p → q.found ≡ found_in v
      → HasSearch s p v (λ o v. Searched o v (q.id ∷ q.left)) own → snapshot_in q.id bytes ≡ Ok x → Hears o q.found q.left (seen_of o.author x) (Ok new)
      → DidInTry s new p (own ++ read_file (snapshot_path q.id) (Some bytes) ∷ [])
  search-went p o q v bytes x new own same is_found searched reads on =
      let event : Event = read_file (snapshot_path q.id) (Some bytes) in
      let on_own : Hears (begun v.id p) q.found q.left (seen_of (begun v.id p).author x) (Ok new) =
      subst (λ (o : OwnView). Hears o q.found q.left (seen_of o.author x) (Ok new)) same on in
      did-hear p v q.left (seen_of (begun v.id p).author x) new (own ++ event ∷ [])
      (λ other. older-searched p v q.id q.left bytes x own searched reads other)
      (older-meets p v q.id q.left bytes x own searched reads)
      (subst (λ (found : Found). Hears (begun v.id p) found q.left (seen_of (begun v.id p).author x) (Ok new)) is_found on_own)

  search-ended : (p o : OwnView) (q : SearchingView) (v : View) (new : Phase) (own : List Event) → o ≡ begun v.id p → q.found ≡ found_in v
      → HasSearch s p v (λ o v. Searched o v (q.id ∷ q.left)) own → Makes o q.found (Ok new) → DidInTry s new p (own ++ read_file (snapshot_path q.id) None ∷ [])
  search-ended p o q v new own same is_found searched on =
      did-make p v new (own ++ read_file (snapshot_path q.id) None ∷ []) (older-absent p v q.id q.left own searched)
      (subst (λ (found : Found). Makes (begun v.id p) found (Ok new)) is_found (subst (λ (o : OwnView). Makes o q.found (Ok new)) same on))

  -- ---- all tries

  -- of a commit that began so
  module _ (Begins : OwnView → List Event → Type 0) where
    -- in a phase of a try
    abbrev Tried : Phase → List Event → Type 0
    Tried m own = AfterBegun s Begins (DidInTry s m) own

    -- the try goes on with an event
    after-push : (P Q : OwnView → List Event → Type 0) (own : List Event) (event : Event) → ((p : OwnView) (later : List Event) → P p later → Q p (later ++ event ∷ []))
        → AfterBegun s Begins P own → AfterBegun s Begins Q (own ++ event ∷ [])
    after-push P Q own event more (p, earlier, later, lost, tried, is) = (
      p,
      earlier,
      later ++ event ∷ [],
      lost,
      more p later tried,
      ap (λ (own : List Event). own ++ event ∷ []) is ∙ append_assoc earlier later (event ∷ []),
    )

    -- the next try begins
    begin-try : (p : OwnView) (own : List Event) → HaveLost s Begins p own → Tried (first_of_try p s) own
    begin-try p own lost = (p, own, [], lost, (refl, (refl, refl, tt)), sym (append-nil own))

    lost-calls : (event : Event) (earlier later own : List Event) → own ≡ earlier ++ later → own ++ event ∷ [] ≡ earlier ++ (later ++ event ∷ [])
    lost-calls event earlier later own is = ap (λ (own : List Event). own ++ event ∷ []) is ∙ append_assoc earlier later (event ∷ [])

    -- once a try has named its files the ids that were lost are the same
    same-lost : (p : OwnView) (v : View) (made : Made) (o : OwnView) → o ≡ named_by p v made → o.lost ≡ p.lost
    same-lost p v made o same = ap (λ (o : OwnView). o.lost) same ∙ begun-lost p v.id

    lost-on : (o : OwnView) (t : TableSchema) (id : ℕ) (new : Phase) (p : OwnView) (v : View) (made : Made) (earlier later own : List Event)
        → o ≡ named_by p v made → t ≡ s → id ≡ made.id → HaveLost s Begins p earlier → own ≡ earlier ++ later → LosesTry s p v made later
        → Loses o t id (Ok new) → Tried new own
    lost-on o t id new p v made earlier later own same is_t is_id lost is loses_it (left, on) =
        let few : length p.lost + 1 < tries = subst (λ (ids : List ℕ). length ids + 1 < tries) (same-lost p v made o same) left in
        let next : OwnView = lost_by p v made in
        let is_next : new ≡ first_of_try next s =
        on ∙ ap (first_of_try (with_lost id o)) is_t
        ∙ ap (λ (o : OwnView). first_of_try o s) (ap (with_lost id) same ∙ ap (λ (id : ℕ). with_lost id (named_by p v made)) is_id) in
        subst (λ (m : Phase). Tried m own) (sym is_next)
        (begin-try next own (subst (HaveLost s Begins next) (sym is) (has_lost p v made earlier later few lost loses_it)))

    -- the putter of a try came so far
    did-putter : (o : OwnView) (t : TableSchema) (id : ℕ) (to : put_phase.Phase) (new : Phase) (p : OwnView) (v : View) (made : Made) (earlier later own : List Event)
        → o ≡ named_by p v made → t ≡ s → id ≡ made.id → HaveLost s Begins p earlier → own ≡ earlier ++ later → HasPut s p v made to later
        → AfterPutter o t id to (Ok new) → Tried new own
    did-putter o t id puts.Published new p v made earlier later own same is_t is_id lost is tried on =
        subst (λ (m : Phase). Tried m own) (sym (ok-same new _ on))
        (p, earlier, later, lost, (v, made, ap (λ (o : OwnView). o.author) same, is_id, tried), is)
    did-putter o t id puts.Lost new p v made earlier later own same is_t is_id lost is tried on =
        lost-on o t id new p v made earlier later own same is_t is_id lost is tried on
    did-putter o t id to new p v made earlier later own same is_t is_id lost is tried on =
        subst (λ (m : Phase). Tried m own) (sym (ok-same new _ on)) (p, earlier, later, lost, (v, made, same, is_t, is_id, tried), is)

    tried-on : Joined → (m : Phase) (answer : Answer) (new : Phase) (own : List Event) → After m answer (Ok new) → Tried m own
        → IfSome (next_call m) (λ call. MayAnswer call answer → Tried new (own ++ answered call answer ∷ []))
    tried-on law (phases.Names o t) answer new own on (p, earlier, later, lost, none, is) = absurd none
    tried-on law (phases.View o m) answer new own (to, goes, after) (p, earlier, later, lost, (same, did), is) =
        IfSome_then (reader.next_call m) ((reader_facts.recounts law (newest_of s)).went m to answer later goes did)
        (λ call did may. (p, earlier, later ++ answered call answer ∷ [], lost, did-after p o to new (later ++ answered call answer ∷ []) same after (did may), lost-calls (answered call answer) earlier later own is))
    tried-on law (phases.Search o q) (answers.Found None) new own on did = λ may.
        (after-push (DidInTry s (phases.Search o q)) (DidInTry s new) own (read_file (snapshot_path q.id) None)
        (λ p later did_now. let (v, same, is_found, searched) = did_now in search-ended p o q v new later same is_found searched on) did)
    tried-on law (phases.Search o q) (answers.Found (Some bytes)) new own (x, reads, on) did = λ may.
        (after-push (DidInTry s (phases.Search o q)) (DidInTry s new) own (read_file (snapshot_path q.id) (Some bytes))
        (λ p later did_now. let (v, same, is_found, searched) = did_now in search-went p o q v bytes x new later same is_found searched reads on) did)
    tried-on law (phases.Put o t id m) answer new own (to, goes, on) (p, earlier, later, lost, (v, made, same, is_t, is_id, tried), is) =
        IfSome_then (putters.next_call m) ((put_facts.recounts (put_of s made)).went m to answer tried.puts goes tried.put_so)
        (λ call did may. did-putter o t id to new p v made earlier (later ++ answered call answer ∷ []) (own ++ answered call answer ∷ []) same is_t is_id lost
        (lost-calls (answered call answer) earlier later own is)
        (try-push p v made (put.Did (put_of s made) m) (put.Did (put_of s made) to) later (answered call answer) tried (did may)) on)
    tried-on law m answer new own after did = absurd after

    -- ---- refusals

    -- where it came to its phases by these calls, and these show that a path was in use at its beginning
    module _ (first : OwnView) (begun-for : (o : OwnView) (own : List Event) → Begins o own → o.intent ≡ first.intent) (Came : Phase → List Event → Type 0)
        (Uses : List ℕ → List Event → Type 0) where
      abbrev Own : Refusal → List Event → Type 0
      Own = ShowsBegun s first Begins Came Uses

      abbrev Shown-by : Refusal → List Event → Type 0
      Shown-by refusal own = AfterBegun s Begins (λ o later. reader_trace.Shows (newest_of s) refusal later) own ⊎ Own refusal own

      as-shown : (refusal defined : Refusal) (own : List Event) → refusal ≡ defined → Own defined own → Shown-by refusal own
      as-shown refusal defined own is shows = inr (subst (λ (e : Refusal). Own e own) (sym is) shows)

      -- memory ran out after an answer
      forgot : (m : Phase) (call : Call) (answer : Answer) (refusal : Refusal) (own : List Event) → Came m own → next_call m ≡ Some call → MayAnswer call answer
          → MayTakeMemory answer → refusal ≡ refusals.Memory → Shown-by refusal (own ++ answered call answer ∷ [])
      forgot m call answer refusal own did is may none memory =
          as-shown refusal refusals.Memory _ memory (after_answer m call answer own did is may none refl)

      -- tries that were lost don't change what the commit is for
      lost-intent : (o : OwnView) (own : List Event) → HaveLost s Begins o own → o.intent ≡ first.intent
      lost-intent o own (has_begun _ _ begins) = begun-for o own begins
      lost-intent o own (has_lost p v made earlier later left lost loses) = begun-intent p v.id ∙ lost-intent p earlier lost

      -- there is a reason against the commit
      found-reason : (refusal : Refusal) (own : List Event) → IsReason refusal → AfterBegun s Begins (FindsReason s refusal) own → Shown-by refusal own
      found-reason (refusals.Fenced base fence) own is found = inr found
      found-reason (refusals.CompactTaken file) own is (o, earlier, later, lost, (v, reason, searched), at) =
          let p : OwnView = begun v.id o in
          let same : p.intent ≡ first.intent = begun-intent o v.id ∙ lost-intent o earlier lost in
          let none : IsNoAppend p.intent = none-taken (newest_in v) p.author p.intent file reason in
          inr (subst IsNoAppend same none, (o, earlier, later, lost, (v, reason, searched), at))
      found-reason (refusals.Limit which number) own is found = inr found
      found-reason other own is found = absurd is

      module _ (m : Phase) (call : Call) (answer : Answer) (p : OwnView) (refusal : Refusal) (earlier later own : List Event) (did : Came m own)
          (at : next_call m ≡ Some call) (may : MayAnswer call answer) (takes : MayTakeMemory answer) (lost : HaveLost s Begins p earlier)
          (is : own ≡ earlier ++ later) where
        abbrev calls_now : List Event
        calls_now = later ++ answered call answer ∷ []

        abbrev ShowsIt : Type 0
        ShowsIt = Shown-by refusal (own ++ answered call answer ∷ [])

        -- no files are made after an event: memory ran out, or there is a reason
        refused-make : (v : View) → HasSearch s p v MayCommit calls_now → Makes (begun v.id p) (found_in v) (Err refusal) → ShowsIt
        refused-make v searched (inl memory) = forgot m call answer refusal own did at may takes memory
        refused-make v searched (inr reason) =
            found-reason refusal _ (is-reason (newest_in v) (begun v.id p).author (begun v.id p).intent refusal reason)
            (p, earlier, calls_now, lost, (v, reason, searched), lost-calls (answered call answer) earlier later own is)

        refused-hear : (v : View) (left : List ℕ) (said : Seen) → (said ≡ seen.Other → HasSearch s p v (λ o v. Searched o v left) calls_now)
            → HasSearch s p v (λ o v. Meets o v said) calls_now → Hears (begun v.id p) (found_in v) left said (Err refusal) → ShowsIt
        refused-hear v left said searched meets on =
            heard-refused ShowsIt (begun v.id p) (found_in v) left said refusal (λ free on. refused-make v (free-search p v left said calls_now searched meets free) on) on

        -- the view is ready, and no files are made for it
        refused-ready : (v : View) → Views s v calls_now → Tries (begun v.id p) v (Err refusal) → ShowsIt
        refused-ready v viewed on =
            tried ShowsIt (begun v.id p) v (Err refusal) (λ unasked on. refused-make v (search-none p v MayCommit calls_now viewed (not_asked unasked refl)) on)
            (λ asked on. refused-hear v (older_ids v.listed.items) (seen_in (begun v.id p).author v.snapshot) (newest-searched p v calls_now viewed asked)
            (newest-meets p v calls_now viewed asked) on) on

        refused-reader : (o : OwnView) (to : view_phase.Phase) → o ≡ p → reader_trace.Did (newest_of s) to calls_now → AfterReader o to (Err refusal) → ShowsIt
        refused-reader o to same did_to on =
            read-refused ShowsIt (λ to. reader_trace.Did (newest_of s) to calls_now) o refusal
            (λ v did_to on. refused-ready v did_to (subst (λ (o : OwnView). Tries (begun v.id o) v (Err refusal)) same on)) to did_to on

      -- eleven tries were lost, or it refuses nothing
      refused-putter : (o : OwnView) (t : TableSchema) (id : ℕ) (to : put_phase.Phase) (refusal : Refusal) (p : OwnView) (v : View) (made : Made)
          (earlier later own : List Event) → o ≡ named_by p v made → id ≡ made.id → HaveLost s Begins p earlier → own ≡ earlier ++ later → HasPut s p v made to later
          → AfterPutter o t id to (Err refusal) → Shown-by refusal own
      refused-putter o t id puts.Lost refusal p v made earlier later own same is_id lost is tried (last, contended) =
          let ids_are : o.lost ≡ p.lost = same-lost p v made o same in
          let ids : o.lost ++ id ∷ [] ≡ p.lost ++ made.id ∷ [] =
          ap (λ (ids : List ℕ). ids ++ id ∷ []) ids_are ∙ ap (λ (id : ℕ). p.lost ++ id ∷ []) is_id in
          as-shown refusal (refusals.Contended (o.lost ++ id ∷ [])) _ contended
          (p, earlier, later, lost, (v, made, tried, subst (λ (ids : List ℕ). length ids + 1 ≡ tries) ids_are last, ids), is)
      refused-putter o t id to refusal p v made earlier later own same is_id lost is tried on = absurd (err-ok refusal _ on)

      -- a putter refuses where a create met a file
      put-met : (m : put_phase.Phase) (answer : Answer) (refusal : Refusal) → putters.Shown m answer refusal → (path : List ℕ) × (refusal ≡ refusals.SessionUsed path)
      put-met (puts.Create making) (answers.Made created.Exists) refusal is = (making.next.path, is)
      put-met m answer refusal shown = absurd shown

      refused-tried : Joined → (m : Phase) (call : Call) (answer : Answer) (refusal : Refusal) (own : List Event) → After m answer (Err refusal) → Came m own
          → Tried m own → next_call m ≡ Some call → MayAnswer call answer → Shown-by refusal (own ++ answered call answer ∷ [])
      refused-tried law (phases.Names o t) call answer refusal own on came (p, earlier, later, lost, none, is) at may = absurd none
      refused-tried law (phases.View o m) call answer refusal own (inl shown) came (p, earlier, later, lost, (same, did), is) at may =
          let shows = some-at (reader.next_call m) call _ at ((reader_facts.recounts law (newest_of s)).refused m readers.Over answer refusal later (shown, refl) did) may in
          inl (p, earlier, later ++ answered call answer ∷ [], lost, shows.1, lost-calls (answered call answer) earlier later own is)
      refused-tried law (phases.View o m) call answer refusal own (inr (to, goes, on)) came (p, earlier, later, lost, (same, did), is) at may =
          let did_to = some-at (reader.next_call m) call _ at ((reader_facts.recounts law (newest_of s)).went m to answer later goes did) may in
          let none = some-at (reader.next_call m) call _ at (reader-no m answer) may in
          refused-reader (phases.View o m) call answer p refusal earlier later own came at may none lost is o to same did_to on
      refused-tried law (phases.Search o q) call (answers.Found None) refusal own on came did at may =
          let (p, earlier, later, lost, tried, is) = did in
          let (v, same, is_found, searched) = tried in
          let event_is : read_file (snapshot_path q.id) None ≡ answered call (answers.Found None) =
          ap (λ (call : Call). answered call (answers.Found None)) (call-same (calls.Read (snapshot_path q.id)) call at) in
          refused-make (phases.Search o q) call (answers.Found None) p refusal earlier later own came at may tt lost is v
          (subst (λ (e : Event). HasSearch s p v MayCommit (later ++ e ∷ [])) event_is (older-absent p v q.id q.left later searched))
          (subst (λ (found : Found). Makes (begun v.id p) found (Err refusal)) is_found (subst (λ (o : OwnView). Makes o q.found (Err refusal)) same on))
      refused-tried law (phases.Search o q) call (answers.Found (Some bytes)) refusal own (inl memory) came did at may =
          forgot (phases.Search o q) call (answers.Found (Some bytes)) refusal own came at may tt memory
      refused-tried law (phases.Search o q) call (answers.Found (Some bytes)) refusal own (inr (inl (bad, is_damaged))) came did at may =
          let (p, earlier, later, lost, tried, is) = did in
          let (v, same, is_found, searched) = tried in
          let event_is : answered call (answers.Found (Some bytes)) ≡ read_file (snapshot_path q.id) (Some bytes) =
          ap (λ (call : Call). answered call (answers.Found (Some bytes))) (sym (call-same (calls.Read (snapshot_path q.id)) call at)) in
          as-shown refusal (refusals.Damaged (snapshot_path q.id) 0) _ is_damaged (
            p,
            earlier,
            later ++ answered call (answers.Found (Some bytes)) ∷ [],
            lost,
            (v, q.id, q.left, bytes, later, searched, bad, refl, refl, ap (λ (e : Event). later ++ e ∷ []) event_is),
            lost-calls (answered call (answers.Found (Some bytes))) earlier later own is,
          )
      refused-tried law (phases.Search o q) call (answers.Found (Some bytes)) refusal own (inr (inr (x, reads, on))) came did at may =
          let (p, earlier, later, lost, tried, is) = did in
          let (v, same, is_found, searched) = tried in
          let event_is : read_file (snapshot_path q.id) (Some bytes) ≡ answered call (answers.Found (Some bytes)) =
          ap (λ (call : Call). answered call (answers.Found (Some bytes))) (call-same (calls.Read (snapshot_path q.id)) call at) in
          let on_own : Hears (begun v.id p) q.found q.left (seen_of (begun v.id p).author x) (Err refusal) =
          subst (λ (o : OwnView). Hears o q.found q.left (seen_of o.author x) (Err refusal)) same on in
          refused-hear (phases.Search o q) call (answers.Found (Some bytes)) p refusal earlier later own came at may tt lost is v q.left (seen_of (begun v.id p).author x)
          (λ other. subst (λ (e : Event). HasSearch s p v (λ o v. Searched o v q.left) (later ++ e ∷ [])) event_is
          (older-searched p v q.id q.left bytes x later searched reads other))
          (subst (λ (e : Event). HasSearch s p v (λ o v. Meets o v (seen_of (begun v.id p).author x)) (later ++ e ∷ [])) event_is
          (older-meets p v q.id q.left bytes x later searched reads))
          (subst (λ (found : Found). Hears (begun v.id p) found q.left (seen_of (begun v.id p).author x) (Err refusal)) is_found on_own)
      refused-tried law (phases.Put o t id m) call answer refusal own (inl shown) came (p, earlier, later, lost, (v, made, same, is_t, is_id, tried), is) at may =
          let (path, used) = put-met m answer refusal shown in
          let shows = some-at (putters.next_call m) call _ at
          ((put_facts.recounts (put_of s made)).refused m puts.Over answer refusal tried.puts (shown, refl) tried.put_so) may in
          let event : Event = answered call answer in
          let met : put.MeetsFile (put_of s made) path (tried.puts ++ event ∷ []) =
          subst (λ (e : Refusal). put.Shows (put_of s made) e (tried.puts ++ event ∷ [])) used shows.1 in
          as-shown refusal (refusals.SessionUsed path) _ used (inr (
            p,
            earlier,
            later ++ event ∷ [],
            lost,
            (v, made, try-push p v made (put.Did (put_of s made) m) (put.MeetsFile (put_of s made) path) later event tried met),
            lost-calls event earlier later own is,
          ))
      refused-tried law (phases.Put o t id m) call answer refusal own (inr (to, goes, on)) came (p, earlier, later, lost, (v, made, same, is_t, is_id, tried), is) at may =
          let event : Event = answered call answer in
          let did = some-at (putters.next_call m) call _ at ((put_facts.recounts (put_of s made)).went m to answer tried.puts goes tried.put_so) may in
          refused-putter o t id to refusal p v made earlier (later ++ event ∷ []) (own ++ event ∷ []) same is_id lost (lost-calls event earlier later own is)
          (try-push p v made (put.Did (put_of s made) m) (put.Did (put_of s made) to) later event tried did) on
      refused-tried law m call answer refusal own after came did at may = absurd after

  -- ---- a commit that begins with the names

  module _ (first : OwnView) where
    listed-for : (o : OwnView) (own : List Event) → HasListed first o own → o.intent ≡ first.intent
    listed-for o own listed = ap (λ (o : OwnView). o.intent) listed.0

    -- so far, in a phase of a try
    in-try : (m : Phase) (own : List Event) → AfterLost s first (DidInTry s m) own → Did s first m own
    in-try (phases.Names o t) own (p, earlier, later, lost, tried, is) = absurd tried
    in-try phases.Over own (p, earlier, later, lost, tried, is) = absurd tried
    in-try m own after = after

    try-on : Joined → (m : Phase) (answer : Answer) (new : Phase) (own : List Event) → After m answer (Ok new) → AfterLost s first (DidInTry s m) own
        → IfSome (next_call m) (λ call. MayAnswer call answer → Did s first new (own ++ answered call answer ∷ []))
    try-on law m answer new own on did = IfSome_then (next_call m) (tried-on (HasListed first) law m answer new own on did)
        (λ call after may. in-try new (own ++ answered call answer ∷ []) (after may))

    went-on : Joined → (m : Phase) (answer : Answer) (new : Phase) (own : List Event) → After m answer (Ok new) → Did s first m own
        → IfSome (next_call m) (λ call. MayAnswer call answer → Did s first new (own ++ answered call answer ∷ []))
    went-on law (phases.Names o t) (answers.Listed names) new own (none, is) (same, is_t, quiet) = λ may.
        let event : Event = listed_manifests names in
        let calls_are : own ++ event ∷ [] ≡ event ∷ [] = ap (λ (own : List Event). own ++ event ∷ []) quiet in
        let lost : HaveLost s (HasListed first) first (own ++ event ∷ []) =
        has_begun first (own ++ event ∷ []) (refl, names, subst (λ (o : OwnView). FindsUsed o.names names.items None) same none, calls_are) in
        let begins : new ≡ first_of_try first s = is ∙ ap (λ (o : OwnView). first_of_try o t) same ∙ ap (first_of_try first) is_t in
        subst (λ (m : Phase). Did s first m (own ++ event ∷ [])) (sym begins) (begin-try (HasListed first) first (own ++ event ∷ []) lost)
    went-on law (phases.View o m) answer new own on did = try-on law (phases.View o m) answer new own on did
    went-on law (phases.Search o q) answer new own on did = try-on law (phases.Search o q) answer new own on did
    went-on law (phases.Put o t id m) answer new own on did = try-on law (phases.Put o t id m) answer new own on did
    went-on law m answer new own after did = absurd after

    refused-on : Joined → (m : Phase) (call : Call) (answer : Answer) (refusal : Refusal) (own : List Event) → After m answer (Err refusal) → Did s first m own
        → next_call m ≡ Some call → MayAnswer call answer → Shows s first refusal (own ++ answered call answer ∷ [])
    refused-on law (phases.Names o t) call (answers.Listed names) refusal own (inl memory) did at may =
        forgot (HasListed first) first listed-for (DidSoFar s first) (ListsUsed first) (phases.Names o t) call (answers.Listed names) refusal own did at may tt memory
    refused-on law (phases.Names o t) call (answers.Listed names) refusal own (inr (path, finds, is)) (same, is_t, quiet) at may =
        let calls_are : own ++ answered call (answers.Listed names) ∷ [] ≡ listed_manifests names ∷ [] =
        ap (λ (own : List Event). own ++ answered call (answers.Listed names) ∷ []) quiet
        ∙ ap (λ (call : Call). answered call (answers.Listed names) ∷ []) (sym (call-same manifests_call call at)) in
        as-shown (HasListed first) first listed-for (DidSoFar s first) (ListsUsed first) refusal (refusals.SessionUsed path) _ is
        (inl (names, subst (λ (o : OwnView). FindsUsed o.names names.items (Some path)) same finds, calls_are))
    refused-on law (phases.View o m) call answer refusal own on did at may =
        refused-tried (HasListed first) first listed-for (DidSoFar s first) (ListsUsed first) law (phases.View o m) call answer refusal own on did did at may
    refused-on law (phases.Search o q) call answer refusal own on did at may =
        refused-tried (HasListed first) first listed-for (DidSoFar s first) (ListsUsed first) law (phases.Search o q) call answer refusal own on did did at may
    refused-on law (phases.Put o t id m) call answer refusal own on did at may =
        refused-tried (HasListed first) first listed-for (DidSoFar s first) (ListsUsed first) law (phases.Put o t id m) call answer refusal own on did did at may
    refused-on law m call answer refusal own after did at may = absurd after

    -- before its end
    so-far : (m : Phase) (own : List Event) → IsSome (next_call m) → Did s first m own → DidSoFar s first m own
    so-far phases.Over own called did = absurd (let clash = called in cc)
    so-far m own called did = did

    pub recounts : Joined → Recounts next_call Goes Refuses Stops (Did s first) (Shows s first)
    recounts law = recounts_of next_call Goes Shown phases.Over (DidSoFar s first) (Did s first) (λ m. MayTakeMemory) (Shows s first) so-far
        (λ refusal own shows. (refusal, shows)) (λ path own failed. inr failed) (λ own ends. inr ends) (went-on law)
        (λ m answer refusal own shown did. if-is (next_call m) _ (λ call at may. refused-on law m call answer refusal own shown did at may))

  -- ---- a commit whose first try was made before

  module _ (first : OwnView) (made : Made) where
    lost-for : (o : OwnView) (own : List Event) → LosesFirst s first made o own → o.intent ≡ first.intent
    lost-for o own (same, did) = ap (λ (o : OwnView). o.intent) same

    in-later : (m : Phase) (own : List Event) → AfterBegun s (LosesFirst s first made) (DidInTry s m) own → DidToEnd s first made m own
    in-later phases.Over own (p, earlier, later, lost, none, is) = absurd none
    in-later m own after = inr after

    -- the putter of the first try came so far
    first-putter : (o : OwnView) (t : TableSchema) (id : ℕ) (to : put_phase.Phase) (new : Phase) (own : List Event) → o ≡ named_first first made → t ≡ s
        → id ≡ made.id → put.Did (put_of s made) to own → AfterPutter o t id to (Ok new) → DidToEnd s first made new own
    first-putter o t id puts.Published new own same is_t is_id did on =
        subst (λ (m : Phase). DidToEnd s first made m own) (sym (ok-same new _ on)) (inl (ap (λ (o : OwnView). o.author) same, is_id, did))
    first-putter o t id puts.Lost new own same is_t is_id did (left, on) =
        let next : OwnView = with_lost made.id (named_first first made) in
        let is_next : new ≡ first_of_try next s =
        on ∙ ap (first_of_try (with_lost id o)) is_t
        ∙ ap (λ (o : OwnView). first_of_try o s) (ap (with_lost id) same ∙ ap (λ (id : ℕ). with_lost id (named_first first made)) is_id) in
        subst (λ (m : Phase). DidToEnd s first made m own) (sym is_next)
        (inr (begin-try (LosesFirst s first made) next own (has_begun next own (refl, did))))
    first-putter o t id to new own same is_t is_id did on =
        subst (λ (m : Phase). DidToEnd s first made m own) (sym (ok-same new _ on)) (inl (same, is_t, is_id, did))

    first-on : (m : Phase) (answer : Answer) (new : Phase) (own : List Event) → After m answer (Ok new) → DidFirst s first made m own
        → IfSome (next_call m) (λ call. MayAnswer call answer → DidToEnd s first made new (own ++ answered call answer ∷ []))
    first-on (phases.Put o t id m) answer new own (to, goes, on) (same, is_t, is_id, did) =
        IfSome_then (putters.next_call m) ((put_facts.recounts (put_of s made)).went m to answer own goes did)
        (λ call came may. first-putter o t id to new (own ++ answered call answer ∷ []) same is_t is_id (came may) on)
    first-on (phases.Committed author id) answer new own on did = tt
    first-on m answer new own on did = absurd did

    after-on : Joined → (m : Phase) (answer : Answer) (new : Phase) (own : List Event) → After m answer (Ok new) → DidAfter s first made m own
        → IfSome (next_call m) (λ call. MayAnswer call answer → DidToEnd s first made new (own ++ answered call answer ∷ []))
    after-on law m answer new own on (inl did) = first-on m answer new own on did
    after-on law m answer new own on (inr did) = IfSome_then (next_call m) (tried-on (LosesFirst s first made) law m answer new own on did)
        (λ call came may. in-later new (own ++ answered call answer ∷ []) (came may))

    to-later : Joined → (m : Phase) (answer : Answer) (new : Phase) (own : List Event) → After m answer (Ok new) → DidToEnd s first made m own
        → IfSome (next_call m) (λ call. MayAnswer call answer → DidToEnd s first made new (own ++ answered call answer ∷ []))
    to-later law phases.Over answer new own on did = tt
    to-later law m answer new own on did = after-on law m answer new own on did

    -- a putter that refuses, of the first try: eleven tries weren't lost yet
    first-refused : first.lost ≡ [] → (m : Phase) (call : Call) (answer : Answer) (refusal : Refusal) (own : List Event) → After m answer (Err refusal)
        → DidFirst s first made m own → next_call m ≡ Some call → MayAnswer call answer → ShowsAfter s first made refusal (own ++ answered call answer ∷ [])
    first-refused none (phases.Put o t id m) call answer refusal own (inl shown) (same, is_t, is_id, did) at may =
        let (path, used) = put-met (LosesFirst s first made) first lost-for (DidAfter s first made) (put.MeetsFile (put_of s made)) m answer refusal shown in
        let shows = some-at (putters.next_call m) call _ at ((put_facts.recounts (put_of s made)).refused m puts.Over answer refusal own (shown, refl) did) may in
        as-shown (LosesFirst s first made) first lost-for (DidAfter s first made) (put.MeetsFile (put_of s made)) refusal (refusals.SessionUsed path) _ used
        (inl (subst (λ (e : Refusal). put.Shows (put_of s made) e (own ++ answered call answer ∷ [])) used shows.1))
    first-refused none (phases.Put o t id m) call answer refusal own (inr (to, goes, on)) (same, is_t, is_id, did) at may = absurd (still to on)
      where
        still : (to : put_phase.Phase) → AfterPutter o t id to (Err refusal) → ⊥
        still puts.Lost (last, contended) =
            let few : length o.lost ≡ 0 = ap (λ (o : OwnView). length o.lost) same ∙ ap length none in omega (arith, few, last)
        still to on = err-ok refusal _ on
    first-refused none (phases.Committed author id) call answer refusal own on did at may = absurd on
    first-refused none m call answer refusal own on did at may = absurd did

    after-refused : first.lost ≡ [] → Joined → (m : Phase) (call : Call) (answer : Answer) (refusal : Refusal) (own : List Event) → After m answer (Err refusal)
        → DidAfter s first made m own → next_call m ≡ Some call → MayAnswer call answer → ShowsAfter s first made refusal (own ++ answered call answer ∷ [])
    after-refused none law m call answer refusal own on (inl did) at may = first-refused none m call answer refusal own on did at may
    after-refused none law m call answer refusal own on (inr did) at may =
        refused-tried (LosesFirst s first made) first lost-for (DidAfter s first made) (put.MeetsFile (put_of s made)) law m call answer refusal own on (inr did) did at may

    so-later : (m : Phase) (own : List Event) → IsSome (next_call m) → DidToEnd s first made m own → DidAfter s first made m own
    so-later phases.Over own called did = absurd (let clash = called in cc)
    so-later m own called did = did

    pub recounts-later : first.lost ≡ [] → Joined → Recounts next_call Goes Refuses Stops (DidToEnd s first made) (ShowsAfter s first made)
    recounts-later none law = recounts_of next_call Goes Shown phases.Over (DidAfter s first made) (DidToEnd s first made) (λ m. MayTakeMemory) (ShowsAfter s first made)
        so-later (λ refusal own shows. (refusal, shows)) (λ path own failed. inr failed) (λ own ends. inr ends) (to-later law)
        (λ m answer refusal own shown did. if-is (next_call m) _
        (λ call at may. after-refused none law m call answer refusal own shown (so-later m own (subst (λ (o : Option Call). IsSome o) (sym at) refl) did) at may))
