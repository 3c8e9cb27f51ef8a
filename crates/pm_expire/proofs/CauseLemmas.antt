-- What refusals of an expiry come of where nobody else acts: memory ran out, a fault of the store was counted, or a tag is there.
use Rattle.std.proofs.Common.{◌≡◌, ◌⊎◌, inl, inr, ℕ, ◌+◌, ◌≤◌, List, [], ◌∷◌, ◌++◌, length, take, Option, None, Some, IsSome, Err, refl, sym, ap, ◌∙◌, subst, arith, append_assoc}
use Rattle.std.specs.FinMap as map
use Rattle.pm_base.specs.Faults.{Rose}
use Rattle.pm_base.proofs.Laws.{AllByRecursion-append, AllByRecursion-parts}
use Rattle.pm_values.specs.declared.refusal.Refusal.{Refusal}
use Rattle.pm_values.specs.declared.refusal.Refusal.TheVariants as refusals
use Rattle.pm_store.specs.declared.answer.Answer.{Answer}
use Rattle.pm_store.specs.declared.answer.Answer.TheVariants as answers
use Rattle.pm_store.specs.declared.call.Call.{Call}
use Rattle.pm_store.specs.Files.{Files}
use Rattle.pm_store.specs.Store.{StoreView, IsAlone}
use Rattle.pm_machine.specs.Trace.{Ended, Event, Traces, faulted}
use Rattle.pm_machine.proofs.AloneLaws.{Traces-later}
use Rattle.pm_create.specs.Making.{LeavesFiles}
use Rattle.pm_model_history.specs.History.{Entry, History, IsTableOf, no_table, table}
use Rattle.pm_schema.specs.declared.schema.TableSchema.{TableSchema}
use Rattle.pm_snapshot.specs.Names.{greatest}
use Rattle.pm_model_folder.specs.Changes.{HavePlainNames}
use Rattle.pm_model_folder.specs.Commits.{IsCommitted}
use Rattle.pm_model_folder.specs.Folder.{Folder, HasTable}
use Rattle.pm_model_folder.specs.Ledger.{count_of}
use Rattle.pm_model_folder.specs.Paths.{snapshot_path}
use Rattle.pm_model_folder.proofs.Facts.{snapshot-committed}
use Rattle.pm_remove.specs.Trace as removing
use Rattle.pm_expire_paths.specs.Dropping.{DroppingView}
use Rattle.pm_read_schema.specs.AllCalls.{HasFiles}
use Rattle.pm_read_schema.specs.Trace as schema_reader
use Rattle.pm_read_schema.specs.declared.phase.Phase.TheVariants as schema_phases
use Rattle.pm_read_schema.proofs.AllCallsLemmas as schema_calls
use Rattle.pm_read_schema.proofs.Facts.{cause_at}
use Rattle.pm_read_schema.proofs.StillLemmas.{AreTold, IsTold}
use Rattle.pm_read_latest.specs.AllCalls.{IsCaused}
use Rattle.pm_read_log.specs.Log.{LogAskedView}
use Rattle.pm_read_log.specs.LogTrace as log
use Rattle.pm_read_table.specs.declared.view.View.{View}
use Rattle.pm_read_whole.specs.Trace as whole
use Rattle.pm_read_whole.specs.Trace.{Follows, read_first}
use Rattle.pm_snapshots.specs.Trace as snapshots
use Rattle.pm_snapshots.proofs.AllCallsLemmas as snapshots_calls
use Rattle.pm_consumers.specs.Trace as consumers
use Rattle.pm_consumers.proofs.AllCallsLemmas as consumers_calls
use Rattle.pm_read_expiry.specs.Found.{IsAsking}
use Rattle.pm_read_expiry.specs.Reader.{floors_call}
use Rattle.pm_read_expiry.specs.Trace as reading
use Rattle.pm_read_expiry.specs.Trace.{HasFloors, listed_floors}
use Rattle.pm_read_expiry.specs.declared.asking.Asking.{Asking}
use Rattle.pm_read_expiry.specs.declared.asking.Found.{Found}
use Rattle.pm_announce.specs.Announcer.{tags_call}
use Rattle.pm_announce.specs.Tags.{unbuilt_tag}
use Rattle.pm_announce.specs.Trace as announcing
use Rattle.pm_announce.specs.declared.phase.Announced.{Announced}
use Rattle.pm_expire.specs.AllCalls.{DidExpire, IsImageOf, IsRefusedFor, StopsAtTag, announced}
use Rattle.pm_expire.specs.Trace.{HasAll, HasAnnounced, HasFound, HasViews, Shows, asked_at}
use Rattle.pm_expire.proofs.AllCallsLemmas.{Facts, Laws, begun, ends_of, floored, g_folder, listed_then, reading_still, readied, snapshots_same, table_at, viewed_so}
use Rattle.pm_expire.proofs.AnnounceAloneLemmas.{IsRun, parted, run_of, still_run}
use Rattle.pm_expire.proofs.ChainLemmas.{at_snapshot, snapshot_at}
use Rattle.pm_expire.proofs.ViewCauseLemmas.{IsOfStore, ReadLaws, whole_of_store}
use Rattle.pm_expire.proofs.ViewStillLemmas.{whole_shows_still}

-- ---- a call in which the store failed

abbrev HasFault : List Event → Type 0
HasFault [] = ⊥
HasFault (event ∷ own) = (event.answer ≡ None) ⊎ HasFault own

fault_left : (own more : List Event) → HasFault own → HasFault (own ++ more)
fault_left [] more has = absurd has
fault_left (event ∷ own) more (inl none) = inl none
fault_left (event ∷ own) more (inr has) = inr (fault_left own more has)

fault_right : (own more : List Event) → HasFault more → HasFault (own ++ more)
fault_right [] more has = has
fault_right (event ∷ own) more has = inr (fault_right own more has)

fault_parts : (own more : List Event) → HasFault (own ++ more) → HasFault own ⊎ HasFault more
fault_parts [] more has = inr has
fault_parts (event ∷ own) more (inl none) = inl (inl none)
fault_parts (event ∷ own) more (inr has) = elim (fault_parts own more has) as (λ _. HasFault (event ∷ own) ⊎ HasFault more) [
  | inl one ↦ inl (inr one)
  | inr other ↦ inr other
]

fault_last : (earlier : List Event) (call : Call) (own : List Event) → own ≡ earlier ++ faulted call ∷ [] → HasFault own
fault_last earlier call own is = subst HasFault (sym is) (fault_right earlier (faulted call ∷ []) (inl refl))

-- it was counted
fault_rose : (own : List Event) (before after : StoreView) → HasFault own → Traces own before after → Rose before.faults after.faults
fault_rose [] before after has trace = absurd has
fault_rose (event ∷ own) before after (inl none) (middle, ended, early, rest) =
    let part : Ended event.call None before middle = subst (λ (answer : Option Answer). Ended event.call answer before middle) none ended in
    let rose = part.1 in
    let high = (Traces-later own middle after rest).faults in
    omega (arith, rose, high)
fault_rose (event ∷ own) before after (inr has) (middle, ended, early, rest) =
    let rose = fault_rose own middle after has rest in
    let low = early.faults in
    omega (arith, rose, low)

schema_fault : (path : List ℕ) (own : List Event) → schema_reader.Shows (refusals.StoreFault path) own → HasFault own
schema_fault path own failed = fault_last failed.earlier failed.call own failed.is

snapshots_fault : (path : List ℕ) (own : List Event) → snapshots.Shows (refusals.StoreFault path) own → HasFault own
snapshots_fault path own (inl shows) = schema_fault path own shows
snapshots_fault path own (inr failed) = fault_last failed.earlier failed.call own failed.is

consumers_fault : (path : List ℕ) (own : List Event) → consumers.Shows (refusals.StoreFault path) own → HasFault own
consumers_fault path own failed = fault_last failed.earlier failed.call own failed.is

floors_fault : (a : Asking) (ids : List ℕ) (floors : List (List ℕ)) (P : List Event → Type 0) (own : List Event) → (l : HasFloors a ids floors P own)
    → HasFault l.rest → HasFault own
floors_fault a ids floors P own l has = subst HasFault (sym l.is) (fault_right l.first (listed_floors l.names ∷ l.rest) (inr has))

times_fault : (a : Asking) (path : List ℕ) (own : List Event) → reading.ShowsOfTimes a (refusals.StoreFault path) own → HasFault own
times_fault a path own (ids, floors, next, t) =
    let l = t.listed in
    subst HasFault (sym t.is)
    (elim (fault_parts l.first t.reads (snapshots_fault path (l.first ++ t.reads) t.then_reads)) as (λ _. HasFault (t.before ++ t.reads)) [
      | inl first ↦ fault_left t.before t.reads (subst HasFault (sym l.is) (fault_left l.first (listed_floors l.names ∷ l.rest) first))
      | inr reads ↦ fault_right t.before t.reads reads
    ])

reading_fault : (a : Asking) (path : List ℕ) (own : List Event) → reading.Shows a (refusals.StoreFault path) own → HasFault own
reading_fault a path own (inl shows) = snapshots_fault path own shows
reading_fault a path own (inr (inl (ids, earlier, has, at, is))) = fault_last earlier floors_call own is
reading_fault a path own (inr (inr (inl (ids, floors, l)))) =
    floors_fault a ids floors (consumers.Shows (refusals.StoreFault path)) own l (consumers_fault path l.rest l.then_consumers)
reading_fault a path own (inr (inr (inr shows))) = times_fault a path own shows

announcer_fault : (x : Found) (path : List ℕ) (own : List Event) → announcing.Shows x (refusals.StoreFault path) own → HasFault own
announcer_fault x path own (inl (at, is)) = subst HasFault (sym is) (inl refl)
announcer_fault x path own (inr (inr (end, earlier, to_list, at, is))) = fault_last earlier tags_call own is
announcer_fault x path own (inr (inl has)) = subst HasFault (sym has.is) (inr (consumers_fault path has.rest has.then_consumers))

log_fault : (a : LogAskedView) (bytes : List ℕ) (later own : List Event) (path : List ℕ) → own ≡ read_first a bytes ∷ later → log.Shows a (refusals.StoreFault path) own
    → HasFault later
log_fault a bytes later own path is failed = by (subst HasFault is (fault_last failed.earlier failed.call own failed.is))
  where
    by : HasFault (read_first a bytes ∷ later) → HasFault later
    by (inl none) = absurd (let clash : Some (answers.Found (Some bytes)) ≡ None = none in cc)
    by (inr has) = has

follows_fault : (a : LogAskedView) (v : View) (path : List ℕ) (own : List Event) → Follows a v (log.Shows a (refusals.StoreFault path)) own → HasFault own
follows_fault a v path own follows =
    subst HasFault (sym follows.is)
    (fault_right (read_first a follows.bytes ∷ follows.rest) follows.later
    (log_fault a follows.bytes follows.later (read_first a follows.bytes ∷ follows.later) path refl follows.logged))

whole_fault : (a : LogAskedView) (path : List ℕ) (own : List Event) → whole.Shows a (refusals.StoreFault path) own → HasFault own
whole_fault a path own (inl failed) = fault_last failed.earlier failed.call own failed.is
whole_fault a path own (inr (v, follows)) = follows_fault a v path own follows

remover_fault : (paths : List (List ℕ)) (path : List ℕ) (own : List Event) → removing.Shows paths (refusals.StoreFault path) own → HasFault own
remover_fault paths path own failed = fault_last failed.earlier failed.call own failed.is

-- where a part of an expiry failed it failed
found_fault : (a : Asking) (x : Found) (P : List Event → Type 0) (own : List Event) → ((rest : List Event) → P rest → HasFault rest) → HasFound a x P own → HasFault own
found_fault a x P own fails has = subst HasFault (sym has.is) (fault_right has.reads has.rest (fails has.rest has.then_rest))

announced_fault : (n : Announced) (P : List Event → Type 0) (own : List Event) → ((rest : List Event) → P rest → HasFault rest) → HasAnnounced n P own → HasFault own
announced_fault n P own fails has = subst HasFault (sym has.is) (fault_right has.announces has.rest (fails has.rest has.then_rest))

views_fault : (n : Announced) (id : ℕ) (d : DroppingView) (P : List Event → Type 0) (own : List Event) → ((rest : List Event) → P rest → HasFault rest) → HasViews n id d P own
    → HasFault own
views_fault n id d P own fails has = subst HasFault (sym has.is) (fault_right has.views has.rest (fails has.rest has.then_rest))

other_memory : (path : List ℕ) → refusals.StoreFault path ≡ refusals.Memory → ⊥
other_memory path same = cc

shows_fault : (a : Asking) (path : List ℕ) (own : List Event) → Shows a (refusals.StoreFault path) own → HasFault own
shows_fault a path own (inl shows) = reading_fault a path own shows
shows_fault a path own (inr (inl (x, has))) =
    found_fault a x (announcing.Shows x (refusals.StoreFault path)) own (λ rest shows. announcer_fault x path rest shows) has
shows_fault a path own (inr (inr (inl (v, within, has)))) =
    let n = v.announced in
    let P : List Event → Type 0 = whole.Shows (asked_at n v.id) (refusals.StoreFault path) in
    found_fault a n.found (HasAnnounced n (HasViews n v.id v.dropping P)) own
    (λ rest announced. announced_fault n (HasViews n v.id v.dropping P) rest
    (λ rest views. views_fault n v.id v.dropping P rest (λ rest shows. whole_fault (asked_at n v.id) path rest shows) views) announced) has
shows_fault a path own (inr (inr (inr (inl (n, has))))) =
    let P : List (List ℕ) → List Event → Type 0 = λ paths. removing.Shows paths (refusals.StoreFault path) in
    found_fault a n.found (HasAnnounced n (HasAll n P)) own
    (λ rest announced. announced_fault n (HasAll n P) rest
    (λ rest all. views_fault n (n.end + 1) all.0 (P all.1) rest (λ rest shows. remover_fault all.1 path rest shows) all.3) announced) has
shows_fault a path own (inr (inr (inr (inr (memory, ends))))) = absurd (other_memory path memory)

-- ---- what is told of files that stand shows no other refusal

of_caused : (first after : StoreView) (refusal : Refusal) → IsCaused first after refusal → IsOfStore refusal
of_caused first after refusals.Memory cause = tt
of_caused first after (refusals.StoreFault path) cause = tt
of_caused first after other cause = absurd cause

table_not : (s : TableSchema) (h : History) → IsTableOf s h → h ≡ no_table → ⊥
table_not s h is none = subst (IsTableOf s) none is

module _ (f : Files) (h : History) (folder : Folder f h) (s : TableSchema) (is : IsTableOf s h) where
  schema_of_store : (refusal : Refusal) (own : List Event) → schema_reader.Shows refusal own → AreTold f own → IsOfStore refusal
  schema_of_store refusals.Memory own shows told = tt
  schema_of_store (refusals.StoreFault path) own shows told = tt
  schema_of_store refusals.NoTable own (names, none, at) told =
      absurd (table_not s h is (cause_at schema_phases.Schemas (answers.Listed names) refusals.NoTable f h folder tt (refl, none) (subst (AreTold f) at told).0))
  schema_of_store (refusals.Damaged path place) own (inl (id, at, zero, did)) told = absurd (schema_calls.absent_at f h folder id own did told)
  schema_of_store (refusals.Damaged path place) own (inr misreads) told = absurd (schema_calls.misreads_at f h folder (refusals.Damaged path place) own misreads told)
  schema_of_store (refusals.Unsupported what text) own (inl (what_is, text_is, lacks)) told = absurd (schema_calls.lacks_at f h folder own lacks told)
  schema_of_store (refusals.Unsupported what text) own (inr misreads) told =
      absurd (schema_calls.misreads_at f h folder (refusals.Unsupported what text) own misreads told)
  schema_of_store (refusals.Limit which number) own misreads told = absurd (schema_calls.misreads_at f h folder (refusals.Limit which number) own misreads told)
  schema_of_store (refusals.SchemaRule rule) own misreads told = absurd (schema_calls.misreads_at f h folder (refusals.SchemaRule rule) own misreads told)
  schema_of_store other own shows told = absurd shows

  lister_of_store : (refusal : Refusal) (own : List Event) → snapshots.ShowsOwn refusal own → AreTold f own → IsOfStore refusal
  lister_of_store refusals.Memory own shows told = tt
  lister_of_store (refusals.StoreFault path) own shows told = tt
  lister_of_store (refusals.Expired id) own (r, meets) told = absurd (snapshots_calls.absent_at f h folder r id own meets told)
  lister_of_store (refusals.Damaged path place) own (r, id, bytes, at, zero, bad, meets) told =
      absurd (snapshots_calls.damaged_at f h folder r id bytes own bad meets told)
  lister_of_store other own shows told = absurd shows

  snapshots_of_store : (refusal : Refusal) (own : List Event) → snapshots.Shows refusal own → AreTold f own → IsOfStore refusal
  snapshots_of_store refusal own (inl shows) told = schema_of_store refusal own shows told
  snapshots_of_store refusal own (inr shows) told = lister_of_store refusal own shows told

  consumers_of_store : (first after : StoreView) (refusal : Refusal) (own : List Event) → consumers.Shows refusal own → AreTold f own → Traces own first after
      → IsOfStore refusal
  consumers_of_store first after refusal own shows told trace = of_caused first after refusal (consumers_calls.caused f h folder first after refusal own shows told trace)

  floors_of_store : (a : Asking) (refusal : Refusal) (own : List Event) → reading.ShowsOfFloors a refusal own → IsOfStore refusal
  floors_of_store a refusals.Memory own shows = tt
  floors_of_store a (refusals.StoreFault path) own shows = tt
  floors_of_store a other own shows = absurd shows

  parts : (own more : List Event) → AreTold f (own ++ more) → AreTold f own × AreTold f more
  parts own more told = AllByRecursion-parts (IsTold f) own more told

  reading_of_store : (a : Asking) (refusal : Refusal) (own : List Event) (before after : StoreView) → reading.Shows a refusal own → IsRun own before after
      → AreTold f own → IsOfStore refusal
  reading_of_store a refusal own before after (inl shows) run told = snapshots_of_store refusal own shows told
  reading_of_store a refusal own before after (inr (inl shows)) run told = floors_of_store a refusal own shows
  reading_of_store a refusal own before after (inr (inr (inl (ids, floors, l)))) run told =
      let listed = listed_floors l.names in
      let split : own ≡ (l.first ++ listed ∷ []) ++ l.rest = l.is ∙ sym (append_assoc l.first (listed ∷ []) l.rest) in
      let p = parted (l.first ++ listed ∷ []) l.rest before after (run_of own ((l.first ++ listed ∷ []) ++ l.rest) before after split run) in
      consumers_of_store p.middle after refusal l.rest l.then_consumers (parts (l.first ++ listed ∷ []) l.rest (subst (AreTold f) split told)).1 p.rest.trace
  reading_of_store a refusal own before after (inr (inr (inr (ids, floors, next, t)))) run told =
      let l = t.listed in
      let both = parts t.before t.reads (subst (AreTold f) t.is told) in
      let first = (parts l.first (listed_floors l.names ∷ l.rest) (subst (AreTold f) l.is both.0)).0 in
      snapshots_of_store refusal (l.first ++ t.reads) t.then_reads (AllByRecursion-append (IsTold f) l.first t.reads first both.1)

remover_of_store : (paths : List (List ℕ)) (refusal : Refusal) (own : List Event) → removing.Shows paths refusal own → IsOfStore refusal
remover_of_store paths refusals.Memory own shows = tt
remover_of_store paths (refusals.StoreFault path) own shows = tt
remover_of_store paths other own shows = absurd shows

floor_of_store : (x : Found) (refusal : Refusal) (own : List Event) → announcing.ShowsOfFloor x refusal own → IsOfStore refusal
floor_of_store x refusals.Memory own shows = tt
floor_of_store x (refusals.StoreFault path) own shows = tt
floor_of_store x other own shows = absurd shows

-- each snapshot from one that is there on is there, with its files
between_there : (f : Files) (s : TableSchema) (entries : List Entry) → HasTable f s entries → (first id : ℕ) → 1 ≤ first → first ≤ id → id ≤ length entries
    → IsSome (map.get f (snapshot_path first)) → IsCommitted f s (take id entries) id
between_there f s entries folder first id after from to there =
    let has = folder.snapshots in
    let most = has.within in
    let low = ((has.exact first (omega (arith, from, to, most))).0 (snapshot_at f s first after there)).0 in
    let within : id ≤ greatest = omega (arith, to, most) in
    let here = (has.exact id within).1 (omega (arith, low, from), to) in
    snapshot-committed f s entries id folder (omega (arith, after, from)) within (at_snapshot f s id (omega (arith, after, from)) here)

-- a tag is there, and so is the floor
abbrev HasStopped : Asking → Files → Refusal → StoreView → Type 0
HasStopped a f refusal after = (name : List ℕ) × (refusal ≡ unbuilt_tag name) × LeavesFiles (StopsAtTag a f name) after

module _ (laws : Laws) (reads : ReadLaws) (a : Asking) (f : Files) (h : History) (asking : IsAsking a) (plain : HavePlainNames a.schema) (folder : Folder f h) where
  -- a view of a snapshot that is kept or goes, read once the floor is there
  view_of_table : (n : Announced) (facts : Facts laws a f h asking plain folder n.found) (id : ℕ) (refusal : Refusal) (own : List Event) → n.found.first ≤ id
      → id ≤ n.found.end → whole.Shows (asked_at n id) refusal own → AreTold (announced f n.found.end) own → (k : History) → k ≡ h → Folder (announced f n.found.end) k
      → IsTableOf a.schema k → IsOfStore refusal
  view_of_table n facts id refusal own from to shows told no_table same stands of = absurd of
  view_of_table n facts id refusal own from to shows told (table t entries) same stands of =
      let G : Files = announced f n.found.end in
      let schema : t ≡ n.found.schema = of ∙ sym facts.schema in
      let least = facts.go.is_first.after_origin in
      let was = at_snapshot f a.schema n.found.first least facts.go.is_first.there in
      let there : IsSome (map.get G (snapshot_path n.found.first)) =
      subst (λ (o : Option (List ℕ)). IsSome o) (sym (snapshots_same laws a f h asking plain folder n.found facts n.found.first)) was in
      let top = facts.within in
      let count : length entries ≡ count_of h = ap count_of same in
      let committed = between_there G t entries stands n.found.first id least from (omega (arith, to, top, count)) there in
      whole_of_store reads G n.found.schema (take id entries) id (omega (arith, least, from))
      (subst (λ (s : TableSchema). IsCommitted G s (take id entries) id) schema committed) refusal own shows told

  tags_of_store : (x : Found) (facts : Facts laws a f h asking plain folder x) (refusal : Refusal) (own : List Event) (before after : StoreView)
      → announcing.ShowsOfTags x refusal own → IsRun own before after → HasFiles f before → IsOfStore refusal ⊎ HasStopped a f refusal after
  tags_of_store x facts refusals.Memory own before after shows run here = inl tt
  tags_of_store x facts (refusals.StoreFault path) own before after shows run here = inl tt
  tags_of_store x facts (refusals.Unsupported what text) own before after (what_is, (end, l)) run here =
      let so = listed_then laws a f h asking plain folder x facts end (Some text) own before after l run here in
      inr (
        text,
        ap (λ (what : List ℕ). refusals.Unsupported what text) what_is,
        (ends_of (IsImageOf a f) (StopsAtTag a f text) (announced f x.end) before after
            (record { first = x.first; end = x.end; to_go = facts.go; tagged = so.1; same = λ path. refl }) so.2).leaves,
      )
  tags_of_store x facts other own before after shows run here = absurd shows

  of_store : (refusal : Refusal) (own : List Event) (before after : StoreView) → Shows a refusal own → IsRun own before after → HasFiles f before → IsTableOf a.schema h
      → IsOfStore refusal ⊎ HasStopped a f refusal after
  of_store refusal own before after (inl shows) run here is =
      inl (reading_of_store f h folder a.schema is a refusal own before after shows run (still_run f own before after (reading_still a refusal own shows) run here).1)
  of_store refusal own before after (inr (inl (x, has))) run here is =
      let b = begun laws a f h asking plain folder x (announcing.Shows x refusal) own before after has run here in
      by b.facts b.rest b.middle b.then_rest b.run b.files.has
    where
      by : (facts : Facts laws a f h asking plain folder x) (rest : List Event) (middle : StoreView) → announcing.Shows x refusal rest → IsRun rest middle after
          → HasFiles f middle → IsOfStore refusal ⊎ HasStopped a f refusal after
      by facts rest middle (inl shows) run here = inl (floor_of_store x refusal rest shows)
      by facts rest middle (inr (inr shows)) run here = tags_of_store x facts refusal rest middle after shows run here
      by facts rest middle (inr (inl has)) run here =
          let g : Files = announced f x.end in
          let fl = floored laws a f h asking plain folder x facts (consumers.Shows refusal) rest middle after has run here in
          let told = (still_run g fl.rest fl.middle after (consumers_calls.shows_calls refusal fl.rest fl.then_rest) fl.run fl.files.has).1 in
          inl (consumers_of_store g h (g_folder laws a f h asking plain folder x facts) a.schema is fl.middle after refusal fl.rest fl.then_rest told fl.run.trace)
  of_store refusal own before after (inr (inr (inl (v, within, has)))) run here is =
      let n : Announced = v.announced in
      let P : List Event → Type 0 = whole.Shows (asked_at n v.id) refusal in
      let b = begun laws a f h asking plain folder n.found (HasAnnounced n (HasViews n v.id v.dropping P)) own before after has run here in
      let r = readied laws a f h asking plain folder n b.facts (HasViews n v.id v.dropping P) b.rest b.middle after b.then_rest b.run b.files.has in
      let w = viewed_so laws a f h asking plain folder n b.facts v.id v.dropping P r.rest r.middle after r.then_rest r.run r.files.has in
      let G : Files = announced f n.found.end in
      let told = (still_run G w.rest w.middle after (whole_shows_still (asked_at n v.id) refusal w.rest w.then_rest) w.run w.files.has).1 in
      let count = r.then_rest.count in
      let end = r.end in
      inl (view_of_table n b.facts v.id refusal w.rest (omega (arith, count)) (omega (arith, within, end)) w.then_rest told h refl
      (g_folder laws a f h asking plain folder n.found b.facts) is)
  of_store refusal own before after (inr (inr (inr (inl (n, has))))) run here is =
      let all = has.then_rest.then_rest in
      inl (remover_of_store all.1 refusal all.3.rest all.3.then_rest)
  of_store refusal own before after (inr (inr (inr (inr (memory, ends))))) run here is = inl (subst IsOfStore (sym memory) tt)

caused : (a : Asking) (f : Files) (refusal : Refusal) (own : List Event) (before after : StoreView) → IsOfStore refusal ⊎ HasStopped a f refusal after → Shows a refusal own
    → Traces own before after → IsRefusedFor a f before after refusal
caused a f refusal own before after (inr (name, is, stops)) shows trace = subst (IsRefusedFor a f before after) (sym is) (refl, stops)
caused a f refusals.Memory own before after (inl of) shows trace = tt
caused a f (refusals.StoreFault path) own before after (inl of) shows trace = fault_rose own before after (shows_fault a path own shows) trace
caused a f other own before after (inl of) shows trace = absurd of

pub causes : Laws → ReadLaws → (a : Asking) (refusal : Refusal) (own : List Event) (before after : StoreView) (f : Files) (h : History) → IsAsking a
    → HavePlainNames a.schema → DidExpire a (Err refusal) own → Traces own before after → IsAlone before after → HasFiles f before → Folder f h
    → IsRefusedFor a f before after refusal
causes laws reads a refusal own before after f h asking plain (from, shows) trace alone here folder =
    let run : IsRun own before after = record { trace = trace; alone = alone } in
    let is = table_at laws a f h asking plain folder own before after from run here in
    caused a f refusal own before after (of_store laws reads a f h asking plain folder refusal own before after shows run here is) shows trace
