-- All calls of a compactor, one after another.
use Rattle.std.proofs.Common.{◌≡◌, inl, inr, ℕ, suc, ℤ, ◌≤◌, Bool, List, [], ◌∷◌, ◌++◌, Option, None, Some, IsSomeAnd, IfErr, Result, Ok, Err, refl, sym, ap, ◌∙◌, subst, arith}
use Rattle.std.specs.FinMap as map
use Rattle.pm_values.specs.Names.{Naming}
use Rattle.pm_values.specs.declared.refusal.Refusal.{Refusal}
use Rattle.pm_values.specs.declared.refusal.Refusal.TheVariants as refusals
use Rattle.pm_store.specs.declared.call.Op.{Op}
use Rattle.pm_store.specs.Files.{Files, after_op, files_after}
use Rattle.pm_store.specs.Images.{Extends}
use Rattle.pm_store.specs.Store.{StoreView, IsAlone, IsLater, at_first_own}
use Rattle.pm_store.proofs.ImageLaws.{Extends-trans, Extends-weaker}
use Rattle.pm_store.proofs.StepLaws.{alone_parts}
use Rattle.pm_machine.specs.Moves.{Keeps, Moves}
use Rattle.pm_machine.specs.Trace.{Event, HasTrace, Traces}
use Rattle.pm_machine.proofs.AloneLaws.{Follows, Follows-first, Follows-meanwhile, Follows-steps, Traces-first, Traces-later, Traces-same_first}
use Rattle.pm_machine.proofs.Facts.{HasTrace-acts, Traces-faulted, Traces-join, Traces-none, image_changed}
use Rattle.pm_model_history.specs.History.{Entry, GoesOn, History, IsTableOf, compaction}
use Rattle.pm_schema.specs.declared.schema.TableSchema.{TableSchema}
use Rattle.pm_snapshot.specs.Names.{snapshot_name}
use Rattle.pm_model_folder.specs.Changes.{Actor}
use Rattle.pm_model_folder.specs.Commits.{Names}
use Rattle.pm_model_folder.specs.Folder.{Folder}
use Rattle.pm_model_folder.specs.Ledger.{Advances, HasConsumersOf, HasNamedNone, IsKnown, Past, Stands, count_of}
use Rattle.pm_model_folder.proofs.LedgerFacts.{known-keep}
use Rattle.pm_model_folder.proofs.PathLemmas.{consumer-snapshot}
use Rattle.pm_model_folder.proofs.SettledLemmas.{consumers-stay, same-keeps}
use Rattle.pm_read_schema.proofs.AllCallsLemmas as schema_calls
use Rattle.pm_read_schema.proofs.StillLemmas.{stayed}
use Rattle.pm_read_table.specs.declared.phase.Phase.TheVariants as views
use Rattle.pm_made.specs.declared.newest.Author.{Author}
use Rattle.pm_plan.specs.declared.planned.Asking.{Asking}
use Rattle.pm_commit.specs.AllCalls.{LeavesFiles, NamesNone}
use Rattle.pm_commit.specs.Alone.{with_entry}
use Rattle.pm_commit.specs.Committer.{newest_of}
use Rattle.pm_commit.specs.Meaning.{path_after}
use Rattle.pm_commit.specs.declared.phase.Phase.TheVariants as commits
use Rattle.pm_commit.proofs.AddsLemmas.{adds-consumers, adds-more, adds-none}
use Rattle.pm_commit.proofs.AllCallsLemmas.{FoundPast, goes-on}
use Rattle.pm_commit.proofs.FailLemmas.{FailsLast, after-failed}
use Rattle.pm_commit.proofs.KnownLemmas.{count-bound}
use Rattle.pm_commit.proofs.PublishLemmas as publish
use Rattle.pm_commit.proofs.StillLemmas.{OthersNone}
use Rattle.pm_compactor.specs.AllCalls.{Beginning, CompactsTables, DidCompact, Ends, Has, IsCounted, LeavesFolder, MayBegin, StandsForEither, StandsFreely, asked_by, entry_of}
use Rattle.pm_compactor.specs.Alone.{AloneRefused, CompactorAlone, CompactsAlone, HasSpared, IsEither, IsPastOf, KnewAlone, KnewFiles, KnowsAlone, KnowsFiles, MakesAlone}
use Rattle.pm_compactor.specs.Compactor.{IsCompactor, actor_of, asking_of}
use Rattle.pm_compactor.specs.Trace.{AskedOf, CompactorActed, Did, Shows}
use Rattle.pm_compactor.specs.declared.all_calls.Compacted.{Compacted}
use Rattle.pm_compactor.specs.declared.all_calls.Compacted.TheVariants as compacts
use Rattle.pm_compactor.specs.declared.compactor.CompactStep.{CompactStep}
use Rattle.pm_compactor.specs.declared.phase.Phase.{Phase}
use Rattle.pm_compactor.specs.declared.phase.Phase.TheVariants as phases

-- ---- the trace

pub went_further : (a : AskedOf) (old new : Phase) (first before after : StoreView) (step : CompactStep) → HasTrace (Did a old) first before
    → CompactorActed old new before after (Ok step) → IsLater before after → HasTrace (Did a new) first after
went_further a old new first before after step trace acted later =
    let t = HasTrace-acts {did = Did a old} {before = before} trace (acted a) later in
    (t.0, t.1.0, t.2)

pub was_refused : (s : TableSchema) (asking : Asking) (old new : Phase) (first before after : StoreView) (refusal : Refusal) → HasTrace (Did (asked_by s asking) old) first before
    → CompactorActed old new before after (Err refusal) → IsLater before after → HasTrace (Ends s asking (Err refusal)) first after
was_refused s asking old new first before after refusal trace acted later =
    let t = HasTrace-acts {did = Did (asked_by s asking) old} {before = before} trace (acted (asked_by s asking)) later in
    (t.0, t.1.1, t.2)

pub was_committed : (s : TableSchema) (asking : Asking) (m : Phase) (author : Author) (id : ℕ) (first after : StoreView) → m ≡ phases.Commit (commits.Committed author id)
    → HasTrace (Did (asked_by s asking) m) first after → HasTrace (Ends s asking (Ok (compacts.Committed id))) first after
was_committed s asking m author id first after is (events, did, trace) =
    (events, (author, subst (λ (m : Phase). Did (asked_by s asking) m events) is did), trace)

pub was_nothing : (s : TableSchema) (asking : Asking) (m : Phase) (first after : StoreView) → m ≡ phases.Nothing
    → HasTrace (Did (asked_by s asking) m) first after → HasTrace (Ends s asking (Ok compacts.Nothing)) first after
was_nothing s asking m first after is (events, did, trace) = (events, subst (λ (m : Phase). Did (asked_by s asking) m events) is did, trace)

-- ---- the history, where nobody else acts

-- what the laws of changes and of actors' names say
pub record CallLaws : Type 0 where
  pub past : (me : Actor) (f after : Files) (p q : Past) → Stands f p → Advances me f p after q → Stands after q
  pub here : publish.NamesNone
  pub others : OthersNone

module _ (laws : CallLaws) (b : Beginning) where
  -- files that stand for what is known stand freely
  freely : (f : Files) (p : Past) → Stands f p → HasSpared b f p → IsPastOf b p → GoesOn b.history p.history → StandsFreely b p.history f
  freely f p stands has past on = record {
    folder = stands.folder;
    adds = has.adds;
    consumers = known-keep b.history b.files f p stands on has.consumers;
    free = λ other apart none s id path table low high names by.
        let most = count-bound f p s stands table in
        laws.here other f p s id path stands table (omega (arith, high, most)) (past.others other apart none) names by;
  }

  -- on the history with what the view chose
  chosen : (f : Files) (p : Past) (e : Entry) → Stands f p → HasSpared b f p → IsPastOf b p → p.history ≡ with_entry e b.history
      → StandsFreely b (with_entry e b.history) f
  chosen f p e stands has past more =
      subst (λ (h : History). StandsFreely b h f) more (freely f p stands has past (goes-on e b.history p.history (inr more)))

  stands-either : (f : Files) (p : Past) → Stands f p → HasSpared b f p → IsPastOf b p → IsEither b p.history → StandsForEither b f
  stands-either f p stands has past (inl same) =
      inl (subst (λ (h : History). StandsFreely b h f) same (freely f p stands has past (goes-on (compaction 0 []) b.history p.history (inl same))))
  stands-either f p stands has past (inr (v, newest, some, more)) = inr (v, newest, some, chosen f p (entry_of b.asking v) stands has past more)

  past-then : (f after : Files) (p q : Past) → Stands f p → IsPastOf b p → MakesAlone b f p after q → IsPastOf b q
  past-then f after p q stands past makes = record {
    stood = λ id known within.
        let was : IsKnown p id = record {
          after_origin = known.after_origin;
          from = subst (λ (first : ℕ). first ≤ id) makes.advances.first known.from;
          to = subst (λ (h : History). id ≤ count_of h) (sym makes.same) within;
        } in
        makes.advances.same id was ∙ past.stood id was within;
    others = λ other apart none. laws.others other (actor_of b.asking.names) f after p q stands makes.advances apart (past.others other apart none);
  }

  -- a change from files that stand for what is known
  changed : (f after : Files) (p q : Past) → Stands f p → HasSpared b f p → IsPastOf b p → MakesAlone b f p after q
      → Stands after q × HasSpared b after q × StandsForEither b after
  changed f after p q stands has past makes =
      let then = laws.past (actor_of b.asking.names) f after p q stands makes.advances in
      let has_then : HasSpared b after q = record {
        adds = adds-more (actor_of b.asking.names) (path_after b.history) b.files f after has.adds makes.adds;
        consumers = consumers-stay b.history b.files f after p q has.consumers (record {
          files = adds-consumers (actor_of b.asking.names) (path_after b.history) f after
              (λ name. consumer-snapshot name (snapshot_name (suc (count_of b.history)))) makes.adds;
          claims = makes.consumers;
        });
      } in
      (then, has_then, stands-either after q then has_then (past-then f after p q stands past makes) makes.either)

module _ (laws : CallLaws) (b : Beginning) (known : Option (List Op)) where
  pub followed : (old new : Phase) (before after : StoreView) (result : Result CompactStep Refusal) → IsAlone before after
      → CompactorAlone old new before after result → Follows (StandsForEither b) known before (KnewFiles b old)
      → Follows (StandsForEither b) known after (KnowsFiles b new result)
  followed old new before after result alone moves so = by (moves b)
    where
      by : Moves Stands (MakesAlone b) (KnewAlone b old) (KnowsAlone b new result) before after
          → Follows (StandsForEither b) known after (KnowsFiles b new result)
      by (inl (op, own, steps)) =
          Follows-steps (StandsForEither b) (KnewFiles b old) (KnowsFiles b new result) known op
          (λ ops. Keeps Stands (MakesAlone b) (KnewAlone b old) (KnowsAlone b new result) op (files_after ops)) before after so steps
          alone
          (λ ops here keeps.
          let f = files_after ops in
          let p = here.0 in
          let got = keeps p here.1 here.3 in
          let leads = got.1 in
          let then = changed laws b f (after_op op f) p leads.0 here.1 here.2 here.3.0 leads.1 in (
            (leads.0, then.0, then.1, leads.2),
            λ image left.
                let made = image_changed (MakesAlone b) op.call f p got.0 image left in
                (changed laws b f image p made.0 here.1 here.2 here.3.0 made.1).2,
          ))
      by (inr (meanwhile, stays)) =
          let same = Follows-meanwhile (StandsForEither b) (KnewFiles b old) known before after so meanwhile alone in
          let here = same.here in record {
            ops = same.ops;
            is = same.is;
            here = (here.0, here.1, here.2, stays (files_after same.ops) here.0 here.1 here.3);
            images = same.images;
          }

-- what was known of the files at the beginning, and is known before a step
abbrev pub HasFollowed : Phase → Phase → StoreView → StoreView → Type 0
HasFollowed first m before now = (b : Beginning) → IsAlone before now → LeavesFiles (KnewFiles b first) before
    → LeavesFiles (StandsForEither b) before → Follows (StandsForEither b) before.ops now (KnewFiles b m)

both-known : (b : Beginning) (m : Phase) (known : Option (List Op)) → IsSomeAnd known (λ ops. KnewFiles b m (files_after ops))
    → IsSomeAnd known (λ ops. StandsForEither b (files_after ops)) → IsSomeAnd known (λ ops. StandsForEither b (files_after ops) × KnewFiles b m (files_after ops))
both-known b m None here either = here
both-known b m (Some ops) here either = (either, here)

pub followed-none : (m : Phase) (store : StoreView) → HasFollowed m m store store
followed-none m store = λ b alone here either.
    Follows-first (StandsForEither b) (KnewFiles b m) store store.ops refl (both-known b m store.ops here either)

-- and is known after it
pub followed-on : CallLaws → (first old new : Phase) (start before after : StoreView) (result : Result CompactStep Refusal) → IsLater start before
    → IsLater before after → HasFollowed first old start before → CompactorAlone old new before after result → (b : Beginning) → IsAlone start after
    → LeavesFiles (KnewFiles b first) start → LeavesFiles (StandsForEither b) start → Follows (StandsForEither b) start.ops after (KnowsFiles b new result)
followed-on law first old new start before after result early late so moves b alone here either =
    let parts = alone_parts start before after early late alone in
    followed law b start.ops old new before after result parts.1 moves (so b parts.0 here either)

-- ---- its end

module _ (laws : CallLaws) (b : Beginning) (start after : StoreView) where
  abbrev Leaves : Result Compacted Refusal → Type 0
  Leaves result = LeavesFiles (LeavesFolder b result) after × Extends (StandsForEither b) start.ops after.ops

  at-end : (result : Result Compacted Refusal) (P : Files → Type 0) → ((f : Files) → P f → LeavesFolder b result f)
      → Follows (StandsForEither b) start.ops after P → Leaves result
  at-end result P weaker so = (
    subst (λ (known : Option (List Op)). IsSomeAnd known (λ ops. LeavesFolder b result (files_after ops))) (sym so.is) (weaker (files_after so.ops) so.here),
    subst (λ (known : Option (List Op)). Extends (StandsForEither b) start.ops known) (sym so.is) so.images,
  )

  pub left-committed : (m : Phase) (author : Author) (id : ℕ) → m ≡ phases.Commit (commits.Committed author id)
      → Follows (StandsForEither b) start.ops after (KnewFiles b m) → Leaves (Ok (compacts.Committed id))
  left-committed m author id is =
      at-end (Ok (compacts.Committed id)) (KnewFiles b m) (λ f here.
      let (p, stands, has, known) = here in
      let (past, (v, newest, some, (own, of, (history, next, bears)))) = subst (λ (m : Phase). KnewAlone b m f p) is known in
      (next, (v, newest, some, (chosen laws b f p (entry_of b.asking v) stands has past history, bears))))

  pub left-nothing : (m : Phase) → m ≡ phases.Nothing → Follows (StandsForEither b) start.ops after (KnewFiles b m) → Leaves (Ok compacts.Nothing)
  left-nothing m is =
      at-end (Ok compacts.Nothing) (KnewFiles b m) (λ f here.
      let (p, stands, has, known) = here in
      let (past, (still, view)) = subst (λ (m : Phase). KnewAlone b m f p) is known in
      (view, subst (Folder f) still.same stands.folder, still.unchanged))

  refused-leaves : (refusal : Refusal) (f : Files) (p : Past) → Stands f p → HasSpared b f p → IsPastOf b p → AloneRefused b refusal f p
      → LeavesFolder b (Err refusal) f
  refused-leaves refusals.Memory f p stands has past same = subst (Folder f) same stands.folder
  refused-leaves (refusals.StoreFault path) f p stands has past (inl same) = inl (subst (Folder f) same stands.folder)
  refused-leaves (refusals.StoreFault path) f p stands has past (inr (at, (v, newest, some, history))) =
      inr (at, (v, newest, some, chosen laws b f p (entry_of b.asking v) stands has past history))
  refused-leaves (refusals.SessionUsed path) f p stands has past (same, used) = (subst (Folder f) same stands.folder, used)
  refused-leaves (refusals.Limit which number) f p stands has past (still, gives) = (subst (Folder f) still.same stands.folder, still.unchanged, gives)
  refused-leaves other f p stands has past none = absurd none

  pub left-refused : (m : Phase) (refusal : Refusal) → Follows (StandsForEither b) start.ops after (KnowsFiles {X = CompactStep} b m (Err refusal))
      → Leaves (Err refusal)
  left-refused m refusal =
      at-end (Err refusal) (KnowsFiles {X = CompactStep} b m (Err refusal)) (λ f here. refused-leaves refusal f here.0 here.1 here.2 here.3.0 here.3.1)

-- ---- from the reading of the schema on

pub first-traced : (s : TableSchema) (asking : Asking) (m : Phase) (store : StoreView) → m ≡ phases.View asking (views.List (newest_of s))
    → HasTrace (Did (asked_by s asking) m) store store
first-traced s asking m store is =
    ([], subst (λ (m : Phase). Did (asked_by s asking) m []) (sym is) (refl, (refl, refl, tt)), Traces-none store)

-- the compactor that begins, where two numbers are one moment
pub begun-now : (s : TableSchema) (full : Bool) (user : List ℕ) (names : Naming) (now other : ℤ) (m : Phase)
    → m ≡ phases.View (asking_of full user names other) (views.List (newest_of s)) → other ≡ now
    → m ≡ phases.View (asking_of full user names now) (views.List (newest_of s))
begun-now s full user names now other m is same =
    subst (λ (moment : ℤ). m ≡ phases.View (asking_of full user names moment) (views.List (newest_of s))) same is

pub went_on : (s : TableSchema) (asking : Asking) (result : Result Compacted Refusal) (first middle after : StoreView) → HasTrace (Has s) first middle
    → HasTrace (Ends s asking result) middle after → HasTrace (DidCompact s asking result) first after
went_on s asking result first middle after (earlier, has, trace) (later, does, rest) =
    (earlier ++ later, (earlier, later, has, refl, does), Traces-join earlier later first middle after trace rest)

-- at first the compactor knows its table, and that no snapshot names a file of its actor
first-known : FoundPast → (s : TableSchema) (b : Beginning) (f : Files) → f ≡ b.files → IsCompactor (phases.View b.asking (views.List (newest_of s))) → MayBegin b
    → IsTableOf s b.history → KnewFiles b (phases.View b.asking (views.List (newest_of s))) f
first-known found s b f same is begin table_is =
    let (past, history, stands, stood, since, consumers) = found b.files b.history begin.start.0 in
    let named : (who : Actor) → NamesNone who b.history b.files → HasNamedNone who past = λ who none t id path at known names by.
    none t id path (subst (IsTableOf t) history at) known.after_origin (subst (λ (h : History). id ≤ count_of h) history known.to)
    (subst (λ (f : Files). Names f t id path) (stood id) names) by in (
      past,
      subst (λ (f : Files). Stands f past) (sym same) stands,
      record {
        adds = adds-none (actor_of b.asking.names) (path_after b.history) b.files f (λ path. ap (λ (f : Files). map.get f path) same);
        consumers = subst (λ (f : Files). HasConsumersOf b.history b.files f past) (sym same) consumers;
      },
      (
        record { stood = λ id known within. stood id; others = λ other apart none. named other none },
        (
          (is, (subst (IsTableOf s) (sym history) table_is, begin.may, named (actor_of b.asking.names) begin.start.1)),
          record { unchanged = λ path. ap (λ (f : Files). map.get f path) same; same = history },
          refl,
          tt,
        ),
      ),
    )

files-known : (P : Files → Type 0) (f : Files) (known : Option (List Op)) → ((g : Files) → g ≡ f → P g) → IsSomeAnd known (λ ops. files_after ops ≡ f)
    → IsSomeAnd known (λ ops. P (files_after ops))
files-known P f None at none = none
files-known P f (Some ops) at same = at (files_after ops) same

shows-failed : (a : AskedOf) (path : List ℕ) (own : List Event) → Shows a (refusals.StoreFault path) own → FailsLast own
shows-failed a path own (inl failed) = (failed.earlier, failed.call, failed.is)
shows-failed a path own (inr failed) = (failed.earlier, failed.call, failed.is)

-- the store failed last, and that was counted
counted : (s : TableSchema) (asking : Asking) (result : Result Compacted Refusal) (earlier later : List Event) (first middle after : StoreView)
    → Traces earlier first middle → Traces later middle after → Ends s asking result later → IfErr result (IsCounted first after)
counted s asking (Ok x) earlier later first middle after trace rest ends = tt
counted s asking (Err (refusals.StoreFault path)) earlier later first middle after trace rest ends =
    let last = after-failed earlier later (earlier ++ later) refl (shows-failed (asked_by s asking) path later ends) in
    Traces-faulted last.0 last.1 first after
    (subst (λ (events : List Event). Traces events first after) last.2 (Traces-join earlier later first middle after trace rest))
counted s asking (Err other) earlier later first middle after trace rest ends = tt

pub compacted-history : FoundPast → (s : TableSchema) (asking : Asking) (m : Phase) (result : Result Compacted Refusal) (before middle after : StoreView)
    → m ≡ phases.View asking (views.List (newest_of s)) → IsCompactor m → HasTrace (Has s) before middle → HasTrace (Ends s asking result) middle after
    → IsLater middle after → ((b : Beginning) → CompactsAlone b m middle after result) → CompactsTables s asking before after result
compacted-history found s asking m result before middle after is compactor (earlier, has, trace) (later, ends, rest) late leaves =
    by earlier has trace
  where
    by : (earlier : List Event) → Has s earlier → Traces earlier before middle → CompactsTables s asking before after result
    by [] has trace = absurd (schema_calls.ready_some s has)
    by (event ∷ events) has trace = λ alone b is_asking had begin.
        let first = at_first_own before after in
        let same : at_first_own before middle ≡ first = Traces-same_first event events later before middle after trace rest in
        let read : Traces (event ∷ events) first middle = subst (λ (first : StoreView). Traces (event ∷ events) first middle) same (Traces-first (event ∷ events) before middle trace) in
        let parts = alone_parts first middle after (Traces-later (event ∷ events) first middle read) late alone in
        let stay = stayed b.files (event ∷ events) first middle (schema_calls.ready_calls s (event ∷ events) has) read parts.0 had in
        let table_is = schema_calls.ready_at b.files b.history begin.start.0 s (event ∷ events) has stay.1 in
        let at_view : m ≡ phases.View b.asking (views.List (newest_of s)) =
        is ∙ ap (λ (asking : Asking). phases.View asking (views.List (newest_of s))) (sym is_asking) in
        let free : StandsForEither b b.files = inl (record { folder = begin.start.0; adds = λ path. inl refl; consumers = same-keeps b.files b.files (λ path. refl) b.history; free = λ other apart none. none }) in
        let knew = files-known (KnewFiles b m) b.files middle.ops (λ f same. subst (λ (m : Phase). KnewFiles b m f) (sym at_view)
        (first-known found s b f same (subst IsCompactor at_view compactor) begin table_is)) stay.0.here in
        let either = files-known (StandsForEither b) b.files middle.ops (λ f same. subst (StandsForEither b) (sym same) free) stay.0.here in
        let left = leaves b parts.1 knew either in record {
          schema = table_is;
          leaves = left.0;
          images = Extends-trans (StandsForEither b) first.ops middle.ops after.ops
              (Extends-weaker (λ f. f ≡ b.files) (StandsForEither b) first.ops middle.ops
              (λ f same. subst (StandsForEither b) (sym same) free) stay.0.images)
              left.1;
          counted = counted s asking result (event ∷ events) later first middle after read rest ends;
        }
