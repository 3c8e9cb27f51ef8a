-- Which refusals a folder that stands can show a compactor, whatever others do between its calls.
use Rattle.std.proofs.Common.{◌≡◌, inl, inr, ℕ, zero, suc, ◌+◌, ◌≤◌, ℤ, pos, negsuc, int_le, int_lt, Bool, true, false, true≢false, not, if◌then◌else◌, List, [], ◌∷◌, ◌++◌, codes, length, map, take, slice_get, Contains, Option, None, Some, IsSome, IfSome, append-nil, refl, sym, ap, subst, ◌∙◌, arith}
use Rattle.std.specs.FinMap as paths
use Rattle.std.specs.List.{AllByRecursion, AllZip, FoldsTo, flat_map, fold}
use Rattle.std.proofs.lemmas.Bool.Decides.{nat_tests}
use Rattle.std.proofs.lemmas.Grind.{flat_map-append}
use Rattle.std.proofs.lemmas.List.{map-append}
use Rattle.std.proofs.lemmas.List.Sorted.{Contains-permutation, IsPermutation-sym}
use Rattle.pm_base.proofs.Laws.{AllByRecursion-append}
use Rattle.pm_store.specs.Answers.{Answers, made_at}
use Rattle.pm_store.specs.Files.{Files}
use Rattle.pm_store.specs.declared.answer.Answer.{Answer}
use Rattle.pm_store.specs.declared.answer.Answer.TheVariants as answers
use Rattle.pm_store.specs.declared.answer.Made.TheVariants as creates
use Rattle.pm_store.specs.declared.call.Call.{Call}
use Rattle.pm_store.specs.declared.call.Call.TheVariants as calls
use Rattle.pm_values.specs.declared.file_meta.FileMeta.{FileMeta}
use Rattle.pm_values.specs.declared.group.Group.{Group}
use Rattle.pm_values.specs.declared.record.Change.{Change}
use Rattle.pm_values.specs.declared.refusal.Refusal.{Refusal}
use Rattle.pm_values.specs.declared.refusal.Refusal.TheVariants as refusals
use Rattle.pm_model_history.specs.History.{Entry as EntryView, append, compaction, fence, IsTableOf}
use Rattle.pm_schema.specs.declared.schema.TableSchema.{TableSchema}
use Rattle.pm_snapshot.specs.declared.snapshot.Snapshot.{Snapshot}
use Rattle.pm_scan_rows.specs.Group.{GroupRead}
use Rattle.pm_levels.specs.Runs.{RunView, files_of}
use Rattle.pm_manifest.specs.FileId.{id_eq, id_equiv}
use Rattle.pm_manifest.specs.Live.{id_of, live_after}
use Rattle.pm_manifest.specs.declared.entry.Entry.{Entry}
use Rattle.pm_manifest.specs.declared.file_id.FileId.{FileId}
use Rattle.pm_model_contents.specs.Lists.{HasEntries, none_live}
use Rattle.pm_model_contents.specs.Runs.{AreRunsOf, IsLive}
use Rattle.pm_model_folder.specs.Changes.{Actor}
use Rattle.pm_model_folder.specs.Commits.{IsCommitted}
use Rattle.pm_model_folder.specs.Entries.{AreLive, fence_at, raised}
use Rattle.pm_model_folder.specs.Ledger.{IsKnown, Past, Stands}
use Rattle.pm_model_folder.specs.Meaning.{SnapshotAt}
use Rattle.pm_model_folder.specs.Runs.{view_of}
use Rattle.pm_model_folder.proofs.HoldLemmas.{OneContents, one-snapshot}
use Rattle.pm_model_folder.proofs.LedgerFacts.{at-table}
use Rattle.pm_runs.specs.Succession.{KnownRun, Taking}
use Rattle.pm_read_table.specs.Meaning as view_meaning
use Rattle.pm_read_table.specs.Meaning.{IsViewIn, view_origin, view_snapshot}
use Rattle.pm_read_table.specs.Reader as view_reader
use Rattle.pm_read_table.specs.View.{kept_for, live_entries}
use Rattle.pm_read_table.specs.declared.asked.Wanted.{Wanted as Sought}
use Rattle.pm_read_table.specs.declared.asked.Wanted.TheVariants as wants
use Rattle.pm_read_table.specs.declared.phase.Phase as view_phase
use Rattle.pm_read_table.specs.declared.view.View.{View}
use Rattle.pm_group_files.specs.Chosen.{Chosen}
use Rattle.pm_group_files.specs.Jobs.{Wanted}
use Rattle.pm_group_files.specs.Meaning as files_meaning
use Rattle.pm_group_files.specs.Meaning.{IsReadAs}
use Rattle.pm_group_files.specs.Reader as files_reader
use Rattle.pm_group_files.specs.Reader.{HandsOut}
use Rattle.pm_group_files.specs.declared.phase.Phase as files_phase
use Rattle.pm_group_files.proofs.Facts as files_facts
use Rattle.pm_group_files.proofs.FaultLemmas.{IsOfFiles, damaged, expired, shown_as, unsupported}
use Rattle.pm_group_files.proofs.ViewLemmas.{IsOfSnapshot}
use Rattle.pm_choice.specs.Choice.{live_entry, removed_entries, run_entries, taken_runs}
use Rattle.pm_choice.specs.declared.choice.ChosenGroup.{ChosenGroup}
use Rattle.pm_made.specs.Delta.{is_of_any}
use Rattle.pm_made.specs.Intent.{batch_of}
use Rattle.pm_made.specs.Refusals.{above_files, above_id, above_numbers, fence_of, first_not_live, is_fenced, limit_of, live_count, no_files, no_id, not_live_or, passed, refusal_of}
use Rattle.pm_made.specs.declared.intent.Intent.{Intent}
use Rattle.pm_made.specs.declared.intent.Intent.TheVariants as intents
use Rattle.pm_made.specs.declared.intent.Plan.{Plan}
use Rattle.pm_made.specs.declared.newest.Author.{Author}
use Rattle.pm_made.specs.declared.newest.Newest.{Newest}
use Rattle.pm_made.proofs.ListLemmas.{any-not, in-head, in-left, in-tail}
use Rattle.pm_write.specs.Files.{no_sequence}
use Rattle.pm_compaction.specs.Plan.{IsRewrittenAt, RewrittenGroup, goes_of}
use Rattle.pm_plan.specs.Known.{AreTakenAt, KnowsPlanned}
use Rattle.pm_plan.specs.Planned.{AllRewritten, HasTold, RewritesOf, TellsGroup}
use Rattle.pm_plan.specs.declared.planned.Planned.{Planned}
use Rattle.pm_commit.specs.Committer as commit
use Rattle.pm_commit.specs.Meaning as commit_meaning
use Rattle.pm_commit.specs.Meaning.{IsFoundIn}
use Rattle.pm_commit.specs.declared.found.Found.{Found}
use Rattle.pm_commit.specs.declared.phase.Phase as commit_phase
use Rattle.pm_commit.specs.declared.phase.Phase.TheVariants as commits
use Rattle.pm_commit.proofs.CauseLemmas.{IsNone, shown-none}
use Rattle.pm_compactor.specs.Compactor.{RefusesPlan, Shown, actor_of, next_call, wanted_in}
use Rattle.pm_compactor.specs.Meaning.{Knows, KnowsOfPlan, MayRefuse, MayRefuseNames, MayRefusePlanned, MayRefuseView, asked_for}
use Rattle.pm_compactor.specs.declared.phase.Phase.{Phase}
use Rattle.pm_compactor.specs.declared.phase.Phase.TheVariants as phases
use Rattle.pm_compactor.proofs.SoundLemmasFiles.{AreHanded, KeptHave, OneRows, OnlyMemory, PlanGrows, WholeAre, are-handed, some-untold}
use Rattle.pm_compactor.proofs.SoundLemmasView.{known-live}

-- what the laws of causes of its parts say
pub record CauseLaws : Type 0 where
  pub view : (m : view_phase.Phase) (call : Call) (answer : Answer) (refusal : Refusal) (f : Files) (p : Past) → Stands f p → view_meaning.Knows m f p
      → view_reader.next_call m ≡ Some call → Answers call answer f → view_reader.Shown m answer refusal → view_meaning.MayRefuse f p refusal
  pub files : (a : Chosen) (m : files_phase.Phase) (call : Call) (answer : Answer) (refusal : Refusal) (f : Files) (p : Past) → Stands f p → files_meaning.Knows a m f p
      → files_reader.next_call m ≡ Some call → Answers call answer f → files_reader.Shown m answer refusal → view_meaning.MayRefuse f p refusal
  pub committer : (e : EntryView) (m new : commit_phase.Phase) (call : Call) (answer : Answer) (refusal : Refusal) (f : Files) (p : Past) → Stands f p
      → commit_meaning.Knows e m f p → commit.next_call m ≡ Some call → Answers call answer f → commit.Refuses m answer refusal new
      → commit_meaning.MayRefuse m f p refusal
  pub one : OneContents
  pub live : (entries : List Entry) → AreLive (live_after none_live entries) (live_entries entries)
  pub whole : WholeAre
  pub rows : OneRows
  pub kept : KeptHave
  pub grows : PlanGrows
  pub memory : OnlyMemory

-- ---- a fence is below its own number

below-le : (n : ℕ) (z : ℤ) → int_lt z (pos n) ≡ true → int_le (pos n) z ≡ false
below-le n (pos m) less = grind (arith, nat_tests)
below-le n (negsuc m) less = refl

below-more : (z : ℤ) (k n : ℕ) → k ≤ n → int_lt z (pos k) ≡ true → int_lt z (pos n) ≡ true
below-more (pos m) k n within less = grind (arith, nat_tests)
below-more (negsuc m) k n within less = refl

raised-below : (z : ℤ) (e : EntryView) (k : ℕ) → int_lt z (pos k) ≡ true → ((x : ℤ) → e ≡ fence x → int_lt x (pos (suc k)) ≡ true)
    → int_lt (raised z e) (pos (suc k)) ≡ true
raised-below z (append user identifier rows) k less own = below-more z k (suc k) (omega arith) less
raised-below z (compaction base groups) k less own = below-more z k (suc k) (omega arith) less
raised-below z (fence number) k less own = at (int_le z number)
  where
    at : (t : Bool) → int_lt (if t then number else z) (pos (suc k)) ≡ true
    at true = own number refl
    at false = below-more z k (suc k) (omega arith) less

fold-below : (z : ℤ) (es : List EntryView) (k : ℕ) → int_lt z (pos k) ≡ true
    → ((n : ℕ) (x : ℤ) → slice_get es n ≡ Some (fence x) → int_lt x (pos (suc (k + n))) ≡ true) → int_lt (fold raised z es) (pos (k + length es)) ≡ true
fold-below z [] k less own = below-more z k (k + 0) (omega arith) less
fold-below z (e ∷ es) k less own =
    let first = raised-below z e k less (λ x is. subst (λ (n : ℕ). int_lt x (pos (suc n)) ≡ true) (let none : k + 0 ≡ k = omega arith in none)
    (own 0 x (ap (λ (e : EntryView). Some e) is))) in
    let rest = fold-below (raised z e) es (suc k) first
    (λ n x is. subst (λ (m : ℕ). int_lt x (pos (suc m)) ≡ true) (let same : k + suc n ≡ suc k + n = omega arith in same) (own (suc n) x is)) in
    below-more (fold raised (raised z e) es) (suc k + length es) (k + suc (length es)) (omega arith) rest

take-few : (k : ℕ) (es : List EntryView) → length (take k es) ≤ k
take-few zero es = omega arith
take-few (suc k) [] = omega arith
take-few (suc k) (e ∷ es) = let few = take-few k es in omega (arith, few)

take-get : (k : ℕ) (es : List EntryView) (n : ℕ) (e : EntryView) → slice_get (take k es) n ≡ Some e → slice_get es n ≡ Some e
take-get zero es n e is = absurd (let clash : None ≡ Some e = is in cc)
take-get (suc k) [] n e is = is
take-get (suc k) (x ∷ es) zero e is = is
take-get (suc k) (x ∷ es) (suc n) e is = take-get k es n e is

-- the fence after so many entries is below the next number
fence-below : (entries : List EntryView) (id : ℕ) → ((n : ℕ) (x : ℤ) → slice_get entries n ≡ Some (fence x) → int_lt x (pos (suc n)) ≡ true) → 1 ≤ id
    → int_lt (fence_at (take id entries) id) (pos id) ≡ true
fence-below entries id fences some =
    let es : List EntryView = take id (take id entries) in
    let few = take-few id (take id entries) in
    below-more (fold raised (negsuc 0) es) (0 + length es) id (omega (arith, few))
    (fold-below (negsuc 0) es 0 refl (λ n x is. subst (λ (m : ℕ). int_lt x (pos (suc m)) ≡ true) (let same : n ≡ 0 + n = omega arith in same)
    (fences n x (take-get id entries n (fence x) (take-get id (take id entries) n (fence x) is)))))

-- ---- the view of which groups were planned

-- it is that of a snapshot, with the entries of its live files
record IsFoundAt (p : Past) (v : View) : Type 0 where
  own : IsOfSnapshot p v
  is : v.snapshot ≡ Some own.snapshot
  entries : v.live.items ≡ live_entries own.es

found-at : (p : Past) (v : View) → v.wanted ≡ wants.Entries → 1 ≤ v.id → IsViewIn p v → IsFoundAt p v
found-at p v wanted some (view_origin is) = absurd (let first = is.id in omega (arith, first, some))
found-at p v wanted some (view_snapshot x base delta es live stood has left is) =
    let id : x.id ≡ v.id = sym is.id in
    record {
      own = record {
        snapshot = x;
        base = base;
        delta = delta;
        es = es;
        live = live;
        known = subst (IsKnown p) id stood.known;
        there = subst (λ k. SnapshotAt (p.stood k) k x) id stood.was;
        has = subst (λ k. HasEntries (p.stood k) v.schema x base delta es) id has;
        left = left;
        groups = is.groups;
      };
      is = is.snapshot;
      entries = is.entries ∙ ap (λ (w : Sought). live_entries (kept_for w es)) wanted;
    }

-- ---- what was planned isn't fenced, and what goes was live

module _ (laws : CauseLaws) (f : Files) (p : Past) (stands : Stands f p) (x : Planned) (done : List RewrittenGroup) (takings : List Taking)
    (me : Actor) (knows : KnowsPlanned me p x done takings) (is_found : IsFoundIn p (record { schema = x.schema; newest = x.newest })) where
  abbrev seen-view : View
  seen-view = is_found.view

  id-same : x.newest.id ≡ seen-view.id
  id-same = ap (λ (found : Found). found.newest.id) is_found.is

  schema-same : x.schema ≡ seen-view.schema
  schema-same = ap (λ (found : Found). found.schema) is_found.is

  known-id : IsKnown p seen-view.id
  known-id = subst (IsKnown p) id-same knows.known

  at-view : IsFoundAt p seen-view
  at-view = found-at p seen-view is_found.wanted known-id.after_origin is_found.stood

  of-table : IsTableOf seen-view.schema p.history
  of-table = subst (λ (s : TableSchema). IsTableOf s p.history) schema-same knows.table

  fence-low : int_lt (fence_of seen-view.snapshot) (pos seen-view.id) ≡ true
  fence-low =
      let id : ℕ = seen-view.id in
      let own = at-view.own in
      let table = at-table f p seen-view.schema stands of-table in
      let was : IsCommitted (p.stood id) seen-view.schema (take id table.0) id = table.3.committed id own.known in
      let one : was.snapshot ≡ own.snapshot = one-snapshot (p.stood id) id was.snapshot own.snapshot was.there own.there in
      let bears : fence_of seen-view.snapshot ≡ fence_at (take id table.0) id =
      ap fence_of at-view.is ∙ ap (λ (y : Snapshot). y.fence) (sym one) ∙ was.fence in
      subst (λ (z : ℤ). int_lt z (pos id) ≡ true) (sym bears) (fence-below table.0 id table.2.history.fences own.known.after_origin)

  not-fenced : is_fenced x.newest x.author ≡ false
  not-fenced =
      let newest = ap (λ (found : Found). fence_of found.newest.snapshot) is_found.is in
      ap (λ (n : ℕ). int_le (pos n) (fence_of x.newest.snapshot)) (knows.author ∙ id-same)
      ∙ ap (λ (z : ℤ). int_le (pos seen-view.id) z) newest
      ∙ below-le seen-view.id (fence_of seen-view.snapshot) fence-low

  -- ---- a file of a run at the base is live there

  abbrev IsThere : Entry → Type 0
  IsThere e = is_of_any x.newest.live.items e ≡ true

  live-there : (e : Entry) (r : Entry) → IsLive at-view.own.live e → id_of e ≡ id_of r → IsThere r
  live-there e r is_live same =
      let own = at-view.own in
      let after : live_after none_live own.es (id_of e) ≡ Some e = sym (own.left (id_of e)) ∙ is_live in
      let entries : x.newest.live.items ≡ live_entries own.es = ap (λ (found : Found). found.newest.live.items) is_found.is ∙ at-view.entries in
      let has : Contains x.newest.live.items e = subst (λ (es : List Entry). Contains es e) (sym entries) (((laws.live own.es).exact e).1 after) in
      let alike : id_eq (id_of e) (id_of r) ≡ true = subst (λ (id : FileId). id_eq (id_of e) id ≡ true) same (id_equiv.refl (id_of e)) in
      at (is_of_any x.newest.live.items r) refl has alike
    where
      at : (t : Bool) → is_of_any x.newest.live.items r ≡ t → Contains x.newest.live.items e → id_eq (id_of e) (id_of r) ≡ true → t ≡ true
      at true is has alike = refl
      at false is has alike = absurd (true≢false (sym alike ∙ any-not (λ (other : Entry). id_eq (id_of other) (id_of r)) x.newest.live.items is e has))

  file-there : (g : Group) (runs : List RunView) (m : FileMeta) → AreRunsOf at-view.own.live g runs → Contains (files_of runs) m → IsThere (live_entry x.schema g m)
  file-there g runs m are here =
      let (e, is_live, group, file) = (are.own.exact m).0 (Contains-permutation (files_of runs) are.files m (IsPermutation-sym are.files (files_of runs) are.made.whole) here) in
      live-there e (live_entry x.schema g m) is_live (λ i. record { group = group i; name = (file i).name; level = (file i).level })

  files-there : (g : Group) (ms : List FileMeta) → ((m : FileMeta) → Contains ms m → IsThere (live_entry x.schema g m)) → AllByRecursion IsThere (map (live_entry x.schema g) ms)
  files-there g [] each = tt
  files-there g (m ∷ ms) each = (each m (in-head m ms), files-there g ms (λ n here. each n (in-tail m ms n here)))

  -- so are those of the runs that were taken of a group
  taken-there : (g : Group) (taken rest : List KnownRun) → p.runs x.newest.id g ≡ taken ++ rest → AllByRecursion IsThere (run_entries x.schema g (map view_of taken))
  taken-there g taken rest was =
      let since : p.since ≤ seen-view.id = subst (λ (n : ℕ). p.since ≤ n) id-same knows.since in
      let runs : map view_of (p.runs seen-view.id g) ≡ map view_of taken ++ map view_of rest =
      ap (λ (n : ℕ). map view_of (p.runs n g)) (sym id-same) ∙ ap (λ (runs : List KnownRun). map view_of runs) was ∙ map-append view_of taken rest in
      let are : AreRunsOf at-view.own.live g (map view_of taken ++ map view_of rest) =
      subst (AreRunsOf at-view.own.live g) runs (known-live laws.one f p seen-view stands of-table since at-view.own g) in
      files-there g (files_of (map view_of taken)) (λ m here.
      file-there g (map view_of taken ++ map view_of rest) m are
      (subst (λ (ms : List FileMeta). Contains ms m) (sym (flat_map-append (λ (run : RunView). run.files) (map view_of taken) (map view_of rest)))
      (in-left (files_of (map view_of taken)) (files_of (map view_of rest)) m here)))

  made-there : (zs : List RewrittenGroup) → AllByRecursion (IsRewrittenAt me x.schema x.newest.id p) zs → AllByRecursion IsThere (flat_map (goes_of x.schema) zs)
  made-there [] made = tt
  made-there (z ∷ zs) made =
      AllByRecursion-append IsThere (goes_of x.schema z) (flat_map (goes_of x.schema) zs)
      (taken-there z.group z.taking.taken z.taking.rest (ap (λ (n : ℕ). p.runs n z.group) (sym made.0.based) ∙ made.0.took.was)) (made-there zs made.1)

  left-there : (cs : List ChosenGroup) (ts : List Taking) → AreTakenAt x.schema x.newest.id p cs ts → AllByRecursion IsThere (removed_entries x.schema cs)
  left-there [] ts taken = tt
  left-there (c ∷ cs) [] taken = absurd taken
  left-there (c ∷ cs) (t ∷ ts) taken =
      AllByRecursion-append IsThere (run_entries x.schema c.group (taken_runs c)) (removed_entries x.schema cs)
      (subst (λ (runs : List RunView). AllByRecursion IsThere (run_entries x.schema c.group runs)) taken.0.seen
      (taken-there c.group t.taken t.rest (ap (λ (n : ℕ). p.runs n c.group) (sym taken.0.based) ∙ taken.0.took.was)))
      (left-there cs ts taken.1)

  all-there : AllByRecursion IsThere x.removed.items
  all-there =
      subst (AllByRecursion IsThere) (sym knows.goes)
      (AllByRecursion-append IsThere (flat_map (goes_of x.schema) done) (removed_entries x.schema x.left.items) (made-there done knows.made)
      (left-there x.left.items takings knows.left))

  none-gone : (removed : List Entry) → AllByRecursion IsThere removed → first_not_live x.newest.live.items removed ≡ None
  none-gone [] there = refl
  none-gone (e ∷ removed) there =
      ap (λ (t : Bool). if not t then Some e else first_not_live x.newest.live.items removed) there.0 ∙ none-gone removed there.1

-- ---- only a limit is against what was made of it

-- the refusal is that of a limit
abbrev IsLimit : Refusal → Type 0
IsLimit (refusals.Limit which number) = Unit {0}
IsLimit other = ⊥

-- so it is, if there is one
abbrev IfLimit : Option Refusal → Type 0
IfLimit None = Unit {0}
IfLimit (Some refusal) = IsLimit refusal

limits : (newest : Newest) (intent : Intent) → IfLimit (limit_of newest intent)
limits newest intent =
    at (above_files (live_count (length newest.live.items) intent)) (above_numbers newest.live.items (batch_of intent)) (above_id newest.id)
  where
    at : (files numbers id : Bool) → IfLimit (if files then Some no_files else if numbers then Some no_sequence else if id then Some no_id else None)
    at true numbers id = tt
    at false true id = tt
    at false false true = tt
    at false false false = tt

only-limit : (newest : Newest) (author : Author) (plan : Plan) (refusal : Refusal) → is_fenced newest author ≡ false
    → first_not_live newest.live.items plan.removed.items ≡ None → refusal_of newest author (intents.Compact plan) ≡ Some refusal → IsLimit refusal
only-limit newest author plan refusal free none is =
    let intent : Intent = intents.Compact plan in
    let limit : refusal_of newest author intent ≡ limit_of newest intent =
    ap (λ (t : Bool). if t then Some (passed newest author) else not_live_or (first_not_live newest.live.items plan.removed.items) (limit_of newest intent)) free
    ∙ ap (λ (o : Option Entry). not_live_or o (limit_of newest intent)) none in
    subst IfLimit (sym limit ∙ is) (limits newest intent)

-- groups that are made leave the view, its author and what goes as they are
record IsSamePlan (old new : Planned) : Type 0 where
  newest : new.newest ≡ old.newest
  author : new.author ≡ old.author
  removed : new.removed ≡ old.removed

one-same : (cs : List ChosenGroup) (old new : Planned) (read : GroupRead) → RewritesOf cs old read new → IsSamePlan old new
one-same [] old new read rewrites = absurd rewrites
one-same (c ∷ cs) old new read rewrites = (let same = rewrites.put.same in record {
  newest = ap (λ (x : Planned). x.newest) same;
  author = ap (λ (x : Planned). x.author) same;
  removed = ap (λ (x : Planned). x.removed) same;
})

all-same : (groups : List GroupRead) (old new : Planned) → AllRewritten old groups new → IsSamePlan old new
all-same [] old new is = subst (IsSamePlan old) is (record { newest = refl; author = refl; removed = refl })
all-same (read ∷ groups) old new (middle, first, rest) =
    let one = one-same old.left.items old middle read first in
    let more = all-same groups middle new rest in
    record { newest = more.newest ∙ one.newest; author = more.author ∙ one.author; removed = more.removed ∙ one.removed }

-- so does what is told of them
logs-same : (logs : List (Group × List Change)) (old new : Planned) → FoldsTo TellsGroup old logs new → IsSamePlan old new
logs-same [] old new is = subst (IsSamePlan old) is (record { newest = refl; author = refl; removed = refl })
logs-same (told ∷ logs) old new (middle, tells, rest) =
    let more = logs-same logs middle new rest in record {
      newest = more.newest ∙ ap (λ (x : Planned). x.newest) tells.same;
      author = more.author ∙ ap (λ (x : Planned). x.author) tells.same;
      removed = more.removed ∙ ap (λ (x : Planned). x.removed) tells.same;
    }

told-plan : (old new : Planned) → HasTold old new → IsSamePlan old new
told-plan old new has =
    let same = logs-same old.logs.items (record old { logs = new.logs }) new has.told in
    record { newest = same.newest; author = same.author; removed = same.removed }

-- the runs of the groups that are left, as they stood at the base
abbrev AreReadLeft : Planned → Past → List GroupRead → Type 0
AreReadLeft x p groups = AllZip (IsReadAs (p.stood x.newest.id) x.schema) (wanted_in x) groups

may-limit : (x made all : Planned) (groups : List GroupRead) (f : Files) (p : Past) (refusal : Refusal) → AreReadLeft x p groups → AllRewritten x groups made
    → HasTold made all → RefusesPlan all refusal → IsLimit refusal → MayRefusePlanned x f p refusal
may-limit x made all groups f p (refusals.Limit which number) read rewritten told refuses limit = (made, all, groups, read, rewritten, told, refuses)
may-limit x made all groups f p other read rewritten told refuses limit = absurd limit

plan-caused : CauseLaws → (x made all : Planned) (done : List RewrittenGroup) (groups : List GroupRead) (f : Files) (p : Past) (refusal : Refusal) → Stands f p
    → KnowsOfPlan x done p → AreReadLeft x p groups → AllRewritten x groups made → HasTold made all → RefusesPlan all refusal → MayRefusePlanned x f p refusal
plan-caused laws x made all done groups f p refusal stands (takings, knows, is_found, none) read rewritten told (plan, is_plan, is) =
    let same = all-same groups x made rewritten in
    let later = told-plan made all told in
    let removed : plan.removed.items ≡ x.removed.items = ap (λ es. es.items) (is_plan.removed ∙ later.removed ∙ same.removed) in
    let me = actor_of x.names in
    let gone : first_not_live x.newest.live.items plan.removed.items ≡ None =
    ap (λ (es : List Entry). first_not_live x.newest.live.items es) removed
    ∙ none-gone laws f p stands x done takings me knows is_found x.removed.items (all-there laws f p stands x done takings me knows is_found) in
    let mine : refusal_of x.newest x.author (intents.Compact plan) ≡ Some refusal =
    ap (λ (n : Newest). refusal_of n x.author (intents.Compact plan)) (sym (later.newest ∙ same.newest))
    ∙ ap (λ (a : Author). refusal_of all.newest a (intents.Compact plan)) (sym (later.author ∙ same.author)) ∙ is in
    may-limit x made all groups f p refusal read rewritten told (plan, is_plan, is)
    (only-limit x.newest x.author plan refusal (not-fenced laws f p stands x done takings me knows is_found) gone mine)

-- ---- what its parts show

call-at : (one other : Call) → Some one ≡ Some other → other ≡ one
call-at one other e = cc

told-at : (one call : Call) (answer : Answer) (f : Files) → Some one ≡ Some call → Answers call answer f → Answers one answer f
told-at one call answer f at told = subst (λ (call : Call). Answers call answer f) (call-at one call at) told

forgotten : (x : Planned) (f : Files) (p : Past) (refusal : Refusal) → refusal ≡ refusals.Memory → MayRefusePlanned x f p refusal
forgotten x f p refusal is = subst (MayRefusePlanned x f p) (sym is) tt

-- the reader of the newest view asks for none that never was
of-view : (f : Files) (p : Past) (refusal : Refusal) → IsNone refusal → view_meaning.MayRefuse f p refusal → MayRefuseView f p refusal
of-view f p refusals.Memory none may = tt
of-view f p (refusals.Expired id) none may = may
of-view f p (refusals.NoSnapshot id latest) none may = absurd none
of-view f p other none may = absurd may

-- nor does that of files
files-caused : (x : Planned) (f : Files) (p : Past) (refusal : Refusal) → view_meaning.MayRefuse f p refusal → IsOfFiles refusal → MayRefusePlanned x f p refusal
files-caused x f p refusal may (expired id) = may
files-caused x f p refusal may (damaged path place) = absurd may
files-caused x f p refusal may (unsupported what text) = absurd may

of-files : (x : Planned) (f : Files) (p : Past) (m : files_phase.Phase) (answer : Answer) (refusal : Refusal) → view_meaning.MayRefuse f p refusal
    → files_reader.Shown m answer refusal → MayRefusePlanned x f p refusal
of-files x f p m answer refusal may shown = elim (shown_as m answer refusal shown) as (λ _. MayRefusePlanned x f p refusal) [
  | inl memory ↦ forgotten x f p refusal memory.0
  | inr own ↦ files-caused x f p refusal may own
]

some-at : (P : Call → Type 0) (o : Option Call) (call : Call) → o ≡ Some call → IfSome o P → P call
some-at P o call is so = subst (λ (o : Option Call). IfSome o P) is so

-- a file was there
met : (at : Option (List ℕ)) → creates.Exists ≡ made_at at → IsSome at
met None e = absurd (let clash = e in cc)
met (Some bytes) e = refl

-- the groups that are whole by the next file were read as they stood
handed-at : CauseLaws → (x : Planned) (done : List RewrittenGroup) (given : List GroupRead) → length given ≡ length done → (m to : files_phase.Phase) (call : Call) (answer : Answer)
    (groups : List GroupRead) (rest : files_phase.Phase) (f : Files) (p : Past) → Stands f p → files_meaning.Knows (asked_for x done given) m f p
    → files_reader.next_call m ≡ Some call → Answers call answer f → files_reader.Goes m answer to → HandsOut to groups rest
    → AreHanded (p.stood x.newest.id) x.schema (wanted_in x) groups (files_reader.IsReady rest)
handed-at laws x done given many m to call answer groups rest f p stands reading at told goes hands =
    let reading_to : files_meaning.Knows (asked_for x done given) to f p =
    some-at (λ call. Answers call answer f → files_meaning.Knows (asked_for x done given) to f p) (files_reader.next_call m) call at
    (files_facts.knows_next (asked_for x done given) m answer to f p goes stands reading) told in
    are-handed laws.whole x done given many f p to groups rest reading_to hands

pub causes : CauseLaws → (m : Phase) (call : Call) (answer : Answer) (refusal : Refusal) (f : Files) (p : Past) → Stands f p → Knows m f p → next_call m ≡ Some call
    → Answers call answer f → Shown m answer refusal → MayRefuse m f p refusal
causes laws (phases.View asking m) call answer refusal f p stands known at told (inl (is, v, engine, goes)) = subst (MayRefuseView f p) (sym is) tt
causes laws (phases.View asking m) call answer refusal f p stands ((left, count, (s, reads, declared, engine)), (reading, may, none)) at told (inr shown) =
    of-view f p refusal (shown-none s m answer refusal reads shown) (laws.view m call answer refusal f p stands reading at told shown)
causes laws (phases.Names x) call (answers.Listed names) refusal f p stands known at told (inl is) = subst (MayRefuseNames x f) (sym is) tt
causes laws (phases.Names x) call (answers.Listed names) refusal f p stands known at told (inr (path, finds, is)) =
    subst (MayRefuseNames x f) (sym is) (names.items, told-at (calls.List (codes "manifest")) call (answers.Listed names) f at told, finds)
causes laws (phases.Files x m) call answer refusal f p stands (is, (done, given, many, plan, reading)) at told (inl shown) =
    of-files x f p m answer refusal (laws.files (asked_for x done given) m call answer refusal f p stands reading at told shown) shown
causes laws (phases.Files x m) call answer refusal f p stands known at told (inr (to, goes, inl (is, some))) = forgotten x f p refusal is
causes laws (phases.Files x m) call answer refusal f p stands (is, (done, given, many, plan, reading)) at told (inr (to, goes, inr (inl (rest, groups, hands, fails)))) =
    let handed = handed-at laws x done given many m to call answer groups rest f p stands reading at told goes hands in
    forgotten x f p refusal
    (some-untold laws.rows laws.kept laws.grows laws.memory f p stands (actor_of x.names) groups x done plan.0 handed.first handed.later refusal is.0 plan.1 handed.parts handed.read fails)
causes laws (phases.Files x m) call answer refusal f p stands (is, (done, given, many, plan, reading)) at told
    (inr (to, goes, inr (inr (rest, groups, made, all, hands, rewritten, ready, logged, refuses)))) =
    let handed = handed-at laws x done given many m to call answer groups rest f p stands reading at told goes hands in
    let first : handed.first ≡ wanted_in x =
    sym (handed.parts ∙ ap (λ (later : List Wanted). handed.first ++ later) (handed.ended ready) ∙ append-nil handed.first) in
    plan-caused laws x made all done groups f p refusal stands plan
    (subst (λ (first : List Wanted). AllZip (IsReadAs (p.stood x.newest.id) x.schema) first groups) first handed.read) rewritten logged refuses
causes laws (phases.Create m next rest) call (answers.Made creates.Exists) refusal f p stands known at told is =
    (is, met (paths.get f next.path) (told-at (calls.Create next.path next.bytes) call (answers.Made creates.Exists) f at told))
causes laws (phases.Commit m) call answer refusal f p stands (is, (e, entry, known)) at told shown =
    laws.committer e m commits.Over call answer refusal f p stands known at told (shown, refl)
causes laws m call answer refusal f p stands known at told shown = absurd shown
