-- The calls of a view's reader change nothing.
use Rattle.std.proofs.Common.{◌≡◌, ℕ, List, [], ◌∷◌, ◌++◌, Option, None, Some, IsSome, sym, subst}
use Rattle.pm_base.proofs.Laws.{AllByRecursion-append, AllByRecursion-push}
use Rattle.pm_values.specs.declared.refusal.Refusal.{Refusal}
use Rattle.pm_values.specs.declared.refusal.Refusal.TheVariants as refusals
use Rattle.pm_machine.specs.Trace.{Event}
use Rattle.pm_schema.specs.declared.schema.TableSchema.{TableSchema}
use Rattle.pm_snapshot.specs.declared.snapshot.Snapshot.{Snapshot}
use Rattle.pm_manifest.specs.declared.entry.Entry.{Entry}
use Rattle.pm_manifest.specs.declared.entry.ManifestMeta.{ManifestMeta}
use Rattle.pm_model_contents.specs.Lists.{manifest_path}
use Rattle.pm_model_folder.specs.Paths.{origin_path, snapshot_folder, snapshot_path}
use Rattle.pm_read_schema.specs.Trace.{Names, listed_snapshots}
use Rattle.pm_read_schema.proofs.AllCallsLemmas.{list_still, read_still}
use Rattle.pm_read_schema.proofs.StillLemmas.{AreStill, IsStill, ended_still, failed_still}
use Rattle.pm_read_table.specs.Asked.{Asked}
use Rattle.pm_read_table.specs.Reader.{next_call}
use Rattle.pm_read_table.specs.Trace.{Did, DidSoFar, FindsBase, FindsDelta, FindsNext, Has, HasBase, HasDelta, HasPart, HasView, HaveRead, IsDamaged, IsGone, LacksFile, Lists, ListsFor, MayTakeMemory, Misreads, Reads, ReadsAgain, Shows, bad_schema, bad_snapshot, gone_again, gone_origin, gone_snapshot, is_absent, is_disordered, is_misread, is_overlap, lacks_base, lacks_delta, lacks_manifest, misreads_base, misreads_delta, misreads_manifest, of_origin, of_snapshot, read_file}
use Rattle.pm_read_table.specs.declared.asked.Wanted.{Wanted}
use Rattle.pm_read_table.specs.declared.asked.Wanted.TheVariants as wants
use Rattle.pm_read_table.specs.declared.phase.Phase.{Phase}
use Rattle.pm_read_table.specs.declared.phase.Phase.TheVariants as phases
use Rattle.pm_read_table.specs.declared.view.View.{View}
use Rattle.pm_read_table.proofs.Facts.{spares}

pub still_join : (own more : List Event) → AreStill own → AreStill more → AreStill (own ++ more)
still_join own more first then = AllByRecursion-append (λ (event : Event). IsStill event.call) own more first then

pub still_more : (earlier own : List Event) (event : Event) → own ≡ earlier ++ event ∷ [] → AreStill earlier → IsStill event.call → AreStill own
still_more earlier own event is still one = subst AreStill (sym is) (AllByRecursion-push (λ (event : Event). IsStill event.call) earlier event still one)

lists_still : (a : Asked) (id : ℕ) (own : List Event) → Lists a id own → AreStill own
lists_still a id own lists = at a.wanted lists
  where
    listed : (names : Names) → own ≡ listed_snapshots names ∷ [] → AreStill own
    listed names is = subst AreStill (sym is) (list_still snapshot_folder, tt)

    at : (w : Wanted) → ListsFor w id own → AreStill own
    at wants.Newest (names, latest, newest, asked, is) = listed names is
    at wants.Entries (names, latest, newest, asked, is) = listed names is
    at (wants.At asked_id) (names, latest, newest, asked, is) = listed names is
    at (wants.Whole asked_id) (asked, none) = subst AreStill (sym none) tt

reads_still : (a : Asked) (id : ℕ) (path : List ℕ) (found : Option (List ℕ)) (own : List Event) → Reads a id path found own → AreStill own
reads_still a id path found own (earlier, lists, is) = still_more earlier own (read_file path found) is (lists_still a id earlier lists) (read_still path)

has_still : (a : Asked) (x : Snapshot) (own : List Event) → Has a x own → AreStill own
has_still a x own (bytes, least, reads, schema, did) = reads_still a x.id (snapshot_path x.id) (Some bytes) own did

base_still : (a : Asked) (x : Snapshot) (found : Option (List ℕ)) (own : List Event) → FindsBase a x found own → AreStill own
base_still a x found own (earlier, has, is) = still_more earlier own (read_file (manifest_path x.base_list) found) is (has_still a x earlier has) (read_still (manifest_path x.base_list))

has_base_still : (a : Asked) (x : Snapshot) (base : List ManifestMeta) (own : List Event) → HasBase a x base own → AreStill own
has_base_still a x base own (bytes, list, finds) = base_still a x (Some bytes) own finds

delta_still : (a : Asked) (x : Snapshot) (base : List ManifestMeta) (found : Option (List ℕ)) (own : List Event) → FindsDelta a x base found own → AreStill own
delta_still a x base found own (earlier, has, is) = still_more earlier own (read_file (manifest_path x.delta_list) found) is (has_base_still a x base earlier has) (read_still (manifest_path x.delta_list))

has_delta_still : (a : Asked) (x : Snapshot) (base delta : List ManifestMeta) (own : List Event) → HasDelta a x base delta own → AreStill own
has_delta_still a x base delta own (bytes, list, finds) = delta_still a x base (Some bytes) own finds

pub manifests_still : (s : TableSchema) (metas : List ManifestMeta) (entries : List Entry) (own : List Event) → HaveRead s metas entries own → AreStill own
manifests_still s [] entries own (none, is) = subst AreStill (sym is) tt
manifests_still s (meta ∷ metas) entries own (bytes, first, later, events, reads, split, is, rest) =
    subst AreStill (sym is) (read_still (manifest_path meta.name), manifests_still s metas later events rest)

part_still : (a : Asked) (x : Snapshot) (done rest : List ManifestMeta) (entries : List Entry) (own : List Event) → HasPart a x done rest entries own → AreStill own
part_still a x done rest entries own part =
    subst AreStill (sym part.is) (still_join part.lists part.reads (has_delta_still a x part.base part.delta part.lists part.listed) (manifests_still a.schema done entries part.reads part.read))

next_still : (a : Asked) (x : Snapshot) (done : List ManifestMeta) (meta : ManifestMeta) (rest : List ManifestMeta) (entries : List Entry) (found : Option (List ℕ)) (own : List Event)
    → FindsNext a x done meta rest entries found own → AreStill own
next_still a x done meta rest entries found own (earlier, part, is) =
    still_more earlier own (read_file (manifest_path meta.name) found) is (part_still a x done (meta ∷ rest) entries earlier part) (read_still (manifest_path meta.name))

pub view_still : (a : Asked) (v : View) (own : List Event) → HasView a v own → AreStill own
view_still a v own (of_origin bytes view reads) = reads_still a 0 (origin_path a.schema) (Some bytes) own reads
view_still a v own (of_snapshot x metas entries live part left view) = part_still a x metas [] entries own part

lacks_still : (a : Asked) (id : ℕ) (path : List ℕ) (own : List Event) → LacksFile a id path own → AreStill own
lacks_still a id path own (lacks_base x same at finds) = base_still a x None own finds
lacks_still a id path own (lacks_delta x base same at finds) = delta_still a x base None own finds
lacks_still a id path own (lacks_manifest x done meta rest entries same at finds) = next_still a x done meta rest entries None own finds

again_still : (a : Asked) (id : ℕ) (path : List ℕ) (found : Option (List ℕ)) (own : List Event) → ReadsAgain a id path found own → AreStill own
again_still a id path found own (earlier, lacks, is) = still_more earlier own (read_file (snapshot_path id) found) is (lacks_still a id path earlier lacks) (read_still (snapshot_path id))

misreads_still : (a : Asked) (refusal : Refusal) (own : List Event) → Misreads a refusal own → AreStill own
misreads_still a refusal own (misreads_base x bytes fault finds) = base_still a x (Some bytes) own finds
misreads_still a refusal own (misreads_delta x base bytes fault finds) = delta_still a x base (Some bytes) own finds
misreads_still a refusal own (misreads_manifest x done meta rest entries bytes fault finds) = next_still a x done meta rest entries (Some bytes) own finds

so_far_still : (a : Asked) (m : Phase) (own : List Event) → IsSome (next_call m) → DidSoFar a m own → AreStill own
so_far_still a (phases.List b) own called (same, none, first) = subst AreStill (sym none) tt
so_far_still a (phases.Origin q) own called (sought, lists) = lists_still q.asked 0 own lists
so_far_still a (phases.Snapshot q id) own called (sought, least, lists) = lists_still q.asked id own lists
so_far_still a (phases.Base q x) own called (sought, has) = has_still q.asked x own has
so_far_still a (phases.Delta q x base) own called (sought, has) = has_base_still q.asked x base.items own has
so_far_still a (phases.Manifests r) own called (sought, entries, part, leaves, kept) =
    part_still r.sought.asked r.snapshot r.done (r.next ∷ r.rest) entries own part
so_far_still a (phases.Again b id path) own called (same, lacks) = lacks_still b id path own lacks
so_far_still a (phases.Ready v) own called (view, sought) = view_still a v own view
so_far_still a phases.Over own called did = absurd did

gone_still : (a : Asked) (id : ℕ) (own : List Event) → IsGone a id own → AreStill own
gone_still a id own (gone_origin first reads) = reads_still a 0 (origin_path a.schema) None own reads
gone_still a id own (gone_snapshot least reads) = reads_still a id (snapshot_path id) None own reads
gone_still a id own (gone_again path again) = again_still a id path None own again

damaged_still : (a : Asked) (path : List ℕ) (place : ℕ) (own : List Event) → IsDamaged a path place own → AreStill own
damaged_still a path place own (bad_snapshot id bytes least at first bad reads) = reads_still a id path (Some bytes) own reads
damaged_still a path place own (bad_schema x id bytes least at first is other reads) = reads_still a id (snapshot_path id) (Some bytes) own reads
damaged_still a path place own (is_absent id bytes first again) = again_still a id path (Some bytes) own again
damaged_still a path place own (is_misread misreads) = misreads_still a (refusals.Damaged path place) own misreads
damaged_still a path place own (is_disordered x done meta rest entries live bytes later i at first left is out finds) = next_still a x done meta rest entries (Some bytes) own finds
damaged_still a path place own (is_overlap x metas entries live part left overlaps) = part_still a x metas [] entries own part

pub view_shows_still : (a : Asked) (refusal : Refusal) (own : List Event) → Shows a refusal own → AreStill own
view_shows_still a refusals.Memory own ends = ended_still next_call (DidSoFar a) MayTakeMemory spares (so_far_still a) own ends
view_shows_still a (refusals.StoreFault path) own failed = failed_still next_call (DidSoFar a) MayTakeMemory spares (so_far_still a) path own failed
view_shows_still a (refusals.NoSnapshot id latest) own (names, newest, above, is) = subst AreStill (sym is) (list_still snapshot_folder, tt)
view_shows_still a (refusals.Expired id) own shows = gone_still a id own shows
view_shows_still a (refusals.Damaged path place) own shows = damaged_still a path place own shows
view_shows_still a (refusals.Unsupported what text) own shows = misreads_still a (refusals.Unsupported what text) own shows
view_shows_still a other own shows = absurd shows

-- its calls so far, by its phase
pub view_did_still : (a : Asked) (m : Phase) (own : List Event) → IsSome (next_call m) → Did a m own → AreStill own
view_did_still a phases.Over own called (refusal, shows) = view_shows_still a refusal own shows
view_did_still a m own called did = so_far_still a m own called did
