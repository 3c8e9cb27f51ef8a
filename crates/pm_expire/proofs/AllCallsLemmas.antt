-- All calls of an expiry where nobody else acts: what each part leaves of the files, and what its images have.
use Rattle.std.proofs.Common.{◌≡◌, inl, inr, ℕ, ◌+◌, ◌<◌, ◌≤◌, List, [], ◌∷◌, ◌++◌, Option, None, Some, IsSomeAnd, Result, Ok, Err, refl, sym, ap, ◌∙◌, subst, arith}
use Rattle.std.specs.FinMap as map
use Rattle.pm_values.specs.declared.refusal.Refusal.{Refusal}
use Rattle.pm_values.specs.declared.refusal.Refusal.TheVariants as refusals
use Rattle.pm_store.specs.declared.call.Op.{Op}
use Rattle.pm_store.specs.Files.{Files, IsListing, files_after}
use Rattle.pm_store.specs.Images.{Extends}
use Rattle.pm_store.specs.Store.{StoreView, IsAlone}
use Rattle.pm_store.proofs.ImageLaws.{Extends-trans, Extends-weaker}
use Rattle.pm_machine.specs.Trace.{Event, Traces, faulted}
use Rattle.pm_model_history.specs.History.{Entry, History, IsTableOf, no_table, table}
use Rattle.pm_schema.specs.declared.schema.TableSchema.{TableSchema}
use Rattle.pm_snapshot.specs.Names.{greatest, snapshot_name}
use Rattle.pm_model_contents.specs.Lists.{manifest_path}
use Rattle.pm_model_folder.specs.Changes.{HavePlainNames}
use Rattle.pm_model_folder.specs.Folder.{Folder, HaveFiles}
use Rattle.pm_model_folder.specs.Ledger.{count_of}
use Rattle.pm_model_folder.specs.Paths.{floor_folder, floor_path, snapshot_path}
use Rattle.pm_model_folder.proofs.BesideLemmas.{floor-snapshot}
use Rattle.pm_model_folder.proofs.HoldLemmas.{OneContents}
use Rattle.pm_model_folder.proofs.PathLemmas.{apart}
use Rattle.pm_model_expiry.specs.Removals.{removals}
use Rattle.pm_remove.specs.Meaning.{HasLost, IsWithout, LosesAll, LosesSome}
use Rattle.pm_remove.specs.Trace as removing
use Rattle.pm_remove.specs.declared.phase.Phase as remove_phase
use Rattle.pm_remove.specs.declared.phase.Phase.TheVariants as removers
use Rattle.pm_expire_paths.specs.Dropping.{DroppingView}
use Rattle.pm_read_schema.specs.AllCalls.{HasFiles}
use Rattle.pm_read_schema.proofs.AllCallsLemmas as schema_calls
use Rattle.pm_read_schema.proofs.AllCallsLemmas.{list_still}
use Rattle.pm_read_schema.proofs.StillLemmas.{AreStill, IsStill}
use Rattle.pm_snapshots.specs.AllCalls.{GoesOnFrom}
use Rattle.pm_snapshots.specs.Reading.{reading_of}
use Rattle.pm_snapshots.specs.Trace as snapshots
use Rattle.pm_snapshots.proofs.AllCallsLemmas as snapshots_calls
use Rattle.pm_consumer_files.specs.declared.lines.NamedConsumer.{NamedConsumer}
use Rattle.pm_consumers.specs.AllCalls.{AreConsumersOf}
use Rattle.pm_consumers.specs.Trace as consumers
use Rattle.pm_consumers.proofs.AllCallsLemmas as consumers_calls
use Rattle.pm_read_whole.specs.Trace as whole
use Rattle.pm_read_expiry.specs.Found.{IsAsking}
use Rattle.pm_read_expiry.specs.Times.{IsLeastNext}
use Rattle.pm_read_expiry.specs.Trace as reading
use Rattle.pm_read_expiry.specs.Trace.{listed_floors, HasConsumers, HasFloors}
use Rattle.pm_read_expiry.specs.Reader.{floors_call}
use Rattle.pm_read_expiry.specs.declared.asking.Asking.{Asking}
use Rattle.pm_read_expiry.specs.declared.asking.Found.{Found}
use Rattle.pm_announce.specs.Announcer.{announce_call, end_after, tags_call, IsToAnnounce}
use Rattle.pm_announce.specs.Tags.{tag_folder, IsFirstTag}
use Rattle.pm_announce.specs.Trace as announcing
use Rattle.pm_announce.specs.Trace.{announces, listed_tags, HasFloor}
use Rattle.pm_announce.specs.declared.phase.Announced.{Announced}
use Rattle.pm_expire.specs.AllCalls.{announced, as_before, AreRemovalsOf, Becomes, DidExpire, ExpiresFiles, FindsIn, HasGivenBack, HasToGo, IsFirst, IsImageOf, all_found, none_found, removing, some_go}
use Rattle.pm_expire.specs.Expirer.{AreRemovals}
use Rattle.pm_expire.specs.Trace.{asked_at, EndsBetween, HasAll, HasAnnounced, HasExpired, HasFound, HasViews, Shows, announced_then, kept_all, kept_all_then, removed, viewed_then}
use Rattle.pm_expire.specs.declared.all_calls.Kept.{Kept}
use Rattle.pm_expire.proofs.AnnounceAloneLemmas.{Ends, IsRun, KindsKept, Leads, floor_failed, floor_folder_kept, floor_image, floor_made, floors_below, parted, run_of, still_run, stays}
use Rattle.pm_expire.proofs.AnnouncedLemmas.{are_consumers, others, tags_before}
use Rattle.pm_expire.proofs.FoundLemmas.{found, split}
use Rattle.pm_expire.proofs.KeptLemmas.{EndLaw, again, kept}
use Rattle.pm_expire.proofs.ViewStillLemmas.{whole_shows_still, whole_still}
use Rattle.pm_expire.proofs.ViewedLemmas.{AreSeen, dropped_named, none_seen, views_seen, views_still}

-- ---- the calls that read what it needs change nothing

floors_still : (a : Asking) (ids : List ℕ) (floors : List (List ℕ)) (P : List Event → Type 0) (own : List Event) → ((rest : List Event) → P rest → AreStill rest)
    → HasFloors a ids floors P own → AreStill own
floors_still a ids floors P own still l =
    subst AreStill (sym l.is)
    (snapshots_calls.still_append l.first (listed_floors l.names ∷ l.rest) (snapshots_calls.read_calls (reading_of a.schema ids []) l.first l.listed)
    (list_still floor_folder, still l.rest l.then_consumers))

times_still : (a : Asking) (refusal : Refusal) (own : List Event) → reading.ShowsOfTimes a refusal own → AreStill own
times_still a refusal own (ids, floors, next, t) =
    let before = floors_still a ids floors (HasConsumers next) t.before (λ rest had. consumers_calls.listed_calls had.0 rest had.1) t.listed in
    let reads = split (λ event. IsStill event.call) t.listed.first t.reads (snapshots_calls.shows_calls refusal (t.listed.first ++ t.reads) t.then_reads) in
    subst AreStill (sym t.is) (snapshots_calls.still_append t.before t.reads before reads.1)

list_floors_still : (a : Asking) (refusal : Refusal) (own : List Event) → reading.ShowsOfFloors a refusal own → AreStill own
list_floors_still a refusals.Memory own (ids, has) = snapshots_calls.read_calls (reading_of a.schema ids []) own has
list_floors_still a (refusals.StoreFault path) own (ids, earlier, has, at, is) =
    subst AreStill (sym is) (snapshots_calls.still_append earlier (faulted floors_call ∷ []) (snapshots_calls.read_calls (reading_of a.schema ids []) earlier has) (list_still floor_folder, tt))
list_floors_still a other own shows = absurd shows

pub reading_still : (a : Asking) (refusal : Refusal) (own : List Event) → reading.Shows a refusal own → AreStill own
reading_still a refusal own (inl shows) = snapshots_calls.shows_calls refusal own shows
reading_still a refusal own (inr (inl shows)) = list_floors_still a refusal own shows
reading_still a refusal own (inr (inr (inl (ids, floors, has)))) =
    floors_still a ids floors (consumers.Shows refusal) own (λ rest shows. consumers_calls.shows_calls refusal rest shows) has
reading_still a refusal own (inr (inr (inr shows))) = times_still a refusal own shows

-- ---- what calls leave

leads_join : (I : Files → Type 0) (g : Files) (before middle after : StoreView) → Extends I before.ops middle.ops → Leads I g middle after → Leads I g before after
leads_join I g before middle after first rest =
    record { has = rest.has; images = Extends-trans I before.ops middle.ops after.ops first rest.images }

ends_join : (I P : Files → Type 0) (before middle after : StoreView) → Extends I before.ops middle.ops → Ends I P middle after → Ends I P before after
ends_join I P before middle after first rest =
    record { leaves = rest.leaves; images = Extends-trans I before.ops middle.ops after.ops first rest.images }

is_so : (P : Files → Type 0) (g : Files) (known : Option (List Op)) → P g → IsSomeAnd known (λ ops. files_after ops ≡ g) → IsSomeAnd known (λ ops. P (files_after ops))
is_so P g None so has = has
is_so P g (Some ops) so has = subst P (sym has) so

pub ends_of : (I P : Files → Type 0) (g : Files) (before after : StoreView) → P g → Leads I g before after → Ends I P before after
ends_of I P g before after so leads = record { leaves = is_so P g after.ops so leads.has; images = leads.images }

told_of : (g : Files) (known : Option (List Op)) → IsSomeAnd known (λ ops. files_after ops ≡ g) → (told : List Op) × (known ≡ Some told) × (files_after told ≡ g)
told_of g None has = absurd has
told_of g (Some ops) has = (ops, refl, has)

ends_so : (I P : Files → Type 0) (before after : StoreView) (ops : List Op) → after.ops ≡ Some ops → P (files_after ops) → Extends I before.ops after.ops → Ends I P before after
ends_so I P before after ops is so images = record {
  leaves = subst (λ (now : Option (List Op)). IsSomeAnd now (λ ops. P (files_after ops))) (sym is) so;
  images = images;
}

-- ---- the laws of the crates below, and what is gone once all was removed

pub record Laws : Type 0 where
  pub end : EndLaw
  pub kinds : KindsKept
  pub one : OneContents
  pub some : (paths : List (List ℕ)) (m : remove_phase.Phase) (own : List Event) (first after : StoreView) → removing.Did paths m own → Traces own first after
      → IsAlone first after → LosesSome paths first after
  pub all : (paths : List (List ℕ)) (own : List Event) (first after : StoreView) → removing.HasRemoved own paths → Traces own first after
      → IsAlone first after → LosesAll paths first after
  pub given_back : (f : Files) (s : TableSchema) (entries : List Entry) (first end : ℕ) (paths : List (List ℕ)) (g : Files) → Folder f (table s entries)
      → IsFirst f s first → first < end → end ≤ greatest → AreRemovalsOf s f first end paths → IsWithout (announced f end) paths g → HasGivenBack s f end g

-- what a table's folder has
table_files : (s : TableSchema) (f : Files) (h : History) → IsTableOf s h → Folder f h → HaveFiles f × (count_of h ≤ greatest)
table_files s f no_table of folder = absurd of
table_files s f (table t entries) of folder = (folder.names, folder.snapshots.within)

given : (laws : Laws) (s : TableSchema) (f : Files) (h : History) (first end : ℕ) (paths : List (List ℕ)) (g : Files) → IsTableOf s h → Folder f h → IsFirst f s first
    → first < end → end ≤ count_of h → AreRemovalsOf s f first end paths → IsWithout (announced f end) paths g → HasGivenBack s f end g
given laws s f no_table first end paths g of folder least some within are without = absurd of
given laws s f (table t entries) first end paths g of folder least some within are without =
    let most = folder.snapshots.within in
    laws.given_back f s entries first end paths g (subst (λ (t : TableSchema). Folder f (table t entries)) of folder) least some (omega (arith, within, most)) are without

module _ (laws : Laws) (a : Asking) (f : Files) (h : History) (asking : IsAsking a) (plain : HavePlainNames a.schema) (folder : Folder f h) where
  abbrev Image : Files → Type 0
  Image g = IsImageOf a f g

  -- ---- a snapshot is to go

  pub record Facts (x : Found) : Type 0 where
    pub table_is : IsTableOf a.schema h
    pub go : HasToGo a f x.first x.end
    pub last : x.last ≡ count_of h
    pub within : x.end ≤ count_of h
    pub schema : x.schema ≡ a.schema
    pub floors : IsListing floor_folder x.floors.items f
    pub same_end : (cs : List NamedConsumer) (next : Option ℕ) → AreConsumersOf f cs → IsLeastNext cs next → end_after x next ≡ x.end

  pub record Begun (x : Found) (P : List Event → Type 0) (before after : StoreView) : Type 0 where
    pub facts : Facts x
    pub middle : StoreView
    pub files : Leads Image f before middle
    pub rest : List Event
    pub then_rest : P rest
    pub run : IsRun rest middle after

  facts_at : (x : Found) → IsToAnnounce x → IsTableOf a.schema h → FindsIn a f h x
      → ((cs : List NamedConsumer) (next : Option ℕ) → AreConsumersOf f cs → IsLeastNext cs next → end_after x next ≡ x.end) → Facts x
  facts_at x to of (none_found empty is) same = absurd (let some = to.some in let none = is.first in omega (arith, some, none))
  facts_at x to of (all_found end least newest schema floors) same = record {
    table_is = of;
    go = record { is_end = end; is_first = least; some = to.first };
    last = newest;
    within = (let most = to.last in omega (arith, most, newest));
    schema = schema;
    floors = floors;
    same_end = same;
  }

  pub begun : (x : Found) (P : List Event → Type 0) (own : List Event) (before after : StoreView) → HasFound a x P own → IsRun own before after → HasFiles f before
      → Begun x P before after
  begun x P own before after has run here =
      let parts = parted has.reads has.rest before after (run_of own (has.reads ++ has.rest) before after has.is run) in
      let so = found a x has.reads before parts.middle f h has.found parts.first.trace parts.first.alone here folder in
      record {
        facts = facts_at x has.to_announce so.table so.finds
            (λ cs next are least. again laws.end a x has.reads before parts.middle f h cs next asking.some has.found parts.first.trace parts.first.alone here folder are least);
        middle = parts.middle;
        files = stays Image f before parts.middle (as_before (λ path. refl)) so.files;
        rest = has.rest;
        then_rest = has.then_rest;
        run = parts.rest;
      }

  -- ---- the floor is there

  module _ (x : Found) (facts : Facts x) where
    abbrev g : Files
    g = announced f x.end

    g_image : Image g
    g_image = floor_image a f x.first x facts.go

    pub g_folder : Folder g h
    g_folder = floor_folder_kept laws.kinds a.schema f h x.end plain facts.table_is facts.within folder

    pub record Floored (P : List Event → Type 0) (before after : StoreView) : Type 0 where
      pub middle : StoreView
      pub files : Leads Image g before middle
      pub rest : List Event
      pub then_rest : P rest
      pub run : IsRun rest middle after

    pub floored : (P : List Event → Type 0) (own : List Event) (before after : StoreView) → HasFloor x P own → IsRun own before after → HasFiles f before → Floored P before after
    floored P own before after has run here =
        let made = floor_made a f x.first x facts.go has.answer has.rest before after (run_of own (announces x has.answer ∷ has.rest) before after has.is run) here in
        record { middle = made.0; files = made.1; rest = has.rest; then_rest = has.then_consumers; run = made.2 }

    -- calls after it that change nothing
    still_then : (own : List Event) (before after : StoreView) → AreStill own → IsRun own before after → HasFiles g before → Leads Image g before after
    still_then own before after still run here = stays Image g before after g_image (still_run g own before after still run here).0

    still_after : (P : List Event → Type 0) (before after : StoreView) → (is : Floored P before after) → AreStill is.rest → Leads Image g before after
    still_after P before after is still =
        leads_join Image g before is.middle after is.files.images (still_then is.rest is.middle after still is.run is.files.has)

    -- the consumers were read again: they lower no end
    read_again : (end : ℕ) (own : List Event) (before after : StoreView) → announcing.HasRead x end own → IsRun own before after → HasFiles f before
        → (end ≡ x.end) × Leads Image g before after
    read_again end own before after (cs, next, least, is, has) run here =
        let fl = floored (consumers.HasListed cs) own before after has run here in
        let still = consumers_calls.listed_calls cs fl.rest fl.then_rest in
        let told = (still_run g fl.rest fl.middle after still fl.run fl.files.has).1 in
        let are = are_consumers f x.end cs (consumers_calls.listed_at g h g_folder cs fl.rest fl.then_rest told) in
        (is ∙ facts.same_end cs next are least, still_after (consumers.HasListed cs) before after fl still)

    -- then the tags were listed, which were there before the floor
    pub listed_then : (end : ℕ) (tag : Option (List ℕ)) (own : List Event) (before after : StoreView) → announcing.HasListed x end tag own → IsRun own before after
        → HasFiles f before → (end ≡ x.end) × IsFirstTag f tag × Leads Image g before after
    listed_then end tag own before after l run here =
        let last : List Event = listed_tags l.files ∷ [] in
        let parts = parted l.earlier last before after (run_of own (l.earlier ++ last) before after l.is run) in
        let so = read_again end l.earlier before parts.middle l.to_list.1 parts.first here in
        let still = still_run g last parts.middle after (list_still tag_folder, tt) parts.rest so.1.has in (
          so.0,
          record { files = l.files.items; listing = tags_before f x.end l.files.items still.1.0; is = l.first },
          leads_join Image g before parts.middle after so.1.images (stays Image g parts.middle after g_image still.0),
        )

    ended_then : (end : ℕ) (own : List Event) (before after : StoreView) → announcing.HasEnded x end own → IsRun own before after → HasFiles f before
        → Leads Image g before after
    ended_then end own before after (inl read) run here = (read_again end own before after read.1 run here).1
    ended_then end own before after (inr listed) run here = (listed_then end None own before after listed run here).2

    tags_shows : (refusal : Refusal) (own : List Event) (before after : StoreView) → announcing.ShowsOfTags x refusal own → IsRun own before after → HasFiles f before
        → Leads Image g before after
    tags_shows refusals.Memory own before after (end, inl to_list) run here = (read_again end own before after to_list.1 run here).1
    tags_shows refusals.Memory own before after (end, inr (tag, listed)) run here = (listed_then end tag own before after listed run here).2
    tags_shows (refusals.StoreFault path) own before after (end, earlier, to_list, at, is) run here =
        let last : List Event = faulted tags_call ∷ [] in
        let parts = parted earlier last before after (run_of own (earlier ++ last) before after is run) in
        let so = read_again end earlier before parts.middle to_list.1 parts.first here in
        leads_join Image g before parts.middle after so.1.images (still_then last parts.middle after (list_still tag_folder, tt) parts.rest so.1.has)
    tags_shows (refusals.Unsupported what text) own before after (what_is, (end, listed)) run here = (listed_then end (Some text) own before after listed run here).2
    tags_shows other own before after shows run here = absurd shows

    floor_shows : (refusal : Refusal) (own : List Event) (before after : StoreView) → announcing.ShowsOfFloor x refusal own → IsRun own before after → HasFiles f before
        → Ends Image Image before after
    floor_shows refusals.Memory own before after none run here =
        let begins : Image f = as_before (λ path. refl) in
        ends_of Image Image f before after begins (stays Image f before after begins (still_run f [] before after tt (run_of own [] before after none run) here).0)
    floor_shows (refusals.StoreFault path) own before after (at, is) run here =
        floor_failed a f x.first x facts.go before after (run_of own (faulted (announce_call x) ∷ []) before after is run) here
    floor_shows other own before after shows run here = absurd shows

    announcer_shows : (refusal : Refusal) (own : List Event) (before after : StoreView) → announcing.Shows x refusal own → IsRun own before after → HasFiles f before
        → Ends Image Image before after
    announcer_shows refusal own before after (inl shows) run here = floor_shows refusal own before after shows run here
    announcer_shows refusal own before after (inr (inr shows)) run here = ends_of Image Image g before after g_image (tags_shows refusal own before after shows run here)
    announcer_shows refusal own before after (inr (inl has)) run here =
        let fl = floored (consumers.Shows refusal) own before after has run here in
        ends_of Image Image g before after g_image
        (still_after (consumers.Shows refusal) before after fl (consumers_calls.shows_calls refusal fl.rest fl.then_rest))

    -- ---- views

    pub snapshots_same : (id : ℕ) → map.get g (snapshot_path id) ≡ map.get f (snapshot_path id)
    snapshots_same id = others f x.end (snapshot_path id) (λ same. floor-snapshot x.end (snapshot_name id) (sym same))

    manifests_same : (name : List ℕ) → map.get g (manifest_path name) ≡ map.get f (manifest_path name)
    manifests_same name =
        others f x.end (manifest_path name) (λ same. apart 0 (floor_path x.end) (manifest_path name) (λ (e : 102 ≡ 109). omega (arith, e)) (sym same))

  module _ (n : Announced) (facts : Facts n.found) where
    abbrev G : Files
    G = announced f n.found.end

    -- ready to read views
    pub record Ready (P : List Event → Type 0) (before after : StoreView) : Type 0 where
      pub end : n.end ≡ n.found.end
      pub untagged : IsFirstTag f None
      pub middle : StoreView
      pub files : Leads Image G before middle
      pub rest : List Event
      pub then_rest : P rest
      pub run : IsRun rest middle after

    pub readied : (P : List Event → Type 0) (own : List Event) (before after : StoreView) → HasAnnounced n P own → IsRun own before after → HasFiles f before
        → Ready P before after
    readied P own before after has run here =
        let parts = parted has.announces has.rest before after (run_of own (has.announces ++ has.rest) before after has.is run) in
        let so = listed_then n.found facts n.end None has.announces before parts.middle has.listed parts.first here in
        record { end = so.0; untagged = so.1; middle = parts.middle; files = so.2; rest = has.rest; then_rest = has.then_rest; run = parts.rest }

    pub record Seen (id : ℕ) (d : DroppingView) (P : List Event → Type 0) (before after : StoreView) : Type 0 where
      pub seen : AreSeen f n.found.schema n.found.first id d
      pub middle : StoreView
      pub files : Leads Image G before middle
      pub rest : List Event
      pub then_rest : P rest
      pub run : IsRun rest middle after

    pub viewed_so : (id : ℕ) (d : DroppingView) (P : List Event → Type 0) (own : List Event) (before after : StoreView) → HasViews n id d P own → IsRun own before after
        → HasFiles G before → Seen id d P before after
    viewed_so id d P own before after has run here =
        let first : ℕ = n.found.first in
        let parts = parted has.views has.rest before after (run_of own (has.views ++ has.rest) before after has.is run) in
        let stay = still_run G has.views before parts.middle (views_still n first has.none has.read d has.views has.viewed) parts.first here in
        record {
          seen = views_seen laws.one f G n (snapshots_same n.found facts) (manifests_same n.found facts) first facts.go.is_first.after_origin first id has.none has.read d
              has.views (omega arith) has.count has.viewed stay.1 (none_seen f n.found.schema first has.none has.are_none);
          middle = parts.middle;
          files = stays Image G before parts.middle (g_image n.found facts) stay.0;
          rest = has.rest;
          then_rest = has.then_rest;
          run = parts.rest;
        }

    -- calls after the views that change nothing
    views_then : (id : ℕ) (d : DroppingView) (P : List Event → Type 0) (own : List Event) (before after : StoreView) → ((rest : List Event) → P rest → AreStill rest)
        → HasAnnounced n (HasViews n id d P) own → IsRun own before after → HasFiles f before → Leads Image G before after
    views_then id d P own before after still has run here =
        let r = readied (HasViews n id d P) own before after has run here in
        let v = viewed_so id d P r.rest r.middle after r.then_rest r.run r.files.has in
        leads_join Image G before r.middle after r.files.images
        (leads_join Image G r.middle v.middle after v.files.images (still_then n.found facts v.rest v.middle after (still v.rest v.then_rest) v.run v.files.has))

    -- ---- the removes

    removals_at : (d : DroppingView) (paths : List (List ℕ)) → n.end ≡ n.found.end → AreRemovals n d paths → AreSeen f n.found.schema n.found.first (n.end + 1) d
        → AreRemovalsOf n.found.schema f n.found.first n.found.end paths
    removals_at d paths end are seen =
        let some = facts.go.some in
        let files = table_files a.schema f h facts.table_is folder in
        let most = files.1 in
        let within = facts.within in
        record {
          dropped = are.dropped;
          rising = are.are_dropped.rising;
          named = dropped_named f n.found.schema n.found.first n.found.end d are.dropped (omega (arith, some))
              (subst (λ (k : ℕ). AreSeen f n.found.schema n.found.first (k + 1) d) end seen) are.are_dropped;
          floors = are.floors;
          rise = are.are_floors.rising;
          listed = floors_below f n.found.floors.items n.found.end are.floors files.0 (omega (arith, most, within)) facts.floors are.are_floors;
          is = are.is
              ∙ ap (λ (k : ℕ). removals (record { schema = n.found.schema; first = n.found.first; end = k; own = n.found.end }) are.dropped are.floors) end;
        }

    -- once all that is to be removed is known
    record Known (P : List (List ℕ) → List Event → Type 0) (before after : StoreView) : Type 0 where
      end : n.end ≡ n.found.end
      untagged : IsFirstTag f None
      paths : List (List ℕ)
      are : AreRemovalsOf a.schema f n.found.first n.found.end paths
      middle : StoreView
      files : Leads Image G before middle
      rest : List Event
      then_rest : P paths rest
      run : IsRun rest middle after

    all_known : (P : List (List ℕ) → List Event → Type 0) (own : List Event) (before after : StoreView) → HasAnnounced n (HasAll n P) own → IsRun own before after
        → HasFiles f before → Known P before after
    all_known P own before after has run here = by (readied (HasAll n P) own before after has run here)
      where
        known_at : (r : Ready (HasAll n P) before after) → HasAll n P r.rest → Known P before after
        known_at r (d, paths, are, views) =
            let v = viewed_so (n.end + 1) d (P paths) r.rest r.middle after views r.run r.files.has in
            record {
              end = r.end;
              untagged = r.untagged;
              paths = paths;
              are = subst (λ (s : TableSchema). AreRemovalsOf s f n.found.first n.found.end paths) facts.schema (removals_at d paths r.end are v.seen);
              middle = v.middle;
              files = leads_join Image G before r.middle v.middle r.files.images v.files;
              rest = v.rest;
              then_rest = v.then_rest;
              run = v.run;
            }

        by : Ready (HasAll n P) before after → Known P before after
        by r = known_at r r.then_rest

    lost_image : (paths : List (List ℕ)) (told : Files) → told ≡ G → AreRemovalsOf a.schema f n.found.first n.found.end paths → (image : Files)
        → HasLost told paths image → Image image
    lost_image paths told is are image lost =
        removing n.found.first n.found.end paths facts.go are (subst (λ (told : Files). HasLost told paths image) is lost)

    some_removed : (paths : List (List ℕ)) (before after : StoreView) → AreRemovalsOf a.schema f n.found.first n.found.end paths → HasFiles G before
        → LosesSome paths before after → Ends Image Image before after
    some_removed paths before after are here loses =
        let t = told_of G before.ops here in
        let told : Files = files_after t.0 in
        let lost = loses t.0 t.1 in
        ends_so Image Image before after lost.0 lost.1 (lost_image paths told t.2 are (files_after lost.0) lost.2)
        (Extends-weaker (λ g. HasLost told paths g) Image before.ops after.ops (lost_image paths told t.2 are) lost.3)

    all_removed : (paths : List (List ℕ)) (before after : StoreView) → AreRemovalsOf a.schema f n.found.first n.found.end paths → HasFiles G before
        → LosesAll paths before after → Ends Image (λ g. HasGivenBack a.schema f n.found.end g) before after
    all_removed paths before after are here loses =
        let t = told_of G before.ops here in
        let told : Files = files_after t.0 in
        let lost = loses t.0 t.1 in
        ends_so Image (λ g. HasGivenBack a.schema f n.found.end g) before after lost.0 lost.1
        (given laws a.schema f h n.found.first n.found.end paths (files_after lost.0) facts.table_is folder facts.go.is_first facts.go.some facts.within are
        (subst (λ (told : Files). IsWithout told paths (files_after lost.0)) t.2 lost.2))
        (Extends-weaker (λ g. HasLost told paths g) Image before.ops after.ops (lost_image paths told t.2 are) lost.3)

    remover_shows : (refusal : Refusal) (own : List Event) (before after : StoreView) → HasAnnounced n (HasAll n (λ paths. removing.Shows paths refusal)) own
        → IsRun own before after → HasFiles f before → Ends Image Image before after
    remover_shows refusal own before after has run here =
        let k = all_known (λ paths. removing.Shows paths refusal) own before after has run here in
        ends_join Image Image before k.middle after k.files.images
        (some_removed k.paths k.middle after k.are k.files.has
        (laws.some k.paths removers.Over k.rest k.middle after (refusal, k.then_rest) k.run.trace k.run.alone))

    becomes_end : (first last : ℕ) (before after : StoreView) → first ≡ n.found.end → IsFirstTag f None → last ≡ count_of h
        → Ends Image (λ g. HasGivenBack a.schema f n.found.end g) before after → Ends Image (λ g. Becomes a (count_of h) f g first last) before after
    becomes_end first last before after is_first untagged is_last ends = record {
      leaves = weaker after.ops ends.leaves;
      images = ends.images;
    }
      where
        one : (g : Files) → HasGivenBack a.schema f n.found.end g → Becomes a (count_of h) f g first last
        one g back = subst (λ (k : ℕ). Becomes a (count_of h) f g k last) (sym is_first) (some_go n.found.first facts.go untagged is_last back)

        weaker : (known : Option (List Op)) → IsSomeAnd known (λ ops. HasGivenBack a.schema f n.found.end (files_after ops))
            → IsSomeAnd known (λ ops. Becomes a (count_of h) f (files_after ops) first last)
        weaker None is = is
        weaker (Some ops) is = one (files_after ops) is

    removed_so : (first last : ℕ) (own : List Event) (before after : StoreView) → first ≡ n.end → last ≡ n.found.last
        → HasAnnounced n (HasAll n (λ paths rest. removing.HasRemoved rest paths)) own → IsRun own before after → HasFiles f before
        → Ends Image (λ g. Becomes a (count_of h) f g first last) before after
    removed_so first last own before after is_first is_last has run here =
        let k = all_known (λ paths rest. removing.HasRemoved rest paths) own before after has run here in
        becomes_end first last before after (is_first ∙ k.end) k.untagged (is_last ∙ facts.last)
        (ends_join Image (λ g. HasGivenBack a.schema f n.found.end g) before k.middle after k.files.images
        (all_removed k.paths k.middle after k.are k.files.has (laws.all k.paths k.rest k.middle after k.then_rest k.run.trace k.run.alone)))

  -- ---- by the answer

  abbrev Done : ℕ → ℕ → StoreView → StoreView → Type 0
  Done first last before after = IsTableOf a.schema h × Ends Image (λ g. Becomes a (count_of h) f g first last) before after

  expired : (first last : ℕ) (own : List Event) (before after : StoreView) → HasExpired a first last own → IsRun own before after → HasFiles f before
      → Done first last before after
  expired first last own before after (kept_all x none is_first is_last has) run here =
      let k = kept a x first last own before after f h none is_first is_last has run.trace run.alone here folder in
      (k.table, ends_of Image (λ g. Becomes a (count_of h) f g first last) f before after k.becomes (stays Image f before after (as_before (λ path. refl)) k.files))
  expired first last own before after (kept_all_then n same is_first is_last has) run here =
      let b = begun n.found (announcing.HasRead n.found n.end) own before after has run here in
      let so = (read_again n.found b.facts n.end b.rest b.middle after b.then_rest b.run b.files.has).0 in
      let some = b.facts.go.some in
      absurd (omega (arith, same, so, some))
  expired first last own before after (removed n is_first is_last has) run here =
      let b = begun n.found (HasAnnounced n (HasAll n (λ paths rest. removing.HasRemoved rest paths))) own before after has run here in (
        b.facts.table_is,
        ends_join Image (λ g. Becomes a (count_of h) f g first last) before b.middle after b.files.images
            (removed_so n b.facts first last b.rest b.middle after is_first is_last b.then_rest b.run b.files.has),
      )

  between : (own : List Event) (before after : StoreView) → EndsBetween a own → IsRun own before after → HasFiles f before → Ends Image Image before after
  between own before after (announced_then n has) run here =
      let b = begun n.found (announcing.HasEnded n.found n.end) own before after has run here in
      ends_join Image Image before b.middle after b.files.images
      (ends_of Image Image (announced f n.found.end) b.middle after (g_image n.found b.facts)
      (ended_then n.found b.facts n.end b.rest b.middle after b.then_rest b.run b.files.has))
  between own before after (viewed_then v m ready has) run here =
      let n : Announced = v.announced in
      let P : List Event → Type 0 = whole.Did (asked_at n v.id) m in
      let b = begun n.found (HasAnnounced n (HasViews n v.id v.dropping P)) own before after has run here in
      ends_join Image Image before b.middle after b.files.images
      (ends_of Image Image (announced f n.found.end) b.middle after (g_image n.found b.facts)
      (views_then n b.facts v.id v.dropping P b.rest b.middle after (λ rest did. whole_still (asked_at n v.id) m rest ready did) b.then_rest b.run b.files.has))

  shown : (refusal : Refusal) (own : List Event) (before after : StoreView) → Shows a refusal own → IsRun own before after → HasFiles f before → Ends Image Image before after
  shown refusal own before after (inl shows) run here =
      let begins : Image f = as_before (λ path. refl) in
      ends_of Image Image f before after begins (stays Image f before after begins (still_run f own before after (reading_still a refusal own shows) run here).0)
  shown refusal own before after (inr (inl (x, has))) run here =
      let b = begun x (announcing.Shows x refusal) own before after has run here in
      ends_join Image Image before b.middle after b.files.images (announcer_shows x b.facts refusal b.rest b.middle after b.then_rest b.run b.files.has)
  shown refusal own before after (inr (inr (inl (v, within, has)))) run here =
      let n : Announced = v.announced in
      let P : List Event → Type 0 = whole.Shows (asked_at n v.id) refusal in
      let b = begun n.found (HasAnnounced n (HasViews n v.id v.dropping P)) own before after has run here in
      ends_join Image Image before b.middle after b.files.images
      (ends_of Image Image (announced f n.found.end) b.middle after (g_image n.found b.facts)
      (views_then n b.facts v.id v.dropping P b.rest b.middle after (λ rest shows. whole_shows_still (asked_at n v.id) refusal rest shows) b.then_rest b.run b.files.has))
  shown refusal own before after (inr (inr (inr (inl (n, has))))) run here =
      let b = begun n.found (HasAnnounced n (HasAll n (λ paths. removing.Shows paths refusal))) own before after has run here in
      ends_join Image Image before b.middle after b.files.images (remover_shows n b.facts refusal b.rest b.middle after b.then_rest b.run b.files.has)
  shown refusal own before after (inr (inr (inr (inr (memory, ends))))) run here = between own before after ends run here

  -- the schema that was read is the table's
  pub table_at : (own : List Event) (before after : StoreView) → GoesOnFrom a.schema own → IsRun own before after → HasFiles f before → IsTableOf a.schema h
  table_at own before after (earlier, later, has, is) run here =
      let parts = parted earlier later before after (run_of own (earlier ++ later) before after is run) in
      let told = (still_run f earlier before parts.middle (schema_calls.ready_calls a.schema earlier has) parts.first here).1 in
      schema_calls.ready_at f h folder a.schema earlier has told

  pub all_expired : (result : Result Kept Refusal) (own : List Event) (before after : StoreView) → DidExpire a result own → IsRun own before after → HasFiles f before
      → ExpiresFiles a f h before after result
  all_expired (Ok kept) own before after did run here =
      let so = expired kept.first kept.last own before after did run here in
      record { table = so.0; leaves = so.1.leaves; images = so.1.images }
  all_expired (Err refusal) own before after (from, shows) run here =
      let so = shown refusal own before after shows run here in
      record { table = table_at own before after from run here; leaves = so.leaves; images = so.images }

pub all_calls : Laws → (a : Asking) (result : Result Kept Refusal) (own : List Event) (before after : StoreView) (f : Files) (h : History) → IsAsking a
    → HavePlainNames a.schema → DidExpire a result own → Traces own before after → IsAlone before after → HasFiles f before → Folder f h
    → ExpiresFiles a f h before after result
all_calls laws a result own before after f h asking plain did trace alone here folder =
    all_expired laws a f h asking plain folder result own before after did (record { trace = trace; alone = alone }) here
