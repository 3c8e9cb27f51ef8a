-- What holds in an expirer's phases.
use Rattle.std.proofs.Common.{◌≡◌, ◌⊎◌, inl, inr, ℕ, suc, ◌+◌, ◌-◌, ◌<◌, List, [], ◌∷◌, ◌++◌, length, None, Some, Result, Ok, Err, IfOk, refl, sym, ap, ◌∙◌, subst, arith, length-append}
use Rattle.pm_store.specs.declared.answer.Answer.{Answer}
use Rattle.pm_store.specs.declared.answer.Answer.TheVariants as answers
use Rattle.pm_schema.specs.declared.schema.TableSchema.{TableSchema}
use Rattle.pm_snapshot.specs.declared.snapshot.Snapshot.{Snapshot}
use Rattle.pm_snapshot.proofs.Facts.{id_same}
use Rattle.pm_manifest.specs.declared.entry.Entry.{Entry}
use Rattle.pm_manifest.specs.declared.entry.ManifestMeta.{ManifestMeta}
use Rattle.pm_model_expiry.specs.Removals.{floor_paths, origin_paths, snapshot_paths}
use Rattle.pm_model_folder.specs.Changes.{HavePlainNames}
use Rattle.pm_expire_paths.specs.Dropping.{DroppingView}
use Rattle.pm_remove.specs.Remover as removing
use Rattle.pm_remove.specs.declared.phase.Phase as remove_phase
use Rattle.pm_remove.specs.declared.phase.Phase.TheVariants as removers
use Rattle.pm_remove.proofs.Facts.{next_left}
use Rattle.pm_read_log.specs.declared.log_phase.LogPhase.{LogPhase}
use Rattle.pm_read_log.specs.declared.log_phase.LogPhase.TheVariants as logs
use Rattle.pm_read_table.specs.Asked.{SoughtView}
use Rattle.pm_read_table.specs.Reader as reader
use Rattle.pm_read_table.specs.Reading.{Filed}
use Rattle.pm_read_table.specs.View.{kept_for}
use Rattle.pm_read_table.specs.declared.phase.Phase as view_phase
use Rattle.pm_read_table.specs.declared.phase.Phase.TheVariants as readers
use Rattle.pm_read_table.specs.declared.view.View.{View}
use Rattle.pm_read_table.proofs.WithinLemmas.{with_reader}
use Rattle.pm_read_whole.specs.Whole as whole
use Rattle.pm_read_whole.specs.Whole.{AfterLog, BeginsLog}
use Rattle.pm_read_whole.specs.declared.phase.Phase as whole_phase
use Rattle.pm_read_whole.specs.declared.phase.Phase.TheVariants as wholes
use Rattle.pm_read_expiry.specs.Reader as reading
use Rattle.pm_read_expiry.specs.Reader.{all_consumers, all_times, more_consumers, more_times, none_listed, some_listed}
use Rattle.pm_read_expiry.specs.declared.phase.Phase as read_phase
use Rattle.pm_read_expiry.specs.declared.phase.Phase.TheVariants as reads
use Rattle.pm_announce.specs.Announcer as announcing
use Rattle.pm_announce.specs.declared.phase.Announced.{Announced}
use Rattle.pm_announce.specs.declared.phase.Phase as announce_phase
use Rattle.pm_announce.specs.declared.phase.Phase.TheVariants as announcers
use Rattle.pm_announce.proofs.Facts as announcing_facts
use Rattle.pm_expire.specs.Expirer.{AreRemovals, IsAskedFor, IsViewOf, expiry_of}
use Rattle.pm_expire.specs.Meaning.{IsPlainRead}

-- what is so of a value that was given is so of it
pub if_ok : {T E : Type 0} (r : Result T E) (P Q : T → Type 0) → ((x : T) → P x → Q x) → IfOk r P → IfOk r Q
if_ok (Ok x) P Q weaker so = weaker x so
if_ok (Err e) P Q weaker so = tt

-- ---- a view that is read is of the snapshot that was asked for

manifests_asked : (s : TableSchema) (id : ℕ) (q : SoughtView) (x : Snapshot) (done rest : List ManifestMeta) (files : Filed) (kept : List Entry)
    (m : view_phase.Phase) → (q.asked.schema ≡ s) → x.id ≡ id → reader.GoesOn q x done rest files kept m → IsAskedFor s id m
manifests_asked s id q x done [] files kept m schema same (v, view, by, is) = subst (IsAskedFor s id) (sym is) (view.schema ∙ schema, view.id ∙ same)
manifests_asked s id q x done (meta ∷ rest) files kept m schema same is = subst (IsAskedFor s id) (sym is) (schema, same)

asked_stays : (s : TableSchema) (id : ℕ) (m : view_phase.Phase) (answer : Answer) (new : view_phase.Phase) → reader.Goes m answer new → IsAskedFor s id m
    → IsAskedFor s id new
asked_stays s id (readers.List a) answer new goes asked = absurd asked
asked_stays s id (readers.Origin q) answer new goes asked = absurd asked
asked_stays s id (readers.Snapshot q other) (answers.Found (Some bytes)) new (x, reads, schema, is) asked =
    subst (IsAskedFor s id) (sym is) (asked.0, id_same other bytes x reads ∙ asked.1)
asked_stays s id (readers.Base q x) (answers.Found None) new is asked = subst (IsAskedFor s id) (sym is) tt
asked_stays s id (readers.Base q x) (answers.Found (Some bytes)) new (base, reads, is) asked = subst (IsAskedFor s id) (sym is) asked
asked_stays s id (readers.Delta q x base) (answers.Found None) new is asked = subst (IsAskedFor s id) (sym is) tt
asked_stays s id (readers.Delta q x base) (answers.Found (Some bytes)) new (delta, reads, (files, left, within, on)) asked =
    manifests_asked s id q x [] (base.items ++ delta) files [] new asked.0 asked.1 on
asked_stays s id (readers.Manifests r) (answers.Found None) new is asked = subst (IsAskedFor s id) (sym is) tt
asked_stays s id (readers.Manifests r) (answers.Found (Some bytes)) new (own, reads, (files, order, left, on)) asked =
    manifests_asked s id r.sought r.snapshot (r.done ++ r.next ∷ []) r.rest files (r.kept ++ kept_for r.sought.asked.wanted own) new asked.0 asked.1 on
asked_stays s id m answer new goes asked = absurd goes

log_of_view : (s : TableSchema) (id : ℕ) (v : View) (m : LogPhase) (new : whole_phase.Phase) → AfterLog v m new → v.schema ≡ s → v.id ≡ id → IsViewOf s id new
log_of_view s id v (logs.Snapshot a) new is schema same = subst (IsViewOf s id) (sym is) (schema, same)
log_of_view s id v (logs.List a x list) new is schema same = subst (IsViewOf s id) (sym is) (schema, same)
log_of_view s id v (logs.Manifests r) new is schema same = subst (IsViewOf s id) (sym is) (schema, same)
log_of_view s id v (logs.Again a path) new is schema same = subst (IsViewOf s id) (sym is) (schema, same)
log_of_view s id v (logs.Ready l) new is schema same = subst (IsViewOf s id) (sym is) (schema, same)
log_of_view s id v logs.Over new is schema same = subst (IsViewOf s id) (sym is) (schema, same)

pub view_stays : (s : TableSchema) (id : ℕ) (m : whole_phase.Phase) (answer : Answer) (new : whole_phase.Phase) → whole.Goes m answer new → IsViewOf s id m
    → IsViewOf s id new
view_stays s id (wholes.View r) answer new (to, on, after) of =
    with_reader (λ m. wholes.View m) BeginsLog (IsAskedFor s id) (IsViewOf s id new) to new after (asked_stays s id r answer to on of)
    (λ is. subst (IsViewOf s id) (sym is) (asked_stays s id r answer to on of))
    (λ v asked opens. log_of_view s id v opens.0 new opens.2 asked.0 asked.1)
view_stays s id (wholes.Log v r) answer new (to, on, after) of = log_of_view s id v to new after of.0 of.1
view_stays s id m answer new goes of = absurd goes

-- ---- something is to be removed

some_paths : (first count : ℕ) (n : ℕ) → count ≡ suc n → 0 < length (snapshot_paths first count)
some_paths first count n is = subst (λ (c : ℕ). 0 < length (snapshot_paths first c)) (sym is) (omega arith)

pub removals_left : (a : Announced) (paths : List (List ℕ)) (d : DroppingView) → a.found.first < a.end → AreRemovals a d paths
    → 0 < removing.calls_left (removing.remove_next paths)
removals_left a paths d less are =
    let x = expiry_of a in
    let snapshots = snapshot_paths a.found.first (a.end - a.found.first) in
    let rest = are.dropped ++ floor_paths are.floors in
    let some = some_paths a.found.first (a.end - a.found.first) (a.end - a.found.first - 1) (omega (arith, less)) in
    let one = length-append (origin_paths a.found.schema.origin) (snapshots ++ rest) in
    let two = length-append snapshots rest in
    let all = ap length are.is in
    let left = next_left paths in
    omega (arith, some, one, two, all, left)

-- ---- the schema's names

pub plain_stays : (m : read_phase.Phase) (answer : Answer) (new : read_phase.Phase) → reading.Goes m answer new → IsPlainRead m → IsPlainRead new
plain_stays (reads.Snapshots a m) answer new (to, on, none_listed x done none is) plain =
    subst IsPlainRead (sym is) (subst HavePlainNames (sym none.schema) plain)
plain_stays (reads.Snapshots a m) answer new (to, on, some_listed more is) plain = subst IsPlainRead (sym is) plain
plain_stays (reads.Floors a m) (answers.Listed names) new is plain = subst IsPlainRead (sym is) plain
plain_stays (reads.Consumers l c) answer new (to, on, more_consumers more is) plain = subst IsPlainRead (sym is) plain
plain_stays (reads.Consumers l c) answer new (to, on, all_consumers next done least is) plain = subst IsPlainRead (sym is) plain
plain_stays (reads.Times l next) answer new (to, on, more_times more is) plain = subst IsPlainRead (sym is) plain
plain_stays (reads.Times l next) answer new (to, on, all_times x done found is) plain =
    subst IsPlainRead (sym is) (subst HavePlainNames (sym found.schema) plain)
plain_stays m answer new goes plain = absurd goes

-- ---- parts that go on have a call left, or are ready

next_removal : (paths : List (List ℕ)) → (removing.remove_next paths ≡ removers.Removed) ⊎ (0 < removing.calls_left (removing.remove_next paths))
next_removal [] = inl refl
next_removal (path ∷ paths) = inr (omega arith)

pub remover_left : (m : remove_phase.Phase) (answer : Answer) (new : remove_phase.Phase) → removing.Goes m answer new
    → (new ≡ removers.Removed) ⊎ (0 < removing.calls_left new)
remover_left (removers.Remove r) (answers.Removed answer) new is =
    subst (λ (m : remove_phase.Phase). (m ≡ removers.Removed) ⊎ (0 < removing.calls_left m)) (sym is) (next_removal r.rest)
remover_left m answer new goes = absurd goes

reached : (m : announce_phase.Phase) → announcing.Reaches (announcing.reached_at m) m → announcing.IsReady m ⊎ (0 < announcing.calls_left m)
reached (announcers.Announce x) left = inr left
reached (announcers.Consumers x c) left = inr left
reached (announcers.Tags a) left = inr left
reached (announcers.Announced a) ready = inl tt
reached announcers.Over left = inr left

pub announcer_left : (m : announce_phase.Phase) (answer : Answer) (new : announce_phase.Phase) → announcing.Goes m answer new
    → announcing.IsReady new ⊎ (0 < announcing.calls_left new)
announcer_left m answer new goes = reached new (announcing_facts.goes m answer new goes).1
