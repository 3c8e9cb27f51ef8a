-- The parts of a reader stay what they are: the view's reads one snapshot whole, and the changelog's that of the view.
use Rattle.std.proofs.Common.{◌≡◌, ◌⊎◌, inl, inr, ℕ, ◌<◌, ◌≤◌, List, [], ◌∷◌, ◌++◌, Option, None, Some, sym, ap, ◌∙◌, subst, arith}
use Rattle.pm_store.specs.declared.answer.Answer.{Answer}
use Rattle.pm_store.specs.declared.answer.Answer.TheVariants as answers
use Rattle.pm_snapshot.specs.declared.snapshot.Snapshot.{Snapshot}
use Rattle.pm_snapshot.proofs.Facts.{id_same}
use Rattle.pm_manifest.specs.declared.entry.Entry.{Entry}
use Rattle.pm_manifest.specs.declared.entry.ManifestMeta.{ManifestMeta}
use Rattle.pm_read_table.specs.Asked.{SoughtView}
use Rattle.pm_read_log.specs.Log.{LogAskedView, log_asked_of}
use Rattle.pm_read_log.specs.LogReader as log
use Rattle.pm_read_log.specs.LogReader.{Opens}
use Rattle.pm_read_table.specs.Reader as reader
use Rattle.pm_read_table.specs.Reading.{Filed}
use Rattle.pm_read_table.specs.View.{kept_for}
use Rattle.pm_read_table.specs.declared.asked.Wanted.TheVariants as wants
use Rattle.pm_read_log.specs.declared.log_phase.LogPhase.{LogPhase}
use Rattle.pm_read_log.specs.declared.log_phase.LogPhase.TheVariants as logs
use Rattle.pm_read_table.specs.declared.phase.Phase as view_phase
use Rattle.pm_read_table.specs.declared.phase.Phase.TheVariants as readers
use Rattle.pm_read_table.specs.declared.view.View.{View}
use Rattle.pm_read_whole.specs.Whole.{IsAskedWhole, IsLogOf, IsOpened, IsWholeOf, IsWholeView}

pub some_same : (x y : Snapshot) → Some x ≡ Some y → x ≡ y
some_same x y e = cc

-- ---- the reader of the view

manifests_whole : (q : SoughtView) (x : Snapshot) (done rest : List ManifestMeta) (files : Filed) (kept : List Entry) (m : view_phase.Phase)
    → IsAskedWhole q.asked x.id → reader.GoesOn q x done rest files kept m → IsWholeOf m
manifests_whole q x done [] files kept m whole (v, view, by, is) =
    let viewer : IsWholeView v = record {
      snapshot = x;
      is_snapshot = view.snapshot;
      is_id = view.id;
      wanted = by.wanted ∙ whole.0 ∙ ap (λ (id : ℕ). wants.Whole id) (sym view.id);
      after_origin = subst (λ (id : ℕ). 1 ≤ id) (sym view.id) whole.1;
    } in
    subst IsWholeOf (sym is) viewer
manifests_whole q x done (meta ∷ rest) files kept m whole is = subst IsWholeOf (sym is) whole

-- it goes on to read one snapshot whole
pub stays_whole : (m : view_phase.Phase) (answer : Answer) (new : view_phase.Phase) → reader.Goes m answer new → IsWholeOf m → IsWholeOf new
stays_whole (readers.List a) answer new goes whole = absurd whole
stays_whole (readers.Origin q) answer new goes whole = absurd whole
stays_whole (readers.Snapshot q id) (answers.Found (Some bytes)) new (x, reads, schema, is) whole =
    subst IsWholeOf (sym is) (subst (IsAskedWhole q.asked) (sym (id_same id bytes x reads)) whole)
stays_whole (readers.Base q x) (answers.Found None) new is whole = subst IsWholeOf (sym is) whole
stays_whole (readers.Base q x) (answers.Found (Some bytes)) new (base, reads, is) whole = subst IsWholeOf (sym is) whole
stays_whole (readers.Delta q x base) (answers.Found None) new is whole = subst IsWholeOf (sym is) whole
stays_whole (readers.Delta q x base) (answers.Found (Some bytes)) new (delta, reads, (files, left, within, on)) whole =
    manifests_whole q x [] (base.items ++ delta) files [] new whole on
stays_whole (readers.Manifests r) (answers.Found None) new is whole = subst IsWholeOf (sym is) whole
stays_whole (readers.Manifests r) (answers.Found (Some bytes)) new (own, reads, (files, order, left, on)) whole =
    manifests_whole r.sought r.snapshot (r.done ++ r.next ∷ []) r.rest files (r.kept ++ kept_for r.sought.asked.wanted own) new whole on
stays_whole m answer new goes whole = absurd goes

-- ---- the reader of the changelog

-- it reads the changelog of the view's snapshot, and is ready or has a call left
record IsOnLog (v : View) (m : LogPhase) : Type 0 where
  of : IsLogOf v m
  left : log.IsReady m ⊎ (0 < log.calls_left m)

log_at : (v : View) (m to : LogPhase) → m ≡ to → IsLogOf v to → 0 < log.calls_left to → IsOnLog v m
log_at v m to is of left = subst (IsOnLog v) (sym is) (record { of = of; left = inr left })

entries_on : (v : View) (a : LogAskedView) (x : Snapshot) (done rest : List ManifestMeta) (changes : List Entry) (m : LogPhase) → a ≡ log_asked_of v.schema v.id
    → v.snapshot ≡ Some x → log.GoesOn a x done rest changes m → IsOnLog v m
entries_on v a x done [] changes m asked at (l, logged, is) =
    let schema : v.schema ≡ l.schema = sym (logged.schema ∙ ap (λ (a : LogAskedView). a.schema) asked) in
    let snapshot : v.snapshot ≡ Some l.snapshot = at ∙ ap (λ (x : Snapshot). Some x) (sym logged.snapshot) in
    subst (IsOnLog v) (sym is) (record { of = (schema, snapshot); left = inl tt })
entries_on v a x done (meta ∷ rest) changes m asked at is = log_at v m _ is (asked, at) (omega arith)

log_on : (v : View) (r : LogPhase) (answer : Answer) (to : LogPhase) → IsLogOf v r → log.Goes r answer to → IsOnLog v to
log_on v (logs.Snapshot a) answer to of goes = absurd of
log_on v (logs.List a x list) (answers.Found None) to (asked, at) is = log_at v to _ is asked (omega arith)
log_on v (logs.List a x list) (answers.Found (Some bytes)) to (asked, at) (metas, reads, within, on) = entries_on v a x [] metas [] to asked at on
log_on v (logs.Manifests r) (answers.Found None) to (asked, at) is = log_at v to _ is asked (omega arith)
log_on v (logs.Manifests r) (answers.Found (Some bytes)) to (asked, at) (own, reads, (each, on)) =
    entries_on v r.asked r.snapshot (r.done ++ r.next ∷ []) r.rest (r.changes ++ own) to asked at on
log_on v r answer to of goes = absurd goes

pub log_left : (v : View) (r : LogPhase) (answer : Answer) (to : LogPhase) → IsLogOf v r → log.Goes r answer to → log.IsReady to ⊎ (0 < log.calls_left to)
log_left v r answer to of goes = (log_on v r answer to of goes).left

pub log_stays : (v : View) (r : LogPhase) (answer : Answer) (to : LogPhase) → IsLogOf v r → log.Goes r answer to → IsLogOf v to
log_stays v r answer to of goes = (log_on v r answer to of goes).of

opened_at : (v : View) (x : Snapshot) (o : Option (List ℕ)) (m : LogPhase) → v.snapshot ≡ Some x → x.id ≡ v.id → Opens (log_asked_of v.schema x.id) x o m
    → IsOnLog v m
opened_at v x None m at id on = entries_on v (log_asked_of v.schema x.id) x [] [] [] m (ap (λ (id : ℕ). log_asked_of v.schema id) id) at on
opened_at v x (Some list) m at id is = log_at v m _ is (ap (λ (id : ℕ). log_asked_of v.schema id) id, at) (omega arith)

opened_on : (v : View) (m : LogPhase) → IsWholeView v → IsOpened v m → IsOnLog v m
opened_on v m whole (x, at, opens) =
    let same : whole.snapshot ≡ x = some_same whole.snapshot x (sym whole.is_snapshot ∙ at) in
    let id : x.id ≡ v.id = sym (whole.is_id ∙ ap (λ (x : Snapshot). x.id) same) in
    opened_at v x x.changelog_list m at id opens

pub opened_left : (v : View) (m : LogPhase) → IsWholeView v → IsOpened v m → log.IsReady m ⊎ (0 < log.calls_left m)
opened_left v m whole opened = (opened_on v m whole opened).left

pub opened_of : (v : View) (m : LogPhase) → IsWholeView v → IsOpened v m → IsLogOf v m
opened_of v m whole opened = (opened_on v m whole opened).of
