-- A reader of a view within another machine.
use Rattle.std.proofs.Common.{◌≡◌, ◌==◌, ℕ, ◌∷◌, ◌++◌, List, [], Bool, true, false, if◌then◌else◌, None, Some, Result, IfOk, refl, sym, subst}
use Rattle.pm_values.specs.declared.refusal.Refusal.{Refusal}
use Rattle.pm_values.specs.declared.refusal.Refusal.TheVariants as refusals
use Rattle.pm_store.specs.declared.answer.Answer.{Answer}
use Rattle.pm_store.specs.declared.answer.Answer.TheVariants as answers
use Rattle.pm_schema.specs.declared.schema.TableSchema.{TableSchema}
use Rattle.pm_snapshot.specs.declared.snapshot.Snapshot.{Snapshot}
use Rattle.pm_manifest.specs.declared.entry.Entry.{Entry}
use Rattle.pm_manifest.specs.declared.entry.ManifestMeta.{ManifestMeta}
use Rattle.pm_read_table.specs.Asked.{SoughtView, sought_of}
use Rattle.pm_read_table.specs.Reader.{FailsToOpen, Goes, GoesOn, IsReady, OfSchema, WithReader, opening}
use Rattle.pm_read_table.specs.Reading.{Filed}
use Rattle.pm_read_table.specs.View.{kept_for}
use Rattle.pm_read_table.specs.declared.phase.Phase.{Phase}
use Rattle.pm_read_table.specs.declared.phase.Phase.TheVariants as phases
use Rattle.pm_read_table.specs.declared.view.View.{View}

-- the machine holds the reader, or goes on with the view; what is so of the reader is so of it once it is ready
pub with_reader : {P : Type 0} (hold : Phase → P) (Opens : View → P → Type 0) (Q : Phase → Type 0) (X : Type 0) (m : Phase) (later : P) → WithReader hold Opens m later
    → Q m → (later ≡ hold m → X) → ((v : View) → Q (phases.Ready v) → Opens v later → X) → X
with_reader hold Opens Q X (phases.List a) later is so held opened = held is
with_reader hold Opens Q X (phases.Origin q) later is so held opened = held is
with_reader hold Opens Q X (phases.Snapshot q id) later is so held opened = held is
with_reader hold Opens Q X (phases.Base q x) later is so held opened = held is
with_reader hold Opens Q X (phases.Delta q x base) later is so held opened = held is
with_reader hold Opens Q X (phases.Manifests r) later is so held opened = held is
with_reader hold Opens Q X (phases.Again a id path) later is so held opened = held is
with_reader hold Opens Q X (phases.Ready v) later is so held opened = opened v so is
with_reader hold Opens Q X phases.Over later is so held opened = held is

-- it holds a reader that isn't ready
pub held : {P : Type 0} (hold : Phase → P) (Opens : View → P → Type 0) (m : Phase) → (IsReady m → ⊥) → WithReader hold Opens m (hold m)
held hold Opens (phases.List a) none = refl
held hold Opens (phases.Origin q) none = refl
held hold Opens (phases.Snapshot q id) none = refl
held hold Opens (phases.Base q x) none = refl
held hold Opens (phases.Delta q x base) none = refl
held hold Opens (phases.Manifests r) none = refl
held hold Opens (phases.Again a id path) none = refl
held hold Opens (phases.Ready v) none = absurd (none tt)
held hold Opens phases.Over none = refl

-- it goes on with a view that is ready
pub opened : {P : Type 0} (hold : Phase → P) (Opens : View → P → Type 0) (m : Phase) (v : View) (r : Result P Refusal) → m ≡ phases.Ready v → IfOk r (Opens v)
    → IfOk r (WithReader hold Opens m)
opened hold Opens m v r is on = subst (λ (m : Phase). IfOk r (WithReader hold Opens m)) (sym is) on

-- memory ran out with a view that is ready
pub failed : (Reads : Phase → Type 0) (m : Phase) (answer : Answer) (new : Phase) (refusal : Refusal) → Goes m answer new → Reads new → refusal ≡ refusals.Memory
    → IsReady new → FailsToOpen Reads m answer refusal
failed Reads m answer (phases.Ready v) refusal goes reads is ready = (is, v, reads, goes)
failed Reads m answer new refusal goes reads is ready = absurd ready

-- ---- the schema stays

module _ (Holds : TableSchema → Type 0) where
  of_view : (s : TableSchema) (v : View) (m : Phase) → v.schema ≡ s → m ≡ phases.Ready v → Holds s → OfSchema Holds m
  of_view s v m same is of = subst (OfSchema Holds) (sym is) (subst Holds (sym same) of)

  of_opening : (q : SoughtView) (id : ℕ) (m : Phase) → m ≡ opening q id → Holds q.asked.schema → OfSchema Holds m
  of_opening q id m is of = at (id == 0) is
    where
      at : (t : Bool) → m ≡ (if t then phases.Origin q else phases.Snapshot q id) → OfSchema Holds m
      at true is = subst (OfSchema Holds) (sym is) of
      at false is = subst (OfSchema Holds) (sym is) of

  of_manifests : (q : SoughtView) (x : Snapshot) (done rest : List ManifestMeta) (files : Filed) (kept : List Entry) (m : Phase) → GoesOn q x done rest files kept m
      → Holds q.asked.schema → OfSchema Holds m
  of_manifests q x done [] files kept m (v, view, sought, is) of = of_view q.asked.schema v m view.schema is of
  of_manifests q x done (meta ∷ rest) files kept m is of = subst (OfSchema Holds) (sym is) of

  -- through each answer that a reader goes on with
  pub schema_stays : (m : Phase) (answer : Answer) (new : Phase) → Goes m answer new → OfSchema Holds m → OfSchema Holds new
  schema_stays (phases.List a) (answers.Listed names) new (ids, latest, id, are, newest, is_asked, is) of = of_opening (sought_of a ids) id new is of
  schema_stays (phases.Origin q) (answers.Found (Some bytes)) new (v, view, sought, is) of = of_view q.asked.schema v new view.schema is of
  schema_stays (phases.Snapshot q id) (answers.Found (Some bytes)) new (x, reads, schema, is) of = subst (OfSchema Holds) (sym is) of
  schema_stays (phases.Base q x) (answers.Found None) new is of = subst (OfSchema Holds) (sym is) of
  schema_stays (phases.Base q x) (answers.Found (Some bytes)) new (base, reads, is) of = subst (OfSchema Holds) (sym is) of
  schema_stays (phases.Delta q x base) (answers.Found None) new is of = subst (OfSchema Holds) (sym is) of
  schema_stays (phases.Delta q x base) (answers.Found (Some bytes)) new (delta, reads, (files, left, within, on)) of =
      of_manifests q x [] (base.items ++ delta) files [] new on of
  schema_stays (phases.Manifests r) (answers.Found None) new is of = subst (OfSchema Holds) (sym is) of
  schema_stays (phases.Manifests r) (answers.Found (Some bytes)) new (own, reads, (files, order, left, on)) of =
      of_manifests r.sought r.snapshot (r.done ++ r.next ∷ []) r.rest files (r.kept ++ kept_for r.sought.asked.wanted own) new on of
  schema_stays m answer new goes of = absurd goes
