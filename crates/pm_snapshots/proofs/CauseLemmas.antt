-- Which refusals a folder that stands can show a lister, whatever others do between its calls.
use Rattle.std.proofs.Common.{◌≡◌, inl, inr, ℕ, zero, suc, ◌≤◌, List, Option, None, Some, option_map, IfSome, Result, Ok, Err, refl, sym, ap, ◌∙◌, subst, arith}
use Rattle.std.specs.FinMap as map
use Rattle.std.proofs.lemmas.Option.{IfSome_then}
use Rattle.pm_values.specs.declared.refusal.Refusal.{Refusal}
use Rattle.pm_values.specs.declared.refusal.Refusal.TheVariants as refusals
use Rattle.pm_store.specs.declared.answer.Answer.{Answer}
use Rattle.pm_store.specs.declared.answer.Answer.TheVariants as answers
use Rattle.pm_store.specs.declared.call.Call.{Call}
use Rattle.pm_store.specs.Answers.{Answers}
use Rattle.pm_store.specs.Files.{Files}
use Rattle.pm_machine.specs.Moves.{IsKept, Truthful}
use Rattle.pm_machine.specs.Running.{Refuses}
use Rattle.pm_machine.proofs.PhaseFacts.{truthful_of_spared}
use Rattle.pm_model_history.specs.History.{IsTableOf}
use Rattle.pm_schema.specs.declared.schema.TableSchema.{TableSchema}
use Rattle.pm_snapshot.specs.Snapshot.{snapshot_in}
use Rattle.pm_snapshot.specs.declared.fault.SnapFault.{SnapFault}
use Rattle.pm_snapshot.specs.declared.fault.SnapFault.TheVariants as faults
use Rattle.pm_snapshot.specs.declared.snapshot.Snapshot.{Snapshot}
use Rattle.pm_model_folder.specs.Ledger.{IsKnown, Past, Stands}
use Rattle.pm_model_folder.specs.Meaning.{HasSnapshotAt}
use Rattle.pm_model_folder.specs.Paths.{snapshot_path}
use Rattle.pm_model_folder.proofs.Facts.{some-none}
use Rattle.pm_model_folder.proofs.LedgerFacts.{at-table, stood-same}
use Rattle.pm_read_schema.specs.Beside.{IsTold}
use Rattle.pm_read_schema.specs.Meaning as reader_meaning
use Rattle.pm_read_schema.specs.Reader as reader
use Rattle.pm_read_schema.specs.declared.phase.Phase as schema_phase
use Rattle.pm_read_schema.proofs.Facts as reader_facts
use Rattle.pm_snapshots.specs.Lister.{snapshot_call, next_call, IsLister, Shown}
use Rattle.pm_snapshots.specs.Meaning.{IsReadingIn, Knows, MayRefuse}
use Rattle.pm_snapshots.specs.Reading.{ReadingView, next_id}
use Rattle.pm_snapshots.specs.declared.phase.Phase.{Phase}
use Rattle.pm_snapshots.specs.declared.phase.Phase.TheVariants as phases
use Rattle.pm_snapshots.proofs.Facts.{spares}
use Rattle.pm_snapshots.proofs.ReadingLemmas.{next_listed}

absent_gone : (f : Files) (s : TableSchema) (id : ℕ) → 1 ≤ id → None ≡ map.get f (snapshot_path id) → HasSnapshotAt f s id → ⊥
absent_gone f s zero least none there = omega (arith, least)
absent_gone f s (suc id) least none there = some-none (map.get f (snapshot_path (suc id))) there (sym none)

-- a known snapshot whose file is absent has gone
expired : (f : Files) (p : Past) (s : TableSchema) (id : ℕ) (refusal : Refusal) → IsTableOf s p.history → IsKnown p id
    → None ≡ map.get f (snapshot_path id) → refusal ≡ refusals.Expired id → MayRefuse f p refusal
expired f p s id refusal table known none is = subst (MayRefuse f p) (sym is) (record {
  schema = s;
  table = table;
  within = known.to;
  absent = absent_gone f s id known.after_origin none;
})

bytes_same : (one other : List ℕ) → Some one ≡ Some other → one ≡ other
bytes_same one other same = cc

bad_good : (s : Snapshot) → ◌≡◌ {A = Result Snapshot SnapFault} (Err faults.Bad) (Ok s) → ⊥
bad_good s clash = cc

-- and where it is there, its bytes are one's
not_bad : (f : Files) (p : Past) (s : TableSchema) (id : ℕ) (bytes : List ℕ) → Stands f p → IsTableOf s p.history → IsKnown p id
    → Some bytes ≡ map.get f (snapshot_path id) → snapshot_in id bytes ≡ Err faults.Bad → ⊥
not_bad f p s id bytes stands table known there bad =
    let own = at-table f p s stands table in
    let commit = own.3.committed id known in
    let stood = stood-same f p s id (snapshot_path id) bytes stands table known (inl refl) (sym there) in
    let same = bytes_same bytes commit.there.0 (sym stood ∙ commit.there.1) in
    bad_good commit.snapshot (sym bad ∙ ap (snapshot_in id) same ∙ commit.there.2)

one_id : (id other : ℕ) → Some id ≡ Some other → id ≡ other
one_id id other same = cc

-- the next snapshot's file, as it is found
module _ (r : ReadingView) (refusal : Refusal) (f : Files) (p : Past) (stands : Stands f p) (known : IsReadingIn p r) where
  absent_cause : (next : Option ℕ) → next_id r ≡ next → (id : ℕ) → next_id r ≡ Some id → refusal ≡ refusals.Expired id
      → IfSome (option_map snapshot_call next) (λ call. Answers call (answers.Found None) f → MayRefuse f p refusal)
  absent_cause None at id next is = tt
  absent_cause (Some other) at id next is = λ told.
      let same : other ≡ id = one_id other id (sym at ∙ next) in
      expired f p r.schema id refusal known.table (known.ids id (next_listed r id next)) (told ∙ ap (λ id. map.get f (snapshot_path id)) same) is

  bytes_cause : (next : Option ℕ) → next_id r ≡ next → (id : ℕ) (bytes : List ℕ) → next_id r ≡ Some id → snapshot_in id bytes ≡ Err faults.Bad
      → IfSome (option_map snapshot_call next) (λ call. Answers call (answers.Found (Some bytes)) f → MayRefuse f p refusal)
  bytes_cause None at id bytes next bad = tt
  bytes_cause (Some other) at id bytes next bad = λ told.
      let same : other ≡ id = one_id other id (sym at ∙ next) in
      absurd (not_bad f p r.schema id bytes stands known.table (known.ids id (next_listed r id next))
      (told ∙ ap (λ id. map.get f (snapshot_path id)) same) bad)

memory_may : (next : Option Call) (answer : Answer) (refusal : Refusal) (f : Files) (p : Past) → refusal ≡ refusals.Memory
    → IfSome next (λ call. Answers call answer f → MayRefuse f p refusal)
memory_may None answer refusal f p is = tt
memory_may (Some call) answer refusal f p is = λ told. subst (MayRefuse f p) (sym is) tt

-- what the reader of the schema shows
reader_may : (refusal : Refusal) (f : Files) (p : Past) → reader_meaning.MayRefuse p.history refusal → MayRefuse f p refusal
reader_may refusals.Memory f p may = tt
reader_may refusals.NoTable f p may = may
reader_may other f p may = absurd may

schema_cause : (r : schema_phase.Phase) (next : Option Call) (answer : Answer) (refusal : Refusal) (f : Files) (p : Past) → reader.next_call r ≡ next
    → reader.Shown r answer refusal → Stands f p → Knows (phases.Schema r) f p → IfSome next (λ call. Answers call answer f → MayRefuse f p refusal)
schema_cause r None answer refusal f p is shown stands known = tt
schema_cause r (Some call) answer refusal f p is shown stands known = λ told.
    reader_may refusal f p (reader_facts.cause r call answer refusal f p stands known is told shown)

may_at : (m : Phase) (answer : Answer) (refusal : Refusal) (f : Files) (p : Past) → Shown m answer refusal → Stands f p → Knows m f p
    → IfSome (next_call m) (λ call. Answers call answer f → MayRefuse f p refusal)
may_at (phases.Schema r) answer refusal f p shown stands known = schema_cause r (reader.next_call r) answer refusal f p refl shown stands known
may_at (phases.List s) (answers.Listed names) refusal f p is stands known =
    memory_may (next_call (phases.List s)) (answers.Listed names) refusal f p is
may_at (phases.Read r) (answers.Found None) refusal f p (id, next, is) stands known =
    absent_cause r refusal f p stands known (next_id r) refl id next is
may_at (phases.Read r) (answers.Found (Some bytes)) refusal f p (id, next, inl is) stands known =
    memory_may (next_call (phases.Read r)) (answers.Found (Some bytes)) refusal f p is
may_at (phases.Read r) (answers.Found (Some bytes)) refusal f p (id, next, inr bad) stands known =
    bytes_cause r refusal f p stands known (next_id r) refl id bytes next bad.1
may_at m answer refusal f p shown stands known = absurd shown

pub at_call : (next : Option Call) (call : Call) (P : Call → Type 0) → next ≡ Some call → IfSome next P → P call
at_call None call P is if = cc
at_call (Some own) call P is if = let same : own ≡ call = cc in subst P same if

pub causes : (m : Phase) (call : Call) (answer : Answer) (refusal : Refusal) (f : Files) (p : Past) → Stands f p → Knows m f p
    → next_call m ≡ Some call → Answers call answer f → Shown m answer refusal → MayRefuse f p refusal
causes m call answer refusal f p stands known is told shown =
    at_call (next_call m) call (λ call. Answers call answer f → MayRefuse f p refusal) is (may_at m answer refusal f p shown stands known) told

-- ---- what a refusal tells

may_tell : (refusal : Refusal) (f : Files) (p : Past) → MayRefuse f p refusal → IsTold refusal f p
may_tell refusals.Memory f p may = tt
may_tell refusals.NoTable f p may = may
may_tell (refusals.Expired id) f p may = may
may_tell other f p may = absurd may

-- of want of memory nothing need be told
pub memory_next : (next : Option Call) (answer : Answer) (refusal : Refusal) (f : Files) (p : Past) → refusal ≡ refusals.Memory
    → IfSome next (λ call. Answers call answer f → IsTold refusal f p)
memory_next next answer refusal f p is =
    IfSome_then next (memory_may next answer refusal f p is) (λ call may told. may_tell refusal f p (may told))

pub cause_at : (m : Phase) (answer : Answer) (refusal : Refusal) (f : Files) (p : Past) → Shown m answer refusal → Stands f p → Knows m f p
    → IfSome (next_call m) (λ call. Answers call answer f → IsTold refusal f p)
cause_at m answer refusal f p shown stands known =
    IfSome_then (next_call m) (may_at m answer refusal f p shown stands known) (λ call may told. may_tell refusal f p (may told))

pub truthful : Truthful next_call IsLister (Refuses Shown phases.Over) Stands (λ m. IsKept) Knows IsTold
truthful = truthful_of_spared next_call IsLister Shown phases.Over Stands Knows IsTold spares
    (λ m call answer refusal f p held stands known is told shown. may_tell refusal f p (causes m call answer refusal f p stands known is told shown))
    (λ f p. tt) (λ path f p. tt)
