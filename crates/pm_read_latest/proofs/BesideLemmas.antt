-- What the listing of the snapshots makes known, whatever others do.
use Rattle.std.proofs.Common.{◌≡◌, inl, inr, ℕ, ◌≤◌, [], ◌∷◌, refl, sym, ap, subst}
use Rattle.std.specs.FinMap as map
use Rattle.pm_values.specs.declared.refusal.Refusal.{Refusal}
use Rattle.pm_store.specs.declared.answer.Answer.TheVariants as answers
use Rattle.pm_store.specs.declared.call.Effect.TheVariants as effects
use Rattle.pm_store.specs.Answers.{Answers}
use Rattle.pm_store.specs.Files.{Files, IsListing, files_after}
use Rattle.pm_store.specs.Store.{StoreView, whole}
use Rattle.pm_store.proofs.StepLaws.{Steps-weaker}
use Rattle.pm_machine.specs.Moves.{IsKept, Keeps, Moves}
use Rattle.pm_machine.specs.Step.{Answered}
use Rattle.pm_machine.specs.Trace.{Acts, Ended, Event}
use Rattle.pm_model_folder.specs.Paths.{snapshot_folder}
use Rattle.pm_paths.specs.Ids.{IsLatest}
use Rattle.pm_read_schema.specs.Reader.{snapshots_call}
use Rattle.pm_read_schema.specs.Trace.{Names, listed_snapshots}
use Rattle.pm_read_schema.proofs.AllCallsLemmas.{list_still}
use Rattle.pm_read_schema.proofs.LeadLemmas.{head_same}
use Rattle.pm_snapshot.specs.Names.{greatest}
use Rattle.pm_model_folder.specs.Ledger.{Past, Stands, count_of}
use Rattle.pm_read_schema.specs.Beside.{AnyPast, IsTold, Learns}
use Rattle.pm_read_schema.proofs.BesideFacts.{PastStays, learns-moves, learns-none}
use Rattle.pm_read_latest.specs.Meaning.{Knows}
use Rattle.pm_read_latest.specs.Trace.{Did, HasLatest}
use Rattle.pm_read_latest.specs.declared.phase.Phase.{Phase}
use Rattle.pm_read_latest.specs.declared.phase.Phase.TheVariants as phases
use Rattle.pm_read_latest.proofs.Facts.{knows_still, latest_of}

begun-learned : (m : Phase) (store : StoreView) → m ≡ phases.List → Learns AnyPast (Knows m) store store
begun-learned m store first = subst (λ (m : Phase). Learns AnyPast (Knows m) store store) (sym first) (learns-none AnyPast store)

pub found-learned : PastStays → (latest : ℕ) (m new : Phase) (before after : StoreView) → m ≡ phases.List → new ≡ phases.Ready latest
    → Moves Stands IsKept (Knows m) (Knows new) before after
    → Learns AnyPast (λ f p. (latest ≤ greatest) × (latest ≤ count_of p.history)) before after
found-learned past latest m new before after first last moves =
    subst (λ (m : Phase). Learns AnyPast (Knows m) before after) last
    (learns-moves past AnyPast (Knows m) (Knows new) before before after (knows_still m) (begun-learned m before first) moves)

-- at the listing the id is that of the newest snapshot
abbrev IsCount : ℕ → Files → Past → Type 0
IsCount latest f p = latest ≡ count_of p.history

count-learned : PastStays → (latest : ℕ) (names : Names) (before after : StoreView) → IsLatest names.items latest
    → Answered snapshots_call (answers.Listed names) before after → Learns AnyPast (IsCount latest) before after
count-learned past latest names before after newest (steps, may) =
    learns-moves past AnyPast AnyPast (IsCount latest) before before after (λ other f after p q stands advances known. tt) (learns-none AnyPast before)
    (inl (
      whole snapshots_call,
      refl,
      Steps-weaker (whole snapshots_call) (λ ops. Answers snapshots_call (answers.Listed names) (files_after ops))
          (λ ops. Keeps Stands IsKept AnyPast (IsCount latest) (whole snapshots_call) (files_after ops)) before after
          (λ ops told. keeps (files_after ops) told) steps,
    ))
  where
    keeps : (f : Files) → IsListing snapshot_folder names.items f → Keeps Stands IsKept AnyPast (IsCount latest) (whole snapshots_call) f
    keeps f told p stands known = (
      (λ effect. (p, record { files = λ path. ap (λ (g : Files). map.get g path) (list_still snapshot_folder f effect); past = refl })),
      (
        p,
        record { files = λ path. ap (λ (g : Files). map.get g path) (list_still snapshot_folder f effects.Whole); past = refl },
        latest_of f p.history latest names.items stands.folder newest told,
      ),
    )

none-listed : (latest : ℕ) → HasLatest latest [] → ⊥
none-listed latest (names, newest, is) = cc

pub found-counted : PastStays → (latest : ℕ) (m new : Phase) (before after : StoreView) → m ≡ phases.List → new ≡ phases.Ready latest
    → Acts (Did m) (λ own. Did new own × Unit {0}) before after → Learns AnyPast (λ f p. latest ≡ count_of p.history) before after
found-counted past latest m new before after first last (inl (event, ended, does)) =
    let begun : Did m [] = subst (λ (m : Phase). Did m []) (sym first) refl in
    let (names, newest, is) : HasLatest latest (event ∷ []) = subst (λ (m : Phase). Did m (event ∷ [])) last (does [] begun).0 in
    let same = head_same event (listed_snapshots names) [] [] is in
    count-learned past latest names before after newest (subst (λ (event : Event). Ended event.call event.answer before after) same ended)
found-counted past latest m new before after first last (inr (none, does)) =
    let begun : Did m [] = subst (λ (m : Phase). Did m []) (sym first) refl in
    absurd (none-listed latest (subst (λ (m : Phase). Did m []) last (does [] begun).0))

pub refused-learned : PastStays → (refusal : Refusal) (m : Phase) (before after : StoreView) → m ≡ phases.List
    → Moves Stands IsKept (Knows m) (IsTold refusal) before after → Learns AnyPast (IsTold refusal) before after
refused-learned past refusal m before after first =
    learns-moves past AnyPast (Knows m) (IsTold refusal) before before after (knows_still m) (begun-learned m before first)
