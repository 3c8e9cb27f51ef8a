-- All calls of an expirer, one after another: what they were, and what they bring to a past.
use Rattle.std.proofs.Common.{◌≡◌, inl, inr, ℕ, ◌<◌, List, [], ◌∷◌, ◌++◌, Option, None, Some, IsSomeAnd, Result, Ok, Err, refl, sym, ap, ◌∙◌, subst, arith, append-nil, append_assoc}
use Rattle.pm_values.specs.declared.refusal.Refusal.{Refusal}
use Rattle.pm_values.specs.declared.refusal.Refusal.TheVariants as refusals
use Rattle.pm_store.specs.declared.call.Op.{Op}
use Rattle.pm_store.specs.Files.{Files, after_op, files_after}
use Rattle.pm_store.specs.Images.{Extends}
use Rattle.pm_store.specs.Store.{StoreView, IsAlone, IsLater}
use Rattle.pm_store.proofs.ImageLaws.{Extends-refl}
use Rattle.pm_store.proofs.StepLaws.{alone_parts}
use Rattle.pm_machine.specs.Moves.{Keeps, Moves}
use Rattle.pm_machine.specs.Trace.{Acts, Event, HasTrace, before_call}
use Rattle.pm_machine.proofs.AloneLaws.{Follows, Follows-first, Follows-meanwhile, Follows-steps}
use Rattle.pm_machine.proofs.Facts.{HasTrace-acts, image_changed}
use Rattle.pm_schema.specs.declared.schema.TableSchema.{TableSchema}
use Rattle.pm_model_history.specs.History.{IsTableOf}
use Rattle.pm_model_folder.specs.Changes.{Actor, HavePlainNames}
use Rattle.pm_model_folder.specs.Ledger.{Advances, Past, Stands}
use Rattle.pm_create.specs.Making.{LeavesFiles}
use Rattle.pm_remove.specs.declared.phase.Phase.TheVariants as removers
use Rattle.pm_read_schema.specs.Beside.{OthersAdvance}
use Rattle.pm_beside.specs.Bringing.{Brings}
use Rattle.pm_beside.proofs.BringLemmas.{brings-moves, brings-none, brings-then, brings-weaker}
use Rattle.pm_snapshots.specs.AllCalls.{GoesOnFrom}
use Rattle.pm_snapshots.specs.Trace.{Has}
use Rattle.pm_snapshots.specs.declared.phase.Phase.TheVariants as listers
use Rattle.pm_read_expiry.specs.declared.asking.Asking.{Asking}
use Rattle.pm_read_expiry.specs.declared.phase.Phase.TheVariants as readers
use Rattle.pm_announce.specs.declared.phase.Phase.TheVariants as announcers
use Rattle.pm_expire.specs.AllCalls.{DidExpire}
use Rattle.pm_expire.specs.Beside.{BringsFrom, Expires, ExpiresAlone, ExpiresBeside, ExpiresFrom, HasCome, KnowsAnswer, StandsKnown, announces, changes_none, removes}
use Rattle.pm_expire.specs.Expirer.{calls_left}
use Rattle.pm_expire.specs.Meaning.{ExpirerMoved, ExpirerTold, IsTold, Knows, Makes}
use Rattle.pm_expire.specs.Trace.{Did, ExpirerActed}
use Rattle.pm_expire.specs.declared.all_calls.Kept.{Kept}
use Rattle.pm_expire.specs.declared.expirer.ExpireStep.{ExpireStep}
use Rattle.pm_expire.specs.declared.phase.Phase.{Phase}
use Rattle.pm_expire.specs.declared.phase.Phase.TheVariants as phases
use Rattle.pm_expire.proofs.KnowsLemmas.{same_advances}

-- ---- the trace

from-more : (s : TableSchema) (own : List Event) (event : Event) → GoesOnFrom s own → GoesOnFrom s (own ++ event ∷ [])
from-more s own event (earlier, later, has, is) =
    (earlier, later ++ event ∷ [], has, ap (λ (own : List Event). own ++ event ∷ []) is ∙ append_assoc earlier later (event ∷ []))

acts-from : (s : TableSchema) (did does : List Event → Type 0) (before after : StoreView) → Acts did does before after
    → Acts (λ own. GoesOnFrom s own × did own) (λ own. GoesOnFrom s own × does own) before after
acts-from s did does before after (inl (event, ended, next)) =
    inl (event, ended, λ own come. (from-more s own event come.0, next own come.1))
acts-from s did does before after (inr (meanwhile, next)) = inr (meanwhile, λ own come. (come.0, next own come.1))

begun-from : (s : TableSchema) (own : List Event) → Has s own → GoesOnFrom s own
begun-from s own has = (own, [], has, sym (append-nil own))

-- the first phase
abbrev pub first_phase : Asking → Phase
first_phase a = phases.Read (readers.Snapshots a (listers.List a.schema))

pub first-left : (a : Asking) (m : Phase) → m ≡ first_phase a → 0 < calls_left m
first-left a m is = subst (λ (m : Phase). 0 < calls_left m) (sym is) (omega arith)

pub came-first : (a : Asking) (m : Phase) (first now : StoreView) → m ≡ first_phase a → HasTrace (Has a.schema) first now
    → HasTrace (HasCome a m) first now
came-first a m first now is (own, has, trace) =
    (own, (begun-from a.schema own has, subst (λ (m : Phase). Did a m own) (sym is) (refl, refl, has)), trace)

pub came-further : (a : Asking) (old new : Phase) (first before after : StoreView) (step : ExpireStep) → HasTrace (HasCome a old) first before
    → ExpirerActed old new before after (Ok step) → IsLater before after → HasTrace (HasCome a new) first after
came-further a old new first before after step trace acted later =
    let t = HasTrace-acts {did = HasCome a old} {before = before} trace (acts-from a.schema (Did a old) _ before after (acted a)) later in
    (t.0, (t.1.0, t.1.1.0), t.2)

pub came-refused : (a : Asking) (old new : Phase) (first before after : StoreView) (refusal : Refusal) → HasTrace (HasCome a old) first before
    → ExpirerActed old new before after (Err refusal) → IsLater before after → HasTrace (DidExpire a (Err refusal)) first after
came-refused a old new first before after refusal trace acted later =
    let t = HasTrace-acts {did = HasCome a old} {before = before} trace (acts-from a.schema (Did a old) _ before after (acted a)) later in
    (t.0, (t.1.0, t.1.1.1), t.2)

-- the answer of an expiry that is done
abbrev pub kept_of : ℕ → ℕ → Kept
kept_of first last = record { first = first; last = last }

pub came-done : (a : Asking) (m : Phase) (first last : ℕ) (begin after : StoreView) → m ≡ phases.Done first last → HasTrace (HasCome a m) begin after
    → HasTrace (DidExpire a (Ok (kept_of first last))) begin after
came-done a m first last begin after is (own, come, trace) = (own, subst (λ (m : Phase). Did a m own) is come.1, trace)

-- memory ran out before the first of its calls
pub came-none : (a : Asking) (first now : StoreView) → HasTrace (Has a.schema) first now → HasTrace (DidExpire a (Err refusals.Memory)) first now
came-none a first now (own, has, trace) =
    (own, (begun-from a.schema own has, inl (inl (inr (inl (before_call (listers.List a.schema) refl has))))), trace)

-- ---- its changes

kind-of : (me : Actor) (m : Phase) (f after : Files) (p later : Past) → Makes me m f p after later → Expires me f p after later
kind-of me (phases.Announce (announcers.Announce x)) f after p later change = announces x change
kind-of me (phases.Announce (announcers.Consumers x c)) f after p later kept = changes_none kept
kind-of me (phases.Announce (announcers.Tags a)) f after p later kept = changes_none kept
kind-of me (phases.Announce (announcers.Announced a)) f after p later kept = changes_none kept
kind-of me (phases.Announce announcers.Over) f after p later kept = changes_none kept
kind-of me (phases.Remove first last (removers.Remove r)) f after p later change = removes r.next change
kind-of me (phases.Remove first last removers.Removed) f after p later kept = changes_none kept
kind-of me (phases.Remove first last removers.Over) f after p later kept = changes_none kept
kind-of me (phases.Read m) f after p later kept = changes_none kept
kind-of me (phases.View v m) f after p later kept = changes_none kept
kind-of me (phases.Done first last) f after p later kept = changes_none kept
kind-of me phases.Over f after p later kept = changes_none kept

-- what the laws of changes and of what is known say
pub record CallLaws : Type 0 where
  pub past : (me : Actor) (f after : Files) (p q : Past) → Stands f p → Advances me f p after q → Stands after q
  pub known : (m : Phase) (other : Actor) (f after : Files) (p q : Past) → Stands f p → Advances other f p after q → Knows m f p → Knows m after q

module _ (laws : CallLaws) (me : Actor) where
  -- each keeps the past, for which the files stand on
  kept-past : (f after : Files) (p later : Past) → Expires me f p after later → later ≡ p
  kept-past f after p later (changes_none kept) = kept.past
  kept-past f after p later (announces x change) = change.same
  kept-past f after p later (removes path change) = change.same

  kept-stands : (f after : Files) (p later : Past) → Stands f p → Expires me f p after later → Stands after later
  kept-stands f after p later stands (changes_none kept) = subst (λ (q : Past). Stands after q) (sym kept.past)
      (laws.past me f after p p stands (same_advances me f after p kept.files))
  kept-stands f after p later stands (announces x change) = laws.past me f after p later stands change.advances
  kept-stands f after p later stands (removes path change) = laws.past me f after p later stands change.advances

  -- ---- whatever others do

  step-brings : (old : Phase) (knows : Files → Past → Type 0) (before after : StoreView) → Moves Stands (Makes me old) (Knows old) knows before after
      → Brings Stands (Expires me) OthersAdvance (Knows old) knows before after
  step-brings old knows before after moved =
      brings-weaker Stands (Makes me old) (Expires me) OthersAdvance OthersAdvance (Knows old) (Knows old) knows knows before after
      (λ f changed p q change. kind-of me old f changed p q change) (λ f changed p q change. change) (λ f p known. known) (λ f p stands known. known)
      (brings-moves Stands (Makes me old) OthersAdvance (Knows old)
      (λ f changed p q stands known others.
      (laws.past others.0 f changed p q stands others.1, laws.known old others.0 f changed p q stands others.1 known))
      knows before after
      (λ f changed p q stands change. kept-stands f changed p q stands (kind-of me old f changed p q change)) moved)

  pub brings-more : (first old new : Phase) (start before after : StoreView) → Brings Stands (Expires me) OthersAdvance (Knows first) (Knows old) start before
      → ExpirerMoved old new before after → Brings Stands (Expires me) OthersAdvance (Knows first) (Knows new) start after
  brings-more first old new start before after brought moved =
      brings-then Stands (Expires me) OthersAdvance (Knows first) (Knows old) (Knows new) start before after brought
      (step-brings old (Knows new) before after (moved me))

  -- and of a step that is refused
  pub brought-refused : (first old : Phase) (refusal : Refusal) (start before after : StoreView)
      → Brings Stands (Expires me) OthersAdvance (Knows first) (Knows old) start before → ExpirerTold old refusal before after
      → BringsFrom me first (Err refusal) start after
  brought-refused first old refusal start before after brought told =
      brings-then Stands (Expires me) OthersAdvance (Knows first) (Knows old) (IsTold refusal) start before after brought
      (step-brings old (IsTold refusal) before after (told me))

abbrev pub HasBrought : Phase → Phase → StoreView → StoreView → Type 0
HasBrought first m start now = (me : Actor) → Brings Stands (Expires me) OthersAdvance (Knows first) (Knows m) start now

pub brought-none : (m : Phase) (store : StoreView) → HasBrought m m store store
brought-none m store = λ me. brings-none Stands (Expires me) OthersAdvance (Knows m) store

pub brought-done : (me : Actor) (begin m : Phase) (first last : ℕ) (start after : StoreView) → m ≡ phases.Done first last → HasBrought begin m start after
    → BringsFrom me begin (Ok (kept_of first last)) start after
brought-done me begin m first last start after is brought =
    brings-weaker Stands (Expires me) (Expires me) OthersAdvance OthersAdvance (Knows begin) (Knows begin) (Knows m) (KnowsAnswer (Ok (kept_of first last))) start after
    (λ f changed p q change. change) (λ f changed p q change. change) (λ f p known. known)
    (λ f p stands known. subst (λ (m : Phase). Knows m f p) is known) (brought me)

-- at first the table is known
knows-first : (a : Asking) (m : Phase) (f : Files) (p : Past) → m ≡ first_phase a → HavePlainNames a.schema → IsTableOf a.schema p.history → Knows m f p
knows-first a m f p is plain table = subst (λ (m : Phase). Knows m f p) (sym is) (plain, (refl, table))

pub brought-all : (a : Asking) (m : Phase) (result : Result Kept Refusal) (before after : StoreView) → m ≡ first_phase a → HavePlainNames a.schema
    → ((me : Actor) → BringsFrom me m result before after) → (me : Actor) → ExpiresBeside me a.schema result before after
brought-all a m result before after is plain brought me =
    brings-weaker Stands (Expires me) (Expires me) OthersAdvance OthersAdvance (λ f p. IsTableOf a.schema p.history) (Knows m) (KnowsAnswer result) (KnowsAnswer result) before after
    (λ f changed p q change. change) (λ f changed p q change. change) (λ f p table. knows-first a m f p is plain table) (λ f p stands known. known) (brought me)

pub brought-memory : (a : Asking) (store : StoreView) (me : Actor) → ExpiresBeside me a.schema (Err refusals.Memory) store store
brought-memory a store me =
    brings-weaker Stands (Expires me) (Expires me) OthersAdvance OthersAdvance (λ f p. IsTableOf a.schema p.history) (λ f p. IsTableOf a.schema p.history)
    (λ f p. IsTableOf a.schema p.history) (KnowsAnswer (Err refusals.Memory)) store store
    (λ f changed p q change. change) (λ f changed p q change. change) (λ f p known. known) (λ f p stands known. tt)
    (brings-none Stands (Expires me) OthersAdvance (λ f p. IsTableOf a.schema p.history) store)

-- ---- where nobody else acts

-- whoever it is
someone : Actor
someone = record { session = []; number = 0 }

some-weaker : (P Q : Files → Type 0) (known : Option (List Op)) → ((f : Files) → P f → Q f) → IsSomeAnd known (λ ops. P (files_after ops))
    → IsSomeAnd known (λ ops. Q (files_after ops))
some-weaker P Q None weaker here = here
some-weaker P Q (Some ops) weaker here = weaker (files_after ops) here

module _ (laws : CallLaws) (p : Past) where
  abbrev Image : Files → Type 0
  Image f = Stands f p

  followed : (known : Option (List Op)) (old new : Phase) (before after : StoreView) → IsAlone before after → ExpirerMoved old new before after
      → Follows Image known before (StandsKnown old p) → Follows Image known after (StandsKnown new p)
  followed known old new before after alone moved so = by (moved someone)
    where
      by : Moves Stands (Makes someone old) (Knows old) (Knows new) before after → Follows Image known after (StandsKnown new p)
      by (inl (op, own, steps)) =
          Follows-steps Image (StandsKnown old p) (StandsKnown new p) known op
          (λ ops. Keeps Stands (Makes someone old) (Knows old) (Knows new) op (files_after ops)) before after so steps alone
          (λ ops here keeps.
          let f = files_after ops in
          let got = keeps p here.0 here.1 in
          let leads = got.1 in
          let kind = kind-of someone old f (after_op op f) p leads.0 leads.1 in
          let same = kept-past laws someone f (after_op op f) p leads.0 kind in
          let stands = kept-stands laws someone f (after_op op f) p leads.0 here.0 kind in (
            (subst (λ (q : Past). Stands (after_op op f) q) same stands, subst (λ (q : Past). Knows new (after_op op f) q) same leads.2),
            λ image left.
                let made = image_changed (Makes someone old) op.call f p got.0 image left in
                let change = kind-of someone old f image p made.0 made.1 in
                subst (λ (q : Past). Stands image q) (kept-past laws someone f image p made.0 change)
                (kept-stands laws someone f image p made.0 here.0 change),
          ))
      by (inr (meanwhile, stays)) =
          let same = Follows-meanwhile Image (StandsKnown old p) known before after so meanwhile alone in
          let here = same.here in
          record { ops = same.ops; is = same.is; here = (here.0, stays (files_after same.ops) p here.0 here.1); images = same.images }

-- what was known of the files at the beginning, and is known before a step
abbrev pub HasFollowed : Phase → Phase → StoreView → StoreView → Type 0
HasFollowed first m start now = IsAlone start now → (p : Past) → LeavesFiles (StandsKnown first p) start
    → Follows (λ f. Stands f p) start.ops now (StandsKnown m p)

pub followed-none : (m : Phase) (store : StoreView) → HasFollowed m m store store
followed-none m store = λ alone p here.
    Follows-first (λ f. Stands f p) (StandsKnown m p) store store.ops refl
    (some-weaker (StandsKnown m p) (λ f. Stands f p × StandsKnown m p f) store.ops (λ f known. (known.0, known)) here)

pub followed-on : CallLaws → (first old new : Phase) (start before after : StoreView) → IsLater start before → IsLater before after
    → HasFollowed first old start before → ExpirerMoved old new before after → HasFollowed first new start after
followed-on laws first old new start before after early late so moved = λ alone p here.
    let parts = alone_parts start before after early late alone in
    followed laws p start.ops old new before after parts.1 moved (so parts.0 p here)

pub followed-from : (first m : Phase) (start after : StoreView) → HasFollowed first m start after → ExpiresFrom first start after
followed-from first m start after so = λ alone p here.
    let at = so alone p here in (
      subst (λ (known : Option (List Op)). IsSomeAnd known (λ ops. Stands (files_after ops) p)) (sym at.is) at.here.0,
      subst (λ (known : Option (List Op)). Extends (λ f. Stands f p) start.ops known) (sym at.is) at.images,
    )

pub followed-all : (a : Asking) (m : Phase) (before after : StoreView) → m ≡ first_phase a → HavePlainNames a.schema → ExpiresFrom m before after
    → ExpiresAlone a.schema before after
followed-all a m before after is plain from = λ alone p table here.
    from alone p (some-weaker (λ f. Stands f p) (StandsKnown m p) before.ops (λ f stands. (stands, knows-first a m f p is plain table)) here)

pub followed-memory : (s : TableSchema) (store : StoreView) → ExpiresAlone s store store
followed-memory s store = λ alone p table here. (here, Extends-refl (λ f. Stands f p) store.ops (λ told same. at p store.ops told same here))
  where
    at : (p : Past) (known : Option (List Op)) (told : List Op) → known ≡ Some told → IsSomeAnd known (λ ops. Stands (files_after ops) p) → Stands (files_after told) p
    at p None told same here = absurd here
    at p (Some ops) told same here = let e : ops ≡ told = cc in subst (λ (ops : List Op). Stands (files_after ops) p) e here
