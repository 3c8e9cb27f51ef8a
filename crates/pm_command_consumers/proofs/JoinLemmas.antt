-- Calls after those that read a schema, where nobody else acts.
use Rattle.std.proofs.Common.{◌≡◌, inl, inr, ℕ, ◌+◌, ◌≤◌, Bool, true, false, List, [], ◌∷◌, ◌++◌, length, drop, Option, None, Some, IsSomeAnd, Ok, refl, sym, ap, subst, ◌∙◌, arith, append-nil, if◌then◌else◌}
use Rattle.std.proofs.lemmas.List.{drop_at}
use Rattle.pm_base.specs.Faults.{Rose}
use Rattle.pm_store.specs.declared.call.Op.{Op}
use Rattle.pm_store.specs.Files.{Files, files_after}
use Rattle.pm_store.specs.Store.{StoreView, FromFirst, GoesOn, IsAlone, IsLater, at_first_own, ops_at_first_own, others_in, up_to_own}
use Rattle.pm_store.proofs.ImageLaws.{Extends-trans}
use Rattle.pm_store.proofs.StepLaws.{alone_parts, others_in-append}
use Rattle.pm_machine.specs.Trace.{Event, HasTrace, Traces}
use Rattle.pm_machine.proofs.AloneLaws.{Traces-first, Traces-goes_on, Traces-later, Traces-same_first}
use Rattle.pm_machine.proofs.Facts.{Traces-join}
use Rattle.pm_model_history.specs.History.{History, IsTableOf}
use Rattle.pm_model_folder.specs.Folder.{Folder}
use Rattle.pm_read_schema.specs.AllCalls.{DidRead, HasFiles, ReadsTables, Stay}
use Rattle.pm_read_schema.specs.Trace as reader
use Rattle.pm_read_schema.specs.declared.phase.Phase.TheVariants as readers
use Rattle.pm_read_schema.proofs.LeadLemmas.{none_last}
use Rattle.pm_schema.specs.Again.{IsDeclared}
use Rattle.pm_schema.specs.declared.schema.TableSchema.{TableSchema}
use Rattle.pm_command_consumers.specs.Consumers.{AfterSchema}

-- ---- together

pub after_schema : (s : TableSchema) (Next : List Event → Type 0) (first middle after : StoreView) → IsDeclared s → HasTrace (DidRead (Ok s)) first middle
    → HasTrace Next middle after → HasTrace (AfterSchema Next) first after
after_schema s Next first middle after declared (earlier, has, trace) (later, next, rest) =
    (earlier ++ later, (s, earlier, later, declared, has, next, refl), Traces-join earlier later first middle after trace rest)

-- ---- the moment of the first call

no_others : (ops more : List Op) → others_in (ops ++ more) ≡ others_in ops → others_in more ≡ 0
no_others ops more alone = omega (arith, alone, others_in-append ops more)

none_up_to : (ops : List Op) → others_in ops ≡ 0 → up_to_own ops ≡ []
none_up_to [] none = refl
none_up_to (op ∷ ops) none = by op.is_own none
  where
    by : (own : Bool) → (if own then 0 else 1) + others_in ops ≡ 0 → (if own then [] else op ∷ up_to_own ops) ≡ []
    by true none = refl
    by false none = absurd (omega (arith, none))

-- where nobody else acts from a moment on, that is right before the first own call
same_first : (f : Files) (first after : StoreView) → GoesOn first after → IsAlone first after → HasFiles f first → at_first_own first after ≡ first
same_first f first after goes alone has = ap (λ (ops : Option (List Op)). record { ops = ops; faults = first.faults }) (by first.ops after.ops goes alone has)
  where
    by : (known now : Option (List Op)) → GoesOn (record { ops = known; faults = 0 }) (record { ops = now; faults = 0 })
        → IsAlone (record { ops = known; faults = 0 }) (record { ops = now; faults = 0 }) → IsSomeAnd known (λ ops. files_after ops ≡ f)
        → ops_at_first_own known now ≡ known
    by None now goes alone has = absurd has
    by (Some ops) now (more, is, none) alone has =
        let alone_here : others_in (ops ++ more) ≡ others_in ops =
        subst (λ (now : Option (List Op)). IsAlone (record { ops = Some ops; faults = 0 }) (record { ops = now; faults = 0 })) is alone in
        let rest : drop (length ops) (ops ++ more) ≡ more = drop_at ops more (length ops) refl in
        ap (ops_at_first_own (Some ops)) is
        ∙ ap (λ (left : List Op). Some (ops ++ up_to_own left)) rest
        ∙ ap (λ (left : List Op). Some (ops ++ left)) (none_up_to more (no_others ops more alone_here))
        ∙ ap Some (append-nil ops)

-- what is promised from the first call on is so of a moment from which nobody else acts
at_first : (P : StoreView → StoreView → Type 0) (f : Files) (first after : StoreView) → GoesOn first after → IsAlone first after → HasFiles f first
    → FromFirst P first after → P first after
at_first P f first after goes alone has promised =
    let same = same_first f first after goes alone has in
    subst (λ (moment : StoreView). P moment after) same
    (promised (subst (λ (moment : StoreView). IsAlone moment after) (sym same) alone))

-- ---- after the schema

pub rose_wider : (a b c : ℕ) → a ≤ b → Rose b c → Rose a c
rose_wider a b c low rose = omega (arith, rose, low)

pub stay_join : (f : Files) (first middle after : StoreView) → Stay f first middle → Stay f middle after → Stay f first after
stay_join f first middle after one other = record {
  here = other.here;
  images = Extends-trans (λ image. image ≡ f) first.ops middle.ops after.ops one.images other.images;
}

-- some call read the schema
some_read : (s : TableSchema) → reader.Did (readers.Ready s) [] → ⊥
some_read s (inl ((id, bytes, is, (earlier, lists, at)), some)) = none_last earlier (reader.read_schema id (Some bytes)) at
some_read s (inr (names, there, (earlier, has, none, at))) = none_last earlier (reader.listed_snapshots names) at

-- a table's schema was read where nobody else acts, and what is promised of the calls after that is so from there on
pub record HasRead (P : StoreView → StoreView → Type 0) (s : TableSchema) (f : Files) (h : History) (first middle after : StoreView) : Type 0 where
  pub schema : IsTableOf s h
  pub stay : Stay f first middle
  pub wider : first.faults ≤ middle.faults
  pub next : P middle after

-- the same moment is right before the first call that reads the schema
read_first : (s : TableSchema) (own more : List Event) (before middle after : StoreView) → reader.Did (readers.Ready s) own → Traces own before middle
    → Traces more middle after → at_first_own before middle ≡ at_first_own before after
read_first s [] more before middle after has trace rest = absurd (some_read s has)
read_first s (event ∷ own) more before middle after has trace rest = Traces-same_first event own more before middle after trace rest

pub read_then : (P : StoreView → StoreView → Type 0) (Next : List Event → Type 0) (s : TableSchema) (f : Files) (h : History) (before middle after : StoreView)
    → IsAlone (at_first_own before after) after → HasFiles f (at_first_own before after) → Folder f h → HasTrace (DidRead (Ok s)) before middle
    → ReadsTables before middle (Ok s) → HasTrace Next middle after → FromFirst P middle after
    → HasRead P s f h (at_first_own before after) middle after
read_then P Next s f h before middle after alone has folder (own, did, trace) reads (more, next, rest) promised =
    let same = read_first s own more before middle after did trace rest in
    let late = Traces-later more middle after rest in
    let goes = Traces-goes_on more middle after rest in
    from_first same late goes
  where
    from_first : at_first_own before middle ≡ at_first_own before after → IsLater middle after → GoesOn middle after
        → HasRead P s f h (at_first_own before after) middle after
    from_first same late goes =
        let first = at_first_own before after in
        let early : IsLater first middle = subst (λ (moment : StoreView). IsLater moment middle) same (Traces-later own (at_first_own before middle) middle (Traces-first own before middle trace)) in
        let parts = alone_parts first middle after early late alone in
        let here : IsAlone (at_first_own before middle) middle = subst (λ (moment : StoreView). IsAlone moment middle) (sym same) parts.0 in
        let there : HasFiles f (at_first_own before middle) = subst (HasFiles f) (sym same) has in
        let read = reads here f h there folder in
        record {
          schema = read.schema;
          stay = subst (λ (moment : StoreView). Stay f moment middle) same read.files;
          wider = early.faults;
          next = at_first P f middle after goes parts.1 read.files.here promised;
        }
