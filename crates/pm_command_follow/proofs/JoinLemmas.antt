-- Calls of one kind and then of another, together and apart, and where nobody else acts.
use Rattle.std.proofs.Common.{◌≡◌, ℕ, ◌+◌, ◌≤◌, Bool, true, false, List, [], ◌∷◌, ◌++◌, length, drop, Option, None, Some, IsSomeAnd, refl, sym, ap, subst, ◌∙◌, arith, append-nil, if◌then◌else◌}
use Rattle.std.proofs.lemmas.List.{drop_at}
use Rattle.pm_base.specs.Faults.{Rose}
use Rattle.pm_store.specs.declared.call.Op.{Op}
use Rattle.pm_store.specs.Files.{Files, files_after}
use Rattle.pm_store.specs.Store.{StoreView, FromFirst, GoesOn, IsAlone, at_first_own, ops_at_first_own, others_in, up_to_own}
use Rattle.pm_store.proofs.ImageLaws.{Extends-trans}
use Rattle.pm_store.proofs.StepLaws.{alone_parts, others_in-append}
use Rattle.pm_machine.specs.Trace.{Event, HasTrace, Traces}
use Rattle.pm_machine.proofs.AloneLaws.{Traces-goes_on, Traces-later}
use Rattle.pm_machine.proofs.Facts.{Traces-join, Traces-none}
use Rattle.pm_read_schema.specs.AllCalls.{HasFiles, Stay}
use Rattle.pm_command_follow.specs.Follow.{Then}

-- ---- together

pub in_a_row : (First Next : List Event → Type 0) (first middle after : StoreView) → HasTrace First first middle → HasTrace Next middle after
    → HasTrace (Then First Next) first after
in_a_row First Next first middle after (earlier, did, trace) (later, does, rest) =
    (earlier ++ later, (earlier, later, did, does, refl), Traces-join earlier later first middle after trace rest)

-- ---- apart

pub Traces-split : (own more : List Event) (first after : StoreView) → Traces (own ++ more) first after
    → (middle : StoreView) × Traces own first middle × Traces more middle after
Traces-split [] more first after trace = (first, Traces-none first, trace)
Traces-split (event ∷ own) more first after (next, ended, early, rest) =
    let parts = Traces-split own more next after rest in
    (parts.0, (next, ended, early, parts.1), parts.2)

-- ---- where nobody else acts

-- these are all own calls between two moments, nobody else acts there, and these files stand at the first
pub record IsRun (f : Files) (own : List Event) (first after : StoreView) : Type 0 where
  pub trace : Traces own first after
  pub alone : IsAlone first after
  pub has : HasFiles f first

pub rose_wider : (a b c : ℕ) → a ≤ b → Rose b c → Rose a c
rose_wider a b c low rose = omega (arith, rose, low)

stay_join : (f : Files) (first middle after : StoreView) → Stay f first middle → Stay f middle after → Stay f first after
stay_join f first middle after one other = record {
  here = other.here;
  images = Extends-trans (λ image. image ≡ f) first.ops middle.ops after.ops one.images other.images;
}

-- what is known of the first of them is there for the others
pub in_turn : {First Next : List Event → Type 0} (A B : Type 0) (f : Files) (own : List Event) (first after : StoreView) → Then First Next own
    → IsRun f own first after
    → ((earlier : List Event) (middle : StoreView) → First earlier → IsRun f earlier first middle → Stay f first middle × A)
    → (A → (later : List Event) (middle : StoreView) → Next later → first.faults ≤ middle.faults → IsRun f later middle after → Stay f middle after × B)
    → Stay f first after × B
in_turn A B f own first after (earlier, later, did, does, is) run before then_so =
    let parts = Traces-split earlier later first after (subst (λ (own : List Event). Traces own first after) is run.trace) in
    let early = Traces-later earlier first parts.0 parts.1 in
    let late = Traces-later later parts.0 after parts.2 in
    let alone = alone_parts first parts.0 after early late run.alone in
    let one = before earlier parts.0 did (record { trace = parts.1; alone = alone.0; has = run.has }) in
    let other = then_so one.1 later parts.0 does early.faults (record { trace = parts.2; alone = alone.1; has = one.0.here }) in
    (stay_join f first parts.0 after one.0 other.0, other.1)

-- ---- the moment of the first call

no_others : (ops more : List Op) → others_in (ops ++ more) ≡ others_in ops → others_in more ≡ 0
no_others ops more alone = omega (arith, alone, others_in-append ops more)

none_up_to : (ops : List Op) → others_in ops ≡ 0 → up_to_own ops ≡ []
none_up_to [] none = refl
none_up_to (op ∷ ops) none = by op.is_own none
  where
    by : (own : Bool) → (if own then 0 else 1) + others_in ops ≡ 0 → (if own then [] else op ∷ up_to_own ops) ≡ []
    by true none = refl
    by false none = absurd (omega (arith, none))

same_first : (f : Files) (first after : StoreView) → GoesOn first after → IsAlone first after → HasFiles f first → at_first_own first after ≡ first
same_first f first after goes alone has = ap (λ (ops : Option (List Op)). record { ops = ops; faults = first.faults }) (by first.ops after.ops goes alone has)
  where
    by : (known now : Option (List Op)) → GoesOn (record { ops = known; faults = 0 }) (record { ops = now; faults = 0 })
        → IsAlone (record { ops = known; faults = 0 }) (record { ops = now; faults = 0 }) → IsSomeAnd known (λ ops. files_after ops ≡ f)
        → ops_at_first_own known now ≡ known
    by None now goes alone has = absurd has
    by (Some ops) now (more, is, none) alone has =
        let alone_here : others_in (ops ++ more) ≡ others_in ops =
        subst (λ (now : Option (List Op)). IsAlone (record { ops = Some ops; faults = 0 }) (record { ops = now; faults = 0 })) is alone in
        let rest : drop (length ops) (ops ++ more) ≡ more = drop_at ops more (length ops) refl in
        ap (ops_at_first_own (Some ops)) is
        ∙ ap (λ (left : List Op). Some (ops ++ up_to_own left)) rest
        ∙ ap (λ (left : List Op). Some (ops ++ left)) (none_up_to more (no_others ops more alone_here))
        ∙ ap Some (append-nil ops)

-- what is promised from the first call on is so of a moment from which nobody else acts
pub at_first : (P : StoreView → StoreView → Type 0) (f : Files) (own : List Event) (first after : StoreView) → IsRun f own first after
    → FromFirst P first after → P first after
at_first P f own first after run promised =
    let same = same_first f first after (Traces-goes_on own first after run.trace) run.alone run.has in
    subst (λ (moment : StoreView). P moment after) same
    (promised (subst (λ (moment : StoreView). IsAlone moment after) (sym same) run.alone))
