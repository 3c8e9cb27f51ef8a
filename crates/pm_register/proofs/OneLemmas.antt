-- Calls show one answer of a registrar at most: the last of at most three says it.
use Rattle.std.proofs.Common.{◌≡◌, inl, inr, ℕ, List, [], ◌∷◌, ◌++◌, Option, None, Some, Result, Ok, Err, refl, sym, ap, ◌∙◌, subst, arith}
use Rattle.pm_values.specs.declared.refusal.Refusal.{Refusal}
use Rattle.pm_values.specs.declared.refusal.Refusal.TheVariants as refusals
use Rattle.pm_store.specs.declared.answer.Answer.{Answer}
use Rattle.pm_store.specs.declared.answer.Answer.TheVariants as answers
use Rattle.pm_store.specs.declared.answer.Swapped.TheVariants as swaps
use Rattle.pm_store.specs.declared.call.Call.{Call}
use Rattle.pm_machine.specs.Step.{path_of}
use Rattle.pm_machine.specs.Trace.{Event, faulted}
use Rattle.pm_consumer_files.specs.Floors.{Exceeds}
use Rattle.pm_register.specs.AllCalls.{DidRegister}
use Rattle.pm_register.specs.Registrar.{Registering, registration_of, settle_call}
use Rattle.pm_register.specs.Trace.{HasFloors, Shows, met_later, put_known}

-- What calls tell: an answer; or the names of floors that were listed, which may show one.
data Told : Type 0 where
  said : Result (Unit {0}) Refusal → Told
  listed : List (List ℕ) → Told

-- of the last call, where it is none that settles
abbrev ended : Call → Option Answer → Told
ended call None = said (Err (refusals.StoreFault (path_of call)))
ended call (Some (answers.Swapped (swaps.Differs other))) = said (Err (refusals.ConsumerMoved other))
ended call (Some (answers.Listed names)) = listed names.items
ended call (Some answer) = said (Err refusals.Memory)

-- of one that settles
abbrev settled : Call → Option Answer → Told
settled call (Some (answers.Swapped swaps.Swapped)) = said (Ok tt)
settled call answer = ended call answer

abbrev tell : List Event → Told
tell [] = said (Err refusals.Memory)
tell (one ∷ []) = ended one.call one.answer
tell (one ∷ (two ∷ [])) = ended two.call two.answer
tell (one ∷ (two ∷ (three ∷ own))) = settled three.call three.answer

-- which answers they show then
abbrev Means : Registering → Result (Unit {0}) Refusal → Told → Type 0
Means r result (said one) = result ≡ one
Means r (Err refusals.Memory) (listed names) = Exceeds names r.next None
Means r (Err (refusals.BelowFloor next floor)) (listed names) = (next ≡ r.next) × Exceeds names r.next (Some floor)
Means r other (listed names) = ⊥

-- ---- three calls

settling : (r : Registering) (floor : Option ℕ) (earlier own : List Event) (event : Event) → HasFloors r floor earlier → own ≡ earlier ++ event ∷ []
    → tell own ≡ settled event.call event.answer
settling r floor earlier own event (names, exceeds, at) is = ap tell (is ∙ ap (λ (earlier : List Event). earlier ++ event ∷ []) at)

shown : (r : Registering) (refusal : Refusal) (own : List Event) → Shows r refusal own → Means r (Err refusal) (tell own)
shown r refusals.Memory own (inl is) = subst (λ (own : List Event). Means r (Err refusals.Memory) (tell own)) (sym is) refl
shown r refusals.Memory own (inr (inl is)) = subst (λ (own : List Event). Means r (Err refusals.Memory) (tell own)) (sym is) refl
shown r refusals.Memory own (inr (inr (names, exceeds, is))) = subst (λ (own : List Event). Means r (Err refusals.Memory) (tell own)) (sym is) exceeds
shown r (refusals.ConsumerMoved other) own (inl is) = subst (λ (own : List Event). Means r (Err (refusals.ConsumerMoved other)) (tell own)) (sym is) refl
shown r (refusals.ConsumerMoved other) own (inr (earlier, floors, is)) =
    subst (λ (told : Told). Means r (Err (refusals.ConsumerMoved other)) told) (sym (settling r None earlier own (met_later r other) floors is)) refl
shown r (refusals.BelowFloor next floor) own (same, (names, exceeds, is)) =
    subst (λ (own : List Event). Means r (Err (refusals.BelowFloor next floor)) (tell own)) (sym is) (same, exceeds)
shown r (refusals.StoreFault path) own (inl (at, is)) =
    subst (λ (own : List Event). Means r (Err (refusals.StoreFault path)) (tell own)) (sym is)
    (ap (λ (path : List ℕ). Err (refusals.StoreFault path)) at)
shown r (refusals.StoreFault path) own (inr (inl (at, is))) =
    subst (λ (own : List Event). Means r (Err (refusals.StoreFault path)) (tell own)) (sym is)
    (ap (λ (path : List ℕ). Err (refusals.StoreFault path)) at)
shown r (refusals.StoreFault path) own (inr (inr (at, earlier, floors, is))) =
    subst (λ (told : Told). Means r (Err (refusals.StoreFault path)) told)
    (sym (settling r None earlier own (faulted (settle_call (registration_of r))) floors is))
    (ap (λ (path : List ℕ). Err (refusals.StoreFault path)) at)
shown r other own shows = absurd shows

did_so : (r : Registering) (result : Result (Unit {0}) Refusal) (own : List Event) → DidRegister r result own → Means r result (tell own)
did_so r (Ok x) own (earlier, floors, is) =
    subst (λ (told : Told). Means r (Ok tt) told) (sym (settling r None earlier own (put_known r) floors is)) refl
did_so r (Err refusal) own shows = shown r refusal own shows

-- ---- one of them

floors-one : (names : List (List ℕ)) (next one other : ℕ) → Exceeds names next (Some one) → Exceeds names next (Some other) → one ≡ other
floors-one names next one other (greatest, above) (most, over) =
    let low = greatest.most other most.listed in
    let high = most.most one greatest.listed in
    omega (arith, low, high)

none-some : (names : List (List ℕ)) (next floor : ℕ) → Exceeds names next None → Exceeds names next (Some floor) → ⊥
none-some names next floor none (greatest, above) = let low = none floor greatest.listed in omega (arith, low, above)

-- that memory ran out, or which floor exceeds the number
means-one : (r : Registering) (names : List (List ℕ)) (one other : Result (Unit {0}) Refusal) → Means r one (listed names) → Means r other (listed names)
    → one ≡ other
means-one r names (Err refusals.Memory) (Err refusals.Memory) early late = refl
means-one r names (Err refusals.Memory) (Err (refusals.BelowFloor next floor)) early late = absurd (none-some names r.next floor early late.1)
means-one r names (Err (refusals.BelowFloor next floor)) (Err refusals.Memory) early late = absurd (none-some names r.next floor late early.1)
means-one r names (Err (refusals.BelowFloor next floor)) (Err (refusals.BelowFloor other above)) early late =
    ap (λ (next : ℕ). Err (refusals.BelowFloor next floor)) (early.0 ∙ sym late.0)
    ∙ ap (λ (floor : ℕ). Err (refusals.BelowFloor other floor)) (floors-one names r.next floor above early.1 late.1)
means-one r names (Err refusals.Memory) other early late = absurd late
means-one r names (Err (refusals.BelowFloor next floor)) other early late = absurd late
means-one r names one other early late = absurd early

told-one : (r : Registering) (told : Told) (one other : Result (Unit {0}) Refusal) → Means r one told → Means r other told → one ≡ other
told-one r (said answer) one other early late = early ∙ sym late
told-one r (listed names) one other early late = means-one r names one other early late

pub one_answer : (r : Registering) (own : List Event) (one other : Result (Unit {0}) Refusal) → DidRegister r one own → DidRegister r other own → one ≡ other
one_answer r own one other did does = told-one r (tell own) one other (did_so r one own did) (did_so r other own does)

abbrev refused : Refusal → Result (Unit {0}) Refusal
refused refusal = Err refusal

refusal-in : Result (Unit {0}) Refusal → Refusal
refusal-in (Ok x) = refusals.Memory
refusal-in (Err refusal) = refusal

same-refusal : (one other : Refusal) → refused one ≡ refused other → one ≡ other
unfolding refusal-in
same-refusal one other is = ap refusal-in is

pub one_refusal : (r : Registering) (own : List Event) (one other : Refusal) → Shows r one own → Shows r other own → one ≡ other
one_refusal r own one other shows showing = same-refusal one other (one_answer r own (Err one) (Err other) shows showing)
