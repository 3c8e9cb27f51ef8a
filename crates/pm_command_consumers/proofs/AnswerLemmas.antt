-- The calls of `consumers` show one answer, but that memory may run out.
use Rattle.std.proofs.Common.{◌≡◌, ◌⊎◌, inl, inr, List, [], ◌∷◌, ◌++◌, Ok, Err, refl, ap}
use Rattle.pm_values.specs.declared.refusal.Refusal.{Refusal}
use Rattle.pm_values.specs.declared.refusal.Refusal.TheVariants as refusals
use Rattle.pm_store.specs.declared.call.Call.{Call}
use Rattle.pm_machine.specs.Step.{path_of}
use Rattle.pm_machine.specs.Trace.{Event, faulted}
use Rattle.pm_consumers.specs.AllCalls.{DidList, IsSameListing, Listing}
use Rattle.pm_consumers.specs.Trace.{HasListed}
use Rattle.pm_command_consumers.specs.Consumers.{DidConsumers, ShowsListing}
use Rattle.pm_command_consumers.proofs.OneLemmas.{IsMemory, IsStage, ShowsOne, one_of_all}

-- an answer that is a refusal
abbrev refused : Refusal → Listing
refused e = Err e

-- the calls after the schema, by the answer
abbrev Next : Listing → List Event → Type 0
Next (Ok consumers) own = HasListed consumers.items own
Next (Err e) own = ShowsListing e own

-- what the law of listings says of one answer, and of a call that failed
abbrev pub OneListing : Type 0
OneListing = (one other : Listing) (own : List Event) → DidList one own → DidList other own
    → IsSameListing one other ⊎ ((one ≡ Err refusals.Memory) ⊎ (other ≡ Err refusals.Memory))

abbrev pub FailedListing : Type 0
FailedListing = (earlier : List Event) (call : Call) (result : Listing) → DidList result (earlier ++ faulted call ∷ [])
    → (result ≡ Err refusals.Memory) ⊎ (result ≡ Err (refusals.StoreFault (path_of call)))

-- those of a listing, or memory ran out for its text
listed : (r : Listing) (own : List Event) → Next r own → DidList r own ⊎ (r ≡ refused refusals.Memory)
listed (Ok consumers) own next = inl next
listed (Err e) own (inl shows) = inl shows
listed (Err e) own (inr (memory, consumers, has)) = inr (ap refused memory)

one_next : OneListing → (one other : Listing) (own : List Event) → Next one own → Next other own → IsSameListing one other ⊎ IsMemory refused one other
one_next law one other own did does =
    elim (listed one own did) as (λ _. IsSameListing one other ⊎ IsMemory refused one other) [
      | inl first ↦ elim (listed other own does) as (λ _. IsSameListing one other ⊎ IsMemory refused one other) [
        | inl second ↦ law one other own first second
        | inr memory ↦ inr (inr memory)
      ]
      | inr memory ↦ inr (inl memory)
    ]

failed_next : FailedListing → (earlier : List Event) (call : Call) (r : Listing) → Next r (earlier ++ faulted call ∷ [])
    → (r ≡ refused refusals.Memory) ⊎ (r ≡ refused (refusals.StoreFault (path_of call)))
failed_next law earlier call r next =
    elim (listed r (earlier ++ faulted call ∷ []) next) as (λ _. (r ≡ refused refusals.Memory) ⊎ (r ≡ refused (refusals.StoreFault (path_of call)))) [
      | inl did ↦ law earlier call r did
      | inr memory ↦ inl memory
    ]

stage : OneListing → FailedListing → IsStage refused Next IsSameListing
stage one failed = record { same = λ e. refl; one = one_next one; failed = failed_next failed }

shows_one : (r : Listing) (own : List Event) → DidConsumers r own → ShowsOne refused Next r own
shows_one (Ok consumers) own did = inr did
shows_one (Err e) own (inl shows) = inl (e, refl, shows)
shows_one (Err e) own (inr after) = inr after

pub one_answer : OneListing → FailedListing → (one other : Listing) (own : List Event) → DidConsumers one own → DidConsumers other own
    → IsSameListing one other ⊎ ((one ≡ Err refusals.Memory) ⊎ (other ≡ Err refusals.Memory))
one_answer law failed one other own did does =
    one_of_all refused Next IsSameListing (stage law failed) one other own (shows_one one own did) (shows_one other own does)
