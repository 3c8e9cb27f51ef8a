-- The calls of `consumers --drop` show one answer, but that memory may run out.
use Rattle.std.proofs.Common.{◌≡◌, ◌⊎◌, inl, inr, ℕ, List, [], ◌∷◌, ◌++◌, Bool, Result, Ok, Err, refl, sym, ap, ◌∙◌}
use Rattle.pm_values.specs.declared.refusal.Refusal.{Refusal}
use Rattle.pm_values.specs.declared.refusal.Refusal.TheVariants as refusals
use Rattle.pm_store.specs.declared.call.Call.{Call}
use Rattle.pm_machine.specs.Step.{path_of}
use Rattle.pm_machine.specs.Trace.{Event, faulted}
use Rattle.pm_read_schema.proofs.LeadLemmas.{last_same}
use Rattle.pm_move_consumer.specs.DropperAllCalls.{DidDrop}
use Rattle.pm_move_consumer.specs.DropperTrace.{dropped, remove_call}
use Rattle.pm_command_consumers.specs.Drop.{DidRemove}
use Rattle.pm_command_consumers.proofs.OneLemmas.{IsStage, ShowsOne, one_of_all}

abbrev refused : Refusal → Result Bool Refusal
refused e = Err e

-- what the law of drops says of one answer
abbrev pub OneDrop : Type 0
OneDrop = (name : List ℕ) (own : List Event) (one other : Result Bool Refusal) → DidDrop name one own → DidDrop name other own → one ≡ other

abbrev Same : Result Bool Refusal → Result Bool Refusal → Type 0
Same one other = one ≡ other

not_answered : (name : List ℕ) (was_there : Bool) (call : Call) → faulted call ≡ dropped name was_there → ⊥
not_answered name was_there call same = answer_not (ap (λ (event : Event). event.answer) same)
  where
    answer_not : (faulted call).answer ≡ (dropped name was_there).answer → ⊥
    answer_not is = cc

call_same : (one other : Call) → faulted one ≡ faulted other → one ≡ other
call_same one other is = ap (λ (event : Event). event.call) is

failed : (name : List ℕ) (earlier : List Event) (call : Call) (r : Result Bool Refusal) → DidDrop name r (earlier ++ faulted call ∷ [])
    → (r ≡ refused refusals.Memory) ⊎ (r ≡ refused (refusals.StoreFault (path_of call)))
failed name earlier call (Ok was_there) did =
    absurd (not_answered name was_there call (last_same earlier [] (faulted call) (dropped name was_there) did))
failed name earlier call (Err refusals.Memory) did = inl refl
failed name earlier call (Err (refusals.StoreFault path)) (is, did) =
    let same = call_same call (remove_call name) (last_same earlier [] (faulted call) (faulted (remove_call name)) did) in
    inr (ap (λ (path : List ℕ). refused (refusals.StoreFault path)) is ∙ ap (λ (call : Call). refused (refusals.StoreFault (path_of call))) (sym same))
failed name earlier call (Err e) did = absurd did

stage : OneDrop → (name : List ℕ) → IsStage refused (DidDrop name) Same
stage law name = record { same = λ e. refl; one = λ one other own did does. inl (law name own one other did does); failed = failed name }

shows_one : (name : List ℕ) (r : Result Bool Refusal) (own : List Event) → DidRemove name r own → ShowsOne refused (DidDrop name) r own
shows_one name (Ok was_there) own did = inr did
shows_one name (Err e) own (inl shows) = inl (e, refl, shows)
shows_one name (Err e) own (inr after) = inr after

pub one_drop : OneDrop → (name : List ℕ) (one other : Result Bool Refusal) (own : List Event) → DidRemove name one own → DidRemove name other own
    → (one ≡ other) ⊎ ((one ≡ Err refusals.Memory) ⊎ (other ≡ Err refusals.Memory))
one_drop law name one other own did does =
    one_of_all refused (DidDrop name) Same (stage law name) one other own (shows_one name one own did) (shows_one name other own does)
