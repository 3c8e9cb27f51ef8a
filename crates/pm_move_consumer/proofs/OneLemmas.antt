-- Calls of a mover, and of a dropper, show one answer at most.
use Rattle.std.proofs.Common.{◌≡◌, ℕ, List, [], ◌∷◌, Bool, true, false, Option, None, Some, Result, Ok, Err, sym, ap, ◌∙◌}
use Rattle.pm_values.specs.declared.refusal.Refusal.{Refusal}
use Rattle.pm_values.specs.declared.refusal.Refusal.TheVariants as refusals
use Rattle.pm_store.specs.declared.answer.Answer.{Answer}
use Rattle.pm_store.specs.declared.answer.Answer.TheVariants as answers
use Rattle.pm_store.specs.declared.answer.Removed.TheVariants as removed
use Rattle.pm_store.specs.declared.answer.Swapped.TheVariants as swaps
use Rattle.pm_store.specs.declared.call.Call.{Call}
use Rattle.pm_machine.specs.Step.{path_of}
use Rattle.pm_machine.specs.Trace.{Event}
use Rattle.pm_move_consumer.specs.DropperAllCalls.{DidDrop}
use Rattle.pm_move_consumer.specs.DropperTrace as drops
use Rattle.pm_move_consumer.specs.Mover.{Moving, moved_text}
use Rattle.pm_move_consumer.specs.MoverAllCalls.{DidMove}
use Rattle.pm_move_consumer.specs.MoverTrace as moves

-- ---- a mover's, by the answer of its call

abbrev moved_by : Moving → Call → Option Answer → Result (List ℕ) Refusal
moved_by m call (Some (answers.Swapped swaps.Swapped)) = Ok (moved_text m)
moved_by m call (Some (answers.Swapped (swaps.Differs found))) = Err (refusals.ConsumerMoved found)
moved_by m call None = Err (refusals.StoreFault (path_of call))
moved_by m call other = Err refusals.Memory

abbrev move_by : Moving → List Event → Result (List ℕ) Refusal
move_by m [] = Err refusals.Memory
move_by m (event ∷ own) = moved_by m event.call event.answer

refused_move : (m : Moving) (e : Refusal) (own : List Event) → moves.Shows m e own → Err e ≡ move_by m own
refused_move m refusals.Memory own is = sym (ap (move_by m) is)
refused_move m (refusals.ConsumerMoved found) own is = sym (ap (move_by m) is)
refused_move m (refusals.StoreFault path) own (at, is) = ap (λ (path : List ℕ). Err (refusals.StoreFault path)) at ∙ sym (ap (move_by m) is)
refused_move m e own shows = absurd shows

move_as : (m : Moving) (result : Result (List ℕ) Refusal) (own : List Event) → DidMove m result own → result ≡ move_by m own
move_as m (Ok bytes) own (new, is) = ap Ok new ∙ sym (ap (move_by m) is)
move_as m (Err e) own shows = refused_move m e own shows

pub one_move : (m : Moving) (own : List Event) (one other : Result (List ℕ) Refusal) → DidMove m one own → DidMove m other own → one ≡ other
one_move m own one other did does = move_as m one own did ∙ sym (move_as m other own does)

-- ---- and a dropper's

abbrev dropped_by : Call → Option Answer → Result Bool Refusal
dropped_by call (Some (answers.Removed removed.Removed)) = Ok true
dropped_by call (Some (answers.Removed removed.Absent)) = Ok false
dropped_by call None = Err (refusals.StoreFault (path_of call))
dropped_by call other = Err refusals.Memory

abbrev drop_by : List Event → Result Bool Refusal
drop_by [] = Err refusals.Memory
drop_by (event ∷ own) = dropped_by event.call event.answer

refused_drop : (name : List ℕ) (e : Refusal) (own : List Event) → drops.Shows name e own → Err e ≡ drop_by own
refused_drop name refusals.Memory own is = sym (ap drop_by is)
refused_drop name (refusals.StoreFault path) own (at, is) = ap (λ (path : List ℕ). Err (refusals.StoreFault path)) at ∙ sym (ap drop_by is)
refused_drop name e own shows = absurd shows

drop_as : (name : List ℕ) (result : Result Bool Refusal) (own : List Event) → DidDrop name result own → result ≡ drop_by own
drop_as name (Ok true) own is = sym (ap drop_by is)
drop_as name (Ok false) own is = sym (ap drop_by is)
drop_as name (Err e) own shows = refused_drop name e own shows

pub one_drop : (name : List ℕ) (own : List Event) (one other : Result Bool Refusal) → DidDrop name one own → DidDrop name other own → one ≡ other
one_drop name own one other did does = drop_as name one own did ∙ sym (drop_as name other own does)
