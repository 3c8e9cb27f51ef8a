-- Calls show one answer of a table's maker at most: the last of at most two says it.
use Rattle.std.proofs.Common.{◌≡◌, inl, inr, ℕ, List, [], ◌∷◌, Option, Some, Result, Ok, Err, sym, ap, ◌∙◌}
use Rattle.pm_values.specs.declared.refusal.Refusal.{Refusal}
use Rattle.pm_values.specs.declared.refusal.Refusal.TheVariants as refusals
use Rattle.pm_store.specs.declared.answer.Answer.{Answer}
use Rattle.pm_store.specs.declared.answer.Answer.TheVariants as answers
use Rattle.pm_store.specs.declared.answer.Swapped.TheVariants as swaps
use Rattle.pm_store.specs.declared.call.Call.{Call}
use Rattle.pm_machine.specs.Trace.{Event}
use Rattle.pm_create.specs.Creator.{NewTable}
use Rattle.pm_create.specs.Making.{DidMake}
use Rattle.pm_create.specs.Trace.{Shows}
use Rattle.pm_create.proofs.Facts.{by_answer}

abbrev ended_by : Call → Option Answer → Result (Unit {0}) Refusal
ended_by call (Some (answers.Swapped swaps.Swapped)) = Ok tt
ended_by call answer = Err (by_answer call answer)

abbrev made_by : List Event → Result (Unit {0}) Refusal
made_by [] = Err refusals.Memory
made_by (one ∷ []) = ended_by one.call one.answer
made_by (one ∷ (two ∷ own)) = ended_by two.call two.answer

refused_as : (t : NewTable) (e : Refusal) (own : List Event) → Shows t e own → Err e ≡ made_by own
refused_as t refusals.Memory own (inl is) = sym (ap made_by is)
refused_as t refusals.Memory own (inr is) = sym (ap made_by is)
refused_as t (refusals.SessionUsed path) own (at, is) = ap (λ (path : List ℕ). Err (refusals.SessionUsed path)) at ∙ sym (ap made_by is)
refused_as t refusals.TableExists own (found, is) = sym (ap made_by is)
refused_as t (refusals.StoreFault path) own (inl (at, is)) = ap (λ (path : List ℕ). Err (refusals.StoreFault path)) at ∙ sym (ap made_by is)
refused_as t (refusals.StoreFault path) own (inr (at, is)) = ap (λ (path : List ℕ). Err (refusals.StoreFault path)) at ∙ sym (ap made_by is)
refused_as t e own shows = absurd shows

made_as : (t : NewTable) (result : Result (Unit {0}) Refusal) (own : List Event) → DidMake t result own → result ≡ made_by own
made_as t (Ok x) own is = sym (ap made_by is)
made_as t (Err e) own shows = refused_as t e own shows

pub one_answer : (t u : NewTable) (own : List Event) (one other : Result (Unit {0}) Refusal) → DidMake t one own → DidMake u other own → one ≡ other
one_answer t u own one other did does = made_as t one own did ∙ sym (made_as u other own does)
