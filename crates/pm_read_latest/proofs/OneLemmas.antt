-- The call of a reader of the latest snapshot's id shows one answer at most, but that memory may have run out.
use Rattle.std.proofs.Common.{◌≡◌, ◌⊎◌, inl, inr, ℕ, zero, suc, ◌≤◌, List, [], ◌∷◌, ◌++◌, Option, Some, Result, Ok, Err, refl, sym, ap, subst, ◌∙◌, arith}
use Rattle.std.specs.List.{AllByRecursion}
use Rattle.pm_values.specs.declared.refusal.Refusal.{Refusal}
use Rattle.pm_values.specs.declared.refusal.Refusal.TheVariants as refusals
use Rattle.pm_store.specs.declared.answer.Answer.{Answer}
use Rattle.pm_store.specs.declared.answer.Answer.TheVariants as answers
use Rattle.pm_store.specs.declared.call.Call.{Call}
use Rattle.pm_machine.specs.Step.{path_of}
use Rattle.pm_machine.specs.Trace.{Event, faulted}
use Rattle.pm_paths.specs.Ids.{IsLatest}
use Rattle.pm_read_schema.specs.Trace.{Names, listed_snapshots}
use Rattle.pm_read_schema.proofs.LeadLemmas.{Fails, IsAnswered, failed, failed_not, head_same, one_failed}
use Rattle.pm_read_latest.specs.AllCalls.{DidLatest}
use Rattle.pm_read_latest.specs.Reader.{next_call}
use Rattle.pm_read_latest.specs.Trace.{DidSoFar, HasLatest, Shows}

-- ---- one latest

latest_below : (names : List (List ℕ)) (one other : ℕ) → IsLatest names one → IsLatest names other → one ≤ other
latest_below names zero other is was = omega arith
latest_below names (suc one) other is was = was.most (suc one) is.within (is.listed (omega arith))

pub one_latest : (names : List (List ℕ)) (one other : ℕ) → IsLatest names one → IsLatest names other → one ≡ other
one_latest names one other is was =
    let low = latest_below names one other is was in
    let high = latest_below names other one was is in
    omega (arith, low, high)

-- the names that an answer lists
names_in : Option Answer → List (List ℕ)
names_in (Some (answers.Listed names)) = names.items
names_in other = []

pub same_names : (names others : Names) → listed_snapshots names ≡ listed_snapshots others → names.items ≡ others.items
unfolding names_in
same_names names others is = ap (λ (event : Event). names_in event.answer) is

has_one : (one other : ℕ) (own : List Event) → HasLatest one own → HasLatest other own → one ≡ other
has_one one other own (names, is, at) (others, was, there) =
    let same = same_names names others (head_same (listed_snapshots names) (listed_snapshots others) [] [] (sym at ∙ there)) in
    one_latest names.items one other is (subst (λ (names : List (List ℕ)). IsLatest names other) (sym same) was)

pub has_answered : (latest : ℕ) (own : List Event) → HasLatest latest own → AllByRecursion IsAnswered own
has_answered latest own (names, is, at) = subst (AllByRecursion IsAnswered) (sym at) (refl, tt)

-- ---- what is shown

pub shown : (refusal : Refusal) (own : List Event) → Shows refusal own → (refusal ≡ refusals.Memory) ⊎ Fails refusal own
shown refusals.Memory own shows = inl refl
shown (refusals.StoreFault path) own shows = inr (failed next_call DidSoFar path own shows)
shown other own shows = absurd shows

abbrev IsOne : Result ℕ Refusal → Result ℕ Refusal → Type 0
IsOne one other = (one ≡ other) ⊎ ((one ≡ Err refusals.Memory) ⊎ (other ≡ Err refusals.Memory))

ok_or_err : (latest : ℕ) (refusal : Refusal) (own : List Event) → HasLatest latest own → Shows refusal own → refusal ≡ refusals.Memory
ok_or_err latest refusal own has shows = elim (shown refusal own shows) as (λ _. refusal ≡ refusals.Memory) [
  | inl is ↦ is
  | inr fails ↦ absurd (failed_not refusal own fails (has_answered latest own has))
]

both_err : (one other : Refusal) (own : List Event) → (one ≡ refusals.Memory) ⊎ Fails one own → (other ≡ refusals.Memory) ⊎ Fails other own → IsOne (Err one) (Err other)
both_err one other own (inl is) second = inr (inl (ap Err is))
both_err one other own (inr fails) (inl is) = inr (inr (ap Err is))
both_err one other own (inr fails) (inr failing) = inl (ap Err (one_failed one other own fails failing))

pub one_answer : (one other : Result ℕ Refusal) (own : List Event) → DidLatest one own → DidLatest other own
    → (one ≡ other) ⊎ ((one ≡ Err refusals.Memory) ⊎ (other ≡ Err refusals.Memory))
one_answer (Ok one) (Ok other) own has had = inl (ap Ok (has_one one other own has had))
one_answer (Ok one) (Err other) own has shows = inr (inr (ap Err (ok_or_err one other own has shows)))
one_answer (Err one) (Ok other) own shows has = inr (inl (ap Err (ok_or_err other one own has shows)))
one_answer (Err one) (Err other) own shows showing = both_err one other own (shown one own shows) (shown other own showing)

-- a call that failed shows that
abbrev IsFault : Call → Result ℕ Refusal → Type 0
IsFault call result = (result ≡ Err refusals.Memory) ⊎ (result ≡ Err (refusals.StoreFault (path_of call)))

fails_so : (earlier : List Event) (call : Call) (refusal : Refusal) → (refusal ≡ refusals.Memory) ⊎ Fails refusal (earlier ++ faulted call ∷ [])
    → IsFault call (Err refusal)
fails_so earlier call refusal (inl is) = inl (ap Err is)
fails_so earlier call refusal (inr fails) =
    inr (ap Err (one_failed refusal (refusals.StoreFault (path_of call)) (earlier ++ faulted call ∷ []) fails (earlier, call, refl, refl)))

pub failed_latest : (earlier : List Event) (call : Call) (result : Result ℕ Refusal) → DidLatest result (earlier ++ faulted call ∷ [])
    → (result ≡ Err refusals.Memory) ⊎ (result ≡ Err (refusals.StoreFault (path_of call)))
failed_latest earlier call (Ok latest) has =
    absurd (failed_not (refusals.StoreFault (path_of call)) (earlier ++ faulted call ∷ []) (earlier, call, refl, refl) (has_answered latest (earlier ++ faulted call ∷ []) has))
failed_latest earlier call (Err refusal) shows = fails_so earlier call refusal (shown refusal (earlier ++ faulted call ∷ []) shows)
