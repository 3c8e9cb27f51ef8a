-- The call of a reader of a consumer's file shows one answer at most, but that memory may have run out.
use Rattle.std.proofs.Common.{◌≡◌, ◌⊎◌, inl, inr, ℕ, List, [], ◌∷◌, ◌++◌, Option, None, Some, Result, Ok, Err, refl, sym, ap, subst, ◌∙◌}
use Rattle.std.specs.List.{AllByRecursion}
use Rattle.pm_values.specs.declared.refusal.Refusal.{Refusal}
use Rattle.pm_values.specs.declared.refusal.Refusal.TheVariants as refusals
use Rattle.pm_store.specs.declared.answer.Answer.{Answer}
use Rattle.pm_store.specs.declared.answer.Answer.TheVariants as answers
use Rattle.pm_store.specs.declared.call.Call.{Call}
use Rattle.pm_machine.specs.Step.{path_of}
use Rattle.pm_machine.specs.Trace.{Event, faulted}
use Rattle.pm_snapshot.specs.declared.consumer.Consumer.{Consumer}
use Rattle.pm_snapshot.specs.declared.fault.SnapFault.TheVariants as faults
use Rattle.pm_read_schema.proofs.LeadLemmas.{Fails, IsAnswered, failed, failed_not, head_same, one_failed}
use Rattle.pm_read_consumer.specs.AllCalls.{DidFind}
use Rattle.pm_read_consumer.specs.Reader.{IsDamaged, Says, found_as, next_call}
use Rattle.pm_read_consumer.specs.Trace.{DidSoFar, HasFound, Shows, read_consumer}
use Rattle.pm_read_consumer.specs.declared.phase.FoundConsumer.{FoundConsumer}

-- ---- what was found

-- that an answer has
found_in : Option Answer → Option (List ℕ)
found_in (Some (answers.Found found)) = found
found_in other = None

pub same_found : (name other : List ℕ) (one two : Option (List ℕ)) → read_consumer name one ≡ read_consumer other two → one ≡ two
unfolding found_in
same_found name other one two is = ap (λ (event : Event). found_in event.answer) is

-- a file says one thing at most
pub one_said : (found : Option (List ℕ)) (one two : Option Consumer) → Says found one → Says found two → one ≡ two
one_said None None None says said = refl
one_said None None (Some c) says said = absurd said
one_said None (Some c) two says said = absurd says
one_said (Some bytes) None two says said = absurd says
one_said (Some bytes) (Some c) None says said = absurd said
one_said (Some bytes) (Some c) (Some d) says said =
    let both : Ok c ≡ Ok d = sym says ∙ said in
    let same : c ≡ d = cc in
    ap Some same

-- and a damaged one nothing
pub none_said : (bytes : List ℕ) (said : Option Consumer) → Says (Some bytes) said → IsDamaged bytes → ⊥
none_said bytes None says bad = says
none_said bytes (Some c) says bad = let clash : Ok c ≡ Err faults.Bad = sym says ∙ bad in cc

has_one : (name : List ℕ) (one other : FoundConsumer) (own : List Event) → HasFound name one own → HasFound name other own → one ≡ other
has_one name one other own (says, at) (said, there) =
    let same = same_found name name one.found other.found (head_same (read_consumer name one.found) (read_consumer name other.found) [] [] (sym at ∙ there)) in
    let saying = one_said other.found one.consumer other.consumer (subst (λ (found : Option (List ℕ)). Says found one.consumer) same says) said in
    ap (λ (found : Option (List ℕ)). found_as found one.consumer) same ∙ ap (found_as other.found) saying

has_answered : (name : List ℕ) (found : Option (List ℕ)) (own : List Event) → own ≡ read_consumer name found ∷ [] → AllByRecursion IsAnswered own
has_answered name found own at = subst (AllByRecursion IsAnswered) (sym at) (refl, tt)

-- ---- what is shown

-- the file is damaged
abbrev IsBad : List ℕ → Refusal → List Event → Type 0
IsBad name (refusals.Damaged path place) own = Shows name (refusals.Damaged path place) own
IsBad name other own = ⊥

abbrev IsShown : List ℕ → Refusal → List Event → Type 0
IsShown name refusal own = (refusal ≡ refusals.Memory) ⊎ (Fails refusal own ⊎ IsBad name refusal own)

shown : (name : List ℕ) (refusal : Refusal) (own : List Event) → Shows name refusal own → IsShown name refusal own
shown name refusals.Memory own shows = inl refl
shown name (refusals.StoreFault path) own shows = inr (inl (failed next_call (DidSoFar name) path own shows))
shown name (refusals.Damaged path place) own shows = inr (inr shows)
shown name other own shows = absurd shows

abbrev IsOne : Result FoundConsumer Refusal → Result FoundConsumer Refusal → Type 0
IsOne one other = (one ≡ other) ⊎ ((one ≡ Err refusals.Memory) ⊎ (other ≡ Err refusals.Memory))

-- a damaged file has no consumer, and was read
bad_not : (name : List ℕ) (refusal : Refusal) (r : FoundConsumer) (own : List Event) → IsBad name refusal own → HasFound name r own → ⊥
bad_not name (refusals.Damaged path place) r own (bytes, is, zero, bad, at) (says, there) =
    let same = same_found name name r.found (Some bytes) (head_same (read_consumer name r.found) (read_consumer name (Some bytes)) [] [] (sym there ∙ at)) in
    none_said bytes r.consumer (subst (λ (found : Option (List ℕ)). Says found r.consumer) same says) bad
bad_not name other r own bad has = absurd bad

bad_answered : (name : List ℕ) (refusal : Refusal) (own : List Event) → IsBad name refusal own → AllByRecursion IsAnswered own
bad_answered name (refusals.Damaged path place) own (bytes, is, zero, bad, at) = has_answered name (Some bytes) own at
bad_answered name other own bad = absurd bad

-- it names the path and the place
bad_one : (name : List ℕ) (one other : Refusal) (own : List Event) → IsBad name one own → IsBad name other own → one ≡ other
bad_one name (refusals.Damaged path place) (refusals.Damaged more rest) own (bytes, is, zero, bad, at) (found, was, none, worse, there) =
    ap (λ (path : List ℕ). refusals.Damaged path place) (is ∙ sym was) ∙ ap (refusals.Damaged more) (zero ∙ sym none)
bad_one name (refusals.Damaged path place) other own bad worse = absurd worse
bad_one name one other own bad worse = absurd bad

ok_or_err : (name : List ℕ) (r : FoundConsumer) (refusal : Refusal) (own : List Event) → HasFound name r own → IsShown name refusal own
    → refusal ≡ refusals.Memory
ok_or_err name r refusal own has (inl is) = is
ok_or_err name r refusal own has (inr (inl fails)) = absurd (failed_not refusal own fails (has_answered name r.found own has.1))
ok_or_err name r refusal own has (inr (inr bad)) = absurd (bad_not name refusal r own bad has)

both_err : (name : List ℕ) (one other : Refusal) (own : List Event) → IsShown name one own → IsShown name other own → IsOne (Err one) (Err other)
both_err name one other own (inl is) second = inr (inl (ap Err is))
both_err name one other own (inr first) (inl is) = inr (inr (ap Err is))
both_err name one other own (inr (inl fails)) (inr (inl failing)) = inl (ap Err (one_failed one other own fails failing))
both_err name one other own (inr (inl fails)) (inr (inr bad)) = absurd (failed_not one own fails (bad_answered name other own bad))
both_err name one other own (inr (inr bad)) (inr (inl fails)) = absurd (failed_not other own fails (bad_answered name one own bad))
both_err name one other own (inr (inr bad)) (inr (inr worse)) = inl (ap Err (bad_one name one other own bad worse))

pub one_answer : (name : List ℕ) (one other : Result FoundConsumer Refusal) (own : List Event) → DidFind name one own → DidFind name other own
    → (one ≡ other) ⊎ ((one ≡ Err refusals.Memory) ⊎ (other ≡ Err refusals.Memory))
one_answer name (Ok one) (Ok other) own has had = inl (ap Ok (has_one name one other own has had))
one_answer name (Ok one) (Err other) own has shows = inr (inr (ap Err (ok_or_err name one other own has (shown name other own shows))))
one_answer name (Err one) (Ok other) own shows has = inr (inl (ap Err (ok_or_err name other one own has (shown name one own shows))))
one_answer name (Err one) (Err other) own shows showing =
    both_err name one other own (shown name one own shows) (shown name other own showing)

-- a call that failed shows that
abbrev IsFault : Call → Result FoundConsumer Refusal → Type 0
IsFault call result = (result ≡ Err refusals.Memory) ⊎ (result ≡ Err (refusals.StoreFault (path_of call)))

fails_so : (name : List ℕ) (earlier : List Event) (call : Call) (refusal : Refusal) → IsShown name refusal (earlier ++ faulted call ∷ [])
    → IsFault call (Err refusal)
fails_so name earlier call refusal (inl is) = inl (ap Err is)
fails_so name earlier call refusal (inr (inl fails)) =
    inr (ap Err (one_failed refusal (refusals.StoreFault (path_of call)) (earlier ++ faulted call ∷ []) fails (earlier, call, refl, refl)))
fails_so name earlier call refusal (inr (inr bad)) =
    absurd (failed_not (refusals.StoreFault (path_of call)) (earlier ++ faulted call ∷ []) (earlier, call, refl, refl)
    (bad_answered name refusal (earlier ++ faulted call ∷ []) bad))

pub failed_answer : (name : List ℕ) (earlier : List Event) (call : Call) (result : Result FoundConsumer Refusal)
    → DidFind name result (earlier ++ faulted call ∷ []) → (result ≡ Err refusals.Memory) ⊎ (result ≡ Err (refusals.StoreFault (path_of call)))
failed_answer name earlier call (Ok r) has =
    absurd (failed_not (refusals.StoreFault (path_of call)) (earlier ++ faulted call ∷ []) (earlier, call, refl, refl)
    (has_answered name r.found (earlier ++ faulted call ∷ []) has.1))
failed_answer name earlier call (Err refusal) shows = fails_so name earlier call refusal (shown name refusal (earlier ++ faulted call ∷ []) shows)
