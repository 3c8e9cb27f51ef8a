-- The calls of a lister of consumers show one answer at most, but that memory may have run out.
use Rattle.std.proofs.Common.{◌≡◌, ◌⊎◌, inl, inr, ℕ, List, [], ◌∷◌, ◌++◌, codes, Option, Some, Ok, Err, refl, sym, ap, subst, ◌∙◌}
use Rattle.std.specs.List.{AllByRecursion}
use Rattle.std.proofs.lemmas.List.{append_cancel_left}
use Rattle.pm_base.proofs.Laws.{AllByRecursion-push}
use Rattle.pm_values.specs.declared.refusal.Refusal.{Refusal}
use Rattle.pm_values.specs.declared.refusal.Refusal.TheVariants as refusals
use Rattle.pm_store.specs.declared.call.Call.{Call}
use Rattle.pm_machine.specs.Step.{path_of}
use Rattle.pm_machine.specs.Trace.{Event, faulted}
use Rattle.pm_model_folder.specs.Paths.{consumer_path}
use Rattle.pm_consumer_files.specs.declared.lines.NamedConsumer.{NamedConsumer}
use Rattle.pm_read_schema.specs.Trace.{Names}
use Rattle.pm_read_schema.proofs.LeadLemmas.{Fails, IsAnswered, failed, failed_not, head_same, last_same, none_last, one_failed, tail_same}
use Rattle.pm_read_consumer.specs.Reader.{IsDamaged, Says}
use Rattle.pm_read_consumer.specs.Trace.{read_consumer}
use Rattle.pm_read_consumer.proofs.OneLemmas.{none_said, one_said, same_found}
use Rattle.pm_consumers.specs.AllCalls.{DidList, IsSameListing, Listing}
use Rattle.pm_consumers.specs.Lister.{next_call}
use Rattle.pm_consumers.specs.Reading.{ReadingView}
use Rattle.pm_consumers.specs.Trace.{listed_consumers, FileRead, AreSaid, consumers_of, named, reads_of, Meets, HasListed, DidSoFar, Shows}

-- ---- what was read

-- the read tells the path, and so the name
same_path : (name other : List ℕ) (one two : Option (List ℕ)) → read_consumer name one ≡ read_consumer other two → consumer_path name ≡ consumer_path other
same_path name other one two is = ap (λ (event : Event). path_of event.call) is

pub same_name : (name other : List ℕ) (one two : Option (List ℕ)) → read_consumer name one ≡ read_consumer other two → name ≡ other
same_name name other one two is = append_cancel_left (codes "consumer/consumer-") name other (same_path name other one two is)

-- the same reads say the same
one_line : (r q : FileRead) → Says r.found r.said → Says q.found q.said → read_consumer r.name r.found ≡ read_consumer q.name q.found
    → named r.name r.said ≡ named q.name q.said
one_line r q says said is =
    let name = same_name r.name q.name r.found q.found is in
    let same = same_found r.name q.name r.found q.found is in
    let saying = one_said q.found r.said q.said (subst (λ (found : Option (List ℕ)). Says found r.said) same says) said in
    ap (λ (name : List ℕ). named name r.said) name ∙ ap (named q.name) saying

pub one_reading : (reads others : List FileRead) → AreSaid reads → AreSaid others → reads_of reads ≡ reads_of others
    → consumers_of reads ≡ consumers_of others
one_reading [] [] all every is = refl
one_reading [] (q ∷ others) all every is = cc
one_reading (r ∷ reads) [] all every is = cc
one_reading (r ∷ reads) (q ∷ others) (says, all) (said, every) is =
    let first = one_line r q says said (head_same (read_consumer r.name r.found) (read_consumer q.name q.found) (reads_of reads) (reads_of others) is) in
    let rest = one_reading reads others all every
    (tail_same (read_consumer r.name r.found) (read_consumer q.name q.found) (reads_of reads) (reads_of others) is) in
    ap (λ (line : List NamedConsumer). line ++ consumers_of reads) first ∙ ap (λ (rest : List NamedConsumer). named q.name q.said ++ rest) rest

has_one : (one other : List NamedConsumer) (own : List Event) → HasListed one own → HasListed other own → one ≡ other
has_one one other own (files, reads, are, all, lines, is) (others, again, were, every, texts, was) =
    lines
    ∙ one_reading reads again all every
    (tail_same (listed_consumers files) (listed_consumers others) (reads_of reads) (reads_of again) (sym is ∙ was))
    ∙ sym texts

-- each of them was answered
all_answered : (reads : List FileRead) → AllByRecursion IsAnswered (reads_of reads)
all_answered [] = tt
all_answered (r ∷ reads) = (refl, all_answered reads)

read_answered : (files : Names) (reads : List FileRead) (own : List Event) → own ≡ listed_consumers files ∷ reads_of reads → AllByRecursion IsAnswered own
read_answered files reads own is = subst (AllByRecursion IsAnswered) (sym is) (refl, all_answered reads)

listed_answered : (consumers : List NamedConsumer) (own : List Event) → HasListed consumers own → AllByRecursion IsAnswered own
listed_answered consumers own (files, reads, are, all, lines, is) = read_answered files reads own is

meets_answered : (r : ReadingView) (name : List ℕ) (found : Option (List ℕ)) (own : List Event) → Meets r name found own → AllByRecursion IsAnswered own
meets_answered r name found own (earlier, (files, reads, are, names, all, lines, at), next, is) =
    subst (AllByRecursion IsAnswered) (sym is)
    (AllByRecursion-push IsAnswered earlier (read_consumer name found) (read_answered files reads earlier at) refl)

-- ---- a damaged file

-- the last of files that say something isn't damaged
last_said : (reads : List FileRead) (events : List Event) (name bytes : List ℕ) → AreSaid reads
    → reads_of reads ≡ events ++ read_consumer name (Some bytes) ∷ [] → IsDamaged bytes → ⊥
last_said [] events name bytes all is bad = none_last events (read_consumer name (Some bytes)) is
last_said (r ∷ reads) [] name bytes (says, all) is bad =
    let same = same_found r.name name r.found (Some bytes) (head_same (read_consumer r.name r.found) (read_consumer name (Some bytes)) (reads_of reads) [] is) in
    none_said bytes r.said (subst (λ (found : Option (List ℕ)). Says found r.said) same says) bad
last_said (r ∷ reads) (event ∷ events) name bytes (says, all) is bad =
    last_said reads events name bytes all
    (tail_same (read_consumer r.name r.found) event (reads_of reads) (events ++ read_consumer name (Some bytes) ∷ []) is) bad

read_not : (files : Names) (reads : List FileRead) (r : ReadingView) (name bytes : List ℕ) (own : List Event) → AreSaid reads
    → own ≡ listed_consumers files ∷ reads_of reads → Meets r name (Some bytes) own → IsDamaged bytes → ⊥
read_not files reads r name bytes own all is (earlier, (others, again, are, names, every, lines, at), next, was) bad =
    last_said reads (reads_of again) name bytes all
    (tail_same (listed_consumers files) (listed_consumers others) (reads_of reads) (reads_of again ++ read_consumer name (Some bytes) ∷ [])
    (sym is ∙ was ∙ ap (λ (own : List Event). own ++ read_consumer name (Some bytes) ∷ []) at)) bad

-- ---- what is shown

-- a file is damaged
abbrev IsBad : Refusal → List Event → Type 0
IsBad (refusals.Damaged path place) own = Shows (refusals.Damaged path place) own
IsBad other own = ⊥

abbrev IsShown : Refusal → List Event → Type 0
IsShown refusal own = (refusal ≡ refusals.Memory) ⊎ (Fails refusal own ⊎ IsBad refusal own)

shown : (refusal : Refusal) (own : List Event) → Shows refusal own → IsShown refusal own
shown refusals.Memory own shows = inl refl
shown (refusals.StoreFault path) own shows = inr (inl (failed next_call DidSoFar path own shows))
shown (refusals.Damaged path place) own shows = inr (inr shows)
shown other own shows = absurd shows

abbrev IsOne : Listing → Listing → Type 0
IsOne one other = IsSameListing one other ⊎ ((one ≡ Err refusals.Memory) ⊎ (other ≡ Err refusals.Memory))

bad_not : (refusal : Refusal) (consumers : List NamedConsumer) (own : List Event) → IsBad refusal own → HasListed consumers own → ⊥
bad_not (refusals.Damaged path place) consumers own (r, name, bytes, at, zero, bad, meets) (files, reads, are, all, lines, is) =
    read_not files reads r name bytes own all is meets bad
bad_not other consumers own bad has = absurd bad

bad_answered : (refusal : Refusal) (own : List Event) → IsBad refusal own → AllByRecursion IsAnswered own
bad_answered (refusals.Damaged path place) own (r, name, bytes, at, zero, bad, meets) = meets_answered r name (Some bytes) own meets
bad_answered other own bad = absurd bad

-- it names the path and the place
bad_one : (one other : Refusal) (own : List Event) → IsBad one own → IsBad other own → one ≡ other
bad_one (refusals.Damaged path place) (refusals.Damaged more rest) own (r, name, bytes, at, zero, bad, (earlier, has, next, is))
    (q, other, found, there, none, worse, (first, had, then, was)) =
    let path_is = same_path name other (Some bytes) (Some found)
    (last_same earlier first (read_consumer name (Some bytes)) (read_consumer other (Some found)) (sym is ∙ was)) in
    ap (λ (path : List ℕ). refusals.Damaged path place) (at ∙ path_is ∙ sym there) ∙ ap (refusals.Damaged more) (zero ∙ sym none)
bad_one (refusals.Damaged path place) other own bad worse = absurd worse
bad_one one other own bad worse = absurd bad

ok_or_err : (consumers : List NamedConsumer) (refusal : Refusal) (own : List Event) → HasListed consumers own → IsShown refusal own
    → refusal ≡ refusals.Memory
ok_or_err consumers refusal own has (inl is) = is
ok_or_err consumers refusal own has (inr (inl fails)) = absurd (failed_not refusal own fails (listed_answered consumers own has))
ok_or_err consumers refusal own has (inr (inr bad)) = absurd (bad_not refusal consumers own bad has)

both_err : (one other : Refusal) (own : List Event) → IsShown one own → IsShown other own → IsOne (Err one) (Err other)
both_err one other own (inl is) second = inr (inl (ap Err is))
both_err one other own (inr first) (inl is) = inr (inr (ap Err is))
both_err one other own (inr (inl fails)) (inr (inl failing)) = inl (one_failed one other own fails failing)
both_err one other own (inr (inl fails)) (inr (inr bad)) = absurd (failed_not one own fails (bad_answered other own bad))
both_err one other own (inr (inr bad)) (inr (inl fails)) = absurd (failed_not other own fails (bad_answered one own bad))
both_err one other own (inr (inr bad)) (inr (inr worse)) = inl (bad_one one other own bad worse)

pub one_answer : (one other : Listing) (own : List Event) → DidList one own → DidList other own
    → IsSameListing one other ⊎ ((one ≡ Err refusals.Memory) ⊎ (other ≡ Err refusals.Memory))
one_answer (Ok one) (Ok other) own has had = inl (has_one one.items other.items own has had)
one_answer (Ok one) (Err other) own has shows = inr (inr (ap Err (ok_or_err one.items other own has (shown other own shows))))
one_answer (Err one) (Ok other) own shows has = inr (inl (ap Err (ok_or_err other.items one own has (shown one own shows))))
one_answer (Err one) (Err other) own shows showing = both_err one other own (shown one own shows) (shown other own showing)

-- a call that failed shows that
abbrev IsFault : Call → Listing → Type 0
IsFault call result = (result ≡ Err refusals.Memory) ⊎ (result ≡ Err (refusals.StoreFault (path_of call)))

fails_so : (earlier : List Event) (call : Call) (refusal : Refusal) → IsShown refusal (earlier ++ faulted call ∷ []) → IsFault call (Err refusal)
fails_so earlier call refusal (inl is) = inl (ap Err is)
fails_so earlier call refusal (inr (inl fails)) =
    inr (ap Err (one_failed refusal (refusals.StoreFault (path_of call)) (earlier ++ faulted call ∷ []) fails (earlier, call, refl, refl)))
fails_so earlier call refusal (inr (inr bad)) =
    absurd (failed_not (refusals.StoreFault (path_of call)) (earlier ++ faulted call ∷ []) (earlier, call, refl, refl)
    (bad_answered refusal (earlier ++ faulted call ∷ []) bad))

pub failed_answer : (earlier : List Event) (call : Call) (result : Listing) → DidList result (earlier ++ faulted call ∷ [])
    → (result ≡ Err refusals.Memory) ⊎ (result ≡ Err (refusals.StoreFault (path_of call)))
failed_answer earlier call (Ok consumers) has =
    absurd (failed_not (refusals.StoreFault (path_of call)) (earlier ++ faulted call ∷ []) (earlier, call, refl, refl)
    (listed_answered consumers.items (earlier ++ faulted call ∷ []) has))
failed_answer earlier call (Err refusal) shows = fails_so earlier call refusal (shown refusal (earlier ++ faulted call ∷ []) shows)
