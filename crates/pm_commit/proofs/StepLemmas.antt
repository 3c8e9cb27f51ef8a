-- How far a step of a committer comes.
use Rattle.std.proofs.Common.{◌≡◌, ℕ, suc, ◌+◌, ◌-◌, ◌*◌, ◌<◌, ◌≤◌, List, [], ◌∷◌, ◌++◌, length, length-append, None, Some, IsSome, Result, Ok, IfOk, OnOk, OnErr, refl, sym, ap, subst, arith}
use Rattle.pm_values.specs.declared.refusal.Refusal.{Refusal}
use Rattle.pm_store.specs.Store.{StoreView}
use Rattle.pm_store.specs.declared.answer.Answer.{Answer}
use Rattle.pm_store.specs.declared.answer.Answer.TheVariants as answers
use Rattle.pm_machine.specs.Step.{Stepped, Rested, Went, Refused, Stopped, Failed}
use Rattle.pm_schema.specs.declared.schema.TableSchema.{TableSchema}
use Rattle.pm_read_table.specs.Reader as reader
use Rattle.pm_read_table.specs.Reader.{most}
use Rattle.pm_read_table.specs.declared.phase.Phase as view_phase
use Rattle.pm_read_table.specs.declared.phase.Phase.TheVariants as readers
use Rattle.pm_read_table.specs.declared.view.View.{View}
use Rattle.pm_read_table.proofs.Facts as reader_facts
use Rattle.pm_put.specs.declared.putting.CommitFile.{CommitFile}
use Rattle.pm_made.specs.Intent.{most_files}
use Rattle.pm_made.proofs.FileCountLemmas.{made-few}
use Rattle.pm_commit.specs.Committer.{After, AfterPutter, AfterReader, Goes, Hears, IsCommitter, Makes, MayMake, Outcome, Reaches, Reads, Refuses, Stops, Tries, calls_left, first_of_try, found_in, later_tries, most_of_try, next_call, publishing_of, reached_at}
use Rattle.pm_commit.specs.Own.{IsOwn, OwnView, begun, tries, with_lost, with_named}
use Rattle.pm_commit.specs.Search.{older_ids, seen_in, seen_of}
use Rattle.pm_commit.specs.declared.search.Seen.{Seen}
use Rattle.pm_commit.specs.declared.found.Found.{Found}
use Rattle.pm_put.proofs.Facts as put_facts
use Rattle.pm_put.specs.Putter as put
use Rattle.pm_put.specs.declared.phase.Phase as put_phase
use Rattle.pm_put.specs.declared.phase.Phase.TheVariants as puts
use Rattle.pm_put.specs.declared.putting.Publishing.{Publishing}
use Rattle.pm_commit.specs.declared.phase.Phase.{Phase}
use Rattle.pm_commit.specs.declared.phase.Phase.TheVariants as phases
use Rattle.pm_commit.proofs.CommitterLemmas.{begun-at, ready-may}
use Rattle.pm_commit.proofs.OutcomeLemmas.{heard, ok-same, read-on, tried}
use Rattle.pm_commit.proofs.ReadsLemmas.{EntriesRead, reads-on}

-- fewer calls than that are left, and what was reached
abbrev IsAhead : ℕ → Phase → Type 0
IsAhead n m = (calls_left m < n) × Reaches (reached_at m) m

-- ---- counts of calls, each of a part of a try

-- the calls that are left of the tries after one are a product, and here any number
fewer-than : (a m later n : ℕ) → a ≤ m → m + 1 + later < n → a + 1 + later < n
fewer-than a m later n few below = omega (arith, few, below)

as-many : (a b later n : ℕ) → a ≡ b → b + later < n → a + later < n
as-many a b later n same below = omega (arith, same, below)

positive : (a n : ℕ) → a < n → 0 < n
positive a n below = omega (arith, below)

some-left : (a b later : ℕ) → 0 < a + 1 + (b + 1) + later
some-left a b later = omega arith

view-left : (a b later : ℕ) → 0 < a + (most + (b + 1)) + later
view-left a b later = omega arith

more-left : (a b later : ℕ) → 0 < a → b + later < a + b + later
more-left a b later some = omega (arith, some)

both-more : (a b c later : ℕ) → a < b → a + c + later < b + c + later
both-more a b c later fewer = omega (arith, fewer)

less-both : (a b later : ℕ) → a < b → a + later < b + later
less-both a b later fewer = omega (arith, fewer)

positive-both : (a later : ℕ) → 0 < a → 0 < a + later
positive-both a later some = omega (arith, some)

-- of a try that begins, in the place of another with as many
narrow-of : (a b c d n : ℕ) → a ≡ b → c ≡ d → most + (b + 1) + d < n → a + 1 + c < n
narrow-of a b c d n same also wide = omega (arith, same, also, wide)

search-of : (k a b c d n : ℕ) → a ≡ b → c ≡ d → most + (b + 1) + d < n → k < most → k + 1 + (a + 1) + c < n
search-of k a b c d n same also wide few = omega (arith, same, also, wide, few)

next-more : (a later : ℕ) → a + later < 1 + a + later
next-more a later = omega arith

search-over : (k a later : ℕ) → a + 1 + later < k + 1 + (a + 1) + later
search-over k a later = omega arith

search-next : (k j a later : ℕ) → k ≡ suc j → j + 1 + (a + 1) + later < k + 1 + (a + 1) + later
search-next k j a later is = omega (arith, is)

-- one try fewer is left
one-more : (b m : ℕ) → suc b * m ≡ m + b * m
one-more b m = grind arith

below-next : (k : ℕ) → k < 1 + k
below-next k = omega arith

tries-fewer : (a b m : ℕ) → a ≡ suc b → m + b * m < 1 + a * m
tries-fewer a b m is =
    subst (λ (k : ℕ). m + b * m < 1 + k * m) (sym is)
    (subst (λ (k : ℕ). m + b * m < 1 + k) (sym (one-more b m)) (below-next (m + b * m)))

-- ---- what a call leads to

put-ahead : (own : OwnView) (s : TableSchema) (id : ℕ) (x : Publishing) (files : List CommitFile) (n : ℕ) → length files + 1 + later_tries own < n
    → IsAhead n (phases.Put own s id (put.create_next x files))
put-ahead own s id x files n below = let left = put_facts.next_left x files in (as-many _ (length files + 1) (later_tries own) n left below, omega (arith, left))

makes-ahead : (own : OwnView) (found : Found) (later : Phase) (n : ℕ) → IsOwn found.schema own → most_files own.intent + 1 + later_tries own < n → Makes own found (Ok later)
    → IsAhead n later
makes-ahead own found later n own_of below (made, is_made, allowed, is) =
    let few = made-few found.schema found.newest own.author own.intent own.names made is_made in
    subst (IsAhead n) (sym is)
    (put-ahead (with_named (own.names.count + length made.files.items) own) found.schema made.id (publishing_of found.schema made.id made.text) made.files.items n
    (fewer-than (length made.files.items) (most_files own.intent) (later_tries own) n few below))

-- of the ids that are left one is read next, and the others are few enough
abbrev IsFew : OwnView → List ℕ → ℕ → Type 0
IsFew own left n = (id : ℕ) (rest : List ℕ) → left ≡ id ∷ rest → length rest < most → length rest + 1 + (most_files own.intent + 1) + later_tries own < n

hears-ahead : (own : OwnView) (found : Found) (left : List ℕ) (said : Seen) (later : Phase) (n : ℕ) → IsOwn found.schema own → most_files own.intent + 1 + later_tries own < n
    → IsFew own left n → Hears own found left said (Ok later) → IsAhead n later
hears-ahead own found left said later n own_of below fewer on =
    heard (λ (o : Outcome). IfOk o (IsAhead n)) own found left said (Ok later) (λ free on. makes-ahead own found later n own_of below on)
    (λ id rest other is few. (fewer id rest is few, some-left (length rest) (most_files own.intent) (later_tries own)))
    (λ reached. (positive (most_files own.intent + 1 + later_tries own) n below, (own.author, refl))) on

begun-later : (own : OwnView) (id : ℕ) → later_tries (begun id own) ≡ later_tries own
begun-later own id = begun-at (λ o. later_tries o ≡ later_tries own) own id refl refl

begun-files : (own : OwnView) (id : ℕ) → most_files (begun id own).intent ≡ most_files own.intent
begun-files own id = begun-at (λ o. most_files o.intent ≡ most_files own.intent) own id refl refl

ready-ahead : (own : OwnView) (v : View) (later : Phase) (n : ℕ) → MayMake (begun v.id own) (found_in v) → most + (most_files own.intent + 1) + later_tries own < n
    → Tries (begun v.id own) v (Ok later) → IsAhead n later
ready-ahead own v later n may wide on =
    let o : OwnView = begun v.id own in
    let same : later_tries o ≡ later_tries own = begun-later own v.id in
    let files : most_files o.intent ≡ most_files own.intent = begun-files own v.id in
    let narrow : most_files o.intent + 1 + later_tries o < n =
    narrow-of (most_files o.intent) (most_files own.intent) (later_tries o) (later_tries own) n files same wide in
    tried (IsAhead n later) o v (Ok later) (λ unasked on. makes-ahead o (found_in v) later n may.own_of narrow on)
    (λ asked on. hears-ahead o (found_in v) (older_ids v.listed.items) (seen_in o.author v.snapshot) later n may.own_of narrow
    (λ id rest is few. search-of (length rest) (most_files o.intent) (most_files own.intent) (later_tries o) (later_tries own) n files same wide few) on) on

reader-ahead : (own : OwnView) (s : TableSchema) (m to : view_phase.Phase) (new : Phase) → IsOwn s own → Reads to s → reader.calls_left to < reader.calls_left m
    → AfterReader own to (Ok new) → IsAhead (reader.calls_left m + (most + (most_files own.intent + 1)) + later_tries own) new
reader-ahead own s m to new own_of reads fewer on =
    let n : ℕ = reader.calls_left m + (most + (most_files own.intent + 1)) + later_tries own in
    read-on (λ (o : Outcome). IfOk o (IsAhead n)) (λ to. Reads to s × (reader.calls_left to < reader.calls_left m)) own (Ok new)
    (λ v has on. (let some : 0 < reader.calls_left m = has.1 in ready-ahead own v new n (ready-may own v s has.0 own_of)
    (more-left (reader.calls_left m) (most + (most_files own.intent + 1)) (later_tries own) some) on))
    (λ to none has. (
      both-more (reader.calls_left to) (reader.calls_left m) (most + (most_files own.intent + 1)) (later_tries own) has.1,
      view-left (reader.calls_left to) (most_files own.intent) (later_tries own),
    )) to (reads, fewer) on

first-ahead : (own : OwnView) (s : TableSchema) (new : Phase) (n : ℕ) → most_of_try own.intent + later_tries own < n → new ≡ first_of_try own s → IsAhead n new
first-ahead own s new n below is = subst (IsAhead n) (sym is) (below, view-left (most + 5) (most_files own.intent) (later_tries own))

lost-ahead : (own : OwnView) (s : TableSchema) (id : ℕ) (new : Phase) → length own.lost + 1 < tries → new ≡ first_of_try (with_lost id own) s
    → IsAhead (1 + later_tries own) new
lost-ahead own s id new left is =
    let longer = length-append own.lost (id ∷ []) in
    first-ahead (with_lost id own) s new (1 + later_tries own)
    (tries-fewer (tries - (length own.lost + 1)) (tries - (length (own.lost ++ id ∷ []) + 1)) (most_of_try own.intent) (omega (arith, longer, left))) is

as-ahead : (own : OwnView) (s : TableSchema) (id : ℕ) (m to : put_phase.Phase) (new : Phase) → put.calls_left to < put.calls_left m → 0 < put.calls_left to
    → ◌≡◌ {A = Outcome} (Ok new) (Ok (phases.Put own s id to)) → IsAhead (put.calls_left m + later_tries own) new
as-ahead own s id m to new fewer some is =
    subst (IsAhead (put.calls_left m + later_tries own)) (sym (ok-same new _ is))
    (less-both (put.calls_left to) (put.calls_left m) (later_tries own) fewer, positive-both (put.calls_left to) (later_tries own) some)

putter-ahead : (own : OwnView) (s : TableSchema) (id : ℕ) (m to : put_phase.Phase) (answer : Answer) (new : Phase) → put.Goes m answer to
    → AfterPutter own s id to (Ok new) → IsAhead (put.calls_left m + later_tries own) new
putter-ahead own s id m puts.Published answer new goes is =
    let on = put_facts.goes m answer puts.Published goes in
    let fewer = on.0 in
    subst (IsAhead (put.calls_left m + later_tries own)) (sym (ok-same new _ is)) (positive-both (put.calls_left m) (later_tries own) (positive _ (put.calls_left m) fewer), (own.author, refl))
putter-ahead own s id m puts.Lost answer new goes (left, is) =
    let on = put_facts.goes m answer puts.Lost goes in
    subst (λ (k : ℕ). IsAhead (k + later_tries own) new) on.2 (lost-ahead own s id new left is)
putter-ahead own s id m to answer new goes is = let on = put_facts.goes m answer to goes in as-ahead own s id m to new on.0 on.1 is

pub goes-ahead : EntriesRead → (m : Phase) (answer : Answer) (new : Phase) → After m answer (Ok new) → IsCommitter m → IsAhead (calls_left m) new
goes-ahead law (phases.Names own s) (answers.Listed names) new (none, is) own_of =
    first-ahead own s new (1 + most_of_try own.intent + later_tries own) (next-more (most_of_try own.intent) (later_tries own)) is
goes-ahead law (phases.View own m) answer new (to, goes, on) (left, (s, reads, own_of), may) =
    let ahead = reader_facts.goes_ahead m answer to goes in
    reader-ahead own s m to new own_of (reads-on law s m answer to reads goes).reads ahead.0 on
goes-ahead law (phases.Search own q) (answers.Found None) new on (may, few, ids) =
    makes-ahead own q.found new (length q.left + 1 + (most_files own.intent + 1) + later_tries own) may.own_of
    (search-over (length q.left) (most_files own.intent) (later_tries own)) on
goes-ahead law (phases.Search own q) (answers.Found (Some bytes)) new (x, reads, on) (may, few, ids) =
    hears-ahead own q.found q.left (seen_of own.author x) new (length q.left + 1 + (most_files own.intent + 1) + later_tries own) may.own_of
    (search-over (length q.left) (most_files own.intent) (later_tries own))
    (λ id rest is few. search-next (length q.left) (length rest) (most_files own.intent) (later_tries own) (ap length is)) on
goes-ahead law (phases.Put own s id m) answer new (to, goes, on) known = putter-ahead own s id m to answer new goes on
goes-ahead law m answer new on known = absurd on

reader-call : (r : view_phase.Phase) → 0 < reader.calls_left r → IsSome (reader.next_call r)
reader-call (readers.Ready v) left = absurd (let none : 0 < 0 = left in omega (arith, none))
reader-call readers.Over left = absurd (let none : 0 < 0 = left in omega (arith, none))
reader-call r left = refl

-- a committer with calls left has a next one
pub has-call : (m : Phase) → IsCommitter m → 0 < calls_left m → IsSome (next_call m)
has-call (phases.Names own s) is left = refl
has-call (phases.View own m) (has, reads, may) left = reader-call m has
has-call (phases.Search own q) is left = refl
has-call (phases.Put own s id m) is left = put_facts.has_call m is.1
has-call m is left = absurd (let none : 0 < 0 = left in omega (arith, none))

-- a step that goes on leaves fewer calls, and what it reached
pub steps-on : EntriesRead → {old new : Phase} {before after : StoreView} {result : Result (Unit {0}) Refusal}
    → Stepped next_call Goes Refuses Stops old new before after result → IsCommitter old → 0 < calls_left old
    → OnOk result ((calls_left new < calls_left old) × Reaches (reached_at new) new)
steps-on law {old = old} {new = new} (Rested none same still) is left =
    absurd (let called = has-call old is left in let clash = rw none at called in cc)
steps-on law {old = old} {new = new} {before = before} {after = after} (Went call answer at came on) is left = goes-ahead law old answer new on is
steps-on law (Refused call answer refusal at came on) is left = tt
steps-on law (Stopped call at meanwhile stop) is left = tt
steps-on law (Failed call at came stop) is left = tt

-- a step with a refusal ends it
pub over-on : {old new : Phase} {before after : StoreView} {result : Result (Unit {0}) Refusal}
    → Stepped next_call Goes Refuses Stops old new before after result → OnErr result (new ≡ phases.Over)
over-on (Rested none same still) = tt
over-on (Went call answer at came on) = tt
over-on (Refused call answer refusal at came on) = on.1
over-on (Stopped call at meanwhile stop) = stop
over-on (Failed call at came stop) = stop
