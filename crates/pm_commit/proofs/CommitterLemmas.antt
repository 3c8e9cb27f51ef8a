-- What an answer leads to is a committer.
use Rattle.std.proofs.Common.{◌≡◌, inl, inr, ℕ, ◌+◌, ◌<◌, ◌≤◌, List, [], ◌∷◌, ◌++◌, drop, reverse, length, length-append, None, Some, Ok, IfOk, refl, sym, ap, subst, arith}
use mathlib.Core.List.{reverse-cons}
use Rattle.pm_base.proofs.Laws.{AllByRecursion-append}
use Rattle.pm_snapshot.specs.Names.{greatest}
use Rattle.pm_store.specs.declared.answer.Answer.{Answer}
use Rattle.pm_store.specs.declared.answer.Answer.TheVariants as answers
use Rattle.pm_schema.specs.declared.schema.TableSchema.{TableSchema}
use Rattle.pm_read_table.specs.Asked.{Asked, asked_of}
use Rattle.pm_read_table.specs.Reader as reader
use Rattle.pm_read_table.specs.declared.phase.Phase as view_phase
use Rattle.pm_read_table.specs.declared.phase.Phase.TheVariants as readers
use Rattle.pm_read_table.specs.declared.view.View.{View}
use Rattle.pm_made.specs.Files.{IsMadeOf}
use Rattle.pm_made.specs.Intent.{most_files}
use Rattle.pm_made.specs.declared.newest.Made.{Made}
use Rattle.pm_made.proofs.FileCountLemmas.{made-few}
use Rattle.pm_put.specs.declared.putting.CommitFile.{CommitFile}
use Rattle.pm_commit.specs.Committer.{AreIds, After, AfterPutter, AfterReader, Hears, IsCommitter, IsPutting, Makes, MayMake, Outcome, Reads, Tries, first_of_try, found_in, newest_of, publishing_of}
use Rattle.pm_commit.specs.Own.{IsOwn, IsTried, MayView, OwnView, begun, begun_after, tries, with_lost, with_named}
use Rattle.pm_commit.specs.Search.{older_ids, seen_in, seen_of}
use Rattle.pm_commit.specs.declared.search.Seen.{Seen}
use Rattle.pm_commit.specs.declared.found.Found.{Found}
use Rattle.pm_put.proofs.Facts as put_facts
use Rattle.pm_put.specs.Putter as put
use Rattle.pm_put.specs.declared.phase.Phase as put_phase
use Rattle.pm_put.specs.declared.phase.Phase.TheVariants as puts
use Rattle.pm_put.specs.declared.putting.Publishing.{Publishing}
use Rattle.pm_commit.specs.declared.phase.Phase.{Phase}
use Rattle.pm_commit.specs.declared.phase.Phase.TheVariants as phases
use Rattle.pm_commit.proofs.OutcomeLemmas.{heard, ok-same, read-on, tried}
use Rattle.pm_commit.proofs.ReadsLemmas.{EntriesRead, IsOn, reads-on}

-- ---- what is known of a commit

-- its first try sets its base, and no later one
pub begun-first : (P : OwnView → Type 0) (own : OwnView) (n : ℕ) → P own → (own.lost ≡ [] → P (begun_after [] n own)) → P (begun n own)
begun-first P own n stays sets = at own.lost refl
  where
    at : (lost : List ℕ) → own.lost ≡ lost → P (begun_after lost n own)
    at [] first = sets first
    at (id ∷ lost) later = stays

pub begun-at : (P : OwnView → Type 0) (own : OwnView) (n : ℕ) → P own → P (begun_after [] n own) → P (begun n own)
begun-at P own n stays sets = begun-first P own n stays (λ first. sets)

pub begun-own : (s : TableSchema) (own : OwnView) (n : ℕ) → IsOwn s own → IsOwn s (begun n own)
begun-own s own n is = begun-at (IsOwn s) own n is
    (record { declared = is.declared; made_for = is.made_for; fits = is.fits; few = is.few; same_base = refl; within = is.within; named = is.named })

pub begun-intent : (own : OwnView) (n : ℕ) → (begun n own).intent ≡ own.intent
begun-intent own n = begun-at (λ o. o.intent ≡ own.intent) own n refl refl

pub begun-lost : (own : OwnView) (n : ℕ) → (begun n own).lost ≡ own.lost
begun-lost own n = begun-at (λ o. o.lost ≡ own.lost) own n refl refl

pub made-tried : (own : OwnView) (found : Found) (made : Made) → IsMadeOf found.schema found.newest own.author own.intent own.names made → IsOwn found.schema own
    → IsTried found.schema (with_named (own.names.count + length made.files.items) own)
made-tried own found made is own_of = record {
  declared = own_of.declared;
  made_for = own_of.made_for;
  fits = own_of.fits;
  few = own_of.few;
  same_base = own_of.same_base;
  within = own_of.within;
  named =
      (let few = made-few found.schema found.newest own.author own.intent own.names made is in
      let most = own_of.few in
      let count = own_of.named in
      omega (arith, few, most, count));
}

lost-own : (s : TableSchema) (own : OwnView) (id : ℕ) → length own.lost + 1 < tries → IsTried s own → IsOwn s (with_lost id own)
lost-own s own id left tried =
    let longer : length (own.lost ++ id ∷ []) ≡ length own.lost + 1 = length-append own.lost (id ∷ []) in record {
      declared = tried.declared;
      made_for = tried.made_for;
      fits = tried.fits;
      few = tried.few;
      same_base = tried.same_base;
      within = omega (arith, longer, left);
      named = (let count = tried.named in omega (arith, longer, count));
    }

-- after a loss it may begin by a view
lost-view : (own : OwnView) (id : ℕ) → MayView (with_lost id own)
lost-view own id none = absurd (let longer = length-append own.lost (id ∷ []) in let empty = ap length none in omega (arith, longer, empty))

-- ---- what is asked

pub asked-same : (a b : Asked) → Some a ≡ Some b → a ≡ b
asked-same a b e = cc

-- the schema of a view that is ready
pub ready-schema : (v : View) (s : TableSchema) → Reads (readers.Ready v) s → v.schema ≡ s
ready-schema v s reads = ap (λ (a : Asked). a.schema) (asked-same (asked_of v.schema v.wanted) (newest_of s) reads.asked)

-- ---- ids

all-reversed : (ids : List ℕ) → AreIds ids → AreIds (reverse ids)
all-reversed [] all = tt
all-reversed (id ∷ ids) (is, rest) =
    subst AreIds (sym (reverse-cons id ids))
    (AllByRecursion-append (λ (id : ℕ). (1 ≤ id) × (id ≤ greatest)) (reverse ids) (id ∷ []) (all-reversed ids rest) (is, tt))

without-first : (ids : List ℕ) → AreIds ids → AreIds (drop 1 ids)
without-first [] all = tt
without-first (id ∷ ids) (is, rest) = rest

older-are : (listed : List ℕ) → AreIds listed → AreIds (older_ids listed)
older-are listed all = without-first (reverse listed) (all-reversed listed all)

-- ---- each is a committer

put-committer : (own : OwnView) (s : TableSchema) (id : ℕ) (x : Publishing) (files : List CommitFile) → IsTried s own → length files ≤ most_files own.intent
    → IsCommitter (phases.Put own s id (put.create_next x files))
put-committer own s id x files tried few = let left = put_facts.next_left x files in (tried, omega (arith, left), omega (arith, left, few))

pub makes-committer : (own : OwnView) (found : Found) (later : Phase) → IsOwn found.schema own → Makes own found (Ok later) → IsCommitter later
makes-committer own found later own_of (made, is_made, allowed, is) =
    let few = made-few found.schema found.newest own.author own.intent own.names made is_made in
    subst IsCommitter (sym is)
    (put-committer (with_named (own.names.count + length made.files.items) own) found.schema made.id (publishing_of found.schema made.id made.text) made.files.items
    (made-tried own found made is_made own_of) few)

hears-committer : (own : OwnView) (found : Found) (left : List ℕ) (said : Seen) (later : Phase) → MayMake own found → AreIds left → Hears own found left said (Ok later)
    → IsCommitter later
hears-committer own found left said later may ids on =
    heard (λ (o : Outcome). IfOk o IsCommitter) own found left said (Ok later) (λ free on. makes-committer own found later may.own_of on)
    (λ id rest other is few. (may, few, subst AreIds is ids)) (λ reached. tt) on

pub ready-may : (own : OwnView) (v : View) (s : TableSchema) → Reads (readers.Ready v) s → IsOwn s own → MayMake (begun v.id own) (found_in v)
ready-may own v s reads own_of = record {
  own_of = subst (λ (t : TableSchema). IsOwn t (begun v.id own)) (sym (ready-schema v s reads)) (begun-own s own v.id own_of);
  numbers = reads.numbers;
}

tries-committer : (own : OwnView) (v : View) (later : Phase) → MayMake own (found_in v) → AreIds v.listed.items → Tries own v (Ok later) → IsCommitter later
tries-committer own v later may ids on =
    tried (IsCommitter later) own v (Ok later) (λ unasked on. makes-committer own (found_in v) later may.own_of on)
    (λ asked on. hears-committer own (found_in v) (older_ids v.listed.items) (seen_in own.author v.snapshot) later may (older-are v.listed.items ids) on) on

reader-committer : (own : OwnView) (s : TableSchema) (m : view_phase.Phase) (later : Phase) → IsOn s m → IsOwn s own → MayView own → AfterReader own m (Ok later)
    → IsCommitter later
reader-committer own s m later on own_of may after =
    read-on (λ (o : Outcome). IfOk o IsCommitter) (IsOn s) own (Ok later)
    (λ v on tries. tries-committer (begun v.id own) v later (ready-may own v s on.reads own_of) on.reads.ids tries)
    (λ m none on. (elim (on.left) as (λ _. 0 < reader.calls_left m) [ inl ready ↦ absurd (none ready) | inr left ↦ left ], (s, on.reads, own_of), may)) m on after

first-committer : (own : OwnView) (s : TableSchema) (later : Phase) → IsOwn s own → MayView own → later ≡ first_of_try own s → IsCommitter later
first-committer own s later own_of may is = subst IsCommitter (sym is) (omega arith, (s, record { asked = refl; numbers = tt; ids = tt }, own_of), may)

-- the putter goes on
as-putting : (own : OwnView) (s : TableSchema) (id : ℕ) (m : put_phase.Phase) (later : Phase) → IsTried s own → 0 < put.calls_left m
    → put.calls_left m ≤ most_files own.intent + 1 → ◌≡◌ {A = Outcome} (Ok later) (Ok (phases.Put own s id m)) → IsCommitter later
as-putting own s id m later tried some few is = subst IsCommitter (sym (ok-same later _ is)) (tried, some, few)

putter-committer : (own : OwnView) (s : TableSchema) (id : ℕ) (m to : put_phase.Phase) (answer : Answer) (later : Phase) → IsPutting s own m → put.Goes m answer to
    → AfterPutter own s id to (Ok later) → IsCommitter later
putter-committer own s id m puts.Published answer later (tried, some, few) goes is = subst IsCommitter (sym (ok-same later _ is)) tt
putter-committer own s id m puts.Lost answer later (tried, some, few) goes (left, is) =
    first-committer (with_lost id own) s later (lost-own s own id left tried) (lost-view own id) is
putter-committer own s id m to answer later (tried, some, few) goes is =
    let on = put_facts.goes m answer to goes in
    let fewer = on.0 in
    as-putting own s id to later tried on.1 (omega (arith, fewer, few)) is

pub still-committer : EntriesRead → (m : Phase) (answer : Answer) (later : Phase) → IsCommitter m → After m answer (Ok later) → IsCommitter later
still-committer law (phases.Names own s) (answers.Listed names) later (own_of, appends) (none, is) = first-committer own s later own_of (λ first. appends) is
still-committer law (phases.View own m) answer later (left, (s, reads, own_of), may) (new, goes, after) =
    reader-committer own s new later (reads-on law s m answer new reads goes) own_of may after
still-committer law (phases.Search own q) (answers.Found None) later (may, few, ids) on = makes-committer own q.found later may.own_of on
still-committer law (phases.Search own q) (answers.Found (Some bytes)) later (may, few, ids) (x, reads, on) =
    hears-committer own q.found q.left (seen_of own.author x) later may ids.1 on
still-committer law (phases.Put own s id m) answer later putting (to, goes, on) = putter-committer own s id m to answer later putting goes on
still-committer law m answer later known after = absurd after
