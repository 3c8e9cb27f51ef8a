-- The lister of snapshots that a reader has.
use Rattle.std.proofs.Common.{◌≡◌, inl, inr, ℕ, ◌-◌, ◌<◌, ◌≤◌, ℤ, List, [], ◌∷◌, ◌++◌, length, map, take, slice_get, Option, None, Some, Result, Ok, Err, IfOk, refl, sym, ap, ◌∙◌, subst, arith}
use Rattle.std.proofs.lemmas.List.{length_push, map-append, take_all, take_more}
use Rattle.std.proofs.lemmas.Option.{get_or_from_slice_get, slice_get_cases, slice_get_within}
use Rattle.pm_store.specs.declared.answer.Answer.{Answer}
use Rattle.pm_store.specs.declared.answer.Answer.TheVariants as answers
use Rattle.pm_expire_end.specs.Expiry.{AreConsecutive, KeepsNeeded, expire_end_of, first_id}
use Rattle.pm_expire_end.specs.declared.keep.Keep.{Keep}
use Rattle.pm_paths.specs.Ids.{AreIds}
use Rattle.pm_schema.specs.Again.{IsDeclared}
use Rattle.pm_schema.specs.declared.schema.TableSchema.{TableSchema}
use Rattle.pm_snapshot.proofs.Facts.{id_same}
use Rattle.pm_snapshots.specs.Lines.{line_of}
use Rattle.pm_snapshots.specs.Lister as lister
use Rattle.pm_snapshots.specs.Reading.{IsReading, ReadingView, add_line, next_id, reading_of}
use Rattle.pm_snapshots.specs.declared.line.SnapshotLine.{SnapshotLine}
use Rattle.pm_snapshots.specs.declared.phase.Phase as listing
use Rattle.pm_snapshots.specs.declared.phase.Phase.TheVariants as listers
use Rattle.pm_read_expiry.specs.Found.{AreSnapshotIds, IsAsking, IsFoundIn, IsInOrder}
use Rattle.pm_read_expiry.specs.Reader.{IsListOf, IsReadingOf}
use Rattle.pm_read_expiry.specs.Times.{times_of}
use Rattle.pm_read_expiry.specs.declared.asking.Asking.{Asking}
use Rattle.pm_read_expiry.specs.declared.asking.Found.{Found}
use Rattle.pm_read_expiry.proofs.TimesLemmas.{chain_ids}

-- what is so of a value that was given is so of it
pub if_ok : {T E : Type 0} (r : Result T E) (P Q : T → Type 0) → ((x : T) → P x → Q x) → IfOk r P → IfOk r Q
if_ok (Ok x) P Q weaker so = weaker x so
if_ok (Err e) P Q weaker so = tt

-- ---- what a listing leads to

-- ids that names list are those of snapshots
pub listed_ids : (names : List (List ℕ)) (ids : List ℕ) → AreIds names ids → AreSnapshotIds ids
listed_ids names ids are = record { rising = are.rising; after_origin = λ id has. ((are.exact id).0 has).0 }

-- after the listing they are to be read
pub listed_to : (s : TableSchema) (answer : Answer) (new : listing.Phase) → lister.Goes (listers.List s) answer new
    → (ids : List ℕ) × AreSnapshotIds ids × (new ≡ listers.Read (reading_of s ids []))
listed_to s (answers.Listed names) new (ids, are, is) = (ids, listed_ids names.items ids are, is)
listed_to s answer new goes = absurd goes

pub listed_of_list : (a : Asking) (m new : listing.Phase) (answer : Answer) → m ≡ listers.List a.schema → lister.Goes m answer new → IsListOf a new
listed_of_list a m new answer at goes =
    let to = listed_to a.schema answer new (subst (λ (m : listing.Phase). lister.Goes m answer new) at goes) in
    let reading : IsReadingOf a (reading_of a.schema to.0 []) = record { reading = refl; schema = refl; ids = to.1 } in
    subst (IsListOf a) (sym to.2) reading

-- ---- what a read leads to

-- a line more
pub line_more : (r : ReadingView) (l : SnapshotLine) → IsReading r → next_id r ≡ Some l.id → IsReading (add_line r l)
line_more r l is next =
    let k : ℕ = length r.lines in
    map-append (λ (l : SnapshotLine). l.id) r.lines (l ∷ [])
    ∙ ap (λ (ids : List ℕ). ids ++ l.id ∷ []) is
    ∙ sym (ap (λ n. take n r.ids) (length_push r.lines l)
    ∙ take_more r.ids k l.id (slice_get_within r.ids k l.id next)
    ∙ ap (λ id. take k r.ids ++ id ∷ []) (get_or_from_slice_get r.ids k l.id l.id next))

-- after a read a line more is there
pub read_to : (r : ReadingView) (answer : Answer) (new : listing.Phase) → lister.Goes (listers.Read r) answer new
    → (l : SnapshotLine) × (next_id r ≡ Some l.id) × (new ≡ listers.Read (add_line r l))
read_to r (answers.Found (Some bytes)) new (id, s, next, reads, is) =
    (line_of s, next ∙ ap (λ (id : ℕ). Some id) (sym (id_same id bytes s reads)), is)
read_to r answer new goes = absurd goes

pub read_stays : (a : Asking) (m new : listing.Phase) (answer : Answer) → IsListOf a m → lister.Goes m answer new → IsListOf a new
read_stays a (listers.Read r) new answer of goes =
    let to = read_to r answer new goes in
    let reading : IsReadingOf a (add_line r to.0) = record { reading = line_more r to.0 of.reading to.1; schema = of.schema; ids = of.ids } in
    subst (IsListOf a) (sym to.2) reading
read_stays a m new answer of goes = absurd of

pub some_read : (a : Asking) (m new : listing.Phase) (answer : Answer) → IsListOf a m → lister.Goes m answer new → 0 < length (lister.lines_of new)
some_read a (listers.Read r) new answer of goes =
    let to = read_to r answer new goes in
    let more = length_push r.lines to.0 in
    subst (λ (m : listing.Phase). 0 < length (lister.lines_of m)) (sym to.2) (omega (arith, more))
some_read a m new answer of goes = absurd of

-- ---- how far it has come

pub list_lister : (a : Asking) (m : listing.Phase) → IsListOf a m → lister.IsLister m
list_lister a (listers.Read r) of = of.reading
list_lister a m of = absurd of

left_to_read : (r : ReadingView) (next : Option ℕ) → next_id r ≡ next → (next_id r ≡ None → ⊥) → 0 < length r.ids - length r.lines
left_to_read r None is not = absurd (not is)
left_to_read r (Some id) is not = let within = slice_get_within r.ids (length r.lines) id is in omega (arith, within)

-- one is to be read where not all were
pub left_over : (a : Asking) (m : listing.Phase) → IsListOf a m → (lister.IsDone m → ⊥) → 0 < lister.calls_left m
left_over a (listers.Read r) of not = left_to_read r (next_id r) refl not
left_over a m of not = absurd of

within_none : (r : ReadingView) → next_id r ≡ None → length r.ids ≤ length r.lines
within_none r none = elim ((slice_get_cases r.ids (length r.lines)).1) as (λ _. length r.ids ≤ length r.lines) [
  | inl within ↦ absurd (let clash : None ≡ Some within.0 = sym none ∙ within.2 in cc)
  | inr beyond ↦ beyond.0
]

-- where none is left, the lines are of all ids
pub all_read : (r : ReadingView) → IsReading r → next_id r ≡ None → map (λ (l : SnapshotLine). l.id) r.lines ≡ r.ids
all_read r is none = is ∙ take_all (length r.lines) r.ids (within_none r none)

-- where none was listed there is none
pub no_first : (ids : List ℕ) → slice_get ids 0 ≡ None → ids ≡ []
no_first [] none = refl
no_first (id ∷ ids) none = absurd (let clash : Some id ≡ None = none in cc)

-- ---- what was found is in order

abbrev pub EndKeeps : Type 0
EndKeeps = (times : List (ℕ × ℤ)) (keep : Keep) (now : ℤ) (next : Option ℕ) → AreConsecutive times → 1 ≤ keep.min
    → KeepsNeeded times keep now next (expire_end_of times keep now next)

order_of : (low high a b : ℕ) → low ≡ a → high ≡ b → a ≤ b → low ≤ high
order_of low high a b first second less = omega (arith, first, second, less)

in_order_of : EndKeeps → (a : Asking) (r : ReadingView) (next : Option ℕ) (names : List (List ℕ)) (x : Found) → IsAsking a → IsReadingOf a r
    → next_id r ≡ None → IsFoundIn a (times_of r.lines) next names x → IsInOrder x
in_order_of law a r next names x asking of none found =
    let kept = law found.chain a.keep a.now next found.is_chain.each asking.some in
    let ids = chain_ids r.lines r.ids found.chain (all_read r of.reading none) of.ids.rising found.is_chain in
    record {
      declared = subst (λ (s : TableSchema). IsDeclared s) (sym found.schema) asking.declared;
      first = order_of x.first x.end _ _ found.first found.end kept.first;
      last = order_of x.end x.last _ _ found.end found.last kept.last;
      some = λ less. subst (λ (n : ℕ). 1 ≤ n) (sym found.first) (of.ids.after_origin (first_id found.chain) ids.first);
    }

pub in_order : EndKeeps → (a : Asking) (m : listing.Phase) (next : Option ℕ) (names : List (List ℕ)) (x : Found) → IsAsking a → IsListOf a m
    → lister.IsDone m → IsFoundIn a (times_of (lister.lines_of m)) next names x → IsInOrder x
in_order law a (listers.Read r) next names x asking of done found = in_order_of law a r next names x asking of done found
in_order law a m next names x asking of done found = absurd of
