-- The calls of `expire` show one answer, but that memory may run out: those that read the schema end at one place, and
-- from there on those of an expiry do.
use Rattle.std.proofs.Common.{◌≡◌, ◌⊎◌, inl, inr, ℕ, List, [], ◌∷◌, ◌++◌, Option, None, Some, Result, Ok, Err, refl, sym, ap, subst, ◌∙◌, append-nil, append_assoc}
use Rattle.pm_values.specs.declared.refusal.Refusal.{Refusal}
use Rattle.pm_values.specs.declared.refusal.Refusal.TheVariants as refusals
use Rattle.pm_store.specs.declared.call.Call.{Call}
use Rattle.pm_machine.specs.Step.{path_of}
use Rattle.pm_machine.specs.Trace.{Event, IsFailed, faulted}
use Rattle.pm_schema.specs.Again.{IsDeclared}
use Rattle.pm_schema.specs.declared.schema.TableSchema.{TableSchema}
use Rattle.pm_read_schema.specs.Reader.{next_call}
use Rattle.pm_read_schema.specs.Trace as reader
use Rattle.pm_read_schema.specs.Trace.{DidSoFar, listed_schemas, listed_snapshots, read_schema}
use Rattle.pm_read_schema.specs.declared.phase.Phase.{Phase}
use Rattle.pm_read_schema.specs.declared.phase.Phase.TheVariants as readers
use Rattle.pm_read_schema.proofs.LeadLemmas.{Fails, Leads, failed_not, head_same, led, one_end, one_failed, one_lead, tail_same}
use Rattle.pm_read_schema.proofs.OneLemmas as schema
use Rattle.pm_snapshots.specs.AllCalls.{GoesOnFrom}
use Rattle.pm_read_expiry.specs.Trace as reading
use Rattle.pm_read_expiry.specs.Trace.{HasIds, all_read, listed_floors, none_listed}
use Rattle.pm_read_expiry.specs.declared.asking.Asking.{Asking}
use Rattle.pm_read_expiry.specs.declared.asking.Found.{Found}
use Rattle.pm_expire.specs.AllCalls as expiry
use Rattle.pm_expire.specs.Trace.{HasExpired, kept_all, kept_all_then, removed}
use Rattle.pm_expire.specs.declared.all_calls.Kept.{Kept}
use Rattle.pm_expire_end.specs.declared.keep.KeepAsked.{KeepAsked}
use Rattle.pm_command.specs.declared.start.Start.{Start}
use Rattle.pm_command_expire.specs.Expire.{DidExpire, asked_by}

-- ---- the calls of an expiry go on from those that read the schema

more_from : (s : TableSchema) (own more all : List Event) → GoesOnFrom s own → all ≡ own ++ more → GoesOnFrom s all
more_from s own more all (earlier, later, has, at) is =
    (earlier, later ++ more, has, is ∙ ap (λ (own : List Event). own ++ more) at ∙ append_assoc earlier later more)

ids_from : (a : Asking) (ids : List ℕ) (own : List Event) → HasIds a ids own → GoesOnFrom a.schema own
ids_from a ids own (names, earlier, reads, are, is_reading, (first, has, at), lines, is) =
    more_from a.schema earlier reads own (first, listed_snapshots names ∷ [], has, at) is

found_from : (a : Asking) (x : Found) (own : List Event) → reading.HasFound a x own → GoesOnFrom a.schema own
found_from a x own (none_listed none ids) = ids_from a [] own ids
found_from a x own (all_read floors next r lines last found) =
    let times = lines.read in
    let listed = times.listed in
    more_from a.schema times.before times.reads own
    (more_from a.schema listed.first (listed_floors listed.names ∷ listed.rest) times.before (ids_from a r.ids listed.first listed.listed) listed.is) times.is

expired_from : (a : Asking) (first last : ℕ) (own : List Event) → HasExpired a first last own → GoesOnFrom a.schema own
expired_from a first last own (kept_all x same is was found) = found_from a x own found
expired_from a first last own (kept_all_then n same is was found) =
    more_from a.schema found.reads found.rest own (found_from a n.found found.reads found.found) found.is
expired_from a first last own (removed n is was found) =
    more_from a.schema found.reads found.rest own (found_from a n.found found.reads found.found) found.is

did_from : (a : Asking) (result : Result Kept Refusal) (own : List Event) → expiry.DidExpire a result own → GoesOnFrom a.schema own
did_from a (Ok kept) own did = expired_from a kept.first kept.last own did
did_from a (Err e) own did = did.0

-- ---- no call failed that reads the schema, where the calls go on

-- the calls lead to a place that is no end
record IsOnWay (own : List Event) : Type 0 where
  place : schema.Place
  leads : Leads schema.Goes own schema.listing place
  not_end : schema.IsEnd place → ⊥

on_way : (m : Phase) (call : Call) (own : List Event) → DidSoFar m own → next_call m ≡ Some call → IsOnWay own
on_way readers.Schemas call own did next = record {
  place = schema.listing;
  leads = led schema.Goes own [] schema.listing schema.listing did refl;
  not_end = λ ends. ends;
}
on_way (readers.Schema id) call own (names, newest, at) next = record {
  place = schema.reading id;
  leads = led schema.Goes own (listed_schemas names ∷ []) schema.listing (schema.reading id) at (schema.reading id, inl (id, newest, refl), refl);
  not_end = λ ends. ends;
}
on_way (readers.Snapshots s) call own ((id, bytes, is, (earlier, (names, newest, begins), at)), none) next = record {
  place = schema.seeking s;
  leads = led schema.Goes own (listed_schemas names ∷ read_schema id (Some bytes) ∷ []) schema.listing (schema.seeking s)
      (at ∙ ap (λ (earlier : List Event). earlier ++ read_schema id (Some bytes) ∷ []) begins)
      (schema.reading id, inl (id, newest, refl), (schema.seeking s, rw is (rw none refl), refl));
  not_end = λ ends. ends;
}
on_way (readers.Ready s) call own did next = absurd cc
on_way readers.Over call own did next = absurd did

no_answer : (m new : schema.Place) (call : Call) → schema.Goes m (faulted call) new → ⊥
no_answer m new call goes = goes

failing_not : (first other more : List Event) (call : Call) (m n k : schema.Place) → first ++ more ≡ other ++ faulted call ∷ []
    → Leads schema.Goes first m n → schema.IsEnd n → Leads schema.Goes other m k → (schema.IsEnd k → ⊥) → ⊥
failing_not [] [] more call m n k is leads ends went not_end = not_end (subst schema.IsEnd (leads ∙ sym went) ends)
failing_not [] (event ∷ other) more call m n k is leads ends (new, goes, went) not_end = schema.ends_stay m new event (subst schema.IsEnd leads ends) goes
failing_not (event ∷ first) [] more call m n k is (new, goes, leads) ends went not_end =
    no_answer m new call (subst (λ (event : Event). schema.Goes m event new) (head_same event (faulted call) (first ++ more) [] is) goes)
failing_not (event ∷ first) (next ∷ other) more call m n k is (new, goes, leads) ends (now, went, later) not_end =
    let same = head_same event next (first ++ more) (other ++ faulted call ∷ []) is in
    let here : new ≡ now = schema.are_one m event new now goes (subst (λ (event : Event). schema.Goes m event now) (sym same) went) in
    failing_not first other more call new n k (tail_same event next (first ++ more) (other ++ faulted call ∷ []) is) leads ends
    (subst (λ (m : schema.Place). Leads schema.Goes other m k) (sym here) later) not_end

-- the reading of a schema that is refused isn't gone on from, but for want of memory
read_not : (e : Refusal) (s : TableSchema) (own : List Event) → reader.Shows e own → GoesOnFrom s own → e ≡ refusals.Memory
read_not e s own shows (earlier, later, has, at) = by (schema.is_shown e own shows)
  where
    by : schema.IsShown e own → e ≡ refusals.Memory
    by (schema.of_memory memory) = memory
    by (schema.of_place lead) =
        let end = one_end schema.Goes schema.IsEnd schema.are_one schema.ends_stay earlier own later [] schema.listing (schema.ready s) (schema.over e)
        (sym at ∙ sym (append-nil own)) (schema.ready_lead s earlier has) tt lead tt in
        absurd (schema.over_not e s (sym end.1))
    by (schema.of_failure (before, call, is, ends)) =
        let fails : IsFailed next_call DidSoFar (path_of call) own = subst (λ (e : Refusal). reader.Shows e own) is shows in
        let way = on_way fails.phase fails.call fails.earlier fails.did_so fails.next in
        absurd (failing_not earlier fails.earlier later fails.call schema.listing (schema.ready s) way.place (sym at ∙ fails.is) (schema.ready_lead s earlier has) tt
        way.leads way.not_end)

-- ---- one answer

-- what the law of expiries says
abbrev pub OneExpiry : Type 0
OneExpiry = (a : Asking) (one other : Result Kept Refusal) (own : List Event) → expiry.DidExpire a one own → expiry.DidExpire a other own
    → (one ≡ other) ⊎ ((one ≡ Err refusals.Memory) ⊎ (other ≡ Err refusals.Memory))

abbrev AreOneAnswer : Result Kept Refusal → Result Kept Refusal → Type 0
AreOneAnswer one other = (one ≡ other) ⊎ ((one ≡ Err refusals.Memory) ⊎ (other ≡ Err refusals.Memory))

abbrev refused : Refusal → Result Kept Refusal
refused e = Err e

-- what is answered where no schema was read
abbrev answer_at : schema.Place → Option (Result Kept Refusal)
answer_at (schema.over e) = Some (refused e)
answer_at m = None

one_some : (one other : Result Kept Refusal) → ◌≡◌ {A = Option (Result Kept Refusal)} (Some one) (Some other) → one ≡ other
one_some one other is = cc

none_some : (one : Result Kept Refusal) → ◌≡◌ {A = Option (Result Kept Refusal)} None (Some one) → ⊥
none_some one is = cc

module _ (start : Start) (asked : KeepAsked) where
  data IsShown (made : Result Kept Refusal) (own : List Event) : Type 0 where
    of_memory : made ≡ refused refusals.Memory → IsShown made own
    of_failure : (e : Refusal) → made ≡ refused e → Fails e own → reader.Shows e own → IsShown made own
    of_schema : (m : schema.Place) → Leads schema.Goes own schema.listing m → schema.IsEnd m → answer_at m ≡ Some made → IsShown made own
    of_expiry : (s : TableSchema) → IsDeclared s → expiry.DidExpire (asked_by start asked s) made own → IsShown made own

  by_reader : (e : Refusal) (own : List Event) → reader.Shows e own → schema.IsShown e own → IsShown (refused e) own
  by_reader e own shows (schema.of_memory memory) = of_memory (ap refused memory)
  by_reader e own shows (schema.of_failure fails) = of_failure e refl fails shows
  by_reader e own shows (schema.of_place lead) = of_schema (schema.over e) lead tt refl

  is_shown : (made : Result Kept Refusal) (own : List Event) → DidExpire start asked made own → IsShown made own
  is_shown (Ok kept) own (s, declared, did) = of_expiry s declared did
  is_shown (Err e) own (inl shows) = by_reader e own shows (schema.is_shown e own shows)
  is_shown (Err e) own (inr (s, declared, did)) = of_expiry s declared did

  failed_first : (e : Refusal) (own : List Event) (made other : Result Kept Refusal) (s : TableSchema) → made ≡ refused e → reader.Shows e own
      → expiry.DidExpire (asked_by start asked s) other own → made ≡ refused refusals.Memory
  failed_first e own made other s is shows did = is ∙ ap refused (read_not e s own shows (did_from (asked_by start asked s) other own did))

  -- no expiry follows where something is answered of the schema
  schema_not : (m : schema.Place) (own : List Event) (made other : Result Kept Refusal) (s : TableSchema) → Leads schema.Goes own schema.listing m → schema.IsEnd m
      → answer_at m ≡ Some made → expiry.DidExpire (asked_by start asked s) other own → ⊥
  schema_not m own made other s lead ends answer did =
      let (earlier, later, has, at) = did_from (asked_by start asked s) other own did in
      let end = one_end schema.Goes schema.IsEnd schema.are_one schema.ends_stay earlier own later [] schema.listing (schema.ready s) m
      (sym at ∙ sym (append-nil own)) (schema.ready_lead s earlier has) tt lead ends in
      none_some made (ap answer_at end.1 ∙ answer)

  one_expiry : OneExpiry → (own : List Event) (one other : Result Kept Refusal) (s t : TableSchema) → expiry.DidExpire (asked_by start asked s) one own
      → expiry.DidExpire (asked_by start asked t) other own → AreOneAnswer one other
  one_expiry law own one other s t did does =
      let (earlier, later, has, at) = did_from (asked_by start asked s) one own did in
      let (before, more, had, was) = did_from (asked_by start asked t) other own does in
      let end = one_end schema.Goes schema.IsEnd schema.are_one schema.ends_stay earlier before later more schema.listing (schema.ready s) (schema.ready t)
      (sym at ∙ was) (schema.ready_lead s earlier has) tt (schema.ready_lead t before had) tt in
      law (asked_by start asked s) one other own did
      (subst (λ (s : TableSchema). expiry.DidExpire (asked_by start asked s) other own) (sym (schema.one_ready s t end.1)) does)

  one_shown : OneExpiry → (own : List Event) (one other : Result Kept Refusal) → IsShown one own → IsShown other own → AreOneAnswer one other
  one_shown law own one other (of_memory memory) was = inr (inl memory)
  one_shown law own one other is (of_memory memory) = inr (inr memory)
  one_shown law own one other (of_failure e is fails shows) (of_failure d was failed denies) = inl (is ∙ ap refused (one_failed e d own fails failed) ∙ sym was)
  one_shown law own one other (of_failure e is fails shows) (of_schema m lead ends answer) = absurd (failed_not e own fails (schema.leads_answered own m lead))
  one_shown law own one other (of_failure e is fails shows) (of_expiry s declared did) = inr (inl (failed_first e own one other s is shows did))
  one_shown law own one other (of_schema m lead ends answer) (of_failure d was failed denies) = absurd (failed_not d own failed (schema.leads_answered own m lead))
  one_shown law own one other (of_schema m lead ends answer) (of_schema n led_there stops also) =
      inl (one_some one other (sym answer ∙ ap answer_at (one_lead schema.Goes schema.are_one own schema.listing m n lead led_there) ∙ also))
  one_shown law own one other (of_schema m lead ends answer) (of_expiry s declared did) = absurd (schema_not m own one other s lead ends answer did)
  one_shown law own one other (of_expiry s declared did) (of_failure d was failed denies) = inr (inr (failed_first d own other one s was denies did))
  one_shown law own one other (of_expiry s declared did) (of_schema m lead ends answer) = absurd (schema_not m own other one s lead ends answer did)
  one_shown law own one other (of_expiry s declared did) (of_expiry t also does) = one_expiry law own one other s t did does

pub one_answer : OneExpiry → (start : Start) (asked : KeepAsked) (one other : Result Kept Refusal) (own : List Event) → DidExpire start asked one own
    → DidExpire start asked other own → (one ≡ other) ⊎ ((one ≡ Err refusals.Memory) ⊎ (other ≡ Err refusals.Memory))
one_answer law start asked one other own did does = one_shown start asked law own one other (is_shown start asked one own did) (is_shown start asked other own does)
