-- What the calls of a reader of a schema show: what each answer leads to, but that memory may run out. So the calls lead
-- to one place.
use Rattle.std.proofs.Common.{◌≡◌, ◌⊎◌, inl, inr, ℕ, List, [], ◌∷◌, ◌++◌, codes, Option, None, Some, IsSome, Result, Ok, Err, refl, sym, ap, subst, ◌∙◌, arith}
use Rattle.std.specs.List.{AllByRecursion}
use Rattle.pm_values.specs.declared.refusal.Refusal.{Refusal}
use Rattle.pm_values.specs.declared.refusal.Refusal.TheVariants as refusals
use Rattle.pm_store.specs.declared.answer.Answer.{Answer}
use Rattle.pm_store.specs.declared.answer.Answer.TheVariants as answers
use Rattle.pm_machine.specs.Trace.{Event}
use Rattle.pm_schema.specs.Reading.{schema_of}
use Rattle.pm_schema.specs.declared.schema.TableSchema.{TableSchema}
use Rattle.pm_model_folder.specs.Paths.{schema_path}
use Rattle.pm_read_schema.specs.Names.{HasNoSchema, HasSnapshot, IsNewest}
use Rattle.pm_read_schema.specs.Reader.{next_call}
use Rattle.pm_read_schema.specs.Trace.{Did, DidSoFar, Has, Lists, Looks, Misreads, Names, Reads, Shows, listed_schemas, listed_snapshots, read_schema}
use Rattle.pm_read_schema.specs.declared.phase.Phase.TheVariants as phases
use Rattle.pm_read_schema.proofs.LeadLemmas.{AreOne, Fails, IsAnswered, Leads, Stays, all_answered, failed, lead_step, led}

-- ---- where calls lead

-- the schemas are to be listed; one is to be read; the snapshots are to be listed, as it names no origin; it was read; or
-- the reader was refused
pub data Place : Type 0 where
  listing : Place
  reading : ℕ → Place
  seeking : TableSchema → Place
  ready : TableSchema → Place
  over : Refusal → Place

-- a schema with this origin was read
abbrev with_origin : Option (List ℕ) → TableSchema → Place
with_origin (Some name) s = ready s
with_origin None s = seeking s

abbrev read_leads : Result TableSchema Refusal → Place
read_leads (Ok s) = with_origin s.origin s
read_leads (Err e) = over e

-- what an answer leads to
abbrev After : Place → Answer → Place → Type 0
After listing (answers.Listed names) new =
    ((id : ℕ) × IsNewest names.items id × (new ≡ reading id)) ⊎ (HasNoSchema names.items × (new ≡ over refusals.NoTable))
After (reading id) (answers.Found None) new = new ≡ over (refusals.Damaged (schema_path id) 0)
After (reading id) (answers.Found (Some bytes)) new = new ≡ read_leads (schema_of (schema_path id) bytes)
After (seeking s) (answers.Listed names) new =
    (HasSnapshot names.items × (new ≡ ready s))
    ⊎ ((¬ HasSnapshot names.items) × (new ≡ over (refusals.Unsupported (codes "origin") [])))
After m answer new = ⊥

abbrev Given : Place → Option Answer → Place → Type 0
Given m None new = ⊥
Given m (Some answer) new = After m answer new

abbrev pub Goes : Place → Event → Place → Type 0
Goes m event new = Given m event.answer new

-- ---- they lead to one place

one_newest : (names : List (List ℕ)) (id other : ℕ) → IsNewest names id → IsNewest names other → id ≡ other
one_newest names id other is was =
    let low = was.most id is.within is.listed in
    let high = is.most other was.within was.listed in
    omega (arith, low, high)

one_after : (m : Place) (answer : Answer) (one other : Place) → After m answer one → After m answer other → one ≡ other
one_after listing (answers.Listed names) one other (inl (id, is, p)) (inl (jd, was, q)) = p ∙ ap reading (one_newest names.items id jd is was) ∙ sym q
one_after listing (answers.Listed names) one other (inl (id, is, p)) (inr (none, q)) = absurd (none id is.within is.listed)
one_after listing (answers.Listed names) one other (inr (none, p)) (inl (id, is, q)) = absurd (none id is.within is.listed)
one_after listing (answers.Listed names) one other (inr (none, p)) (inr (empty, q)) = p ∙ sym q
one_after (reading id) (answers.Found None) one other p q = p ∙ sym q
one_after (reading id) (answers.Found (Some bytes)) one other p q = p ∙ sym q
one_after (seeking s) (answers.Listed names) one other (inl (there, p)) (inl (was, q)) = p ∙ sym q
one_after (seeking s) (answers.Listed names) one other (inl (there, p)) (inr (none, q)) = absurd (none there)
one_after (seeking s) (answers.Listed names) one other (inr (none, p)) (inl (there, q)) = absurd (none there)
one_after (seeking s) (answers.Listed names) one other (inr (none, p)) (inr (empty, q)) = p ∙ sym q
one_after m answer one other p q = absurd p

one_given : (m : Place) (answer : Option Answer) (one other : Place) → Given m answer one → Given m answer other → one ≡ other
one_given m None one other p q = absurd p
one_given m (Some answer) one other p q = one_after m answer one other p q

pub are_one : AreOne Goes
are_one m event one other p q = one_given m event.answer one other p q

given_answered : (m new : Place) (answer : Option Answer) → Given m answer new → IsSome answer
given_answered m new None goes = absurd goes
given_answered m new (Some answer) goes = refl

-- no call that leads on failed
pub leads_answered : (own : List Event) (m : Place) → Leads Goes own listing m → AllByRecursion IsAnswered own
leads_answered own m lead = all_answered Goes (λ m event new goes. given_answered m new event.answer goes) own listing m lead

-- ---- where they end

abbrev pub IsEnd : Place → Type 0
IsEnd (ready s) = Unit {0}
IsEnd (over e) = Unit {0}
IsEnd m = ⊥

given_not : (answer : Option Answer) (m new : Place) → ((answer : Answer) → After m answer new → ⊥) → Given m answer new → ⊥
given_not None m new none goes = goes
given_not (Some answer) m new none goes = none answer goes

pub ends_stay : Stays Goes IsEnd
ends_stay (ready s) new event ends goes = given_not event.answer (ready s) new (λ answer goes. goes) goes
ends_stay (over e) new event ends goes = given_not event.answer (over e) new (λ answer goes. goes) goes
ends_stay m new event ends goes = absurd ends

pub one_ready : (s t : TableSchema) → ready s ≡ ready t → s ≡ t
one_ready s t is = cc

pub over_not : (e : Refusal) (s : TableSchema) → over e ≡ ready s → ⊥
over_not e s is = cc

-- ---- how far they have come

lists_lead : (id : ℕ) (own : List Event) → Lists id own → Leads Goes own listing (reading id)
lists_lead id own (names, is, at) = led Goes own (listed_schemas names ∷ []) listing (reading id) at (reading id, inl (id, is, refl), refl)

reads_lead : (id : ℕ) (found : Option (List ℕ)) (own : List Event) (new : Place) → Reads id found own → After (reading id) (answers.Found found) new → Leads Goes own listing new
reads_lead id found own new (earlier, lists, at) goes =
    led Goes own (earlier ++ read_schema id found ∷ []) listing new at (lead_step Goes earlier listing (reading id) new (read_schema id found) (lists_lead id earlier lists) goes)

has_lead : (s : TableSchema) (own : List Event) → Has s own → Leads Goes own listing (with_origin s.origin s)
has_lead s own (id, bytes, is, reads) = reads_lead id (Some bytes) own (with_origin s.origin s) reads (ap read_leads (sym is))

none_there : (o : Option (List ℕ)) → o ≡ None → IsSome o → ⊥
none_there o is there = cc

with_some : (o : Option (List ℕ)) (s : TableSchema) → IsSome o → with_origin o s ≡ ready s
with_some None s some = absurd (none_there None refl some)
with_some (Some name) s some = refl

looks_lead : (s : TableSchema) (names : Names) (own : List Event) (new : Place) → Looks s names own → After (seeking s) (answers.Listed names) new → Leads Goes own listing new
looks_lead s names own new (earlier, has, none, at) goes =
    let seek = subst (Leads Goes earlier listing) (ap (λ (o : Option (List ℕ)). with_origin o s) none) (has_lead s earlier has) in
    led Goes own (earlier ++ listed_snapshots names ∷ []) listing new at (lead_step Goes earlier listing (seeking s) new (listed_snapshots names) seek goes)

pub ready_lead : (s : TableSchema) (own : List Event) → Did (phases.Ready s) own → Leads Goes own listing (ready s)
ready_lead s own (inl (has, some)) = subst (Leads Goes own listing) (with_some s.origin s some) (has_lead s own has)
ready_lead s own (inr (names, there, looks)) = looks_lead s names own (ready s) looks (inl (there, refl))

-- ---- what they show

-- memory ran out; or the last call failed; or they lead to this refusal
pub data IsShown (e : Refusal) (own : List Event) : Type 0 where
  of_memory : e ≡ refusals.Memory → IsShown e own
  of_failure : Fails e own → IsShown e own
  of_place : Leads Goes own listing (over e) → IsShown e own

misread : (e : Refusal) (own : List Event) → Misreads e own → IsShown e own
misread e own (id, bytes, is, reads) = of_place (reads_lead id (Some bytes) own (over e) reads (ap read_leads (sym is)))

pub is_shown : (e : Refusal) (own : List Event) → Shows e own → IsShown e own
is_shown refusals.Memory own shows = of_memory refl
is_shown refusals.NoTable own (names, none, at) =
    of_place (led Goes own (listed_schemas names ∷ []) listing (over refusals.NoTable) at (over refusals.NoTable, inr (none, refl), refl))
is_shown (refusals.StoreFault path) own fails = of_failure (failed next_call DidSoFar path own fails)
is_shown (refusals.Damaged path place) own (inl (id, at, first, reads)) =
    of_place (reads_lead id None own (over (refusals.Damaged path place)) reads
    (ap (λ (path : List ℕ). over (refusals.Damaged path place)) at ∙ ap (λ (place : ℕ). over (refusals.Damaged (schema_path id) place)) first))
is_shown (refusals.Damaged path place) own (inr misreads) = misread (refusals.Damaged path place) own misreads
is_shown (refusals.Unsupported what text) own (inl (is, blank, (s, names, none, looks))) =
    of_place (looks_lead s names own (over (refusals.Unsupported what text)) looks
    (inr (none, ap (λ (what : List ℕ). over (refusals.Unsupported what text)) is ∙ ap (λ (text : List ℕ). over (refusals.Unsupported (codes "origin") text)) blank)))
is_shown (refusals.Unsupported what text) own (inr misreads) = misread (refusals.Unsupported what text) own misreads
is_shown (refusals.Limit which number) own misreads = misread (refusals.Limit which number) own misreads
is_shown (refusals.SchemaRule rule) own misreads = misread (refusals.SchemaRule rule) own misreads
is_shown e own shows = absurd shows
