-- Calls that read a schema, and those after them, show one answer where the later ones do, but that memory may run out.
use Rattle.std.proofs.Common.{◌≡◌, ◌⊎◌, inl, inr, List, [], ◌∷◌, ◌++◌, refl, sym, ap, subst, ◌∙◌, append-nil}
use Rattle.pm_values.specs.declared.refusal.Refusal.{Refusal}
use Rattle.pm_values.specs.declared.refusal.Refusal.TheVariants as refusals
use Rattle.pm_store.specs.declared.call.Call.{Call}
use Rattle.pm_machine.specs.Step.{path_of}
use Rattle.pm_machine.specs.Trace.{Event, faulted}
use Rattle.pm_read_schema.proofs.LeadLemmas.{failed_not, one_end, one_failed, one_lead, tail_same}
use Rattle.pm_read_schema.specs.Trace as reader
use Rattle.pm_read_schema.proofs.OneLemmas as schema
use Rattle.pm_command_consumers.specs.Consumers.{AfterSchema}

-- ---- the schema

-- two refusals of one place
over_same : (e d : Refusal) → schema.over e ≡ schema.over d → e ≡ d
over_same e d is = cc

-- ---- lists

suffix : {X : Type 0} (xs ys zs : List X) (x : X) → xs ++ ys ≡ zs ++ x ∷ [] → (ys ≡ []) ⊎ ((ws : List X) × (ys ≡ ws ++ x ∷ []))
suffix [] ys zs x is = inr (zs, is)
suffix (y ∷ xs) ys [] x is = inl (none_left xs ys (tail_same y x (xs ++ ys) [] is))
  where
    none_left : {X : Type 0} (xs ys : List X) → xs ++ ys ≡ [] → ys ≡ []
    none_left [] ys is = is
    none_left (z ∷ xs) ys is = absurd cc
suffix (y ∷ xs) ys (z ∷ zs) x is = suffix xs ys zs x (tail_same y z (xs ++ ys) (zs ++ x ∷ []) is)

-- ---- all calls

-- one of two answers of these is that memory ran out
abbrev pub IsMemory : {R : Type 0} → (Refusal → R) → R → R → Type 0
IsMemory refused one other = (one ≡ refused refusals.Memory) ⊎ (other ≡ refused refusals.Memory)

-- what the calls after the schema have to say: they show one answer, and one that failed shows that it did
pub record IsStage {R : Type 0} (refused : Refusal → R) (Next : R → List Event → Type 0) (Same : R → R → Type 0) : Type 0 where
  pub same : (e : Refusal) → Same (refused e) (refused e)
  pub one : (one other : R) (own : List Event) → Next one own → Next other own → Same one other ⊎ IsMemory refused one other
  pub failed : (earlier : List Event) (call : Call) (r : R) → Next r (earlier ++ faulted call ∷ [])
      → (r ≡ refused refusals.Memory) ⊎ (r ≡ refused (refusals.StoreFault (path_of call)))

-- the schema was refused, or the calls after it show the answer
abbrev pub ShowsOne : {R : Type 0} → (Refusal → R) → (R → List Event → Type 0) → R → List Event → Type 0
ShowsOne refused Next r own = ((e : Refusal) × (r ≡ refused e) × reader.Shows e own) ⊎ AfterSchema (Next r) own

module _ {R : Type 0} (refused : Refusal → R) (Next : R → List Event → Type 0) (Same : R → R → Type 0) (stage : IsStage refused Next Same) where
  same_refused : (e d : Refusal) (one other : R) → one ≡ refused e → other ≡ refused d → e ≡ d → Same one other
  same_refused e d one other is was same =
      subst (λ (one : R). Same one other) (sym is) (subst (λ (other : R). Same (refused e) other) (sym (was ∙ ap refused (sym same))) (stage.same e))

  memory_first : (e : Refusal) (one other : R) → one ≡ refused e → e ≡ refusals.Memory → Same one other ⊎ IsMemory refused one other
  memory_first e one other is memory = inr (inl (is ∙ ap refused memory))

  memory_second : (d : Refusal) (one other : R) → other ≡ refused d → d ≡ refusals.Memory → Same one other ⊎ IsMemory refused one other
  memory_second d one other was memory = inr (inr (was ∙ ap refused memory))

  -- both refuse the schema
  both_refused : (e d : Refusal) (own : List Event) (one other : R) → one ≡ refused e → other ≡ refused d → schema.IsShown e own → schema.IsShown d own
      → Same one other ⊎ IsMemory refused one other
  both_refused e d own one other is was (schema.of_memory memory) denied = memory_first e one other is memory
  both_refused e d own one other is was (schema.of_failure fails) (schema.of_memory memory) = memory_second d one other was memory
  both_refused e d own one other is was (schema.of_failure fails) (schema.of_failure failed) = inl (same_refused e d one other is was (one_failed e d own fails failed))
  both_refused e d own one other is was (schema.of_failure fails) (schema.of_place lead) =
      absurd (failed_not e own fails (schema.leads_answered own (schema.over d) lead))
  both_refused e d own one other is was (schema.of_place lead) (schema.of_memory memory) = memory_second d one other was memory
  both_refused e d own one other is was (schema.of_place lead) (schema.of_failure failed) =
      absurd (failed_not d own failed (schema.leads_answered own (schema.over e) lead))
  both_refused e d own one other is was (schema.of_place lead) (schema.of_place led) =
      let same = one_lead schema.Goes schema.are_one own schema.listing (schema.over e) (schema.over d) lead led in
      inl (same_refused e d one other is was (over_same e d same))

  -- the schema is refused by calls that go on after it
  apart : (e : Refusal) (own : List Event) (r : R) → schema.IsShown e own → AfterSchema (Next r) own
      → (e ≡ refusals.Memory) ⊎ ((r ≡ refused e) ⊎ (r ≡ refused refusals.Memory))
  apart e own r (schema.of_memory memory) after = inl memory
  apart e own r (schema.of_place lead) (s, earlier, later, declared, has, next, at) =
      let end = one_end schema.Goes schema.IsEnd schema.are_one schema.ends_stay earlier own later [] schema.listing (schema.ready s) (schema.over e)
      (sym at ∙ sym (append-nil own)) (schema.ready_lead s earlier has) tt lead tt in
      absurd (schema.over_not e s (sym end.1))
  apart e own r (schema.of_failure (before, call, is, failed_at)) (s, earlier, later, declared, has, next, at) =
      elim (suffix earlier later before (faulted call) (sym at ∙ failed_at)) as (λ _. (e ≡ refusals.Memory) ⊎ ((r ≡ refused e) ⊎ (r ≡ refused refusals.Memory))) [
        | inl none ↦
            let whole : own ≡ earlier = at ∙ ap (λ (later : List Event). earlier ++ later) none ∙ append-nil earlier in
            let answered = schema.leads_answered earlier (schema.ready s) (schema.ready_lead s earlier has) in
            absurd (failed_not e earlier (before, call, is, sym whole ∙ failed_at) answered)
        | inr last ↦
            elim (stage.failed last.0 call r (subst (Next r) last.1 next)) as (λ _. (e ≡ refusals.Memory) ⊎ ((r ≡ refused e) ⊎ (r ≡ refused refusals.Memory))) [
              | inl memory ↦ inr (inr memory)
              | inr fault ↦ inr (inl (fault ∙ ap refused (sym is)))
            ]
      ]

  first_refused : (e : Refusal) (own : List Event) (one other : R) → one ≡ refused e → schema.IsShown e own → AfterSchema (Next other) own
      → Same one other ⊎ IsMemory refused one other
  first_refused e own one other is shown after =
      elim (apart e own other shown after) as (λ _. Same one other ⊎ IsMemory refused one other) [
        | inl memory ↦ memory_first e one other is memory
        | inr why ↦ elim why as (λ _. Same one other ⊎ IsMemory refused one other) [
          | inl same ↦ inl (same_refused e e one other is same refl)
          | inr memory ↦ inr (inr memory)
        ]
      ]

  second_refused : (d : Refusal) (own : List Event) (one other : R) → other ≡ refused d → schema.IsShown d own → AfterSchema (Next one) own
      → Same one other ⊎ IsMemory refused one other
  second_refused d own one other was shown after =
      elim (apart d own one shown after) as (λ _. Same one other ⊎ IsMemory refused one other) [
        | inl memory ↦ memory_second d one other was memory
        | inr why ↦ elim why as (λ _. Same one other ⊎ IsMemory refused one other) [
          | inl same ↦ inl (same_refused d d one other same was refl)
          | inr memory ↦ inr (inl memory)
        ]
      ]

  pub one_of_all : (one other : R) (own : List Event) → ShowsOne refused Next one own → ShowsOne refused Next other own → Same one other ⊎ IsMemory refused one other
  one_of_all one other own (inl (e, is, shows)) (inl (d, was, denied)) = both_refused e d own one other is was (schema.is_shown e own shows) (schema.is_shown d own denied)
  one_of_all one other own (inl (e, is, shows)) (inr after) = first_refused e own one other is (schema.is_shown e own shows) after
  one_of_all one other own (inr after) (inl (d, was, denied)) = second_refused d own one other was (schema.is_shown d own denied) after
  one_of_all one other own (inr (s, earlier, later, declared, has, next, at)) (inr (t, first, more, also, had, behind, there)) =
      let end = one_end schema.Goes schema.IsEnd schema.are_one schema.ends_stay earlier first later more schema.listing (schema.ready s) (schema.ready t)
      (sym at ∙ there) (schema.ready_lead s earlier has) tt (schema.ready_lead t first had) tt in
      stage.one one other more (subst (Next one) end.2 next) behind
