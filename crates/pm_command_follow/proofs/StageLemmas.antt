-- Stages of calls, one after another: where each has one end, calls that go through them show one answer.
use Rattle.std.proofs.Common.{◌≡◌, ◌⊎◌, inl, inr, List, ◌++◌, Option, Some, sym, ap, subst, ◌∙◌}
use Rattle.std.specs.List.{AllByRecursion}
use Rattle.pm_base.proofs.Laws.{AllByRecursion-append}
use Rattle.pm_values.specs.declared.refusal.Refusal.{Refusal}
use Rattle.pm_machine.specs.Trace.{Event}
use Rattle.pm_read_schema.proofs.LeadLemmas.{IsAnswered}

-- calls show one answer by this, and none of them failed
pub record IsOne (shows : List Event → Option Refusal → Type 0) : Type 0 where
  pub one : (own : List Event) (x y : Option Refusal) → shows own x → shows own y → x ≡ y
  pub whole : (own : List Event) (x : Option Refusal) → shows own x → AllByRecursion IsAnswered own

module _ {A : Type 0} (did : A → List Event → Type 0) (refused : Refusal → List Event → Type 0) where
  -- the stage came to its end, and the calls after it show the answer; or it was refused
  abbrev pub Goes : (A → List Event → Option Refusal → Type 0) → List Event → Option Refusal → Type 0
  Goes next own x =
      ((a : A) × (first more : List Event) × did a first × (own ≡ first ++ more) × next a more x)
      ⊎ ((e : Refusal) × (x ≡ Some e) × refused e own)

  -- it has one end, after which it isn't refused, and one refusal; no call of it failed
  pub record IsStage : Type 0 where
    pub same : (a b : A) (first other more rest : List Event) → did a first → did b other → first ++ more ≡ other ++ rest → (a ≡ b) × (more ≡ rest)
    pub apart : (a : A) (first more : List Event) (e : Refusal) → did a first → refused e (first ++ more) → ⊥
    pub one : (e d : Refusal) (own : List Event) → refused e own → refused d own → e ≡ d
    pub whole : (a : A) (own : List Event) → did a own → AllByRecursion IsAnswered own
    pub ended : (e : Refusal) (own : List Event) → refused e own → AllByRecursion IsAnswered own

  module _ (next : A → List Event → Option Refusal → Type 0) (stage : IsStage) (ones : (a : A) → IsOne (λ own x. next a own x)) where
    one_of : (own : List Event) (x y : Option Refusal) → Goes next own x → Goes next own y → x ≡ y
    one_of own x y (inl (a, first, more, done, at, then)) (inl (b, other, rest, also, was, behind)) =
        let end = stage.same a b first other more rest done also (sym at ∙ was) in
        (ones b).one rest x y (subst (λ (a : A). next a rest x) end.0 (subst (λ (more : List Event). next a more x) end.1 then)) behind
    one_of own x y (inl (a, first, more, done, at, then)) (inr (e, is, ended)) = absurd (stage.apart a first more e done (subst (refused e) at ended))
    one_of own x y (inr (e, is, ended)) (inl (a, first, more, done, at, then)) = absurd (stage.apart a first more e done (subst (refused e) at ended))
    one_of own x y (inr (e, is, ended)) (inr (d, was, denied)) = is ∙ ap Some (stage.one e d own ended denied) ∙ sym was

    whole_of : (own : List Event) (x : Option Refusal) → Goes next own x → AllByRecursion IsAnswered own
    whole_of own x (inl (a, first, more, done, at, then)) =
        subst (AllByRecursion IsAnswered) (sym at) (AllByRecursion-append IsAnswered first more (stage.whole a first done) ((ones a).whole more x then))
    whole_of own x (inr (e, is, ended)) = stage.ended e own ended

    pub one_behind : IsOne (λ own x. Goes next own x)
    one_behind = record { one = one_of; whole = whole_of }
