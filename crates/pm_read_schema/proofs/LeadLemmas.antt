-- Where calls lead, one after another, by what each of them makes of a place.
use Rattle.std.proofs.Common.{◌≡◌, ℕ, List, [], ◌∷◌, ◌++◌, Option, IsSome, refl, sym, ap, subst, ◌∙◌}
use Rattle.std.specs.List.{AllByRecursion}
use Rattle.pm_base.proofs.Laws.{AllByRecursion-parts}
use Rattle.pm_values.specs.declared.refusal.Refusal.{Refusal}
use Rattle.pm_values.specs.declared.refusal.Refusal.TheVariants as refusals
use Rattle.pm_store.specs.declared.call.Call.{Call}
use Rattle.pm_machine.specs.Step.{path_of}
use Rattle.pm_machine.specs.Trace.{Event, IsFailed, faulted}

-- ---- lists

pub head_same : {X : Type 0} (x y : X) (xs ys : List X) → x ∷ xs ≡ y ∷ ys → x ≡ y
head_same x y xs ys is = cc

pub tail_same : {X : Type 0} (x y : X) (xs ys : List X) → x ∷ xs ≡ y ∷ ys → xs ≡ ys
tail_same x y xs ys is = cc

pub none_last : {X : Type 0} (ys : List X) (y : X) → [] ≡ ys ++ y ∷ [] → ⊥
none_last [] y is = cc
none_last (z ∷ ys) y is = cc

-- the last of a list
pub last_same : {X : Type 0} (xs ys : List X) (x y : X) → xs ++ x ∷ [] ≡ ys ++ y ∷ [] → x ≡ y
last_same [] [] x y is = head_same x y [] [] is
last_same [] (z ∷ ys) x y is = absurd (none_last ys y (tail_same x z [] (ys ++ y ∷ []) is))
last_same (z ∷ xs) [] x y is = absurd (none_last xs x (sym (tail_same z y (xs ++ x ∷ []) [] is)))
last_same (z ∷ xs) (w ∷ ys) x y is = last_same xs ys x y (tail_same z w (xs ++ x ∷ []) (ys ++ y ∷ []) is)

-- ---- places

-- the store didn't fail
abbrev pub IsAnswered : Event → Type 0
IsAnswered event = IsSome event.answer

module _ {P : Type 0} (Goes : P → Event → P → Type 0) where
  -- from a place these calls lead to another
  abbrev pub Leads : List Event → P → P → Type 0
  Leads [] m last = last ≡ m
  Leads (event ∷ own) m last = (new : P) × Goes m event new × Leads own new last

  -- these calls, said otherwise
  pub led : (own others : List Event) (m last : P) → own ≡ others → Leads others m last → Leads own m last
  led own others m last is = subst (λ (own : List Event). Leads own m last) (sym is)

  -- one call more, and more calls
  pub lead_step : (own : List Event) (m n new : P) (event : Event) → Leads own m n → Goes n event new → Leads (own ++ event ∷ []) m new
  lead_step [] m n new event is goes = (new, subst (λ (n : P). Goes n event new) is goes, refl)
  lead_step (first ∷ own) m n new event (next, goes, rest) then = (next, goes, lead_step own next n new event rest then)

  pub lead_join : (own others : List Event) (m n last : P) → Leads own m n → Leads others n last → Leads (own ++ others) m last
  lead_join [] others m n last is rest = subst (λ (n : P). Leads others n last) is rest
  lead_join (first ∷ own) others m n last (next, goes, path) rest = (next, goes, lead_join own others next n last path rest)

  -- where only answers lead on, each call was answered
  pub all_answered : ((m : P) (event : Event) (new : P) → Goes m event new → IsAnswered event) → (own : List Event) (m last : P) → Leads own m last
      → AllByRecursion IsAnswered own
  all_answered answered [] m last led = tt
  all_answered answered (event ∷ own) m last (new, goes, rest) = (answered m event new goes, all_answered answered own new last rest)

  -- each call leads to one place, so all of them do
  abbrev pub AreOne : Type 0
  AreOne = (m : P) (event : Event) (one other : P) → Goes m event one → Goes m event other → one ≡ other

  pub one_lead : AreOne → (own : List Event) (m one other : P) → Leads own m one → Leads own m other → one ≡ other
  one_lead law [] m one other is was = is ∙ sym was
  one_lead law (event ∷ own) m one other (new, goes, rest) (now, went, later) =
      one_lead law own new one other rest (subst (λ (m : P). Leads own m other) (sym (law m event new now goes went)) later)

  -- where no call follows an end, the calls up to it are the same
  abbrev pub Stays : (P → Type 0) → Type 0
  Stays IsEnd = (m new : P) (event : Event) → IsEnd m → Goes m event new → ⊥

  pub one_end : (IsEnd : P → Type 0) → AreOne → Stays IsEnd → (first other more rest : List Event) (m n k : P) → first ++ more ≡ other ++ rest
      → Leads first m n → IsEnd n → Leads other m k → IsEnd k → (first ≡ other) × (n ≡ k) × (more ≡ rest)
  one_end IsEnd law stays [] [] more rest m n k is led ends went over = (refl, led ∙ sym went, is)
  one_end IsEnd law stays [] (event ∷ other) more rest m n k is led ends (new, goes, went) over = absurd (stays m new event (subst IsEnd led ends) goes)
  one_end IsEnd law stays (event ∷ first) [] more rest m n k is (new, goes, led) ends went over = absurd (stays m new event (subst IsEnd went over) goes)
  one_end IsEnd law stays (event ∷ first) (next ∷ other) more rest m n k is (new, goes, led) ends (now, went, later) over =
      let same = head_same event next (first ++ more) (other ++ rest) is in
      let here : new ≡ now = law m event new now goes (subst (λ (event : Event). Goes m event now) (sym same) went) in
      let all = one_end IsEnd law stays first other more rest new n k (tail_same event next (first ++ more) (other ++ rest) is) led ends
      (subst (λ (m : P). Leads other m k) (sym here) later) over in
      (ap (λ (event : Event). event ∷ first) same ∙ ap (λ (own : List Event). next ∷ own) all.0, all.1, all.2)

-- ---- the last call failed

-- and the refusal names its path
abbrev pub Fails : Refusal → List Event → Type 0
Fails e own = (earlier : List Event) × (call : Call) × (e ≡ refusals.StoreFault (path_of call)) × (own ≡ earlier ++ faulted call ∷ [])

pub failed : {M : Type 0} (call_of : M → Option Call) (did : M → List Event → Type 0) (path : List ℕ) (own : List Event) → IsFailed call_of did path own
    → Fails (refusals.StoreFault path) own
failed call_of did path own fails = (fails.earlier, fails.call, ap refusals.StoreFault fails.is_path, fails.is)

call_same : (one other : Call) → faulted one ≡ faulted other → one ≡ other
call_same one other is = ap (λ (event : Event). event.call) is

pub one_failed : (e d : Refusal) (own : List Event) → Fails e own → Fails d own → e ≡ d
one_failed e d own (earlier, call, is, at) (first, other, was, there) =
    let same = call_same call other (last_same earlier first (faulted call) (faulted other) (sym at ∙ there)) in
    is ∙ ap (λ (call : Call). refusals.StoreFault (path_of call)) same ∙ sym was

pub failed_not : (e : Refusal) (own : List Event) → Fails e own → AllByRecursion IsAnswered own → ⊥
failed_not e own (earlier, call, is, at) answered =
    no_answer call (AllByRecursion-parts IsAnswered earlier (faulted call ∷ []) (subst (AllByRecursion IsAnswered) at answered)).1.0
  where
    no_answer : (call : Call) → IsAnswered (faulted call) → ⊥
    no_answer call answered = cc
