-- The refusals of sources stay while rows are given.
use Rattle.std.proofs.Common.{◌≡◌, ◌≢◌, ◌⊎◌, inl, inr, List, [], ◌∷◌, map, Option, None, Some, refl, sym, ap, subst, ◌∙◌}
use Rattle.std.specs.Option.{option_or}
use Rattle.pm_base.proofs.Laws.{AllByRecursion-parts}
use Rattle.pm_values.specs.Order.{Values}
use Rattle.pm_values.specs.declared.refusal.Refusal.{Refusal}
use Rattle.pm_values.specs.declared.refusal.Refusal.TheVariants.{Memory}
use Rattle.pm_engine.specs.Covers.{Run}
use Rattle.pm_engine.specs.Meaning.{Meaning}
use Rattle.pm_merge.specs.Merging.{GivesAll, HasRefusal, HaveNoRefusal, HaveNoRow, first_refusal, refusal_now, rest_past, rests_of}
use Rattle.pm_merge.specs.Source.{Rest}

-- ---- what is left has the refusals that were there

none_past : (key : Values) (rests : List Rest) → HaveNoRefusal (map (rest_past key) rests) → HaveNoRefusal rests
none_past key [] none = tt
none_past key (r ∷ rests) none = (none.0, none_past key rests none.1)

-- a refusal of one rest, by recursion
abbrev Refuses : Refusal → List Rest → Type 0
Refuses e [] = ⊥
Refuses e (r ∷ rests) = (r.refusal ≡ Some e) ⊎ Refuses e rests

refuses_past : (key : Values) (e : Refusal) (rests : List Rest) → Refuses e (map (rest_past key) rests) → Refuses e rests
refuses_past key e [] refuses = refuses
refuses_past key e (r ∷ rests) (inl is) = inl is
refuses_past key e (r ∷ rests) (inr refuses) = inr (refuses_past key e rests refuses)

has_refusal : (e : Refusal) (rests : List Rest) → Refuses e rests → HasRefusal rests e
has_refusal e [] refuses = absurd refuses
has_refusal e (r ∷ rests) (inl is) = ([], rests, r, refl, is)
has_refusal e (r ∷ rests) (inr refuses) =
    let (before, after, own, parts, is) = has_refusal e rests refuses in
    (r ∷ before, after, own, ap (λ (rs : List Rest). r ∷ rs) parts, is)

-- ---- the refusal that comes now

none_now : (rests : List Rest) → HaveNoRow rests → first_refusal rests ≡ None → HaveNoRefusal rests
none_now [] over none = tt
none_now (r ∷ rests) over none =
    let now : option_or r.refusal (first_refusal rests) ≡ None = subst (λ (rows : Run). option_or (refusal_now rows r.refusal) (first_refusal rests) ≡ None) over.0 none in
    let parts = both_none r.refusal (first_refusal rests) now in
    (parts.0, none_now rests over.1 parts.1)
  where
    both_none : (a b : Option Refusal) → option_or a b ≡ None → (a ≡ None) × (b ≡ None)
    both_none None b e = (refl, e)
    both_none (Some x) b e = cc

refuses_now : (e : Refusal) (rests : List Rest) → first_refusal rests ≡ Some e → Refuses e rests
refuses_now e [] is = cc
refuses_now e (r ∷ rests) is = by_first r.rows r.refusal refl (refuses_now e rests) is
  where
    by_first : (rows : Run) (refusal : Option Refusal) → r.refusal ≡ refusal → (first_refusal rests ≡ Some e → Refuses e rests) → option_or (refusal_now rows refusal) (first_refusal rests) ≡ Some e
        → Refuses e (r ∷ rests)
    by_first [] (Some x) own others is = inl (own ∙ is)
    by_first [] None own others is = inr (others is)
    by_first (s ∷ rows) refusal own others is = inr (others is)

pub whole_none : (runs : List Run) → HaveNoRefusal (rests_of runs)
whole_none [] = tt
whole_none (run ∷ runs) = (refl, whole_none runs)

-- where no rest has a refusal, none is refused
none_refuses : (e : Refusal) (rests : List Rest) → HaveNoRefusal rests → HasRefusal rests e → ⊥
none_refuses e rests none (before, after, own, parts, is) =
    let kept : own.refusal ≡ None = (AllByRecursion-parts (λ (r : Rest). r.refusal ≡ None) before (own ∷ after) (subst HaveNoRefusal parts none)).1.0 in
    let no : None ≡ Some e = sym kept ∙ is in
    cc

-- what is no other refusal is out of memory
only_memory : (e : Refusal) → (e ≢ Memory → ⊥) → e ≡ Memory
only_memory Memory other = refl
only_memory e other = absurd (other (λ is. cc))

-- ---- rows one after another

pub given_ended : (m : Meaning) (first last : List Rest) (run : Run) → GivesAll m first run last → HaveNoRow last → first_refusal last ≡ None → HaveNoRefusal first
given_ended m first last [] given over none = subst HaveNoRefusal given (none_now last over none)
given_ended m first last (s ∷ run) (left, least, given) over none =
    none_past s.key first (subst HaveNoRefusal least.left (given_ended m left last run given over none))

given_refuses : (m : Meaning) (first last : List Rest) (run : Run) (e : Refusal) → GivesAll m first run last → first_refusal last ≡ Some e → Refuses e first
given_refuses m first last [] e given is = subst (Refuses e) given (refuses_now e last is)
given_refuses m first last (s ∷ run) e (left, least, given) is =
    refuses_past s.key e first (subst (Refuses e) least.left (given_refuses m left last run e given is))

pub given_refused : (m : Meaning) (first last : List Rest) (run : Run) (e : Refusal) → GivesAll m first run last → first_refusal last ≡ Some e → HasRefusal first e
given_refused m first last run e given is = has_refusal e first (given_refuses m first last run e given is)

pub given_memory : (m : Meaning) (first last : List Rest) (run : Run) (e : Refusal) → GivesAll m first run last → HaveNoRefusal first → (e ≢ Memory → first_refusal last ≡ Some e) → e ≡ Memory
given_memory m first last run e given none is = only_memory e (λ other. none_refuses e first none (given_refused m first last run e given (is other)))
