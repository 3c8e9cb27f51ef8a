-- Parts of calls, one after another: where a part ends, and what it ends with, follows from the calls, whatever comes
-- after them.
use Rattle.std.proofs.Common.{◌≡◌, ◌⊎◌, inl, inr, List, [], ◌∷◌, ◌++◌, refl, sym, ap, subst, ◌∙◌, append_assoc, append-nil}
use Rattle.std.specs.List.{AllByRecursion}
use Rattle.pm_base.proofs.Laws.{AllByRecursion-append}
use Rattle.pm_values.specs.declared.refusal.Refusal.{Refusal}
use Rattle.pm_values.specs.declared.refusal.Refusal.TheVariants as refusals
use Rattle.pm_store.specs.declared.call.Call.{Call}
use Rattle.pm_machine.specs.Trace.{Event, faulted}
use Rattle.pm_read_schema.proofs.LeadLemmas.{AreOne, Fails, IsAnswered, Leads, Stays, failed_not, head_same, one_end, one_failed, one_lead, tail_same}

abbrev pub AreAnswered : List Event → Type 0
AreAnswered own = AllByRecursion IsAnswered own

-- the calls of two parts are those of the first, and then those of the second
two_of : (one two first other own : List Event) → own ≡ first ++ other → first ≡ one → other ≡ two → own ≡ one ++ two
two_of one two first other own is p q = is ∙ ap (λ (first : List Event). first ++ other) p ∙ ap (λ (other : List Event). one ++ other) q

more_of : (own first rest more : List Event) → own ≡ first ++ rest → own ++ more ≡ first ++ (rest ++ more)
more_of own first rest more is = ap (λ (own : List Event). own ++ more) is ∙ append_assoc first rest more

-- ---- parts

-- what these calls end with is one, and each of them was answered
pub record IsTail {A : Type 0} (Ends : A → List Event → Type 0) : Type 0 where
  pub one_made : (made other : A) (own : List Event) → Ends made own → Ends other own → made ≡ other
  pub answered : (made : A) (own : List Event) → Ends made own → AreAnswered own

-- these calls are a part that more can follow, and has a value; or they end with something
pub record IsPart {X A : Type 0} (Has : X → List Event → Type 0) (Ends : A → List Event → Type 0) : Type 0 where
  pub one_part : (x y : X) (first other more rest : List Event) → first ++ more ≡ other ++ rest → Has x first → Has y other
      → (x ≡ y) × (first ≡ other) × (more ≡ rest)
  pub not_end : (x : X) (made : A) (first more own : List Event) → own ≡ first ++ more → Has x first → Ends made own → ⊥
  pub has_answered : (x : X) (own : List Event) → Has x own → AreAnswered own
  pub tail : IsTail Ends

-- ---- one after another

module _ {X Y : Type 0} (Has : X → List Event → Type 0) (HasNext : X → Y → List Event → Type 0) where
  -- the one came, and then the other
  abbrev pub HasBoth : Y → List Event → Type 0
  HasBoth y own = (x : X) × (first : List Event) × (rest : List Event) × Has x first × HasNext x y rest × (own ≡ first ++ rest)

module _ {X A : Type 0} (Has : X → List Event → Type 0) (Ends : A → List Event → Type 0) (EndsNext : X → A → List Event → Type 0) where
  -- the first ends so; or it came, and then the next ends so
  abbrev pub EndsEither : A → List Event → Type 0
  EndsEither made own =
      Ends made own ⊎ ((x : X) × (first : List Event) × (rest : List Event) × Has x first × EndsNext x made rest × (own ≡ first ++ rest))

  pub then_tail : IsPart Has Ends → ((x : X) → IsTail (EndsNext x)) → IsTail EndsEither
  then_tail part next = record { one_made = one; answered = answer }
    where
      one : (made other : A) (own : List Event) → EndsEither made own → EndsEither other own → made ≡ other
      one made other own (inl ends) (inl also) = part.tail.one_made made other own ends also
      one made other own (inl ends) (inr (x, first, rest, has, then, is)) = absurd (part.not_end x made first rest own is has ends)
      one made other own (inr (x, first, rest, has, then, is)) (inl ends) = absurd (part.not_end x other first rest own is has ends)
      one made other own (inr (x, first, rest, has, then, is)) (inr (y, before, later, had, also, was)) =
          let same = part.one_part x y first before rest later (sym is ∙ was) has had in
          let moved : EndsNext y made rest = subst (λ (x : X). EndsNext x made rest) same.0 then in
          (next y).one_made made other later (subst (EndsNext y made) same.2 moved) also

      answer : (made : A) (own : List Event) → EndsEither made own → AreAnswered own
      answer made own (inl ends) = part.tail.answered made own ends
      answer made own (inr (x, first, rest, has, then, is)) =
          subst AreAnswered (sym is)
          (AllByRecursion-append IsAnswered first rest (part.has_answered x first has) ((next x).answered made rest then))

module _ {X Y A : Type 0} (Has : X → List Event → Type 0) (Ends : A → List Event → Type 0) (HasNext : X → Y → List Event → Type 0)
    (EndsNext : X → A → List Event → Type 0) where
  pub then_part : IsPart Has Ends → ((x : X) → IsPart (HasNext x) (EndsNext x)) → IsPart (HasBoth Has HasNext) (EndsEither Has Ends EndsNext)
  then_part part next = record {
    one_part = one;
    not_end = no_end;
    has_answered = answer;
    tail = then_tail Has Ends EndsNext part (λ x. (next x).tail);
  }
    where
      one : (y z : Y) (own other more rest : List Event) → own ++ more ≡ other ++ rest → HasBoth Has HasNext y own → HasBoth Has HasNext z other
          → (y ≡ z) × (own ≡ other) × (more ≡ rest)
      one y z own other more rest is (x, first, later, has, then, p) (w, before, last, had, also, q) =
          let whole : first ++ (later ++ more) ≡ before ++ (last ++ rest) = sym (more_of own first later more p) ∙ is ∙ more_of other before last rest q in
          let same = part.one_part x w first before (later ++ more) (last ++ rest) whole has had in
          let then_there : HasNext w y later = subst (λ (x : X). HasNext x y later) same.0 then in
          let end = (next w).one_part y z later last more rest same.2 then_there also in
          (end.0, two_of before last first later own p same.1 end.1 ∙ sym q, end.2)

      no_end : (y : Y) (made : A) (own more all : List Event) → all ≡ own ++ more → HasBoth Has HasNext y own → EndsEither Has Ends EndsNext made all → ⊥
      no_end y made own more all is (x, first, later, has, then, p) (inl ends) =
          part.not_end x made first (later ++ more) all (is ∙ more_of own first later more p) has ends
      no_end y made own more all is (x, first, later, has, then, p) (inr (w, before, last, had, ends, q)) =
          let whole : first ++ (later ++ more) ≡ before ++ last = sym (more_of own first later more p) ∙ sym is ∙ q in
          let same = part.one_part x w first before (later ++ more) last whole has had in
          let then_there : HasNext w y later = subst (λ (x : X). HasNext x y later) same.0 then in
          (next w).not_end y made later more last (sym same.2) then_there ends

      answer : (y : Y) (own : List Event) → HasBoth Has HasNext y own → AreAnswered own
      answer y own (x, first, rest, has, then, is) =
          subst AreAnswered (sym is)
          (AllByRecursion-append IsAnswered first rest (part.has_answered x first has) ((next x).has_answered y rest then))

-- ---- what it ends with, said otherwise

module _ {A B : Type 0} (Ends : A → List Event → Type 0) (told : A → B) where
  abbrev pub EndsAs : B → List Event → Type 0
  EndsAs made own = (e : A) × Ends e own × (made ≡ told e)

  pub tail_as : IsTail Ends → IsTail EndsAs
  tail_as tail = record {
    one_made = λ made other own (e, ends, is) (d, also, was). is ∙ ap told (tail.one_made e d own ends also) ∙ sym was;
    answered = λ made own (e, ends, is). tail.answered e own ends;
  }

module _ {X A B : Type 0} (Has : X → List Event → Type 0) (Ends : A → List Event → Type 0) (told : A → B) where
  pub part_as : IsPart Has Ends → IsPart Has (EndsAs Ends told)
  part_as part = record {
    one_part = part.one_part;
    not_end = λ x made first more own is has (e, ends, same). part.not_end x e first more own is has ends;
    has_answered = part.has_answered;
    tail = tail_as Ends told part.tail;
  }

-- ---- a part after which all may end, by its value

module _ {X : Type 0} (Has : X → List Event → Type 0) (GoesOn : X → Type 0) where
  abbrev pub HasOn : X → List Event → Type 0
  HasOn x own = Has x own × GoesOn x

module _ {X A : Type 0} (Has : X → List Event → Type 0) (Ends : A → List Event → Type 0) (Stops : X → A → Type 0) where
  abbrev pub EndsOn : A → List Event → Type 0
  EndsOn made own = Ends made own ⊎ ((x : X) × Has x own × Stops x made)

module _ {X A : Type 0} (Has : X → List Event → Type 0) (Ends : A → List Event → Type 0) (Stops : X → A → Type 0) (GoesOn : X → Type 0) where
  abbrev On : X → List Event → Type 0
  On x own = HasOn Has GoesOn x own

  abbrev Over : A → List Event → Type 0
  Over made own = EndsOn Has Ends Stops made own

  pub part_on : IsPart Has Ends → ((x : X) (made other : A) → Stops x made → Stops x other → made ≡ other)
      → ((x : X) (made : A) → GoesOn x → Stops x made → ⊥) → IsPart (HasOn Has GoesOn) (EndsOn Has Ends Stops)
  part_on part one_stop not_both = record {
    one_part = λ x y first other more rest is has had. part.one_part x y first other more rest is has.0 had.0;
    not_end = no_end;
    has_answered = λ x own has. part.has_answered x own has.0;
    tail = record { one_made = one; answered = answer };
  }
    where
      whole : (x y : X) (first more own : List Event) → own ≡ first ++ more → Has x first → Has y own → x ≡ y
      whole x y first more own is has had = (part.one_part x y first own more [] (sym is ∙ sym (append-nil own)) has had).0

      no_end : (x : X) (made : A) (first more own : List Event) → own ≡ first ++ more → On x first → Over made own → ⊥
      no_end x made first more own is (has, on) (inl ends) = part.not_end x made first more own is has ends
      no_end x made first more own is (has, on) (inr (y, had, stops)) = not_both y made (subst GoesOn (whole x y first more own is has had) on) stops

      one : (made other : A) (own : List Event) → Over made own → Over other own → made ≡ other
      one made other own (inl ends) (inl also) = part.tail.one_made made other own ends also
      one made other own (inl ends) (inr (x, has, stops)) = absurd (part.not_end x made own [] own (sym (append-nil own)) has ends)
      one made other own (inr (x, has, stops)) (inl ends) = absurd (part.not_end x other own [] own (sym (append-nil own)) has ends)
      one made other own (inr (x, has, stops)) (inr (y, had, also)) =
          one_stop y made other (subst (λ (x : X). Stops x made) (whole x y own [] own (sym (append-nil own)) has had) stops) also

      answer : (made : A) (own : List Event) → Over made own → AreAnswered own
      answer made own (inl ends) = part.tail.answered made own ends
      answer made own (inr (x, has, stops)) = part.has_answered x own has

-- ---- parts by where calls lead

module _ {P X : Type 0} (Goes : P → Event → P → Type 0) (start : P) (At : X → P → Type 0) where
  abbrev pub HasLed : X → List Event → Type 0
  HasLed x own = (m : P) × Leads Goes own start m × At x m

module _ {P X A : Type 0} (Goes : P → Event → P → Type 0) (start : P) (At : X → P → Type 0) (Over : A → P → Type 0)
    (IsEnd : P → Type 0) where
  abbrev Has : X → List Event → Type 0
  Has x own = HasLed Goes start At x own

  abbrev Ends : A → List Event → Type 0
  Ends made own = HasLed Goes start Over made own

  pub record LeadLaws : Type 0 where
    pub are_one : AreOne Goes
    pub stays : Stays Goes IsEnd
    pub answered : (own : List Event) (m : P) → Leads Goes own start m → AreAnswered own
    pub at_ends : (x : X) (m : P) → At x m → IsEnd m
    pub over_ends : (made : A) (m : P) → Over made m → IsEnd m
    pub one_at : (x y : X) (m : P) → At x m → At y m → x ≡ y
    pub one_over : (made other : A) (m : P) → Over made m → Over other m → made ≡ other
    pub not_over : (x : X) (made : A) (m : P) → At x m → Over made m → ⊥

  pub lead_part : LeadLaws → IsPart (HasLed Goes start At) (HasLed Goes start Over)
  lead_part laws = record { one_part = one; not_end = no_end; has_answered = answer; tail = record { one_made = one_over; answered = over_answer } }
    where
      one : (x y : X) (first other more rest : List Event) → first ++ more ≡ other ++ rest → Has x first → Has y other
          → (x ≡ y) × (first ≡ other) × (more ≡ rest)
      one x y first other more rest is (m, lead, at) (n, leads, there) =
          let end = one_end Goes IsEnd laws.are_one laws.stays first other more rest start m n is lead (laws.at_ends x m at) leads (laws.at_ends y n there) in
          (laws.one_at x y n (subst (At x) end.1 at) there, end.0, end.2)

      no_end : (x : X) (made : A) (first more own : List Event) → own ≡ first ++ more → Has x first → Ends made own → ⊥
      no_end x made first more own is (m, lead, at) (n, leads, over) =
          let end = one_end Goes IsEnd laws.are_one laws.stays first own more [] start m n (sym is ∙ sym (append-nil own)) lead (laws.at_ends x m at)
          leads (laws.over_ends made n over) in
          laws.not_over x made n (subst (At x) end.1 at) over

      one_over : (made other : A) (own : List Event) → Ends made own → Ends other own → made ≡ other
      one_over made other own (m, lead, over) (n, leads, also) =
          laws.one_over made other n (subst (Over made) (one_lead Goes laws.are_one own start m n lead leads) over) also

      answer : (x : X) (own : List Event) → Has x own → AreAnswered own
      answer x own (m, lead, at) = laws.answered own m lead

      over_answer : (made : A) (own : List Event) → Ends made own → AreAnswered own
      over_answer made own (m, lead, over) = laws.answered own m lead

-- ---- a part of one call

module _ {X : Type 0} (At : X → Event → Type 0) where
  abbrev pub HasEvent : X → List Event → Type 0
  HasEvent x own = (event : Event) × At x event × (own ≡ event ∷ [])

module _ {X A : Type 0} (At : X → Event → Type 0) (Ends : A → List Event → Type 0) where
  abbrev Comes : X → List Event → Type 0
  Comes x own = HasEvent At x own

  pub event_part : ((x y : X) (event : Event) → At x event → At y event → x ≡ y) → ((x : X) (event : Event) → At x event → IsAnswered event)
      → ((x : X) (event : Event) (more : List Event) (made : A) → At x event → Ends made (event ∷ more) → ⊥) → IsTail Ends → IsPart (HasEvent At) Ends
  event_part one_at answers not_begun tail = record { one_part = one; not_end = no_end; has_answered = answer; tail = tail }
    where
      one : (x y : X) (first other more rest : List Event) → first ++ more ≡ other ++ rest → Comes x first → Comes y other
          → (x ≡ y) × (first ≡ other) × (more ≡ rest)
      one x y first other more rest is (event, at, p) (next, there, q) =
          let whole : event ∷ more ≡ next ∷ rest = ap (λ (own : List Event). own ++ more) (sym p) ∙ is ∙ ap (λ (own : List Event). own ++ rest) q in
          let same = head_same event next more rest whole in (
            one_at x y next (subst (At x) same at) there,
            p ∙ ap (λ (event : Event). event ∷ []) same ∙ sym q,
            tail_same event next more rest whole,
          )

      no_end : (x : X) (made : A) (first more own : List Event) → own ≡ first ++ more → Comes x first → Ends made own → ⊥
      no_end x made first more own is (event, at, p) ends =
          not_begun x event more made at (subst (Ends made) (is ∙ ap (λ (first : List Event). first ++ more) p) ends)

      answer : (x : X) (own : List Event) → Comes x own → AreAnswered own
      answer x own (event, at, p) = subst AreAnswered (sym p) (answers x event at, tt)

-- nothing ends so
abbrev pub NoEnd : {A : Type 0} → A → List Event → Type 0
NoEnd made own = ⊥

pub no_tail : {A : Type 0} → IsTail (NoEnd {A = A})
no_tail = record { one_made = λ made other own ends also. absurd ends; answered = λ made own ends. absurd ends }

-- ---- a part whose first call is known

module _ {X A : Type 0} (Has : X → List Event → Type 0) (Ends : A → List Event → Type 0) (event : Event) where
  pub behind : IsPart Has Ends → IsPart (λ (x : X) (own : List Event). Has x (event ∷ own)) (λ (made : A) (own : List Event). Ends made (event ∷ own))
  behind part = record {
    one_part = λ x y first other more rest is has had.
        let all = part.one_part x y (event ∷ first) (event ∷ other) more rest (ap (λ (own : List Event). event ∷ own) is) has had in
        (all.0, tail_same event event first other all.1, all.2);
    not_end = λ x made first more own is has ends.
        part.not_end x made (event ∷ first) more (event ∷ own) (ap (λ (own : List Event). event ∷ own) is) has ends;
    has_answered = λ x own has. (part.has_answered x (event ∷ own) has).1;
    tail = record {
      one_made = λ made other own ends also. part.tail.one_made made other (event ∷ own) ends also;
      answered = λ made own ends. (part.tail.answered made (event ∷ own) ends).1;
    };
  }

-- ---- what calls show

-- more calls came before
pub fails_after : (e : Refusal) (first rest own : List Event) → own ≡ first ++ rest → Fails e rest → Fails e own
fails_after e first rest own is (earlier, call, names, at) = (
  first ++ earlier,
  call,
  names,
  is ∙ ap (λ (rest : List Event). first ++ rest) at ∙ sym (append_assoc first earlier (faulted call ∷ [])),
)

no_answer : (call : Call) → IsAnswered (faulted call) → ⊥
no_answer call answered = cc

-- the call that failed isn't one of those that were answered
fails_past : (e : Refusal) (first rest : List Event) → AreAnswered first → Fails e (first ++ rest) → Fails e rest
fails_past e [] rest answered fails = fails
fails_past e (event ∷ first) rest (answered, all) ([], call, names, at) =
    absurd (no_answer call (subst IsAnswered (head_same event (faulted call) (first ++ rest) [] at) answered))
fails_past e (event ∷ first) rest (answered, all) (next ∷ earlier, call, names, at) =
    fails_past e first rest all (earlier, call, names, tail_same event next (first ++ rest) (earlier ++ faulted call ∷ []) at)

-- so other calls may have come before it
pub fails_moved : (e : Refusal) (first other rest own : List Event) → own ≡ other ++ rest → AreAnswered first → Fails e (first ++ rest) → Fails e own
fails_moved e first other rest own is answered fails = fails_after e other rest own is (fails_past e first rest answered fails)

module _ {A : Type 0} (err : Refusal → A) where
  -- memory ran out; or the last call failed; or they end so
  pub data IsShown (Ends : A → List Event → Type 0) (made : A) (own : List Event) : Type 0 where
    of_memory : made ≡ err refusals.Memory → IsShown Ends made own
    of_failure : (e : Refusal) → made ≡ err e → Fails e own → IsShown Ends made own
    of_end : Ends made own → IsShown Ends made own

  module _ (Ends : A → List Event → Type 0) (tail : IsTail Ends) where
    -- two answers are one, or memory ran out
    abbrev pub AreAlike : A → A → Type 0
    AreAlike made other = (made ≡ other) ⊎ ((made ≡ err refusals.Memory) ⊎ (other ≡ err refusals.Memory))

    pub one_shown : (own : List Event) (made other : A) → IsShown Ends made own → IsShown Ends other own → AreAlike made other
    one_shown own made other (of_memory memory) was = inr (inl memory)
    one_shown own made other is (of_memory memory) = inr (inr memory)
    one_shown own made other (of_failure e is fails) (of_failure d was failed) = inl (is ∙ ap err (one_failed e d own fails failed) ∙ sym was)
    one_shown own made other (of_failure e is fails) (of_end ends) = absurd (failed_not e own fails (tail.answered other own ends))
    one_shown own made other (of_end ends) (of_failure e is fails) = absurd (failed_not e own fails (tail.answered made own ends))
    one_shown own made other (of_end ends) (of_end also) = inl (tail.one_made made other own ends also)

    -- where the last call failed the answer says so
    pub failed_shown : (own : List Event) (made : A) (e : Refusal) → Fails e own → IsShown Ends made own → (made ≡ err refusals.Memory) ⊎ (made ≡ err e)
    failed_shown own made e fails (of_memory memory) = inl memory
    failed_shown own made e fails (of_failure d is failing) = inr (is ∙ ap err (one_failed d e own failing fails))
    failed_shown own made e fails (of_end ends) = absurd (failed_not e own fails (tail.answered made own ends))

  module _ {X : Type 0} (Has : X → List Event → Type 0) (Ends : A → List Event → Type 0) (EndsNext : X → A → List Event → Type 0) where
    pub shown_first : (made : A) (own : List Event) → IsShown Ends made own → IsShown (EndsEither Has Ends EndsNext) made own
    shown_first made own (of_memory memory) = of_memory memory
    shown_first made own (of_failure e is fails) = of_failure e is fails
    shown_first made own (of_end ends) = of_end (inl ends)

    pub shown_then : (x : X) (first rest own : List Event) (made : A) → Has x first → own ≡ first ++ rest → IsShown (EndsNext x) made rest
        → IsShown (EndsEither Has Ends EndsNext) made own
    shown_then x first rest own made has is (of_memory memory) = of_memory memory
    shown_then x first rest own made has is (of_failure e names fails) = of_failure e names (fails_after e first rest own is fails)
    shown_then x first rest own made has is (of_end ends) = of_end (inr (x, first, rest, has, ends, is))

-- what a part shows, said of all
pub shown_as : {A : Type 0} (err : Refusal → A) (Ends : Refusal → List Event → Type 0) (e : Refusal) (own : List Event)
    → IsShown (λ (e : Refusal). e) Ends e own → IsShown err (EndsAs Ends err) (err e) own
shown_as err Ends e own (of_memory memory) = of_memory (ap err memory)
shown_as err Ends e own (of_failure d is fails) = of_failure d (ap err is) fails
shown_as err Ends e own (of_end ends) = of_end (e, ends, refl)
