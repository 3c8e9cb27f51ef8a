-- What steps of a store say, and what they say where nobody else has operations in them.
use Rattle.std.proofs.Common.{◌≡◌, ℕ, ◌+◌, ◌≤◌, List, [], ◌∷◌, ◌++◌, Bool, true, false, if◌then◌else◌, length, drop, Option, None, Some, ap, refl, subst, sym, ◌∙◌, arith}
use Rattle.std.proofs.lemmas.List.{append-nil, append_assoc}
use Rattle.std.specs.List.{AllByRecursion}
use Rattle.pm_store.specs.declared.answer.Answer.{Answer}
use Rattle.pm_store.specs.declared.answer.Answer.TheVariants as answers
use Rattle.pm_store.specs.declared.answer.Swapped.TheVariants as swaps
use Rattle.pm_store.specs.declared.call.Call.{Call}
use Rattle.pm_store.specs.declared.call.Call.TheVariants as calls
use Rattle.pm_store.specs.declared.call.Op.{Op}
use Rattle.pm_store.specs.Answers.{Answers, MayAnswer}
use Rattle.pm_store.specs.Files.{Files}
use Rattle.pm_store.specs.Store.{StoreView, AreOthers, Came, EndsWith, GoesOn, IsAlone, IsLater, Meanwhile, Steps, up_to_own, ops_at_first_own, others_in, others_told, at_first_own}

-- ---- whose operations are

pub others_in-append : (ops more : List Op) → others_in (ops ++ more) ≡ others_in ops + others_in more
others_in-append [] more = omega arith
others_in-append (op ∷ ops) more =
    let one : ℕ = if op.is_own then 0 else 1 in
    let rest = others_in-append ops more in
    omega (arith, rest)

all-others : (ops : List Op) → AreOthers ops → others_in ops ≡ length ops
all-others [] others = refl
all-others (op ∷ ops) (theirs, others) =
    let count : Bool → ℕ = λ own. if own then 0 else 1 in
    let one = ap count theirs in
    let rest = all-others ops others in
    omega (arith, one, rest)

-- ---- a store that nobody else uses

abbrev pub alone : List Op → ℕ → StoreView
alone ops faults = record { ops = Some ops; faults = faults }

-- a step that nobody else came before
pub Steps-alone : (op : Op) (P : List Op → Type 0) (ops new : List Op) (m n : ℕ) → new ≡ ops ++ op ∷ [] → P ops → Steps op P (alone ops m) (alone new n)
Steps-alone op P ops new m n is here = (op ∷ [], ap Some is, ([], refl, tt, subst P (sym (append-nil ops)) here))

-- a call that was not made
pub Meanwhile-alone : (ops new : List Op) (m n : ℕ) → new ≡ ops → Meanwhile (alone ops m) (alone new n)
Meanwhile-alone ops new m n is = ([], ap Some (is ∙ sym (append-nil ops)), tt)

-- after a call that was made, or not
pub IsLater-step : (op : Op) (ops new : List Op) (m n : ℕ) → new ≡ ops ++ op ∷ [] → m ≤ n → IsLater (alone ops m) (alone new n)
IsLater-step op ops new m n is within = record {
  others = omega (arith, ap others_in is, others_in-append ops (op ∷ []));
  faults = within;
}

pub IsLater-none : (ops new : List Op) (m n : ℕ) → new ≡ ops → m ≤ n → IsLater (alone ops m) (alone new n)
IsLater-none ops new m n is within = record { others = omega (arith, ap others_in is); faults = within }

-- what a call answers on some files it may answer
pub Answers-MayAnswer : (call : Call) (answer : Answer) (files : Files) → Answers call answer files → MayAnswer call answer
Answers-MayAnswer (calls.List folder) (answers.Listed names) files is = is.rising
Answers-MayAnswer (calls.Read path) (answers.Found found) files is = tt
Answers-MayAnswer (calls.Create path bytes) (answers.Made answer) files is = tt
Answers-MayAnswer (calls.Publish after path bytes) (answers.Published answer) files is = tt
Answers-MayAnswer (calls.Swap path expected bytes) (answers.Swapped swaps.Swapped) files is = tt
Answers-MayAnswer (calls.Swap path expected bytes) (answers.Swapped (swaps.Differs found)) files is = is.1
Answers-MayAnswer (calls.Remove path) (answers.Removed answer) files is = tt
Answers-MayAnswer call answer files is = absurd is

-- ---- operations of which each has something

pub all_joined : {X : Type 0} (P : X → Type 0) (xs ys : List X) → AllByRecursion P xs → AllByRecursion P ys → AllByRecursion P (xs ++ ys)
all_joined P [] ys all more = more
all_joined P (x ∷ xs) ys (one, all) more = (one, all_joined P xs ys all more)

-- ---- what came

-- where no call came, nothing need have come
pub Came-none : (P : List Op → List Op → Type 0) (known : Option (List Op)) → ((ops : List Op) → P ops []) → Came P known known
Came-none P None none = refl
Came-none P (Some ops) none = ([], ap Some (sym (append-nil ops)), none ops)

pub Meanwhile-refl : (store : StoreView) → Meanwhile store store
Meanwhile-refl store = Came-none (λ ops more. AreOthers more) store.ops (λ ops. tt)

pub IsLater-refl : (store : StoreView) → IsLater store store
IsLater-refl store = record { others = omega arith; faults = omega arith }

pub GoesOn-refl : (store : StoreView) → GoesOn store store
GoesOn-refl store = Came-none (λ ops more. Unit {0}) store.ops (λ ops. tt)

-- what came, where the operations before are known
pub Came-known : (P : List Op → List Op → Type 0) (before after : StoreView) (ops : List Op) → before.ops ≡ Some ops → Came P before.ops after.ops
    → Came P (Some ops) after.ops
Came-known P before after ops is came = subst (λ (known : Option (List Op)). Came P known after.ops) is came

-- what came first and what came then
pub Came-joined : (P Q R : List Op → List Op → Type 0) (first middle after : Option (List Op)) → Came P first middle → Came Q middle after
    → ((ops more rest : List Op) → P ops more → Q (ops ++ more) rest → R ops (more ++ rest)) → Came R first after
Came-joined P Q R None middle after none late joins = subst (λ (known : Option (List Op)). Came Q known after) none late
Came-joined P Q R (Some ops) middle after (more, is, here) late joins =
    let rest : Came Q (Some (ops ++ more)) after = subst (λ (known : Option (List Op)). Came Q known after) is late in
    (more ++ rest.0, rest.1 ∙ ap Some (append_assoc ops more rest.0), joins ops more rest.0 here rest.2)

pub Came-weaker : (P Q : List Op → List Op → Type 0) (before after : Option (List Op)) → ((ops more : List Op) → P ops more → Q ops more) → Came P before after
    → Came Q before after
Came-weaker P Q None after weaker none = none
Came-weaker P Q (Some ops) after weaker (more, is, here) = (more, is, weaker ops more here)

pub Came-goes_on : (P : List Op → List Op → Type 0) (before after : StoreView) → Came P before.ops after.ops → GoesOn before after
Came-goes_on P before after = Came-weaker P (λ ops more. Unit {0}) before.ops after.ops (λ ops more here. tt)

pub GoesOn-trans : (first before after : StoreView) → GoesOn first before → GoesOn before after → GoesOn first after
GoesOn-trans first before after early late =
    Came-joined (λ ops more. Unit {0}) (λ ops more. Unit {0}) (λ ops more. Unit {0}) first.ops before.ops after.ops early late (λ ops more rest a b. tt)

-- the count of others' doesn't fall
came_others : (known after : Option (List Op)) → Came (λ ops more. Unit {0}) known after → others_told known ≤ others_told after
came_others None after none = omega arith
came_others (Some ops) after (more, is, x) = omega (arith, ap others_told is, others_in-append ops more)

pub IsLater-trans : (first before after : StoreView) → IsLater first before → IsLater before after → IsLater first after
IsLater-trans first before after early late =
    let a = early.others in let b = late.others in let c = early.faults in let d = late.faults in
    record { others = omega (arith, a, b); faults = omega (arith, c, d) }

-- a step up to which a weaker fact holds
pub Steps-weaker : (op : Op) (P Q : List Op → Type 0) (before after : StoreView) → ((ops : List Op) → P ops → Q ops) →
    Steps op P before after → Steps op Q before after
Steps-weaker op P Q before after weaker =
    Came-weaker (EndsWith op P) (EndsWith op Q) before.ops after.ops (λ ops more ends. (ends.0, ends.1, ends.2, weaker (ops ++ ends.0) ends.3))

-- others' operations, and then what a step says
pub Steps-after : (op : Op) (P : List Op → Type 0) (first before after : StoreView) → Meanwhile first before → Steps op P before after → Steps op P first after
Steps-after op P first before after meanwhile steps =
    Came-joined (λ ops more. AreOthers more) (EndsWith op P) (EndsWith op P) first.ops before.ops after.ops meanwhile steps (λ ops more rest others ends. (
      more ++ ends.0,
      ap (λ (rest : List Op). more ++ rest) ends.1 ∙ sym (append_assoc more ends.0 (op ∷ [])),
      all_joined (λ (op : Op). op.is_own ≡ false) more ends.0 others ends.2,
      subst P (append_assoc ops more ends.0) ends.3,
    ))

pub Meanwhile-trans : (first before after : StoreView) → Meanwhile first before → Meanwhile before after → Meanwhile first after
Meanwhile-trans first before after early late =
    Came-joined (λ ops more. AreOthers more) (λ ops more. AreOthers more) (λ ops more. AreOthers more) first.ops before.ops after.ops early late
    (λ ops more rest. all_joined (λ (op : Op). op.is_own ≡ false) more rest)

-- ---- where nobody else acts

-- up to a moment between, and from it on
pub alone_parts : (first before after : StoreView) → IsLater first before → IsLater before after → IsAlone first after
    → IsAlone first before × IsAlone before after
alone_parts first before after early late alone =
    let low = early.others in let high = late.others in
    (omega (arith, low, high, alone), omega (arith, low, high, alone))

no_length : (ops : List Op) → length ops ≤ 0 → ops ≡ []
no_length [] none = refl
no_length (op ∷ ops) none = absurd (omega (arith, none))

-- where no other's came, none of these others' did
no_others : (before after : StoreView) (ops others rest : List Op) → before.ops ≡ Some ops → after.ops ≡ Some (ops ++ (others ++ rest)) → AreOthers others
    → IsAlone before after → others ≡ []
no_others before after ops others rest known is theirs alone =
    no_length others (omega (
      arith,
      alone,
      ap others_told known,
      ap others_told is,
      others_in-append ops (others ++ rest),
      others_in-append others rest,
      all-others others theirs,
    ))

-- a step added its own operation alone
pub Steps-exact : (op : Op) (P : List Op → Type 0) (before after : StoreView) (ops : List Op) → before.ops ≡ Some ops →
    Steps op P before after → IsAlone before after → (after.ops ≡ Some (ops ++ op ∷ [])) × P ops
Steps-exact op P before after ops known steps alone =
    let came = Came-known (EndsWith op P) before after ops known steps in
    let ends = came.2 in
    let is : after.ops ≡ Some (ops ++ (ends.0 ++ op ∷ [])) = came.1 ∙ ap (λ (more : List Op). Some (ops ++ more)) ends.1 in
    let none = no_others before after ops ends.0 (op ∷ []) known is ends.2 alone in
    let same : ops ++ ends.0 ≡ ops = ap (λ (others : List Op). ops ++ others) none ∙ append-nil ops in
    (is ∙ ap (λ (others : List Op). Some (ops ++ (others ++ op ∷ []))) none, subst P same ends.3)

-- and a call that was not made added none
pub Meanwhile-exact : (before after : StoreView) (ops : List Op) → before.ops ≡ Some ops → Meanwhile before after →
    IsAlone before after → after.ops ≡ Some ops
Meanwhile-exact before after ops known meanwhile alone =
    let came = Came-known (λ ops more. AreOthers more) before after ops known meanwhile in
    let whole : after.ops ≡ Some (ops ++ (came.0 ++ [])) = came.1 ∙ ap (λ (others : List Op). Some (ops ++ others)) (sym (append-nil came.0)) in
    let none = no_others before after ops came.0 [] known whole came.2 alone in
    came.1 ∙ ap (λ (others : List Op). Some (ops ++ others)) none ∙ ap Some (append-nil ops)

-- ---- the first own operation

drop-front : (ops more : List Op) → drop (length ops) (ops ++ more) ≡ more
drop-front [] more = refl
drop-front (op ∷ ops) more = drop-front ops more

up-to-others : (ops : List Op) → AreOthers ops → up_to_own ops ≡ ops
up-to-others [] others = refl
up-to-others (op ∷ ops) (theirs, others) =
    ap (λ (own : Bool). if own then [] else op ∷ up_to_own ops) theirs ∙ ap (λ (ops : List Op). op ∷ ops) (up-to-others ops others)

up-to-own : (others : List Op) (op : Op) (rest : List Op) → AreOthers others → op.is_own ≡ true → up_to_own (others ++ op ∷ rest) ≡ others
up-to-own [] op rest theirs mine = ap (λ (own : Bool). if own then [] else op ∷ up_to_own rest) mine
up-to-own (one ∷ others) op rest (its, theirs) mine =
    ap (λ (own : Bool). if own then [] else one ∷ up_to_own (others ++ op ∷ rest)) its
    ∙ ap (λ (ops : List Op). one ∷ ops) (up-to-own others op rest theirs mine)

-- where others alone acted, it is the end
pub at_first_own-none : (before after : StoreView) → Meanwhile before after → (at_first_own before after).ops ≡ after.ops
at_first_own-none before after = by before.ops
  where
    by : (known : Option (List Op)) → Came (λ ops more. AreOthers more) known after.ops → ops_at_first_own known after.ops ≡ after.ops
    by None none = sym none
    by (Some ops) (more, is, others) =
        ap (ops_at_first_own (Some ops)) is
        ∙ ap (λ (more : List Op). Some (ops ++ up_to_own more)) (drop-front ops more)
        ∙ ap (λ (more : List Op). Some (ops ++ more)) (up-to-others more others)
        ∙ sym is

-- the operations before that of a step
abbrev before_step : (op : Op) (P : List Op → Type 0) (known now : Option (List Op)) → Came (EndsWith op P) known now → Option (List Op)
before_step op P None now none = None
before_step op P (Some ops) now (more, is, ends) = Some (ops ++ ends.0)

-- they are those up to the first own one, whatever comes then
first_is : (op : Op) (P : List Op → Type 0) (known middle after : Option (List Op)) → op.is_own ≡ true → (came : Came (EndsWith op P) known middle)
    → Came (λ ops more. Unit {0}) middle after → ops_at_first_own known after ≡ before_step op P known middle came
first_is op P None middle after mine none late = refl
first_is op P (Some ops) middle after mine (more, is, ends) late =
    let rest : Came (λ ops more. Unit {0}) (Some (ops ++ more)) after =
    subst (λ (known : Option (List Op)). Came (λ ops more. Unit {0}) known after) is late in
    let later : more ++ rest.0 ≡ ends.0 ++ op ∷ rest.0 = ap (λ (more : List Op). more ++ rest.0) ends.1 ∙ append_assoc ends.0 (op ∷ []) rest.0 in
    let whole : after ≡ Some (ops ++ (ends.0 ++ op ∷ rest.0)) =
    rest.1 ∙ ap Some (append_assoc ops more rest.0 ∙ ap (λ (later : List Op). ops ++ later) later) in
    ap (ops_at_first_own (Some ops)) whole
    ∙ ap (λ (later : List Op). Some (ops ++ up_to_own later)) (drop-front ops (ends.0 ++ op ∷ rest.0))
    ∙ ap (λ (others : List Op). Some (ops ++ others)) (up-to-own ends.0 op rest.0 ends.2 mine)

meanwhile_before : (op : Op) (P : List Op → Type 0) (known now : Option (List Op)) → (came : Came (EndsWith op P) known now)
    → Came (λ ops more. AreOthers more) known (before_step op P known now came)
meanwhile_before op P None now none = refl
meanwhile_before op P (Some ops) now (more, is, ends) = (ends.0, refl, ends.2)

steps_from : (op : Op) (P : List Op → Type 0) (known now : Option (List Op)) → (came : Came (EndsWith op P) known now)
    → Came (EndsWith op P) (before_step op P known now came) now
steps_from op P None now none = none
steps_from op P (Some ops) now (more, is, ends) = (
  op ∷ [],
  is ∙ ap (λ (more : List Op). Some (ops ++ more)) ends.1 ∙ ap Some (sym (append_assoc ops ends.0 (op ∷ []))),
  ([], refl, tt, subst P (sym (append-nil (ops ++ ends.0))) ends.3),
)

-- right before the first own step others alone acted, whatever comes then
pub at_first_own-meanwhile : (op : Op) (P : List Op → Type 0) (before middle after : StoreView) → op.is_own ≡ true → Steps op P before middle
    → GoesOn middle after → Meanwhile before (at_first_own before after)
at_first_own-meanwhile op P before middle after mine steps late =
    subst (λ (now : Option (List Op)). Came (λ ops more. AreOthers more) before.ops now) (sym (first_is op P before.ops middle.ops after.ops mine steps late))
    (meanwhile_before op P before.ops middle.ops steps)

-- and the step came then
pub at_first_own-steps : (op : Op) (P : List Op → Type 0) (before middle after : StoreView) → op.is_own ≡ true → Steps op P before middle
    → GoesOn middle after → Steps op P (at_first_own before after) middle
at_first_own-steps op P before middle after mine steps late =
    subst (λ (now : Option (List Op)). Came (EndsWith op P) now middle.ops) (sym (first_is op P before.ops middle.ops after.ops mine steps late))
    (steps_from op P before.ops middle.ops steps)

-- and that moment is the same one
pub at_first_own-same : (op : Op) (P : List Op → Type 0) (before middle after last : StoreView) → op.is_own ≡ true → Steps op P before middle
    → GoesOn middle after → GoesOn middle last → at_first_own before after ≡ at_first_own before last
at_first_own-same op P before middle after last mine steps late later =
    let view : Option (List Op) → StoreView = λ ops. record { ops = ops; faults = before.faults } in
    ap view (first_is op P before.ops middle.ops after.ops mine steps late ∙ sym (first_is op P before.ops middle.ops last.ops mine steps later))

pub IsLater-steps : (op : Op) (P : List Op → Type 0) (before after : StoreView) → Steps op P before after → before.faults ≤ after.faults → IsLater before after
IsLater-steps op P before after steps within = record {
  others = came_others before.ops after.ops (Came-goes_on (EndsWith op P) before after steps);
  faults = within;
}
