-- Where the runs stand to which a compaction began, and what they are once it has replaced them.
use Rattle.std.proofs.Common.{◌≡◌, ◌≢◌, ◌⊎◌, inl, inr, ℕ, zero, suc, ◌+◌, ◌-◌, ◌<◌, ◌≤◌, ◌==◌, nat_le, nat_lt, max, List, [], ◌∷◌, ◌++◌, map, reverse, length, append_assoc, append-nil, Bool, true, false, cond, refl, sym, ap, subst, ◌∙◌, arith}
use Rattle.std.specs.List.{AllByRecursion, AllZip, filter, flat_map}
use Rattle.pm_values.specs.Order.{Values, key_cmp}
use Rattle.std.proofs.lemmas.Bool.Decides.{nat_tests}
use Rattle.std.proofs.lemmas.List.{append_cancel_left, map-append, reverse-append}
use Rattle.std.proofs.lemmas.List.Elements.{Contains-append_cases, Contains-append_left, Contains-append_right, filter-append}
use Rattle.pm_model_history.specs.Merge.{HistoryRow, key_of, rows_of}
use Rattle.pm_engine.specs.Covers.{Covers, CoversAll, CoversKey, Holds, Run, of_key}
use Rattle.pm_engine.specs.Meaning.{Meaning}
use Rattle.std.specs.Cmp.{tied_itself}
use Rattle.std.specs.Ordering.{eq_by_cmp, is_eq}
use Rattle.pm_values.specs.Order.{key_total}
use Rattle.pm_runs.specs.Succession.{KnownRun, StandOnce, TakeOldestPlace, TakePlace, from_oldest}
use Rattle.pm_runs.proofs.Life.{AddedAll, AddedSome, AreThere, CaughtUp, IsCompacted, IsIn, IsLife, MayReplace, Rows, Stand, State, Step, Took, stays, appended, compacted, oldest_such}

ties_itself : (a : Values) → eq_by_cmp key_cmp a a ≡ true
ties_itself a = ap is_eq (tied_itself key_total a)

-- ---- lists

one-first : {A : Type 0} (x y : A) (xs ys : List A) → x ∷ xs ≡ y ∷ ys → (x ≡ y) × (xs ≡ ys)
one-first x y xs ys e = (cc, cc)

-- two ways to part a list
parts : {A : Type 0} (xs ys us vs : List A) → xs ++ ys ≡ us ++ vs
    → ((w : List A) × (us ≡ xs ++ w) × (ys ≡ w ++ vs)) ⊎ ((w : List A) × (xs ≡ us ++ w) × (vs ≡ w ++ ys))
parts [] ys us vs e = inl (us, refl, e)
parts (x ∷ xs) ys [] vs e = inr (x ∷ xs, refl, sym e)
parts (x ∷ xs) ys (u ∷ us) vs e =
    let both = one-first x u (xs ++ ys) (us ++ vs) e in
    elim (parts xs ys us vs both.1) as (λ _. ((w : List _) × (u ∷ us ≡ (x ∷ xs) ++ w) × (ys ≡ w ++ vs)) ⊎ ((w : List _) × (x ∷ xs ≡ (u ∷ us) ++ w) × (vs ≡ w ++ ys))) [
      | inl p ↦ inl (p.0, (λ i. (sym both.0) i ∷ p.1 i), p.2)
      | inr p ↦ inr (p.0, (λ i. both.0 i ∷ p.1 i), p.2)
    ]

pub in-first : (r : KnownRun) (xs : List KnownRun) → IsIn r (r ∷ xs)
in-first r xs = (0, omega arith, refl)

-- the first of them, or one of the others
pub in-cons : (r x : KnownRun) (xs : List KnownRun) → IsIn r (x ∷ xs) → (r ≡ x) ⊎ IsIn r xs
in-cons r x xs (zero, within, is) = inl (sym is)
in-cons r x xs (suc k, within, is) = inr (k, omega (arith, within), is)

in-rest : (r x : KnownRun) (xs : List KnownRun) → IsIn r xs → IsIn r (x ∷ xs)
in-rest r x xs (k, within, is) = (suc k, omega (arith, within), is)

pub in-left : (r : KnownRun) (xs ys : List KnownRun) → IsIn r xs → IsIn r (xs ++ ys)
in-left r xs ys is = Contains-append_left xs ys r is

pub in-right : (r : KnownRun) (xs ys : List KnownRun) → IsIn r ys → IsIn r (xs ++ ys)
in-right r xs ys is = Contains-append_right xs ys r is

pub in-or : (r : KnownRun) (xs ys : List KnownRun) → IsIn r (xs ++ ys) → IsIn r xs ⊎ IsIn r ys
in-or r xs ys is = Contains-append_cases xs ys r is

pub in-same : (r t : KnownRun) (xs : List KnownRun) → r ≡ t → IsIn t xs → IsIn r xs
in-same r t xs e is = subst (λ r. IsIn r xs) (sym e) is

pub in-none : (r : KnownRun) → IsIn r [] → ⊥
in-none r (k, within, is) = omega (arith, within)

once-both : (r : KnownRun) (xs ys : List KnownRun) → StandOnce (xs ++ ys) → IsIn r xs → IsIn r ys → ⊥
once-both r [] ys once l right = in-none r l
once-both r (x ∷ xs) ys once l right = elim (in-cons r x xs l) as (λ _. ⊥) [
  | inl e ↦ once.0 (in-same x r (xs ++ ys) (sym e) (in-right r xs ys right))
  | inr rest ↦ once-both r xs ys once.1 rest right
]

once-right : (xs ys : List KnownRun) → StandOnce (xs ++ ys) → StandOnce ys
once-right [] ys once = once
once-right (x ∷ xs) ys once = once-right xs ys once.1

all-left : (P : KnownRun → Type 0) (xs ys : List KnownRun) → AllByRecursion P (xs ++ ys) → AllByRecursion P xs
all-left P [] ys all = tt
all-left P (x ∷ xs) ys all = (all.0, all-left P xs ys all.1)

all-right : (P : KnownRun → Type 0) (xs ys : List KnownRun) → AllByRecursion P (xs ++ ys) → AllByRecursion P ys
all-right P [] ys all = all
all-right P (x ∷ xs) ys all = all-right P xs ys all.1

all-both : (P : KnownRun → Type 0) (xs ys : List KnownRun) → AllByRecursion P xs → AllByRecursion P ys → AllByRecursion P (xs ++ ys)
all-both P [] ys one two = two
all-both P (x ∷ xs) ys one two = (one.0, all-both P xs ys one.1 two)

pub all-in : (P : KnownRun → Type 0) (r : KnownRun) (xs : List KnownRun) → AllByRecursion P xs → IsIn r xs → P r
all-in P r [] all is = absurd (in-none r is)
all-in P r (x ∷ xs) all is = elim (in-cons r x xs is) as (λ _. P r) [
  | inl e ↦ subst P (sym e) all.0
  | inr rest ↦ all-in P r xs all.1 rest
]

all-weaker : (P Q : KnownRun → Type 0) (xs : List KnownRun) → ((r : KnownRun) → IsIn r xs → P r → Q r) → AllByRecursion P xs → AllByRecursion Q xs
all-weaker P Q [] weaker all = tt
all-weaker P Q (x ∷ xs) weaker all = (weaker x (in-first x xs) all.0, all-weaker P Q xs (λ r is. weaker r (in-rest r x xs is)) all.1)

pub all-of : (Q : KnownRun → Type 0) (xs : List KnownRun) → ((r : KnownRun) → IsIn r xs → Q r) → AllByRecursion Q xs
all-of Q [] q = tt
all-of Q (x ∷ xs) q = (q x (in-first x xs), all-of Q xs (λ r is. q r (in-rest r x xs is)))

-- ---- runs that stand once

once-made : (made older : List KnownRun) → length made ≤ 1 → ((r : KnownRun) → IsIn r made → IsIn r older → ⊥) → StandOnce older → StandOnce (made ++ older)
once-made [] older few new once = once
once-made (x ∷ []) older few new once = (λ there. new x (in-first x []) there, once)
once-made (x ∷ y ∷ made) older few new once = absurd (omega (arith, few))

-- so do those with one new run in the place of others
pub once-put : (later taken made older : List KnownRun) → length made ≤ 1 → ((r : KnownRun) → IsIn r made → IsIn r (later ++ (taken ++ older)) → ⊥)
    → StandOnce (later ++ (taken ++ older)) → StandOnce (later ++ (made ++ older))
once-put [] taken made older few new once =
    once-made made older few (λ r in_made in_older. new r in_made (in-right r taken older in_older)) (once-right taken older once)
once-put (x ∷ later) taken made older few new once = (
  λ there. elim (in-or x later (made ++ older) there) as (λ _. ⊥) [
    | inl l ↦ once.0 (in-left x later (taken ++ older) l)
    | inr others ↦ elim (in-or x made older others) as (λ _. ⊥) [
      | inl m ↦ new x m (in-first x (later ++ (taken ++ older)))
      | inr o ↦ once.0 (in-right x later (taken ++ older) (in-right x taken older o))
    ]
  ],
  once-put later taken made older few (λ r in_made there. new r in_made (in-rest r x (later ++ (taken ++ older)) there)) once.1,
)

-- ---- the rows of runs

oldest-two : (xs ys : List KnownRun) → from_oldest (xs ++ ys) ≡ from_oldest ys ++ from_oldest xs
oldest-two xs ys =
    ap reverse (map-append (λ (r : KnownRun). r.rows) xs ys) ∙ reverse-append (map (λ (r : KnownRun). r.rows) xs) (map (λ (r : KnownRun). r.rows) ys)

oldest-three : (a b c : List KnownRun) → from_oldest (a ++ (b ++ c)) ≡ from_oldest c ++ (from_oldest b ++ from_oldest a)
oldest-three a b c = oldest-two a (b ++ c) ∙ ap (λ xs. xs ++ from_oldest a) (oldest-two b c) ∙ append_assoc (from_oldest c) (from_oldest b) (from_oldest a)

-- runs in the place of others
replaced-some : (m : Meaning) (a taken made c : List KnownRun) (rows : List HistoryRow) → TakePlace m (from_oldest taken) (from_oldest made)
    → Covers m (from_oldest (a ++ (taken ++ c))) rows → Covers m (from_oldest (a ++ (made ++ c))) rows
replaced-some m a taken made c rows replaces covers =
    subst (λ (runs : List Run). Covers m runs rows) (sym (oldest-three a made c))
    (replaces.some (from_oldest c) (from_oldest a) rows (subst (λ (runs : List Run). Covers m runs rows) (oldest-three a taken c) covers))

replaced-all : (m : Meaning) (a taken made c : List KnownRun) (rows : List HistoryRow) → TakePlace m (from_oldest taken) (from_oldest made)
    → CoversAll m (from_oldest (a ++ (taken ++ c))) rows → CoversAll m (from_oldest (a ++ (made ++ c))) rows
replaced-all m a taken made c rows replaces covers =
    subst (λ (runs : List Run). CoversAll m runs rows) (sym (oldest-three a made c))
    (replaces.all (from_oldest c) (from_oldest a) rows (subst (λ (runs : List Run). CoversAll m runs rows) (oldest-three a taken c) covers))

replaced-oldest : (m : Meaning) (a taken made c : List KnownRun) (rows : List HistoryRow) → c ≡ [] → TakeOldestPlace m (from_oldest taken) (from_oldest made)
    → Covers m (from_oldest (a ++ (taken ++ c))) rows → Covers m (from_oldest (a ++ (made ++ c))) rows
replaced-oldest m a taken made c rows none replaces covers =
    subst (λ (runs : List Run). Covers m runs rows) (sym (oldest-three a made c ∙ ap (λ c. from_oldest c ++ (from_oldest made ++ from_oldest a)) none))
    (replaces (from_oldest a) rows
    (subst (λ (runs : List Run). Covers m runs rows) (oldest-three a taken c ∙ ap (λ c. from_oldest c ++ (from_oldest taken ++ from_oldest a)) none) covers))

may-replace : (m : Meaning) (top out : ℕ) (a taken made c : List KnownRun) (rows : List HistoryRow) → MayReplace m top out taken c made
    → Covers m (from_oldest (a ++ (taken ++ c))) rows → Covers m (from_oldest (a ++ (made ++ c))) rows
may-replace m top out a taken made c rows (inl replaces) covers = replaced-some m a taken made c rows replaces covers
may-replace m top out a taken made c rows (inr (whole, none, replaces)) covers = replaced-oldest m a taken made c rows none replaces covers

-- ---- no run covers no row

covers-empty : (m : Meaning) → CoversAll m [] []
covers-empty m key = record { parts = []; split = refl; holds = tt }

none-parts : (m : Meaning) (key : Values) (missing rows : List HistoryRow) → CoversKey m key [] missing rows → rows ≡ missing
none-parts m key missing rows covers = covers.split ∙ ap (λ xs. missing ++ xs) (at covers.parts covers.holds) ∙ append-nil missing
  where
    at : (parts : List (List HistoryRow)) → AllZip (λ (run : Run) (part : List HistoryRow). Holds m key (of_key key run) part) [] parts → flat_map (λ part. part) parts ≡ []
    at [] holds = refl
    at (p ∷ ps) holds = absurd holds

no-cons : {A : Type 0} (x : A) (xs : List A) → x ∷ xs ≡ [] → ⊥
no-cons x xs e = cc

covers-none : (m : Meaning) (rows : List HistoryRow) → CoversAll m [] rows → rows ≡ []
covers-none m [] covers = refl
covers-none m (r ∷ rows) covers =
    let key : Values = key_of m.primary r.1 in
    let none : rows_of m.primary key (r ∷ rows) ≡ [] = none-parts m key [] (rows_of m.primary key (r ∷ rows)) (covers key) in
    absurd (no-cons r (rows_of m.primary key rows) (sym (ap (λ (t : Bool). cond t (r ∷ rows_of m.primary key rows) (rows_of m.primary key rows)) (ties_itself key)) ∙ none))

no-parts : {A : Type 0} (xs ys : List A) → xs ++ ys ≡ [] → (xs ≡ []) × (ys ≡ [])
no-parts [] ys e = (refl, e)
no-parts (x ∷ xs) ys e = absurd (no-cons x (xs ++ ys) e)

-- ---- tests

positive-not : (k : ℕ) → 0 < k → (k == 0) ≡ false
positive-not k above = grind (arith, nat_tests)

max-first : (a b : ℕ) → nat_le b a ≡ true → max a b ≡ a
max-first a b e = grind (arith, nat_tests)

max-second : (a b : ℕ) → nat_le b a ≡ false → max a b ≡ b
max-second a b e = grind (arith, nat_tests)

zero-below : (a b k : ℕ) → a ≤ b → nat_le k b ≡ false → a ≤ k
zero-below a b k less e = grind (arith, nat_tests)

filter-none : (p : KnownRun → Bool) (xs : List KnownRun) → AllByRecursion (λ (r : KnownRun). p r ≡ false) xs → filter p xs ≡ []
filter-none p [] all = refl
filter-none p (x ∷ xs) all = ap (λ (t : Bool). cond t (x ∷ filter p xs) (filter p xs)) all.0 ∙ filter-none p xs all.1

filter-all : (p : KnownRun → Bool) (xs : List KnownRun) → AllByRecursion (λ (r : KnownRun). p r ≡ true) xs → filter p xs ≡ xs
filter-all p [] all = refl
filter-all p (x ∷ xs) all = ap (λ (t : Bool). cond t (x ∷ filter p xs) (filter p xs)) all.0 ∙ ap (λ rest. x ∷ rest) (filter-all p xs all.1)

-- ---- a run that was taken is in its place

cons-of : (xs : List KnownRun) → xs ≢ [] → (x : KnownRun) × (rest : List KnownRun) × (xs ≡ x ∷ rest)
cons-of [] some = absurd (some refl)
cons-of (x ∷ xs) some = (x, xs, refl)

-- where other runs stand to those that were taken
pub data Place (later taken older later2 taken2 older2 : List KnownRun) : Type 0 where
  within_older : (w : List KnownRun) → older ≡ w ++ (taken2 ++ older2) → later2 ≡ later ++ (taken ++ w) → Place later taken older later2 taken2 older2
  within_later : (w : List KnownRun) → later ≡ later2 ++ (taken2 ++ w) → older2 ≡ w ++ (taken ++ older) → Place later taken older later2 taken2 older2

-- where the first of two parted lists share their first item
first-in : (xs ys us vs : List KnownRun) → xs ≢ [] → us ≢ [] → xs ++ ys ≡ us ++ vs → ((t : KnownRun) → IsIn t xs → IsIn t us → ⊥) → ⊥
first-in [] ys us vs some other e apart = some refl
first-in (x ∷ xs) ys [] vs some other e apart = other refl
first-in (x ∷ xs) ys (u ∷ us) vs some other e apart =
    apart x (in-first x xs) (in-same x u (u ∷ us) (one-first x u (xs ++ ys) (us ++ vs) e).0 (in-first u us))

place : (later taken older later2 taken2 older2 : List KnownRun) → taken ≢ [] → taken2 ≢ [] → ((t : KnownRun) → IsIn t taken → IsIn t taken2 → ⊥)
    → later ++ (taken ++ older) ≡ later2 ++ (taken2 ++ older2) → Place later taken older later2 taken2 older2
place later taken older later2 taken2 older2 some some2 apart e =
    elim (parts later (taken ++ older) later2 (taken2 ++ older2) e) as (λ _. Place later taken older later2 taken2 older2) [
      | inl p ↦ after p.0 p.1 (parts taken older p.0 (taken2 ++ older2) p.2)
      | inr p ↦ before p.0 p.1 (parts taken2 older2 p.0 (taken ++ older) p.2)
    ]
  where
    after : (w : List KnownRun) → later2 ≡ later ++ w
        → (((v : List KnownRun) × (w ≡ taken ++ v) × (older ≡ v ++ (taken2 ++ older2))) ⊎ ((v : List KnownRun) × (taken ≡ w ++ v) × (taken2 ++ older2 ≡ v ++ older)))
        → Place later taken older later2 taken2 older2
    after w is (inl (v, first, second)) = within_older v second (is ∙ ap (λ xs. later ++ xs) first)
    after w is (inr ([], first, second)) =
        within_older [] (sym second) (is ∙ ap (λ xs. later ++ xs) (sym (append-nil w) ∙ sym first ∙ sym (append-nil taken)))
    after w is (inr (x ∷ v, first, second)) =
        absurd (first-in taken2 older2 (x ∷ v) older some2 (λ none. no-cons x v none) second (λ t a b. apart t (subst (IsIn t) (sym first) (in-right t w (x ∷ v) b)) a))

    before : (w : List KnownRun) → later ≡ later2 ++ w
        → (((v : List KnownRun) × (w ≡ taken2 ++ v) × (older2 ≡ v ++ (taken ++ older))) ⊎ ((v : List KnownRun) × (taken2 ≡ w ++ v) × (taken ++ older ≡ v ++ older2)))
        → Place later taken older later2 taken2 older2
    before w is (inl (v, first, second)) = within_later v (is ∙ ap (λ xs. later2 ++ xs) first) second
    before w is (inr ([], first, second)) =
        within_later [] (is ∙ ap (λ xs. later2 ++ xs) (sym (append-nil w) ∙ sym first ∙ sym (append-nil taken2))) (sym second)
    before w is (inr (x ∷ v, first, second)) =
        absurd (first-in taken older (x ∷ v) older2 some (λ none. no-cons x v none) second (λ t a b. apart t a (subst (IsIn t) (sym first) (in-right t w (x ∷ v) b))))

-- ---- runs that stand once stand in one place

-- the first of them can't stand before them too
twice : (taken front back w rest other : List KnownRun) (x : KnownRun) → taken ≢ [] → StandOnce (front ++ (taken ++ rest)) → front ≡ back ++ (x ∷ w)
    → taken ++ other ≡ x ∷ (w ++ (taken ++ rest)) → ⊥
twice taken front back w rest other x some once is same =
    let t = cons-of taken some in
    let first : t.0 ≡ x = (one-first t.0 x (t.1 ++ other) (w ++ (taken ++ rest)) (ap (λ (xs : List KnownRun). xs ++ other) (sym t.2) ∙ same)).0 in
    let before : IsIn t.0 front = in-same t.0 x front first (subst (IsIn x) (sym is) (in-right x back (x ∷ w) (in-first x w))) in
    let among : IsIn t.0 taken = subst (IsIn t.0) (sym t.2) (in-first t.0 t.1) in
    once-both t.0 front (taken ++ rest) once before (in-left t.0 taken rest among)

pub one-place : (later taken older later2 older2 : List KnownRun) → taken ≢ [] → StandOnce (later ++ (taken ++ older)) → StandOnce (later2 ++ (taken ++ older2))
    → later ++ (taken ++ older) ≡ later2 ++ (taken ++ older2) → (later ≡ later2) × (older ≡ older2)
one-place later taken older later2 older2 some once once2 e =
    elim (parts later (taken ++ older) later2 (taken ++ older2) e) as (λ _. (later ≡ later2) × (older ≡ older2)) [
      | inl p ↦ after p.0 p.1 p.2
      | inr p ↦ before p.0 p.1 p.2
    ]
  where
    after : (w : List KnownRun) → later2 ≡ later ++ w → taken ++ older ≡ w ++ (taken ++ older2) → (later ≡ later2) × (older ≡ older2)
    after [] is rest = (sym (is ∙ append-nil later), append_cancel_left taken older older2 rest)
    after (x ∷ w) is rest = absurd (twice taken later2 later w older2 older x some once2 is rest)

    before : (w : List KnownRun) → later ≡ later2 ++ w → taken ++ older2 ≡ w ++ (taken ++ older) → (later ≡ later2) × (older ≡ older2)
    before [] is rest = (is ∙ append-nil later2, append_cancel_left taken older older2 (sym rest))
    before (x ∷ w) is rest = absurd (twice taken later later2 w older older2 x some once is rest)

-- ---- catching up

module _ (added : AddedAll) (m : Meaning) (top first last : ℕ) (rows : Rows) (life : ℕ → State) (is_life : IsLife m top first rows life last)
    (base out : ℕ) (taken rest : List KnownRun) (from : first ≤ base) (origin : 1 ≤ base) (within : out ≤ top) (took : Took (life base) taken rest out) where
  abbrev Up : ℕ → Type 0
  Up n = CaughtUp m rows life base taken rest out n

  below-base : base ≤ last → (life base).zero < base
  below-base bound = elim (is_life.bases base from bound) as (λ _. (life base).zero < base) [
    | inl low ↦ low
    | inr none ↦ omega (arith, none, origin)
  ]

  start : base ≤ last → Up base
  start bound =
      let low = below-base bound in
      let known : AllByRecursion (λ (r : KnownRun). r.newest ≤ base) (taken ++ rest) =
      subst (AllByRecursion (λ (r : KnownRun). r.newest ≤ base)) took.was (is_life.known base from bound) in record {
        later = [];
        older = rest;
        is = took.was;
        covers = subst (λ (runs : List KnownRun). Covers m (from_oldest runs) (rows.up_to base)) took.was (is_life.stand base from bound).all;
        covers_later = subst (CoversAll m []) (sym (rows.none base)) (covers-empty m);
        newer = tt;
        known = all-right (λ (r : KnownRun). r.newest ≤ base) taken rest known;
        below = tt;
        high = took.high;
        position = inl (low, tt, rows.none (life base).zero);
        tops = (let less = is_life.tops base from bound in omega (arith, low, less));
        same_top = λ none. (none, refl);
      }

  -- ---- one entry more

  more-none : (n : ℕ) → base ≤ n → rows.since n (suc n) ≡ [] → rows.since base (suc n) ≡ rows.since base n
  more-none n after none = rows.joined base n (suc n) after (omega arith) ∙ ap (λ xs. rows.since base n ++ xs) none ∙ append-nil (rows.since base n)

  -- nothing came
  stayed : (n : ℕ) → base ≤ n → Up n → life (suc n) ≡ life n → rows.since n (suc n) ≡ [] → Up (suc n)
  stayed n after up same none = record {
    later = up.later;
    older = up.older;
    is = ap (λ (a : State). a.runs) same ∙ up.is;
    covers = up.covers;
    covers_later = subst (CoversAll m (from_oldest up.later)) (sym (more-none n after none)) up.covers_later;
    newer = up.newer;
    known = up.known;
    below = up.below;
    high = up.high;
    position = subst (λ (a : State). ((a.zero < base) × AllByRecursion (λ (r : KnownRun). r.level ≡ 0) up.later × (rows.since (life base).zero a.zero ≡ []))
        ⊎ ((base < a.zero) × AllByRecursion (λ (t : KnownRun). 0 < t.level) taken)) (sym same) up.position;
    tops = subst (λ (a : State). a.top < base) (sym same) up.tops;
    same_top = λ e. ((up.same_top e).0, ap (λ (a : State). a.top) same ∙ (up.same_top e).1);
  }

  -- a run was appended
  grown : (n : ℕ) (run : KnownRun) → base ≤ n → Up n → run.level ≡ 0 → run.newest ≡ suc n → CoversAll m (run.rows ∷ []) (rows.since n (suc n))
      → (life (suc n)).runs ≡ run ∷ (life n).runs → (life (suc n)).zero ≡ (life n).zero → (life (suc n)).top ≡ (life n).top → Up (suc n)
  grown n run after up low newest covers is zero_is top_is = record {
    later = run ∷ up.later;
    older = up.older;
    is = is ∙ ap (λ (runs : List KnownRun). run ∷ runs) up.is;
    covers = up.covers;
    covers_later = subst (λ (runs : List Run). CoversAll m runs (rows.since base (suc n))) (sym (oldest-two (run ∷ []) up.later))
        (subst (CoversAll m (from_oldest up.later ++ run.rows ∷ [])) (sym (rows.joined base n (suc n) after (omega arith)))
        (added m (from_oldest up.later) run.rows (rows.since base n) (rows.since n (suc n)) up.covers_later covers));
    newer = ((omega (arith, after, newest)), up.newer);
    known = up.known;
    below = (inl low, up.below);
    high = up.high;
    position = elim up.position as (λ _. (((life (suc n)).zero < base) × AllByRecursion (λ (r : KnownRun). r.level ≡ 0) (run ∷ up.later) × (rows.since (life base).zero (life (suc n)).zero ≡ []))
        ⊎ ((base < (life (suc n)).zero) × AllByRecursion (λ (t : KnownRun). 0 < t.level) taken)) [
          | inl p ↦ inl ((let less = p.0 in omega (arith, less, zero_is)), (low, p.1), ap (rows.since (life base).zero) zero_is ∙ p.2)
          | inr p ↦ inr ((let less = p.0 in omega (arith, less, zero_is)), p.1)
        ];
    tops = (let less = up.tops in omega (arith, less, top_is));
    same_top = λ e. ((up.same_top e).0, top_is ∙ (up.same_top e).1);
  }

  -- ---- another compaction came

  -- what was taken was there at the base
  at-base : (r : KnownRun) → IsIn r taken → IsIn r (life base).runs
  at-base r is = subst (IsIn r) (sym took.was) (in-left r taken rest is)

  -- a run that was taken and still stands was there before
  there-before : (n : ℕ) → base ≤ n → n < last → AreThere taken (life (suc n)) → AreThere taken (life n)
  there-before n after low there r is = at (life n) (life (suc n)) (is_life.steps n (omega (arith, from, after)) low) (there r is)
    where
      at : (a b : State) → Step m top first rows life n a b → IsIn r b.runs → IsIn r a.runs
      at a b (stays same none) here = subst (λ (x : State). IsIn r x.runs) same here
      at a b (appended run level newest fresh covers runs zero_is top_is) here =
          elim (in-cons r run a.runs (subst (IsIn r) runs here)) as (λ _. IsIn r a.runs) [
            | inl e ↦ absurd (fresh base from after (in-same run r (life base).runs (sym e) (at-base r is)))
            | inr was ↦ was
          ]
      at a b (compacted c) here =
          elim (in-or r c.later (c.made ++ c.older) (subst (IsIn r) c.is here)) as (λ _. IsIn r a.runs) [
            | inl l ↦ subst (IsIn r) (sym c.was) (in-left r c.later (c.taken ++ c.older) l)
            | inr others ↦ elim (in-or r c.made c.older others) as (λ _. IsIn r a.runs) [
              | inl l ↦ absurd (all-in (λ (x : KnownRun). (k : ℕ) → first ≤ k → k ≤ n → IsIn x (life k).runs → ⊥) r c.made c.fresh l base from after (at-base r is))
              | inr l ↦ subst (IsIn r) (sym c.was) (in-right r c.later (c.taken ++ c.older) (in-right r c.taken c.older l))
            ]
          ]

  module _ (n : ℕ) (after : base ≤ n) (low : n < last) (ups : (k : ℕ) → base ≤ k → k ≤ n → Up k) (there : AreThere taken (life (suc n)))
      (c : IsCompacted m top first rows life n (life n) (life (suc n))) where
    abbrev up : Up n
    up = ups n after (omega arith)

    -- it took none of the runs that were taken
    untouched : (t : KnownRun) → IsIn t taken → IsIn t c.taken → ⊥
    untouched t is other =
        let once : StandOnce (c.later ++ (c.taken ++ c.older)) = subst StandOnce c.was (is_life.once n (omega (arith, from, after)) (omega (arith, low))) in
        let here = in-or t c.later (c.made ++ c.older) (subst (IsIn t) c.is (there t is)) in
        elim here as (λ _. ⊥) [
          | inl l ↦ once-both t c.later (c.taken ++ c.older) once l (in-left t c.taken c.older other)
          | inr others ↦ elim (in-or t c.made c.older others) as (λ _. ⊥) [
            | inl l ↦ all-in (λ (x : KnownRun). (k : ℕ) → first ≤ k → k ≤ n → IsIn x (life k).runs → ⊥) t c.made c.fresh l base from after (at-base t is)
            | inr l ↦ once-both t c.taken c.older (once-right c.later (c.taken ++ c.older) once) other l
          ]
        ]

    where_it_is : Place up.later taken up.older c.later c.taken c.older
    where_it_is = place up.later taken up.older c.later c.taken c.older took.some c.took.some untouched (sym up.is ∙ c.was)

    -- a run that it took
    abbrev one : (x : KnownRun) × (rest : List KnownRun) × (c.taken ≡ x ∷ rest)
    one = cons-of c.taken c.took.some

    one-in : IsIn one.0 c.taken
    one-in = subst (IsIn one.0) (sym one.2) (in-first one.0 one.1)

    -- a run that was taken
    abbrev mine : (x : KnownRun) × (rest : List KnownRun) × (taken ≡ x ∷ rest)
    mine = cons-of taken took.some

    mine-in : IsIn mine.0 taken
    mine-in = subst (IsIn mine.0) (sym mine.2) (in-first mine.0 mine.1)

    -- where it began, if it began later
    module _ (above : base ≤ c.base) where
      abbrev then : Up c.base
      then = ups c.base above c.before

      -- what it took came since, and what was taken is among what it left
      began : ((w : List KnownRun) × (then.later ≡ c.taken ++ w)) × AllByRecursion (λ (r : KnownRun). c.out < r.level) taken
      began = elim (parts then.later (taken ++ then.older) c.taken c.rest (sym then.is ∙ c.took.was))
          as (λ _. ((w : List KnownRun) × (then.later ≡ c.taken ++ w)) × AllByRecursion (λ (r : KnownRun). c.out < r.level) taken) [
            | inl p ↦ at p.0 p.1 p.2
            | inr p ↦ (
              (p.0, p.1),
              all-left (λ (r : KnownRun). c.out < r.level) taken then.older
                  (all-right (λ (r : KnownRun). c.out < r.level) p.0 (taken ++ then.older) (subst (AllByRecursion (λ (r : KnownRun). c.out < r.level)) p.2 c.took.high)),
            )
          ]
        where
          at : (w : List KnownRun) → c.taken ≡ then.later ++ w → taken ++ then.older ≡ w ++ c.rest
              → ((w : List KnownRun) × (then.later ≡ c.taken ++ w)) × AllByRecursion (λ (r : KnownRun). c.out < r.level) taken
          at [] first second = (
            ([], sym (append-nil then.later) ∙ sym first ∙ sym (append-nil c.taken)),
            all-left (λ (r : KnownRun). c.out < r.level) taken then.older (subst (AllByRecursion (λ (r : KnownRun). c.out < r.level)) (sym second) c.took.high),
          )
          at (x ∷ w) first second = absurd (first-in taken then.older (x ∷ w) c.rest took.some (λ none. no-cons x w none) second
              (λ t a b. untouched t a (subst (IsIn t) (sym first) (in-right t then.later (x ∷ w) b))))

    abbrev id_known : first ≤ c.base
    id_known = c.from

    -- the runs that it took are known at its base
    one-known : one.0.newest ≤ c.base
    one-known = all-in (λ (r : KnownRun). r.newest ≤ c.base) one.0 c.taken
        (all-left (λ (r : KnownRun). r.newest ≤ c.base) c.taken c.rest
        (subst (AllByRecursion (λ (r : KnownRun). r.newest ≤ c.base)) c.took.was (is_life.known c.base c.from (let early = c.before in omega (arith, early, low))))) one-in

    made-newest : (P : ℕ → Type 0) → AllByRecursion (λ (r : KnownRun). P r.newest) c.taken → AllByRecursion (λ (r : KnownRun). P r.newest) c.made
    made-newest P all = all-weaker (λ (r : KnownRun). (t : KnownRun) × IsIn t c.taken × (r.newest ≡ t.newest)) (λ (r : KnownRun). P r.newest) c.made
        (λ r is t. subst P (sym t.2) (all-in (λ (r : KnownRun). P r.newest) t.0 c.taken all t.1)) c.newest

    -- ---- among the runs that came since

    module _ (w : List KnownRun) (first_is : up.later ≡ c.later ++ (c.taken ++ w)) (second_is : c.older ≡ w ++ (taken ++ up.older)) where
      abbrev now_later : List KnownRun
      now_later = c.later ++ (c.made ++ w)

      newer-parts : AllByRecursion (λ (r : KnownRun). base < r.newest) (c.later ++ (c.taken ++ w))
      newer-parts = subst (AllByRecursion (λ (r : KnownRun). base < r.newest)) first_is up.newer

      newer-taken : AllByRecursion (λ (r : KnownRun). base < r.newest) c.taken
      newer-taken = all-left (λ (r : KnownRun). base < r.newest) c.taken w (all-right (λ (r : KnownRun). base < r.newest) c.later (c.taken ++ w) newer-parts)

      began-later : base < c.base
      began-later =
          let low = all-in (λ (r : KnownRun). base < r.newest) one.0 c.taken newer-taken one-in in
          let high = one-known in
          omega (arith, low, high)

      above-it : AllByRecursion (λ (r : KnownRun). c.out < r.level) taken
      above-it = (began (let l = began-later in omega (arith, l))).1

      not-whole : c.out ≡ top → ⊥
      not-whole is =
          let high = all-in (λ (r : KnownRun). c.out < r.level) mine.0 taken above-it mine-in in
          let low = all-in (λ (r : KnownRun). r.level ≤ out) mine.0 taken took.low mine-in in
          omega (arith, high, low, is, within)

      same_top-then : (life (suc n)).top ≡ (life n).top
      same_top-then = elim c.whole as (λ _. (life (suc n)).top ≡ (life n).top) [
        | inl w ↦ absurd (not-whole w.0)
        | inr w ↦ w.1
      ]

      not-last : c.older ≡ [] → ⊥
      not-last none = at w (sym second_is ∙ none)
        where
          at : (w : List KnownRun) → w ++ (taken ++ up.older) ≡ [] → ⊥
          at [] e = no-cons mine.0 (mine.1 ++ up.older) (ap (λ xs. xs ++ up.older) (sym mine.2) ∙ e)
          at (x ∷ w) e = no-cons x (w ++ (taken ++ up.older)) e

      replaces-here : TakePlace m (from_oldest c.taken) (from_oldest c.made)
      replaces-here = elim c.replaces as (λ _. TakePlace m (from_oldest c.taken) (from_oldest c.made)) [
        | inl r ↦ r
        | inr r ↦ absurd (not-last r.1)
      ]

      abbrev IsBelow : KnownRun → Type 0
      IsBelow r = (r.level ≡ 0) ⊎ AllByRecursion (λ (t : KnownRun). r.level < t.level) taken

      is_below-now : AllByRecursion IsBelow now_later
      is_below-now =
          let were : AllByRecursion IsBelow (c.later ++ (c.taken ++ w)) = subst (AllByRecursion IsBelow) first_is up.below in
          all-both IsBelow c.later (c.made ++ w) (all-left IsBelow c.later (c.taken ++ w) were)
          (all-both IsBelow c.made w
          (all-weaker (λ (r : KnownRun). r.level ≡ c.out) IsBelow c.made (λ r is level. inr (all-weaker (λ (t : KnownRun). c.out < t.level) (λ (t : KnownRun). r.level < t.level) taken (λ t in_taken high. omega (arith, level, high)) above-it)) c.new)
          (all-right IsBelow c.taken w (all-right IsBelow c.later (c.taken ++ w) were)))

      newer-now : AllByRecursion (λ (r : KnownRun). base < r.newest) now_later
      newer-now =
          all-both (λ (r : KnownRun). base < r.newest) c.later (c.made ++ w) (all-left (λ (r : KnownRun). base < r.newest) c.later (c.taken ++ w) newer-parts)
          (all-both (λ (r : KnownRun). base < r.newest) c.made w (made-newest (λ k. base < k) newer-taken)
          (all-right (λ (r : KnownRun). base < r.newest) c.taken w (all-right (λ (r : KnownRun). base < r.newest) c.later (c.taken ++ w) newer-parts)))

      since-it : Up (suc n)
      since-it = record {
        later = now_later;
        older = up.older;
        is = c.is ∙ ap (λ xs. c.later ++ (c.made ++ xs)) second_is
            ∙ ap (λ xs. c.later ++ xs) (sym (append_assoc c.made w (taken ++ up.older))) ∙ sym (append_assoc c.later (c.made ++ w) (taken ++ up.older));
        covers = up.covers;
        covers_later = subst (CoversAll m (from_oldest now_later)) (sym (more-none n after c.none))
            (replaced-all m c.later c.taken c.made w (rows.since base n) replaces-here
            (subst (λ (runs : List KnownRun). CoversAll m (from_oldest runs) (rows.since base n)) first_is up.covers_later));
        newer = newer-now;
        known = up.known;
        below = is_below-now;
        high = up.high;
        position = inr (
          (let less = began-later in let is = c.zero in subst (λ k. base < k) (sym is) (below-max (life n).zero c.base less)),
          all-weaker (λ (t : KnownRun). c.out < t.level) (λ (t : KnownRun). 0 < t.level) taken (λ t in_taken high. (let positive = c.took.positive in omega (arith, positive, high))) above-it,
        );
        tops = (let less = up.tops in let is = same_top-then in omega (arith, less, is));
        same_top = λ e. ((up.same_top e).0, same_top-then ∙ (up.same_top e).1);
      }
        where
          below-max : (a b : ℕ) → base < b → base < max a b
          below-max a b less = grind (arith, nat_tests)

    -- ---- among the runs that are older

    module _ (w : List KnownRun) (first_is : up.older ≡ w ++ (c.taken ++ c.older)) (second_is : c.later ≡ up.later ++ (taken ++ w)) where
      abbrev now_older : List KnownRun
      now_older = w ++ (c.made ++ c.older)

      known-parts : AllByRecursion (λ (r : KnownRun). r.newest ≤ base) (w ++ (c.taken ++ c.older))
      known-parts = subst (AllByRecursion (λ (r : KnownRun). r.newest ≤ base)) first_is up.known

      known-taken : AllByRecursion (λ (r : KnownRun). r.newest ≤ base) c.taken
      known-taken = all-left (λ (r : KnownRun). r.newest ≤ base) c.taken c.older (all-right (λ (r : KnownRun). r.newest ≤ base) w (c.taken ++ c.older) known-parts)

      high-parts : AllByRecursion (λ (r : KnownRun). out < r.level) (w ++ (c.taken ++ c.older))
      high-parts = subst (AllByRecursion (λ (r : KnownRun). out < r.level)) first_is up.high

      high-taken : AllByRecursion (λ (r : KnownRun). out < r.level) c.taken
      high-taken = all-left (λ (r : KnownRun). out < r.level) c.taken c.older (all-right (λ (r : KnownRun). out < r.level) w (c.taken ++ c.older) high-parts)

      -- it began before
      began-before : c.base < base
      began-before = elim (nat_le base c.base) as (λ t. nat_le base c.base ≡ t → c.base < base) [
        | false ↦ λ e. grind (arith, nat_tests)
        | true ↦ λ e.
            let above : base ≤ c.base = grind (arith, nat_tests) in
            let b = (began above).0 in
            let newer = all-in (λ (r : KnownRun). base < r.newest) one.0 (then above).later (then above).newer
            (subst (IsIn one.0) (sym b.1) (in-left one.0 c.taken b.0 one-in)) in
            let known = all-in (λ (r : KnownRun). r.newest ≤ base) one.0 c.taken known-taken one-in in
            absurd (omega (arith, newer, known))
      ] refl

      higher : out < c.out
      higher =
          let low = all-in (λ (r : KnownRun). r.level ≤ c.out) one.0 c.taken c.took.low one-in in
          let high = all-in (λ (r : KnownRun). out < r.level) one.0 c.taken high-taken one-in in
          omega (arith, low, high)

      -- nothing at its base was at level 0, so it passed on no row
      abbrev bound-it : c.base ≤ last
      bound-it = (let early = c.before in omega (arith, early, low))

      none-passed : rows.since (life c.base).zero c.base ≡ []
      none-passed = covers-none m (rows.since (life c.base).zero c.base)
          (subst (λ (runs : List KnownRun). CoversAll m (from_oldest runs) (rows.since (life c.base).zero c.base))
          (ap (filter (λ (r : KnownRun). r.level == 0)) c.took.was ∙ filter-none (λ (r : KnownRun). r.level == 0) (c.taken ++ c.rest) not-zero)
          (is_life.stand c.base c.from bound-it).at_zero)
        where
          not-zero : AllByRecursion (λ (r : KnownRun). (r.level == 0) ≡ false) (c.taken ++ c.rest)
          not-zero = all-both (λ (r : KnownRun). (r.level == 0) ≡ false) c.taken c.rest
              (all-weaker (λ (r : KnownRun). out < r.level) (λ (r : KnownRun). (r.level == 0) ≡ false) c.taken (λ r is high. positive-not r.level (omega (arith, high))) high-taken)
              (all-weaker (λ (r : KnownRun). c.out < r.level) (λ (r : KnownRun). (r.level == 0) ≡ false) c.rest (λ r is high. positive-not r.level (omega (arith, high))) c.took.high)

      since-none : (life n).zero < base → rows.since (life base).zero (life n).zero ≡ [] → rows.since (life base).zero (max (life n).zero c.base) ≡ []
      since-none less none = elim (nat_le c.base (life n).zero) as (λ t. nat_le c.base (life n).zero ≡ t → rows.since (life base).zero (max (life n).zero c.base) ≡ []) [
        | true ↦ λ e. ap (rows.since (life base).zero) (max-first (life n).zero c.base e) ∙ none
        | false ↦ λ e. ap (rows.since (life base).zero) (max-second (life n).zero c.base e) ∙ up-to-base e
      ] refl
        where
          up-to-base : nat_le c.base (life n).zero ≡ false → rows.since (life base).zero c.base ≡ []
          up-to-base e =
              let one_grows = is_life.grows c.base base c.from (let l = began-before in omega (arith, l)) (omega (arith, after, low)) in
              let two_grows = is_life.grows base n from after (omega (arith, low)) in
              let below : (life base).zero ≤ c.base = zero-below (life base).zero (life n).zero c.base two_grows e in
              (no-parts (rows.since (life c.base).zero (life base).zero) (rows.since (life base).zero c.base)
              (sym (rows.joined (life c.base).zero (life base).zero c.base one_grows below) ∙ none-passed)).1

      older-it : Up (suc n)
      older-it = record {
        later = up.later;
        older = now_older;
        is = c.is ∙ ap (λ xs. xs ++ (c.made ++ c.older)) second_is ∙ append_assoc up.later (taken ++ w) (c.made ++ c.older)
            ∙ ap (λ xs. up.later ++ xs) (append_assoc taken w (c.made ++ c.older));
        covers = subst (λ (runs : List KnownRun). Covers m (from_oldest runs) (rows.up_to base)) (append_assoc taken w (c.made ++ c.older))
            (may-replace m top c.out (taken ++ w) c.taken c.made c.older (rows.up_to base) c.replaces
            (subst (λ (runs : List KnownRun). Covers m (from_oldest runs) (rows.up_to base)) (ap (λ xs. taken ++ xs) first_is ∙ sym (append_assoc taken w (c.taken ++ c.older))) up.covers));
        covers_later = subst (CoversAll m (from_oldest up.later)) (sym (more-none n after c.none)) up.covers_later;
        newer = up.newer;
        known = all-both (λ (r : KnownRun). r.newest ≤ base) w (c.made ++ c.older) (all-left (λ (r : KnownRun). r.newest ≤ base) w (c.taken ++ c.older) known-parts)
            (all-both (λ (r : KnownRun). r.newest ≤ base) c.made c.older (made-newest (λ k. k ≤ base) known-taken)
            (all-right (λ (r : KnownRun). r.newest ≤ base) c.taken c.older (all-right (λ (r : KnownRun). r.newest ≤ base) w (c.taken ++ c.older) known-parts)));
        below = up.below;
        high = all-both (λ (r : KnownRun). out < r.level) w (c.made ++ c.older) (all-left (λ (r : KnownRun). out < r.level) w (c.taken ++ c.older) high-parts)
            (all-both (λ (r : KnownRun). out < r.level) c.made c.older
            (all-weaker (λ (r : KnownRun). r.level ≡ c.out) (λ (r : KnownRun). out < r.level) c.made (λ r is level. (let more = higher in omega (arith, level, more))) c.new)
            (all-right (λ (r : KnownRun). out < r.level) c.taken c.older (all-right (λ (r : KnownRun). out < r.level) w (c.taken ++ c.older) high-parts)));
        position = elim up.position as (λ _. (((life (suc n)).zero < base) × AllByRecursion (λ (r : KnownRun). r.level ≡ 0) up.later × (rows.since (life base).zero (life (suc n)).zero ≡ []))
            ⊎ ((base < (life (suc n)).zero) × AllByRecursion (λ (t : KnownRun). 0 < t.level) taken)) [
              | inl p ↦ inl (subst (λ k. k < base) (sym c.zero) (max-below (life n).zero c.base p.0 began-before), p.1, ap (rows.since (life base).zero) c.zero ∙ since-none p.0 p.2)
              | inr p ↦ inr (subst (λ k. base < k) (sym c.zero) (above-max (life n).zero c.base p.0), p.1)
            ];
        tops = elim c.whole as (λ _. (life (suc n)).top < base) [
          | inl w ↦ subst (λ k. k < base) (sym w.1) (max-below (life n).top c.base up.tops began-before)
          | inr w ↦ (let less = up.tops in let is = w.1 in omega (arith, less, is))
        ];
        same_top = λ e. absurd (not-none w (sym first_is ∙ (up.same_top e).0));
      }
        where
          max-below : (a b : ℕ) → a < base → b < base → max a b < base
          max-below a b p q = grind (arith, nat_tests)

          above-max : (a b : ℕ) → base < a → base < max a b
          above-max a b p = grind (arith, nat_tests)

          not-none : (w : List KnownRun) → w ++ (c.taken ++ c.older) ≡ [] → ⊥
          not-none [] e = no-cons one.0 (one.1 ++ c.older) (ap (λ xs. xs ++ c.older) (sym one.2) ∙ e)
          not-none (x ∷ w) e = no-cons x (w ++ (c.taken ++ c.older)) e

    compacted-it : Up (suc n)
    compacted-it = at where_it_is
      where
        at : Place up.later taken up.older c.later c.taken c.older → Up (suc n)
        at (within_older w first second) = older-it w first second
        at (within_later w first second) = since-it w first second

  -- ---- all entries

  one-step : (n : ℕ) → base ≤ n → n < last → ((k : ℕ) → base ≤ k → k ≤ n → Up k) → AreThere taken (life (suc n)) → Up (suc n)
  one-step n after low ups there = at (life n) (life (suc n)) refl refl (is_life.steps n (omega (arith, from, after)) low)
    where
      at : (a b : State) → life n ≡ a → life (suc n) ≡ b → Step m top first rows life n a b → Up (suc n)
      at a b was now (stays same none) = stayed n after (ups n after (omega arith)) (now ∙ same ∙ sym was) none
      at a b was now (appended run level newest fresh covers runs zero_is top_is) =
          grown n run after (ups n after (omega arith)) level newest covers
          (ap (λ (x : State). x.runs) now ∙ runs ∙ ap (λ (x : State). run ∷ x.runs) (sym was))
          (ap (λ (x : State). x.zero) now ∙ zero_is ∙ ap (λ (x : State). x.zero) (sym was))
          (ap (λ (x : State). x.top) now ∙ top_is ∙ ap (λ (x : State). x.top) (sym was))
      at a b was now (compacted c) =
          compacted-it n after low ups there (subst (IsCompacted m top first rows life n (life n)) (sym now) (subst (λ (x : State). IsCompacted m top first rows life n x b) (sym was) c))

  all-next : (n : ℕ) → base ≤ n → suc n ≤ last → AreThere taken (life (suc n)) → ((k : ℕ) → base ≤ k → k ≤ n → Up k) → (k : ℕ) → base ≤ k → k ≤ suc n → Up k
  all-next n after bound there earlier k above below = elim (nat_le k n) as (λ t. nat_le k n ≡ t → Up k) [
    | true ↦ λ e. earlier k above (grind (arith, nat_tests))
    | false ↦ λ e. subst Up (last-one k e below) (one-step n after (omega (arith, bound)) earlier there)
  ] refl
    where
      last-one : (k : ℕ) → nat_le k n ≡ false → k ≤ suc n → suc n ≡ k
      last-one k e below = grind (arith, nat_tests)

  all-up : (d n : ℕ) → n ≡ base + d → n ≤ last → AreThere taken (life n) → (k : ℕ) → base ≤ k → k ≤ n → Up k
  all-up zero n is bound there k above below = subst Up (same-number k n is above below) (start (omega (arith, bound, is)))
    where
      same-number : (k n : ℕ) → n ≡ base + 0 → base ≤ k → k ≤ n → base ≡ k
      same-number k n is above below = omega (arith, is, above, below)
  all-up (suc d) zero is bound there k above below = absurd (omega (arith, is))
  all-up (suc d) (suc n) is bound there k above below =
      all-next n (omega (arith, is)) bound there
      (all-up d n (omega (arith, is)) (omega (arith, bound)) (there-before n (omega (arith, is)) (omega (arith, bound)) there)) k above below

  pub caught-up : base ≤ last → AreThere taken (life last) → Up last
  caught-up bound there = all-up (last - base) last (omega (arith, bound)) (omega arith) there last bound (omega arith)

-- ---- what was taken is replaced

filter-three : (p : KnownRun → Bool) (a b c : List KnownRun) → filter p (a ++ (b ++ c)) ≡ filter p a ++ (filter p b ++ filter p c)
filter-three p a b c = filter-append p a (b ++ c) ∙ ap (λ xs. filter p a ++ xs) (filter-append p b c)

not-at : (k n : ℕ) → k < n → (k == n) ≡ false
not-at k n below = grind (arith, nat_tests)

is-at : (k n : ℕ) → k ≡ n → (k == n) ≡ true
is-at k n same = grind (arith, nat_tests)

is-below : (k n : ℕ) → k < n → nat_lt k n ≡ true
is-below k n below = grind (arith, nat_tests)

not-below : (k n : ℕ) → n ≤ k → nat_lt k n ≡ false
not-below k n above = grind (arith, nat_tests)

max-of : (a b : ℕ) → a < b → max a b ≡ b
max-of a b below = grind (arith, nat_tests)

max-over : (a b : ℕ) → b < a → max a b ≡ a
max-over a b below = grind (arith, nat_tests)

module _ (m : Meaning) (top first last : ℕ) (rows : Rows) (life : ℕ → State) (is_life : IsLife m top first rows life last)
    (base out : ℕ) (taken rest : List KnownRun) (from : first ≤ base) (origin : 1 ≤ base) (bound : base ≤ last) (within : out ≤ top)
    (took : Took (life base) taken rest out) (up : CaughtUp m rows life base taken rest out last)
    (made : List KnownRun) (b : State) (is : b.runs ≡ up.later ++ (made ++ up.older)) (new : AllByRecursion (λ (r : KnownRun). r.level ≡ out) made)
    (replaces : MayReplace m top out taken up.older made) (none : rows.since last (suc last) ≡ []) where
  abbrev before : List KnownRun
  before = up.later ++ (taken ++ up.older)

  stand : Stand m top rows last (life last)
  stand = is_life.stand last (omega (arith, from, bound)) (omega arith)

  no-more : (k : ℕ) → k ≤ last → rows.since k (suc last) ≡ rows.since k last
  no-more k below = rows.joined k last (suc last) below (omega arith) ∙ ap (λ xs. rows.since k last ++ xs) none ∙ append-nil (rows.since k last)

  -- which runs have such a level, before and after
  such-before : (such : ℕ → Bool) (old : List KnownRun) → filter (λ (r : KnownRun). such r.level) taken ≡ old
      → oldest_such such (life last).runs ≡ from_oldest (filter (λ (r : KnownRun). such r.level) up.later ++ (old ++ filter (λ (r : KnownRun). such r.level) up.older))
  such-before such old same =
      ap (oldest_such such) up.is
      ∙ ap from_oldest (filter-three (λ (r : KnownRun). such r.level) up.later taken up.older ∙ ap (λ xs. filter (λ (r : KnownRun). such r.level) up.later ++ (xs ++ filter (λ (r : KnownRun). such r.level) up.older)) same)

  such-after : (such : ℕ → Bool) (a n c : List KnownRun) → filter (λ (r : KnownRun). such r.level) up.later ≡ a → filter (λ (r : KnownRun). such r.level) made ≡ n
      → filter (λ (r : KnownRun). such r.level) up.older ≡ c → oldest_such such b.runs ≡ from_oldest (a ++ (n ++ c))
  such-after such a n c one two three =
      ap (oldest_such such) is
      ∙ ap from_oldest (filter-three (λ (r : KnownRun). such r.level) up.later made up.older
      ∙ ap (λ xs. xs ++ (filter (λ (r : KnownRun). such r.level) made ++ filter (λ (r : KnownRun). such r.level) up.older)) one
      ∙ ap (λ xs. a ++ (xs ++ filter (λ (r : KnownRun). such r.level) up.older)) two ∙ ap (λ xs. a ++ (n ++ xs)) three)

  -- all new runs have the level, or none
  made-all : (such : ℕ → Bool) → such out ≡ true → filter (λ (r : KnownRun). such r.level) made ≡ made
  made-all such e = filter-all (λ (r : KnownRun). such r.level) made (all-weaker (λ (r : KnownRun). r.level ≡ out) (λ (r : KnownRun). such r.level ≡ true) made (λ r in_made level. ap such level ∙ e) new)

  made-none : (such : ℕ → Bool) → such out ≡ false → filter (λ (r : KnownRun). such r.level) made ≡ []
  made-none such e = filter-none (λ (r : KnownRun). such r.level) made (all-weaker (λ (r : KnownRun). r.level ≡ out) (λ (r : KnownRun). such r.level ≡ false) made (λ r in_made level. ap such level ∙ e) new)

  older-all : (such : ℕ → Bool) → ((k : ℕ) → out < k → such k ≡ true) → filter (λ (r : KnownRun). such r.level) up.older ≡ up.older
  older-all such e = filter-all (λ (r : KnownRun). such r.level) up.older (all-weaker (λ (r : KnownRun). out < r.level) (λ (r : KnownRun). such r.level ≡ true) up.older (λ r in_older high. e r.level high) up.high)

  older-none : (such : ℕ → Bool) → ((k : ℕ) → out < k → such k ≡ false) → filter (λ (r : KnownRun). such r.level) up.older ≡ []
  older-none such e = filter-none (λ (r : KnownRun). such r.level) up.older (all-weaker (λ (r : KnownRun). out < r.level) (λ (r : KnownRun). such r.level ≡ false) up.older (λ r in_older high. e r.level high) up.high)

  taken-none : (such : ℕ → Bool) → ((k : ℕ) → k ≤ out → such k ≡ false) → filter (λ (r : KnownRun). such r.level) taken ≡ []
  taken-none such e = filter-none (λ (r : KnownRun). such r.level) taken (all-weaker (λ (r : KnownRun). r.level ≤ out) (λ (r : KnownRun). such r.level ≡ false) taken (λ r in_taken low. e r.level low) took.low)

  taken-all : (such : ℕ → Bool) → ((k : ℕ) → k ≤ out → such k ≡ true) → filter (λ (r : KnownRun). such r.level) taken ≡ taken
  taken-all such e = filter-all (λ (r : KnownRun). such r.level) taken (all-weaker (λ (r : KnownRun). r.level ≤ out) (λ (r : KnownRun). such r.level ≡ true) taken (λ r in_taken low. e r.level low) took.low)

  positive : 1 ≤ out
  positive = took.positive

  -- ---- all runs

  all-now : Covers m (from_oldest b.runs) (rows.up_to (suc last))
  all-now = subst (λ (runs : List KnownRun). Covers m (from_oldest runs) (rows.up_to (suc last))) (sym is)
      (subst (Covers m (from_oldest (up.later ++ (made ++ up.older)))) (sym (rows.both last (suc last) (omega arith) ∙ ap (λ xs. rows.up_to last ++ xs) none ∙ append-nil (rows.up_to last)))
      (may-replace m top out up.later taken made up.older (rows.up_to last) replaces
      (subst (λ (runs : List KnownRun). Covers m (from_oldest runs) (rows.up_to last)) up.is stand.all)))

  -- what was taken, with what is older, is replaced
  base-now : Covers m (from_oldest (made ++ up.older)) (rows.up_to base)
  base-now = may-replace m top out [] taken made up.older (rows.up_to base) replaces up.covers

  -- ---- above level 0

  above-now : b.zero ≡ max (life last).zero base → Covers m (oldest_such (λ level. nat_lt 0 level) b.runs) (rows.up_to b.zero)
  above-now zero_is = elim up.position as (λ _. Covers m (oldest_such (λ level. nat_lt 0 level) b.runs) (rows.up_to b.zero)) [
    | inl p ↦
        subst (λ (runs : List Run). Covers m runs (rows.up_to b.zero))
        (sym (such-after (λ level. nat_lt 0 level) [] made up.older (later-zero p.1) (made-all (λ level. nat_lt 0 level) (is-below 0 out (omega (arith, (let l = positive in l)))))
        (older-all (λ level. nat_lt 0 level) (λ k high. is-below 0 k (omega (arith, high))))))
        (subst (λ k. Covers m (from_oldest (made ++ up.older)) (rows.up_to k)) (sym (zero_is ∙ max-of (life last).zero base p.0)) base-now)
    | inr p ↦
        subst (λ (runs : List Run). Covers m runs (rows.up_to b.zero))
        (sym (such-after (λ level. nat_lt 0 level) _ made up.older refl (made-all (λ level. nat_lt 0 level) (is-below 0 out (omega (arith, (let l = positive in l)))))
        (older-all (λ level. nat_lt 0 level) (λ k high. is-below 0 k (omega (arith, high))))))
        (subst (λ k. Covers m (from_oldest (filter (λ (r : KnownRun). nat_lt 0 r.level) up.later ++ (made ++ up.older))) (rows.up_to k)) (sym (zero_is ∙ max-over (life last).zero base p.0))
        (may-replace m top out (filter (λ (r : KnownRun). nat_lt 0 r.level) up.later) taken made up.older (rows.up_to (life last).zero) replaces
        (subst (λ (runs : List Run). Covers m runs (rows.up_to (life last).zero))
        (such-before (λ level. nat_lt 0 level) taken (all-zero p.1) ∙ ap (λ xs. from_oldest (filter (λ (r : KnownRun). nat_lt 0 r.level) up.later ++ (taken ++ xs))) (older-all (λ level. nat_lt 0 level) (λ k high. is-below 0 k (omega (arith, high)))))
        stand.above_zero)))
  ]
    where
      later-zero : AllByRecursion (λ (r : KnownRun). r.level ≡ 0) up.later → filter (λ (r : KnownRun). nat_lt 0 r.level) up.later ≡ []
      later-zero all = filter-none (λ (r : KnownRun). nat_lt 0 r.level) up.later (all-weaker (λ (r : KnownRun). r.level ≡ 0) (λ (r : KnownRun). nat_lt 0 r.level ≡ false) up.later (λ r in_later level. not-below 0 r.level (omega (arith, level))) all)

      all-zero : AllByRecursion (λ (t : KnownRun). 0 < t.level) taken → filter (λ (r : KnownRun). nat_lt 0 r.level) taken ≡ taken
      all-zero all = filter-all (λ (r : KnownRun). nat_lt 0 r.level) taken (all-weaker (λ (t : KnownRun). 0 < t.level) (λ (r : KnownRun). nat_lt 0 r.level ≡ true) taken (λ r in_taken level. is-below 0 r.level level) all)

  -- ---- at level 0

  zero-now : b.zero ≡ max (life last).zero base → CoversAll m (oldest_such (λ level. level == 0) b.runs) (rows.since b.zero (suc last))
  zero-now zero_is = elim up.position as (λ _. CoversAll m (oldest_such (λ level. level == 0) b.runs) (rows.since b.zero (suc last))) [
    | inl p ↦
        subst (λ (runs : List Run). CoversAll m runs (rows.since b.zero (suc last)))
        (sym (such-after (λ level. level == 0) up.later [] [] (later-all p.1) made-out older-out ∙ ap from_oldest (append-nil up.later)))
        (subst (λ k. CoversAll m (from_oldest up.later) (rows.since k (suc last))) (sym (zero_is ∙ max-of (life last).zero base p.0))
        (subst (CoversAll m (from_oldest up.later)) (sym (no-more base bound)) up.covers_later))
    | inr p ↦
        subst (λ (runs : List Run). CoversAll m runs (rows.since b.zero (suc last)))
        (sym (such-after (λ level. level == 0) _ [] [] refl made-out older-out))
        (subst (λ k. CoversAll m (from_oldest (filter (λ (r : KnownRun). r.level == 0) up.later ++ [])) (rows.since k (suc last))) (sym (zero_is ∙ max-over (life last).zero base p.0))
        (subst (CoversAll m (from_oldest (filter (λ (r : KnownRun). r.level == 0) up.later ++ []))) (sym (no-more (life last).zero zero-within))
        (subst (λ (runs : List Run). CoversAll m runs (rows.since (life last).zero last))
        (such-before (λ level. level == 0) [] (taken-out p.1) ∙ ap (λ xs. from_oldest (filter (λ (r : KnownRun). r.level == 0) up.later ++ xs)) older-out)
        stand.at_zero)))
  ]
    where
      made-out : filter (λ (r : KnownRun). r.level == 0) made ≡ []
      made-out = made-none (λ level. level == 0) (positive-not out (let l = positive in omega (arith, l)))

      older-out : filter (λ (r : KnownRun). r.level == 0) up.older ≡ []
      older-out = older-none (λ level. level == 0) (λ k high. positive-not k (omega (arith, high)))

      later-all : AllByRecursion (λ (r : KnownRun). r.level ≡ 0) up.later → filter (λ (r : KnownRun). r.level == 0) up.later ≡ up.later
      later-all all = filter-all (λ (r : KnownRun). r.level == 0) up.later (all-weaker (λ (r : KnownRun). r.level ≡ 0) (λ (r : KnownRun). (r.level == 0) ≡ true) up.later (λ r in_later level. is-at r.level 0 level) all)

      taken-out : AllByRecursion (λ (t : KnownRun). 0 < t.level) taken → filter (λ (r : KnownRun). r.level == 0) taken ≡ []
      taken-out all = filter-none (λ (r : KnownRun). r.level == 0) taken (all-weaker (λ (t : KnownRun). 0 < t.level) (λ (r : KnownRun). (r.level == 0) ≡ false) taken (λ r in_taken level. positive-not r.level level) all)

      zero-within : (life last).zero ≤ last
      zero-within = elim (is_life.bases last (omega (arith, from, bound)) (omega arith)) as (λ _. (life last).zero ≤ last) [
        | inl low ↦ omega (arith, low)
        | inr nothing ↦ absurd (omega (arith, nothing, origin, bound))
      ]

  -- ---- at the top

  -- where it goes to the top, nothing is older
  none-older : out ≡ top → up.older ≡ []
  none-older whole = at up.older up.high (all-right (λ (r : KnownRun). r.level ≤ top) taken up.older (all-right (λ (r : KnownRun). r.level ≤ top) up.later (taken ++ up.older)
      (subst (AllByRecursion (λ (r : KnownRun). r.level ≤ top)) up.is (is_life.levels last (omega (arith, from, bound)) (omega arith)))))
    where
      at : (xs : List KnownRun) → AllByRecursion (λ (r : KnownRun). out < r.level) xs → AllByRecursion (λ (r : KnownRun). r.level ≤ top) xs → xs ≡ []
      at [] high low = refl
      at (x ∷ xs) high low = absurd (let one = high.0 in let two = low.0 in omega (arith, one, two, whole))

  -- the later runs are below the top
  later-low : AllByRecursion (λ (r : KnownRun). r.level < top) up.later
  later-low = all-weaker (λ (r : KnownRun). (r.level ≡ 0) ⊎ AllByRecursion (λ (t : KnownRun). r.level < t.level) taken) (λ (r : KnownRun). r.level < top) up.later (λ r in_later is. at r is) up.below
    where
      at : (r : KnownRun) → (r.level ≡ 0) ⊎ AllByRecursion (λ (t : KnownRun). r.level < t.level) taken → r.level < top
      at r (inl zero_level) = let l = positive in omega (arith, zero_level, l, within)
      at r (inr below) =
          let mine = cons-of taken took.some in
          let mine-in : IsIn mine.0 taken = subst (IsIn mine.0) (sym mine.2) (in-first mine.0 mine.1) in
          let less = all-in (λ (t : KnownRun). r.level < t.level) mine.0 taken below mine-in in
          let low = all-in (λ (t : KnownRun). t.level ≤ out) mine.0 taken took.low mine-in in
          omega (arith, less, low, within)

  later-not-top : filter (λ (r : KnownRun). r.level == top) up.later ≡ []
  later-not-top = filter-none (λ (r : KnownRun). r.level == top) up.later (all-weaker (λ (r : KnownRun). r.level < top) (λ (r : KnownRun). (r.level == top) ≡ false) up.later (λ r in_later low. not-at r.level top low) later-low)

  later-all-low : filter (λ (r : KnownRun). nat_lt r.level top) up.later ≡ up.later
  later-all-low = filter-all (λ (r : KnownRun). nat_lt r.level top) up.later (all-weaker (λ (r : KnownRun). r.level < top) (λ (r : KnownRun). nat_lt r.level top ≡ true) up.later (λ r in_later low. is-below r.level top low) later-low)

  abbrev Wholly : Type 0
  Wholly = ((out ≡ top) × (b.top ≡ max (life last).top base)) ⊎ ((out < top) × (b.top ≡ (life last).top))

  top-now : Wholly → Covers m (oldest_such (λ level. level == top) b.runs) (rows.up_to b.top)
  top-now (inl (whole, top_is)) =
      subst (λ (runs : List Run). Covers m runs (rows.up_to b.top))
      (sym (such-after (λ level. level == top) [] made up.older later-not-top (made-all (λ level. level == top) (is-at out top whole)) (ap (filter (λ (r : KnownRun). r.level == top)) (none-older whole) ∙ sym (none-older whole))))
      (subst (λ k. Covers m (from_oldest (made ++ up.older)) (rows.up_to k)) (sym (top_is ∙ max-of (life last).top base up.tops)) base-now)
  top-now (inr (low, top_is)) =
      subst (λ (runs : List Run). Covers m runs (rows.up_to b.top))
      (sym (such-after (λ level. level == top) _ [] _ refl (made-none (λ level. level == top) (not-at out top low)) refl))
      (subst (λ k. Covers m (from_oldest (filter (λ (r : KnownRun). r.level == top) up.later ++ ([] ++ filter (λ (r : KnownRun). r.level == top) up.older))) (rows.up_to k)) (sym top_is)
      (subst (λ (runs : List Run). Covers m runs (rows.up_to (life last).top)) (such-before (λ level. level == top) [] (taken-none (λ level. level == top) (λ k less. not-at k top (omega (arith, less, low))))) stand.at_top))

  -- ---- below it

  low-now : Wholly → CoversAll m (oldest_such (λ level. nat_lt level top) b.runs) (rows.since b.top (suc last))
  low-now (inl (whole, top_is)) =
      subst (λ (runs : List Run). CoversAll m runs (rows.since b.top (suc last)))
      (sym (such-after (λ level. nat_lt level top) up.later [] [] later-all-low (made-none (λ level. nat_lt level top) (not-below out top (omega (arith, whole)))) (ap (filter (λ (r : KnownRun). nat_lt r.level top)) (none-older whole))
      ∙ ap from_oldest (append-nil up.later)))
      (subst (λ k. CoversAll m (from_oldest up.later) (rows.since k (suc last))) (sym (top_is ∙ max-of (life last).top base up.tops))
      (subst (CoversAll m (from_oldest up.later)) (sym (no-more base bound)) up.covers_later))
  low-now (inr (low, top_is)) =
      subst (λ (runs : List Run). CoversAll m runs (rows.since b.top (suc last)))
      (sym (such-after (λ level. nat_lt level top) up.later made _ later-all-low (made-all (λ level. nat_lt level top) (is-below out top low)) refl))
      (subst (λ k. CoversAll m (from_oldest (up.later ++ (made ++ filter (λ (r : KnownRun). nat_lt r.level top) up.older))) (rows.since k (suc last))) (sym top_is)
      (subst (CoversAll m (from_oldest (up.later ++ (made ++ filter (λ (r : KnownRun). nat_lt r.level top) up.older)))) (sym (no-more (life last).top (let less = up.tops in omega (arith, less, bound))))
      (replaced-all m up.later taken made (filter (λ (r : KnownRun). nat_lt r.level top) up.older) (rows.since (life last).top last) (not-whole low)
      (subst (λ (runs : List Run). CoversAll m runs (rows.since (life last).top last))
      (such-before (λ level. nat_lt level top) taken (taken-all (λ level. nat_lt level top) (λ k less. is-below k top (omega (arith, less, low)))) ∙ ap (λ xs. from_oldest (xs ++ (taken ++ filter (λ (r : KnownRun). nat_lt r.level top) up.older))) later-all-low)
      stand.below_top))))
    where
      not-whole : out < top → TakePlace m (from_oldest taken) (from_oldest made)
      not-whole low = elim replaces as (λ _. TakePlace m (from_oldest taken) (from_oldest made)) [
        | inl r ↦ r
        | inr r ↦ (let whole = r.0 in absurd (omega (arith, whole, low)))
      ]

  pub stand-now : b.zero ≡ max (life last).zero base → Wholly → Stand m top rows (suc last) b
  stand-now zero_is wholly = record {
    all = all-now;
    above_zero = above-now zero_is;
    at_zero = zero-now zero_is;
    at_top = top-now wholly;
    below_top = low-now wholly;
  }

-- ---- an entry that is no compaction of the group

module _ (m : Meaning) (top : ℕ) (rows : Rows) (n : ℕ) (a : State) (stand : Stand m top rows n a) (zero_low : a.zero ≤ n) (top_low : a.top ≤ n) where
  pub stand-stays : rows.since n (suc n) ≡ [] → Stand m top rows (suc n) a
  stand-stays none = record {
    all = subst (Covers m (from_oldest a.runs)) (sym (rows.both n (suc n) (omega arith) ∙ ap (λ xs. rows.up_to n ++ xs) none ∙ append-nil (rows.up_to n))) stand.all;
    above_zero = stand.above_zero;
    at_zero = subst (CoversAll m (oldest_such (λ level. level == 0) a.runs)) (since-same a.zero zero_low) stand.at_zero;
    at_top = stand.at_top;
    below_top = subst (CoversAll m (oldest_such (λ level. nat_lt level top) a.runs)) (since-same a.top top_low) stand.below_top;
  }
    where
      since-same : (k : ℕ) → k ≤ n → rows.since k n ≡ rows.since k (suc n)
      since-same k low = sym (rows.joined k n (suc n) low (omega arith) ∙ ap (λ xs. rows.since k n ++ xs) none ∙ append-nil (rows.since k n))

  module _ (some : AddedSome) (added : AddedAll) (run : KnownRun) (level : run.level ≡ 0) (high : 1 ≤ top)
      (covers : CoversAll m (run.rows ∷ []) (rows.since n (suc n))) where
    abbrev such_runs : (ℕ → Bool) → List KnownRun
    such_runs such = filter (λ (r : KnownRun). such r.level) a.runs

    such-more : (such : ℕ → Bool) → such 0 ≡ true → oldest_such such (run ∷ a.runs) ≡ oldest_such such a.runs ++ run.rows ∷ []
    such-more such is =
        ap (λ (t : Bool). from_oldest (cond t (run ∷ such_runs such) (such_runs such))) (ap such level ∙ is) ∙ oldest-two (run ∷ []) (such_runs such)

    such-same : (such : ℕ → Bool) → such 0 ≡ false → oldest_such such (run ∷ a.runs) ≡ oldest_such such a.runs
    such-same such is = ap (λ (t : Bool). from_oldest (cond t (run ∷ such_runs such) (such_runs such))) (ap such level ∙ is)

    more-all : (such : ℕ → Bool) (k : ℕ) → such 0 ≡ true → k ≤ n → CoversAll m (oldest_such such a.runs) (rows.since k n)
        → CoversAll m (oldest_such such (run ∷ a.runs)) (rows.since k (suc n))
    more-all such k is low old =
        subst (λ (rs : List Run). CoversAll m rs (rows.since k (suc n))) (sym (such-more such is))
        (subst (CoversAll m (oldest_such such a.runs ++ run.rows ∷ [])) (sym (rows.joined k n (suc n) low (omega arith)))
        (added m (oldest_such such a.runs) run.rows (rows.since k n) (rows.since n (suc n)) old covers))

    pub stand-grown : Stand m top rows (suc n) (record { runs = run ∷ a.runs; zero = a.zero; top = a.top })
    stand-grown = record {
      all = subst (λ (rs : List Run). Covers m rs (rows.up_to (suc n))) (sym (oldest-two (run ∷ []) a.runs))
          (subst (Covers m (from_oldest a.runs ++ run.rows ∷ [])) (sym (rows.both n (suc n) (omega arith)))
          (some m (from_oldest a.runs) run.rows (rows.up_to n) (rows.since n (suc n)) stand.all covers));
      above_zero = subst (λ (rs : List Run). Covers m rs (rows.up_to a.zero)) (sym (such-same (λ level. nat_lt 0 level) refl)) stand.above_zero;
      at_zero = more-all (λ level. level == 0) a.zero refl zero_low stand.at_zero;
      at_top = subst (λ (rs : List Run). Covers m rs (rows.up_to a.top)) (sym (such-same (λ level. level == top) (not-at 0 top (omega (arith, high))))) stand.at_top;
      below_top = more-all (λ level. nat_lt level top) a.top (is-below 0 top (omega (arith, high))) top_low stand.below_top;
    }
