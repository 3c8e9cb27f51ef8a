-- A run that is made of runs covers what they cover.
use Rattle.std.proofs.Common.{◌≡◌, ◌≢◌, ◌↔◌, ℕ, List, [], ◌∷◌, ◌++◌, max, Bool, true, false, not, cond, refl, sym, ap, subst, ◌∙◌, arith, append_assoc, append-nil, inl, inr}
use Rattle.std.specs.List.{AllByRecursion, AllZip, flat_map, filter}
use Rattle.std.specs.Ordering.{eq_by_cmp}
use Rattle.std.specs.declared.cmp.Ordering.TheVariants.{Less}
use Rattle.std.proofs.lemmas.Grind.{flat_map-append}
use Rattle.pm_values.specs.Order.{Values, key_cmp}
use Rattle.pm_values.specs.declared.record.Stamped.{Stamped}
use Rattle.pm_model_history.specs.Merge.{HistoryRow, rows_of}
use Rattle.pm_engine.specs.Covers.{Covers, CoversAll, CoversKey, Holds, IsRising, MayBeMissing, Run, of_key, row_of}
use Rattle.pm_engine.specs.Meaning.{AreTaken, DropsNoEffect, HasNoEffect, Meaning, SameWorth, SpeaksFor}
use Rattle.pm_engine.specs.Reducing.{HasGreatestNumbers, HasKindOf, greatest_number}
use Rattle.pm_engine.proofs.Facts.{SameWorth-same, SameWorth-trans, AreTaken-append, shows_for, some_after}
use Rattle.pm_engine.proofs.Rising.{apart_back, ties_itself}
use Rattle.pm_merge.specs.Merge.{CoversTheSame, HasOwnKinds, HaveOwnKinds, IsMerge, Replaces, ReplacesOldest, all_rows, without_droppable}
use Rattle.pm_merge.proofs.RisingLemmas.{of_key-first, of_key-other, rising-cons, rising-nil, rising-parts}

-- ---- a run that is made of runs, key by key

-- what a run has of a key has the greatest number of the rows of the key, of which there are some
abbrev pub HasNumber : Run → Run → Type 0
HasNumber [] rows = rows ≡ []
HasNumber (s ∷ []) rows = (rows ≢ []) × (s.seq ≡ greatest_number rows)
HasNumber own rows = ⊥

-- what a run has of a key has the kind of the rows of the key, of which there are some
abbrev pub HasKind : Meaning → Run → Run → Type 0
HasKind m [] rows = rows ≡ []
HasKind m (s ∷ []) rows = HasKindOf m s rows
HasKind m own rows = ⊥

-- each run has one stored row for its part of the key's rows
abbrev pub HaveParts : Meaning → Values → List Run → List (List HistoryRow) → Type 0
HaveParts m key runs parts = AllZip (λ (run : Run) (part : List HistoryRow). Holds m key (of_key key run) part) runs parts

abbrev pub joined : List (List HistoryRow) → List HistoryRow
joined parts = flat_map (λ part. part) parts

-- these rows are what a run has of a key that is made of the runs
pub record JoinsAt (m : Meaning) (runs : List Run) (key : Values) (own : Run) : Type 0 where
  pub number : HasNumber own (of_key key (all_rows runs))
  pub kind : HaveOwnKinds m (of_key key (all_rows runs)) → HasKind m own (of_key key (all_rows runs))
  pub kept : (s : Stamped) → of_key key (all_rows runs) ≡ s ∷ [] → own ≡ s ∷ []
  pub holds : (parts : List (List HistoryRow)) → HaveParts m key runs parts → Holds m key own (joined parts)

-- the run is made of the runs
pub record Joins (m : Meaning) (runs : List Run) (run : Run) : Type 0 where
  pub rising : IsRising run
  pub at : (key : Values) → JoinsAt m runs key (of_key key run)

-- a rising run has each key once
own-number : (key : Values) (run : Run) → IsRising run → HasNumber (of_key key run) (of_key key run)
own-number key [] rising = refl
own-number key (s ∷ run) rising =
    let parts = rising-parts s run rising in
    elim (eq_by_cmp key_cmp key s.key) as (λ t. eq_by_cmp key_cmp key s.key ≡ t → HasNumber (of_key key (s ∷ run)) (of_key key (s ∷ run))) [
      | true ↦ λ e. subst (λ own. HasNumber own own) (sym (of_key-first key s run e parts.0)) ((λ none. cc), only s.seq)
      | false ↦ λ e. subst (λ own. HasNumber own own) (sym (of_key-other key s run e)) (own-number key run parts.1)
    ] refl
  where
    only : (n : ℕ) → n ≡ max n 0
    only n = omega arith

-- the stored row of a run has its own kind
own-kind : (m : Meaning) (key : Values) (run : Run) → IsRising run → HaveOwnKinds m (of_key key run) → HasKind m (of_key key run) (of_key key run)
own-kind m key [] rising own = refl
own-kind m key (s ∷ run) rising own =
    let parts = rising-parts s run rising in
    elim (eq_by_cmp key_cmp key s.key) as (λ t. eq_by_cmp key_cmp key s.key ≡ t → HasKind m (of_key key (s ∷ run)) (of_key key (s ∷ run))) [
      | true ↦ λ e.
          let is : of_key key (s ∷ run) ≡ s ∷ [] = of_key-first key s run e parts.0 in
          let kinds : HaveOwnKinds m (s ∷ []) = subst (HaveOwnKinds m) is own in
          subst (λ rows. HasKind m rows rows) (sym is) (alone_kind kinds.0)
      | false ↦ λ e.
          let is : of_key key (s ∷ run) ≡ of_key key run = of_key-other key s run e in
          subst (λ rows. HasKind m rows rows) (sym is) (own-kind m key run parts.1 (subst (HaveOwnKinds m) is own))
    ] refl
  where
    alone_kind : s.kind ≡ m.kind (row_of s ∷ []) → HasKindOf m s (s ∷ [])
    alone_kind is = record { some = λ none. cc; kind = is }

pub joins-one : (m : Meaning) (run : Run) → IsRising run → Joins m (run ∷ []) run
joins-one m run rising = record {
  rising = rising;
  at = λ key.
      let rows : of_key key (run ++ []) ≡ of_key key run = ap (of_key key) (append-nil run) in
      record {
        number = subst (HasNumber (of_key key run)) (sym rows) (own-number key run rising);
        kind = λ own. subst (HasKind m (of_key key run)) (sym rows) (own-kind m key run rising (subst (HaveOwnKinds m) rows own));
        kept = λ s e. sym rows ∙ e;
        holds = λ parts holds. one key parts holds;
      };
}
  where
    one : (key : Values) (parts : List (List HistoryRow)) → HaveParts m key (run ∷ []) parts → Holds m key (of_key key run) (joined parts)
    one key [] holds = absurd holds
    one key (p ∷ []) holds = subst (Holds m key (of_key key run)) (sym (append-nil p)) holds.0
    one key (p ∷ q ∷ ps) holds = absurd holds.1

pub AllZip-parts : {A B : Type 0} (R : A → B → Type 0) (xs us : List A) (zs : List B) → AllZip R (xs ++ us) zs → (ys : List B) × (vs : List B) × (zs ≡ ys ++ vs) × AllZip R xs ys × AllZip R us vs
AllZip-parts R [] us zs all = ([], zs, refl, tt, all)
AllZip-parts R (x ∷ xs) us [] all = absurd all
AllZip-parts R (x ∷ xs) us (z ∷ zs) all =
    let rest = AllZip-parts R xs us zs all.1 in
    (z ∷ rest.0, rest.1, ap (λ ws. z ∷ ws) rest.2, (all.0, rest.3), rest.4)

-- ---- what that says of them

pub both_of : {A : Type 0} (P Q R : A → Type 0) → ((x : A) → P x → Q x → R x) → (xs : List A) → AllByRecursion P xs → AllByRecursion Q xs → AllByRecursion R xs
both_of P Q R f [] p q = tt
both_of P Q R f (x ∷ xs) p q = (f x p.0 q.0, both_of P Q R f xs p.1 q.1)

pub each_of : {A : Type 0} (P Q : A → Type 0) → ((x : A) → P x → Q x) → (xs : List A) → AllByRecursion P xs → AllByRecursion Q xs
each_of P Q f [] p = tt
each_of P Q f (x ∷ xs) p = (f x p.0, each_of P Q f xs p.1)

-- each row of a rising run is the only one of its key
pub alone : (run : Run) → IsRising run → AllByRecursion (λ (s : Stamped). of_key s.key run ≡ s ∷ []) run
alone [] rising = tt
alone (x ∷ xs) rising =
    let parts = rising-parts x xs rising in (
      of_key-first x.key x xs (ties_itself x.key) parts.0,
      both_of (λ (s : Stamped). key_cmp x.key s.key ≡ Less) (λ (s : Stamped). of_key s.key xs ≡ s ∷ []) (λ (s : Stamped). of_key s.key (x ∷ xs) ≡ s ∷ [])
          (λ s less is. of_key-other s.key x xs (apart_back x.key s.key less) ∙ is) xs parts.0 (alone xs parts.1),
    )

greatest_numbers : (run rows : Run) → IsRising run → ((key : Values) → HasNumber (of_key key run) (of_key key rows)) → HasGreatestNumbers run rows
greatest_numbers run rows rising numbers =
    each_of (λ (s : Stamped). of_key s.key run ≡ s ∷ []) (λ (s : Stamped). s.seq ≡ greatest_number (of_key s.key rows))
    (λ s is. let number : HasNumber (s ∷ []) (of_key s.key rows) = subst (λ own. HasNumber own (of_key s.key rows)) is (numbers s.key) in number.1) run (alone run rising)

has_kinds : (m : Meaning) (run rows : Run) → IsRising run → ((key : Values) → HaveOwnKinds m (of_key key rows) → HasKind m (of_key key run) (of_key key rows))
    → AllByRecursion (λ (s : Stamped). HasOwnKinds m s (of_key s.key rows)) run
has_kinds m run rows rising kinds =
    each_of (λ (s : Stamped). of_key s.key run ≡ s ∷ []) (λ (s : Stamped). HasOwnKinds m s (of_key s.key rows))
    (λ s is own. let kind : HasKind m (s ∷ []) (of_key s.key rows) = subst (λ o. HasKind m o (of_key s.key rows)) is (kinds s.key own) in kind) run (alone run rising)

same_keys : (own rows : Run) → HasNumber own rows → (own ≡ []) ↔ (rows ≡ [])
same_keys [] rows number = ((λ e. number), (λ e. refl))
same_keys (s ∷ []) rows number = ((λ e. cc), (λ e. absurd (number.0 e)))
same_keys (s ∷ t ∷ more) rows number = absurd number

covers_same : (m : Meaning) (runs : List Run) (run : Run) → Joins m runs run → CoversTheSame m runs run
covers_same m runs run joins = λ key missing rows covers. record {
  parts = joined covers.parts ∷ [];
  split = covers.split ∙ ap (λ xs. missing ++ xs) (sym (append-nil (joined covers.parts)));
  holds = ((joins.at key).holds covers.parts covers.holds, tt);
}

pub is_merge : (m : Meaning) (runs : List Run) (run : Run) → Joins m runs run → IsMerge m runs run
is_merge m runs run joins = record {
  rising = joins.rising;
  keys = λ key. same_keys (of_key key run) (of_key key (all_rows runs)) (joins.at key).number;
  numbers = greatest_numbers run (all_rows runs) joins.rising (λ key. (joins.at key).number);
  kinds = has_kinds m run (all_rows runs) joins.rising (λ key. (joins.at key).kind);
  kept = λ key. (joins.at key).kept;
  covers = covers_same m runs run joins;
}

-- where the runs cover rows, the run does
pub merge-covers : (m : Meaning) (runs : List Run) (run : Run) (rows : List HistoryRow) → IsMerge m runs run → Covers m runs rows → Covers m (run ∷ []) rows
merge-covers m runs run rows is covers = λ key.
    let at = covers key in
    (at.0, at.1, is.covers key at.0 (rows_of m.primary key rows) at.2)

pub merge-covers_all : (m : Meaning) (runs : List Run) (run : Run) (rows : List HistoryRow) → IsMerge m runs run → CoversAll m runs rows → CoversAll m (run ∷ []) rows
merge-covers_all m runs run rows is covers = λ key. is.covers key [] (rows_of m.primary key rows) (covers key)

-- ---- in the place of the runs

parts-append : (m : Meaning) (key : Values) (xs : List Run) (ys : List (List HistoryRow)) (us : List Run) (vs : List (List HistoryRow)) → HaveParts m key xs ys → HaveParts m key us vs
    → HaveParts m key (xs ++ us) (ys ++ vs)
parts-append m key [] [] us vs one two = two
parts-append m key [] (y ∷ ys) us vs one two = absurd one
parts-append m key (x ∷ xs) [] us vs one two = absurd one
parts-append m key (x ∷ xs) (y ∷ ys) us vs one two = (one.0, parts-append m key xs ys us vs one.1 two)

pub joined-append : (xs ys : List (List HistoryRow)) → joined (xs ++ ys) ≡ joined xs ++ joined ys
joined-append xs ys = flat_map-append (λ part. part) xs ys

joined-place : (all before rest middle after new : List (List HistoryRow)) → all ≡ before ++ rest → rest ≡ middle ++ after → joined middle ≡ joined new → joined all ≡ joined (before ++ (new ++ after))
joined-place all before rest middle after new one two same =
    ap joined one ∙ joined-append before rest
    ∙ ap (λ xs. joined before ++ xs) (ap joined two ∙ joined-append middle after ∙ ap (λ xs. xs ++ joined after) same ∙ sym (joined-append new after))
    ∙ sym (joined-append before (new ++ after))

place-key : (m : Meaning) (key : Values) (older runs newer : List Run) (run : Run) (missing rows : List HistoryRow) → CoversTheSame m runs run → CoversKey m key (older ++ (runs ++ newer)) missing rows
    → CoversKey m key (older ++ run ∷ newer) missing rows
place-key m key older runs newer run missing rows same covers =
    let one = AllZip-parts (λ (run : Run) (part : List HistoryRow). Holds m key (of_key key run) part) older (runs ++ newer) covers.parts covers.holds in
    let two = AllZip-parts (λ (run : Run) (part : List HistoryRow). Holds m key (of_key key run) part) runs newer one.1 one.4 in
    let at : CoversKey m key (run ∷ []) [] (joined two.0) = same key [] (joined two.0) (record { parts = two.0; split = refl; holds = two.3 }) in
    record {
      parts = one.0 ++ (at.parts ++ two.1);
      split = covers.split ∙ ap (λ xs. missing ++ xs) (joined-place covers.parts one.0 one.1 two.0 two.1 at.parts one.2 two.2 at.split);
      holds = parts-append m key older one.0 (run ∷ newer) (at.parts ++ two.1) one.3 (parts-append m key (run ∷ []) at.parts newer two.1 at.holds two.4);
    }

pub merge-replaces : (m : Meaning) (runs : List Run) (run : Run) → IsMerge m runs run → Replaces m runs run
merge-replaces m runs run is = record {
  some = λ older newer rows covers key.
      let at = covers key in
      (at.0, at.1, place-key m key older runs newer run at.0 (rows_of m.primary key rows) is.covers at.2);
  all = λ older newer rows covers key. place-key m key older runs newer run [] (rows_of m.primary key rows) is.covers (covers key);
}

-- ---- without the droppable rows

-- what one run has of a key is for all rows of the key
pub whole_part : (m : Meaning) (key : Values) (run : Run) (rows : List HistoryRow) → CoversKey m key (run ∷ []) [] rows → Holds m key (of_key key run) rows
whole_part m key run rows covers = by_parts covers.parts covers.split covers.holds
  where
    by_parts : (parts : List (List HistoryRow)) → rows ≡ flat_map (λ (part : List HistoryRow). part) parts → AllZip (λ (run : Run) (part : List HistoryRow). Holds m key (of_key key run) part) (run ∷ []) parts
        → Holds m key (of_key key run) rows
    by_parts [] split holds = absurd holds
    by_parts (p ∷ []) split holds = subst (Holds m key (of_key key run)) (sym (split ∙ append-nil p)) holds.0
    by_parts (p ∷ q ∷ ps) split holds = absurd holds.1

pub all-filter : {A : Type 0} (P : A → Type 0) (p : A → Bool) (xs : List A) → AllByRecursion P xs → AllByRecursion P (filter p xs)
all-filter P p [] all = tt
all-filter P p (x ∷ xs) all =
    elim (p x) as (λ b. AllByRecursion P (cond b (x ∷ filter p xs) (filter p xs))) [
      | true ↦ (all.0, all-filter P p xs all.1)
      | false ↦ all-filter P p xs all.1
    ]

rising-filter : (p : Stamped → Bool) (run : Run) → IsRising run → IsRising (filter p run)
rising-filter p [] rising = rising-nil
rising-filter p (s ∷ run) rising =
    let parts = rising-parts s run rising in
    elim (p s) as (λ b. IsRising (cond b (s ∷ filter p run) (filter p run))) [
      | true ↦ rising-cons s (filter p run) (all-filter (λ (t : Stamped). key_cmp s.key t.key ≡ Less) p run parts.0) (rising-filter p run parts.1)
      | false ↦ rising-filter p run parts.1
    ]

filter-swap : {A : Type 0} (p q : A → Bool) (xs : List A) → filter p (filter q xs) ≡ filter q (filter p xs)
filter-swap p q [] = refl
filter-swap p q (x ∷ xs) =
    elim (p x) as (λ b. p x ≡ b → filter p (cond (q x) (x ∷ filter q xs) (filter q xs)) ≡ filter q (cond b (x ∷ filter p xs) (filter p xs))) [
      | true ↦ λ e. elim (q x) as (λ c. filter p (cond c (x ∷ filter q xs) (filter q xs)) ≡ cond c (x ∷ filter q (filter p xs)) (filter q (filter p xs))) [
        | true ↦ ap (λ b. cond b (x ∷ filter p (filter q xs)) (filter p (filter q xs))) e ∙ ap (λ ys. x ∷ ys) (filter-swap p q xs)
        | false ↦ filter-swap p q xs
      ]
      | false ↦ λ e. elim (q x) as (λ c. filter p (cond c (x ∷ filter q xs) (filter q xs)) ≡ filter q (filter p xs)) [
        | true ↦ ap (λ b. cond b (x ∷ filter p (filter q xs)) (filter p (filter q xs))) e ∙ filter-swap p q xs
        | false ↦ filter-swap p q xs
      ]
    ] refl

pub kept-rising : (m : Meaning) (run : Run) → IsRising run → IsRising (without_droppable m run)
kept-rising m run rising = rising-filter (λ (s : Stamped). not (m.drops (row_of s))) run rising

pub kept-numbers : (m : Meaning) (run rows : Run) → HasGreatestNumbers run rows → HasGreatestNumbers (without_droppable m run) rows
kept-numbers m run rows numbers = all-filter (λ (s : Stamped). s.seq ≡ greatest_number (of_key s.key rows)) (λ (s : Stamped). not (m.drops (row_of s))) run numbers

-- rows that may be missing, and rows for which a stored row speaks that has no effect, have none together
no_effect : (m : Meaning) (key : Values) (missing part : List HistoryRow) (stored : HistoryRow) → MayBeMissing m key missing → SpeaksFor m key stored part → HasNoEffect m key (stored ∷ [])
    → HasNoEffect m key (missing ++ part)
no_effect m key missing part stored may speaks none = record {
  hidden = (before part speaks.some speaks.all_taken may).shows ∙ shows_for m key stored part speaks ∙ none.hidden;
  worth = λ after some taken.
      SameWorth-trans m _ _ _ (SameWorth-same m _ _ (append_assoc missing part after))
      (SameWorth-trans m _ _ _ (before (part ++ after) (some_after part after some) (AreTaken-append m key part after speaks.all_taken taken) may)
      (SameWorth-trans m _ _ _ (speaks.worth [] after tt taken) (none.worth after some taken)));
}
  where
    before : (rest : List HistoryRow) → rest ≢ [] → AreTaken m key rest → MayBeMissing m key missing → SameWorth m (missing ++ rest) rest
    before rest some taken (inl e) = SameWorth-same m _ _ (ap (λ xs. xs ++ rest) e)
    before rest some taken (inr effect) = effect.worth rest some taken

-- of a key the run without them covers what the run does, but more may be missing
kept-key : (m : Meaning) (key : Values) (own : Run) (missing part : List HistoryRow) → MayBeMissing m key missing → Holds m key own part → DropsNoEffect m
    → (more : List HistoryRow) × (rest : List HistoryRow) × (missing ++ part ≡ more ++ rest) × MayBeMissing m key more × Holds m key (without_droppable m own) rest
kept-key m key [] missing part may holds drops = (missing, part, refl, may, holds)
kept-key m key (s ∷ []) missing part may holds drops =
    elim (m.drops (row_of s)) as (λ b. m.drops (row_of s) ≡ b → (more : List HistoryRow) × (rest : List HistoryRow) × (missing ++ part ≡ more ++ rest) × MayBeMissing m key more × Holds m key (cond (not b) (s ∷ []) []) rest) [
      | true ↦ λ e. (missing ++ part, [], sym (append-nil (missing ++ part)), inr (no_effect m key missing part (row_of s) may holds (drops key (row_of s) holds.taken e)), refl)
      | false ↦ λ e. (missing, part, refl, may, holds)
    ] refl
kept-key m key (s ∷ t ∷ more) missing part may holds drops = absurd holds

pub kept-replaces : (m : Meaning) (runs : List Run) (run : Run) → DropsNoEffect m → IsMerge m runs run → ReplacesOldest m runs (without_droppable m run)
kept-replaces m runs run drops is newer rows covers key =
    let at = covers key in
    let two = AllZip-parts (λ (run : Run) (part : List HistoryRow). Holds m key (of_key key run) part) runs newer at.2.parts at.2.holds in
    let part : List HistoryRow = joined two.0 in
    let own : Run = of_key key run in
    let holds = whole_part m key run part (is.covers key [] part (record { parts = two.0; split = refl; holds = two.3 })) in
    let kept = kept-key m key own at.0 part at.1 holds drops in
    let same : of_key key (without_droppable m run) ≡ without_droppable m own = filter-swap (λ (s : Stamped). eq_by_cmp key_cmp key s.key) (λ (s : Stamped). not (m.drops (row_of s))) run in (
      kept.0,
      kept.3,
      record {
        parts = kept.1 ∷ two.1;
        split = at.2.split ∙ ap (λ xs. at.0 ++ xs) (ap joined two.2 ∙ joined-append two.0 two.1) ∙ sym (append_assoc at.0 part (joined two.1)) ∙ ap (λ xs. xs ++ joined two.1) kept.2
            ∙ append_assoc kept.0 kept.1 (joined two.1);
        holds = (subst (λ o. Holds m key o kept.1) (sym same) kept.4, two.4);
      },
    )

-- the same with no newer run
pub oldest-covers : (m : Meaning) (runs : List Run) (run : Run) (rows : List HistoryRow) → ReplacesOldest m runs run → Covers m runs rows → Covers m (run ∷ []) rows
oldest-covers m runs run rows replaces covers = replaces [] rows (subst (λ rs. Covers m rs rows) (sym (append-nil runs)) covers)
