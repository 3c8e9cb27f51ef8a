-- One row more of a sorted list in a run, and all of them.
use Rattle.std.proofs.Common.{◌≡◌, ◌≢◌, ◌↔◌, ℕ, zero, ◌<◌, List, [], ◌∷◌, ◌++◌, map, length, get_or, max, All, Bool, true, false, cond, Option, Some, None, IfSome, refl, sym, ap, subst, ◌∙◌, arith, append_assoc, append-nil}
use Rattle.std.specs.List.{AllByRecursion, FoldsTo, last_or}
use Rattle.std.specs.List.Sorted.{IsSortedByKey, IsStableByKey, IsStrictlySortedBy}
use Rattle.std.specs.Option.{option_map}
use Rattle.std.specs.Ordering.{eq_by_cmp, is_lt}
use Rattle.std.specs.declared.cmp.Ordering.TheVariants.{Less}
use Rattle.std.proofs.lemmas.List.{map-append}
use Rattle.std.proofs.lemmas.List.Elements.{All-tail}
use Rattle.std.proofs.Math.Seq.{get_or-append_seam}
use Rattle.pm_base.proofs.Laws.{AllByRecursion-append, AllByRecursion-parts, last_or-push}
use Rattle.pm_values.specs.Order.{Values, key_cmp}
use Rattle.pm_values.specs.declared.record.Stamped.{Stamped}
use Rattle.pm_model_history.specs.Merge.{HistoryRow, rows_of}
use Rattle.pm_engine.specs.Covers.{CoversAll, Holds, IsKeyed, IsRising, Run, of_key, row_of}
use Rattle.pm_engine.specs.Meaning.{Meaning}
use Rattle.pm_engine.specs.Reducing.{EndsApart, HasGreatestNumbers, HasKindOf, HasKinds, IsCombined, IsLifted, Puts, begins, joins, greatest_number}
use Rattle.pm_engine.proofs.Rising.{AllBelow, all-below, apart, below_from, ends-below, greatest-push, of_key-below, of_key-no, of_key-push, of_key-sorted, of_key-yes, rising-front, rising-push, tied, ties_itself}

-- ---- lists

no_front : {A : Type 0} (xs ys : List A) → xs ++ ys ≡ [] → xs ≡ []
no_front [] ys e = refl
no_front (x ∷ xs) ys e = cc

none_pushed : {A : Type 0} (xs : List A) (x : A) → xs ++ x ∷ [] ≢ []
none_pushed [] x = λ e. cc
none_pushed (y ∷ ys) x = λ e. cc

both_of : {A : Type 0} (P Q R : A → Type 0) → ((x : A) → P x → Q x → R x) → (xs : List A) → AllByRecursion P xs → AllByRecursion Q xs → AllByRecursion R xs
both_of P Q R f [] p q = tt
both_of P Q R f (x ∷ xs) p q = (f x p.0 q.0, both_of P Q R f xs p.1 q.1)

pub by_recursion : {A : Type 0} (P : A → Type 0) (xs : List A) → All P xs → AllByRecursion P xs
by_recursion P [] all = tt
by_recursion P (x ∷ xs) all = (all zero x (omega arith), by_recursion P xs (All-tail P x xs all))

pub All-here : {A : Type 0} (P : A → Type 0) (xs : List A) (x : A) (ys zs : List A) → xs ++ x ∷ ys ≡ zs → All P zs → P x
All-here P xs x ys zs e all =
    let here : P (get_or (xs ++ x ∷ ys) (length xs) x) = subst (All P) (sym e) all (length xs) x (inside xs ys) in
    subst P (get_or-append_seam xs x ys x) here
  where
    inside : (us vs : List _) → length us < length (us ++ x ∷ vs)
    inside [] vs = omega arith
    inside (u ∷ us) vs = let more = inside us vs in omega arith

-- ---- what a run has so far

pub record Gathers (m : Meaning) (run rows : Run) : Type 0 where
  pub rising : IsRising run
  pub ends : option_map (λ (s : Stamped). s.key) (last_or None run) ≡ option_map (λ (s : Stamped). s.key) (last_or None rows)
  pub known : (key : Values) → of_key key run ≡ [] → of_key key rows ≡ []
  pub numbers : HasGreatestNumbers run rows
  pub kinds : HasKinds m run rows
  pub holds : AllByRecursion (IsKeyed m) rows → (key : Values) → Holds m key (of_key key run) (map row_of (of_key key rows))

same_holds : (m : Meaning) (key : Values) (own own' : Run) (part part' : List HistoryRow) → own ≡ own' → part ≡ part' → Holds m key own part → Holds m key own' part'
same_holds m key own own' part part' e f h = subst (λ p. Holds m key own' p) f (subst (λ o. Holds m key o part) e h)

-- no row has a key that isn't in the run
still_none : (key : Values) (run rows : Run) (stored row : Stamped) → stored.key ≡ row.key → of_key key (run ++ stored ∷ []) ≡ [] → of_key key rows ≡ [] → of_key key (rows ++ row ∷ []) ≡ []
still_none key run rows stored row same none before =
    elim (eq_by_cmp key_cmp key row.key) as (λ b. eq_by_cmp key_cmp key row.key ≡ b → of_key key (rows ++ row ∷ []) ≡ []) [
      | true ↦ λ e. absurd (none_pushed (of_key key run) stored (sym (of_key-yes key run stored (ap (eq_by_cmp key_cmp key) same ∙ e)) ∙ none))
      | false ↦ λ e. of_key-no key rows row e ∙ before
    ] refl

-- a row of another key leaves the numbers as they are
kept_numbers : (run rows : Run) (row : Stamped) → AllBelow row.key run → HasGreatestNumbers run rows → HasGreatestNumbers run (rows ++ row ∷ [])
kept_numbers run rows row below numbers =
    both_of (λ (s : Stamped). key_cmp s.key row.key ≡ Less) (λ (s : Stamped). s.seq ≡ greatest_number (of_key s.key rows)) (λ (s : Stamped). s.seq ≡ greatest_number (of_key s.key (rows ++ row ∷ [])))
    (λ s less number. number ∙ ap greatest_number (sym (of_key-no s.key rows row (apart s.key row.key less)))) run below numbers

-- and the kinds
kept_kinds : (m : Meaning) (run rows : Run) (row : Stamped) → AllBelow row.key run → HasKinds m run rows → HasKinds m run (rows ++ row ∷ [])
kept_kinds m run rows row below kinds =
    both_of (λ (s : Stamped). key_cmp s.key row.key ≡ Less) (λ (s : Stamped). HasKindOf m s (of_key s.key rows)) (λ (s : Stamped). HasKindOf m s (of_key s.key (rows ++ row ∷ [])))
    (λ s less kind. subst (HasKindOf m s) (sym (of_key-no s.key rows row (apart s.key row.key less))) kind) run below kinds

-- ---- the first row of a key

begins-below : (m : Meaning) (old rows : Run) (row : Stamped) → Gathers m old rows → EndsApart old row.key
    → IfSome (last_or None rows) (λ (s : Stamped). is_lt (key_cmp row.key s.key) ≡ false) → AllBelow row.key old
begins-below m old rows row so_far ends_apart ends_below =
    all-below row.key old so_far.rising
    (less (last_or None old) (last_or None rows) so_far.ends ends_apart ends_below)
  where
    less : (o p : Option Stamped) → option_map (λ (s : Stamped). s.key) o ≡ option_map (λ (s : Stamped). s.key) p → IfSome o (λ (s : Stamped). eq_by_cmp key_cmp s.key row.key ≡ false)
        → IfSome p (λ (s : Stamped). is_lt (key_cmp row.key s.key) ≡ false) → IfSome o (λ (s : Stamped). key_cmp s.key row.key ≡ Less)
    less None p e apart_from below = tt
    less (Some l) None e apart_from below = cc
    less (Some l) (Some r) e apart_from below =
        let same : r.key ≡ l.key = cc in
        below_from l.key row.key (subst (λ k. is_lt (key_cmp row.key k) ≡ false) same below) apart_from

gathers-begins : (m : Meaning) (old rows : Run) (row stored : Stamped) → IsLifted m row stored → EndsApart old row.key
    → IfSome (last_or None rows) (λ (s : Stamped). is_lt (key_cmp row.key s.key) ≡ false) → Gathers m old rows → Gathers m (old ++ stored ∷ []) (rows ++ row ∷ [])
gathers-begins m old rows row stored is ends_apart ends_below so_far =
    let below : AllBelow row.key old = begins-below m old rows row so_far ends_apart ends_below in
    let none_stored : of_key row.key old ≡ [] = of_key-below row.key old below in
    let none_before : of_key row.key rows ≡ [] = so_far.known row.key none_stored in
    let own : of_key row.key (rows ++ row ∷ []) ≡ row ∷ [] = of_key-yes row.key rows row (ties_itself row.key) ∙ ap (λ xs. xs ++ row ∷ []) none_before in
    let alone : of_key row.key (old ++ stored ∷ []) ≡ stored ∷ [] = of_key-yes row.key old stored (ap (eq_by_cmp key_cmp row.key) is.same_key ∙ ties_itself row.key) ∙ ap (λ xs. xs ++ stored ∷ []) none_stored in
    let number : stored.seq ≡ greatest_number (of_key stored.key (rows ++ row ∷ [])) = is.number ∙ only row.seq ∙ ap greatest_number (sym own) ∙ ap (λ k. greatest_number (of_key k (rows ++ row ∷ []))) (sym is.same_key) in
    let first : HasKindOf m stored (row ∷ []) = record { some = none_pushed [] row; kind = is.kind } in
    let kind : HasKindOf m stored (of_key stored.key (rows ++ row ∷ [])) = subst (λ k. HasKindOf m stored (of_key k (rows ++ row ∷ []))) (sym is.same_key) (subst (HasKindOf m stored) (sym own) first) in
    record {
      rising = rising-push old stored so_far.rising (subst (λ k. AllBelow k old) (sym is.same_key) below);
      ends = ap (option_map (λ (s : Stamped). s.key)) (last_or-push None old stored) ∙ ap Some is.same_key ∙ sym (ap (option_map (λ (s : Stamped). s.key)) (last_or-push None rows row));
      known = λ key none. still_none key old rows stored row is.same_key none (so_far.known key (no_front (of_key key old) _ (sym (pushed key) ∙ none)));
      numbers = AllByRecursion-append (λ (s : Stamped). s.seq ≡ greatest_number (of_key s.key (rows ++ row ∷ []))) old (stored ∷ []) (kept_numbers old rows row below so_far.numbers) (number, tt);
      kinds = AllByRecursion-append (λ (s : Stamped). HasKindOf m s (of_key s.key (rows ++ row ∷ []))) old (stored ∷ []) (kept_kinds m old rows row below so_far.kinds) (kind, tt);
      holds = λ keyed key.
          let parts = AllByRecursion-parts (IsKeyed m) rows (row ∷ []) keyed in
          elim (eq_by_cmp key_cmp key row.key) as (λ b. eq_by_cmp key_cmp key row.key ≡ b → Holds m key (of_key key (old ++ stored ∷ [])) (map row_of (of_key key (rows ++ row ∷ [])))) [
            | true ↦ λ e. subst (λ k. Holds m k (of_key k (old ++ stored ∷ [])) (map row_of (of_key k (rows ++ row ∷ [])))) (sym (tied key row.key e))
                (same_holds m row.key (stored ∷ []) _ (row_of row ∷ []) _ (sym alone) (sym (ap (map row_of) own)) (is.speaks parts.1.0))
            | false ↦ λ e. same_holds m key (of_key key old) _ (map row_of (of_key key rows)) _ (sym (of_key-no key old stored (ap (eq_by_cmp key_cmp key) is.same_key ∙ e)))
                (sym (ap (map row_of) (of_key-no key rows row e))) (so_far.holds parts.0 key)
          ] refl;
    }
  where
    only : (n : ℕ) → n ≡ max n 0
    only n = omega arith

    pushed : (key : Values) → of_key key (old ++ stored ∷ []) ≡ of_key key old ++ cond (eq_by_cmp key_cmp key stored.key) (stored ∷ []) []
    pushed key = of_key-push key old stored

-- ---- a further row of the last key

last_of : {A : Type 0} (P : A → Type 0) (xs : List A) (x : A) → AllByRecursion P (xs ++ x ∷ []) → AllByRecursion P xs × P x
last_of P [] x all = (tt, all.0)
last_of P (y ∷ ys) x all = let rest = last_of P ys x all.1 in ((all.0, rest.0), rest.1)

-- it has the kind of the key's rows with the further one
kind_joined : (m : Meaning) (last lifted stored row : Stamped) (rows : Run) → IsCombined m last lifted stored → IsLifted m row lifted → HasKindOf m last rows → HasKindOf m stored (rows ++ row ∷ [])
kind_joined m last lifted stored row rows both is before = record {
  some = none_pushed rows row;
  kind = both.kind (map row_of rows) (row_of row ∷ []) (some_mapped rows before.some) (none_pushed [] (row_of row)) before.kind is.kind ∙ ap m.kind (sym (map-append row_of rows (row ∷ [])));
}
  where
    some_mapped : (rs : Run) → rs ≢ [] → map row_of rs ≢ []
    some_mapped [] some = absurd (some refl)
    some_mapped (r ∷ rs) some = λ e. cc

gathers-joins : (m : Meaning) (front rows : Run) (last lifted stored row : Stamped) → last.key ≡ row.key → IsLifted m row lifted → IsCombined m last lifted stored
    → Gathers m (front ++ last ∷ []) rows → Gathers m (front ++ stored ∷ []) (rows ++ row ∷ [])
gathers-joins m front rows last lifted stored row same is both so_far =
    let key_is : stored.key ≡ row.key = both.same_key ∙ same in
    let older = rising-front front last so_far.rising in
    let below : AllBelow row.key front = subst (λ k. AllBelow k front) same older.1 in
    let none_front : of_key row.key front ≡ [] = of_key-below row.key front below in
    let before : of_key row.key (front ++ last ∷ []) ≡ last ∷ [] = of_key-yes row.key front last (ap (eq_by_cmp key_cmp row.key) same ∙ ties_itself row.key) ∙ ap (λ xs. xs ++ last ∷ []) none_front in
    let after : of_key row.key (front ++ stored ∷ []) ≡ stored ∷ [] = of_key-yes row.key front stored (ap (eq_by_cmp key_cmp row.key) key_is ∙ ties_itself row.key) ∙ ap (λ xs. xs ++ stored ∷ []) none_front in
    let own : of_key row.key (rows ++ row ∷ []) ≡ of_key row.key rows ++ row ∷ [] = of_key-yes row.key rows row (ties_itself row.key) in
    let numbers = last_of (λ (s : Stamped). s.seq ≡ greatest_number (of_key s.key rows)) front last so_far.numbers in
    let number : stored.seq ≡ greatest_number (of_key stored.key (rows ++ row ∷ [])) =
    both.number ∙ ap (λ n. max n lifted.seq) (numbers.1 ∙ ap (λ k. greatest_number (of_key k rows)) same) ∙ ap (max (greatest_number (of_key row.key rows))) is.number
    ∙ sym (greatest-push (of_key row.key rows) row) ∙ ap greatest_number (sym own) ∙ ap (λ k. greatest_number (of_key k (rows ++ row ∷ []))) (sym key_is) in
    let kinds = last_of (λ (s : Stamped). HasKindOf m s (of_key s.key rows)) front last so_far.kinds in
    let kind_before : HasKindOf m last (of_key row.key rows) = subst (λ k. HasKindOf m last (of_key k rows)) same kinds.1 in
    let kind : HasKindOf m stored (of_key stored.key (rows ++ row ∷ [])) =
    subst (λ k. HasKindOf m stored (of_key k (rows ++ row ∷ []))) (sym key_is) (subst (HasKindOf m stored) (sym own) (kind_joined m last lifted stored row (of_key row.key rows) both is kind_before)) in
    record {
      rising = rising-push front stored older.0 (subst (λ k. AllBelow k front) (sym key_is) below);
      ends = ap (option_map (λ (s : Stamped). s.key)) (last_or-push None front stored) ∙ ap Some key_is ∙ sym (ap (option_map (λ (s : Stamped). s.key)) (last_or-push None rows row));
      known = λ key none. still_none key front rows stored row key_is none (so_far.known key (swapped key none));
      numbers = AllByRecursion-append (λ (s : Stamped). s.seq ≡ greatest_number (of_key s.key (rows ++ row ∷ []))) front (stored ∷ []) (kept_numbers front rows row below numbers.0) (number, tt);
      kinds = AllByRecursion-append (λ (s : Stamped). HasKindOf m s (of_key s.key (rows ++ row ∷ []))) front (stored ∷ []) (kept_kinds m front rows row below kinds.0) (kind, tt);
      holds = λ keyed key.
          let parts = AllByRecursion-parts (IsKeyed m) rows (row ∷ []) keyed in
          elim (eq_by_cmp key_cmp key row.key) as (λ b. eq_by_cmp key_cmp key row.key ≡ b → Holds m key (of_key key (front ++ stored ∷ [])) (map row_of (of_key key (rows ++ row ∷ [])))) [
            | true ↦ λ e. subst (λ k. Holds m k (of_key k (front ++ stored ∷ [])) (map row_of (of_key k (rows ++ row ∷ [])))) (sym (tied key row.key e))
                (same_holds m row.key (stored ∷ []) _ (map row_of (of_key row.key rows) ++ row_of row ∷ []) _ (sym after) (sym (ap (map row_of) own ∙ map-append row_of (of_key row.key rows) (row ∷ [])))
                (both.speaks row.key (map row_of (of_key row.key rows)) (row_of row ∷ [])
                (same_holds m row.key (of_key row.key (front ++ last ∷ [])) (last ∷ []) _ _ before refl (so_far.holds parts.0 row.key))
                (is.speaks parts.1.0)))
            | false ↦ λ e. same_holds m key (of_key key (front ++ last ∷ [])) _ (map row_of (of_key key rows)) _
                (of_key-no key front last (ap (eq_by_cmp key_cmp key) same ∙ e) ∙ sym (of_key-no key front stored (ap (eq_by_cmp key_cmp key) key_is ∙ e)))
                (sym (ap (map row_of) (of_key-no key rows row e))) (so_far.holds parts.0 key)
          ] refl;
    }
  where
    swapped : (key : Values) → of_key key (front ++ stored ∷ []) ≡ [] → of_key key (front ++ last ∷ []) ≡ []
    swapped key none = of_key-push key front last ∙ ap (λ k. of_key key front ++ cond (eq_by_cmp key_cmp key k) (last ∷ []) []) (sym both.same_key)
        ∙ emptied (eq_by_cmp key_cmp key stored.key) (sym (of_key-push key front stored) ∙ none)
      where
        emptied : (b : Bool) → of_key key front ++ cond b (stored ∷ []) [] ≡ [] → of_key key front ++ cond b (last ∷ []) [] ≡ []
        emptied true e = absurd (none_pushed (of_key key front) stored e)
        emptied false e = e

-- ---- all rows

gathers-puts : (m : Meaning) (old new rows : Run) (row : Stamped) → Puts m old row new → IfSome (last_or None rows) (λ (s : Stamped). is_lt (key_cmp row.key s.key) ≡ false)
    → Gathers m old rows → Gathers m new (rows ++ row ∷ [])
gathers-puts m old _ rows row (begins stored is ends_apart) ends_below so_far = gathers-begins m old rows row stored is ends_apart ends_below so_far
gathers-puts m old _ rows row (joins front last lifted stored e test is both) ends_below so_far =
    gathers-joins m front rows last lifted stored row (tied last.key row.key test) is both (subst (λ r. Gathers m r rows) e so_far)

gathers-folds : (m : Meaning) (done rows old new : Run) → IsSortedByKey (λ (s : Stamped). s.key) key_cmp (done ++ rows) → Gathers m old done → FoldsTo (Puts m) old rows new → Gathers m new (done ++ rows)
gathers-folds m done [] old new sorted so_far folds = subst (λ run. Gathers m run (done ++ [])) folds (subst (Gathers m old) (sym (append-nil done)) so_far)
gathers-folds m done (row ∷ rows) old new sorted so_far folds =
    subst (Gathers m new) (append_assoc done (row ∷ []) rows)
    (gathers-folds m (done ++ row ∷ []) rows folds.0 new (subst (IsSortedByKey (λ (s : Stamped). s.key) key_cmp) (sym (append_assoc done (row ∷ []) rows)) sorted)
    (gathers-puts m old folds.0 done row folds.1 (ends-below done row rows sorted) so_far) folds.2)

gathers-none : (m : Meaning) → Gathers m [] []
unfolding IsStrictlySortedBy
gathers-none m = record { rising = tt; ends = refl; known = λ key none. refl; numbers = tt; kinds = tt; holds = λ keyed key. refl }

pub gathers-all : (m : Meaning) (rows run : Run) → IsSortedByKey (λ (s : Stamped). s.key) key_cmp rows → FoldsTo (Puts m) [] rows run → Gathers m run rows
gathers-all m rows run sorted folds = gathers-folds m [] rows [] run sorted (gathers-none m) folds

pub FoldsTo-push : {P A : Type 0} (R : P → A → P → Type 0) (p q r : P) (xs : List A) (x : A) → FoldsTo R p xs q → R q x r → FoldsTo R p (xs ++ x ∷ []) r
FoldsTo-push R p q r [] x folds step = (r, subst (λ o. R o x r) (sym folds) step, refl)
FoldsTo-push R p q r (y ∷ ys) x folds step = (folds.0, folds.1, FoldsTo-push R folds.0 q r ys x folds.2 step)

-- ---- what that says of the rows as they were given

pub keyed_rows : (m : Meaning) (key : Values) (rows : Run) → AllByRecursion (IsKeyed m) rows → rows_of m.primary key (map row_of rows) ≡ map row_of (of_key key rows)
keyed_rows m key [] keyed = refl
keyed_rows m key (s ∷ ss) keyed =
    ap (λ k. cond (eq_by_cmp key_cmp key k) (row_of s ∷ rows_of m.primary key (map row_of ss)) (rows_of m.primary key (map row_of ss))) keyed.0.own
    ∙ ap (λ rest. cond (eq_by_cmp key_cmp key s.key) (row_of s ∷ rest) rest) (keyed_rows m key ss keyed.1)
    ∙ elim (eq_by_cmp key_cmp key s.key) as (λ b. cond b (row_of s ∷ map row_of (of_key key ss)) (map row_of (of_key key ss)) ≡ map row_of (cond b (s ∷ of_key key ss) (of_key key ss))) [ true ↦ refl | false ↦ refl ]

pub covers_all : (m : Meaning) (rows sorted run : Run) → Gathers m run sorted → IsStableByKey (λ (s : Stamped). s.key) key_cmp rows sorted
    → All (IsKeyed m) sorted → All (IsKeyed m) rows → CoversAll m (run ∷ []) (map row_of rows)
covers_all m rows sorted run gathers stable sorted_keyed keyed = λ key.
    let part : List HistoryRow = rows_of m.primary key (map row_of rows) in
    let is : map row_of (of_key key sorted) ≡ part = ap (map row_of) (of_key-sorted rows sorted key stable) ∙ sym (keyed_rows m key rows (by_recursion (IsKeyed m) rows keyed)) in
    record {
      parts = part ∷ [];
      split = sym (append-nil part);
      holds = (subst (Holds m key (of_key key run)) is (gathers.holds (by_recursion (IsKeyed m) sorted sorted_keyed) key), tt);
    }

pub numbers_all : (m : Meaning) (rows sorted run : Run) → Gathers m run sorted → IsStableByKey (λ (s : Stamped). s.key) key_cmp rows sorted → HasGreatestNumbers run rows
numbers_all m rows sorted run gathers stable =
    moved run gathers.numbers
  where
    moved : (ss : Run) → HasGreatestNumbers ss sorted → HasGreatestNumbers ss rows
    moved [] numbers = tt
    moved (s ∷ ss) numbers = (numbers.0 ∙ ap greatest_number (of_key-sorted rows sorted s.key stable), moved ss numbers.1)

pub kinds_all : (m : Meaning) (rows sorted run : Run) → Gathers m run sorted → IsStableByKey (λ (s : Stamped). s.key) key_cmp rows sorted → HasKinds m run rows
kinds_all m rows sorted run gathers stable =
    moved run gathers.kinds
  where
    moved : (ss : Run) → HasKinds m ss sorted → HasKinds m ss rows
    moved [] kinds = tt
    moved (s ∷ ss) kinds = (subst (HasKindOf m s) (of_key-sorted rows sorted s.key stable) kinds.0, moved ss kinds.1)

-- a key of the run is one of the rows
known_keys : (m : Meaning) (key : Values) (run rows : Run) → HasKinds m run rows → of_key key rows ≡ [] → of_key key run ≡ []
known_keys m key [] rows kinds none = refl
known_keys m key (s ∷ ss) rows kinds none =
    elim (eq_by_cmp key_cmp key s.key) as (λ b. eq_by_cmp key_cmp key s.key ≡ b → cond b (s ∷ of_key key ss) (of_key key ss) ≡ []) [
      | true ↦ λ e. absurd (kinds.0.some (subst (λ k. of_key k rows ≡ []) (tied key s.key e) none))
      | false ↦ λ e. known_keys m key ss rows kinds.1 none
    ] refl

pub keys_all : (m : Meaning) (rows sorted run : Run) → Gathers m run sorted → IsStableByKey (λ (s : Stamped). s.key) key_cmp rows sorted
    → (key : Values) → (of_key key run ≡ []) ↔ (of_key key rows ≡ [])
keys_all m rows sorted run gathers stable key = (
  (λ none. sym (of_key-sorted rows sorted key stable) ∙ gathers.known key none),
  (λ none. known_keys m key run rows (kinds_all m rows sorted run gathers stable) none),
)
