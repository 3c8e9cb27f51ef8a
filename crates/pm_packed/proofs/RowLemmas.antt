-- Rows at places, while bytes are added and places sorted.
use Rattle.std.proofs.Common.{◌≡◌, ℕ, zero, suc, ◌+◌, ◌<◌, ◌≤◌, List, [], ◌∷◌, ◌++◌, drop, take, length, map, get_or, Bool, true, false, cond, not, ◌&&◌, refl, sym, ap, subst, ◌∙◌, append_assoc, arith}
use Rattle.std.specs.List.{AllByRecursion, filter, slice_set}
use Rattle.std.specs.List.Sorted.{IsPermutation, IsSortedByKey, IsStableByKey, ties}
use Rattle.std.specs.Ordering.{is_lt, ordering_reverse}
use Rattle.std.specs.declared.cmp.Ordering.{Ordering}
use Rattle.std.specs.declared.cmp.Ordering.TheVariants.{Less, Equal, Greater}
use Rattle.std.proofs.lemmas.List.{get_or-map, length-map, map-append}
use Rattle.std.proofs.lemmas.List.{map-set}
use Rattle.std.proofs.lemmas.List.Elements.{recursion_from_All, All-from_recursion, All-set}
use Rattle.std.proofs.lemmas.List.Sorted.{All-permutation}
use Rattle.std.specs.Result.{OnErr, OnOk}
use Rattle.std.specs.declared.result.Result.{Result}
use Rattle.std.specs.declared.result.Result.TheVariants.{Ok, Err}
use Rattle.pm_base.proofs.Laws.{AllByRecursion-append}
use Rattle.pm_row_slots.specs.Slot.{raised}
use Rattle.pm_packed.specs.Rows.{Grows}
use Rattle.pm_values.specs.Order.{Values, key_cmp, key_total}
use Rattle.pm_values.proofs.Lemmas.{key_cmp-ties}
use Rattle.pm_values.specs.declared.kind.Kind.{Kind}
use Rattle.pm_values.specs.declared.record.Stamped.{Stamped}
use Rattle.pm_values.specs.declared.value.Value.{Value}
use Rattle.pm_packed.specs.Rows.{IsRowCode, IsWhole, LiesAt, row_at, row_in, rows_at}
use Rattle.pm_packed.specs.Values.{AreCodeOf, values_in}
use Rattle.pm_packed.specs.declared.head.Head.{Head}
use Rattle.pm_packed.specs.declared.rows.Place.{Place}

-- ---- what is so in any case is so after each answer

pub on_ok_from : {T E P : Type 0} (r : Result T E) → P → OnOk r P
on_ok_from (Ok x) p = p
on_ok_from (Err e) p = tt

pub on_err_from : {T E P : Type 0} (r : Result T E) → P → OnErr r P
on_err_from (Ok x) p = tt
on_err_from (Err e) p = p

-- ---- bytes are added

whole-more : (bytes more : List ℕ) (p : Place) → IsWhole bytes p → IsWhole (bytes ++ more) p
whole-more bytes more p whole later =
    ap (λ (b : List ℕ). row_at b p) (append_assoc bytes more later) ∙ whole (more ++ later) ∙ sym (whole more)

pub all_whole-more : (bytes more : List ℕ) (places : List Place) → AllByRecursion (IsWhole bytes) places → AllByRecursion (IsWhole (bytes ++ more)) places
all_whole-more bytes more [] whole = tt
all_whole-more bytes more (p ∷ places) whole = (whole-more bytes more p whole.0, all_whole-more bytes more places whole.1)

-- and the rows stay
pub rows-more : (bytes more : List ℕ) (places : List Place) → AllByRecursion (IsWhole bytes) places → rows_at (bytes ++ more) places ≡ rows_at bytes places
rows-more bytes more [] whole = refl
rows-more bytes more (p ∷ places) whole =
    ap (λ (s : Stamped). s ∷ rows_at (bytes ++ more) places) (whole.0 more)
    ∙ ap (λ (ss : List Stamped). row_at bytes p ∷ ss) (rows-more bytes more places whole.1)

-- ---- places are sorted by the rows at them

-- a place whose row ties, if there is one
data Found {A : Type 0} (f : A → Bool) (xs : List A) : Type 0 where
  here : (x : A) → f x ≡ true → Found f xs
  nowhere : filter f xs ≡ [] → Found f xs

look : {A : Type 0} (f : A → Bool) (xs : List A) → Found f xs
look f [] = nowhere refl
look f (x ∷ xs) = elim (f x) as (λ b. f x ≡ b → Found f (x ∷ xs)) [
  | true ↦ λ e. here x e
  | false ↦ λ e. further (look f xs) e
] refl
  where
    further : Found f xs → f x ≡ false → Found f (x ∷ xs)
    further (here y is) e = here y is
    further (nowhere none) e = nowhere (ap (λ b. cond b (x ∷ filter f xs) (filter f xs)) e ∙ none)

filter-map : {A B : Type 0} (g : A → B) (f : B → Bool) (xs : List A) → filter f (map g xs) ≡ map g (filter (λ x. f (g x)) xs)
filter-map g f [] = refl
filter-map g f (x ∷ xs) =
    ap (λ rest. cond (f (g x)) (g x ∷ rest) rest) (filter-map g f xs)
    ∙ elim (f (g x)) as (λ b. cond b (g x ∷ map g (filter (λ y. f (g y)) xs)) (map g (filter (λ y. f (g y)) xs)) ≡ map g (cond b (x ∷ filter (λ y. f (g y)) xs) (filter (λ y. f (g y)) xs))) [ true ↦ refl | false ↦ refl ]

-- how rows compare, and places by them
abbrev less_key : Stamped → Stamped → Bool
less_key a b = is_lt (key_cmp a.key b.key)

-- what ties has the key
ties_key : (a b : Stamped) → ties less_key a b ≡ true → a.key ≡ b.key
ties_key a b e = (key_cmp-ties a.key b.key).0 (neither (key_cmp a.key b.key) (key_cmp b.key a.key) (key_total.antisymm a.key b.key) e)
  where
    neither : (o p : Ordering) → o ≡ ordering_reverse p → not (is_lt o) && not (is_lt p) ≡ true → o ≡ Equal
    neither Less p flips e = cc
    neither Equal p flips e = refl
    neither Greater Less flips e = cc
    neither Greater Equal flips e = cc
    neither Greater Greater flips e = cc

stable_from : (bytes : List ℕ) (xs ys : List Place) (s : Stamped) (p : Place) → ties less_key s (row_at bytes p) ≡ true
    → IsStableByKey (λ (q : Place). (row_at bytes q).key) key_cmp xs ys
    → filter (ties less_key s) (rows_at bytes ys) ≡ filter (ties less_key s) (rows_at bytes xs)
stable_from bytes xs ys s p tie stable =
    let same : s.key ≡ (row_at bytes p).key = ties_key s (row_at bytes p) tie in
    let at : Values → List Place → List Stamped = λ key zs. filter (λ (r : Stamped). not (is_lt (key_cmp key r.key)) && not (is_lt (key_cmp r.key key))) (rows_at bytes zs) in
    ap (λ key. at key ys) same
    ∙ filter-map (row_at bytes) (ties less_key (row_at bytes p)) ys
    ∙ ap (map (row_at bytes)) (stable p)
    ∙ sym (filter-map (row_at bytes) (ties less_key (row_at bytes p)) xs)
    ∙ ap (λ key. at key xs) (sym same)

-- a key that no place has, neither before nor after, has no row there
pub stable_rows : (bytes : List ℕ) (xs ys : List Place) → IsStableByKey (λ (q : Place). (row_at bytes q).key) key_cmp xs ys
    → IsStableByKey (λ (s : Stamped). s.key) key_cmp (rows_at bytes xs) (rows_at bytes ys)
stable_rows bytes xs ys stable s =
    after (look (λ (p : Place). ties less_key s (row_at bytes p)) ys) (look (λ (p : Place). ties less_key s (row_at bytes p)) xs)
  where
    none_at : (zs : List Place) → filter (λ (p : Place). ties less_key s (row_at bytes p)) zs ≡ [] → filter (ties less_key s) (rows_at bytes zs) ≡ []
    none_at zs none = filter-map (row_at bytes) (ties less_key s) zs ∙ ap (map (row_at bytes)) none

    after : Found (λ (p : Place). ties less_key s (row_at bytes p)) ys → Found (λ (p : Place). ties less_key s (row_at bytes p)) xs
        → filter (ties less_key s) (rows_at bytes ys) ≡ filter (ties less_key s) (rows_at bytes xs)
    after (here p tie) found = stable_from bytes xs ys s p tie stable
    after (nowhere none) (here p tie) = stable_from bytes xs ys s p tie stable
    after (nowhere none) (nowhere none') = none_at ys none ∙ sym (none_at xs none')

pub sorted_rows : (bytes : List ℕ) (ys : List Place) → IsSortedByKey (λ (q : Place). (row_at bytes q).key) key_cmp ys
    → IsSortedByKey (λ (s : Stamped). s.key) key_cmp (rows_at bytes ys)
sorted_rows bytes [] sorted k d low high = absurd (omega (arith, high))
sorted_rows bytes (p ∷ ys) sorted k d low high =
    let inside : k + 1 < length (p ∷ ys) = subst (λ (n : ℕ). k + 1 < n) (length-map (p ∷ ys) (row_at bytes)) high in
    ap (λ s. less_key s (get_or (rows_at bytes (p ∷ ys)) k d)) (get_or-map (row_at bytes) (p ∷ ys) (k + 1) p d inside)
    ∙ ap (less_key (row_at bytes (get_or (p ∷ ys) (k + 1) p))) (get_or-map (row_at bytes) (p ∷ ys) k p d (omega (arith, inside)))
    ∙ sorted k p low inside

-- ---- a row's code

pub record IsHeadOf (row : Stamped) (h : Head) : Type 0 where
  pub seq : h.seq ≡ row.seq
  pub kind : h.kind ≡ row.kind
  pub keys : h.key_count ≡ length row.key
  pub count : h.row_count ≡ length row.row

abbrev row_of : Kind → ℕ → List Value → List Value → Stamped
row_of kind seq key values = record { key = key; seq = seq; kind = kind; row = values }

-- which of two ways its key is read
abbrev by : Head → List ℕ → Bool → Stamped
by h bytes b =
    cond b (row_of h.kind h.seq (values_in h.key_count bytes).0 (values_in h.row_count bytes).0)
    (row_of h.kind h.seq (values_in h.key_count bytes).0 (values_in h.row_count (values_in h.key_count bytes).1).0)

headed : (row : Stamped) (h : Head) → IsHeadOf row h → row_of h.kind h.seq row.key row.row ≡ row
headed row h is = ap (λ n. row_of h.kind n row.key row.row) is.seq ∙ ap (λ k. row_of k row.seq row.key row.row) is.kind

pub apart_code : (row : Stamped) (h : Head) (first second : List ℕ) → h.begins ≡ false → IsHeadOf row h → AreCodeOf row.key first → AreCodeOf row.row second → IsRowCode row h (first ++ second)
apart_code row h first second begins is key_code row_code rest =
    let bytes : List ℕ = (first ++ second) ++ rest in
    let key_read : values_in h.key_count bytes ≡ (row.key, second ++ rest) = ap (values_in h.key_count) (append_assoc first second rest) ∙ ap (λ (n : ℕ). values_in n (first ++ (second ++ rest))) is.keys ∙ key_code (second ++ rest) in
    let row_read : values_in h.row_count (second ++ rest) ≡ (row.row, rest) = ap (λ (n : ℕ). values_in n (second ++ rest)) is.count ∙ row_code rest in
    ap (by h bytes) begins
    ∙ ap (λ (x : List Value × List ℕ). row_of h.kind h.seq x.0 (values_in h.row_count x.1).0) key_read
    ∙ ap (λ (x : List Value × List ℕ). row_of h.kind h.seq row.key x.0) row_read
    ∙ headed row h is

pub joint_code : (row : Stamped) (h : Head) (first second later : List ℕ) → h.begins ≡ true → IsHeadOf row h → second ≡ first ++ later → AreCodeOf row.key first → AreCodeOf row.row second → IsRowCode row h second
joint_code row h first second later begins is whole key_code row_code rest =
    let bytes : List ℕ = second ++ rest in
    let key_read : values_in h.key_count bytes ≡ (row.key, later ++ rest) = ap (λ (b : List ℕ). values_in h.key_count (b ++ rest)) whole ∙ ap (values_in h.key_count) (append_assoc first later rest) ∙ ap (λ (n : ℕ). values_in n (first ++ (later ++ rest))) is.keys ∙ key_code (later ++ rest) in
    let row_read : values_in h.row_count bytes ≡ (row.row, rest) = ap (λ (n : ℕ). values_in n bytes) is.count ∙ row_code rest in
    ap (by h bytes) begins
    ∙ ap (λ (x : List Value × List ℕ). row_of h.kind h.seq x.0 (values_in h.row_count bytes).0) key_read
    ∙ ap (λ (x : List Value × List ℕ). row_of h.kind h.seq row.key x.0) row_read
    ∙ headed row h is

-- ---- a code that lies somewhere is a whole row

drop-append : (n : ℕ) (xs ys : List ℕ) → n ≤ length xs → drop n (xs ++ ys) ≡ drop n xs ++ ys
drop-append zero xs ys within = refl
drop-append (suc n) [] ys within = absurd (omega (arith, within))
drop-append (suc n) (x ∷ xs) ys within = drop-append n xs ys (omega (arith, within))

pub lying : (row : Stamped) (p : Place) (code bytes : List ℕ) → IsRowCode row p.head code → LiesAt code bytes p.start → (row_at bytes p ≡ row) × IsWhole bytes p
lying row p code bytes is lies = (
  own,
  (λ more. ap (row_in p.head) (drop-append p.start bytes more lies.within ∙ ap (λ (b : List ℕ). b ++ more) lies.is ∙ append_assoc code lies.rest more) ∙ is (lies.rest ++ more) ∙ sym own),
)
  where
    own : row_at bytes p ≡ row
    own = ap (row_in p.head) lies.is ∙ is lies.rest

-- ---- places that were sorted are whole

pub all_whole-sorted : (bytes : List ℕ) (xs ys : List Place) → IsPermutation xs ys → AllByRecursion (IsWhole bytes) xs → AllByRecursion (IsWhole bytes) ys
all_whole-sorted bytes xs ys same whole = recursion_from_All (IsWhole bytes) ys (All-permutation (IsWhole bytes) xs ys same (All-from_recursion (IsWhole bytes) xs whole))

-- ---- one row more

pub all_whole-grown : (old new : List ℕ) (places : List Place) → Grows old new → AllByRecursion (IsWhole old) places → AllByRecursion (IsWhole new) places
all_whole-grown old new places (more, is) whole = subst (λ (b : List ℕ). AllByRecursion (IsWhole b) places) (sym is) (all_whole-more old more places whole)

pub rows-grown : (old new : List ℕ) (places : List Place) → Grows old new → AllByRecursion (IsWhole old) places → rows_at new places ≡ rows_at old places
rows-grown old new places (more, is) whole = ap (λ (b : List ℕ). rows_at b places) is ∙ rows-more old more places whole

pub all_whole-push : (old new code : List ℕ) (places : List Place) (row : Stamped) (p : Place) → Grows old new → AllByRecursion (IsWhole old) places → IsRowCode row p.head code → LiesAt code new p.start
    → AllByRecursion (IsWhole new) (places ++ p ∷ [])
all_whole-push old new code places row p grows whole is lies =
    AllByRecursion-append (IsWhole new) places (p ∷ []) (all_whole-grown old new places grows whole) ((lying row p code new is lies).1, tt)

pub rows-push : (old new code : List ℕ) (places : List Place) (row : Stamped) (p : Place) → Grows old new → AllByRecursion (IsWhole old) places → IsRowCode row p.head code → LiesAt code new p.start
    → rows_at new (places ++ p ∷ []) ≡ rows_at old places ++ row ∷ []
rows-push old new code places row p grows whole is lies =
    map-append (row_at new) places (p ∷ [])
    ∙ ap (λ (ss : List Stamped). ss ++ row_at new p ∷ []) (rows-grown old new places grows whole)
    ∙ ap (λ (s : Stamped). rows_at old places ++ s ∷ []) (lying row p code new is lies).0

-- ---- one row in the place of another

pub all_whole-set : (old new code : List ℕ) (places : List Place) (i : ℕ) (row : Stamped) (p : Place) → Grows old new → AllByRecursion (IsWhole old) places → IsRowCode row p.head code → LiesAt code new p.start
    → AllByRecursion (IsWhole new) (slice_set places i p)
all_whole-set old new code places i row p grows whole is lies =
    recursion_from_All (IsWhole new) (slice_set places i p) (All-set (IsWhole new) places i p (lying row p code new is lies).1 (All-from_recursion (IsWhole new) places (all_whole-grown old new places grows whole)))

pub rows-set : (old new code : List ℕ) (places : List Place) (i : ℕ) (row : Stamped) (p : Place) → Grows old new → AllByRecursion (IsWhole old) places → IsRowCode row p.head code → LiesAt code new p.start
    → rows_at new (slice_set places i p) ≡ slice_set (rows_at old places) i row
rows-set old new code places i row p grows whole is lies =
    map-set (row_at new) places i p
    ∙ ap (λ (ss : List Stamped). slice_set ss i (row_at new p)) (rows-grown old new places grows whole)
    ∙ ap (slice_set (rows_at old places) i) (lying row p code new is lies).0

pub rows-copied : (bytes : List ℕ) (places : List Place) (i j : ℕ) (d : Place) (none : Stamped) → j < length places
    → rows_at bytes (slice_set places i (get_or places j d)) ≡ slice_set (rows_at bytes places) i (get_or (rows_at bytes places) j none)
rows-copied bytes places i j d none inside =
    map-set (row_at bytes) places i (get_or places j d)
    ∙ ap (slice_set (rows_at bytes places) i) (sym (get_or-map (row_at bytes) places j d none inside))

-- ---- a row with a greater number

seq_at : (bytes : List ℕ) (p : Place) → (row_at bytes p).seq ≡ p.head.seq
seq_at bytes p = elim p.head.begins as (λ b. (by p.head (drop p.start bytes) b).seq ≡ p.head.seq) [ true ↦ refl | false ↦ refl ]

-- a place whose row is that of another, with a greater number or its own
abbrev pub IsRaisedTo : ℕ → Place → Place → Type 0
IsRaisedTo n p q = (bytes : List ℕ) → row_at bytes q ≡ raised n (row_at bytes p)

pub rows-raised : (bytes : List ℕ) (places : List Place) (i n : ℕ) (p q : Place) (none : Stamped) → i < length places → p ≡ get_or places i p → IsRaisedTo n p q
    → rows_at bytes (slice_set places i q) ≡ slice_set (rows_at bytes places) i (raised n (get_or (rows_at bytes places) i none))
rows-raised bytes places i n p q none inside lies_at up =
    map-set (row_at bytes) places i q
    ∙ ap (slice_set (rows_at bytes places) i) (up bytes ∙ ap (λ (r : Place). raised n (row_at bytes r)) lies_at ∙ ap (raised n) (sym (get_or-map (row_at bytes) places i p none inside)))

pub number-at : (bytes : List ℕ) (places : List Place) (j : ℕ) (p : Place) (none : Stamped) → j < length places → p ≡ get_or places j p
    → p.head.seq ≡ (get_or (rows_at bytes places) j none).seq
number-at bytes places j p none inside lies_at =
    sym (seq_at bytes p) ∙ ap (λ (r : Place). (row_at bytes r).seq) lies_at ∙ ap (λ (s : Stamped). s.seq) (sym (get_or-map (row_at bytes) places j p none inside))

-- ---- a front and what stands after it

pub drop-front : (xs ys : List ℕ) → drop (length xs) (xs ++ ys) ≡ ys
drop-front [] ys = refl
drop-front (x ∷ xs) ys = drop-front xs ys

pub take-front : (xs ys : List ℕ) → take (length xs) (xs ++ ys) ≡ xs
take-front [] ys = refl
take-front (x ∷ xs) ys = ap (λ (zs : List ℕ). x ∷ zs) (take-front xs ys)
