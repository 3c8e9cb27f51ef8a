-- A succession of runs of a history is a life of states.
use Rattle.std.proofs.Common.{◌≡◌, ◌≢◌, ◌⊎◌, inl, inr, ℕ, zero, suc, ◌+◌, ◌-◌, ◌<◌, ◌≤◌, ◌==◌, nat_lt, max, List, [], ◌∷◌, ◌++◌, map, reverse, take, drop, length, length-append, append-nil, slice_get, Contains, Bool, true, false, cond, ◌&&◌, ◌||◌, not, Option, Some, None, refl, sym, ap, subst, ◌∙◌, arith}
use Rattle.std.specs.List.{AllByRecursion, cons_option, filter, filter_map, flat_map, fold}
use Rattle.std.proofs.lemmas.Bool.Decides.{nat_tests}
use Rattle.std.proofs.lemmas.Grind.{flat_map-append}
use Rattle.std.proofs.lemmas.List.{take_all, take-append-le}
use Rattle.std.proofs.lemmas.List.Elements.{filter-append, filter_map-append}
use Rattle.std.proofs.lemmas.List.Sums.{fold-append}
use Rattle.std.specs.Ordering.{eq_by_cmp}
use Rattle.pm_values.specs.GroupOrder.{group_cmp}
use Rattle.pm_values.specs.declared.file_meta.FileMeta.{FileMeta}
use Rattle.pm_values.specs.declared.group.Group.{Group}
use Rattle.pm_model_history.specs.History.{Entry, append, compaction, fence, entry_rows, rows_up_to}
use Rattle.pm_model_history.specs.Merge.{HistoryRow}
use Rattle.pm_schema.specs.declared.schema.TableSchema.{TableSchema}
use Rattle.pm_engine.specs.Covers.{Covers, CoversAll, Run}
use Rattle.pm_engine.specs.OfSchema.{meaning_of}
use Rattle.pm_model_following.specs.Following.{HaveBases, base_of, compacted, greatest, is_named}
use Rattle.pm_model_following.specs.Groups.{group_of, rows_in}
use Rattle.pm_runs.specs.Stand.{StandForRows, StoredRun, oldest_first, rows_after, top_of}
use Rattle.pm_runs.specs.Succession.{Follows, HasNewestOf, HaveFilesIn, IsNew, IsReplaced, IsSuccession, IsTaken, KnownRun, StillStands, Taking, from_oldest, without_files, unchanged, grown, replaced}
use Rattle.pm_runs.proofs.Life as life
use Rattle.pm_runs.proofs.Life.{AddedAll, CaughtUp, IsIn, IsLife, Rows, Stand, State, Step, Took, oldest_such}
use Rattle.pm_runs.proofs.RunLemmas.{caught-up, all-in, in-cons, in-left, in-or, in-right, in-same, stand-now}

-- ---- entries by their numbers

parted : (entries : List Entry) (a b c : ℕ) → a ≤ b → b ≤ c → drop a (take c entries) ≡ drop a (take b entries) ++ drop b (take c entries)
parted [] zero zero c p q = refl
parted [] zero (suc b) zero p q = absurd (omega (arith, q))
parted [] zero (suc b) (suc c) p q = refl
parted [] (suc a) zero c p q = absurd (omega (arith, p))
parted [] (suc a) (suc b) zero p q = absurd (omega (arith, q))
parted [] (suc a) (suc b) (suc c) p q = refl
parted (x ∷ entries) zero zero c p q = refl
parted (x ∷ entries) zero (suc b) zero p q = absurd (omega (arith, q))
parted (x ∷ entries) zero (suc b) (suc c) p q = ap (λ es. x ∷ es) (parted entries zero b c (omega arith) (omega (arith, q)))
parted (x ∷ entries) (suc a) zero c p q = absurd (omega (arith, p))
parted (x ∷ entries) (suc a) (suc b) zero p q = absurd (omega (arith, q))
parted (x ∷ entries) (suc a) (suc b) (suc c) p q = parted entries a b c (omega (arith, p)) (omega (arith, q))

pub none-between : (entries : List Entry) (a : ℕ) → drop a (take a entries) ≡ []
none-between [] zero = refl
none-between [] (suc a) = refl
none-between (x ∷ entries) zero = refl
none-between (x ∷ entries) (suc a) = none-between entries a

one-between : (entries : List Entry) (n : ℕ) (e : Entry) → slice_get entries n ≡ Some e → drop n (take (suc n) entries) ≡ e ∷ []
one-between [] zero e is = cc
one-between [] (suc n) e is = cc
one-between (x ∷ entries) zero e is = some-first x e is
  where
    some-first : (x e : Entry) → Some x ≡ Some e → ◌≡◌ {A = List Entry} (x ∷ []) (e ∷ [])
    some-first x e is = cc
one-between (x ∷ entries) (suc n) e is = one-between entries n e is

has-entry : (entries : List Entry) (n : ℕ) → n < length entries → (e : Entry) × (slice_get entries n ≡ Some e)
has-entry [] n below = absurd (omega (arith, below))
has-entry (x ∷ entries) zero below = (x, refl)
has-entry (x ∷ entries) (suc n) below = has-entry entries n (omega (arith, below))

pub last-entry : (entries : List Entry) (e : Entry) → slice_get (entries ++ e ∷ []) (length entries) ≡ Some e
last-entry [] e = refl
last-entry (x ∷ entries) e = last-entry entries e

one-more : (entries : List Entry) (n : ℕ) (e : Entry) → slice_get entries n ≡ Some e → take (suc n) entries ≡ take n entries ++ e ∷ []
one-more entries n e is = parted entries 0 n (suc n) (omega arith) (omega arith) ∙ ap (λ es. take n entries ++ es) (one-between entries n e is)

-- ---- the rows of a group

module _ (s : TableSchema) (g : Group) (entries : List Entry) where
  in-both : (xs ys : List HistoryRow) → rows_in s g (xs ++ ys) ≡ rows_in s g xs ++ rows_in s g ys
  in-both xs ys = filter-append (λ (r : HistoryRow). eq_by_cmp group_cmp (group_of s r.1) g) xs ys

  pub rows-joined : (a b c : ℕ) → a ≤ b → b ≤ c → rows_in s g (rows_after entries a c) ≡ rows_in s g (rows_after entries a b) ++ rows_in s g (rows_after entries b c)
  rows-joined a b c p q =
      ap (λ es. rows_in s g (flat_map entry_rows es)) (parted entries a b c p q)
      ∙ ap (rows_in s g) (flat_map-append entry_rows (drop a (take b entries)) (drop b (take c entries)))
      ∙ in-both (rows_after entries a b) (rows_after entries b c)

  abbrev pub group_rows : Rows
  group_rows = record {
    up_to = λ n. rows_in s g (rows_up_to entries n);
    since = λ a b. rows_in s g (rows_after entries a b);
    joined = rows-joined;
    both = λ a b p. rows-joined 0 a b (omega arith) p;
    none = λ a. ap (λ es. rows_in s g (flat_map entry_rows es)) (none-between entries a);
  }

  pub since-one : (n : ℕ) (e : Entry) → slice_get entries n ≡ Some e → rows_in s g (rows_after entries n (suc n)) ≡ rows_in s g (entry_rows e)
  since-one n e is = ap (λ es. rows_in s g (flat_map entry_rows es)) (one-between entries n e is) ∙ ap (rows_in s g) (append-nil (entry_rows e))

-- ---- the greatest base of a compaction

abbrev pub with_base : Option ℕ → ℕ → ℕ
with_base None k = k
with_base (Some b) k = max k b

module _ (wholly : Bool) (g : Group) where
  one-base : (e : Entry) (k : ℕ) → fold max k (filter_map (base_of wholly g) (e ∷ [])) ≡ with_base (base_of wholly g e) k
  one-base e k = at (base_of wholly g e)
    where
      at : (o : Option ℕ) → fold max k (cons_option o []) ≡ with_base o k
      at None = refl
      at (Some b) = refl

  pub compacted-more : (entries : List Entry) (n : ℕ) (e : Entry) → slice_get entries n ≡ Some e
      → compacted wholly entries (suc n) g ≡ with_base (base_of wholly g e) (compacted wholly entries n g)
  compacted-more entries n e is =
      ap (λ es. fold max 0 (filter_map (base_of wholly g) es)) (one-more entries n e is)
      ∙ ap (fold max 0) (filter_map-append (base_of wholly g) (take n entries) (e ∷ []))
      ∙ fold-append max 0 (filter_map (base_of wholly g) (take n entries)) (filter_map (base_of wholly g) (e ∷ []))
      ∙ one-base e (compacted wholly entries n g)

  -- an entry's base is below its number
  base-below : (number : ℕ) (entries : List Entry) → HaveBases number entries → (n : ℕ) (e : Entry) → slice_get entries n ≡ Some e → (b : ℕ) → base_of wholly g e ≡ Some b
      → b < number + n
  base-below number [] have zero e is b base = cc
  base-below number [] have (suc n) e is b base = cc
  base-below number (x ∷ entries) have zero e is b base =
      let first : b < number = own number x entries have b (subst (λ (x : Entry). base_of wholly g x ≡ Some b) (sym (some-same x e is)) base) in omega (arith, first)
    where
      some-same : (x e : Entry) → Some x ≡ Some e → x ≡ e
      some-same x e is = cc

      own : (number : ℕ) (x : Entry) (entries : List Entry) → HaveBases number (x ∷ entries) → (b : ℕ) → base_of wholly g x ≡ Some b → b < number
      own number (append user identifier rows) entries have b is = cc
      own number (fence raised) entries have b is = cc
      own number (compaction base groups) entries have b is = at (is_named wholly g groups) is
        where
          at : (t : Bool) → cond t (Some base) None ≡ Some b → b < number
          at true e = let same : base ≡ b = cc in let low = have.0 in omega (arith, same, low)
          at false e = cc
  base-below number (x ∷ entries) have (suc n) e is b base =
      let later = base-below (number + 1) entries (rest number x entries have) n e is b base in omega (arith, later)
    where
      rest : (number : ℕ) (x : Entry) (entries : List Entry) → HaveBases number (x ∷ entries) → HaveBases (number + 1) entries
      rest number (append user identifier rows) entries have = have
      rest number (fence raised) entries have = have
      rest number (compaction base groups) entries have = have.1

  with-below : (o : Option ℕ) (k n : ℕ) → k ≤ n → ((b : ℕ) → o ≡ Some b → b < suc n) → with_base o k ≤ n
  with-below None k n low bases = low
  with-below (Some b) k n low bases = let less = bases b refl in both k b n low (omega (arith, less))
    where
      both : (k b n : ℕ) → k ≤ n → b ≤ n → max k b ≤ n
      both k b n p q = grind (arith, nat_tests)

  -- so is the greatest
  pub compacted-below : (entries : List Entry) → HaveBases 1 entries → (n : ℕ) → suc n ≤ length entries → compacted wholly entries (suc n) g ≤ n
  compacted-below entries have zero within =
      let e = has-entry entries 0 (omega (arith, within)) in
      subst (λ k. k ≤ 0) (sym (compacted-more entries 0 e.0 e.1))
      (with-below (base_of wholly g e.0) 0 0 (omega arith) (λ b is. (let less = base-below 1 entries have 0 e.0 e.1 b is in omega (arith, less))))
  compacted-below entries have (suc n) within =
      let e = has-entry entries (suc n) (omega (arith, within)) in
      let before = compacted-below entries have n (omega (arith, within)) in
      subst (λ k. k ≤ suc n) (sym (compacted-more entries (suc n) e.0 e.1))
      (with-below (base_of wholly g e.0) (compacted wholly entries (suc n) g) (suc n) (omega (arith, before))
      (λ b is. (let less = base-below 1 entries have (suc n) e.0 e.1 b is in omega (arith, less))))

  with-more : (o : Option ℕ) (k : ℕ) → k ≤ with_base o k
  with-more None k = omega arith
  with-more (Some b) k = grind (arith, nat_tests)

  compacted-grows : (entries : List Entry) (n d : ℕ) → n + d ≤ length entries → compacted wholly entries n g ≤ compacted wholly entries (n + d) g
  compacted-grows entries n zero within = let same : n + 0 ≡ n = omega arith in subst (λ k. compacted wholly entries n g ≤ compacted wholly entries k g) (sym same) (omega arith)
  compacted-grows entries n (suc d) within =
      let e = has-entry entries (n + d) (omega (arith, within)) in
      let before = compacted-grows entries n d (omega (arith, within)) in
      let more = with-more (base_of wholly g e.0) (compacted wholly entries (n + d) g) in
      let is = compacted-more entries (n + d) e.0 e.1 in
      let next : suc (n + d) ≡ n + suc d = omega arith in
      subst (λ k. compacted wholly entries n g ≤ compacted wholly entries k g) next (omega (arith, before, more, is))

-- what was compacted as whole was compacted
whole-named : (g : Group) (groups : List (Group × Bool)) → is_named true g groups ≡ true → is_named false g groups ≡ true
whole-named g [] is = cc
whole-named g (p ∷ groups) is = at (eq_by_cmp group_cmp g p.0) p.1 (is_named true g groups) (is_named false g groups) (whole-named g groups) is
  where
    at : (same flag one two : Bool) → (one ≡ true → two ≡ true) → (same && (flag || not true)) || one ≡ true → (same && (flag || not false)) || two ≡ true
    at false flag one two later is = later is
    at true true one two later is = refl
    at true false one two later is = refl

whole-with : (g : Group) (e : Entry) (a b : ℕ) → a ≤ b → with_base (base_of true g e) a ≤ with_base (base_of false g e) b
whole-with g (append user identifier rows) a b low = low
whole-with g (fence number) a b low = low
whole-with g (compaction base groups) a b low = at (is_named true g groups) (is_named false g groups) (whole-named g groups)
  where
    at : (one two : Bool) → (one ≡ true → two ≡ true) → with_base (cond one (Some base) None) a ≤ with_base (cond two (Some base) None) b
    at true true named = grind (arith, nat_tests)
    at true false named = absurd (let e = named refl in cc)
    at false true named = grind (arith, nat_tests)
    at false false named = low

whole-below : (entries : List Entry) (g : Group) (n : ℕ) → n ≤ length entries → compacted true entries n g ≤ compacted false entries n g
whole-below entries g zero within = omega arith
whole-below entries g (suc n) within =
    let e = has-entry entries n (omega (arith, within)) in
    let before = whole-below entries g n (omega (arith, within)) in
    let one = compacted-more true g entries n e.0 e.1 in
    let two = compacted-more false g entries n e.0 e.1 in
    let both = whole-with g e.0 (compacted true entries n g) (compacted false entries n g) before in
    omega (arith, one, two, both)

-- ---- runs that stand

-- a group's state at a snapshot of a history
abbrev pub state_at : List Entry → Group → (ℕ → List KnownRun) → ℕ → State
state_at entries g runs n = record { runs = runs n; zero = compacted false entries n g; top = compacted true entries n g }

such-same : (such : ℕ → Bool) (runs : List KnownRun) → map (λ (r : StoredRun). r.rows) (filter (λ (r : StoredRun). such r.level) (map without_files runs))
    ≡ map (λ (r : KnownRun). r.rows) (filter (λ (r : KnownRun). such r.level) runs)
such-same such [] = refl
such-same such (r ∷ runs) = elim (such r.level) as (λ t.
    map (λ (r : StoredRun). r.rows) (cond t (without_files r ∷ filter (λ (r : StoredRun). such r.level) (map without_files runs)) (filter (λ (r : StoredRun). such r.level) (map without_files runs)))
    ≡ map (λ (r : KnownRun). r.rows) (cond t (r ∷ filter (λ (r : KnownRun). such r.level) runs) (filter (λ (r : KnownRun). such r.level) runs))) [
      | true ↦ ap (λ rows. r.rows ∷ rows) (such-same such runs)
      | false ↦ such-same such runs
    ]

first-same : (such : ℕ → Bool) (runs : List KnownRun) → oldest_first such (map without_files runs) ≡ oldest_such such runs
first-same such runs = ap reverse (such-same such runs)

all-kept : (runs : List KnownRun) → filter (λ (r : KnownRun). true) runs ≡ runs
all-kept [] = refl
all-kept (r ∷ runs) = ap (λ rs. r ∷ rs) (all-kept runs)

module _ (s : TableSchema) (g : Group) (entries : List Entry) (runs : ℕ → List KnownRun) (n : ℕ) where
  pub to-stand : StandForRows s entries n g (map without_files (runs n)) → Stand (meaning_of s) (top_of s) (group_rows s g entries) n (state_at entries g runs n)
  to-stand stand = record {
    all = subst (λ (rs : List Run). Covers (meaning_of s) rs (rows_in s g (rows_up_to entries n))) (first-same (λ level. true) (runs n) ∙ ap from_oldest (all-kept (runs n))) stand.all;
    above_zero = subst (λ (rs : List Run). Covers (meaning_of s) rs (rows_in s g (rows_up_to entries (compacted false entries n g)))) (first-same (λ level. nat_lt 0 level) (runs n)) stand.above_zero;
    at_zero = subst (λ (rs : List Run). CoversAll (meaning_of s) rs (rows_in s g (rows_after entries (compacted false entries n g) n))) (first-same (λ level. level == 0) (runs n)) stand.at_zero;
    at_top = subst (λ (rs : List Run). Covers (meaning_of s) rs (rows_in s g (rows_up_to entries (compacted true entries n g)))) (first-same (λ level. level == top_of s) (runs n)) stand.at_top;
    below_top = subst (λ (rs : List Run). CoversAll (meaning_of s) rs (rows_in s g (rows_after entries (compacted true entries n g) n))) (first-same (λ level. nat_lt level (top_of s)) (runs n)) stand.below_top;
  }

  pub from-stand : Stand (meaning_of s) (top_of s) (group_rows s g entries) n (state_at entries g runs n) → StandForRows s entries n g (map without_files (runs n))
  from-stand stand = record {
    all = subst (λ (rs : List Run). Covers (meaning_of s) rs (rows_in s g (rows_up_to entries n))) (sym (first-same (λ level. true) (runs n) ∙ ap from_oldest (all-kept (runs n)))) stand.all;
    above_zero = subst (λ (rs : List Run). Covers (meaning_of s) rs (rows_in s g (rows_up_to entries (compacted false entries n g)))) (sym (first-same (λ level. nat_lt 0 level) (runs n))) stand.above_zero;
    at_zero = subst (λ (rs : List Run). CoversAll (meaning_of s) rs (rows_in s g (rows_after entries (compacted false entries n g) n))) (sym (first-same (λ level. level == 0) (runs n))) stand.at_zero;
    at_top = subst (λ (rs : List Run). Covers (meaning_of s) rs (rows_in s g (rows_up_to entries (compacted true entries n g)))) (sym (first-same (λ level. level == top_of s) (runs n))) stand.at_top;
    below_top = subst (λ (rs : List Run). CoversAll (meaning_of s) rs (rows_in s g (rows_after entries (compacted true entries n g) n))) (sym (first-same (λ level. nat_lt level (top_of s)) (runs n))) stand.below_top;
  }

-- what was taken was there at the base
pub taken-there : (runs : ℕ → List KnownRun) (t : Taking) → runs t.base ≡ t.taken ++ t.rest → (r : KnownRun) → IsIn r t.taken → IsIn r (runs t.base)
taken-there runs t was r there = subst (IsIn r) (sym was) (in-left r t.taken t.rest there)

-- ---- a succession is a life

module _ (s : TableSchema) (g : Group) (entries : List Entry) (since : ℕ) (runs : ℕ → List KnownRun) (is : IsSuccession s g entries since runs) where
  abbrev states : ℕ → State
  states n = state_at entries g runs n

  abbrev last : ℕ
  last = length entries

  no-rows : (e : Entry) (b : ℕ) → base_of false g e ≡ Some b → rows_in s g (entry_rows e) ≡ []
  no-rows (append user identifier rows) b is = cc
  no-rows (fence number) b is = refl
  no-rows (compaction base groups) b is = refl

  -- an entry with rows of the group is no compaction
  pub no-base : (e : Entry) → rows_in s g (entry_rows e) ≢ [] → base_of false g e ≡ None
  no-base (append user identifier rows) some = refl
  no-base (fence number) some = refl
  no-base (compaction base groups) some = absurd (some refl)

  pub none-whole : (e : Entry) → base_of false g e ≡ None → base_of true g e ≡ None
  none-whole (append user identifier rows) is = refl
  none-whole (fence number) is = refl
  none-whole (compaction base groups) is = at (is_named true g groups) (is_named false g groups) (whole-named g groups) is
    where
      at : (one two : Bool) → (one ≡ true → two ≡ true) → cond two (Some base) None ≡ None → cond one (Some base) None ≡ None
      at true true named e = cc
      at true false named e = absurd (let f = named refl in cc)
      at false two named e = refl

  more-is : (wholly : Bool) (n : ℕ) (e : Entry) (o : Option ℕ) → slice_get entries n ≡ Some e → base_of wholly g e ≡ o
      → compacted wholly entries (suc n) g ≡ with_base o (compacted wholly entries n g)
  more-is wholly n e o entry base = compacted-more wholly g entries n e entry ∙ ap (λ o. with_base o (compacted wholly entries n g)) base

  pub state-same : (a b : State) → a.runs ≡ b.runs → a.zero ≡ b.zero → a.top ≡ b.top → a ≡ b
  state-same a b one two three = λ i. record { runs = one i; zero = two i; top = three i }

  -- a new run isn't among the earlier ones
  first-file : (files : List FileMeta) → files ≢ [] → (m : FileMeta) × Contains files m
  first-file [] some = absurd (some refl)
  first-file (m ∷ files) some = (m, (0, omega arith, refl))

  new-not : (n : ℕ) (r : KnownRun) → IsNew since runs n r → (k : ℕ) → since ≤ k → k ≤ n → IsIn r (runs k) → ⊥
  new-not n r new k from low there = let m = first-file r.files new.some in new.names k r m.0 m.0 from low there m.1 m.1 refl

  newest-one : (taken rs : List KnownRun) → AllByRecursion (HasNewestOf taken) rs
      → AllByRecursion (λ (r : KnownRun). (t : KnownRun) × IsIn t taken × (r.newest ≡ t.newest)) rs
  newest-one taken [] all = tt
  newest-one taken (r ∷ rs) all = (all.0.one, newest-one taken rs all.1)

  all-new : (n : ℕ) (rs : List KnownRun) → AllByRecursion (IsNew since runs n) rs
      → AllByRecursion (λ (r : KnownRun). (k : ℕ) → since ≤ k → k ≤ n → IsIn r (runs k) → ⊥) rs
  all-new n [] all = tt
  all-new n (r ∷ rs) all = (new-not n r all.0, all-new n rs all.1)

  to-step : (n : ℕ) (e : Entry) → slice_get entries n ≡ Some e → Follows s g since runs n e (runs (suc n))
      → Step (meaning_of s) (top_of s) since (group_rows s g entries) states n (states n) (states (suc n))
  to-step n e entry (unchanged same base none) =
      life.stays (state-same (states (suc n)) (states n) same (more-is false n e None entry base) (more-is true n e None entry (none-whole e base)))
      (since-one s g entries n e entry ∙ none)
  to-step n e entry (grown run is_new level newest fresh some covers) =
      life.appended run level newest (new-not n run fresh)
      (subst (CoversAll (meaning_of s) (run.rows ∷ [])) (sym (since-one s g entries n e entry)) covers)
      is_new (more-is false n e None entry (no-base e some)) (more-is true n e None entry (none-whole e (no-base e some)))
  to-step n e entry (replaced c) = life.compacted (record {
    base = c.taking.base;
    from = c.took.from;
    after_origin = c.took.after_origin;
    before = c.took.to;
    taken = c.taking.taken;
    rest = c.taking.rest;
    out = c.taking.out;
    within = c.took.within;
    took = record { was = c.took.was; some = c.took.some; low = c.took.low; high = c.took.high; positive = c.took.positive };
    later = c.later;
    older = c.older;
    made = c.made;
    was = c.was;
    is = c.put.is;
    new = c.put.levels;
    newest = newest-one c.taking.taken c.made c.newest;
    fresh = all-new n c.made c.fresh;
    replaces = c.put.place;
    zero = more-is false n e (Some c.taking.base) entry c.put.named;
    whole = elim c.put.whole as (λ _. ((c.taking.out ≡ top_of s) × ((states (suc n)).top ≡ max (states n).top c.taking.base)) ⊎ ((c.taking.out < top_of s) × ((states (suc n)).top ≡ (states n).top))) [
      | inl w ↦ inl (w.0, more-is true n e (Some c.taking.base) entry w.1)
      | inr w ↦ inr (w.0, more-is true n e None entry w.1)
    ];
    none = since-one s g entries n e entry ∙ no-rows e c.taking.base c.put.named;
  })

  below-or : (n : ℕ) → n ≤ last → (compacted false entries n g < n) ⊎ (n ≡ 0)
  below-or zero within = inr refl
  below-or (suc n) within = inl (let low = compacted-below false g entries is.bases n within in omega (arith, low))

  grows-to : (n k : ℕ) → n ≤ k → k ≤ last → compacted false entries n g ≤ compacted false entries k g
  grows-to n k low within =
      let same : n + (k - n) ≡ k = omega (arith, low) in
      subst (λ j. compacted false entries n g ≤ compacted false entries j g) same (compacted-grows false g entries n (k - n) (omega (arith, low, within)))

  pub to-life : IsLife (meaning_of s) (top_of s) since (group_rows s g entries) states last
  to-life = record {
    stand = λ n low high. to-stand s g entries runs n (is.known n low high).stand;
    once = λ n low high. (is.known n low high).once;
    known = λ n low high. (is.known n low high).newest;
    levels = λ n low high. (is.known n low high).levels;
    bases = λ n low high. below-or n high;
    tops = λ n low high. whole-below entries g n high;
    grows = λ n k low up high. grows-to n k up high;
    steps = λ n low below. (let e = has-entry entries n below in to-step n e.0 e.1 (is.follows n e.0 low e.1));
  }

  -- ---- a file that is live tells its run

  new-at : (n : ℕ) (t : KnownRun) (rs : List KnownRun) → AllByRecursion (IsNew since runs n) rs → IsIn t rs → IsNew since runs n t
  new-at n t rs all there = all-in (IsNew since runs n) t rs all there

  -- a run of a snapshot is one of the snapshot before, or new
  or-new : (n : ℕ) (e : Entry) (t : KnownRun) → Follows s g since runs n e (runs (suc n)) → IsIn t (runs (suc n)) → IsIn t (runs n) ⊎ IsNew since runs n t
  or-new n e t (unchanged same base none) there = inl (subst (IsIn t) same there)
  or-new n e t (grown run is_new level newest fresh some covers) there = elim (in-cons t run (runs n) (subst (IsIn t) is_new there)) as (λ _. IsIn t (runs n) ⊎ IsNew since runs n t) [
    | inl one ↦ inr (subst (IsNew since runs n) (sym one) fresh)
    | inr l ↦ inl l
  ]
  or-new n e t (replaced c) there = elim (in-or t c.later (c.made ++ c.older) (subst (IsIn t) c.put.is there)) as (λ _. IsIn t (runs n) ⊎ IsNew since runs n t) [
    | inl l ↦ inl (subst (IsIn t) (sym c.was) (in-left t c.later (c.taking.taken ++ c.older) l))
    | inr others ↦ elim (in-or t c.made c.older others) as (λ _. IsIn t (runs n) ⊎ IsNew since runs n t) [
      | inl l ↦ inr (new-at n t c.made c.fresh l)
      | inr l ↦ inl (subst (IsIn t) (sym c.was) (in-right t c.later (c.taking.taken ++ c.older) (in-right t c.taking.taken c.older l)))
    ]
  ]

  -- a later run with a file of the name of one of the base's is a run of the base
  from-base : (base d n : ℕ) → n ≡ base + d → since ≤ base → n ≤ last → (r t : KnownRun) (a b : FileMeta) → IsIn r (runs base) → IsIn t (runs n) → Contains r.files a → Contains t.files b
      → b.name ≡ a.name → IsIn t (runs base)
  from-base base zero n is from within r t a b one two in_r in_t name = subst (λ k. IsIn t (runs k)) (let same : n ≡ base = omega (arith, is) in same) two
  from-base base (suc d) zero is from within r t a b one two in_r in_t name = absurd (omega (arith, is))
  from-base base (suc d) (suc n) is_n from within r t a b one two in_r in_t name =
      let e = has-entry entries n (omega (arith, within)) in
      step (or-new n e.0 t (is.follows n e.0 (omega (arith, is_n, from)) e.1) two)
      (λ before. from-base base d n (omega (arith, is_n)) from (omega (arith, within)) r t a b one before in_r in_t name)
    where
      step : IsIn t (runs n) ⊎ IsNew since runs n t → (IsIn t (runs n) → IsIn t (runs base)) → IsIn t (runs base)
      step (inl before) go = go before
      step (inr new) go = absurd (new.names base r b a from (omega (arith, is_n)) one in_t in_r name)

  pub still-there : (base : ℕ) (taken : List KnownRun) → since ≤ base → base ≤ last → ((r : KnownRun) → IsIn r taken → IsIn r (runs base)) → HaveFilesIn taken (runs last)
      → (r : KnownRun) → IsIn r taken → IsIn r (runs last)
  still-there base taken from within at_base have r in_taken =
      let h = have r in_taken in
      let t : KnownRun = h.0 in
      let one = at_base r in_taken in
      let two = from-base base (last - base) last (omega (arith, within)) from (omega arith) r t h.1 h.2 one h.3 h.4 h.5 (sym h.6) in
      let same = (is.known base from within).told r t h.1 h.2 one two h.4 h.5 h.6 h.7 in
      in-same r t (runs last) same h.3

  -- ---- a compaction

  module _ (added : AddedAll) (t : Taking) (took : IsTaken s since runs last t) where
    took-at : Took (states t.base) t.taken t.rest t.out
    took-at = record { was = took.was; some = took.some; low = took.low; high = took.high; positive = took.positive }

    abbrev Up : Type 0
    Up = CaughtUp (meaning_of s) (group_rows s g entries) states t.base t.taken t.rest t.out last

    pub still : ((r : KnownRun) → IsIn r t.taken → IsIn r (runs last)) → StillStands s g entries runs t
    still there =
        let up : Up = caught-up added (meaning_of s) (top_of s) since last (group_rows s g entries) states to-life t.base t.out t.taken t.rest took.from took.after_origin took.within took-at took.to there in record {
          later = up.later;
          older = up.older;
          is = up.is;
          covers = up.covers;
          covers_later = up.covers_later;
          below = up.below;
          high = up.high;
          newer = up.newer;
          known = up.known;
          between = up.position;
          whole_below = up.tops;
          whole = up.same_top;
        }

    -- once they are replaced
    module _ (e : Entry) (made new : List KnownRun) (st : StillStands s g entries runs t) (put : IsReplaced s g e t st.later st.older made new) where
      abbrev longer : List Entry
      longer = entries ++ e ∷ []

      size : length longer ≡ suc last
      size = length-append entries (e ∷ []) ∙ (let next : last + 1 ≡ suc last = omega arith in next)

      entry : slice_get longer last ≡ Some e
      entry = last-entry entries e

      first : (k : ℕ) → k ≤ last → take k longer ≡ take k entries
      first k low = take-append-le k entries (e ∷ []) low

      same-up : (k : ℕ) → k ≤ last → rows_in s g (rows_up_to longer k) ≡ rows_in s g (rows_up_to entries k)
      same-up k low = ap (λ es. rows_in s g (flat_map entry_rows es)) (first k low)

      same-after : (a k : ℕ) → k ≤ last → rows_in s g (rows_after longer a k) ≡ rows_in s g (rows_after entries a k)
      same-after a k low = ap (λ es. rows_in s g (flat_map entry_rows (drop a es))) (first k low)

      same-base : (wholly : Bool) (k : ℕ) → k ≤ last → compacted wholly longer k g ≡ compacted wholly entries k g
      same-base wholly k low = ap (λ es. greatest (filter_map (base_of wholly g) es)) (first k low)

      no-more : rows_in s g (rows_after longer last (suc last)) ≡ []
      no-more = since-one s g longer last e entry ∙ no-rows e t.base put.named

      zero-is : compacted false longer (suc last) g ≡ max (compacted false entries last g) t.base
      zero-is = compacted-more false g longer last e entry ∙ ap (λ o. with_base o (compacted false longer last g)) put.named
          ∙ ap (λ k. max k t.base) (same-base false last (omega arith))

      top-is : ((t.out ≡ top_of s) × (compacted true longer (suc last) g ≡ max (compacted true entries last g) t.base))
          ⊎ ((t.out < top_of s) × (compacted true longer (suc last) g ≡ compacted true entries last g))
      top-is = elim put.whole as (λ _. ((t.out ≡ top_of s) × (compacted true longer (suc last) g ≡ max (compacted true entries last g) t.base))
          ⊎ ((t.out < top_of s) × (compacted true longer (suc last) g ≡ compacted true entries last g))) [
            | inl w ↦ inl (w.0, compacted-more true g longer last e entry ∙ ap (λ o. with_base o (compacted true longer last g)) w.1 ∙ ap (λ k. max k t.base) (same-base true last (omega arith)))
            | inr w ↦ inr (w.0, compacted-more true g longer last e entry ∙ ap (λ o. with_base o (compacted true longer last g)) w.1 ∙ same-base true last (omega arith))
          ]

      -- no entry comes after the last
      past-last : rows_in s g (rows_after entries last (suc last)) ≡ []
      past-last =
          ap (λ es. rows_in s g (flat_map entry_rows (drop last es))) (take_all (suc last) entries (omega arith) ∙ sym (take_all last entries (omega arith)))
          ∙ ap (λ es. rows_in s g (flat_map entry_rows es)) (none-between entries last)

      zero-within : compacted false entries last g ≤ last
      zero-within = elim (below-or last (omega arith)) as (λ _. compacted false entries last g ≤ last) [
        | inl low ↦ omega (arith, low)
        | inr none ↦ absurd (let origin = took.after_origin in let bound = took.to in omega (arith, none, origin, bound))
      ]

      both-within : (a : ℕ) → a ≤ last → max a t.base ≤ last
      both-within a low = at a t.base low took.to
        where
          at : (a b : ℕ) → a ≤ last → b ≤ last → max a b ≤ last
          at a b p q = grind (arith, nat_tests)

      top-within : compacted true entries last g ≤ last
      top-within = (let one = whole-below entries g last (omega arith) in let two = zero-within in omega (arith, one, two))

      zero-low : compacted false longer (suc last) g ≤ last
      zero-low = subst (λ k. k ≤ last) (sym zero-is) (both-within (compacted false entries last g) zero-within)

      top-low : compacted true longer (suc last) g ≤ last
      top-low = elim top-is as (λ _. compacted true longer (suc last) g ≤ last) [
        | inl w ↦ subst (λ k. k ≤ last) (sym w.1) (both-within (compacted true entries last g) top-within)
        | inr w ↦ (let low = top-within in let is = w.1 in omega (arith, low, is))
      ]

      -- the same rows, by the longer history
      up-longer : (k : ℕ) → k ≤ last → rows_in s g (rows_up_to entries k) ≡ rows_in s g (rows_up_to longer k)
      up-longer k low = sym (same-up k low)

      up-all : rows_in s g (rows_up_to entries (suc last)) ≡ rows_in s g (rows_up_to longer (suc last))
      up-all =
          rows-joined s g entries 0 last (suc last) (omega arith) (omega arith) ∙ ap (λ xs. rows_in s g (rows_after entries 0 last) ++ xs) past-last
          ∙ ap (λ xs. xs ++ []) (sym (same-after 0 last (omega arith)))
          ∙ sym (rows-joined s g longer 0 last (suc last) (omega arith) (omega arith) ∙ ap (λ xs. rows_in s g (rows_after longer 0 last) ++ xs) no-more)

      after-all : (a : ℕ) → a ≤ last → rows_in s g (rows_after entries a (suc last)) ≡ rows_in s g (rows_after longer a (suc last))
      after-all a low =
          rows-joined s g entries a last (suc last) low (omega arith) ∙ ap (λ xs. rows_in s g (rows_after entries a last) ++ xs) past-last
          ∙ ap (λ xs. xs ++ []) (sym (same-after a last (omega arith)))
          ∙ sym (rows-joined s g longer a last (suc last) low (omega arith) ∙ ap (λ xs. rows_in s g (rows_after longer a last) ++ xs) no-more)

      abbrev up_at : Up
      up_at = record {
        later = st.later;
        older = st.older;
        is = st.is;
        covers = st.covers;
        covers_later = st.covers_later;
        newer = st.newer;
        known = st.known;
        below = st.below;
        high = st.high;
        position = st.between;
        tops = st.whole_below;
        same_top = st.whole;
      }

      abbrev next : State
      next = record { runs = new; zero = compacted false longer (suc last) g; top = compacted true longer (suc last) g }

      stands-next : Stand (meaning_of s) (top_of s) (group_rows s g entries) (suc last) next
      stands-next = stand-now (meaning_of s) (top_of s) since last (group_rows s g entries) states to-life t.base t.out t.taken t.rest took.from took.after_origin took.to took.within took-at up_at made next
          put.is put.levels put.place past-last zero-is top-is

      pub stands-longer : StandForRows s longer (suc last) g (map without_files new)
      stands-longer = from-stand s g longer (λ k. new) (suc last) (record {
        all = subst (Covers (meaning_of s) (from_oldest new)) up-all stands-next.all;
        above_zero = subst (Covers (meaning_of s) (oldest_such (λ level. nat_lt 0 level) new)) (up-longer (compacted false longer (suc last) g) zero-low) stands-next.above_zero;
        at_zero = subst (CoversAll (meaning_of s) (oldest_such (λ level. level == 0) new)) (after-all (compacted false longer (suc last) g) zero-low) stands-next.at_zero;
        at_top = subst (Covers (meaning_of s) (oldest_such (λ level. level == top_of s) new)) (up-longer (compacted true longer (suc last) g) top-low) stands-next.at_top;
        below_top = subst (CoversAll (meaning_of s) (oldest_such (λ level. nat_lt level (top_of s)) new)) (after-all (compacted true longer (suc last) g) top-low) stands-next.below_top;
      })
