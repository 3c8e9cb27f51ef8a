-- A succession goes on by what follows.
use Rattle.std.proofs.Common.{◌≡◌, ◌≢◌, ◌⊎◌, inl, inr, ℕ, zero, suc, ◌+◌, ◌<◌, ◌≤◌, ◌==◌, nat_le, nat_lt, List, [], ◌∷◌, ◌++◌, map, take, drop, length, length-append, slice_get, Contains, Bool, true, false, Some, None, refl, sym, ap, subst, ◌∙◌, arith}
use Rattle.std.specs.List.{AllByRecursion, filter_map, flat_map}
use Rattle.std.proofs.lemmas.Bool.Decides.{nat_tests}
use Rattle.std.proofs.lemmas.List.{take-append-le}
use Rattle.pm_values.specs.declared.file_meta.FileMeta.{FileMeta}
use Rattle.pm_values.specs.declared.group.Group.{Group}
use Rattle.pm_model_history.specs.History.{Entry, entry_rows, rows_up_to}
use Rattle.pm_schema.specs.declared.schema.TableSchema.{TableSchema}
use Rattle.pm_engine.specs.Covers.{Covers, CoversAll}
use Rattle.pm_engine.specs.OfSchema.{meaning_of}
use Rattle.pm_model_following.specs.Following.{HaveBases, base_of, compacted, greatest}
use Rattle.pm_model_following.specs.Groups.{rows_in}
use Rattle.pm_runs.specs.Stand.{StandForRows, StoredRun, oldest_first, rows_after, top_of}
use Rattle.pm_runs.specs.Succession.{AreKnownAt, Compacts, FilesTellRuns, Follows, HasNewestOf, IsNew, IsReplaced, IsSuccession, IsTaken, KnownRun, StandOnce, StillStands, Taking, without_files, unchanged, grown, replaced}
use Rattle.pm_runs.proofs.Life.{AddedAll, AddedSome, IsIn, Stand, State}
use Rattle.pm_runs.proofs.RunLemmas.{all-in, all-of, in-cons, in-left, in-none, in-or, in-right, once-put, one-place, stand-grown, stand-stays}
use Rattle.pm_runs.proofs.SuccessionLemmas.{compacted-below, compacted-more, from-stand, group_rows, last-entry, no-base, none-whole, since-one, stands-longer, state-same, state_at, still, to-stand, with_base}

-- ---- runs that come

-- what is known of a run that came with the entry after the first so many; only one such comes
pub record IsNext (s : TableSchema) (since : ℕ) (runs : ℕ → List KnownRun) (n : ℕ) (one r : KnownRun) : Type 0 where
  pub same : r ≡ one
  pub fresh : IsNew since runs n r
  pub newest : r.newest ≤ suc n
  pub level : r.level ≤ top_of s

abbrev no_run : KnownRun
no_run = record { level = 0; files = []; newest = 0; rows = [] }

abbrev first_of : List KnownRun → KnownRun
first_of [] = no_run
first_of (r ∷ runs) = r

made-one : (made : List KnownRun) (r : KnownRun) → length made ≤ 1 → IsIn r made → r ≡ first_of made
made-one [] r few there = absurd (in-none r there)
made-one (x ∷ []) r few there = elim (in-cons r x [] there) as (λ _. r ≡ x) [
  | inl e ↦ e
  | inr none ↦ absurd (in-none r none)
]
made-one (x ∷ y ∷ made) r few there = absurd (omega (arith, few))

has-within : (xs : List Entry) (k : ℕ) (x : Entry) → slice_get xs k ≡ Some x → k < length xs
has-within [] zero x has = cc
has-within [] (suc k) x has = cc
has-within (y ∷ xs) zero x has = omega arith
has-within (y ∷ xs) (suc k) x has = (let below = has-within xs k x has in omega (arith, below))

-- ---- runs that are the same up to a snapshot

module _ (s : TableSchema) (g : Group) (since size : ℕ) (runs later : ℕ → List KnownRun) (same : (k : ℕ) → k ≤ size → later k ≡ runs k) where
  -- runs that are new among the earlier ones are new among these
  new-moved : (k : ℕ) (r : KnownRun) → k ≤ size → IsNew since runs k r → IsNew since later k r
  new-moved k r low new = record {
    some = new.some;
    names = λ j t a b from within there in_r in_t. new.names j t a b from within (subst (IsIn t) (same j (omega (arith, within, low))) there) in_r in_t;
  }

  all-moved : (k : ℕ) (rs : List KnownRun) → k ≤ size → AllByRecursion (IsNew since runs k) rs → AllByRecursion (IsNew since later k) rs
  all-moved k [] low all = tt
  all-moved k (r ∷ rs) low all = (new-moved k r low all.0, all-moved k rs low all.1)

  took-moved : (k : ℕ) (t : Taking) → k ≤ size → IsTaken s since runs k t → IsTaken s since later k t
  took-moved k t low took = record {
    from = took.from;
    after_origin = took.after_origin;
    to = took.to;
    was = same t.base (let early = took.to in omega (arith, early, low)) ∙ took.was;
    some = took.some;
    positive = took.positive;
    within = took.within;
    low = took.low;
    high = took.high;
  }

  follows-moved : (k : ℕ) (x : Entry) (new : List KnownRun) → k ≤ size → Follows s g since runs k x new → Follows s g since later k x new
  follows-moved k x new low (unchanged is_same base none) = unchanged (is_same ∙ sym (same k low)) base none
  follows-moved k x new low (grown run is_new level newest fresh some covers) =
      grown run (is_new ∙ ap (λ rs. run ∷ rs) (sym (same k low))) level newest (new-moved k run low fresh) some covers
  follows-moved k x new low (replaced c) = replaced (record {
    taking = c.taking;
    took = took-moved k c.taking low c.took;
    later = c.later;
    older = c.older;
    made = c.made;
    was = same k low ∙ c.was;
    put = c.put;
    newest = c.newest;
    fresh = all-moved k c.made low c.fresh;
  })

-- so a succession is one of the runs up to the newest snapshot alone
pub moved : (s : TableSchema) (g : Group) (entries : List Entry) (since : ℕ) (runs later : ℕ → List KnownRun) → IsSuccession s g entries since runs
    → ((k : ℕ) → k ≤ length entries → later k ≡ runs k) → IsSuccession s g entries since later
moved s g entries since runs later is same = record {
  bases = is.bases;
  known = λ k low high. subst (AreKnownAt s g entries k) (sym (same k high)) (is.known k low high);
  follows = λ k x low has.
      let within = has-within entries k x has in
      subst (Follows s g since later k x) (sym (same (suc k) (omega (arith, within))))
      (follows-moved s g since (length entries) runs later same k x (runs (suc k)) (omega (arith, within)) (is.follows k x low has));
}

-- ---- one entry more

module _ (s : TableSchema) (g : Group) (entries : List Entry) (since : ℕ) (runs : ℕ → List KnownRun) (e : Entry) (is : IsSuccession s g entries since runs) where
  abbrev size_ : ℕ
  size_ = length entries

  abbrev grown_list : List Entry
  grown_list = entries ++ e ∷ []

  long : length grown_list ≡ suc size_
  long = length-append entries (e ∷ []) ∙ (let next : size_ + 1 ≡ suc size_ = omega arith in next)

  first-of : (k : ℕ) → k ≤ size_ → take k grown_list ≡ take k entries
  first-of k low = take-append-le k entries (e ∷ []) low

  base-of : (wholly : Bool) (k : ℕ) → k ≤ size_ → compacted wholly grown_list k g ≡ compacted wholly entries k g
  base-of wholly k low = ap (λ es. greatest (filter_map (base_of wholly g) es)) (first-of k low)

  base-low : (wholly : Bool) (k : ℕ) → k ≤ size_ → compacted wholly entries k g ≤ size_
  base-low wholly zero low = omega arith
  base-low wholly (suc k) low = (let below = compacted-below wholly g entries is.bases k low in omega (arith, below, low))

  up-of : (k : ℕ) → k ≤ size_ → rows_in s g (rows_up_to grown_list k) ≡ rows_in s g (rows_up_to entries k)
  up-of k low = ap (λ es. rows_in s g (flat_map entry_rows es)) (first-of k low)

  after-of : (a k : ℕ) → k ≤ size_ → rows_in s g (rows_after grown_list a k) ≡ rows_in s g (rows_after entries a k)
  after-of a k low = ap (λ es. rows_in s g (flat_map entry_rows (drop a es))) (first-of k low)

  -- at an earlier snapshot the runs stand for the same rows
  stand-first : (k : ℕ) (stored : List StoredRun) → k ≤ size_ → StandForRows s entries k g stored → StandForRows s grown_list k g stored
  stand-first k stored low st = record {
    all = subst (Covers (meaning_of s) (oldest_first (λ level. true) stored)) (sym (up-of k low)) st.all;
    above_zero = subst (Covers (meaning_of s) (oldest_first (λ level. nat_lt 0 level) stored))
        (sym (ap (λ j. rows_in s g (rows_up_to grown_list j)) (base-of false k low) ∙ up-of (compacted false entries k g) (base-low false k low))) st.above_zero;
    at_zero = subst (CoversAll (meaning_of s) (oldest_first (λ level. level == 0) stored))
        (sym (ap (λ j. rows_in s g (rows_after grown_list j k)) (base-of false k low) ∙ after-of (compacted false entries k g) k low)) st.at_zero;
    at_top = subst (Covers (meaning_of s) (oldest_first (λ level. level == top_of s) stored))
        (sym (ap (λ j. rows_in s g (rows_up_to grown_list j)) (base-of true k low) ∙ up-of (compacted true entries k g) (base-low true k low))) st.at_top;
    below_top = subst (CoversAll (meaning_of s) (oldest_first (λ level. nat_lt level (top_of s)) stored))
        (sym (ap (λ j. rows_in s g (rows_after grown_list j k)) (base-of true k low) ∙ after-of (compacted true entries k g) k low)) st.below_top;
  }

  module _ (later : ℕ → List KnownRun) (same : (k : ℕ) → k ≤ length entries → later k ≡ runs k)
      (follows : Follows s g since runs (length entries) e (later (suc (length entries)))) where
    at-most-or : (k : ℕ) → k ≤ suc size_ → (k ≤ size_) ⊎ (k ≡ suc size_)
    at-most-or k within = elim (nat_le k size_) as (λ t. nat_le k size_ ≡ t → (k ≤ size_) ⊎ (k ≡ suc size_)) [
      | true ↦ λ is_low. inl (grind (arith, nat_tests))
      | false ↦ λ is_high. inr (grind (arith, nat_tests))
    ] refl

    -- of an earlier snapshot, or of the last
    each-of : (P : ℕ → List KnownRun → Type 0) → ((k : ℕ) → since ≤ k → k ≤ size_ → P k (runs k)) → P (suc size_) (later (suc size_))
        → (k : ℕ) → since ≤ k → k ≤ length grown_list → P k (later k)
    each-of P before last_one k low high = elim (at-most-or k (omega (arith, high, long))) as (λ _. P k (later k)) [
      | inl first_one ↦ subst (P k) (sym (same k first_one)) (before k low first_one)
      | inr is_last ↦ subst (λ j. P j (later j)) (sym is_last) last_one
    ]

    some-is : (a b : Entry) → Some a ≡ Some b → a ≡ b
    some-is a b is_same = cc

    get-first : (xs : List Entry) (k : ℕ) → k < length xs → slice_get (xs ++ e ∷ []) k ≡ slice_get xs k
    get-first [] k below = absurd (omega (arith, below))
    get-first (x ∷ xs) zero below = refl
    get-first (x ∷ xs) (suc k) below = get-first xs k (omega (arith, below))

    follows-all : (k : ℕ) (x : Entry) → since ≤ k → slice_get grown_list k ≡ Some x → Follows s g since later k x (later (suc k))
    follows-all k x low has = elim (at-most-or (suc k) (let below = has-within grown_list k x has in omega (arith, below, long))) as (λ _. Follows s g since later k x (later (suc k))) [
      | inl first_one ↦
          let entry = sym (get-first entries k (omega (arith, first_one))) ∙ has in
          let moved = follows-moved s g since size_ runs later same k x (runs (suc k)) (omega (arith, first_one)) (is.follows k x low entry) in
          subst (Follows s g since later k x) (sym (same (suc k) first_one)) moved
      | inr is_last ↦ last-follows k x (omega (arith, is_last)) has
    ]
      where
        last-follows : (k : ℕ) (x : Entry) → k ≡ size_ → slice_get grown_list k ≡ Some x → Follows s g since later k x (later (suc k))
        last-follows k x is_last has =
            let one : x ≡ e = some-is x e (sym has ∙ ap (slice_get grown_list) is_last ∙ last-entry entries e) in
            let here = follows-moved s g since size_ runs later same size_ e (later (suc size_)) (omega arith) follows in
            subst (λ (y : Entry). Follows s g since later k y (later (suc k))) (sym one)
            (subst (λ j. Follows s g since later j e (later (suc j))) (sym is_last) here)

    -- ---- what is known of the runs then

    abbrev next_runs : List KnownRun
    next_runs = later (suc size_)

    module _ (from : since ≤ length entries) where
      here : AreKnownAt s g entries size_ (runs size_)
      here = is.known size_ from (omega arith)

      made-next : (c : Compacts s g since runs size_ e next_runs) (r : KnownRun) → IsIn r c.made → IsNext s since runs size_ (first_of c.made) r
      made-next c r there =
          let t = (all-in (HasNewestOf c.taking.taken) r c.made c.newest there).one in
          let was : IsIn t.0 (runs size_) = subst (IsIn t.0) (sym c.was) (in-right t.0 c.later (c.taking.taken ++ c.older) (in-left t.0 c.taking.taken c.older t.1)) in
          let low = all-in (λ (x : KnownRun). x.newest ≤ size_) t.0 (runs size_) here.newest was in
          let one = t.2 in
          let level = all-in (λ (x : KnownRun). x.level ≡ c.taking.out) r c.made c.put.levels there in
          let within = c.took.within in record {
            same = made-one c.made r c.put.one there;
            fresh = all-in (IsNew since runs size_) r c.made c.fresh there;
            newest = omega (arith, low, one);
            level = omega (arith, level, within);
          }

      abbrev Parted : KnownRun → KnownRun → Type 0
      Parted one r = IsIn r (runs size_) ⊎ IsNext s since runs size_ one r

      -- each run was there, or it is the one that came
      or-next : (one : KnownRun) × ((r : KnownRun) → IsIn r next_runs → Parted one r)
      or-next = at follows
        where
          at : Follows s g since runs size_ e next_runs → (one : KnownRun) × ((r : KnownRun) → IsIn r next_runs → Parted one r)
          at (unchanged is_same base none) = (no_run, λ r there. inl (subst (IsIn r) is_same there))
          at (grown run is_new level newest fresh some covers) = (
            run,
            λ r there. elim (in-cons r run (runs size_) (subst (IsIn r) is_new there)) as (λ _. Parted run r) [
              | inl one ↦ inr (record {
                same = one;
                fresh = subst (IsNew since runs size_) (sym one) fresh;
                newest = subst (λ (x : KnownRun). x.newest ≤ suc size_) (sym one) (omega (arith, newest));
                level = subst (λ (x : KnownRun). x.level ≤ top_of s) (sym one) (omega (arith, level));
              })
              | inr l ↦ inl l
            ],
          )
          at (replaced c) = (
            first_of c.made,
            λ r there. elim (in-or r c.later (c.made ++ c.older) (subst (IsIn r) c.put.is there)) as (λ _. Parted (first_of c.made) r) [
              | inl l ↦ inl (subst (IsIn r) (sym c.was) (in-left r c.later (c.taking.taken ++ c.older) l))
              | inr others ↦ elim (in-or r c.made c.older others) as (λ _. Parted (first_of c.made) r) [
                | inl m ↦ inr (made-next c r m)
                | inr o ↦ inl (subst (IsIn r) (sym c.was) (in-right r c.later (c.taking.taken ++ c.older) (in-right r c.taking.taken c.older o)))
              ]
            ],
          )

      told-next : FilesTellRuns next_runs
      told-next run other a b in_run in_other in_a in_b name level = at (or-next.1 run in_run) (or-next.1 other in_other)
        where
          at : Parted or-next.0 run → Parted or-next.0 other → run ≡ other
          at (inl l) (inl r) = here.told run other a b l r in_a in_b name level
          at (inl l) (inr new) = absurd (new.fresh.names size_ run b a from (omega arith) l in_b in_a (sym name))
          at (inr new) (inl r) = absurd (new.fresh.names size_ other a b from (omega arith) r in_a in_b name)
          at (inr new) (inr more) = new.same ∙ sym more.same

      newest-next : AllByRecursion (λ (r : KnownRun). r.newest ≤ suc size_) next_runs
      newest-next = all-of (λ (r : KnownRun). r.newest ≤ suc size_) next_runs (λ r there. at r (or-next.1 r there))
        where
          at : (r : KnownRun) → Parted or-next.0 r → r.newest ≤ suc size_
          at r (inl l) = let low = all-in (λ (x : KnownRun). x.newest ≤ size_) r (runs size_) here.newest l in omega (arith, low)
          at r (inr new) = new.newest

      levels-next : AllByRecursion (λ (r : KnownRun). r.level ≤ top_of s) next_runs
      levels-next = all-of (λ (r : KnownRun). r.level ≤ top_of s) next_runs (λ r there. at r (or-next.1 r there))
        where
          at : (r : KnownRun) → Parted or-next.0 r → r.level ≤ top_of s
          at r (inl l) = all-in (λ (x : KnownRun). x.level ≤ top_of s) r (runs size_) here.levels l
          at r (inr new) = new.level

      -- a run that is new wasn't there
      not-there : (r : KnownRun) → IsNew since runs size_ r → IsIn r (runs size_) → ⊥
      not-there r new there = at r.files new.some (λ a in_a. new.names size_ r a a from (omega arith) there in_a in_a refl)
        where
          at : (files : List FileMeta) → files ≢ [] → ((a : FileMeta) → Contains files a → ⊥) → ⊥
          at [] some none = some refl
          at (a ∷ files) some none = none a (0, omega arith, refl)

      once-next : StandOnce next_runs
      once-next = at follows
        where
          at : Follows s g since runs size_ e next_runs → StandOnce next_runs
          at (unchanged is_same base none) = subst StandOnce (sym is_same) here.once
          at (grown run is_new level newest fresh some covers) = subst StandOnce (sym is_new) (not-there run fresh, here.once)
          at (replaced c) =
              subst StandOnce (sym c.put.is)
              (once-put c.later c.taking.taken c.made c.older c.put.one
              (λ r in_made there. not-there r (all-in (IsNew since runs size_) r c.made c.fresh in_made) (subst (IsIn r) (sym c.was) there))
              (subst StandOnce c.was here.once))

      -- ---- and they stand for the rows

      module _ (some : AddedSome) (added : AddedAll) (positive : 1 ≤ top_of s) where
        entry : slice_get grown_list size_ ≡ Some e
        entry = last-entry entries e

        abbrev old_state : State
        old_state = state_at grown_list g runs size_

        old-stand : Stand (meaning_of s) (top_of s) (group_rows s g grown_list) size_ old_state
        old-stand = to-stand s g grown_list runs size_ (stand-first size_ (map without_files (runs size_)) (omega arith) here.stand)

        low : (wholly : Bool) → compacted wholly grown_list size_ g ≤ size_
        low wholly = subst (λ k. k ≤ size_) (sym (base-of wholly size_ (omega arith))) (base-low wholly size_ (omega arith))

        no-more : (wholly : Bool) → base_of wholly g e ≡ None → compacted wholly grown_list size_ g ≡ compacted wholly grown_list (suc size_) g
        no-more wholly base = sym (compacted-more wholly g grown_list size_ e entry ∙ ap (λ o. with_base o (compacted wholly grown_list size_ g)) base)

        -- runs that follow without a compaction of the group
        stand-runs : (new : List KnownRun) → next_runs ≡ new → base_of false g e ≡ None
            → Stand (meaning_of s) (top_of s) (group_rows s g grown_list) (suc size_) (record { runs = new; zero = old_state.zero; top = old_state.top })
            → StandForRows s grown_list (suc size_) g (map without_files next_runs)
        stand-runs new is_new base stand = from-stand s g grown_list later (suc size_)
            (subst (Stand (meaning_of s) (top_of s) (group_rows s g grown_list) (suc size_))
            (state-same s g entries since runs is (record { runs = new; zero = old_state.zero; top = old_state.top }) (state_at grown_list g later (suc size_))
            (sym is_new) (no-more false base) (no-more true (none-whole s g entries since runs is e base))) stand)

        stand-next : StandForRows s grown_list (suc size_) g (map without_files next_runs)
        stand-next = at follows
          where
            at : Follows s g since runs size_ e next_runs → StandForRows s grown_list (suc size_) g (map without_files next_runs)
            at (unchanged is_same base none) =
                stand-runs (runs size_) is_same base
                (stand-stays (meaning_of s) (top_of s) (group_rows s g grown_list) size_ old_state old-stand (low false) (low true)
                (since-one s g grown_list size_ e entry ∙ none))
            at (grown run is_new level newest fresh own covers) =
                stand-runs (run ∷ runs size_) is_new (no-base s g entries since runs is e own)
                (stand-grown (meaning_of s) (top_of s) (group_rows s g grown_list) size_ old_state old-stand (low false) (low true) some added run level positive
                (subst (CoversAll (meaning_of s) (run.rows ∷ [])) (sym (since-one s g grown_list size_ e entry)) covers))
            at (replaced c) =
                let st : StillStands s g entries runs c.taking = still s g entries since runs is added c.taking c.took
                (λ r there. subst (IsIn r) (sym c.was) (in-right r c.later (c.taking.taken ++ c.older) (in-left r c.taking.taken c.older there))) in
                let places = one-place c.later c.taking.taken c.older st.later st.older c.took.some (subst StandOnce c.was here.once)
                (subst StandOnce st.is here.once) (sym c.was ∙ st.is) in
                let put : IsReplaced s g e c.taking st.later st.older c.made next_runs =
                subst (λ (xs : List KnownRun). IsReplaced s g e c.taking st.later xs c.made next_runs) places.1
                (subst (λ (xs : List KnownRun). IsReplaced s g e c.taking xs c.older c.made next_runs) places.0 c.put) in
                stands-longer s g entries since runs is added c.taking c.took e c.made next_runs st put

        known-next : AreKnownAt s g grown_list (suc size_) next_runs
        known-next = record { stand = stand-next; once = once-next; told = told-next; newest = newest-next; levels = levels-next }

        -- what is known at an earlier snapshot is known there of the longer history
        known-first : (k : ℕ) → since ≤ k → k ≤ size_ → AreKnownAt s g grown_list k (runs k)
        known-first k low high = let was = is.known k low high in record {
          stand = stand-first k (map without_files (runs k)) high was.stand;
          once = was.once;
          told = was.told;
          newest = was.newest;
          levels = was.levels;
        }

        pub goes-on : HaveBases 1 grown_list → IsSuccession s g grown_list since later
        goes-on bases = record {
          bases = bases;
          known = each-of (λ k rs. AreKnownAt s g grown_list k rs) known-first known-next;
          follows = follows-all;
        }

-- ---- a group that stands

one-number : (n k : ℕ) → n ≤ k → k ≤ n → k ≡ n
one-number n k low high = omega (arith, low, high)

no-entry : (xs : List Entry) (k : ℕ) (x : Entry) → length xs ≤ k → slice_get xs k ≡ Some x → ⊥
no-entry [] zero x low has = cc
no-entry [] (suc k) x low has = cc
no-entry (y ∷ xs) zero x low has = omega (arith, low)
no-entry (y ∷ xs) (suc k) x low has = no-entry xs k x (omega (arith, low)) has

pub found : (s : TableSchema) (g : Group) (entries : List Entry) (runs : List KnownRun) → HaveBases 1 entries → AreKnownAt s g entries (length entries) runs
    → IsSuccession s g entries (length entries) (λ n. runs)
found s g entries runs bases known = record {
  bases = bases;
  known = λ k low high. subst (λ j. AreKnownAt s g entries j runs) (sym (one-number (length entries) k low high)) known;
  follows = λ k x low has. absurd (no-entry entries k x low has);
}
