-- The rows that a compaction tells of a group lie in it: were it published at once, they were the group's part of its change.
use Rattle.std.proofs.Common.{◌≡◌, inl, inr, ℕ, zero, suc, ◌+◌, ◌<◌, ◌≤◌, ◌==◌, nat_lt, max, Bool, true, false, cond, ◌||◌, ◌&&◌, not, List, [], ◌∷◌, ◌++◌, map, take, drop, length, Option, None, Some, Contains, refl, sym, ap, subst, ◌∙◌, arith}
use Rattle.std.specs.List.{AllByRecursion, cons_option, filter_map, flat_map, fold}
use Rattle.std.specs.Ordering.{eq_by_cmp}
use Rattle.std.proofs.lemmas.List.{length-take-le, take-take}
use Rattle.std.proofs.lemmas.List.Elements.{Contains-append_cases}
use Rattle.pm_values.specs.GroupOrder.{group_cmp}
use Rattle.pm_values.specs.Fits.{Fits}
use Rattle.pm_values.specs.declared.group.Group.{Group}
use Rattle.pm_options.specs.declared.kinds.Producer.{Producer}
use Rattle.pm_options.specs.declared.kinds.Producer.TheVariants as producers
use Rattle.pm_schema.specs.Rules.{partition_holds}
use Rattle.pm_schema.specs.declared.schema.TableSchema.{TableSchema}
use Rattle.pm_model_history.specs.History.{Entry, append, compaction, entry_rows, fence, rows_up_to}
use Rattle.pm_model_history.specs.Merge.{AllFit, HistoryRow}
use Rattle.pm_model_following.specs.Following.{HaveBases, base_of, change, compacted, greatest, is_named}
use Rattle.pm_model_following.specs.Groups.{group_of, rows_in}
use Rattle.pm_engine.specs.Covers.{Covers, CoversAll, Run}
use Rattle.pm_engine.specs.OfSchema.{meaning_of}
use Rattle.pm_model_changelog.specs.Log.{Compares, Passing, PassesOn, compaction_log, log_by, log_of}
use Rattle.pm_runs.specs.Stand.{StandForRows, oldest_first, rows_after, top_of}
use Rattle.pm_runs.specs.Succession.{KnownRun, without_files}
use Rattle.pm_model_folder.specs.Folder.{IsRowOf}
use Rattle.pm_paths.proofs.ListLemmas.{cases, here, more, nowhere}
use Rattle.pm_made.proofs.ListLemmas.{all-of, each-of}
use Rattle.pm_compaction.proofs.GroupLemmas.{GroupsTie, same-group}
use Rattle.pm_compaction.proofs.ListLemmas.{flat-in, in-flat}
use Rattle.pm_compaction.proofs.RowLemmas.{of-group}

-- a group's part of the change of an entry that passes its rows on is the log of these runs
abbrev pub LogLaw : Type 0
LogLaw = (s : TableSchema) (g : Group) (entries : List Entry) (e : Entry) (wholly : Bool) (p : Passing) → partition_holds s ≡ true
    → AllFit s.columns (flat_map entry_rows (entries ++ e ∷ [])) → Compares s.options.producer wholly → PassesOn s g entries e wholly p
    → rows_in s g (change s (entries ++ e ∷ []) (suc (length entries))) ≡ log_of s p.older p.newer

-- ---- the greatest base is below the entry's number

least-max : (a b n : ℕ) → a < n → b < n → max a b < n
least-max a b n first second = omega (arith, first, second)

some-base : (a b : ℕ) → Some a ≡ Some b → a ≡ b
some-base a b is = cc

entry-base : (wholly : Bool) (g : Group) (number : ℕ) (e : Entry) (entries : List Entry) → HaveBases number (e ∷ entries)
    → ((base : ℕ) → base_of wholly g e ≡ Some base → base < number) × HaveBases (number + 1) entries
entry-base wholly g number (append user identifier rows) entries have = (λ base is. absurd (let no : None ≡ Some base = is in cc), have)
entry-base wholly g number (fence n) entries have = (λ base is. absurd (let no : None ≡ Some base = is in cc), have)
entry-base wholly g number (compaction own groups) entries have = (λ base is. at (is_named wholly g groups) base is, have.1)
  where
    at : (t : Bool) (base : ℕ) → cond t (Some own) None ≡ Some base → base < number
    at true base is = subst (λ (n : ℕ). n < number) (some-base own base is) have.0
    at false base is = absurd (let no : None ≡ Some base = is in cc)

more-base : (a n : ℕ) (o : Option ℕ) (rest : List ℕ) → a < n → ((base : ℕ) → o ≡ Some base → base < n) → (b : ℕ) × (b < n) × (fold max a (cons_option o rest) ≡ fold max b rest)
more-base a n None rest low own = (a, low, refl)
more-base a n (Some base) rest low own = (max a base, least-max a base n low (own base refl), refl)

bases-below : (wholly : Bool) (g : Group) (number a : ℕ) (entries : List Entry) → a < number → HaveBases (number + 1) entries
    → fold max a (filter_map (base_of wholly g) entries) < number + length entries
bases-below wholly g number a [] low have = omega (arith, low)
bases-below wholly g number a (e ∷ entries) low have =
    let own = entry-base wholly g (number + 1) e entries have in
    let (b, less, is) = more-base a (number + 1) (base_of wholly g e) (filter_map (base_of wholly g) entries) (omega (arith, low)) own.0 in
    let rest = bases-below wholly g (number + 1) b entries less own.1 in
    subst (λ (n : ℕ). n < number + suc (length entries)) (sym is) (omega (arith, rest))

greatest-below : (wholly : Bool) (g : Group) (entries : List Entry) → 1 ≤ length entries → HaveBases 1 entries
    → greatest (filter_map (base_of wholly g) entries) < length entries
greatest-below wholly g [] some have = absurd (omega (arith, some))
greatest-below wholly g (e ∷ entries) some have =
    let own = entry-base wholly g 1 e entries have in
    let (b, less, is) = more-base 0 1 (base_of wholly g e) (filter_map (base_of wholly g) entries) (omega arith) own.0 in
    let rest = bases-below wholly g 1 b entries less own.1 in
    subst (λ (n : ℕ). n < suc (length entries)) (sym is) (omega (arith, rest))

first-bases : (number n : ℕ) (entries : List Entry) → HaveBases number entries → HaveBases number (take n entries)
first-bases number zero entries have = tt
first-bases number (suc n) [] have = tt
first-bases number (suc n) (append user identifier rows ∷ entries) have = first-bases (number + 1) n entries have
first-bases number (suc n) (fence x ∷ entries) have = first-bases (number + 1) n entries have
first-bases number (suc n) (compaction base groups ∷ entries) have = (have.0, first-bases (number + 1) n entries have.1)

-- ---- rows of the first entries

taken-in : {X : Type 0} (n : ℕ) (xs : List X) (x : X) → Contains (take n xs) x → Contains xs x
taken-in zero xs x h = absurd (nowhere x h)
taken-in (suc n) [] x h = absurd (nowhere x h)
taken-in {X} (suc n) (y ∷ xs) x h = elim (cases y (take n xs) x h) as (λ _. Contains (y ∷ xs) x) [
  | inl is ↦ subst (Contains (y ∷ xs)) is (here y xs)
  | inr later ↦ more y xs x (taken-in n xs x later)
]

-- a compaction has no rows
none-own : (base : ℕ) (groups : List (Group × Bool)) (e : Entry) (r : HistoryRow) → Contains (compaction base groups ∷ []) e → Contains (entry_rows e) r → ⊥
none-own base groups e r h own = elim (cases (compaction base groups) [] e h) as (λ _. ⊥) [
  | inl is ↦ nowhere r (subst (λ (e : Entry). Contains (entry_rows e) r) (sym is) own)
  | inr later ↦ nowhere e later
]

-- ---- the log at the base

module _ (law : LogLaw) (tie : GroupsTie) (s : TableSchema) (g : Group) (entries : List Entry) (base : ℕ) (least : 1 ≤ base) (to : base ≤ length entries)
    (holds : partition_holds s ≡ true) (rows : AllByRecursion (IsRowOf s) (flat_map entry_rows entries)) (bases : HaveBases 1 entries) where
  abbrev es : List Entry
  es = take base entries

  -- the compaction of the group alone
  abbrev alone : Entry
  alone = compaction base ((g, true) ∷ [])

  many : length es ≡ base
  many = length-take-le base entries to

  by-test : (t : Bool) → t ≡ true → cond (t || false) (Some base) None ≡ Some base
  by-test t is = rw is refl

  both-true : (wholly t : Bool) → t ≡ true → (t && (true || not wholly)) ≡ true
  both-true wholly t is = rw is refl

  named : (wholly : Bool) → base_of wholly g alone ≡ Some base
  named wholly = by-test (eq_by_cmp group_cmp g g && (true || not wholly)) (both-true wholly (eq_by_cmp group_cmp g g) (same-group tie g))

  fits : AllFit s.columns (flat_map entry_rows (es ++ alone ∷ []))
  fits = all-of (λ (r : HistoryRow). Fits s.columns r.1) (flat_map entry_rows (es ++ alone ∷ [])) (λ r h.
      let (x, there, own) = in-flat entry_rows (es ++ alone ∷ []) r h in
      elim (Contains-append_cases es (alone ∷ []) x there) as (λ _. Fits s.columns r.1) [
        | inl early ↦ (each-of (IsRowOf s) (flat_map entry_rows entries) r rows (flat-in entry_rows entries x r (taken-in base entries x early) own)).fits
        | inr last ↦ absurd (none-own base ((g, true) ∷ []) x r last own)
      ])

  module _ (wholly : Bool) where
    abbrev start : ℕ
    start = compacted wholly entries base g

    same-start : compacted wholly es base g ≡ start
    same-start = ap (λ (xs : List Entry). greatest (filter_map (base_of wholly g) xs)) (take-take base base entries (omega arith))

    below : start < base
    below = subst (λ (n : ℕ). start < n) many
        (greatest-below wholly g es (subst (λ (n : ℕ). 1 ≤ n) (sym many) least) (first-bases 1 base entries bases))

    passes : (older newer : List Run) → Covers (meaning_of s) older (rows_in s g (rows_up_to entries start))
        → CoversAll (meaning_of s) newer (rows_in s g (rows_after entries start base))
        → PassesOn s g es alone wholly (record { base = base; older = older; newer = newer })
    passes older newer covered covered_all = record {
      named = named wholly;
      within = omega (arith, many);
      above = subst (λ (n : ℕ). compacted wholly es n g < base) (sym many) (subst (λ (n : ℕ). n < base) (sym same-start) below);
      meanwhile = ap (λ (n : ℕ). rows_in s g (rows_up_to es (compacted wholly es n g))) many;
      older_cover = subst (Covers (meaning_of s) older)
          (sym (ap (λ (n : ℕ). rows_in s g (rows_up_to es n)) same-start
          ∙ ap (λ (xs : List Entry). rows_in s g (flat_map entry_rows xs)) (take-take start base entries (omega (arith, below)))))
          covered;
      newer_cover = subst (CoversAll (meaning_of s) newer)
          (sym (ap (λ (n : ℕ). rows_in s g (flat_map entry_rows (drop n (take base es)))) same-start
          ∙ ap (λ (xs : List Entry). rows_in s g (flat_map entry_rows (drop start xs))) (take-take base base entries (omega arith))))
          covered_all;
    }

    -- its rows are of the group
    logged : (older newer : List Run) → Compares s.options.producer wholly → Covers (meaning_of s) older (rows_in s g (rows_up_to entries start))
        → CoversAll (meaning_of s) newer (rows_in s g (rows_after entries start base))
        → (r : HistoryRow) → Contains (log_of s older newer) r → group_of s r.1 ≡ g
    logged older newer compares covered covered_all r h =
        let p : Passing = record { base = base; older = older; newer = newer } in
        of-group s g (change s (es ++ alone ∷ []) (suc (length es))) r
        (subst (λ (rs : List HistoryRow). Contains rs r) (sym (law s g es alone wholly p holds fits compares (passes older newer covered covered_all))) h)

  -- the rows that a compaction tells of it
  pub told-group : (runs : List KnownRun) (whole : Bool) → StandForRows s entries base g (map without_files runs) → (r : HistoryRow)
      → Contains (compaction_log s whole runs) r → group_of s r.1 ≡ g
  told-group runs whole stand r h = at s.options.producer refl h
    where
      full : (w : Bool) → s.options.producer ≡ producers.FullCompaction → Contains (log_by producers.FullCompaction s w (map without_files runs)) r → group_of s r.1 ≡ g
      full false is own = absurd (nowhere r own)
      full true is own =
          logged true (oldest_first (λ level. level == top_of s) (map without_files runs)) (oldest_first (λ level. nat_lt level (top_of s)) (map without_files runs))
          (subst (λ (q : Producer). Compares q true) (sym is) refl) stand.at_top stand.below_top r own

      at : (q : Producer) → s.options.producer ≡ q → Contains (log_by q s whole (map without_files runs)) r → group_of s r.1 ≡ g
      at producers.None is own = absurd (nowhere r own)
      at producers.Input is own = absurd (nowhere r own)
      at producers.Lookup is own =
          logged false (oldest_first (λ level. nat_lt 0 level) (map without_files runs)) (oldest_first (λ level. level == 0) (map without_files runs))
          (subst (λ (q : Producer). Compares q false) (sym is) refl) stand.above_zero stand.at_zero r own
      at producers.FullCompaction is own = full whole is own
