-- What is told of a key.
use Rattle.std.proofs.Common.{◌≡◌, ◌≢◌, ℕ, suc, ◌+◌, ◌-◌, ◌≤◌, leb, List, [], ◌∷◌, ◌++◌, map, filter, length, Bool, true, false, cond, Some, None, refl, sym, ap, subst, ◌∙◌, arith}
use Rattle.std.specs.FinMap.{get}
use Rattle.std.specs.List.{range_with_len}
use Rattle.std.specs.Cmp.{Equal-is, tied_itself}
use Rattle.std.specs.Ordering.{eq_by_cmp, is_eq}
use Rattle.std.specs.declared.cmp.Ordering.TheVariants.{Less, Equal, Greater}
use Rattle.pm_options.specs.declared.kinds.EngineKind.{EngineKind}
use Rattle.pm_options.specs.declared.kinds.EngineKind.TheVariants as engines
use Rattle.pm_values.specs.GroupOrder.{group_cmp, group_total}
use Rattle.pm_values.specs.Order.{Values, key_cmp}
use Rattle.pm_values.specs.declared.group.Group.{Group}
use Rattle.pm_values.proofs.Lemmas.{group_cmp-IsAntisymmetric, key_cmp-IsAntisymmetric}
use Rattle.pm_model_history.specs.History.{Entry, rows_up_to}
use Rattle.pm_model_history.specs.Merge.{HistoryRow, key_of, rows_of}
use Rattle.pm_model_history.specs.Merged.{primary_of, shows, shows_by, values_of}
use Rattle.pm_schema.specs.declared.schema.TableSchema.{TableSchema}
use Rattle.pm_engine.specs.Covers.{Covers, Run, stored_rows}
use Rattle.pm_engine.specs.Meaning.{Meaning, SameWorth}
use Rattle.pm_engine.specs.OfSchema.{meaning_of}
use Rattle.pm_model_following.specs.Following.{NumberedRow, compacted, followed, is_passed, leaves_out_equal, numbered_rows, passed, passed_rows, told, told_at}
use Rattle.pm_model_following.specs.Groups.{group_of, rows_in}
use Rattle.pm_model_following.proofs.FollowingLemmas.{rows_by-up_to}
use Rattle.pm_model_changelog.specs.Log.{Compares, IsKeyOf, Passing, PassesOn, shown_of, told_by}
use Rattle.pm_model_changelog.proofs.KeyLemmas.{TableLaw}
use Rattle.pm_model_changelog.proofs.PassingLemmas.{before-is, first-rows, joined-cover, now-is}

-- ---- what runs show of a key

abbrev pub WorthLaw : Type 0
WorthLaw = (m : Meaning) (runs : List Run) (rows : List HistoryRow) (key : Values) → Covers m runs rows → stored_rows key runs ≢ [] → SameWorth m (rows_of m.primary key rows) (stored_rows key runs)

abbrev pub HiddenLaw : Type 0
HiddenLaw = (m : Meaning) (runs : List Run) (rows : List HistoryRow) (key : Values) → Covers m runs rows → stored_rows key runs ≡ [] → rows_of m.primary key rows ≢ [] → m.shows (rows_of m.primary key rows) ≡ false

none-shows : (engine : EngineKind) → shows_by engine [] ≡ false
none-shows engines.Deduplicate = refl
none-shows engines.PartialUpdate = refl
none-shows engines.Aggregation = refl
none-shows engines.FirstRow = refl

values-same : (s : TableSchema) (xs ys : List HistoryRow) → SameWorth (meaning_of s) xs ys → values_of s xs ≡ values_of s ys
values-same s xs ys same = (λ i. map (λ index. same.value index i) (range_with_len 0 (length s.columns)))

shown-same : (s : TableSchema) (xs ys : List HistoryRow) → SameWorth (meaning_of s) xs ys → shown_of s xs ≡ shown_of s ys
shown-same s xs ys same = (λ i. cond (same.shows i) (Some (values-same s xs ys same i)) None)

shown-hidden : (s : TableSchema) (xs : List HistoryRow) → shows s xs ≡ false → shown_of s xs ≡ None
shown-hidden s xs hidden = ap (λ (t : Bool). cond t (Some (values_of s xs)) None) hidden

shown-nil : (s : TableSchema) → shown_of s [] ≡ None
shown-nil s = shown-hidden s [] (none-shows s.options.engine)

pub shown-covered : WorthLaw → HiddenLaw → (s : TableSchema) (runs : List Run) (rows : List HistoryRow) (key : Values) → Covers (meaning_of s) runs rows
    → shown_of s (rows_of (primary_of s) key rows) ≡ shown_of s (stored_rows key runs)
shown-covered worth hidden s runs rows key covers = at (stored_rows key runs) refl
  where
    none-at : (xs : List HistoryRow) → rows_of (primary_of s) key rows ≡ xs → stored_rows key runs ≡ [] → shown_of s (rows_of (primary_of s) key rows) ≡ None
    none-at [] is none = ap (shown_of s) is ∙ shown-nil s
    none-at (x ∷ xs) is none = shown-hidden s (rows_of (primary_of s) key rows) (hidden (meaning_of s) runs rows key covers none (λ e. let bad : x ∷ xs ≡ [] = sym is ∙ e in cc))

    at : (st : List HistoryRow) → stored_rows key runs ≡ st → shown_of s (rows_of (primary_of s) key rows) ≡ shown_of s (stored_rows key runs)
    at [] none = none-at (rows_of (primary_of s) key rows) refl none ∙ sym (ap (shown_of s) none ∙ shown-nil s)
    at (x ∷ st) some = shown-same s (rows_of (primary_of s) key rows) (stored_rows key runs) (worth (meaning_of s) runs rows key covers (λ e. let bad : x ∷ st ≡ [] = sym some ∙ e in cc))

-- ---- the rows of a group

module _ (s : TableSchema) (g : Group) where
  abbrev of_list : List NumberedRow → List HistoryRow
  of_list xs = rows_in s g (map (λ (r : NumberedRow). r.1) xs)

  -- those that are passed on are those up to a number
  passed-some : (entries : List Entry) (n : ℕ) (rows : List NumberedRow)
      → of_list (filter (is_passed s entries n) rows) ≡ of_list (filter (λ (r : NumberedRow). leb r.0 (passed s.options.producer entries n g)) rows)
  passed-some entries n [] = refl
  passed-some entries n (r ∷ rows) = at (eq_by_cmp group_cmp (group_of s r.1.1) g) refl (filter (is_passed s entries n) rows)
      (filter (λ (r : NumberedRow). leb r.0 (passed s.options.producer entries n g)) rows) (passed-some entries n rows)
    where
      put : (b : Bool) (xs : List NumberedRow) → eq_by_cmp group_cmp (group_of s r.1.1) g ≡ false → of_list (cond b (r ∷ xs) xs) ≡ of_list xs
      put true xs apart = ap (λ c. cond c (r.1 ∷ of_list xs) (of_list xs)) apart
      put false xs apart = refl

      both : (b : Bool) (xs ys : List NumberedRow) → of_list xs ≡ of_list ys → of_list (cond b (r ∷ xs) xs) ≡ of_list (cond b (r ∷ ys) ys)
      both true xs ys same = ap (λ zs. cond (eq_by_cmp group_cmp (group_of s r.1.1) g) (r.1 ∷ zs) zs) same
      both false xs ys same = same

      at : (t : Bool) → eq_by_cmp group_cmp (group_of s r.1.1) g ≡ t → (mine its : List NumberedRow) → of_list mine ≡ of_list its
          → of_list (cond (leb r.0 (passed s.options.producer entries n (group_of s r.1.1))) (r ∷ mine) mine) ≡ of_list (cond (leb r.0 (passed s.options.producer entries n g)) (r ∷ its) its)
      at true is mine its rest =
          both (leb r.0 (passed s.options.producer entries n (group_of s r.1.1))) mine its rest
          ∙ ap (λ (h : Group). of_list (cond (leb r.0 (passed s.options.producer entries n h)) (r ∷ its) its))
          (group_cmp-IsAntisymmetric (group_of s r.1.1) g ((Equal-is (group_cmp (group_of s r.1.1) g)).0 is))
      at false is mine its rest =
          put (leb r.0 (passed s.options.producer entries n (group_of s r.1.1))) mine is ∙ rest ∙ sym (put (leb r.0 (passed s.options.producer entries n g)) its is)

  pub passed-group : (entries : List Entry) (n : ℕ) → rows_in s g (passed_rows s entries n) ≡ rows_in s g (rows_up_to entries (passed s.options.producer entries n g))
  passed-group entries n =
      let p : ℕ = passed s.options.producer entries n g in
      let last : (p + 1) - 1 ≡ p = omega arith in
      passed-some entries n (numbered_rows entries) ∙ ap (rows_in s g) (rows_by-up_to p 1 entries ∙ ap (rows_up_to entries) last)

-- ---- the rows of a key

module _ (s : TableSchema) (g : Group) (key : Values) (in_group : IsKeyOf s g key) where
  tied-key : (a : Values) → eq_by_cmp key_cmp key a ≡ true → a ≡ key
  tied-key a e = sym (elim (key_cmp key a) as (λ o. key_cmp key a ≡ o → is_eq o ≡ true → key ≡ a) [
    | Less ↦ λ p q. cc
    | Equal ↦ λ p q. key_cmp-IsAntisymmetric key a p
    | Greater ↦ λ p q. cc
  ] refl e)

  ties-group : (h : Group) → eq_by_cmp group_cmp h h ≡ true
  ties-group h = ap is_eq (tied_itself group_total h)

  -- all rows of the key lie in the group
  of-group : (rows : List HistoryRow) → rows_of (primary_of s) key (rows_in s g rows) ≡ rows_of (primary_of s) key rows
  of-group [] = refl
  of-group (r ∷ rows) = at (eq_by_cmp key_cmp key (key_of (primary_of s) r.1)) (eq_by_cmp group_cmp (group_of s r.1) g) refl refl (of-group rows)
    where
      at : (t u : Bool) → eq_by_cmp key_cmp key (key_of (primary_of s) r.1) ≡ t → eq_by_cmp group_cmp (group_of s r.1) g ≡ u
          → rows_of (primary_of s) key (rows_in s g rows) ≡ rows_of (primary_of s) key rows → rows_of (primary_of s) key (cond (eq_by_cmp group_cmp (group_of s r.1) g) (r ∷ rows_in s g rows) (rows_in s g rows))
          ≡ cond (eq_by_cmp key_cmp key (key_of (primary_of s) r.1)) (r ∷ rows_of (primary_of s) key rows) (rows_of (primary_of s) key rows)
      at t true is_t is_u rest =
          ap (λ b. rows_of (primary_of s) key (cond b (r ∷ rows_in s g rows) (rows_in s g rows))) is_u
          ∙ ap (λ xs. cond (eq_by_cmp key_cmp key (key_of (primary_of s) r.1)) (r ∷ xs) xs) rest
      at true false is_t is_u rest =
          let mine = in_group r.1 (tied-key (key_of (primary_of s) r.1) is_t) in
          absurd (let ties : eq_by_cmp group_cmp (group_of s r.1) g ≡ true = subst (λ (h : Group). eq_by_cmp group_cmp (group_of s r.1) h ≡ true) mine (ties-group (group_of s r.1)) in cc)
      at false false is_t is_u rest =
          ap (λ b. rows_of (primary_of s) key (cond b (r ∷ rows_in s g rows) (rows_in s g rows))) is_u ∙ rest
          ∙ sym (ap (λ b. cond b (r ∷ rows_of (primary_of s) key rows) (rows_of (primary_of s) key rows)) is_t)

  passed-up-to : (entries : List Entry) (n : ℕ)
      → rows_of (primary_of s) key (passed_rows s entries n) ≡ rows_of (primary_of s) key (rows_up_to entries (passed s.options.producer entries n g))
  passed-up-to entries n =
      sym (of-group (passed_rows s entries n)) ∙ ap (rows_of (primary_of s) key) (passed-group s g entries n)
      ∙ of-group (rows_up_to entries (passed s.options.producer entries n g))

  -- what the table that is passed on has of the key
  followed-at : TableLaw → (entries : List Entry) (n : ℕ) → get (followed s entries n) key ≡ shown_of s (rows_of (primary_of s) key (rows_up_to entries (passed s.options.producer entries n g)))
  followed-at law entries n = law s (passed_rows s entries n) key ∙ ap (shown_of s) (passed-up-to entries n)

  shown-group : WorthLaw → HiddenLaw → (runs : List Run) (rows : List HistoryRow) → Covers (meaning_of s) runs (rows_in s g rows)
      → shown_of s (rows_of (primary_of s) key rows) ≡ shown_of s (stored_rows key runs)
  shown-group worth hidden runs rows covers = ap (shown_of s) (sym (of-group rows)) ∙ shown-covered worth hidden s runs (rows_in s g rows) key covers

  -- ---- one compaction more

  module _ (worth : WorthLaw) (hidden : HiddenLaw) (law : TableLaw) (entries : List Entry) (e : Entry) (wholly : Bool) (p : Passing)
      (compares : Compares s.options.producer wholly) (on : PassesOn s g entries e wholly p) where
    abbrev last : ℕ
    last = length entries

    abbrev longer : List Entry
    longer = entries ++ e ∷ []

    old-shown : get (followed s longer last) key ≡ shown_of s (stored_rows key p.older)
    old-shown =
        let now : ℕ = compacted wholly entries last g in
        let low : now ≤ last = let above = on.above in let within = on.within in omega (arith, above, within) in
        followed-at law longer last
        ∙ ap (λ k. shown_of s (rows_of (primary_of s) key (rows_up_to longer k))) (before-is s.options.producer g entries e wholly compares)
        ∙ ap (λ xs. shown_of s (rows_of (primary_of s) key xs)) (first-rows entries e now low)
        ∙ shown-group worth hidden p.older (rows_up_to entries now) (subst (Covers (meaning_of s) p.older) (sym on.meanwhile) on.older_cover)

    new-shown : get (followed s longer (suc last)) key ≡ shown_of s (stored_rows key (p.older ++ p.newer))
    new-shown =
        followed-at law longer (suc last)
        ∙ ap (λ k. shown_of s (rows_of (primary_of s) key (rows_up_to longer k))) (now-is s.options.producer g entries e wholly compares p.base on.named on.above)
        ∙ ap (λ xs. shown_of s (rows_of (primary_of s) key xs)) (first-rows entries e p.base on.within)
        ∙ shown-group worth hidden (p.older ++ p.newer) (rows_up_to entries p.base) (joined-cover s g entries e wholly p on)

    pub told-same : told_at s longer (suc last) key ≡ told_by s p.older p.newer key
    told-same =
        let one : suc last - 1 ≡ last = omega arith in
        (λ i. told (leaves_out_equal s s.options.engine) (get (followed s longer (one i)) key) (get (followed s longer (suc last)) key))
        ∙ (λ i. told (leaves_out_equal s s.options.engine) (old-shown i) (new-shown i))
