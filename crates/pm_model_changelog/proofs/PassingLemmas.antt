-- Up to which entry the rows of a group are passed on, before an entry and with it.
use Rattle.std.proofs.Common.{◌≡◌, ℕ, zero, suc, ◌<◌, ◌≤◌, max, List, [], ◌∷◌, ◌++◌, take, drop, length, length-append, append_assoc, Bool, Option, Some, None, refl, sym, ap, subst, ◌∙◌, arith, le_refl, le_trans}
use Rattle.std.proofs.Math.Nat.{le-max_left}
use Rattle.std.specs.List.{AllZip, cons_option, filter_map, flat_map, fold}
use Rattle.std.specs.Ordering.{eq_by_cmp}
use Rattle.std.proofs.lemmas.Bool.Decides.{nat_tests}
use Rattle.std.proofs.lemmas.Grind.{flat_map-append}
use Rattle.std.proofs.lemmas.List.{append_cancel_left, take_all, take-append-le}
use Rattle.std.proofs.lemmas.List.Elements.{filter-append, filter_map-append}
use Rattle.std.proofs.lemmas.List.Sums.{fold-append}
use Rattle.pm_options.specs.declared.kinds.Producer.{Producer}
use Rattle.pm_options.specs.declared.kinds.Producer.TheVariants as producers
use Rattle.pm_schema.specs.declared.schema.TableSchema.{TableSchema}
use Rattle.pm_values.specs.GroupOrder.{group_cmp}
use Rattle.pm_values.specs.Order.{Values, key_cmp}
use Rattle.pm_values.specs.declared.group.Group.{Group}
use Rattle.pm_model_history.specs.History.{Entry, entry_rows, rows_up_to}
use Rattle.pm_model_history.specs.Merge.{HistoryRow, key_of, rows_of}
use Rattle.pm_engine.specs.Covers.{Covers, CoversAll, CoversKey, Holds, Run, of_key}
use Rattle.pm_engine.specs.Meaning.{Meaning}
use Rattle.pm_engine.specs.OfSchema.{meaning_of}
use Rattle.pm_model_following.specs.Following.{base_of, compacted, passed}
use Rattle.pm_model_following.specs.Groups.{group_of, rows_in}
use Rattle.pm_model_changelog.specs.Log.{Compares, Passing, PassesNothing, PassesOn}

-- ---- numbers

-- with these producers it is the greatest base of a compaction
passed-compared : (producer : Producer) (wholly : Bool) → Compares producer wholly → (es : List Entry) (n : ℕ) (g : Group) → passed producer es n g ≡ compacted wholly es n g
passed-compared producers.None wholly compares es n g = absurd compares
passed-compared producers.Input wholly compares es n g = absurd compares
passed-compared producers.Lookup wholly compares es n g = ap (λ (w : Bool). compacted w es n g) (sym compares)
passed-compared producers.FullCompaction wholly compares es n g = ap (λ (w : Bool). compacted w es n g) (sym compares)

fold_max : (numbers : List ℕ) (a : ℕ) → a ≤ fold max a numbers
fold_max [] a = le_refl a
fold_max (n ∷ numbers) a = le_trans (le-max_left a n) (fold_max numbers (max a n))

parted : (xs : List Entry) (a b : ℕ) → a ≤ b → take b xs ≡ take a xs ++ drop a (take b xs)
parted [] zero b low = refl
parted [] (suc a) zero low = absurd (omega (arith, low))
parted [] (suc a) (suc b) low = refl
parted (x ∷ xs) zero b low = refl
parted (x ∷ xs) (suc a) zero low = absurd (omega (arith, low))
parted (x ∷ xs) (suc a) (suc b) low = ap (λ es. x ∷ es) (parted xs a b (omega (arith, low)))

-- of more entries the greatest base is no less
pub compacted-more : (wholly : Bool) (es : List Entry) (g : Group) (a b : ℕ) → a ≤ b → compacted wholly es a g ≤ compacted wholly es b g
compacted-more wholly es g a b low =
    let bases : List Entry → List ℕ = filter_map (base_of wholly g) in
    subst (λ n. fold max 0 (bases (take a es)) ≤ n)
    (sym (ap (λ xs. fold max 0 (bases xs)) (parted es a b low)
    ∙ ap (fold max 0) (filter_map-append (base_of wholly g) (take a es) (drop a (take b es)))
    ∙ fold-append max 0 (bases (take a es)) (bases (drop a (take b es)))))
    (fold_max (bases (drop a (take b es))) (fold max 0 (bases (take a es))))

larger : (a b : ℕ) → a < b → max a b ≡ b
larger a b less = grind (arith, nat_tests)

no-larger : (a b : ℕ) → b ≤ a → max a b ≡ a
no-larger a b less = grind (arith, nat_tests)

module _ (producer : Producer) (g : Group) (entries : List Entry) (e : Entry) (wholly : Bool) (compares : Compares producer wholly) where
  abbrev last : ℕ
  last = length entries

  abbrev longer : List Entry
  longer = entries ++ e ∷ []

  -- before the entry
  pub before-is : passed producer longer last g ≡ compacted wholly entries last g
  before-is =
      passed-compared producer wholly compares longer last g
      ∙ ap (λ es. fold max 0 (filter_map (base_of wholly g) es)) (take-append-le last entries (e ∷ []) (omega arith))

  -- and with it
  with-entry : passed producer longer (suc last) g ≡ fold max (compacted wholly entries last g) (cons_option (base_of wholly g e) [])
  with-entry =
      passed-compared producer wholly compares longer (suc last) g
      ∙ ap (λ es. fold max 0 (filter_map (base_of wholly g) es)) (take_all (suc last) longer (let size = length-append entries (e ∷ []) in omega (arith, size)))
      ∙ ap (fold max 0) (filter_map-append (base_of wholly g) entries (e ∷ []))
      ∙ fold-append max 0 (filter_map (base_of wholly g) entries) (filter_map (base_of wholly g) (e ∷ []))
      ∙ ap (λ es. fold max (fold max 0 (filter_map (base_of wholly g) es)) (filter_map (base_of wholly g) (e ∷ []))) (sym (take_all last entries (omega arith)))

  pub now-is : (base : ℕ) → base_of wholly g e ≡ Some base → compacted wholly entries last g < base → passed producer longer (suc last) g ≡ base
  now-is base named above =
      with-entry ∙ ap (λ (o : Option ℕ). fold max (compacted wholly entries last g) (cons_option o [])) named
      ∙ larger (compacted wholly entries last g) base above

  -- where the entry passes nothing on, it stays
  pub stays : PassesNothing g entries e wholly → passed producer longer (suc last) g ≡ passed producer longer last g
  stays nothing = with-entry ∙ at (base_of wholly g e) refl ∙ sym before-is
    where
      at : (o : Option ℕ) → base_of wholly g e ≡ o → fold max (compacted wholly entries last g) (cons_option o []) ≡ compacted wholly entries last g
      at None is = refl
      at (Some base) is = no-larger (compacted wholly entries last g) base (nothing base is)

pub first-rows : (entries : List Entry) (e : Entry) (k : ℕ) → k ≤ length entries → rows_up_to (entries ++ e ∷ []) k ≡ rows_up_to entries k
first-rows entries e k low = ap (flat_map entry_rows) (take-append-le k entries (e ∷ []) low)

-- ---- rows

-- the group's rows up to an entry are those up to an earlier one, and those after it
rows-parted : (s : TableSchema) (g : Group) (entries : List Entry) (a b : ℕ) → a ≤ b
    → rows_in s g (rows_up_to entries b) ≡ rows_in s g (rows_up_to entries a) ++ rows_in s g (flat_map entry_rows (drop a (take b entries)))
rows-parted s g entries a b low =
    ap (λ es. rows_in s g (flat_map entry_rows es)) (parted entries a b low)
    ∙ ap (rows_in s g) (flat_map-append entry_rows (take a entries) (drop a (take b entries)))
    ∙ filter-append (λ (r : HistoryRow). eq_by_cmp group_cmp (group_of s r.1) g) (rows_up_to entries a) (flat_map entry_rows (drop a (take b entries)))

AllZip-append : {A B : Type 0} (R : A → B → Type 0) (xs : List A) (ys : List B) (us : List A) (vs : List B) → AllZip R xs ys → AllZip R us vs → AllZip R (xs ++ us) (ys ++ vs)
AllZip-append R [] [] us vs one two = two
AllZip-append R [] (y ∷ ys) us vs one two = absurd one
AllZip-append R (x ∷ xs) [] us vs one two = absurd one
AllZip-append R (x ∷ xs) (y ∷ ys) us vs one two = (one.0, AllZip-append R xs ys us vs one.1 two)

-- runs that cover rows, and newer ones that cover more of them without lack, cover all of them
pub covers-joined : (m : Meaning) (older newer : List Run) (rows more : List HistoryRow) → Covers m older rows → CoversAll m newer more → Covers m (older ++ newer) (rows ++ more)
covers-joined m older newer rows more one two = λ key.
    let first = one key in
    (first.0, first.1, joined key first.0 first.2 (two key))
  where
    joined : (key : Values) (missing : List HistoryRow) → CoversKey m key older missing (rows_of m.primary key rows) → CoversKey m key newer [] (rows_of m.primary key more)
        → CoversKey m key (older ++ newer) missing (rows_of m.primary key (rows ++ more))
    joined key missing a b = record {
      parts = a.parts ++ b.parts;
      split =
          filter-append (λ (r : HistoryRow). eq_by_cmp key_cmp key (key_of m.primary r.1)) rows more
          ∙ ap (λ xs. xs ++ rows_of m.primary key more) a.split ∙ ap (λ ys. (missing ++ flat_map (λ part. part) a.parts) ++ ys) b.split
          ∙ append_assoc missing (flat_map (λ part. part) a.parts) (flat_map (λ part. part) b.parts)
          ∙ ap (λ ys. missing ++ ys) (sym (flat_map-append (λ part. part) a.parts b.parts));
      holds = AllZip-append (λ (run : Run) (part : List HistoryRow). Holds m key (of_key key run) part) older a.parts newer b.parts a.holds b.holds;
    }

module _ (s : TableSchema) (g : Group) (entries : List Entry) (e : Entry) (wholly : Bool) (p : Passing) (on : PassesOn s g entries e wholly p) where
  abbrev start : ℕ
  start = compacted wholly entries p.base g

  abbrev now : ℕ
  now = compacted wholly entries (length entries) g

  abbrev after : ℕ → List HistoryRow
  after k = rows_in s g (flat_map entry_rows (drop k (take p.base entries)))

  start-low : start ≤ p.base
  start-low = let grows = compacted-more wholly entries g p.base (length entries) on.within in let above = on.above in omega (arith, grows, above)

  -- the rows that the entry passes on are those that weren't passed on at its base
  pub after-same : after now ≡ after start
  after-same =
      let low : now ≤ p.base = let above = on.above in omega (arith, above) in
      append_cancel_left (rows_in s g (rows_up_to entries start)) (after now) (after start)
      (ap (λ xs. xs ++ after now) (sym on.meanwhile) ∙ sym (rows-parted s g entries now p.base low) ∙ rows-parted s g entries start p.base start-low)

  -- all runs cover the rows up to the base
  pub joined-cover : Covers (meaning_of s) (p.older ++ p.newer) (rows_in s g (rows_up_to entries p.base))
  joined-cover =
      subst (Covers (meaning_of s) (p.older ++ p.newer)) (sym (rows-parted s g entries start p.base start-low))
      (covers-joined (meaning_of s) p.older p.newer (rows_in s g (rows_up_to entries start)) (after start) on.older_cover on.newer_cover)
