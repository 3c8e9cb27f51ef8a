-- What reducing all rows of a group gives: stored rows of their keys, and the last row's number as the greatest.
use Rattle.std.proofs.Common.{◌≡◌, ℕ, ◌+◌, ◌<◌, ◌≤◌, List, [], ◌∷◌, map, length, max, All, Bool, true, false, cond, refl, sym, ap, subst, ◌∙◌, append-nil, arith}
use Rattle.std.specs.List.{AllByRecursion, AllZip, flat_map}
use Rattle.std.specs.List.Sorted.{IsStrictlySortedBy}
use Rattle.std.specs.Ordering.{eq_by_cmp}
use Rattle.std.specs.declared.cmp.Ordering.TheVariants.{Less}
use Rattle.std.proofs.lemmas.List.{length-map}
use Rattle.std.proofs.lemmas.List.Elements.{All-from_recursion}
use Rattle.pm_values.specs.Order.{Values, key_cmp}
use Rattle.pm_values.specs.declared.record.Change.{Change}
use Rattle.pm_values.specs.declared.record.Stamped.{Stamped}
use Rattle.pm_schema.specs.declared.schema.TableSchema.{TableSchema}
use Rattle.pm_model_history.specs.Merge.{HistoryRow, rows_of}
use Rattle.pm_model_history.specs.Merged.{primary_of}
use Rattle.pm_engine.specs.Covers.{CoversAll, CoversKey, Holds, IsKeyed, IsRising, Run, of_key, row_of}
use Rattle.pm_engine.specs.Meaning.{Meaning, SpeaksFor, stored_of}
use Rattle.pm_engine.specs.OfSchema.{meaning_of}
use Rattle.pm_engine.specs.Reducing.{AreStoredRows, HasGreatestNumbers, greatest_number}
use Rattle.pm_engine.proofs.Rising.{apart, apart_back, tied, ties_itself}
use Rattle.pm_run.specs.Writing.{CountFrom, HasOwnKey}
use Rattle.pm_write.specs.Batch.{AreRowsOf, AreStoredOf, IsStoredRow, KeepsLog, all_stamped}
use Rattle.pm_write.specs.Held.{IsNumberedBelow}
use Rattle.pm_write.specs.Taken.{IsTakenRow, stamped}
use Rattle.pm_write.proofs.ListLemmas.{both_of, from_map, none_mapped, weaker}

-- ---- the rows of a key

-- above a key no row has it
of_key-above : (key : Values) (run : Run) → AllByRecursion (λ (s : Stamped). key_cmp key s.key ≡ Less) run → of_key key run ≡ []
of_key-above key [] all = refl
of_key-above key (s ∷ ss) all = ap (λ (b : Bool). cond b (s ∷ of_key key ss) (of_key key ss)) (apart key s.key all.0) ∙ of_key-above key ss all.1

-- each row of a run is the only one of its key
only : (run : Run) → IsRising run → AllByRecursion (λ (s : Stamped). of_key s.key run ≡ s ∷ []) run
unfolding IsStrictlySortedBy
only [] rising = tt
only (y ∷ ys) rising =
    let above = from_map (λ (s : Stamped). s.key) (λ (k : Values). key_cmp y.key k ≡ Less) ys rising.0 in (
      ap (λ (b : Bool). cond b (y ∷ of_key y.key ys) (of_key y.key ys)) (ties_itself y.key) ∙ ap (λ (xs : Run). y ∷ xs) (of_key-above y.key ys above),
      both_of (λ (s : Stamped). key_cmp y.key s.key ≡ Less) (λ (s : Stamped). of_key s.key ys ≡ s ∷ []) (λ (s : Stamped). of_key s.key (y ∷ ys) ≡ s ∷ [])
          (λ s less own. ap (λ (b : Bool). cond b (y ∷ of_key s.key ys) (of_key s.key ys)) (apart_back y.key s.key less) ∙ own) ys above (only ys rising.1),
    )

-- the first row of a key is one of the run
first_own : (P : Stamped → Type 0) (key : Values) (run : Run) (y : Stamped) (more : Run) → of_key key run ≡ y ∷ more → AllByRecursion P run
    → P y × (eq_by_cmp key_cmp key y.key ≡ true) × (y.seq ≤ greatest_number run)
first_own P key [] y more e all = cc
first_own P key (x ∷ xs) y more e all =
    elim (eq_by_cmp key_cmp key x.key) as (λ b. eq_by_cmp key_cmp key x.key ≡ b → cond b (x ∷ of_key key xs) (of_key key xs) ≡ y ∷ more
    → P y × (eq_by_cmp key_cmp key y.key ≡ true) × (y.seq ≤ max x.seq (greatest_number xs))) [
      | true ↦ λ t own.
          let same : x ≡ y = cc in
          let number : x.seq ≡ y.seq = ap (λ (z : Stamped). z.seq) same in
          (subst P same all.0, subst (λ (z : Stamped). eq_by_cmp key_cmp key z.key ≡ true) same t, omega arith)
      | false ↦ λ t own.
          let rest = first_own P key xs y more own all.1 in
          let most : y.seq ≤ greatest_number xs = rest.2 in
          (rest.0, rest.1, omega arith)
    ] refl e

-- the rows of a key, without their keys and numbers
keyed_rows : (m : Meaning) (key : Values) (rows : Run) → AllByRecursion (IsKeyed m) rows → rows_of m.primary key (map row_of rows) ≡ map row_of (of_key key rows)
keyed_rows m key [] keyed = refl
keyed_rows m key (s ∷ ss) keyed =
    ap (λ (k : Values). cond (eq_by_cmp key_cmp key k) (row_of s ∷ rows_of m.primary key (map row_of ss)) (rows_of m.primary key (map row_of ss))) keyed.0.own
    ∙ ap (λ (rest : List HistoryRow). cond (eq_by_cmp key_cmp key s.key) (row_of s ∷ rest) rest) (keyed_rows m key ss keyed.1)
    ∙ elim (eq_by_cmp key_cmp key s.key) as (λ b. cond b (row_of s ∷ map row_of (of_key key ss)) (map row_of (of_key key ss)) ≡ map row_of (cond b (s ∷ of_key key ss) (of_key key ss))) [ true ↦ refl | false ↦ refl ]

-- ---- what one run has of a key

abbrev HoldIn : Meaning → Values → List Run → List (List HistoryRow) → Type 0
HoldIn m key runs parts = AllZip (λ (run : Run) (part : List HistoryRow). Holds m key (of_key key run) part) runs parts

-- it is the part of all rows of the key
whole_part : (m : Meaning) (key : Values) (run : Run) (rows : List HistoryRow) → CoversKey m key (run ∷ []) [] rows → Holds m key (of_key key run) rows
whole_part m key run rows covers = by_parts covers.parts covers.split covers.holds
  where
    by_parts : (parts : List (List HistoryRow)) → rows ≡ flat_map (λ (part : List HistoryRow). part) parts → HoldIn m key (run ∷ []) parts → Holds m key (of_key key run) rows
    by_parts [] split holds = absurd holds
    by_parts (p ∷ []) split holds = subst (Holds m key (of_key key run)) (sym (split ∙ append-nil p)) holds.0
    by_parts (p ∷ q ∷ ps) split holds = absurd holds.1

-- ---- numbers

greatest-below : (key : Values) (n bound : ℕ) (rows : Run) → CountFrom n rows → n + length rows ≤ bound → 1 ≤ bound → greatest_number (of_key key rows) < bound
greatest-below key n bound [] counts most some = omega arith
greatest-below key n bound (x ∷ xs) counts most some =
    let rest : greatest_number (of_key key xs) < bound = greatest-below key (n + 1) bound xs counts.1 (omega arith) some in
    let seq : x.seq ≡ n = counts.0 in
    elim (eq_by_cmp key_cmp key x.key) as (λ b. greatest_number (cond b (x ∷ of_key key xs) (of_key key xs)) < bound) [ true ↦ omega arith | false ↦ rest ]

all-below : (bound : ℕ) (run : Run) → AllByRecursion (λ (x : Stamped). x.seq < bound) run → 1 ≤ bound → greatest_number run < bound
all-below bound [] all some = omega arith
all-below bound (x ∷ xs) all some =
    let rest : greatest_number xs < bound = all-below bound xs all.1 some in
    let first : x.seq < bound = all.0 in
    omega arith

-- each row's number is at most the greatest of its key
within_own : (rows : Run) → AllByRecursion (λ (x : Stamped). x.seq ≤ greatest_number (of_key x.key rows)) rows
within_own [] = tt
within_own (x ∷ xs) =
    let own = ap (λ (b : Bool). greatest_number (cond b (x ∷ of_key x.key xs) (of_key x.key xs))) (ties_itself x.key) in (
      omega arith,
      weaker (λ (y : Stamped). y.seq ≤ greatest_number (of_key y.key xs)) (λ (y : Stamped). y.seq ≤ greatest_number (of_key y.key (x ∷ xs)))
          (λ y most.
          elim (eq_by_cmp key_cmp y.key x.key) as (λ b. y.seq ≤ greatest_number (cond b (x ∷ of_key y.key xs) (of_key y.key xs))) [ true ↦ omega arith | false ↦ most ])
          xs (within_own xs),
    )

-- numbers that count and are at most this one
counts_to : (n top : ℕ) (rows : Run) → CountFrom n rows → AllByRecursion (λ (x : Stamped). x.seq ≤ top) rows → 1 ≤ length rows → n + length rows ≤ top + 1
counts_to n top [] counts all some = absurd (omega arith)
counts_to n top (x ∷ []) counts all some =
    let seq : x.seq ≡ n = counts.0 in
    let most : x.seq ≤ top = all.0 in
    omega arith
counts_to n top (x ∷ y ∷ more) counts all some =
    let rest : n + 1 + length (y ∷ more) ≤ top + 1 = counts_to (n + 1) top (y ∷ more) counts.1 all.1 (omega arith) in
    omega arith

-- the greatest number of a key's rows is one of the run
greatest_own : (m : Meaning) (key : Values) (run rows : Run) → AllByRecursion (IsKeyed m) rows → HasGreatestNumbers run rows → CoversAll m (run ∷ []) (map row_of rows)
    → greatest_number (of_key key rows) ≤ greatest_number run
greatest_own m key run rows keyed numbers covers =
    by_own (of_key key run) refl
    (subst (Holds m key (of_key key run)) (keyed_rows m key rows keyed) (whole_part m key run (rows_of m.primary key (map row_of rows)) (covers key)))
  where
    by_own : (own : Run) → of_key key run ≡ own → Holds m key own (map row_of (of_key key rows)) → greatest_number (of_key key rows) ≤ greatest_number run
    by_own [] e holds = let none = ap greatest_number (none_mapped row_of (of_key key rows) holds) in omega arith
    by_own (y ∷ more) e holds =
        let first = first_own (λ (x : Stamped). x.seq ≡ greatest_number (of_key x.key rows)) key run y more e numbers in
        let same = ap (λ (k : Values). greatest_number (of_key k rows)) (tied key y.key first.1) in
        let number : y.seq ≡ greatest_number (of_key y.key rows) = first.0 in
        let most : y.seq ≤ greatest_number run = first.2 in
        omega arith

-- rows that are counted from a number, with their keys
stamped_again : (s : TableSchema) (n : ℕ) (rows : Run) → AllByRecursion (IsKeyed (meaning_of s)) rows → CountFrom n rows → all_stamped (primary_of s) n (map row_of rows) ≡ rows
stamped_again s n [] keyed counts = refl
stamped_again s n (x ∷ xs) keyed counts =
    let first : stamped (primary_of s) n (row_of x) ≡ x = λ i. record { key = keyed.0.own i; seq = sym counts.0 i; kind = x.kind; row = x.row } in
    ap (λ (y : Stamped). y ∷ all_stamped (primary_of s) (n + 1) (map row_of xs)) first ∙ ap (λ (ys : Run). x ∷ ys) (stamped_again s (n + 1) xs keyed.1 counts.1)

-- all rows have their keys
pub all_keyed : (s : TableSchema) (rows : Run) → AllByRecursion (IsTakenRow s) rows → All (IsKeyed (meaning_of s)) rows
all_keyed s rows taken = All-from_recursion (IsKeyed (meaning_of s)) rows (weaker (IsTakenRow s) (IsKeyed (meaning_of s)) (λ x is. is.keyed) rows taken)

-- so they can stand in a changelog file
pub all_own : (s : TableSchema) (rows : Run) → AllByRecursion (IsTakenRow s) rows → AllByRecursion (HasOwnKey s) rows
all_own s rows taken = weaker (IsTakenRow s) (HasOwnKey s) (λ x is. record { fits = is.keyed.fits; own = sym is.keyed.own }) rows taken

-- ---- what reducing gives

module _ (s : TableSchema) (run rows : Run) (rising : IsRising run) (numbers : HasGreatestNumbers run rows)
    (covers : CoversAll (meaning_of s) (run ∷ []) (map row_of rows)) (taken : AllByRecursion (IsTakenRow s) rows) (counts : CountFrom 0 rows) (some : 1 ≤ length rows) where
  keyed : AllByRecursion (IsKeyed (meaning_of s)) rows
  keyed = weaker (IsTakenRow s) (IsKeyed (meaning_of s)) (λ x is. is.keyed) rows taken

  stored_row : (x : Stamped) → of_key x.key run ≡ x ∷ [] → x.seq ≡ greatest_number (of_key x.key rows) → IsStoredRow s (length rows) x
  stored_row x own number =
      let speaks : SpeaksFor (meaning_of s) x.key (row_of x) (rows_of (meaning_of s).primary x.key (map row_of rows)) =
      subst (λ (o : Run). Holds (meaning_of s) x.key o (rows_of (meaning_of s).primary x.key (map row_of rows))) own
      (whole_part (meaning_of s) x.key run (rows_of (meaning_of s).primary x.key (map row_of rows)) (covers x.key)) in
      let below = greatest-below x.key 0 (length rows) rows counts (omega arith) some in
      record {
        keyed = record { fits = speaks.taken.fits; own = speaks.taken.of_key };
        kind = speaks.kind;
        below = omega arith;
      }

  stored_rows : AllByRecursion (IsStoredRow s (length rows)) run
  stored_rows =
      both_of (λ (x : Stamped). of_key x.key run ≡ x ∷ []) (λ (x : Stamped). x.seq ≡ greatest_number (of_key x.key rows)) (IsStoredRow s (length rows)) stored_row run (only run rising) numbers

  last_number : greatest_number run + 1 ≡ length rows
  last_number =
      let below = all-below (length rows) run (weaker (IsStoredRow s (length rows)) (λ (x : Stamped). x.seq < length rows) (λ x is. is.below) run stored_rows) some in
      let within = weaker (λ (x : Stamped). x.seq ≤ greatest_number (of_key x.key rows)) (λ (x : Stamped). x.seq ≤ greatest_number run)
      (λ x most. let own = greatest_own (meaning_of s) x.key run rows keyed numbers covers in omega arith) rows (within_own rows) in
      let all = counts_to 0 (greatest_number run) rows counts within some in
      omega arith

  -- there is a stored row
  pub some_stored : 1 ≤ length run
  some_stored = by_run run refl rows refl
    where
      by_run : (r : Run) → run ≡ r → (rs : Run) → rows ≡ rs → 1 ≤ length r
      by_run (y ∷ ys) e rs f = omega arith
      by_run [] e [] f = let none = ap length f in absurd (omega arith)
      by_run [] e (x ∷ xs) f =
          let holds : Holds (meaning_of s) x.key (of_key x.key run) (map row_of (of_key x.key rows)) =
          subst (Holds (meaning_of s) x.key (of_key x.key run)) (keyed_rows (meaning_of s) x.key rows keyed)
          (whole_part (meaning_of s) x.key run (rows_of (meaning_of s).primary x.key (map row_of rows)) (covers x.key)) in
          let none : map row_of (of_key x.key rows) ≡ [] = subst (λ (r : Run). Holds (meaning_of s) x.key (of_key x.key r) (map row_of (of_key x.key rows))) e holds in
          let own = ap (λ (b : Bool). cond b (x ∷ of_key x.key xs) (of_key x.key xs)) (ties_itself x.key) in
          let no : x ∷ of_key x.key xs ≡ [] = sym own ∙ ap (of_key x.key) (sym f) ∙ none_mapped row_of (of_key x.key rows) none in
          cc

  -- each is the stored row of its key's rows
  stored_of_rows : AreStoredRows (meaning_of s) run rows → AreStoredOf s (map row_of rows) run
  stored_of_rows stored =
      weaker (λ (x : Stamped). row_of x ≡ stored_of (meaning_of s) (map row_of (of_key x.key rows))) (λ (x : Stamped). row_of x ≡ stored_of (meaning_of s) (rows_of (primary_of s) x.key (map row_of rows)))
      (λ x own. own ∙ ap (stored_of (meaning_of s)) (sym (keyed_rows (meaning_of s) x.key rows keyed))) run stored

  pub rows_reduced : AreStoredRows (meaning_of s) run rows → (count : ℕ) → count ≡ length rows → (log : List Change) → KeepsLog s.options.producer s (map row_of rows) log
      → AreRowsOf s (map row_of rows) (record { count = count; run = run; log = log })
  rows_reduced stored count is log keeps =
      let whole : AreRowsOf s (map row_of rows) (record { count = length rows; run = run; log = log }) =
      record {
        count = sym (length-map rows row_of);
        rising = rising;
        covers = covers;
        stored = stored_of_rows stored;
        each = stored_rows;
        numbers = subst (HasGreatestNumbers run) (sym (stamped_again s 0 rows keyed counts)) numbers;
        last = last_number;
        log = keeps;
      } in
      subst (λ (n : ℕ). AreRowsOf s (map row_of rows) (record { count = n; run = run; log = log })) (sym is) whole

  pub within_reduced : (count : ℕ) → count ≡ length rows → All (IsNumberedBelow count) run
  within_reduced count is =
      subst (λ (n : ℕ). All (IsNumberedBelow n) run) (sym is)
      (All-from_recursion (IsNumberedBelow (length rows)) run
      (weaker (IsStoredRow s (length rows)) (IsNumberedBelow (length rows)) (λ x is. is.below) run stored_rows))
