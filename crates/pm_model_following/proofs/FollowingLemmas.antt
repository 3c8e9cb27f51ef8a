-- Which rows are passed on, and that they stay so.
use Rattle.std.proofs.Common.{◌≡◌, ℕ, zero, suc, ◌+◌, ◌-◌, ◌≤◌, ◌<◌, leb, max, Bool, true, false, cond, List, [], ◌∷◌, ◌++◌, map, take, drop, take-add, le_refl, le_trans, lt_irrefl, lt_of_lt_of_le, inl, inr, refl, sym, ap, subst, ◌∙◌, arith}
use Rattle.std.proofs.Math.Nat.{le-max_left}
use Rattle.std.proofs.lemmas.Bool.{leb-true, le-leb, cases_lt}
use Rattle.std.proofs.lemmas.List.{map-append}
use Rattle.std.proofs.lemmas.List.Elements.{filter-append, filter_map-append}
use Rattle.std.proofs.lemmas.List.Sums.{fold-append}
use Rattle.std.specs.List.{filter, filter_map, flat_map, fold}
use Rattle.pm_options.specs.declared.kinds.Producer.{Producer}
use Rattle.pm_options.specs.declared.kinds.Producer.TheVariants as producers
use Rattle.pm_schema.specs.declared.schema.TableSchema.{TableSchema}
use Rattle.pm_values.specs.declared.group.Group.{Group}
use Rattle.pm_model_following.specs.Groups.{group_of}
use Rattle.pm_model_history.specs.Merge.{HistoryRow}
use Rattle.pm_model_history.specs.Merged.{merged}
use Rattle.pm_model_history.specs.History.{Entry, entry_rows, rows_up_to}
use Rattle.pm_model_following.specs.Following.{NumberedRow, numbered_from, numbered_rows, base_of, compacted, passed, is_passed, IsFinished}

-- ---- numbers of compactions

fold_max : (numbers : List ℕ) (a : ℕ) → a ≤ fold max a numbers
fold_max [] a = le_refl a
fold_max (n ∷ numbers) a = le_trans (le-max_left a n) (fold_max numbers (max a n))

-- of more entries the greatest base is no less
compacted_more : (wholly : Bool) (entries : List Entry) (m n : ℕ) (g : Group) → m ≤ n → compacted wholly entries m g ≤ compacted wholly entries n g
compacted_more wholly entries m n g below =
    let bases : List Entry → List ℕ = filter_map (base_of wholly g) in
    let parts : bases (take n entries) ≡ bases (take m entries) ++ bases (take (n - m) (drop m entries)) =
    ap (λ k. bases (take k entries)) (omega arith) ∙ ap bases (take-add m (n - m) entries) ∙ filter_map-append (base_of wholly g) (take m entries) (take (n - m) (drop m entries)) in
    subst (λ k. fold max 0 (bases (take m entries)) ≤ k)
    (sym (ap (fold max 0) parts ∙ fold-append max 0 (bases (take m entries)) (bases (take (n - m) (drop m entries)))))
    (fold_max (bases (take (n - m) (drop m entries))) (fold max 0 (bases (take m entries))))

passed_more : (p : Producer) (entries : List Entry) (m n : ℕ) (g : Group) → m ≤ n → passed p entries m g ≤ passed p entries n g
passed_more producers.None entries m n g below = below
passed_more producers.Input entries m n g below = below
passed_more producers.Lookup entries m n g below = compacted_more false entries m n g below
passed_more producers.FullCompaction entries m n g below = compacted_more true entries m n g below

-- what is passed on stays so
pub is_passed_more : (s : TableSchema) (entries : List Entry) (m n : ℕ) (r : NumberedRow) → m ≤ n → is_passed s entries m r ≡ true → is_passed s entries n r ≡ true
is_passed_more s entries m n r below is =
    le-leb r.0 _ (le_trans (leb-true r.0 _ is) (passed_more s.options.producer entries m n (group_of s r.1.1) below))

pub is_passed_next : (s : TableSchema) (entries : List Entry) (n : ℕ) (r : NumberedRow) → is_passed s entries n r ≡ true → is_passed s entries (n + 1) r ≡ true
is_passed_next s entries n r is = is_passed_more s entries n (n + 1) r (omega arith) is

-- ---- rows by the numbers of their entries

-- the rows of entries whose numbers pass a test
abbrev pub rows_by : (ℕ → Bool) → ℕ → List Entry → List HistoryRow
rows_by test k entries = map (λ (r : NumberedRow). r.1) (filter (λ (r : NumberedRow). test r.0) (numbered_from k entries))

rows_of_one : (test : ℕ → Bool) (k : ℕ) (rows : List HistoryRow)
    → map (λ (r : NumberedRow). r.1) (filter (λ (r : NumberedRow). test r.0) (map (λ (r : HistoryRow). (k, r)) rows)) ≡ cond (test k) rows []
rows_of_one test k [] = elim (test k) as (λ b. ◌≡◌ {A = List HistoryRow} [] (cond b [] [])) [ true ↦ refl | false ↦ refl ]
rows_of_one test k (r ∷ rows) =
    let rest = rows_of_one test k rows in
    let kept : List NumberedRow = filter (λ (r : NumberedRow). test r.0) (map (λ (r : HistoryRow). (k, r)) rows) in
    elim (test k) as (λ b. map (λ (r : NumberedRow). r.1) kept ≡ cond b rows [] → map (λ (r : NumberedRow). r.1) (cond b ((k, r) ∷ kept) kept) ≡ cond b (r ∷ rows) []) [
      | true ↦ λ is. ap (λ xs. r ∷ xs) is
      | false ↦ λ is. is
    ] rest

pub rows_by-cons : (test : ℕ → Bool) (k : ℕ) (entry : Entry) (entries : List Entry)
    → rows_by test k (entry ∷ entries) ≡ cond (test k) (entry_rows entry) [] ++ rows_by test (k + 1) entries
rows_by-cons test k entry entries =
    let first : List NumberedRow = map (λ (r : HistoryRow). (k, r)) (entry_rows entry) in
    ap (map (λ (r : NumberedRow). r.1)) (filter-append (λ (r : NumberedRow). test r.0) first (numbered_from (k + 1) entries))
    ∙ map-append (λ (r : NumberedRow). r.1) (filter (λ (r : NumberedRow). test r.0) first) (filter (λ (r : NumberedRow). test r.0) (numbered_from (k + 1) entries))
    ∙ ap (λ xs. xs ++ rows_by test (k + 1) entries) (rows_of_one test k (entry_rows entry))

-- a number above another isn't at most that
pub not_leb : (a b : ℕ) → b < a → leb a b ≡ false
not_leb a b above = elim (leb a b) as (λ t. leb a b ≡ t → t ≡ false) [ true ↦ λ e. absurd (lt_irrefl b (lt_of_lt_of_le above (leb-true a b e))) | false ↦ λ e. refl ] refl

-- no rows where no number passes
pub rows_by-none : (test : ℕ → Bool) (k : ℕ) (entries : List Entry) → ((j : ℕ) → k ≤ j → test j ≡ false) → rows_by test k entries ≡ []
rows_by-none test k [] none = refl
rows_by-none test k (entry ∷ entries) none =
    rows_by-cons test k entry entries
    ∙ ap (λ b. cond b (entry_rows entry) [] ++ rows_by test (k + 1) entries) (none k (le_refl k))
    ∙ rows_by-none test (k + 1) entries (λ j above. none j (omega arith))

-- the rows up to a number are those of the first entries
pub rows_by-up_to : (n k : ℕ) (entries : List Entry) → rows_by (λ j. leb j n) k entries ≡ flat_map entry_rows (take ((n + 1) - k) entries)
rows_by-up_to n k [] = elim ((n + 1) - k) as (λ m. [] ≡ flat_map entry_rows (take m [])) [ zero ↦ refl | suc m ↦ refl ]
rows_by-up_to n k (entry ∷ entries) = elim (cases_lt n k) [
  | inl past ↦
      rows_by-none (λ j. leb j n) k (entry ∷ entries) (λ j above. not_leb j n (omega arith))
      ∙ let gone : 0 ≡ (n + 1) - k = omega arith in ap (λ m. flat_map entry_rows (take m (entry ∷ entries))) gone
  | inr within ↦
      rows_by-cons (λ j. leb j n) k entry entries
      ∙ ap (λ b. cond b (entry_rows entry) [] ++ rows_by (λ j. leb j n) (k + 1) entries) (le-leb k n within)
      ∙ ap (λ xs. entry_rows entry ++ xs) (rows_by-up_to n (k + 1) entries)
      ∙ let one : suc ((n + 1) - (k + 1)) ≡ (n + 1) - k = omega arith in ap (λ m. flat_map entry_rows (take m (entry ∷ entries))) one
]

-- with the producer of inputs each snapshot is finished
pub finished-input : (s : TableSchema) (entries : List Entry) (n : ℕ) → s.options.producer ≡ producers.Input → IsFinished s entries n
finished-input s entries n is =
    let last : (n + 1) - 1 ≡ n = omega arith in
    ap (merged s)
    (ap (λ (p : Producer). map (λ (r : NumberedRow). r.1) (filter (λ (r : NumberedRow). leb r.0 (passed p entries n (group_of s r.1.1))) (numbered_rows entries))) is
    ∙ rows_by-up_to n 1 entries ∙ ap (rows_up_to entries) last)
