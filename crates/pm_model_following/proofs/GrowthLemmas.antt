-- What is passed on of a history that goes on.
use Rattle.std.proofs.Common.{◌≡◌, ℕ, zero, suc, ◌+◌, ◌-◌, ◌≤◌, ◌<◌, leb, eqb, max, Bool, true, false, cond, not, ◌&&◌, List, [], ◌∷◌, ◌++◌, map, length, take, append_assoc, append-nil, lt_irrefl, le_refl, lt_of_le_of_lt, Some, None, refl, sym, ap, subst, ◌∙◌, arith}
use Rattle.std.proofs.Math.Nat.{max-le}
use Rattle.std.proofs.lemmas.Bool.{ne_eqb}
use Rattle.std.proofs.lemmas.List.{take-append-le}
use Rattle.std.proofs.lemmas.List.Elements.{filter-append}
use Rattle.std.specs.FinMap.{empty, get}
use Rattle.std.specs.List.{cons_option, filter, filter_map, flat_map, fold}
use Rattle.pm_options.specs.declared.kinds.Producer.{Producer}
use Rattle.pm_options.specs.declared.kinds.Producer.TheVariants as producers
use Rattle.pm_schema.specs.declared.schema.TableSchema.{TableSchema}
use Rattle.pm_values.specs.declared.group.Group.{Group}
use Rattle.pm_model_history.specs.History.{Entry, append, compaction, fence, entry_rows}
use Rattle.pm_model_history.specs.Merge.{HistoryRow}
use Rattle.pm_model_history.specs.Merged.{merged}
use Rattle.pm_model_following.specs.Following.{NumberedRow, numbered_from, numbered_rows, base_of, is_named, HaveBases, passed, is_passed, followed, keys_in, by_key, newly_passed, leaves_out_equal, told, told_at, change_by, change}
use Rattle.pm_model_following.specs.Groups.{group_of}
use Rattle.pm_model_following.proofs.FollowingLemmas.{not_leb}

-- ---- rows of entries that come after others

map-none : (p : NumberedRow → Bool) (k : ℕ) (rows : List HistoryRow) → ((r : HistoryRow) → p (k, r) ≡ false) → filter p (map (λ (r : HistoryRow). (k, r)) rows) ≡ []
map-none p k [] none = refl
map-none p k (r ∷ rows) none =
    ap (λ b. cond b ((k, r) ∷ filter p (map (λ (r : HistoryRow). (k, r)) rows)) (filter p (map (λ (r : HistoryRow). (k, r)) rows))) (none r) ∙ map-none p k rows none

-- no row of a number from k on passes
numbered-none : (p : NumberedRow → Bool) (k : ℕ) (entries : List Entry) → ((j : ℕ) (r : HistoryRow) → k ≤ j → p (j, r) ≡ false) → filter p (numbered_from k entries) ≡ []
numbered-none p k [] none = refl
numbered-none p k (entry ∷ entries) none =
    let own : List NumberedRow = map (λ (r : HistoryRow). (k, r)) (entry_rows entry) in
    filter-append p own (numbered_from (k + 1) entries)
    ∙ ap (λ xs. xs ++ filter p (numbered_from (k + 1) entries)) (map-none p k (entry_rows entry) (λ r. none k r (le_refl k)))
    ∙ numbered-none p (k + 1) entries (λ j r above. none j r (omega arith))

numbered-append : (k : ℕ) (entries more : List Entry) → numbered_from k (entries ++ more) ≡ numbered_from k entries ++ numbered_from (k + length entries) more
numbered-append k [] more = let same : k ≡ k + 0 = omega arith in ap (λ j. numbered_from j more) same
numbered-append k (entry ∷ entries) more =
    let own : List NumberedRow = map (λ (r : HistoryRow). (k, r)) (entry_rows entry) in
    let same : (k + 1) + length entries ≡ k + suc (length entries) = omega arith in
    ap (λ xs. own ++ xs) (numbered-append (k + 1) entries more ∙ ap (λ j. numbered_from (k + 1) entries ++ numbered_from j more) same)
    ∙ sym (append_assoc own (numbered_from (k + 1) entries) (numbered_from (k + suc (length entries)) more))

-- the rows that pass are those of the first entries
numbered-first : (p : NumberedRow → Bool) (entries more : List Entry) → ((j : ℕ) (r : HistoryRow) → length entries < j → p (j, r) ≡ false)
    → map (λ (r : NumberedRow). r.1) (filter p (numbered_rows (entries ++ more))) ≡ map (λ (r : NumberedRow). r.1) (filter p (numbered_rows entries))
numbered-first p entries more none =
    let rest : filter p (numbered_from (1 + length entries) more) ≡ [] = numbered-none p (1 + length entries) more (λ j r above. none j r (omega arith)) in
    ap (λ rows. map (λ (r : NumberedRow). r.1) (filter p rows)) (numbered-append 1 entries more)
    ∙ ap (map (λ (r : NumberedRow). r.1)) (filter-append p (numbered_rows entries) (numbered_from (1 + length entries) more) ∙ ap (λ xs. filter p (numbered_rows entries) ++ xs) rest ∙ append-nil (filter p (numbered_rows entries)))

-- ---- how far rows are passed on

passed-first : (p : Producer) (entries more : List Entry) (n : ℕ) (g : Group) → n ≤ length entries → passed p (entries ++ more) n g ≡ passed p entries n g
passed-first producers.None entries more n g within = refl
passed-first producers.Input entries more n g within = refl
passed-first producers.Lookup entries more n g within = ap (λ (es : List Entry). fold max 0 (filter_map (base_of false g) es)) (take-append-le n entries more within)
passed-first producers.FullCompaction entries more n g within = ap (λ (es : List Entry). fold max 0 (filter_map (base_of true g) es)) (take-append-le n entries more within)

-- no base is above the last entry's number
bases_within : (wholly : Bool) (g : Group) (last k m : ℕ) (entries : List Entry) (a : ℕ) → HaveBases k entries → k + length entries ≤ last + 1 → a ≤ last
    → fold max a (filter_map (base_of wholly g) (take m entries)) ≤ last
bases_within wholly g last k zero entries a have size first = first
bases_within wholly g last k (suc m) [] a have size first = first
bases_within wholly g last k (suc m) (append user identifier rows ∷ entries) a have size first = bases_within wholly g last (k + 1) m entries a have (omega arith) first
bases_within wholly g last k (suc m) (fence number ∷ entries) a have size first = bases_within wholly g last (k + 1) m entries a have (omega arith) first
bases_within wholly g last k (suc m) (compaction base groups ∷ entries) a have size first =
    let rest : List ℕ = filter_map (base_of wholly g) (take m entries) in
    elim (is_named wholly g groups) as (λ b. fold max a (cons_option (cond b (Some base) None) rest) ≤ last) [
      | true ↦
          let low : base < k = have.0 in
          let below : base ≤ last = omega arith in
          bases_within wholly g last (k + 1) m entries (max a base) have.1 (omega arith) (max-le first below)
      | false ↦ bases_within wholly g last (k + 1) m entries a have.1 (omega arith) first
    ]

passed_within : (p : Producer) (entries : List Entry) (n : ℕ) (g : Group) → HaveBases 1 entries → n ≤ length entries → passed p entries n g ≤ length entries
passed_within producers.None entries n g have within = within
passed_within producers.Input entries n g have within = within
passed_within producers.Lookup entries n g have within = bases_within false g (length entries) 1 n entries 0 have (omega arith) (omega arith)
passed_within producers.FullCompaction entries n g have within = bases_within true g (length entries) 1 n entries 0 have (omega arith) (omega arith)

is_passed-first : (s : TableSchema) (entries more : List Entry) (n : ℕ) → n ≤ length entries → is_passed s (entries ++ more) n ≡ is_passed s entries n
is_passed-first s entries more n within = λ i r. leb r.0 (passed-first s.options.producer entries more n (group_of s r.1.1) within i)

is_passed-after : (s : TableSchema) (entries : List Entry) (n : ℕ) → HaveBases 1 entries → n ≤ length entries → (j : ℕ) (r : HistoryRow) → length entries < j → is_passed s entries n (j, r) ≡ false
is_passed-after s entries n have within j r after =
    not_leb j (passed s.options.producer entries n (group_of s r.1)) (lt_of_le_of_lt (passed_within s.options.producer entries n (group_of s r.1) have within) after)

-- ---- a history that goes on

pub followed-first : (s : TableSchema) (entries more : List Entry) (n : ℕ) → HaveBases 1 entries → n ≤ length entries → followed s (entries ++ more) n ≡ followed s entries n
followed-first s entries more n have within =
    ap (λ (p : NumberedRow → Bool). merged s (map (λ (r : NumberedRow). r.1) (filter p (numbered_rows (entries ++ more))))) (is_passed-first s entries more n within)
    ∙ ap (merged s) (numbered-first (is_passed s entries n) entries more (is_passed-after s entries n have within))

newly_passed-first : (s : TableSchema) (entries more : List Entry) (n : ℕ) → HaveBases 1 entries → n ≤ length entries → newly_passed s (entries ++ more) n ≡ newly_passed s entries n
newly_passed-first s entries more n have within =
    let now = is_passed-first s entries more n within in
    let before = is_passed-first s entries more (n - 1) (omega arith) in
    (λ i. map (λ (r : NumberedRow). r.1) (filter (λ r. now i r && not (before i r)) (numbered_rows (entries ++ more))))
    ∙ numbered-first (λ r. is_passed s entries n r && not (is_passed s entries (n - 1) r)) entries more
    (λ j r after. ap (λ b. b && not (is_passed s entries (n - 1) (j, r))) (is_passed-after s entries n have within j r after))

told-first : (s : TableSchema) (entries more : List Entry) (n : ℕ) → HaveBases 1 entries → n ≤ length entries
    → flat_map (told_at s (entries ++ more) n) (keys_in s (newly_passed s (entries ++ more) n)) ≡ flat_map (told_at s entries n) (keys_in s (newly_passed s entries n))
told-first s entries more n have within =
    let old = followed-first s entries more (n - 1) have (omega arith) in
    let new = followed-first s entries more n have within in
    let rows = newly_passed-first s entries more n have within in
    λ i. flat_map (λ key. told (leaves_out_equal s s.options.engine) (get (old i) key) (get (new i) key)) (keys_in s (rows i))

change_by-first : (p : Producer) (s : TableSchema) (entries more : List Entry) (n : ℕ) → HaveBases 1 entries → n ≤ length entries → change_by p s (entries ++ more) n ≡ change_by p s entries n
change_by-first producers.None s entries more n have within = refl
change_by-first producers.Input s entries more n have within =
    ap (by_key s) (numbered-first (λ r. eqb r.0 n) entries more (λ j r after. ne_eqb j n (λ same. lt_irrefl n (lt_of_le_of_lt within (subst (λ x. length entries < x) same after)))))
change_by-first producers.Lookup s entries more n have within = told-first s entries more n have within
change_by-first producers.FullCompaction s entries more n have within = told-first s entries more n have within

pub change-first : (s : TableSchema) (entries more : List Entry) (n : ℕ) → HaveBases 1 entries → n ≤ length entries → change s (entries ++ more) n ≡ change s entries n
change-first s = change_by-first s.options.producer s

-- at snapshot 0 nothing is passed on
passed-start : (p : Producer) (entries : List Entry) (g : Group) → passed p entries 0 g ≡ 0
passed-start producers.None entries g = refl
passed-start producers.Input entries g = refl
passed-start producers.Lookup entries g = refl
passed-start producers.FullCompaction entries g = refl

pub followed-start : (s : TableSchema) (entries : List Entry) → followed s entries 0 ≡ empty
followed-start s entries =
    ap (λ (rows : List NumberedRow). merged s (map (λ (r : NumberedRow). r.1) rows))
    (numbered-none (is_passed s entries 0) 1 entries (λ j r above. ap (leb j) (passed-start s.options.producer entries (group_of s r.1)) ∙ not_leb j 0 above))
