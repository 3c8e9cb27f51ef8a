-- Where all rows are passed on, the table that is followed is the merged one.
use Rattle.std.proofs.Common.{◌≡◌, ℕ, zero, suc, ◌+◌, ◌≤◌, leb, max, Bool, true, false, cond, List, [], ◌∷◌, ◌++◌, filter, length, map, take, drop, refl, sym, ap, subst, ◌∙◌, arith, length-take-le, take-append-drop, take-take}
use Rattle.std.specs.List.{AllByRecursion, filter_map, flat_map, fold}
use Rattle.std.proofs.lemmas.Bool.{le-leb}
use Rattle.std.proofs.lemmas.List.{map-append}
use Rattle.pm_base.proofs.Laws.{AllByRecursion-append}
use Rattle.pm_options.specs.declared.kinds.Producer.{Producer}
use Rattle.pm_options.specs.declared.kinds.Producer.TheVariants as producers
use Rattle.pm_schema.specs.declared.schema.TableSchema.{TableSchema}
use Rattle.pm_values.specs.declared.group.Group.{Group}
use Rattle.pm_model_history.specs.History.{Entry, append, compaction, entry_rows, fence}
use Rattle.pm_model_history.specs.Merge.{HistoryRow}
use Rattle.pm_model_history.specs.Merged.{merged}
use Rattle.pm_model_following.specs.Following.{HaveBases, IsFinished, NumberedRow, base_of, followed, is_passed, numbered_from, numbered_rows, passed}
use Rattle.pm_model_following.specs.Groups.{group_of}
use Rattle.pm_command_follow.specs.Finished.{HasPassedAll}

-- what the law of what is passed on says
abbrev pub Kept : Type 0
Kept = (s : TableSchema) (entries more : List Entry) (n : ℕ) → HaveBases 1 entries → n ≤ length entries → followed s (entries ++ more) n ≡ followed s entries n

-- ---- the rows of entries

of-own : (k : ℕ) (rows : List HistoryRow) → map (λ (r : NumberedRow). r.1) (map (λ (r : HistoryRow). (k, r)) rows) ≡ rows
of-own k [] = refl
of-own k (r ∷ rows) = ap (λ (rows : List HistoryRow). r ∷ rows) (of-own k rows)

of-numbered : (k : ℕ) (entries : List Entry) → map (λ (r : NumberedRow). r.1) (numbered_from k entries) ≡ flat_map entry_rows entries
of-numbered k [] = refl
of-numbered k (entry ∷ entries) =
    map-append (λ (r : NumberedRow). r.1) (map (λ (r : HistoryRow). (k, r)) (entry_rows entry)) (numbered_from (k + 1) entries)
    ∙ ap (λ (rows : List HistoryRow). rows ++ map (λ (r : NumberedRow). r.1) (numbered_from (k + 1) entries)) (of-own k (entry_rows entry))
    ∙ ap (λ (rows : List HistoryRow). entry_rows entry ++ rows) (of-numbered (k + 1) entries)

filter-all : (p : NumberedRow → Bool) (rows : List NumberedRow) → AllByRecursion (λ (r : NumberedRow). p r ≡ true) rows → filter p rows ≡ rows
filter-all p [] all = refl
filter-all p (r ∷ rows) all = ap (λ b. cond b (r ∷ filter p rows) (filter p rows)) all.0 ∙ ap (λ (rows : List NumberedRow). r ∷ rows) (filter-all p rows all.1)

-- ---- the first entries

bases-of : (number : ℕ) (entries more : List Entry) → HaveBases number (entries ++ more) → HaveBases number entries
bases-of number [] more bases = tt
bases-of number (append user identifier rows ∷ entries) more bases = bases-of (number + 1) entries more bases
bases-of number (compaction base groups ∷ entries) more bases = (bases.0, bases-of (number + 1) entries more bases.1)
bases-of number (fence x ∷ entries) more bases = bases-of (number + 1) entries more bases

passed-taken : (p : Producer) (entries : List Entry) (n : ℕ) (g : Group) → passed p (take n entries) n g ≡ passed p entries n g
passed-taken producers.None entries n g = refl
passed-taken producers.Input entries n g = refl
passed-taken producers.Lookup entries n g = ap (λ (es : List Entry). fold max 0 (filter_map (base_of false g) es)) (take-take n n entries (omega arith))
passed-taken producers.FullCompaction entries n g = ap (λ (es : List Entry). fold max 0 (filter_map (base_of true g) es)) (take-take n n entries (omega arith))

is_passed-taken : (s : TableSchema) (entries : List Entry) (n : ℕ) → is_passed s (take n entries) n ≡ is_passed s entries n
is_passed-taken s entries n = λ i r. leb r.0 (passed-taken s.options.producer entries n (group_of s r.1.1) i)

pub finished-all : Kept → (s : TableSchema) (entries : List Entry) (n : ℕ) → HaveBases 1 entries → n ≤ length entries → HasPassedAll s entries n → IsFinished s entries n
finished-all kept s entries n bases within all =
    let whole : take n entries ++ drop n entries ≡ entries = take-append-drop n entries in
    let long : length (take n entries) ≡ n = length-take-le n entries within in
    let own : HaveBases 1 (take n entries) = bases-of 1 (take n entries) (drop n entries) (subst (HaveBases 1) (sym whole) bases) in
    ap (λ (entries : List Entry). followed s entries n) (sym whole)
    ∙ kept s (take n entries) (drop n entries) n own (omega (arith, long))
    ∙ ap (λ (p : NumberedRow → Bool). merged s (map (λ (r : NumberedRow). r.1) (filter p (numbered_rows (take n entries))))) (is_passed-taken s entries n)
    ∙ ap (λ (rows : List NumberedRow). merged s (map (λ (r : NumberedRow). r.1) rows)) (filter-all (is_passed s entries n) (numbered_rows (take n entries)) all)
    ∙ ap (merged s) (of-numbered 1 (take n entries))

-- ---- with the producer of inputs

low-own : (m k : ℕ) (rows : List HistoryRow) → k ≤ m → AllByRecursion (λ (r : NumberedRow). leb r.0 m ≡ true) (map (λ (r : HistoryRow). (k, r)) rows)
low-own m k [] within = tt
low-own m k (r ∷ rows) within = (le-leb k m within, low-own m k rows within)

low-numbers : (m k : ℕ) (entries : List Entry) → k + length entries ≤ m + 1 → AllByRecursion (λ (r : NumberedRow). leb r.0 m ≡ true) (numbered_from k entries)
low-numbers m k [] within = tt
low-numbers m k (entry ∷ entries) within =
    AllByRecursion-append (λ (r : NumberedRow). leb r.0 m ≡ true) (map (λ (r : HistoryRow). (k, r)) (entry_rows entry)) (numbered_from (k + 1) entries)
    (low-own m k (entry_rows entry) (omega (arith, within))) (low-numbers m (k + 1) entries (omega (arith, within)))

long-taken : (n : ℕ) (entries : List Entry) → length (take n entries) ≤ n
long-taken zero entries = omega arith
long-taken (suc n) [] = omega arith
long-taken (suc n) (entry ∷ entries) = let rest = long-taken n entries in omega (arith, rest)

pub input-all : (s : TableSchema) (entries : List Entry) (n : ℕ) → s.options.producer ≡ producers.Input → HasPassedAll s entries n
input-all s entries n input =
    let long = long-taken n entries in
    subst (λ (p : Producer). AllByRecursion (λ (r : NumberedRow). leb r.0 (passed p entries n (group_of s r.1.1)) ≡ true) (numbered_rows (take n entries))) (sym input)
    (low-numbers n 1 (take n entries) (omega (arith, long)))
