-- The names of folders are plain ones, and short.
use Rattle.std.proofs.Common.{◌≡◌, ℕ, ◌+◌, ◌*◌, ◌/◌, ◌%◌, ◌<◌, ◌≤◌, ◌^◌, ◌==◌, ◌&&◌, ◌||◌, Bool, true, false, not}
use Rattle.std.proofs.Common.{List, [], ◌∷◌, ◌++◌, map, length, Some, IsSomeAnd, codes, decimal, nat_le}
use Rattle.std.proofs.Common.{refl, sym, ap, subst, ◌∙◌, arith, inl, inr, length-append, cond}
use Rattle.std.proofs.lemmas.Bool.{cases_lt, false≢true, le-leb, le-ltb, leb-true, lt-ltb, ne_eqb}
use Rattle.std.proofs.lemmas.Fmt.{decimal_by_steps, length-decimal-le}
use Rattle.std.proofs.lemmas.List.Folds.{list_all-append}
use Rattle.std.proofs.lemmas.Slice.Eq.{bytes_eq-Decides}
use Rattle.std.specs.Char.{is_ascii_alphabetic, is_ascii_digit}
use Rattle.std.specs.List.{find, list_all, slice_split}
use Rattle.std.specs.Str.{bytes_eq}
use Rattle.pm_values.specs.declared.column.Column.{Column}
use Rattle.pm_schema.specs.Folder.{escaped, escaped_byte, is_plain, upper_digit}
use Rattle.pm_schema.specs.Rules.{begins_name, continues_name, is_name, is_reserved, is_spelled}
use Rattle.pm_partitions.specs.Names.{bucket_name, is_folder_byte, is_folder_name}
use Rattle.pm_partitions.proofs.Bytes.{AreBytes}
use Rattle.pm_partitions.proofs.Escapes.{coded}
use Rattle.pm_partitions.proofs.Tests.{both, together}

-- ---- bytes

later : (a x e : Bool) → ((a || (true || x)) || e) ≡ true
later true x e = refl
later false x e = refl

digit_byte : (c : ℕ) → 48 ≤ c → c ≤ 57 → is_folder_byte c ≡ true
digit_byte c low high =
    rw (le-leb 48 c low, le-leb c 57 high)
    (later (is_ascii_alphabetic c) (c == 46 || (c == 95 || c == 45)) (c == 37 || c == 61))

upper_byte : (c : ℕ) → 65 ≤ c → c ≤ 90 → is_folder_byte c ≡ true
upper_byte c low high = rw (le-leb 65 c low, le-leb c 90 high) refl

upper_digit_byte : (n : ℕ) → n < 16 → is_folder_byte (upper_digit n) ≡ true
upper_digit_byte n below = elim (cases_lt n 10) [
  | inl lt ↦ rw (lt-ltb n 10 lt) (digit_byte (n + 48) (omega arith) (omega arith))
  | inr le ↦ rw (le-ltb n 10 le) (upper_byte (n + 55) (omega arith) (omega arith))
]

among : (a u d m h e : Bool) → ((a || u) || d) ≡ true → ((a || (d || (m || (u || h)))) || e) ≡ true
among true u d m h e is = refl
among false u true m h e is = refl
among false true false true h e is = refl
among false true false false h e is = refl
among false false false m h e is = absurd (false≢true is)

continued_byte : (b : ℕ) → continues_name b ≡ true → is_folder_byte b ≡ true
continued_byte b is =
    among (is_ascii_alphabetic b) (b == 95) (is_ascii_digit b) (b == 46) (b == 45) (b == 37 || b == 61) is

begun : (x y : Bool) → x ≡ true → (x || y) ≡ true
begun true y is = refl
begun false y is = absurd (false≢true is)

pub begun_byte : (b : ℕ) → begins_name b ≡ true → is_folder_byte b ≡ true
begun_byte b is = continued_byte b (begun (begins_name b) (is_ascii_digit b) is)

slash_apart : (b : ℕ) → is_folder_byte b ≡ true → (b == 47) ≡ false
slash_apart b is =
    ne_eqb b 47 (λ (same : b ≡ 47). false≢true (sym (ap is_folder_byte same) ∙ is))

-- ---- names

pub continued_bytes : (bs : List ℕ) → list_all continues_name bs ≡ true → list_all is_folder_byte bs ≡ true
continued_bytes [] all = refl
continued_bytes (b ∷ bs) all =
    let p = both (continues_name b) (list_all continues_name bs) all in
    together (is_folder_byte b) (list_all is_folder_byte bs) (continued_byte b p.0) (continued_bytes bs p.1)

coded_bytes : (itself : Bool) (b : ℕ) (rest : List ℕ) → b < 256 → (itself ≡ true → is_plain b ≡ true)
    → list_all is_folder_byte rest ≡ true
    → list_all is_folder_byte (coded itself b ++ rest) ≡ true
coded_bytes true b rest below plain all =
    together (is_folder_byte b) (list_all is_folder_byte rest)
    (begun (is_plain b) (b == 37 || b == 61) (plain refl)) all
coded_bytes false b rest below plain all =
    together (is_folder_byte (upper_digit (b / 16))) (list_all is_folder_byte (upper_digit (b % 16) ∷ rest))
    (upper_digit_byte (b / 16) (omega arith))
    (together (is_folder_byte (upper_digit (b % 16))) (list_all is_folder_byte rest)
    (upper_digit_byte (b % 16) (omega arith)) all)

escaped_bytes : (text : List ℕ) → AreBytes text → list_all is_folder_byte (escaped text) ≡ true
escaped_bytes [] all = refl
escaped_bytes (b ∷ text) all =
    coded_bytes (is_plain b) b (escaped text) all.0 (λ (plain : is_plain b ≡ true). plain) (escaped_bytes text all.1)

-- the folder of a value
pub part_plain : (column text : List ℕ) → is_name column ≡ true → AreBytes text
    → is_folder_name (column ++ 61 ∷ escaped text) ≡ true
part_plain [] text named all = absurd (false≢true named)
part_plain (b ∷ bs) text named all =
    let spelled = (both (is_spelled (b ∷ bs)) (nat_le (length (b ∷ bs)) 64 && not (is_reserved (b ∷ bs))) named).0 in
    let p = both (begins_name b) (list_all continues_name bs) spelled in
    let bytes : list_all is_folder_byte (bs ++ 61 ∷ escaped text) ≡ true =
    list_all-append is_folder_byte bs (61 ∷ escaped text)
    ∙ together (list_all is_folder_byte bs) (list_all is_folder_byte (escaped text))
    (continued_bytes bs p.1) (escaped_bytes text all) in
    together (begins_name b) (list_all is_folder_byte (bs ++ 61 ∷ escaped text)) p.0 bytes

decimal_bytes : (n : ℕ) → n < 2 ^ 64 → list_all is_folder_byte (decimal n) ≡ true
decimal_bytes =
    decimal_by_steps (λ n ds. list_all is_folder_byte ds ≡ true)
    (λ n lt. together (is_folder_byte (48 + n)) true (digit_byte (48 + n) (omega arith) (omega arith)) refl)
    (λ n ds le all. list_all-append is_folder_byte ds ((48 + n % 10) ∷ [])
    ∙ together (list_all is_folder_byte ds) (list_all is_folder_byte ((48 + n % 10) ∷ [])) all
    (together (is_folder_byte (48 + n % 10)) true (digit_byte (48 + n % 10) (omega arith) (omega arith)) refl))

pub bucket_plain : (n : ℕ) → n < 2 ^ 32 → is_folder_name (bucket_name n) ≡ true
bucket_plain n lt = decimal_bytes n (omega arith)

-- ---- cut at slashes

cut_bytes : (name rest : List ℕ) → list_all is_folder_byte name ≡ true
    → slice_split (λ b. b == 47) (name ++ 47 ∷ rest) ≡ name ∷ slice_split (λ b. b == 47) rest
cut_bytes [] rest all = refl
cut_bytes (b ∷ bs) rest all =
    let p = both (is_folder_byte b) (list_all is_folder_byte bs) all in
    rw (slash_apart b p.0, cut_bytes bs rest p.1) refl

whole_bytes : (name : List ℕ) → list_all is_folder_byte name ≡ true → slice_split (λ b. b == 47) name ≡ name ∷ []
whole_bytes [] all = refl
whole_bytes (b ∷ bs) all =
    let p = both (is_folder_byte b) (list_all is_folder_byte bs) all in
    rw (slash_apart b p.0, whole_bytes bs p.1) refl

name_bytes : (name : List ℕ) → is_folder_name name ≡ true → list_all is_folder_byte name ≡ true
name_bytes [] named = refl
name_bytes (b ∷ bs) named =
    let p = both (begins_name b) (list_all is_folder_byte bs) named in
    together (is_folder_byte b) (list_all is_folder_byte bs) (begun_byte b p.0) p.1

pub cut : (name rest : List ℕ) → is_folder_name name ≡ true
    → slice_split (λ b. b == 47) (name ++ 47 ∷ rest) ≡ name ∷ slice_split (λ b. b == 47) rest
cut name rest named = cut_bytes name rest (name_bytes name named)

pub whole : (name : List ℕ) → is_folder_name name ≡ true → slice_split (λ b. b == 47) name ≡ name ∷ []
whole name named = whole_bytes name (name_bytes name named)

-- ---- lengths

coded_length : (itself : Bool) (b : ℕ)
    → length (coded itself b) ≤ 3
coded_length true b = omega arith
coded_length false b = omega arith

escaped_length : (text : List ℕ) → length (escaped text) ≤ 3 * length text
escaped_length [] = omega arith
escaped_length (b ∷ text) =
    omega (arith, coded_length (is_plain b) b, escaped_length text, length-append (escaped_byte b) (escaped text))

pub part_short : (column text : List ℕ) → is_name column ≡ true → length text ≤ 60
    → length (column ++ 61 ∷ escaped text) ≤ 255
part_short column text named le =
    let p = (both (is_spelled column) (nat_le (length column) 64 && not (is_reserved column)) named).1 in
    let few : length column ≤ 64 = leb-true (length column) 64
    (both (nat_le (length column) 64) (not (is_reserved column)) p).0 in
    omega (arith, few, escaped_length text, length-append column (61 ∷ escaped text))

pub bucket_short : (n : ℕ) → n < 2 ^ 32 → length (bucket_name n) ≤ 255
bucket_short n lt =
    let few : length (decimal n) ≤ 10 = length-decimal-le 10 n (omega arith) (omega arith) (omega arith) in
    omega (arith, few, length-append (codes "bucket-") (decimal n))

-- ---- the column of a name

pub column_named : (columns : List Column) (name : List ℕ) (P : Column → Type 0)
    → list_all is_name (map (λ c. c.name) columns) ≡ true
    → IsSomeAnd (find (λ c. bytes_eq c.name name) columns) P → is_name name ≡ true
column_named [] name P all found = absurd found
column_named (c ∷ columns) name P all found =
    let p = both (is_name c.name) (list_all is_name (map (λ c. c.name) columns)) all in
    step (bytes_eq c.name name) refl p.0
    (λ (rest : IsSomeAnd (find (λ c. bytes_eq c.name name) columns) P). column_named columns name P p.1 rest) found
  where
    step : (same : Bool) → bytes_eq c.name name ≡ same → is_name c.name ≡ true
        → (IsSomeAnd (find (λ c. bytes_eq c.name name) columns) P → is_name name ≡ true)
        → IsSomeAnd (cond same (Some c) (find (λ c. bytes_eq c.name name) columns)) P → is_name name ≡ true
    step true e first rest found = subst (λ (n : List ℕ). is_name n ≡ true) ((bytes_eq-Decides c.name name).0 e) first
    step false e first rest found = rest found
