-- The bytes of a row, both ways.
use Rattle.std.proofs.Common.{◌≡◌, ℕ, suc, ◌+◌, ◌-◌, ◌*◌, ◌^◌, ◌<◌, ◌≤◌, true, eqb, leb, ltb}
use Rattle.std.proofs.Common.{List, [], ◌∷◌, ◌++◌, length, get_or, take, drop, map, replicate, Option, Some, Err, refl, sym, ap, subst, ◌∙◌, arith}
use Rattle.std.proofs.lemmas.Bool.{eqb-true, eq-eqb, leb-true, le-leb, ltb-true, lt-ltb}
use Rattle.std.proofs.lemmas.List.{drop_at, length-append, length-drop, length-map, length-replicate, length-take-le, take-append-drop, take_at}
use Rattle.std.proofs.lemmas.Nat.{be_bytes_4, from_be_bytes-to_be_bytes_4}
use Rattle.std.specs.Prelude.{◌↔◌}
use Rattle.std.specs.Int.{w32, from_be_bytes, to_be_bytes}
use Rattle.std.specs.List.{flat_map}
use Rattle.pm_base.specs.Steps.{◌>>=◌}
use Rattle.pm_values.specs.declared.value.Value.TheVariants.{Null}
use Rattle.pm_values.specs.declared.column.ColType.{ColType}
use Rattle.pm_values.specs.Order.{Values}
use Rattle.pm_binrow.specs.Row.{IsRow, IsShort, body, bytes_of, filled, fixed_size, is_null, null_bits, null_bytes, null_count, row_bytes, slots, tail}
use Rattle.pm_binrow.specs.Answer.{Answers}
use Rattle.pm_binrow.specs.declared.fault.BinFault.{BinFault}
use Rattle.pm_binrow.specs.declared.fault.BinFault.TheVariants as faults
use Rattle.pm_binrow.specs.Reading.{YieldsNone, are_bytes, are_octets, body_in, cells_in, row_in, whole_in, with_nulls}
use Rattle.pm_binrow.proofs.Bits.{null_bytes-again, null_bytes-read, null_marked}
use Rattle.pm_binrow.proofs.Sizes.{length-bytes_of, length-octets, length-slots}
use Rattle.pm_binrow.proofs.Slots.{cells_again, cells_read}
use Rattle.pm_binrow.proofs.Spelling.{are_bytes-all, are_bytes-true, bytes_of-bytes}
use Rattle.pm_binrow.proofs.Steps.{bind_some, some_if, some_then}
use Rattle.pm_binrow.proofs.Texts.{AreBytes, all_bytes, bytes_dropped, bytes_taken, each_byte}

-- a row has one value for each column
pub length-row : (kinds : List ColType) (values : Values) → IsRow kinds values → length values ≡ length kinds
length-row [] [] h = refl
length-row [] (value ∷ values) h = absurd h
length-row (kind ∷ kinds) [] h = absurd h
length-row (kind ∷ kinds) (value ∷ values) h = ap suc (length-row kinds values h.1)

-- so none is missing
row_bytes-whole : (kinds : List ColType) (values : Values) → IsRow kinds values → row_bytes kinds values ≡ bytes_of kinds values
row_bytes-whole kinds values h =
    ap (bytes_of kinds) (take_at values (replicate (length kinds) Null) (length kinds) (length-row kinds values h))

-- ---- from bytes to values

body_read : (kinds : List ColType) (bytes : List ℕ) (values : Values) → AreBytes bytes → body_in kinds bytes ≡ Some values
    → IsRow kinds values × (bytes ≡ body kinds values)
unfolding body_in
body_read kinds bytes values all e =
    let k = length kinds in
    let nulls = take (null_count k) bytes in
    let rest = drop (null_count k) bytes in
    let places = take (8 * k) rest in
    let tails = drop (8 * k) rest in
    let a = some_then (leb (fixed_size k) (length bytes)) (cells_in (length bytes) nulls 8 kinds places tails >>= with_nulls nulls) values e in
    let room : fixed_size k ≤ length bytes = leb-true (fixed_size k) (length bytes) a.0 in
    let b = bind_some (cells_in (length bytes) nulls 8 kinds places tails) (with_nulls nulls) values a.1 in
    let c = some_if (are_octets nulls (null_bits (map is_null b.0))) b.0 values b.2 in
    let after : length rest ≡ length bytes - null_count k = length-drop (null_count k) bytes in
    let many : length places ≡ 8 * k = length-take-le (8 * k) rest (omega arith) in
    let left : length tails ≡ length rest - 8 * k = length-drop (8 * k) rest in
    let offset : fixed_size k + length tails ≡ length bytes = omega arith in
    let fits : AreBytes rest = bytes_dropped (null_count k) bytes all in
    let r = cells_read kinds (length bytes) (fixed_size k) nulls 8 places tails b.0 many (bytes_taken (8 * k) rest fits) (bytes_dropped (8 * k) rest fits) offset b.1 in
    let flags = map is_null b.0 in
    let same : length flags ≡ k = length-map b.0 is_null ∙ length-row kinds b.0 r.0 in
    let size : length nulls ≡ null_count (length flags) =
    length-take-le (null_count k) bytes (omega arith) ∙ ap null_count (sym same) in
    let marks : nulls ≡ null_bytes flags = null_bytes-read nulls flags size c.0 in
    let spelled : bytes ≡ body kinds b.0 =
    sym (take-append-drop (null_count k) bytes) ∙ ap (λ (t : List ℕ). t ++ rest) marks
    ∙ ap (λ (t : List ℕ). null_bytes flags ++ t)
    (sym (take-append-drop (8 * k) rest) ∙ ap (λ (t : List ℕ). t ++ tails) r.1 ∙ ap (λ (t : List ℕ). slots (fixed_size k) kinds b.0 ++ t) r.2) in
    let P : Values → Type 0 = λ vs. IsRow kinds vs × (bytes ≡ body kinds vs) in
    subst P c.1 (r.0, spelled)

whole_read : (kinds : List ColType) (bytes : List ℕ) (values : Values) → AreBytes bytes → whole_in kinds bytes ≡ Some values
    → IsRow kinds values × IsShort kinds values × (bytes ≡ row_bytes kinds values)
unfolding whole_in
whole_read kinds bytes values all e =
    let k = length kinds in
    let a = some_then (ltb (length bytes) (2 ^ 31)) _ values e in
    let b = some_then (leb 4 (length bytes)) _ values a.1 in
    let c = some_then (eqb (from_be_bytes w32 (take 4 bytes)) k) _ values b.1 in
    let short : length bytes < 2 ^ 31 = ltb-true (length bytes) (2 ^ 31) a.0 in
    let four : length (take 4 bytes) ≡ 4 = length-take-le 4 bytes (leb-true 4 (length bytes) b.0) in
    let count : to_be_bytes w32 k ≡ take 4 bytes =
    be_bytes_4 (take 4 bytes) k four (each_byte (take 4 bytes) (bytes_taken 4 bytes all)) (sym (eqb-true (from_be_bytes w32 (take 4 bytes)) k c.0)) in
    let r = body_read kinds (drop 4 bytes) values (bytes_dropped 4 bytes all) c.1 in
    let spelled : bytes ≡ bytes_of kinds values =
    sym (take-append-drop 4 bytes) ∙ ap (λ (t : List ℕ). t ++ drop 4 bytes) (sym count) ∙ ap (λ (t : List ℕ). to_be_bytes w32 k ++ t) r.1 in
    let whole : bytes ≡ row_bytes kinds values = spelled ∙ sym (row_bytes-whole kinds values r.0) in
    let P : List ℕ → Type 0 = λ t. length t < 2 ^ 31 in
    (r.0, subst P whole short, whole)

-- the row that bytes are is written as they are
pub row_read : (kinds : List ColType) (bytes : List ℕ) (values : Values) → row_in kinds bytes ≡ Some values
    → IsRow kinds values × IsShort kinds values × (bytes ≡ row_bytes kinds values)
unfolding row_in
row_read kinds bytes values e =
    let a = some_then (are_bytes bytes) (whole_in kinds bytes) values e in
    whole_read kinds bytes values (are_bytes-true bytes a.0) a.1

-- of bytes in memory nothing but bytes is known
pub row_in-bytes : (kinds : List ColType) (bytes : List ℕ) → ((i : ℕ) → get_or bytes i 0 < 256) → row_in kinds bytes ≡ whole_in kinds bytes
unfolding row_in
row_in-bytes kinds bytes each = rw (are_bytes-all bytes (all_bytes bytes each)) refl

-- ---- from values to bytes

body_again : (kinds : List ColType) (values : Values) → IsRow kinds values → length (body kinds values) < 2 ^ 31 → body_in kinds (body kinds values) ≡ Some values
unfolding body_in
body_again kinds values h bound =
    let k = length kinds in
    let same = length-row kinds values h in
    let flags = map is_null values in
    let nulls = null_bytes flags in
    let places = slots (fixed_size k) kinds values in
    let tails = flat_map tail values in
    let count : null_count (length flags) ≡ null_count k = ap null_count (length-map values is_null ∙ same) in
    let size : length nulls ≡ null_count k = length-octets (null_count (length flags)) (null_bits flags) ∙ count in
    let many : length places ≡ 8 * k = length-slots (fixed_size k) kinds values same in
    let whole : length (body kinds values) ≡ fixed_size k + length tails =
    length-append nulls (places ++ tails) ∙ omega (arith, length-append places tails) in
    let first : take (null_count k) (nulls ++ (places ++ tails)) ≡ nulls = take_at nulls (places ++ tails) (null_count k) size in
    let rest : drop (null_count k) (nulls ++ (places ++ tails)) ≡ places ++ tails = drop_at nulls (places ++ tails) (null_count k) size in
    let next : take (8 * k) (places ++ tails) ≡ places = take_at places tails (8 * k) many in
    let last : drop (8 * k) (places ++ tails) ≡ tails = drop_at places tails (8 * k) many in
    let read = cells_again kinds values (length (body kinds values)) (fixed_size k) nulls 8 h (null_marked values) (sym whole) bound in
    let room : leb (fixed_size k) (length (body kinds values)) ≡ true = le-leb (fixed_size k) (length (body kinds values)) (omega arith) in
    rw (room, first, rest, next, last, read, null_bytes-again flags) refl

whole_again : (kinds : List ColType) (values : Values) → IsRow kinds values → length (bytes_of kinds values) < 2 ^ 31
    → whole_in kinds (bytes_of kinds values) ≡ Some values
unfolding whole_in
whole_again kinds values h bound =
    let k = length kinds in
    let size = length-bytes_of kinds values (length-row kinds values h) in
    let few : k < 2 ^ 32 = omega arith in
    let rest : length (body kinds values) < 2 ^ 31 = omega arith in
    let room : leb 4 (length (bytes_of kinds values)) ≡ true = le-leb 4 (length (bytes_of kinds values)) (omega arith) in
    rw (lt-ltb (length (bytes_of kinds values)) (2 ^ 31) bound, room, from_be_bytes-to_be_bytes_4 k few, eq-eqb k k refl) (body_again kinds values h rest)

bytes_again : (kinds : List ColType) (values : Values) → IsRow kinds values → length (bytes_of kinds values) < 2 ^ 31
    → row_in kinds (bytes_of kinds values) ≡ Some values
unfolding row_in
bytes_again kinds values h bound =
    rw (are_bytes-all (bytes_of kinds values) (bytes_of-bytes kinds values h)) (whole_again kinds values h bound)

-- a row is what its bytes are read as
pub row_again : (kinds : List ColType) (values : Values) → IsRow kinds values → IsShort kinds values → row_in kinds (row_bytes kinds values) ≡ Some values
row_again kinds values h short =
    let whole = row_bytes-whole kinds values h in
    let P : List ℕ → Type 0 = λ t. length t < 2 ^ 31 in
    ap (row_in kinds) whole ∙ bytes_again kinds values h (subst P whole short)

-- both ways
pub row_read_again : (kinds : List ColType) (bytes : List ℕ) (values : Values) → (row_in kinds bytes ≡ Some values)
    ↔ (IsRow kinds values × IsShort kinds values × (bytes ≡ row_bytes kinds values))
row_read_again kinds bytes values =
    (row_read kinds bytes values, λ h. ap (row_in kinds) h.2 ∙ row_again kinds values h.0 h.1)

-- where the bytes are those of a row, no fault but out of memory is answered
pub never_bad : (e : BinFault) (reading : Option Values) (row : Values) → YieldsNone e reading → reading ≡ Some row → Answers row (Err e)
never_bad faults.Memory reading row none some = tt
never_bad faults.Bad reading row none some = absurd cc

-- no two rows have the same bytes
pub one_row : (kinds : List ColType) (row other : Values) → IsRow kinds row → IsRow kinds other → IsShort kinds row → IsShort kinds other
    → row_bytes kinds row ≡ row_bytes kinds other → row ≡ other
one_row kinds row other h g short brief same =
    let e : Some row ≡ Some other = sym (row_again kinds row h short) ∙ ap (row_in kinds) same ∙ row_again kinds other g brief in
    cc

length-filled : (columns : ℕ) (values : Values) → length (filled columns values) ≡ columns
length-filled columns values =
    length-take-le columns (values ++ replicate columns Null)
    (omega (arith, length-append values (replicate columns Null), length-replicate columns Null))

first_four : (kinds : List ColType) (row : Values) → IsShort kinds row → from_be_bytes w32 (take 4 (row_bytes kinds row)) ≡ length kinds
first_four kinds row short =
    let size = length-bytes_of kinds (filled (length kinds) row) (length-filled (length kinds) row) in
    let few : length kinds < 2 ^ 32 = omega arith in
    from_be_bytes-to_be_bytes_4 (length kinds) few

-- rows with the same bytes have as many columns
pub same_columns : (kinds others : List ColType) (row other : Values) → IsShort kinds row → IsShort others other
    → row_bytes kinds row ≡ row_bytes others other → length kinds ≡ length others
same_columns kinds others row other short brief same =
    sym (first_four kinds row short) ∙ ap (λ (t : List ℕ). from_be_bytes w32 (take 4 t)) same ∙ first_four others other brief
