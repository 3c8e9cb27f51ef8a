-- The first limit that a line exceeds, by the offsets at which each is exceeded.
use Rattle.std.proofs.Common.{◌≡◌, ℕ, suc, ◌+◌, ◌<◌, ◌≤◌, ◌==◌, ◌&&◌, List, [], ◌∷◌, length, nat_le, nat_lt, Bool, true, false, not, if◌then◌else◌, Some, None, refl, sym, ap, ◌∙◌, arith, le-leb}
use Rattle.std.specs.List.{prefix_len}
use Rattle.std.proofs.Math.Bool.{and-false}
use Rattle.std.proofs.lemmas.Bool.{leb-true, leb-false, lt-leb, lt-ltb}
use Rattle.pm_input.specs.Blank.{is_blank_byte}
use Rattle.pm_input.specs.Judge.{or_then, exceeded_from, first_of}
use Rattle.pm_input.specs.declared.judge.Room.{Room}
use Rattle.pm_input.specs.declared.limits.Limits.{Limits}
use Rattle.pm_input.specs.declared.limits.LimitKind.TheVariants.{Line, BatchRows, BatchBytes}

le-ltb : (a b : ℕ) → b ≤ a → nat_lt a b ≡ false
le-ltb a b h = lt-leb (suc a) b (omega arith)

first_of-line : (line row bytes len : ℕ) → line ≤ row → line ≤ bytes → line < len → first_of line row bytes len ≡ Some Line
first_of-line line row bytes len a b c = rw (le-leb line row a, le-leb line bytes b, lt-ltb line len c) refl

first_of-rows : (line row bytes len : ℕ) → row < line → row ≤ bytes → row < len → first_of line row bytes len ≡ Some BatchRows
first_of-rows line row bytes len a b c = rw (lt-leb line row a, le-leb row bytes b, lt-ltb row len c) refl

first_of-bytes : (line row bytes len : ℕ) → bytes < line → bytes < row → bytes < len → first_of line row bytes len ≡ Some BatchBytes
first_of-bytes line row bytes len a b c = rw (lt-leb line bytes a, and-false (nat_le line row), lt-leb row bytes b, lt-ltb bytes len c) refl

first_of-none : (line row bytes len : ℕ) → len ≤ line → len ≤ row → len ≤ bytes → first_of line row bytes len ≡ None
first_of-none line row bytes len a b c =
    rw (le-ltb line len a, and-false (nat_le line row && nat_le line bytes), le-ltb row len b, and-false (nat_le row bytes), le-ltb bytes len c) refl

-- how many bytes stand before the one that exceeds the limit of rows, all where there is none
abbrev pub row_in : Room → Bool → List ℕ → ℕ
row_in room blank bytes = if blank && (room.rows == 0) then prefix_len is_blank_byte bytes else length bytes

row_later : (blank byte_blank none : Bool) (p n : ℕ) → ((blank && not byte_blank) && none) ≡ false
    → (if blank && none then (if byte_blank then 1 + p else 0) else suc n) ≡ suc (if (blank && byte_blank) && none then p else n)
row_later true true true p n e = omega arith
row_later true true false p n e = refl
row_later true false true p n e = cc
row_later true false false p n e = refl
row_later false byte_blank none p n e = refl

row_here : (blank byte_blank none : Bool) (p n : ℕ) → ((blank && not byte_blank) && none) ≡ true
    → (if blank && none then (if byte_blank then 1 + p else 0) else suc n) ≡ 0
row_here true true none p n e = cc
row_here true false true p n e = refl
row_here true false false p n e = cc
row_here false byte_blank none p n e = cc

-- one byte, and those after it
step : (limits : Limits) (room : Room) (i : ℕ) (blank : Bool) (b : ℕ) (bytes : List ℕ) (line row most : Bool) → nat_le limits.line i ≡ line → ((blank && not (is_blank_byte b)) && (room.rows == 0)) ≡ row → nat_le room.bytes i ≡ most
    → i ≤ limits.line → i ≤ room.bytes
    → (suc i ≤ limits.line → suc i ≤ room.bytes → exceeded_from limits room (suc i) (blank && is_blank_byte b) bytes ≡ first_of limits.line (suc i + row_in room (blank && is_blank_byte b) bytes) room.bytes (suc i + length bytes))
    → or_then (if line then Some Line else if row then Some BatchRows else if most then Some BatchBytes else None) (exceeded_from limits room (suc i) (blank && is_blank_byte b) bytes)
    ≡ first_of limits.line (i + row_in room blank (b ∷ bytes)) room.bytes (i + suc (length bytes))
step limits room i blank b bytes true row most line_is row_is most_is a c later =
    let at = leb-true limits.line i line_is in
    sym (first_of-line limits.line (i + row_in room blank (b ∷ bytes)) room.bytes (i + suc (length bytes)) (omega arith) (omega arith) (omega arith))
step limits room i blank b bytes false true most line_is row_is most_is a c later =
    let below = leb-false limits.line i line_is in
    let at : row_in room blank (b ∷ bytes) ≡ 0 = row_here blank (is_blank_byte b) (room.rows == 0) (prefix_len is_blank_byte bytes) (length bytes) row_is in
    sym (first_of-rows limits.line (i + row_in room blank (b ∷ bytes)) room.bytes (i + suc (length bytes)) (omega arith) (omega arith) (omega arith))
step limits room i blank b bytes false false true line_is row_is most_is a c later =
    let below = leb-false limits.line i line_is in
    let most = leb-true room.bytes i most_is in
    let past : row_in room blank (b ∷ bytes) ≡ suc (row_in room (blank && is_blank_byte b) bytes) = row_later blank (is_blank_byte b) (room.rows == 0) (prefix_len is_blank_byte bytes) (length bytes) row_is in
    sym (first_of-bytes limits.line (i + row_in room blank (b ∷ bytes)) room.bytes (i + suc (length bytes)) (omega arith) (omega arith) (omega arith))
step limits room i blank b bytes false false false line_is row_is most_is a c later =
    let below = leb-false limits.line i line_is in
    let under = leb-false room.bytes i most_is in
    let past : row_in room blank (b ∷ bytes) ≡ suc (row_in room (blank && is_blank_byte b) bytes) = row_later blank (is_blank_byte b) (room.rows == 0) (prefix_len is_blank_byte bytes) (length bytes) row_is in
    let row_same : suc i + row_in room (blank && is_blank_byte b) bytes ≡ i + row_in room blank (b ∷ bytes) = omega arith in
    let len_same : suc i + length bytes ≡ i + suc (length bytes) = omega arith in
    later (omega arith) (omega arith)
    ∙ ap (λ (r : ℕ). first_of limits.line r room.bytes (suc i + length bytes)) row_same
    ∙ ap (λ (n : ℕ). first_of limits.line (i + row_in room blank (b ∷ bytes)) room.bytes n) len_same

empty_row : (t : Bool) (n : ℕ) → (if t then n else n) ≡ n
empty_row true n = refl
empty_row false n = refl

exceeded_is : (limits : Limits) (room : Room) (i : ℕ) (blank : Bool) (bytes : List ℕ) → i ≤ limits.line → i ≤ room.bytes
    → exceeded_from limits room i blank bytes ≡ first_of limits.line (i + row_in room blank bytes) room.bytes (i + length bytes)
exceeded_is limits room i blank [] a c =
    let row : row_in room blank [] ≡ 0 = empty_row (blank && (room.rows == 0)) 0 in
    sym (first_of-none limits.line (i + row_in room blank []) room.bytes (i + 0) (omega arith) (omega arith) (omega arith))
exceeded_is limits room i blank (b ∷ bytes) a c =
    step limits room i blank b bytes (nat_le limits.line i) ((blank && not (is_blank_byte b)) && (room.rows == 0)) (nat_le room.bytes i) refl refl refl a c
    (λ x y. exceeded_is limits room (suc i) (blank && is_blank_byte b) bytes x y)

-- the first limit, by the offset of the byte that exceeds the limit of rows
pub first_limit_is : (limits : Limits) (room : Room) (line : List ℕ) (row : ℕ) → row ≡ row_in room true line → first_of limits.line row room.bytes (length line) ≡ exceeded_from limits room 0 true line
first_limit_is limits room line row is =
    let row_same : row ≡ 0 + row_in room true line = omega (arith, is) in
    let len_same : length line ≡ 0 + length line = omega arith in
    ap (λ (r : ℕ). first_of limits.line r room.bytes (length line)) row_same
    ∙ ap (λ (n : ℕ). first_of limits.line (0 + row_in room true line) room.bytes n) len_same
    ∙ sym (exceeded_is limits room 0 true line (omega arith) (omega arith))
