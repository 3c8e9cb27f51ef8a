-- Cells and their slots and tails, both ways.
use Rattle.std.proofs.Common.{◌≡◌, ℕ, suc, ◌+◌, ◌*◌, ◌%◌, ◌^◌, ◌<◌, Bool, true, false, cond, List, [], ◌∷◌, ◌++◌}
use Rattle.std.proofs.Common.{length, get_or, take, drop, Option, Some, None, option_map, refl, sym, ap, subst, ◌∙◌, arith}
use Rattle.std.proofs.lemmas.List.{drop_at, length-append, length-drop, length-take-le, nil_from_length, take-append-drop, take_at}
use Rattle.std.proofs.lemmas.Str.{IsUtf8-from_is_utf8, is_utf8-from_IsUtf8}
use Rattle.std.specs.Int.{w32, w64, cast_unsigned, from_le_bytes, to_le_bytes}
use Rattle.std.specs.List.{flat_map}
use Rattle.std.specs.Str.{is_utf8}
use Rattle.pm_base.specs.Steps.{◌>>=◌}
use Rattle.pm_values.specs.declared.value.Value.{Value}
use Rattle.pm_values.specs.declared.value.Value.TheVariants.{Null, Bool as Truth, Int as Whole, Text as Words}
use Rattle.pm_values.specs.declared.value.Value.TheVariants.{Bytes as Octets, Day, Millis}
use Rattle.pm_values.specs.declared.column.ColType.{ColType}
use Rattle.pm_values.specs.declared.column.ColType.TheVariants as types
use Rattle.pm_values.specs.Fits.{IsInType}
use Rattle.pm_values.specs.Order.{Values}
use Rattle.pm_binrow.specs.Row.{IsCell, IsRow, bit, is_null, slot, slots, tail, zeros}
use Rattle.pm_binrow.specs.Reading.{cell_in, cells_in, is_marked, is_zero, some_in, text_in, value_in, words_in}
use Rattle.pm_binrow.proofs.Numbers.{big_again, day_again, day_fits, fits_32, fits_64, int_again, millis_again, slot_again, slot_read, small_again, tiny_again, truth_again}
use Rattle.pm_binrow.proofs.Cells.{cells_in-cons}
use Rattle.pm_binrow.proofs.Sizes.{length-slot}
use Rattle.pm_binrow.proofs.Steps.{bind_some, map_some, some_if, some_is}
use Rattle.pm_binrow.proofs.Texts.{AreBytes, bytes_dropped, bytes_taken, each_byte, is_zero-zeros, text_again, text_bytes, text_read, zero_is}

-- ---- from a slot to its value

-- the slot and the tails are those of the value, which may stand in the column
record IsRead (at : ℕ) (kind : ColType) (place tails : List ℕ) (value : Value) (later : List ℕ) : Type 0 where
  cell : IsCell kind value
  slotted : place ≡ slot at kind value
  tailed : tails ≡ tail value ++ later

cell_from : (kind : ColType) (value : Value) → IsInType kind value → IsCell kind value
cell_from kind Null h = tt
cell_from kind (Truth b) h = h
cell_from kind (Whole n) h = h
cell_from kind (Words text) h = h
cell_from kind (Octets bytes) h = h
cell_from kind (Day day) h = h
cell_from kind (Millis millis) h = h

-- the same of a value and the later tails that are equal
along : (at : ℕ) (kind : ColType) (place tails : List ℕ) (p q : Value × List ℕ) → p ≡ q → IsRead at kind place tails p.0 p.1 → IsRead at kind place tails q.0 q.1
along at kind place tails p q e h = subst (λ (r : Value × List ℕ). IsRead at kind place tails r.0 r.1) e h

number_cell : (at : ℕ) (kind : ColType) (place tails : List ℕ) (value : Value) (later : List ℕ) → length place ≡ 8 → AreBytes place
    → option_map {U = Value × List ℕ} (λ (v : Value). (v, tails)) (value_in kind (from_le_bytes w64 place)) ≡ Some (value, later) → IsRead at kind place tails value later
number_cell at kind place tails value later eight fits e =
    let h = map_some {B = Value × List ℕ} (value_in kind (from_le_bytes w64 place)) (λ (v : Value). (v, tails)) (value, later) e in
    let r = slot_read at kind place h.0 eight (each_byte place fits) h.1 in
    along at kind place tails (h.0, tails) (value, later) h.2
    (record { cell = cell_from kind h.0 r.0; slotted = r.1; tailed = sym (ap (λ (t : List ℕ). t ++ tails) r.2) })

text_cell : (size at : ℕ) (place tails : List ℕ) (value : Value) (later : List ℕ) → length place ≡ 8 → AreBytes place → at + length tails ≡ size
    → (text_in size place tails >>= words_in) ≡ Some (value, later) → IsRead at types.Text place tails value later
unfolding slot tail
text_cell size at place tails value later eight fits offset e =
    let h = bind_some (text_in size place tails) words_in (value, later) e in
    let u = some_if (is_utf8 h.0.0) (Words h.0.0, h.0.1) (value, later) h.2 in
    let r = text_read size at place tails h.0.0 h.0.1 eight fits offset h.1 in
    along at types.Text place tails (Words h.0.0, h.0.1) (value, later) u.1
    (record { cell = IsUtf8-from_is_utf8 h.0.0 u.0; slotted = r.0; tailed = r.1 })

bytes_cell : (size at : ℕ) (place tails : List ℕ) (value : Value) (later : List ℕ) → length place ≡ 8 → AreBytes place → AreBytes tails → at + length tails ≡ size
    → option_map {U = Value × List ℕ} (λ (t : List ℕ × List ℕ). (Octets t.0, t.1)) (text_in size place tails) ≡ Some (value, later) → IsRead at types.Bytes place tails value later
unfolding slot tail
bytes_cell size at place tails value later eight fits all offset e =
    let h = map_some {B = Value × List ℕ} (text_in size place tails) (λ (t : List ℕ × List ℕ). (Octets t.0, t.1)) (value, later) e in
    let r = text_read size at place tails h.0.0 h.0.1 eight fits offset h.1 in
    along at types.Bytes place tails (Octets h.0.0, h.0.1) (value, later) h.2
    (record { cell = text_bytes at place tails h.0.0 h.0.1 r fits all; slotted = r.0; tailed = r.1 })

some_read : (size at : ℕ) (kind : ColType) (place tails : List ℕ) (value : Value) (later : List ℕ) → length place ≡ 8 → AreBytes place → AreBytes tails
    → at + length tails ≡ size → some_in size kind place tails ≡ Some (value, later) → IsRead at kind place tails value later
unfolding some_in
some_read size at types.Text place tails value later eight fits all offset e = text_cell size at place tails value later eight fits offset e
some_read size at types.Bytes place tails value later eight fits all offset e = bytes_cell size at place tails value later eight fits all offset e
some_read size at types.Boolean place tails value later eight fits all offset e = number_cell at types.Boolean place tails value later eight fits e
some_read size at types.TinyInt place tails value later eight fits all offset e = number_cell at types.TinyInt place tails value later eight fits e
some_read size at types.SmallInt place tails value later eight fits all offset e = number_cell at types.SmallInt place tails value later eight fits e
some_read size at types.Int place tails value later eight fits all offset e = number_cell at types.Int place tails value later eight fits e
some_read size at types.BigInt place tails value later eight fits all offset e = number_cell at types.BigInt place tails value later eight fits e
some_read size at types.Date place tails value later eight fits all offset e = number_cell at types.Date place tails value later eight fits e
some_read size at types.Timestamp place tails value later eight fits all offset e = number_cell at types.Timestamp place tails value later eight fits e

null_read : (at : ℕ) (kind : ColType) (place tails : List ℕ) (value : Value) (later : List ℕ) → length place ≡ 8
    → cond {A = Option (Value × List ℕ)} (is_zero place) (Some (Null, tails)) None ≡ Some (value, later) → IsRead at kind place tails value later
unfolding slot tail
null_read at kind place tails value later eight e =
    let h = some_if (is_zero place) (Null, tails) (value, later) e in
    along at kind place tails (Null, tails) (value, later) h.1
    (record { cell = tt; slotted = zero_is place h.0 ∙ ap zeros eight; tailed = refl })

cell_read : (size at : ℕ) (kind : ColType) (marked : Bool) (place tails : List ℕ) (value : Value) (later : List ℕ) → length place ≡ 8 → AreBytes place → AreBytes tails
    → at + length tails ≡ size → cell_in size kind marked place tails ≡ Some (value, later) → IsRead at kind place tails value later
unfolding cell_in
cell_read size at kind true place tails value later eight fits all offset e = null_read at kind place tails value later eight e
cell_read size at kind false place tails value later eight fits all offset e = some_read size at kind place tails value later eight fits all offset e

-- the values are those of slots and tails
abbrev AreRead : ℕ → List ColType → List ℕ → List ℕ → Values → Type 0
AreRead at kinds places tails values = IsRow kinds values × (places ≡ slots at kinds values) × (tails ≡ flat_map tail values)

no_cells : (size at : ℕ) (nulls : List ℕ) (index : ℕ) (places tails : List ℕ) (values : Values) → length places ≡ 0
    → cells_in size nulls index [] places tails ≡ Some values → AreRead at [] places tails values
unfolding cells_in slots
no_cells size at nulls index places [] values none e =
    subst (λ (vs : Values). AreRead at [] places [] vs) (some_is e) (tt, nil_from_length places none, refl)
no_cells size at nulls index places (b ∷ tails) values none e = absurd cc

one_cell : (at : ℕ) (kind : ColType) (kinds : List ColType) (places tails later : List ℕ) (value : Value) (values : Values)
    → IsRead at kind (take 8 places) tails value later → AreRead (at + length (tail value)) kinds (drop 8 places) later values
    → AreRead at (kind ∷ kinds) places tails (value ∷ values)
unfolding slots
one_cell at kind kinds places tails later value values first rest = (
  (first.cell, rest.0),
  sym (take-append-drop 8 places) ∙ ap (λ (t : List ℕ). t ++ drop 8 places) first.slotted ∙ ap (λ (t : List ℕ). slot at kind value ++ t) rest.1,
  first.tailed ∙ ap (λ (t : List ℕ). tail value ++ t) rest.2,
)

pub cells_read : (kinds : List ColType) (size at : ℕ) (nulls : List ℕ) (index : ℕ) (places tails : List ℕ) (values : Values)
    → length places ≡ 8 * length kinds → AreBytes places → AreBytes tails → at + length tails ≡ size
    → cells_in size nulls index kinds places tails ≡ Some values → AreRead at kinds places tails values
cells_read [] size at nulls index places tails values many fits all offset e = no_cells size at nulls index places tails values (omega arith) e
cells_read (kind ∷ kinds) size at nulls index places tails values many fits all offset e =
    let a = bind_some (cell_in size kind (is_marked nulls index) (take 8 places) tails) _ values (sym (cells_in-cons size nulls index kind kinds places tails) ∙ e) in
    let value = a.0.0 in
    let later = a.0.1 in
    let b = bind_some (cells_in size nulls (index + 1) kinds (drop 8 places) later) (λ (vs : Values). Some (value ∷ vs)) values a.2 in
    let eight : length (take 8 places) ≡ 8 = length-take-le 8 places (omega arith) in
    let first = cell_read size at kind (is_marked nulls index) (take 8 places) tails value later eight (bytes_taken 8 places fits) all offset a.1 in
    let left : AreBytes (drop (length (tail value)) tails) = bytes_dropped (length (tail value)) tails all in
    let is_left : drop (length (tail value)) tails ≡ later =
    ap (λ (t : List ℕ). drop (length (tail value)) t) first.tailed ∙ drop_at (tail value) later (length (tail value)) refl in
    let counted : length tails ≡ length (tail value) + length later = ap length first.tailed ∙ length-append (tail value) later in
    let rest = cells_read kinds size (at + length (tail value)) nulls (index + 1) (drop 8 places) later b.0
    (length-drop 8 places ∙ omega arith) (bytes_dropped 8 places fits) (rw is_left at left) (omega arith) b.1 in
    let whole : value ∷ b.0 ≡ values = some_is b.2 in
    let P : Values → Type 0 = λ vs. AreRead at (kind ∷ kinds) places tails vs in
    subst P whole (one_cell at kind kinds places tails later value b.0 first rest)

-- ---- from a value to its slot

number_again : (size at : ℕ) (kind : ColType) (value : Value) (n : ℕ) (tails : List ℕ) → slot at kind value ≡ to_le_bytes w64 n → n < 2 ^ 64
    → value_in kind n ≡ Some value
    → option_map {U = Value × List ℕ} (λ (v : Value). (v, tails)) (value_in kind (from_le_bytes w64 (slot at kind value))) ≡ Some (value, tails)
number_again size at kind value n tails is lt e = ap (option_map {U = Value × List ℕ} (λ (v : Value). (v, tails))) (slot_again at kind value n is lt e)

bit_below : (b : Bool) → bit b < 2 ^ 64
bit_below true = omega arith
bit_below false = omega arith

null_again : (size at : ℕ) (kind : ColType) (later : List ℕ) → cell_in size kind true (slot at kind Null) (tail Null ++ later) ≡ Some (Null, later)
unfolding cell_in slot tail
null_again size at kind later = rw (is_zero-zeros 8) refl

some_again : (size at : ℕ) (kind : ColType) (value : Value) (later : List ℕ) → IsInType kind value → at + length (tail value ++ later) ≡ size → size < 2 ^ 31
    → some_in size kind (slot at kind value) (tail value ++ later) ≡ Some (value, later)
unfolding some_in slot tail
some_again size at types.Boolean (Truth b) later h offset bound = number_again size at types.Boolean (Truth b) (bit b) later refl (bit_below b) (truth_again b)
some_again size at types.TinyInt (Whole z) later h offset bound =
    number_again size at types.TinyInt (Whole z) (cast_unsigned w64 z % 2 ^ 8) later refl (omega arith) (tiny_again z h)
some_again size at types.SmallInt (Whole z) later h offset bound =
    number_again size at types.SmallInt (Whole z) (cast_unsigned w64 z % 2 ^ 16) later refl (omega arith) (small_again z h)
some_again size at types.Int (Whole z) later h offset bound =
    number_again size at types.Int (Whole z) (cast_unsigned w64 z % 2 ^ 32) later refl (omega arith) (int_again z h)
some_again size at types.BigInt (Whole z) later h offset bound =
    number_again size at types.BigInt (Whole z) (cast_unsigned w64 z) later refl (fits_64 z h) (big_again z h)
some_again size at types.Text (Words text) later h offset bound =
    rw (text_again size at text later offset bound, is_utf8-from_IsUtf8 text h) refl
some_again size at types.Bytes (Octets bytes) later h offset bound = rw (text_again size at bytes later offset bound) refl
some_again size at types.Date (Day day) later h offset bound =
    let below = fits_32 day (day_fits day h.0 h.1) in
    number_again size at types.Date (Day day) (cast_unsigned w32 day) later refl (omega arith) (day_again day h.0 h.1)
some_again size at types.Timestamp (Millis millis) later h offset bound =
    number_again size at types.Timestamp (Millis millis) (cast_unsigned w64 millis) later refl (fits_64 millis h) (millis_again millis h)
some_again size at kind value later h offset bound = absurd h

cell_again : (size at : ℕ) (kind : ColType) (value : Value) (later : List ℕ) → IsCell kind value → at + length (tail value ++ later) ≡ size → size < 2 ^ 31
    → cell_in size kind (is_null value) (slot at kind value) (tail value ++ later) ≡ Some (value, later)
unfolding cell_in
cell_again size at kind Null later h offset bound = null_again size at kind later
cell_again size at kind (Truth b) later h offset bound = some_again size at kind (Truth b) later h offset bound
cell_again size at kind (Whole n) later h offset bound = some_again size at kind (Whole n) later h offset bound
cell_again size at kind (Words text) later h offset bound = some_again size at kind (Words text) later h offset bound
cell_again size at kind (Octets bytes) later h offset bound = some_again size at kind (Octets bytes) later h offset bound
cell_again size at kind (Day day) later h offset bound = some_again size at kind (Day day) later h offset bound
cell_again size at kind (Millis millis) later h offset bound = some_again size at kind (Millis millis) later h offset bound

pub cells_again : (kinds : List ColType) (values : Values) (size at : ℕ) (nulls : List ℕ) (index : ℕ) → IsRow kinds values
    → ((i : ℕ) → i < length values → is_marked nulls (index + i) ≡ is_null (get_or values i Null))
    → at + length (flat_map tail values) ≡ size → size < 2 ^ 31
    → cells_in size nulls index kinds (slots at kinds values) (flat_map tail values) ≡ Some values
unfolding cells_in slots
cells_again [] [] size at nulls index h marks offset bound = refl
cells_again [] (value ∷ values) size at nulls index h marks offset bound = absurd h
cells_again (kind ∷ kinds) [] size at nulls index h marks offset bound = absurd h
cells_again (kind ∷ kinds) (value ∷ values) size at nulls index h marks offset bound =
    let place = slot at kind value in
    let later = slots (at + length (tail value)) kinds values in
    let first : take 8 (place ++ later) ≡ place = take_at place later 8 (length-slot at kind value) in
    let rest : drop 8 (place ++ later) ≡ later = drop_at place later 8 (length-slot at kind value) in
    let here : index + 0 ≡ index = omega arith in
    let mark : is_marked nulls index ≡ is_null value = rw here at (marks 0 (omega arith)) in
    let counted = length-append (tail value) (flat_map tail values) in
    let next : (i : ℕ) → i < length values → is_marked nulls (index + 1 + i) ≡ is_null (get_or values i Null) =
    λ i lt. let e : index + 1 + i ≡ index + suc i = omega arith in rw e (marks (suc i) (omega arith)) in
    let all = cells_again kinds values size (at + length (tail value)) nulls (index + 1) h.1 next (omega arith) bound in
    rw (first, rest, mark, cell_again size at kind value (flat_map tail values) h.0 offset bound, all) refl
