-- Values of one type have texts of their own, which are bytes.
use Rattle.std.proofs.Common.{◌≡◌, ℕ, ℤ, Bool, true, false, List, Option, None, Some, IsSomeAnd}
use Rattle.std.proofs.Common.{IsUtf8, refl, sym, ap, subst, ◌∙◌, arith, get_or}
use Rattle.std.specs.Fmt.{signed_decimal}
use Rattle.std.proofs.lemmas.Fmt.{IsAscii-signed, signed_decimal_injective}
use Rattle.std.proofs.lemmas.Str.{IsUtf8-from_ascii}
use Rattle.std.specs.Int.{w64}
use Rattle.std.specs.Int.RustNames.{FitsSigned}
use Rattle.std.specs.Option.{unwrap_or}
use Rattle.pm_values.specs.Fits.{IsInType}
use Rattle.pm_values.specs.declared.column.ColType.{ColType}
use Rattle.pm_values.specs.declared.column.ColType.TheVariants as types
use Rattle.pm_values.specs.declared.column.Column.{Column}
use Rattle.pm_values.specs.declared.value.Value.{Value}
use Rattle.pm_values.specs.declared.value.Value.TheVariants as values
use Rattle.pm_value_text.proofs.Lemmas.{IsUtf8-date_text, IsUtf8-hex_text, bytes_in-hex_text, day_in-date_text}
use Rattle.pm_value_text.specs.Date.{IsDay, date_text, day_in}
use Rattle.pm_value_text.specs.Hexadecimal.{bytes_in, hex_text}
use Rattle.pm_schema.specs.Folder.{value_text}
use Rattle.pm_partitions.proofs.Bytes.{AreBytes, utf8-bytes}

-- a value of the type is one of its kind, and in range
abbrev IsWhole : Value → Type 0
IsWhole v = (n : ℤ) × (v ≡ values.Int n) × FitsSigned w64 n

abbrev Shape : ColType → Value → Type 0
Shape types.Boolean v = (b : Bool) × (v ≡ values.Bool b)
Shape types.TinyInt v = IsWhole v
Shape types.SmallInt v = IsWhole v
Shape types.Int v = IsWhole v
Shape types.BigInt v = IsWhole v
Shape types.Text v = (t : List ℕ) × (v ≡ values.Text t) × IsUtf8 t
Shape types.Bytes v = (t : List ℕ) × (v ≡ values.Bytes t) × AreBytes t
Shape types.Date v = (d : ℤ) × (v ≡ values.Day d) × IsDay d
Shape types.Timestamp v = (n : ℤ) × (v ≡ values.Millis n) × FitsSigned w64 n

shape : (kind : ColType) (v : Value) → IsInType kind v → Shape kind v
shape types.Boolean values.Null fits = absurd fits
shape types.Boolean (values.Bool b) fits = (b, refl)
shape types.Boolean (values.Int n) fits = absurd fits
shape types.Boolean (values.Text t) fits = absurd fits
shape types.Boolean (values.Bytes t) fits = absurd fits
shape types.Boolean (values.Day d) fits = absurd fits
shape types.Boolean (values.Millis n) fits = absurd fits
shape types.TinyInt values.Null fits = absurd fits
shape types.TinyInt (values.Bool b) fits = absurd fits
shape types.TinyInt (values.Int n) fits = (n, refl, record { sfits = omega (arith, fits.sfits) })
shape types.TinyInt (values.Text t) fits = absurd fits
shape types.TinyInt (values.Bytes t) fits = absurd fits
shape types.TinyInt (values.Day d) fits = absurd fits
shape types.TinyInt (values.Millis n) fits = absurd fits
shape types.SmallInt values.Null fits = absurd fits
shape types.SmallInt (values.Bool b) fits = absurd fits
shape types.SmallInt (values.Int n) fits = (n, refl, record { sfits = omega (arith, fits.sfits) })
shape types.SmallInt (values.Text t) fits = absurd fits
shape types.SmallInt (values.Bytes t) fits = absurd fits
shape types.SmallInt (values.Day d) fits = absurd fits
shape types.SmallInt (values.Millis n) fits = absurd fits
shape types.Int values.Null fits = absurd fits
shape types.Int (values.Bool b) fits = absurd fits
shape types.Int (values.Int n) fits = (n, refl, record { sfits = omega (arith, fits.sfits) })
shape types.Int (values.Text t) fits = absurd fits
shape types.Int (values.Bytes t) fits = absurd fits
shape types.Int (values.Day d) fits = absurd fits
shape types.Int (values.Millis n) fits = absurd fits
shape types.BigInt values.Null fits = absurd fits
shape types.BigInt (values.Bool b) fits = absurd fits
shape types.BigInt (values.Int n) fits = (n, refl, fits)
shape types.BigInt (values.Text t) fits = absurd fits
shape types.BigInt (values.Bytes t) fits = absurd fits
shape types.BigInt (values.Day d) fits = absurd fits
shape types.BigInt (values.Millis n) fits = absurd fits
shape types.Text values.Null fits = absurd fits
shape types.Text (values.Bool b) fits = absurd fits
shape types.Text (values.Int n) fits = absurd fits
shape types.Text (values.Text t) fits = (t, refl, fits)
shape types.Text (values.Bytes t) fits = absurd fits
shape types.Text (values.Day d) fits = absurd fits
shape types.Text (values.Millis n) fits = absurd fits
shape types.Bytes values.Null fits = absurd fits
shape types.Bytes (values.Bool b) fits = absurd fits
shape types.Bytes (values.Int n) fits = absurd fits
shape types.Bytes (values.Text t) fits = absurd fits
shape types.Bytes (values.Bytes t) fits = (t, refl, fits)
shape types.Bytes (values.Day d) fits = absurd fits
shape types.Bytes (values.Millis n) fits = absurd fits
shape types.Date values.Null fits = absurd fits
shape types.Date (values.Bool b) fits = absurd fits
shape types.Date (values.Int n) fits = absurd fits
shape types.Date (values.Text t) fits = absurd fits
shape types.Date (values.Bytes t) fits = absurd fits
shape types.Date (values.Day d) fits = (d, refl, fits)
shape types.Date (values.Millis n) fits = absurd fits
shape types.Timestamp values.Null fits = absurd fits
shape types.Timestamp (values.Bool b) fits = absurd fits
shape types.Timestamp (values.Int n) fits = absurd fits
shape types.Timestamp (values.Text t) fits = absurd fits
shape types.Timestamp (values.Bytes t) fits = absurd fits
shape types.Timestamp (values.Day d) fits = absurd fits
shape types.Timestamp (values.Millis n) fits = (n, refl, fits)

-- ---- one value

truths : (a b : Bool) → value_text (values.Bool a) ≡ value_text (values.Bool b) → a ≡ b
truths true true e = refl
truths false false e = refl
truths true false e = let is : 116 ≡ 102 = ap (λ (l : List ℕ). get_or l 0 0) e in absurd (omega (arith, is))
truths false true e = let is : 102 ≡ 116 = ap (λ (l : List ℕ). get_or l 0 0) e in absurd (omega (arith, is))

module _ (v w : Value) (e : value_text v ≡ value_text w) where
  texts : (x y : Value) → v ≡ x → w ≡ y → value_text x ≡ value_text y
  texts x y p q = sym (ap value_text p) ∙ e ∙ ap value_text q

  wholes : IsWhole v → IsWhole w → v ≡ w
  wholes p q =
      let n = signed_decimal_injective p.0 q.0 p.2.sfits q.2.sfits (texts (values.Int p.0) (values.Int q.0) p.1 q.1) in
      p.1 ∙ ap values.Int n ∙ sym q.1

  one_shape : (kind : ColType) → Shape kind v → Shape kind w → v ≡ w
  one_shape types.Boolean p q =
      p.1 ∙ ap values.Bool (truths p.0 q.0 (texts (values.Bool p.0) (values.Bool q.0) p.1 q.1)) ∙ sym q.1
  one_shape types.TinyInt p q = wholes p q
  one_shape types.SmallInt p q = wholes p q
  one_shape types.Int p q = wholes p q
  one_shape types.BigInt p q = wholes p q
  one_shape types.Text p q =
      p.1 ∙ ap values.Text (texts (values.Text p.0) (values.Text q.0) p.1 q.1) ∙ sym q.1
  one_shape types.Bytes p q =
      let same = texts (values.Bytes p.0) (values.Bytes q.0) p.1 q.1 in
      let again : Some p.0 ≡ Some q.0 =
      sym (bytes_in-hex_text p.0 p.2) ∙ ap bytes_in same ∙ bytes_in-hex_text q.0 q.2 in
      p.1 ∙ ap (λ (o : Option (List ℕ)). values.Bytes (unwrap_or o p.0)) again ∙ sym q.1
  one_shape types.Date p q =
      let same = texts (values.Day p.0) (values.Day q.0) p.1 q.1 in
      let again : Some p.0 ≡ Some q.0 =
      sym (day_in-date_text p.0 p.2) ∙ ap day_in same ∙ day_in-date_text q.0 q.2 in
      p.1 ∙ ap (λ (o : Option ℤ). values.Day (unwrap_or o p.0)) again ∙ sym q.1
  one_shape types.Timestamp p q =
      let n = signed_decimal_injective p.0 q.0 p.2.sfits q.2.sfits
      (texts (values.Millis p.0) (values.Millis q.0) p.1 q.1) in
      p.1 ∙ ap values.Millis n ∙ sym q.1

pub one_value : (o : Option Column) (v w : Value) → IsSomeAnd o (λ c. IsInType c.kind v)
    → IsSomeAnd o (λ c. IsInType c.kind w) → value_text v ≡ value_text w → v ≡ w
one_value None v w fits also e = absurd fits
one_value (Some c) v w fits also e = one_shape v w e c.kind (shape c.kind v fits) (shape c.kind w also)

-- ---- its text

truth_bytes : (b : Bool) → AreBytes (value_text (values.Bool b))
truth_bytes true = (omega arith, (omega arith, (omega arith, (omega arith, tt))))
truth_bytes false = (omega arith, (omega arith, (omega arith, (omega arith, (omega arith, tt)))))

whole_bytes : (n : ℤ) → FitsSigned w64 n → AreBytes (signed_decimal n)
whole_bytes n fits = utf8-bytes (signed_decimal n) (IsUtf8-from_ascii (signed_decimal n) (IsAscii-signed n fits.sfits))

module _ (v : Value) where
  bytes_of : (x : Value) → v ≡ x → AreBytes (value_text x) → AreBytes (value_text v)
  bytes_of x is all = subst (λ (y : Value). AreBytes (value_text y)) (sym is) all

  wholes_bytes : IsWhole v → AreBytes (value_text v)
  wholes_bytes p = bytes_of (values.Int p.0) p.1 (whole_bytes p.0 p.2)

  shape_bytes : (kind : ColType) → Shape kind v → AreBytes (value_text v)
  shape_bytes types.Boolean p = bytes_of (values.Bool p.0) p.1 (truth_bytes p.0)
  shape_bytes types.TinyInt p = wholes_bytes p
  shape_bytes types.SmallInt p = wholes_bytes p
  shape_bytes types.Int p = wholes_bytes p
  shape_bytes types.BigInt p = wholes_bytes p
  shape_bytes types.Text p = bytes_of (values.Text p.0) p.1 (utf8-bytes p.0 p.2)
  shape_bytes types.Bytes p = bytes_of (values.Bytes p.0) p.1 (utf8-bytes (hex_text p.0) (IsUtf8-hex_text p.0))
  shape_bytes types.Date p = bytes_of (values.Day p.0) p.1 (utf8-bytes (date_text p.0) (IsUtf8-date_text p.0 p.2))
  shape_bytes types.Timestamp p = bytes_of (values.Millis p.0) p.1 (whole_bytes p.0 p.2)

pub text_bytes : (o : Option Column) (v : Value) → IsSomeAnd o (λ c. IsInType c.kind v) → AreBytes (value_text v)
text_bytes None v fits = absurd fits
text_bytes (Some c) v fits = shape_bytes v c.kind (shape c.kind v fits)
