-- Texts and bytes in slots and tails, both ways.
use Rattle.std.proofs.Common.{◌≡◌, ℕ, zero, suc, ◌+◌, ◌-◌, ◌/◌, ◌%◌, ◌^◌, ◌<◌, ◌≤◌, true, cond, eqb, leb, ltb}
use Rattle.std.proofs.Common.{List, [], ◌∷◌, ◌++◌, length, get_or, take, drop, Some, None, refl, sym, ap, ◌∙◌, append_assoc, arith, inl, inr}
use Rattle.std.proofs.lemmas.Bool.{cases_lt, eqb-true, eq-eqb, leb-true, le-leb, ltb-true, lt-ltb, le-ltb}
use Rattle.std.proofs.lemmas.List.{drop_all, drop_more, get_or_at, length-append, length-drop, length-take-le, take-append-drop}
use Rattle.std.proofs.lemmas.List.{take_all, take_at, drop_at}
use Rattle.std.proofs.lemmas.Nat.{le_bytes_4, from_le_bytes-to_le_bytes_4}
use Rattle.std.specs.Int.{w32, from_le_bytes, to_le_bytes}
use Rattle.std.specs.List.{AllByRecursion}
use Rattle.pm_base.proofs.Laws.{AllByRecursion-parts}
use Rattle.pm_binrow.specs.Row.{padded, text_slot, text_tail, zeros}
use Rattle.pm_binrow.specs.Reading.{is_zero, long_in, short_in, text_in}
use Rattle.pm_binrow.proofs.Sizes.{length-zeros, length-text_tail, text_slot-long, text_slot-short, text_tail-long, text_tail-short}
use Rattle.pm_binrow.proofs.Steps.{some_if, some_then, true_then}

-- ---- bytes

-- each is a byte
abbrev pub AreBytes : List ℕ → Type 0
AreBytes bytes = AllByRecursion (λ b. b < 256) bytes

pub each_byte : (bytes : List ℕ) → AreBytes bytes → (i : ℕ) → get_or bytes i 0 < 256
each_byte [] all i = omega arith
each_byte (b ∷ bytes) all zero = all.0
each_byte (b ∷ bytes) all (suc i) = each_byte bytes all.1 i

pub all_bytes : (bytes : List ℕ) → ((i : ℕ) → get_or bytes i 0 < 256) → AreBytes bytes
all_bytes [] each = tt
all_bytes (b ∷ bytes) each = (each 0, all_bytes bytes (λ i. each (suc i)))

pub bytes_taken : (n : ℕ) (bytes : List ℕ) → AreBytes bytes → AreBytes (take n bytes)
bytes_taken zero bytes all = tt
bytes_taken (suc n) [] all = tt
bytes_taken (suc n) (b ∷ bytes) all = (all.0, bytes_taken n bytes all.1)

pub bytes_dropped : (n : ℕ) (bytes : List ℕ) → AreBytes bytes → AreBytes (drop n bytes)
bytes_dropped zero bytes all = all
bytes_dropped (suc n) [] all = tt
bytes_dropped (suc n) (b ∷ bytes) all = bytes_dropped n bytes all.1

pub zero_is : (bytes : List ℕ) → is_zero bytes ≡ true → bytes ≡ zeros (length bytes)
unfolding is_zero
zero_is [] e = refl
zero_is (b ∷ bytes) e =
    let h = true_then (eqb b 0) (is_zero bytes) e in
    let first = eqb-true b 0 h.0 in
    let later = zero_is bytes h.1 in
    cc

pub is_zero-zeros : (n : ℕ) → is_zero (zeros n) ≡ true
unfolding is_zero
is_zero-zeros zero = refl
is_zero-zeros (suc n) = is_zero-zeros n

-- ---- from a slot to its text

-- the slot and the tails are those of the text
abbrev pub IsText : ℕ → List ℕ → List ℕ → List ℕ → List ℕ → Type 0
IsText at place tails text later = (place ≡ text_slot at text) × (tails ≡ text_tail text ++ later)

-- a text that stands in its slot
short_read : (at n : ℕ) (place tails text later : List ℕ) → length place ≡ 8 → get_or place 7 0 ≡ 128 + n
    → short_in n place tails ≡ Some (text, later) → IsText at place tails text later
unfolding short_in
short_read at n place tails text later eight mark e =
    let a = some_then (leb n 7) (cond (is_zero (drop n (take 7 place))) (Some (take n (take 7 place), tails)) None) (text, later) e in
    let le = leb-true n 7 a.0 in
    let b = some_if (is_zero (drop n (take 7 place))) (take n (take 7 place), tails) (text, later) a.1 in
    let is : take n (take 7 place) ≡ text = ap (λ (p : List ℕ × List ℕ). p.0) b.1 in
    let left : tails ≡ later = ap (λ (p : List ℕ × List ℕ). p.1) b.1 in
    let seven : length (take 7 place) ≡ 7 = length-take-le 7 place (omega arith) in
    let long : length text ≡ n = sym (ap length is) ∙ length-take-le n (take 7 place) (omega arith) in
    let filling : drop n (take 7 place) ≡ zeros (7 - n) =
    zero_is (drop n (take 7 place)) b.0 ∙ ap zeros (length-drop n (take 7 place) ∙ ap (λ (m : ℕ). m - n) seven) in
    let front : take 7 place ≡ text ++ zeros (7 - n) =
    sym (take-append-drop n (take 7 place)) ∙ ap (λ (t : List ℕ). t ++ drop n (take 7 place)) is ∙ ap (λ (t : List ℕ). text ++ t) filling in
    let last : drop 7 place ≡ (128 + n) ∷ [] =
    drop_more place 7 0 (omega arith) ∙ ap (λ (t : List ℕ). get_or place 7 0 ∷ t) (drop_all 8 place (omega arith))
    ∙ ap (λ (m : ℕ). m ∷ []) mark in
    let whole : place ≡ (text ++ zeros (7 - n)) ++ (128 + n) ∷ [] =
    sym (take-append-drop 7 place) ∙ ap (λ (t : List ℕ). t ++ drop 7 place) front ∙ ap (λ (t : List ℕ). (text ++ zeros (7 - n)) ++ t) last in
    let spelled : place ≡ text ++ (zeros (7 - n) ++ (128 + n) ∷ []) = whole ∙ append_assoc text (zeros (7 - n)) ((128 + n) ∷ []) in
    let few : length text ≤ 7 = omega arith in (
      spelled ∙ ap (λ (m : ℕ). text ++ (zeros (7 - m) ++ (128 + m) ∷ [])) (sym long) ∙ sym (text_slot-short at text few),
      left ∙ ap (λ (t : List ℕ). t ++ later) (sym (text_tail-short text few)),
    )

-- a text that stands in the tails
long_read : (size at n : ℕ) (place tails text later : List ℕ) → length place ≡ 8 → AreBytes place → at + length tails ≡ size
    → n ≡ from_le_bytes w32 (take 4 place) → long_in size n (from_le_bytes w32 (take 4 (drop 4 place))) tails ≡ Some (text, later)
    → IsText at place tails text later
unfolding long_in
long_read size at n place tails text later eight fits offset counted e =
    let there = from_le_bytes w32 (take 4 (drop 4 place)) in
    let part = take (padded n) tails in
    let a = some_then (ltb 7 n) _ (text, later) e in
    let b = some_then (eqb (there + length tails) size) _ (text, later) a.1 in
    let c = some_then (leb (padded n) (length tails)) _ (text, later) b.1 in
    let d = some_if (is_zero (drop n part)) (take n part, drop (padded n) tails) (text, later) c.1 in
    let many : 7 < n = ltb-true 7 n a.0 in
    let room : padded n ≤ length tails = leb-true (padded n) (length tails) c.0 in
    let sum : there + length tails ≡ size = eqb-true (there + length tails) size b.0 in
    let same : there ≡ at = omega arith in
    let is : take n part ≡ text = ap (λ (p : List ℕ × List ℕ). p.0) d.1 in
    let left : drop (padded n) tails ≡ later = ap (λ (p : List ℕ × List ℕ). p.1) d.1 in
    let size_of_part : length part ≡ padded n = length-take-le (padded n) tails room in
    let long : length text ≡ n = sym (ap length is) ∙ length-take-le n part (omega arith) in
    let filling : drop n part ≡ zeros (padded n - n) =
    zero_is (drop n part) d.0 ∙ ap zeros (length-drop n part ∙ ap (λ (m : ℕ). m - n) size_of_part) in
    let front : part ≡ text ++ zeros (padded n - n) =
    sym (take-append-drop n part) ∙ ap (λ (t : List ℕ). t ++ drop n part) is ∙ ap (λ (t : List ℕ). text ++ t) filling in
    let whole : tails ≡ (text ++ zeros (padded n - n)) ++ later =
    sym (take-append-drop (padded n) tails) ∙ ap (λ (t : List ℕ). t ++ drop (padded n) tails) front
    ∙ ap (λ (t : List ℕ). (text ++ zeros (padded n - n)) ++ t) left in
    let first : to_le_bytes w32 n ≡ take 4 place =
    le_bytes_4 (take 4 place) n (length-take-le 4 place (omega arith)) (each_byte (take 4 place) (bytes_taken 4 place fits)) counted in
    let half : length (drop 4 place) ≡ 4 = length-drop 4 place ∙ ap (λ (m : ℕ). m - 4) eight in
    let second : to_le_bytes w32 there ≡ take 4 (drop 4 place) =
    le_bytes_4 (take 4 (drop 4 place)) there (length-take-le 4 (drop 4 place) (omega arith))
    (each_byte (take 4 (drop 4 place)) (bytes_taken 4 (drop 4 place) (bytes_dropped 4 place fits))) refl in
    let both : place ≡ to_le_bytes w32 n ++ to_le_bytes w32 there =
    sym (take-append-drop 4 place) ∙ ap (λ (t : List ℕ). t ++ drop 4 place) (sym first)
    ∙ ap (λ (t : List ℕ). to_le_bytes w32 n ++ t) (sym (second ∙ take_all 4 (drop 4 place) (omega arith))) in
    let longer : 7 < length text = omega arith in (
      both ∙ ap (λ (m : ℕ). to_le_bytes w32 m ++ to_le_bytes w32 there) (sym long)
          ∙ ap (λ (m : ℕ). to_le_bytes w32 (length text) ++ to_le_bytes w32 m) same ∙ sym (text_slot-long at text longer),
      whole ∙ ap (λ (m : ℕ). (text ++ zeros (padded m - m)) ++ later) (sym long) ∙ ap (λ (t : List ℕ). t ++ later) (sym (text_tail-long text longer)),
    )

pub text_read : (size at : ℕ) (place tails text later : List ℕ) → length place ≡ 8 → AreBytes place → at + length tails ≡ size
    → text_in size place tails ≡ Some (text, later) → IsText at place tails text later
unfolding text_in
text_read size at place tails text later eight fits offset e = elim (cases_lt (get_or place 7 0) 128) [
  | inl lt ↦ long_read size at (from_le_bytes w32 (take 4 place)) place tails text later eight fits offset refl (rw (lt-ltb (get_or place 7 0) 128 lt) at e)
  | inr le ↦ short_read at (get_or place 7 0 - 128) place tails text later eight (omega arith) (rw (le-ltb (get_or place 7 0) 128 le) at e)
]

-- the bytes of the text are bytes
pub text_bytes : (at : ℕ) (place tails text later : List ℕ) → IsText at place tails text later → AreBytes place → AreBytes tails → AreBytes text
text_bytes at place tails text later is fits all = elim (cases_lt 7 (length text)) [
  | inl lt ↦
      let whole : AreBytes (text_tail text ++ later) = rw is.1 at all in
      let first = (AllByRecursion-parts (λ b. b < 256) (text_tail text) later whole).0 in
      (AllByRecursion-parts (λ b. b < 256) text (zeros (padded (length text) - length text)) (rw (text_tail-long text lt) at first)).0
  | inr le ↦
      let whole : AreBytes (text_slot at text) = rw is.0 at fits in
      (AllByRecursion-parts (λ b. b < 256) text (zeros (7 - length text) ++ (128 + length text) ∷ []) (rw (text_slot-short at text le) at whole)).0
]

-- ---- from a text to its slot

short_again : (n : ℕ) (text tails : List ℕ) (mark : ℕ) → length text ≡ n → n ≤ 7
    → short_in n (text ++ (zeros (7 - n) ++ mark ∷ [])) tails ≡ Some (text, tails)
unfolding short_in
short_again n text tails mark long le =
    let front : take 7 (text ++ (zeros (7 - n) ++ mark ∷ [])) ≡ text ++ zeros (7 - n) =
    ap (take 7) (sym (append_assoc text (zeros (7 - n)) (mark ∷ [])))
    ∙ take_at (text ++ zeros (7 - n)) (mark ∷ []) 7 (omega (arith, length-append text (zeros (7 - n)), length-zeros (7 - n))) in
    rw (le-leb n 7 le, front, drop_at text (zeros (7 - n)) n long, is_zero-zeros (7 - n), take_at text (zeros (7 - n)) n long) refl

long_again : (size at n : ℕ) (text later : List ℕ) → length text ≡ n → 7 < n
    → at + length ((text ++ zeros (padded n - n)) ++ later) ≡ size
    → long_in size n at ((text ++ zeros (padded n - n)) ++ later) ≡ Some (text, later)
unfolding long_in
long_again size at n text later long lt offset =
    let filled : length (text ++ zeros (padded n - n)) ≡ padded n =
    length-append text (zeros (padded n - n)) ∙ omega (arith, length-zeros (padded n - n)) in
    let tails = (text ++ zeros (padded n - n)) ++ later in
    let room : padded n ≤ length tails = omega (arith, length-append (text ++ zeros (padded n - n)) later) in
    rw (
      lt-ltb 7 n lt,
      eq-eqb (at + length tails) size offset,
      le-leb (padded n) (length tails) room,
      take_at (text ++ zeros (padded n - n)) later (padded n) filled,
      drop_at (text ++ zeros (padded n - n)) later (padded n) filled,
      drop_at text (zeros (padded n - n)) n long,
      is_zero-zeros (padded n - n),
      take_at text (zeros (padded n - n)) n long,
    ) refl

pub text_again : (size at : ℕ) (text later : List ℕ) → at + length (text_tail text ++ later) ≡ size → size < 2 ^ 31
    → text_in size (text_slot at text) (text_tail text ++ later) ≡ Some (text, later)
unfolding text_in
text_again size at text later offset bound = elim (cases_lt 7 (length text)) [
  | inl lt ↦
      let whole = length-append (text_tail text) later in
      let filled = length-text_tail text lt in
      let small : length text < 2 ^ 32 = omega arith in
      let near : at < 2 ^ 31 = omega arith in
      let top : at / 256 ^ 3 % 256 < 128 = omega arith in
      let spelled : at + length ((text ++ zeros (padded (length text) - length text)) ++ later) ≡ size = rw (text_tail-long text lt) at offset in
      rw (text_slot-long at text lt, text_tail-long text lt, lt-ltb _ 128 top, from_le_bytes-to_le_bytes_4 (length text) small, from_le_bytes-to_le_bytes_4 at (omega arith))
      (long_again size at (length text) text later refl lt spelled)
  | inr le ↦
      let n = length text in
      let marked : get_or (text ++ (zeros (7 - n) ++ (128 + n) ∷ [])) 7 0 ≡ 128 + n =
      ap (λ (t : List ℕ). get_or t 7 0) (sym (append_assoc text (zeros (7 - n)) ((128 + n) ∷ [])))
      ∙ get_or_at (text ++ zeros (7 - n)) (128 + n) [] 0 7 (omega (arith, length-append text (zeros (7 - n)), length-zeros (7 - n))) in
      let count : 128 + n - 128 ≡ n = omega arith in
      rw (text_slot-short at text le, text_tail-short text le, marked, le-ltb (128 + n) 128 (omega arith), count)
      (short_again n text later (128 + n) refl le)
]
