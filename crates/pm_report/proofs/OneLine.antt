-- Each refusal is printed as one line.
use Rattle.std.proofs.Common.{◌≡◌, ◌≢◌, ℕ, ◌/◌, ◌%◌, ◌<◌, ◌≤◌, Bool, true, false, List, [], ◌∷◌, if◌then◌else◌, inl, inr, refl, arith}
use Rattle.std.specs.Char.{is_ascii_control}
use Rattle.std.specs.Fmt.{digit_glyph}
use Rattle.std.specs.List.{AllByRecursion}
use Rattle.std.proofs.lemmas.Bool.{cases_lt}
use Rattle.std.proofs.lemmas.Bool.Decides.{nat_tests}
use Rattle.std.proofs.lemmas.List.Elements.{All-from_recursion}
use Rattle.pm_base.proofs.Laws.{AllByRecursion-append}
use Rattle.pm_values.specs.declared.refusal.Refusal.{Refusal}
use Rattle.pm_report.specs.Escaping.{IsOneLine, code_text, escaped, printed}
use Rattle.pm_report.specs.Report.{refusal_text, report_text}

abbrev IsPlain : ℕ → Type 0
IsPlain b = (32 ≤ b) × (b ≢ 127)

glyph_plain : (d : ℕ) → d < 16 → IsPlain (digit_glyph false d)
glyph_plain d small = elim (cases_lt d 10) [ inl low ↦ (grind arith, λ e. grind arith) | inr high ↦ (grind arith, λ e. grind arith) ]

control_small : (b : ℕ) → is_ascii_control b ≡ true → b < 128
control_small b is = grind (arith, nat_tests)

other_plain : (b : ℕ) → is_ascii_control b ≡ false → IsPlain b
other_plain b isnt = (grind (arith, nat_tests), λ e. grind (arith, nat_tests))

code_plain : (b : ℕ) → b < 128 → AllByRecursion IsPlain (code_text b)
code_plain b small =
    let high : b / 16 < 16 = omega arith in
    let low : b % 16 < 16 = omega arith in
    let plain : (c : ℕ) → 32 ≤ c → c < 127 → IsPlain c = λ c from to. (from, λ e. absurd (omega arith)) in
    let digits : AllByRecursion IsPlain (digit_glyph false (b / 16) ∷ digit_glyph false (b % 16) ∷ []) = (glyph_plain (b / 16) high, (glyph_plain (b % 16) low, tt)) in
    (plain 92 (omega arith) (omega arith), (plain 117 (omega arith) (omega arith), (plain 48 (omega arith) (omega arith), (plain 48 (omega arith) (omega arith), digits))))

printed_plain : (b : ℕ) → AllByRecursion IsPlain (printed b)
printed_plain b = by (is_ascii_control b) refl
  where
    by : (t : Bool) → is_ascii_control b ≡ t → AllByRecursion IsPlain (if t then code_text b else b ∷ [])
    by true is = code_plain b (control_small b is)
    by false isnt = (other_plain b isnt, tt)

escaped_plain : (text : List ℕ) → AllByRecursion IsPlain (escaped text)
escaped_plain [] = tt
escaped_plain (b ∷ text) = AllByRecursion-append IsPlain (printed b) (escaped text) (printed_plain b) (escaped_plain text)

pub one_line : (refusal : Refusal) → IsOneLine (report_text refusal)
one_line refusal =
    let text = escaped (refusal_text refusal) in
    (text, refl, All-from_recursion IsPlain text (escaped_plain (refusal_text refusal)))
