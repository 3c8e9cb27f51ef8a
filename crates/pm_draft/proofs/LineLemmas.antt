-- The draft and the later lines among all lines of an input.
use Rattle.std.proofs.Common.{◌≡◌, ◌↔◌, ℕ, ◌+◌, ◌<◌, ◌==◌, arith, List, [], ◌∷◌, ◌++◌, length, filter, Bool, true, false, not, if◌then◌else◌, Some, None, IsTrue, refl, sym, ap, ◌∙◌}
use Rattle.std.specs.List.{AllByRecursion, enumerate_from}
use Rattle.std.proofs.lemmas.Bool.{ne_eqb}
use Rattle.pm_input.specs.Blank.{is_blank}
use Rattle.pm_draft.specs.Draft.{NumberedLine, draft_line, later_line}

-- the lines that aren't blank, numbered from n on
abbrev rows_from : ℕ → List (List ℕ) → List NumberedLine
rows_from n lines = filter (λ line. not (is_blank line.1)) (enumerate_from n lines)

-- a line and those after it, if it isn't blank
abbrev if_row : Bool → NumberedLine → List NumberedLine → List NumberedLine
if_row blank line more = if not blank then line ∷ more else more

not_first : (n : ℕ) → 1 < n → (n == 1) ≡ false
not_first n past = ne_eqb n 1 (λ is. omega arith)

-- ---- the draft

past_draft : (n : ℕ) (lines : List (List ℕ)) → 1 < n → draft_line (rows_from n lines) ≡ []
past_draft n [] past = refl
past_draft n (line ∷ lines) past = elim (is_blank line) as (λ blank. draft_line (if_row blank (n, line) (rows_from (n + 1) lines)) ≡ []) [
  | true ↦ past_draft (n + 1) lines (omega arith)
  | false ↦ ap (λ (b : Bool). if b then line else []) (not_first n past)
]

pub first_draft : (line : List ℕ) (lines : List (List ℕ)) → draft_line (rows_from 1 (line ∷ lines)) ≡ (if is_blank line then [] else line)
first_draft line lines = elim (is_blank line) as (λ blank. draft_line (if_row blank (1, line) (rows_from 2 lines)) ≡ (if blank then [] else line)) [
  | true ↦ past_draft 2 lines (omega arith)
  | false ↦ refl
]

-- ---- later lines

abbrev AreBlank : List (List ℕ) → Type 0
AreBlank = AllByRecursion (λ line. IsTrue (is_blank line))

later_row : (n : ℕ) (line : List ℕ) (more : List NumberedLine) → 1 < n → later_line ((n, line) ∷ more) ≡ Some n
later_row n line more past = ap (λ (b : Bool). if b then later_line more else Some n) (not_first n past)

-- without a later line all are blank
none_blank : (n : ℕ) (lines : List (List ℕ)) → 1 < n → later_line (rows_from n lines) ≡ None → AreBlank lines
none_blank n [] past = λ none. tt
none_blank n (line ∷ lines) past =
    elim (is_blank line) as (λ blank. later_line (if_row blank (n, line) (rows_from (n + 1) lines)) ≡ None → IsTrue blank × AreBlank lines) [
      | true ↦ λ none. (refl, none_blank (n + 1) lines (omega arith) none)
      | false ↦ λ none. let some = sym (later_row n line (rows_from (n + 1) lines) past) ∙ none in cc
    ]

-- the first of them that isn't blank
first_later : (n : ℕ) (before : List (List ℕ)) (line : List ℕ) (after : List (List ℕ)) → 1 < n → AreBlank before → is_blank line ≡ false
    → later_line (rows_from n (before ++ line ∷ after)) ≡ Some (n + length before)
first_later n [] line after past blank row =
    ap (λ (b : Bool). later_line (if_row b (n, line) (rows_from (n + 1) after))) row ∙ later_row n line (rows_from (n + 1) after) past
    ∙ ap Some (omega arith)
first_later n (first ∷ before) line after past blank row =
    ap (λ (b : Bool). later_line (if_row b (n, first) (rows_from (n + 1) (before ++ line ∷ after)))) blank.0
    ∙ first_later (n + 1) before line after (omega arith) blank.1 row
    ∙ ap Some (omega arith)

-- blank lines are no later lines
blank_none : (n : ℕ) (lines : List (List ℕ)) → AreBlank lines → later_line (rows_from n lines) ≡ None
blank_none n [] blank = refl
blank_none n (line ∷ lines) blank =
    ap (λ (b : Bool). later_line (if_row b (n, line) (rows_from (n + 1) lines))) blank.0 ∙ blank_none (n + 1) lines blank.1

-- line 1 is none
after_first : (line : List ℕ) (more : List NumberedLine) (blank : Bool) → later_line (if_row blank (1, line) more) ≡ later_line more
after_first line more true = refl
after_first line more false = refl

pub alone : (line : List ℕ) (lines : List (List ℕ)) → (later_line (rows_from 1 (line ∷ lines)) ≡ None) ↔ AreBlank lines
alone line lines =
    let same = after_first line (rows_from 2 lines) (is_blank line) in
    (λ none. none_blank 2 lines (omega arith) (sym same ∙ none), λ blank. same ∙ blank_none 2 lines blank)

pub later : (first : List ℕ) (before : List (List ℕ)) (line : List ℕ) (after : List (List ℕ)) → AreBlank before → is_blank line ≡ false
    → later_line (rows_from 1 (first ∷ (before ++ line ∷ after))) ≡ Some (2 + length before)
later first before line after blank row =
    after_first first (rows_from 2 (before ++ line ∷ after)) (is_blank first) ∙ first_later 2 before line after (omega arith) blank row
