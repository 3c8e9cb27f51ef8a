-- Lines that stand in a text one after another.
use Rattle.std.proofs.Common.{◌≡◌, ◌≤◌, ℕ, ◌+◌, suc, List, [], ◌∷◌, ◌++◌, length, take, drop, refl, sym, ap, ◌∙◌, arith}
use Rattle.std.proofs.lemmas.List.{take-append-le, drop-append-le, length-drop, nil_from_length, take_all}
use Rattle.pm_input.specs.Kept.{lines_in, marked_length}
use Rattle.pm_input.specs.declared.kept.LineMark.{LineMark}

pub marked_length-push : (marks : List LineMark) (m : LineMark) → marked_length (marks ++ m ∷ []) ≡ marked_length marks + m.len
marked_length-push [] m = omega arith
marked_length-push (first ∷ marks) m =
    let more = marked_length-push marks m in
    omega arith

-- a line that is added stands after the others
pub lines_in-push : (text : List ℕ) (marks : List LineMark) (m : LineMark) (line : List ℕ) → marked_length marks ≡ length text → m.len ≡ length line
    → lines_in (text ++ line) (marks ++ m ∷ []) ≡ lines_in text marks ++ (m.number, line) ∷ []
lines_in-push text [] m line whole len =
    ap (λ (before : List ℕ). lines_in (before ++ line) (m ∷ [])) (nil_from_length text (sym whole))
    ∙ ap (λ (bytes : List ℕ). (m.number, bytes) ∷ []) (take_all m.len line (omega arith))
lines_in-push text (first ∷ marks) m line whole len =
    let inside : first.len ≤ length text = omega arith in
    let fewer = length-drop first.len text in
    ap (λ (bytes : List ℕ). (first.number, bytes) ∷ lines_in (drop first.len (text ++ line)) (marks ++ m ∷ [])) (take-append-le first.len text line inside)
    ∙ ap (λ (bytes : List ℕ). (first.number, take first.len text) ∷ lines_in bytes (marks ++ m ∷ [])) (drop-append-le first.len text line inside)
    ∙ ap (λ (lines : List (ℕ × List ℕ)). (first.number, take first.len text) ∷ lines) (lines_in-push (drop first.len text) marks m line (omega arith) len)

-- lines of a text stand before those of another
pub lines_in-append : (text later : List ℕ) (first marks : List LineMark) → marked_length first ≡ length text → lines_in (text ++ later) (first ++ marks) ≡ lines_in text first ++ lines_in later marks
lines_in-append text later [] marks whole =
    ap (λ (before : List ℕ). lines_in (before ++ later) marks) (nil_from_length text (sym whole))
lines_in-append text later (m ∷ first) marks whole =
    let inside : m.len ≤ length text = omega (arith, whole) in
    let fewer = length-drop m.len text in
    ap (λ (bytes : List ℕ). (m.number, bytes) ∷ lines_in (drop m.len (text ++ later)) (first ++ marks)) (take-append-le m.len text later inside)
    ∙ ap (λ (bytes : List ℕ). (m.number, take m.len text) ∷ lines_in bytes (first ++ marks)) (drop-append-le m.len text later inside)
    ∙ ap (λ (lines : List (ℕ × List ℕ)). (m.number, take m.len text) ∷ lines) (lines_in-append (drop m.len text) later first marks (omega (arith, whole, fewer)))

pub marked_length-append : (first marks : List LineMark) → marked_length (first ++ marks) ≡ marked_length first + marked_length marks
marked_length-append [] marks = omega arith
marked_length-append (m ∷ first) marks =
    let more = marked_length-append first marks in
    omega (arith, more)

pub lines_in_count : (text : List ℕ) (marks : List LineMark) → length (lines_in text marks) ≡ length marks
lines_in_count text [] = refl
lines_in_count text (m ∷ marks) = ap suc (lines_in_count (drop m.len text) marks)
