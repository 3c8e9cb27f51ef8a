-- What determines the first line of a text and all of them, and what was taken of a text in parts.
use Rattle.std.specs.Prelude.{◌≡◌, ◌≢◌, List, [], ◌∷◌, ◌++◌, ℕ, Bool, true, false, ◌==◌, ◌||◌, if◌then◌else◌, Option, refl}
use Rattle.std.specs.List.{AllByRecursion}
use Rattle.std.proofs.Common.{ap, ◌∙◌, sym, ne_eqb, eqb-true, append-nil, append_assoc}
use Rattle.std.proofs.lemmas.Bool.{eqb-false}
use Rattle.std.proofs.lemmas.List.Elements.{recursion_from_All, All-from_recursion}
use Rattle.pm_base.specs.Known.{and_then}
use Rattle.pm_base.proofs.Laws.{and_then-append}
use Rattle.pm_io.specs.Lines.{first_line, later_lines, has_newline, line_end, onto_first, all_lines}
use Rattle.pm_io.specs.Sink.{TookPrefix}
use Rattle.pm_base.specs.Newline.{IsUnbroken}

-- no newline, byte by byte
abbrev IsFree : List ℕ → Type 0
IsFree bytes = AllByRecursion (λ b. b ≢ 10) bytes

free_first_line : (xs ys : List ℕ) → IsFree xs → first_line (xs ++ ys) ≡ xs ++ first_line ys
free_first_line [] ys h = refl
free_first_line (b ∷ xs) ys h =
    ap (λ t. if t then [] else b ∷ first_line (xs ++ ys)) (ne_eqb b 10 h.0) ∙ ap (λ l. b ∷ l) (free_first_line xs ys h.1)

free_later_lines : (xs ys : List ℕ) → IsFree xs → later_lines (xs ++ ys) ≡ later_lines ys
free_later_lines [] ys h = refl
free_later_lines (b ∷ xs) ys h =
    ap (λ t. if t then xs ++ ys else later_lines (xs ++ ys)) (ne_eqb b 10 h.0) ∙ free_later_lines xs ys h.1

free_has_newline : (xs ys : List ℕ) → IsFree xs → has_newline (xs ++ ys) ≡ has_newline ys
free_has_newline [] ys h = refl
free_has_newline (b ∷ xs) ys h =
    ap (λ t. t || has_newline (xs ++ ys)) (ne_eqb b 10 h.0) ∙ free_has_newline xs ys h.1

-- the first line is what has no newline, and then the first line of the rest
pub first_line-append : (xs ys : List ℕ) → IsUnbroken xs → first_line (xs ++ ys) ≡ xs ++ first_line ys
first_line-append xs ys h = free_first_line xs ys (recursion_from_All (λ b. b ≢ 10) xs h)

pub later_lines-append : (xs ys : List ℕ) → IsUnbroken xs → later_lines (xs ++ ys) ≡ later_lines ys
later_lines-append xs ys h = free_later_lines xs ys (recursion_from_All (λ b. b ≢ 10) xs h)

pub has_newline-append : (xs ys : List ℕ) → IsUnbroken xs → has_newline (xs ++ ys) ≡ has_newline ys
has_newline-append xs ys h = free_has_newline xs ys (recursion_from_All (λ b. b ≢ 10) xs h)

step_free : (t : Bool) (b : ℕ) (bytes : List ℕ) → (b == 10) ≡ t → IsFree (first_line bytes) → IsFree (if t then [] else b ∷ first_line bytes)
step_free true b bytes e h = tt
step_free false b bytes e h = (eqb-false b 10 e, h)

first_line_free : (bytes : List ℕ) → IsFree (first_line bytes)
first_line_free [] = tt
first_line_free (b ∷ bytes) = step_free (b == 10) b bytes refl (first_line_free bytes)

-- no newline stands in a line
pub first_line-unbroken : (bytes : List ℕ) → IsUnbroken (first_line bytes)
first_line-unbroken bytes = All-from_recursion (λ b. b ≢ 10) (first_line bytes) (first_line_free bytes)

step_parts : (t : Bool) (b : ℕ) (bytes : List ℕ) → (b == 10) ≡ t → bytes ≡ first_line bytes ++ line_end (has_newline bytes) (later_lines bytes)
    → b ∷ bytes ≡ (if t then [] else b ∷ first_line bytes) ++ line_end (t || has_newline bytes) (if t then bytes else later_lines bytes)
step_parts true b bytes e h = ap (λ x. x ∷ bytes) (eqb-true b 10 e)
step_parts false b bytes e h = ap (λ l. b ∷ l) h

-- a text is its first line, its newline where there is one, and the rest
pub first_line-parts : (bytes : List ℕ) → bytes ≡ first_line bytes ++ line_end (has_newline bytes) (later_lines bytes)
first_line-parts [] = refl
first_line-parts (b ∷ bytes) = step_parts (b == 10) b bytes refl (first_line-parts bytes)

step_lines : (t : Bool) (b : ℕ) (bytes : List ℕ) → onto_first b (all_lines bytes) ≡ (b ∷ first_line bytes) ∷ all_lines (later_lines bytes)
    → (if t then [] ∷ all_lines bytes else onto_first b (all_lines bytes)) ≡ (if t then [] else b ∷ first_line bytes) ∷ all_lines (if t then bytes else later_lines bytes)
step_lines true b bytes h = refl
step_lines false b bytes h = h

all_lines-cons : (b : ℕ) (bytes : List ℕ) → all_lines (b ∷ bytes) ≡ first_line (b ∷ bytes) ∷ all_lines (later_lines (b ∷ bytes))
all_lines-cons b [] = step_lines (b == 10) b [] refl
all_lines-cons b (c ∷ bytes) = step_lines (b == 10) b (c ∷ bytes) (ap (onto_first b) (all_lines-cons c bytes))

-- the lines of a text are its first line and the lines of the rest
pub all_lines-first : (text : List ℕ) → text ≢ [] → all_lines text ≡ first_line text ∷ all_lines (later_lines text)
all_lines-first [] some = absurd (some refl)
all_lines-first (b ∷ bytes) some = all_lines-cons b bytes

-- of a line that is ended
pub all_lines-ended : (line rest : List ℕ) → IsUnbroken line → all_lines (line ++ (10 ∷ rest)) ≡ line ∷ all_lines rest
all_lines-ended [] rest h = refl
all_lines-ended (b ∷ line) rest h =
    all_lines-cons b (line ++ (10 ∷ rest)) ∙ ap (λ l. l ∷ all_lines (later_lines (b ∷ (line ++ (10 ∷ rest))))) (first_line-append (b ∷ line) (10 ∷ rest) h ∙ append-nil (b ∷ line)) ∙ ap (λ r. (b ∷ line) ∷ all_lines r) (later_lines-append (b ∷ line) (10 ∷ rest) h)

-- of a last line without a newline
pub all_lines-last : (line : List ℕ) → IsUnbroken line → line ≢ [] → all_lines line ≡ line ∷ []
all_lines-last line h some =
    all_lines-first line some ∙ ap (λ l. l ∷ all_lines (later_lines line)) (sym (ap first_line (append-nil line)) ∙ first_line-append line [] h ∙ append-nil line) ∙ ap (λ r. line ∷ all_lines r) (sym (ap later_lines (append-nil line)) ∙ later_lines-append line [] h)

-- ---- a text that is taken in parts

-- a prefix of the first part
pub TookPrefix-first : (before after : Option (List ℕ)) (a b : List ℕ) → TookPrefix before after a → TookPrefix before after (a ++ b)
TookPrefix-first before after a b (prefix, rest, is, took) =
    (prefix, rest ++ b, ap (λ (l : List ℕ). l ++ b) is ∙ append_assoc prefix rest b, took)

-- the first part, and a prefix of the second
pub TookPrefix-second : (before mid after : Option (List ℕ)) (a b : List ℕ) → mid ≡ and_then before a → TookPrefix mid after b → TookPrefix before after (a ++ b)
TookPrefix-second before mid after a b whole (prefix, rest, is, took) =
    (a ++ prefix, rest, ap (λ (l : List ℕ). a ++ l) is ∙ sym (append_assoc a prefix rest), took ∙ ap (λ t. and_then t prefix) whole ∙ and_then-append before a prefix)
