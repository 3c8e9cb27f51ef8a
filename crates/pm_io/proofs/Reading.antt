-- What reading a line in pieces keeps.
use Rattle.std.proofs.Common.{◌≡◌, ◌≢◌, List, [], ◌∷◌, ◌++◌, ℕ, ◌+◌, ◌≤◌, ◌<◌, length, Bool, true, false, Option, Some, None, IfSome, refl, ap, sym, ◌∙◌, arith, append_assoc, append-nil, length-append}
use Rattle.pm_base.specs.Known.{with_prefix}
use Rattle.pm_io.specs.Source.{SourceView, SourceLater}
use Rattle.pm_io.specs.Lines.{coming, first_line, later_lines, has_newline, IsLineOf}
use Rattle.pm_base.specs.Newline.{IsUnbroken}
use Rattle.pm_io.proofs.Lemmas.{first_line-append, later_lines-append, has_newline-append}

-- nothing is lost, the line that was begun has no newline and is within the limit, or is as it was, and no fault is forgotten
pub record IsReading (max : ℕ) (before ahead_before : List ℕ) (source_before : SourceView) (begun ahead : List ℕ) (source : SourceView) : Type 0 where
  pub kept : coming begun ahead source ≡ coming before ahead_before source_before
  pub unbroken : IsUnbroken begun
  pub up_to : length before ≤ max → length begun ≤ max + 1
  pub again : max < length before → begun ≡ before
  pub later : SourceLater source_before source

-- bytes before the same are the same
with_prefix-same : (begun a b : List ℕ) (left right : Option (List ℕ)) → with_prefix a left ≡ with_prefix b right → with_prefix (begun ++ a) left ≡ with_prefix (begun ++ b) right
with_prefix-same begun a b None None h = refl
with_prefix-same begun a b None (Some y) h = cc
with_prefix-same begun a b (Some x) None h = cc
with_prefix-same begun a b (Some x) (Some y) h =
    let e : a ++ x ≡ b ++ y = cc in
    ap Some (append_assoc begun a x ∙ ap (λ l. begun ++ l) e ∙ sym (append_assoc begun b y))

-- what is to come is the same after bytes were read ahead
pub with_prefix-read : (begun a b : List ℕ) (left right come : Option (List ℕ)) → with_prefix (begun ++ a) left ≡ come → with_prefix b right ≡ with_prefix a left → come ≡ with_prefix (begun ++ b) right
with_prefix-read begun a b left right come kept h = sym kept ∙ sym (with_prefix-same begun b a right left h)

-- a line that a newline ends
pub line_ended : (all line ahead bytes after : List ℕ) (left come : Option (List ℕ)) → come ≡ with_prefix all left → line ++ (10 ∷ ahead) ≡ all → IsUnbroken line → bytes ≡ line → after ≡ []
    → IfSome come (IsLineOf bytes true (with_prefix (after ++ ahead) left))
line_ended all line ahead bytes after None come is parts h same none = rw is tt
line_ended all line ahead bytes after (Some left) come is parts h same none =
    let whole : come ≡ Some (line ++ (10 ∷ (ahead ++ left))) = is ∙ ap (λ l. Some (l ++ left)) (sym parts) ∙ ap Some (append_assoc line (10 ∷ ahead) left) in
    rw (whole, same, none)
    record {
      nonempty = λ e. absurd (omega (arith, ap length e, length-append line (10 ∷ (ahead ++ left))));
      first = sym (first_line-append line (10 ∷ (ahead ++ left)) h ∙ append-nil line);
      newline = sym (has_newline-append line (10 ∷ (ahead ++ left)) h);
      rest = ap Some (sym (later_lines-append line (10 ∷ (ahead ++ left)) h));
    }

-- the last line, without a newline
pub line_last : (line ahead bytes after : List ℕ) (ended : Bool) (left come : Option (List ℕ)) → come ≡ with_prefix (line ++ ahead) left → ahead ≡ [] → IfSome left (λ l. l ≡ []) → IsUnbroken line
    → bytes ≡ line → ended ≡ false → line ≢ [] → after ≡ [] → IfSome come (IsLineOf bytes ended (with_prefix (after ++ ahead) left))
line_last line ahead bytes after ended None come is empty end h same unended some none = rw is tt
line_last line ahead bytes after ended (Some left) come is empty end h same unended some none =
    let whole : come ≡ Some line = is ∙ ap Some (ap (λ l. (line ++ l) ++ left) empty ∙ ap (λ l. (line ++ []) ++ l) end ∙ append-nil (line ++ []) ∙ append-nil line) in
    rw (whole, same, unended, none, empty)
    record {
      nonempty = some;
      first = sym (sym (ap first_line (append-nil line)) ∙ first_line-append line [] h ∙ append-nil line);
      newline = sym (sym (ap has_newline (append-nil line)) ∙ has_newline-append line [] h);
      rest = ap Some (end ∙ sym (sym (ap later_lines (append-nil line)) ∙ later_lines-append line [] h));
    }

-- a line that is above the limit
pub line_long : (max : ℕ) (begun ahead : List ℕ) (left come : Option (List ℕ)) → with_prefix (begun ++ ahead) left ≡ come → IsUnbroken begun → max < length begun
    → IfSome come (λ bytes. max < length (first_line bytes))
line_long max begun ahead None come is h long = rw (← is) tt
line_long max begun ahead (Some left) come is h long =
    let first : first_line ((begun ++ ahead) ++ left) ≡ begun ++ first_line (ahead ++ left) = ap first_line (append_assoc begun ahead left) ∙ first_line-append begun (ahead ++ left) h in
    rw (← is) (rw first (omega (arith, length-append begun (first_line (ahead ++ left)))))
