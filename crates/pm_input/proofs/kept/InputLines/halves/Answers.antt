use Rattle.std.proofs.Common.{◌≡◌, ℕ, ◌+◌, List, ◌++◌, take, drop, length, sym, ap, ◌∙◌, arith}
use Rattle.std.proofs.lemmas.List.{length-append, take-append-drop}
use Rattle.pm_input.specs.Kept.{lines_in, marked_length}
use Rattle.pm_input.specs.declared.kept.LineMark.{LineMark}
use Rattle.pm_input.proofs.KeptLemmas.{lines_in-append, marked_length-append}
use Rattle.pm_input.proofs.kept.InputLines.halves.Goals as goal

-- marks that were cut, and how long their lines are
cut : (marks first later : List LineMark) (n : ℕ) → first ≡ take n marks → later ≡ drop n marks → marked_length first + marked_length later ≡ marked_length marks
cut marks first later n front back =
    sym (marked_length-append first later) ∙ ap (λ (ms : List LineMark). marked_length (ms ++ later)) front ∙ ap (λ (ms : List LineMark). marked_length (take n marks ++ ms)) back ∙ ap marked_length (take-append-drop n marks)

pub text_length-end-requires : goal.text_length-end-requires
text_length-end-requires c =
    let both = cut c.deref.result.now c.split_at.result.0.now c.split_at.result.1.now _ c.split_at.ensures.front c.split_at.ensures.back in
    let same = ap marked_length c.deref.ensures.value in
    let whole = c.self.invariant in
    omega (arith, both, same, whole, c.self.inside.text.ok, c.self.inside.text.small)

pub split_off-requires : goal.split_off-requires
split_off-requires c =
    let both = cut c.deref.result.now c.split_at.result.0.now c.split_at.result.1.now _ c.split_at.ensures.front c.split_at.ensures.back in
    let same = ap marked_length c.deref.ensures.value in
    let whole = c.self.invariant in
    omega (arith, both, same, whole, c.text_length-end.ensures, c.self.inside.text.ok)

-- the text and the marks that were left and those that were cut off
record AreCut (text first later : List ℕ) (marks front back : List LineMark) : Type 0 where
  bytes : text ≡ first ++ later
  lines : marks ≡ front ++ back
  first_whole : marked_length front ≡ length first
  later_whole : marked_length back ≡ length later

are_cut : (text : List ℕ) (marks front : List LineMark) (n end : ℕ) (later : List ℕ) (back : List LineMark) (first : List ℕ) (left : List LineMark) → marked_length marks ≡ length text
    → front ≡ take n marks → end ≡ marked_length front → first ≡ take end text → later ≡ drop end text → left ≡ take n marks → back ≡ drop n marks → length first ≡ end
    → AreCut text first later marks left back
are_cut text marks front n end later back first left whole front_is end_is first_is later_is left_is back_is long =
    let joined : text ≡ first ++ later = sym (ap (λ (xs : List ℕ). xs ++ later) first_is ∙ ap (λ (ys : List ℕ). take end text ++ ys) later_is ∙ take-append-drop end text) in
    let marked : marks ≡ left ++ back = sym (ap (λ (xs : List LineMark). xs ++ back) left_is ∙ ap (λ (ys : List LineMark). take n marks ++ ys) back_is ∙ take-append-drop n marks) in
    let own : marked_length left ≡ length first = ap marked_length (left_is ∙ sym front_is) ∙ sym end_is ∙ sym long in
    let all : marked_length left + marked_length back ≡ length first + length later =
    sym (marked_length-append left back) ∙ ap marked_length (sym marked) ∙ whole ∙ ap length joined ∙ length-append first later in
    record { bytes = joined; lines = marked; first_whole = own; later_whole = omega (arith, own, all) }

parts : (c : goal.After-shrink_to_fit-2) → AreCut c.self.inside.text.items c.shrink_to_fit.new.self.items c.in_ok-later_text.later_text.items c.self.inside.marks.items c.shrink_to_fit-2.new.self.items c.in_ok-later_marks.later_marks.items
parts c =
    are_cut c.self.inside.text.items c.self.inside.marks.items c.split_at.result.0.now _ c.text_length-end.result c.in_ok-later_text.later_text.items c.in_ok-later_marks.later_marks.items
    c.shrink_to_fit.new.self.items c.shrink_to_fit-2.new.self.items c.self.invariant
    (c.split_at.ensures.front ∙ ap (take _) c.deref.ensures.value) c.text_length-end.ensures
    (c.shrink_to_fit.ensures.items ∙ c.in_ok-later_text.ensures.items) c.in_ok-later_text.ensures.tail
    (c.shrink_to_fit-2.ensures.items ∙ c.in_ok-later_marks.ensures.items) c.in_ok-later_marks.ensures.tail
    (ap length c.shrink_to_fit.ensures.items ∙ sym c.split_off.new.self.ok.0 ∙ c.in_ok-later_text.ensures.len)

pub invariant_of-result : goal.invariant_of-result
invariant_of-result c = (parts c).first_whole

pub invariant_of-later : goal.invariant_of-later
invariant_of-later c = (parts c).later_whole

pub returns : goal.returns
returns c =
    let p = parts c in
    sym c.self.view_is
    ∙ ap (λ (bytes : List ℕ). lines_in bytes c.self.inside.marks.items) p.bytes
    ∙ ap (lines_in (c.shrink_to_fit.new.self.items ++ c.in_ok-later_text.later_text.items)) p.lines
    ∙ lines_in-append c.shrink_to_fit.new.self.items c.in_ok-later_text.later_text.items c.shrink_to_fit-2.new.self.items c.in_ok-later_marks.later_marks.items p.first_whole
