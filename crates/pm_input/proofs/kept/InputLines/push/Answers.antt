use Rattle.std.proofs.Common.{◌≡◌, ℕ, [], ◌∷◌, ◌++◌, length, List, ap, ◌∙◌, arith}
use Rattle.std.proofs.lemmas.List.{length-append}
use Rattle.pm_input.specs.Kept.{lines_in, marked_length}
use Rattle.pm_input.specs.declared.kept.LineMark.{LineMark}
use Rattle.pm_input.proofs.KeptLemmas.{lines_in-push, marked_length-push}
use Rattle.pm_input.proofs.kept.InputLines.push.Goals as goal

pub invariant_of-self-2 : goal.invariant_of-self-2
invariant_of-self-2 c =
    let m : LineMark = record { number = c.in-Ok-Ok.number; len = c.in-Ok-Ok.len } in
    let before = c.self.inside.marks.items in
    let marks = ap marked_length (c.push_reserved.ensures.items ∙ ap (λ (ms : List LineMark). ms ++ m ∷ []) c.in_ok-try_reserve.ensures.items) ∙ marked_length-push before m in
    let text = ap length c.in_ok-extend_from_slice.ensures.items ∙ length-append c.self.inside.text.items c.args.bytes.now in
    let whole = c.self.invariant in
    let len = c.in-Ok-Ok.ensures' in
    omega arith

pub returns : goal.returns
returns c =
    let m : LineMark = record { number = c.in-Ok-Ok.number; len = c.in-Ok-Ok.len } in
    let before = c.self.inside.marks.items in
    let text = c.self.inside.text.items in
    let line = c.args.bytes.now in
    let marks = c.push_reserved.ensures.items ∙ ap (λ (ms : List LineMark). ms ++ m ∷ []) c.in_ok-try_reserve.ensures.items in
    let len = c.in-Ok-Ok.ensures' in
    let length_is : m.len ≡ length line = omega arith in
    let number = c.in-Ok-Ok.ensures in
    let number_is : m.number ≡ c.args.number = omega arith in
    ap (λ (bytes : List ℕ). lines_in bytes c.push_reserved.new.self.items) c.in_ok-extend_from_slice.ensures.items
    ∙ ap (lines_in (text ++ line)) marks
    ∙ lines_in-push text before m line c.self.invariant length_is
    ∙ ap (λ (n : ℕ). lines_in text before ++ (n, line) ∷ []) number_is
    ∙ ap (λ (lines : List (ℕ × List ℕ)). lines ++ (c.args.number, line) ∷ []) c.self.view_is
