use Rattle.std.proofs.Common.{◌≡◌, ℕ, List, ◌++◌, length, drop, take, refl, sym, ap, subst, ◌∙◌, arith}
use Rattle.pm_values.specs.declared.value.Value.{Value}
use Rattle.pm_packed.specs.Values.{AreCodeOf}
use Rattle.pm_packed.specs.Rows.{IsRowCode}
use Rattle.pm_packed.proofs.RowLemmas.{IsHeadOf, apart_code, drop-front, joint_code, take-front}
use Rattle.pm_packed.specs.declared.head.Head.{Head}
use Rattle.pm_packed.proofs.head.pack.Goals as goal
use Rattle.pm_packed.proofs.head.pack.Goals.{then-begins, else-begins}

pub returns-clause-code : goal.returns-clause-code
returns-clause-code c =
    let row = c.args.row.now in
    let (first, one, keys) = c.in_ok-add_values.ensures in
    let (second, two, values) = c.in_ok-add_values-2.ensures in
    let key_length = ap length c.values-keys.ensures in
    let row_length = ap length c.values-values.ensures in
    let numbered = c.in-Ok-Ok-Ok.ensures in
    let key_count = c.in-Ok-Ok-Ok.ensures' in
    let row_count = c.in-Ok-Ok-Ok.ensures'' in
    let h : Head = record { seq = c.in-Ok-Ok-Ok.seq; kind = row.kind; key_count = c.in-Ok-Ok-Ok.key_count; row_count = c.in-Ok-Ok-Ok.row_count; begins = c.begins_at-begins.result } in
    let is : IsHeadOf row h =
    record { seq = omega arith; kind = refl; keys = omega arith; count = omega arith } in
    let key_code = subst (λ (vs : List Value). AreCodeOf vs first) c.values-keys.ensures keys in
    let row_code = subst (λ (vs : List Value). AreCodeOf vs second) c.values-values.ensures values in
    let out = c.add_values-2.new.out.items in
    let whole : out ≡ first ++ second = two ∙ ap (λ (b : List ℕ). b ++ second) (one ∙ ap (λ (b : List ℕ). b ++ first) c.clear.ensures.items) in
    let m = c.len-middle.result in
    let m_is : m ≡ length first = let long = ap length (one ∙ ap (λ (b : List ℕ). b ++ first) c.clear.ensures.items) in omega (arith, c.len-middle.ensures, c.add_values.new.out.ok, long) in
    let dropped : drop m out ≡ second = ap (drop m) whole ∙ ap (λ (n : ℕ). drop n (first ++ second)) m_is ∙ drop-front first second in
    elim c.if-begins.branch [
      | then-begins w ↦
          let (tail, joint) = c.begins_at-begins.ensures w.if-begins.true in
          let second_is : second ≡ first ++ tail = sym (ap (drop m) c.deref.ensures.value ∙ dropped) ∙ joint ∙ ap (λ (b : List ℕ). b ++ tail) (ap (take m) (c.deref.ensures.value ∙ whole) ∙ ap (λ (n : ℕ). take n (first ++ second)) m_is ∙ take-front first second) in
          subst (λ (n : ℕ). IsRowCode row h (drop n out)) (sym w.result-is) (subst (IsRowCode row h) (sym dropped) (joint_code row h first second tail w.if-begins.true is second_is key_code row_code))
      | else-begins w ↦ subst (λ (n : ℕ). IsRowCode row h (drop n out)) (sym w.result-is) (subst (IsRowCode row h) (sym whole) (apart_code row h first second w.if-begins.false is key_code row_code))
    ]
