use Rattle.std.proofs.Common.{ℕ, List, ◌++◌, drop, length, sym, ap, ◌∙◌, arith}
use Rattle.std.specs.Cmp.{unsigned_Decides}
use Rattle.std.proofs.lemmas.Slice.Eq.{starts_is}
use Rattle.pm_packed.proofs.rows.lies_at.Goals as goal

pub returns-then-start-bytes : goal.returns-then-start-bytes
returns-then-start-bytes c starts = record {
  rest = drop (length c.args.code.now) (drop c.args.start c.args.bytes.now);
  within = omega (arith, c.if-start-bytes.true);
  is = sym c.after.ensures ∙ (starts_is unsigned_Decides c.after.result.now c.args.code.now c.starts_with.result c.starts_with.ensures.value).0 starts
      ∙ ap (λ (b : List ℕ). c.args.code.now ++ drop (length c.args.code.now) b) c.after.ensures;
}
