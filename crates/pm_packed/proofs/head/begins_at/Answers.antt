use Rattle.std.proofs.Common.{ℕ, List, ◌++◌, drop, length, sym, ap, ◌∙◌}
use Rattle.std.specs.Cmp.{unsigned_Decides}
use Rattle.std.proofs.lemmas.Slice.Eq.{starts_is}
use Rattle.pm_packed.proofs.head.begins_at.Goals as goal

pub returns : goal.returns
returns c starts =
    let first = c.split_at.result.0.now in
    let second = c.split_at.result.1.now in
    let later = drop (length first) second in (
      later,
      sym c.split_at.ensures.back ∙ (starts_is unsigned_Decides second first c.starts_with.result c.starts_with.ensures.value).0 starts ∙ ap (λ (b : List ℕ). b ++ later) c.split_at.ensures.front,
    )
