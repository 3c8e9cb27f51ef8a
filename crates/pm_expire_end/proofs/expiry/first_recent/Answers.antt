use Rattle.std.proofs.Common.{◌≡◌, ℤ, le_refl, true, false, sym, subst, ◌∙◌, to_z, of_z, arith}
use Rattle.std.specs.Int.{w128}
use Rattle.std.proofs.lemmas.Int.{to_z-of_z}
use Rattle.pm_expire_end.specs.Expiry.{is_recent}
use Rattle.pm_expire_end.proofs.ExpiryLemmas.{first-at}
use Rattle.pm_expire_end.proofs.expiry.first_recent.Goals as goal

-- the snapshot is the first recent one
pub returns-then-is_recent : goal.returns-then-is_recent
returns-then-is_recent c =
    let times = c.args.times.now in
    let same : to_z w128 (of_z w128 c.args.from) ≡ c.args.from = to_z-of_z w128 c.args.from c.ranges.from in
    let passes = subst (λ (z : ℤ). is_recent times z c.loop-id.id ≡ true) same (sym c.is_recent.ensures ∙ c.if-is_recent.true) in
    sym (first-at (is_recent times c.args.from) c.args.low c.args.high c.loop-id.id (omega arith) (omega arith)
    (λ k from below. subst (λ (z : ℤ). is_recent times z k ≡ false) same (c.loop-id.invariant k from below)) (λ below. passes))

-- none is recent
pub returns : goal.returns
returns c =
    let times = c.args.times.now in
    let same : to_z w128 (of_z w128 c.args.from) ≡ c.args.from = to_z-of_z w128 c.args.from c.ranges.from in
    sym (first-at (is_recent times c.args.from) c.args.low c.args.high c.args.high (omega arith) (le_refl c.args.high)
    (λ k from below. subst (λ (z : ℤ). is_recent times z k ≡ false) same (c.loop-id.invariant k from (omega arith)))
    (λ never. absurd (omega arith)))
