use Rattle.std.proofs.Common.{◌≡◌, ◌+◌, ◌*◌, ◌-◌, ◌^◌, min, take, length, true, sym, ap, ◌∙◌, arith}
use Rattle.std.specs.Prelude.{nat_lt}
use Rattle.pm_levels.specs.Picking.{bytes_in, is_large, run_at}
use Rattle.pm_levels.proofs.PickingLemmas.{cut-below, first-at, first-end}
use Rattle.pm_levels.proofs.picking.stretch.Goals as goal

-- the run at the index is the first large one
pub returns-then-is_large : goal.returns-then-is_large
returns-then-is_large c =
    let runs = c.args.runs.now in
    let rule = c.args.rule.now in
    let index = c.loop-index.index in
    let next = (run_at runs index).bytes in
    let cut : nat_lt (min (bytes_in (take index runs)) (2 ^ 128 - 1) * (100 + rule.ratio)) (100 * next) ≡ is_large runs rule index =
    cut-below (bytes_in (take index runs)) (100 + rule.ratio) (100 * next) (2 ^ 128 - 1) (omega arith) (omega (arith, c.loop-index-test.element_fits.fits)) in
    let known : nat_lt (min (bytes_in (take index runs)) (2 ^ 128 - 1) * (100 + rule.ratio)) (100 * next) ≡ true =
    ap (λ b. nat_lt (b * (100 + rule.ratio)) (100 * next)) (sym c.loop-index.invariant.bytes) ∙ sym c.is_large.ensures ∙ c.if-is_large.true in
    sym (first-at (is_large runs rule) c.args.least (length runs) index (omega arith) (omega arith) c.loop-index.invariant.small (λ below. sym cut ∙ known))

-- none is
pub returns : goal.returns
returns c =
    let runs = c.args.runs.now in
    c.max.ensures
    ∙ sym (first-end (is_large runs c.args.rule.now) c.args.least (length runs) c.loop-index.index (omega arith) c.loop-index.invariant.small)
