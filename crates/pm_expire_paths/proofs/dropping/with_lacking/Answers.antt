use Rattle.std.proofs.Common.{◌↔◌, ℕ, List, [], ◌∷◌, Contains, subst, sym, ◌∙◌, true≢false, arith}
use Rattle.pm_expire_paths.specs.Dropping.{HasOrLacks}
use Rattle.pm_expire_paths.proofs.DroppingLemmas.{as_before, ended, one_more, step}
use Rattle.pm_expire_paths.proofs.dropping.with_lacking.Goals as goal

pub loop-path-preserved-in-Continue-1 : goal.loop-path-preserved-in-Continue-1
loop-path-preserved-in-Continue-1 c =
    let all = c.loop-path.all.items in
    let sorted = c.args.sorted.now in
    let one = c.in-Some.path in
    step all c.push.new.self.items c.loop-path.left.items c.pop.new.self.items sorted c.args.paths.items c.args.others.items one
    c.in-Some.ensures.items
    (λ path. subst (λ (xs : List (List ℕ)). Contains xs path ↔ HasOrLacks all (one ∷ []) sorted path) (sym c.in_ok-push.ensures.items)
    (one_more all sorted one (λ among. true≢false (sym (c.has.ensures.1 among) ∙ c.if-not-has.true)) path))
    c.loop-path.invariant

pub loop-path-preserved : goal.loop-path-preserved
loop-path-preserved c =
    let all = c.loop-path.all.items in
    let sorted = c.args.sorted.now in
    let one = c.in-Some.path in
    step all all c.loop-path.left.items c.pop.new.self.items sorted c.args.paths.items c.args.others.items one c.in-Some.ensures.items
    (as_before all sorted one (c.has.ensures.0 c.if-not-has.false)) c.loop-path.invariant

pub returns : goal.returns
returns c =
    ended c.loop-path.all.items c.loop-path.left.items c.args.sorted.now c.args.paths.items c.args.others.items
    (omega (arith, c.in_default.ensures.cases.0)) c.loop-path.invariant
