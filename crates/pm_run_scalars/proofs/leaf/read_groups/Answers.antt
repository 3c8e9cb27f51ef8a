use Rattle.std.proofs.Common.{ℕ, ◌<◌, ◌-◌, ◌+◌, ◌*◌, rules, arith}
use Rattle.pm_run_scalars.proofs.SpelledLemmas.{least_more, least_one}
use Rattle.pm_run_scalars.proofs.GroupLemmas.{last_one, one_more}
use Rattle.pm_run_scalars.proofs.leaf.read_groups.Goals as goal

pub returns-then-third-lt128-clause-groups : goal.returns-then-third-lt128-clause-groups
returns-then-third-lt128-clause-groups c =
    let a : c.in_ok-first.first.now < 256 = search rules in
    let b : c.in_ok-second.second.now < 256 = search rules in
    let high : ℕ = c.in_ok-second.second.now - 128 + 128 * c.in_ok-third.third.now in
    one_more _ c.in_ok-first.first.now high c.args.bytes.now c.in_ok-first.rest.now c.in_ok-third.rest.now c.in_ok-first.ensures.cases.0 (omega (arith, c.from-first.ensures, c.from-second.ensures, c.from-third.ensures, c.if-first-lt128.false, c.if-second-lt128.false)) a (omega (arith, c.from-first.ensures, c.from-second.ensures, c.from-third.ensures, c.if-first-lt128.false, c.if-second-lt128.false))
    (one_more high c.in_ok-second.second.now c.in_ok-third.third.now c.in_ok-first.rest.now c.in_ok-second.rest.now c.in_ok-third.rest.now c.in_ok-second.ensures.cases.0 (omega (arith, c.from-first.ensures, c.from-second.ensures, c.from-third.ensures, c.if-first-lt128.false, c.if-second-lt128.false)) b (omega (arith, c.from-first.ensures, c.from-second.ensures, c.from-third.ensures, c.if-first-lt128.false, c.if-second-lt128.false))
    (last_one c.in_ok-third.third.now c.in_ok-second.rest.now c.in_ok-third.rest.now c.in_ok-third.ensures.cases.0 (omega (arith, c.from-third.ensures, c.if-third-lt128.true))))

pub returns-then-fourth-lt128-clause-groups : goal.returns-then-fourth-lt128-clause-groups
returns-then-fourth-lt128-clause-groups c =
    let a : c.in_ok-first.first.now < 256 = search rules in
    let b : c.in_ok-second.second.now < 256 = search rules in
    let d : c.in_ok-third.third.now < 256 = search rules in
    let top : ℕ = c.in_ok-third.third.now - 128 + 128 * c.in_ok-fourth.fourth.now in
    let high : ℕ = c.in_ok-second.second.now - 128 + 128 * top in
    one_more _ c.in_ok-first.first.now high c.args.bytes.now c.in_ok-first.rest.now c.in_ok-fourth.rest.now c.in_ok-first.ensures.cases.0 (omega (arith, c.from-first.ensures, c.from-second.ensures, c.from-third.ensures, c.from-fourth.ensures, c.if-first-lt128.false, c.if-second-lt128.false, c.if-third-lt128.false)) a (omega (arith, c.from-first.ensures, c.from-second.ensures, c.from-third.ensures, c.from-fourth.ensures, c.if-first-lt128.false, c.if-second-lt128.false, c.if-third-lt128.false))
    (one_more high c.in_ok-second.second.now top c.in_ok-first.rest.now c.in_ok-second.rest.now c.in_ok-fourth.rest.now c.in_ok-second.ensures.cases.0 (omega (arith, c.from-first.ensures, c.from-second.ensures, c.from-third.ensures, c.from-fourth.ensures, c.if-first-lt128.false, c.if-second-lt128.false, c.if-third-lt128.false)) b (omega (arith, c.from-first.ensures, c.from-second.ensures, c.from-third.ensures, c.from-fourth.ensures, c.if-first-lt128.false, c.if-second-lt128.false, c.if-third-lt128.false))
    (one_more top c.in_ok-third.third.now c.in_ok-fourth.fourth.now c.in_ok-second.rest.now c.in_ok-third.rest.now c.in_ok-fourth.rest.now c.in_ok-third.ensures.cases.0 (omega (arith, c.from-first.ensures, c.from-second.ensures, c.from-third.ensures, c.from-fourth.ensures, c.if-first-lt128.false, c.if-second-lt128.false, c.if-third-lt128.false)) d (omega (arith, c.from-first.ensures, c.from-second.ensures, c.from-third.ensures, c.from-fourth.ensures, c.if-first-lt128.false, c.if-second-lt128.false, c.if-third-lt128.false))
    (last_one c.in_ok-fourth.fourth.now c.in_ok-third.rest.now c.in_ok-fourth.rest.now c.in_ok-fourth.ensures.cases.0 (omega (arith, c.from-fourth.ensures, c.if-fourth-lt128.true)))))

pub returns-then-third-lt128-clause-least : goal.returns-then-third-lt128-clause-least
returns-then-third-lt128-clause-least c =
    let a : c.in_ok-first.first.now < 256 = search rules in
    let b : c.in_ok-second.second.now < 256 = search rules in
    let high : ℕ = c.in_ok-second.second.now - 128 + 128 * c.in_ok-third.third.now in
    least_more _ c.in_ok-first.first.now high c.args.bytes.now c.in_ok-first.rest.now c.in_ok-third.rest.now c.in_ok-first.ensures.cases.0 (omega (arith, c.from-first.ensures, c.from-second.ensures, c.from-third.ensures, c.if-first-lt128.false, c.if-second-lt128.false)) a (omega (arith, c.from-first.ensures, c.from-second.ensures, c.from-third.ensures, c.if-first-lt128.false, c.if-second-lt128.false, c.if-third-eq0.false)) (omega (arith, c.from-first.ensures, c.from-second.ensures, c.from-third.ensures, c.if-first-lt128.false, c.if-second-lt128.false))
    (least_more high c.in_ok-second.second.now c.in_ok-third.third.now c.in_ok-first.rest.now c.in_ok-second.rest.now c.in_ok-third.rest.now c.in_ok-second.ensures.cases.0 (omega (arith, c.from-first.ensures, c.from-second.ensures, c.from-third.ensures, c.if-first-lt128.false, c.if-second-lt128.false)) b (omega (arith, c.from-first.ensures, c.from-second.ensures, c.from-third.ensures, c.if-first-lt128.false, c.if-second-lt128.false, c.if-third-eq0.false)) (omega (arith, c.from-first.ensures, c.from-second.ensures, c.from-third.ensures, c.if-first-lt128.false, c.if-second-lt128.false))
    (least_one c.in_ok-third.third.now c.in_ok-second.rest.now c.in_ok-third.rest.now c.in_ok-third.ensures.cases.0 (omega (arith, c.from-third.ensures, c.if-third-lt128.true))))

pub returns-then-fourth-lt128-clause-least : goal.returns-then-fourth-lt128-clause-least
returns-then-fourth-lt128-clause-least c =
    let a : c.in_ok-first.first.now < 256 = search rules in
    let b : c.in_ok-second.second.now < 256 = search rules in
    let d : c.in_ok-third.third.now < 256 = search rules in
    let top : ℕ = c.in_ok-third.third.now - 128 + 128 * c.in_ok-fourth.fourth.now in
    let high : ℕ = c.in_ok-second.second.now - 128 + 128 * top in
    least_more _ c.in_ok-first.first.now high c.args.bytes.now c.in_ok-first.rest.now c.in_ok-fourth.rest.now c.in_ok-first.ensures.cases.0 (omega (arith, c.from-first.ensures, c.from-second.ensures, c.from-third.ensures, c.from-fourth.ensures, c.if-first-lt128.false, c.if-second-lt128.false, c.if-third-lt128.false)) a (omega (arith, c.from-first.ensures, c.from-second.ensures, c.from-third.ensures, c.from-fourth.ensures, c.if-first-lt128.false, c.if-second-lt128.false, c.if-third-lt128.false, c.if-fourth-eq0.false)) (omega (arith, c.from-first.ensures, c.from-second.ensures, c.from-third.ensures, c.from-fourth.ensures, c.if-first-lt128.false, c.if-second-lt128.false, c.if-third-lt128.false))
    (least_more high c.in_ok-second.second.now top c.in_ok-first.rest.now c.in_ok-second.rest.now c.in_ok-fourth.rest.now c.in_ok-second.ensures.cases.0 (omega (arith, c.from-first.ensures, c.from-second.ensures, c.from-third.ensures, c.from-fourth.ensures, c.if-first-lt128.false, c.if-second-lt128.false, c.if-third-lt128.false)) b (omega (arith, c.from-first.ensures, c.from-second.ensures, c.from-third.ensures, c.from-fourth.ensures, c.if-first-lt128.false, c.if-second-lt128.false, c.if-third-lt128.false, c.if-fourth-eq0.false)) (omega (arith, c.from-first.ensures, c.from-second.ensures, c.from-third.ensures, c.from-fourth.ensures, c.if-first-lt128.false, c.if-second-lt128.false, c.if-third-lt128.false))
    (least_more top c.in_ok-third.third.now c.in_ok-fourth.fourth.now c.in_ok-second.rest.now c.in_ok-third.rest.now c.in_ok-fourth.rest.now c.in_ok-third.ensures.cases.0 (omega (arith, c.from-first.ensures, c.from-second.ensures, c.from-third.ensures, c.from-fourth.ensures, c.if-first-lt128.false, c.if-second-lt128.false, c.if-third-lt128.false)) d (omega (arith, c.from-first.ensures, c.from-second.ensures, c.from-third.ensures, c.from-fourth.ensures, c.if-first-lt128.false, c.if-second-lt128.false, c.if-third-lt128.false, c.if-fourth-eq0.false)) (omega (arith, c.from-first.ensures, c.from-second.ensures, c.from-third.ensures, c.from-fourth.ensures, c.if-first-lt128.false, c.if-second-lt128.false, c.if-third-lt128.false))
    (least_one c.in_ok-fourth.fourth.now c.in_ok-third.rest.now c.in_ok-fourth.rest.now c.in_ok-fourth.ensures.cases.0 (omega (arith, c.from-fourth.ensures, c.if-fourth-lt128.true)))))
