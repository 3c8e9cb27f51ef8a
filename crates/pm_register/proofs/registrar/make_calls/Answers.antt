use Rattle.std.proofs.Common.{arith}
use Rattle.pm_register.proofs.CallLemmas.{begun, ended, refused, went}
use Rattle.pm_register.proofs.registrar.make_calls.Goals as goal

pub returns-in-Err-clause-trace : goal.returns-in-Err-clause-trace
returns-in-Err-clause-trace g c =
    let seen = g.F.FileStore.seen in
    let old = c.args.registrar.now in
    let one = c.step_registrar.new.registrar in
    let first = seen c.args.store.now in
    λ r is. refused r old one first first (seen c.step_registrar.new.store) c.in-Err.refusal (begun r old first is) c.in-Err.ensures.acts
    c.step_registrar.ensures.later

pub returns-in-Err-step_registrar-clause-trace : goal.returns-in-Err-step_registrar-clause-trace
returns-in-Err-step_registrar-clause-trace g c =
    let seen = g.F.FileStore.seen in
    let old = c.args.registrar.now in
    let one = c.step_registrar.new.registrar in
    let two = c.step_registrar-2.new.registrar in
    let first = seen c.args.store.now in
    let after_one = seen c.step_registrar.new.store in
    λ r is. refused r one two first after_one (seen c.step_registrar-2.new.store) c.in-Err-step_registrar.refusal
    (went r old one first first after_one c.in-Ok.field-0 (begun r old first is) c.in-Ok.ensures.acts c.step_registrar.ensures.later)
    c.in-Err-step_registrar.ensures.acts c.step_registrar-2.ensures.later

pub returns-in-Err-step_registrar-2-clause-trace : goal.returns-in-Err-step_registrar-2-clause-trace
returns-in-Err-step_registrar-2-clause-trace g c =
    let seen = g.F.FileStore.seen in
    let old = c.args.registrar.now in
    let one = c.step_registrar.new.registrar in
    let two = c.step_registrar-2.new.registrar in
    let three = c.step_registrar-3.new.registrar in
    let first = seen c.args.store.now in
    let after_one = seen c.step_registrar.new.store in
    let after_two = seen c.step_registrar-2.new.store in
    λ r is. refused r two three first after_two (seen c.step_registrar-3.new.store) c.in-Err-step_registrar-2.refusal
    (went r one two first after_one after_two c.in-Ok-step_registrar.field-0
    (went r old one first first after_one c.in-Ok.field-0 (begun r old first is) c.in-Ok.ensures.acts c.step_registrar.ensures.later)
    c.in-Ok-step_registrar.ensures.acts c.step_registrar-2.ensures.later) c.in-Err-step_registrar-2.ensures.acts c.step_registrar-3.ensures.later

pub returns-in-Ok-step_registrar-2-clause-trace : goal.returns-in-Ok-step_registrar-2-clause-trace
returns-in-Ok-step_registrar-2-clause-trace g c =
    let seen = g.F.FileStore.seen in
    let old = c.args.registrar.now in
    let one = c.step_registrar.new.registrar in
    let two = c.step_registrar-2.new.registrar in
    let three = c.step_registrar-3.new.registrar in
    let first = seen c.args.store.now in
    let after_one = seen c.step_registrar.new.store in
    let after_two = seen c.step_registrar-2.new.store in
    let after_three = seen c.step_registrar-3.new.store in
    let new = c.requires in
    let fewer = c.in-Ok.ensures.fewer in
    let then = c.in-Ok-step_registrar.ensures.fewer in
    let last = c.in-Ok-step_registrar-2.ensures.fewer in
    λ r is. ended r c.in-Ok-step_registrar-2.field-0 three first after_three c.in-Ok-step_registrar-2.ensures.reaches (omega (arith, new, fewer, then, last))
    (went r two three first after_two after_three c.in-Ok-step_registrar-2.field-0
    (went r one two first after_one after_two c.in-Ok-step_registrar.field-0
    (went r old one first first after_one c.in-Ok.field-0 (begun r old first is) c.in-Ok.ensures.acts c.step_registrar.ensures.later)
    c.in-Ok-step_registrar.ensures.acts c.step_registrar-2.ensures.later) c.in-Ok-step_registrar-2.ensures.acts c.step_registrar-3.ensures.later)
