use Rattle.std.proofs.Common.{refl}
use Rattle.std.proofs.lemmas.Result.{err_from_is_err_and}
use Rattle.pm_model_history.specs.History.{IsTableOf}
use Rattle.pm_command_follow.specs.Follow.{refuses}
use Rattle.pm_command_follow.proofs.PieceLemmas.{listing_shown, start_shown, started}
use Rattle.pm_command_follow.proofs.WhyLemmas.{below_learned, why_above, why_listing}
use Rattle.pm_command_follow.proofs.follow.follow_table.Goals as goal

pub returns-in_err-latest-clause-followed : goal.returns-in_err-latest-clause-followed
returns-in_err-latest-clause-followed g c = λ first has.
    let p = err_from_is_err_and c.from_residual.result c.from_residual.ensures.1 in
    rw (p.1, p.2)
    (listing_shown c.args.schema.now c.args.from c.args.full c.in_err-latest.field-0.0 (g.W.Sink.seen c.args.out.now) first (g.F.FileStore.seen c.args.store.now)
    (g.F.FileStore.seen c.read_latest.new.store) has c.in_err-latest.ensures.trace)

pub returns-in_err-start-clause-followed : goal.returns-in_err-start-clause-followed
returns-in_err-start-clause-followed g c = λ first has.
    let p = err_from_is_err_and c.from_residual-in_err-start.result c.from_residual-in_err-start.ensures.1 in
    rw (p.1, p.2)
    (start_shown c.args.schema.now c.args.from c.args.full c.in_ok-latest.latest c.in_err-start.field-0.0 (g.W.Sink.seen c.args.out.now) first
    (g.F.FileStore.seen c.args.store.now) (g.F.FileStore.seen c.read_latest.new.store) has c.in_ok-latest.ensures.trace c.in_err-start.ensures.above)

pub returns-clause-followed : goal.returns-clause-followed
returns-clause-followed g c = λ first has.
    c.follow_from.ensures.followed c.args.from first
    (started c.args.schema.now c.args.from c.in_ok-latest.latest c.in_ok-start.start first (g.F.FileStore.seen c.args.store.now) (g.F.FileStore.seen c.read_latest.new.store) has
    c.in_ok-latest.ensures.trace c.in_ok-start.ensures.start)

pub returns-in_err-latest-clause-beside : goal.returns-in_err-latest-clause-beside
returns-in_err-latest-clause-beside g c = λ first has learned.
    let p = err_from_is_err_and c.from_residual.result c.from_residual.ensures.1 in
    rw (p.1, p.2)
    (refuses c.in_err-latest.field-0.0 refl
    (why_listing c.args.from (λ f p. IsTableOf c.args.schema.now p.history) c.in_err-latest.field-0.0 first (g.F.FileStore.seen c.args.store.now)
    (g.F.FileStore.seen c.read_latest.new.store) learned c.in_err-latest.ensures.trace c.in_err-latest.ensures.refused))

pub returns-in_err-start-clause-beside : goal.returns-in_err-start-clause-beside
returns-in_err-start-clause-beside g c = λ first has learned.
    let p = err_from_is_err_and c.from_residual-in_err-start.result c.from_residual-in_err-start.ensures.1 in
    rw (p.1, p.2)
    (refuses c.in_err-start.field-0.0 refl
    (why_above c.args.from c.args.schema.now c.in_ok-latest.latest c.in_err-start.field-0.0 first (g.F.FileStore.seen c.args.store.now)
    (g.F.FileStore.seen c.read_latest.new.store) learned c.in_ok-latest.ensures.beside c.in_err-start.ensures.above))

pub returns-clause-beside : goal.returns-clause-beside
returns-clause-beside g c = λ first has learned.
    let store = g.F.FileStore.seen c.args.store.now in
    let after = g.F.FileStore.seen c.read_latest.new.store in
    c.follow_from.ensures.beside c.args.from first
    (started c.args.schema.now c.args.from c.in_ok-latest.latest c.in_ok-start.start first store after has c.in_ok-latest.ensures.trace c.in_ok-start.ensures.start)
    (below_learned c.args.schema.now c.in_ok-start.start c.in_ok-latest.latest first store after c.in_ok-start.ensures.start.1 learned
    c.in_ok-latest.ensures.beside)
