use Rattle.std.proofs.Common.{false}
use Rattle.pm_command_follow.proofs.KnownLemmas.{begun_without}
use Rattle.pm_command_follow.proofs.PieceLemmas.{opened_without}
use Rattle.pm_command_follow.proofs.follow.follow_from.Goals as goal

pub returns-then-full-clause-followed : goal.returns-then-full-clause-followed
returns-then-full-clause-followed g c = λ from first starts. rw c.if-full.true (c.follow_with_table.ensures.followed from first starts)

pub returns-then-full-clause-beside : goal.returns-then-full-clause-beside
returns-then-full-clause-beside g c = λ from first starts learned. rw c.if-full.true (c.follow_with_table.ensures.beside from first starts learned)

pub returns-clause-followed : goal.returns-clause-followed
returns-clause-followed g c = λ from first starts.
    let open_ = opened_without c.args.schema.now from c.args.start (g.W.Sink.seen c.args.out.now) first (g.F.FileStore.seen c.args.store.now) starts in
    rw c.if-full.false (c.follow_on.ensures.followed from false open_.text (g.W.Sink.seen c.args.out.now) first open_.opens open_.took)

pub returns-clause-beside : goal.returns-clause-beside
returns-clause-beside g c = λ from first starts learned.
    let out = g.W.Sink.seen c.args.out.now in
    let store = g.F.FileStore.seen c.args.store.now in
    let open_ = opened_without c.args.schema.now from c.args.start out first store starts in
    rw c.if-full.false
    (c.follow_on.ensures.beside from false open_.text out first open_.opens (begun_without c.args.schema.now c.args.start out first store learned))
