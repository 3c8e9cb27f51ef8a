use Rattle.std.proofs.Math.Facts.{to_z-of_z}
use Rattle.pm_compactor.specs.Compactor.{asking_of}
use Rattle.pm_compactor.proofs.AllCallsLemmas.{begun-now, compacted-history, first-traced, went_on}
use Rattle.pm_compactor.proofs.all_calls.compact_table.Goals as goal

pub returns-clause-trace : goal.returns-clause-trace
returns-clause-trace g c = λ first has.
    let seen = g.F.FileStore.seen in
    let s = c.args.schema in
    let asking = asking_of c.args.full c.args.user c.args.names c.args.now_millis in
    let begun = begun-now c.args.schema c.args.full c.args.user c.args.names c.args.now_millis _ c.new_compactor-compactor.result c.new_compactor-compactor.ensures
    (to_z-of_z c.ranges.now_millis) in
    went_on s asking c.make_calls.result first (seen c.args.store.now) (seen c.make_calls.new.store) has
    (c.make_calls.ensures.trace s asking (seen c.args.store.now) (first-traced s asking c.new_compactor-compactor.result (seen c.args.store.now) begun))

pub returns-clause-history : goal.returns-clause-history
returns-clause-history g c = λ first has.
    let seen = g.F.FileStore.seen in
    let s = c.args.schema in
    let asking = asking_of c.args.full c.args.user c.args.names c.args.now_millis in
    let begun = begun-now c.args.schema c.args.full c.args.user c.args.names c.args.now_millis _ c.new_compactor-compactor.result c.new_compactor-compactor.ensures
    (to_z-of_z c.ranges.now_millis) in
    compacted-history c.settled_law.ensures.all s asking c.new_compactor-compactor.result c.make_calls.result first (seen c.args.store.now) (seen c.make_calls.new.store)
    begun c.known.ensures has
    (c.make_calls.ensures.trace s asking (seen c.args.store.now) (first-traced s asking c.new_compactor-compactor.result (seen c.args.store.now) begun))
    c.make_calls.ensures.later c.make_calls.ensures.alone
