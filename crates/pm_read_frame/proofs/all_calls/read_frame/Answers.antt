use Rattle.std.proofs.Common.{◌≡◌, Err, rules}
use Rattle.pm_values.specs.declared.refusal.Refusal.TheVariants as refusals
use Rattle.pm_read_frame.specs.AllCalls.{text_in}
use Rattle.pm_read_frame.proofs.BesideLemmas.{learned-by, none-told, told-by}
use Rattle.pm_read_frame.proofs.AllCallsLemmas.{first_left, frame_made, none_made}
use Rattle.pm_read_frame.proofs.all_calls.read_frame.Goals as goal

pub make_calls-requires : goal.make_calls-requires
make_calls-requires g c = first_left c.in-Ok.schema c.args.id c.frame_at.result c.frame_at.ensures

pub returns-in-Ok-clause-trace : goal.returns-in-Ok-clause-trace
returns-in-Ok-clause-trace g c =
    let seen = g.F.FileStore.seen in
    let same : c.in-Ok.schema ≡ c.args.schema.now = search rules in
    frame_made c.args.schema.now c.in-Ok.schema c.args.id c.frame_at.result (text_in c.make_calls.result) (seen c.args.store.now) (seen c.make_calls.new.store) same
    c.frame_at.ensures c.make_calls.ensures.trace

pub returns-in-Ok-clause-history : goal.returns-in-Ok-clause-history
returns-in-Ok-clause-history g c =
    let seen = g.F.FileStore.seen in
    let same : c.in-Ok.schema ≡ c.args.schema.now = search rules in
    c.all_calls_law.ensures c.args.schema.now c.args.id (text_in c.make_calls.result) (seen c.args.store.now) (seen c.make_calls.new.store) c.requires.after_origin
    (frame_made c.args.schema.now c.in-Ok.schema c.args.id c.frame_at.result (text_in c.make_calls.result) (seen c.args.store.now) (seen c.make_calls.new.store) same
    c.frame_at.ensures c.make_calls.ensures.trace)

pub returns-in-Err-clause-trace : goal.returns-in-Err-clause-trace
returns-in-Err-clause-trace g c = none_made c.args.schema.now c.args.id (g.F.FileStore.seen c.args.store.now)

pub returns-in-Err-clause-history : goal.returns-in-Err-clause-history
returns-in-Err-clause-history g c =
    let seen = g.F.FileStore.seen in
    c.all_calls_law.ensures c.args.schema.now c.args.id (Err refusals.Memory) (seen c.args.store.now) (seen c.args.store.now) c.requires.after_origin
    (none_made c.args.schema.now c.args.id (seen c.args.store.now))

pub returns-in-Ok-clause-beside : goal.returns-in-Ok-clause-beside
returns-in-Ok-clause-beside g c =
    let seen = g.F.FileStore.seen in
    let same : c.in-Ok.schema ≡ c.args.schema.now = search rules in
    learned-by c.args.schema.now c.in-Ok.schema c.args.id c.frame_at.result c.make_calls.result (seen c.args.store.now) (seen c.make_calls.new.store) same
    c.frame_at.ensures c.requires.after_origin c.make_calls.ensures.beside

pub returns-in-Ok-clause-refused : goal.returns-in-Ok-clause-refused
returns-in-Ok-clause-refused g c =
    let seen = g.F.FileStore.seen in
    let same : c.in-Ok.schema ≡ c.args.schema.now = search rules in
    told-by c.args.schema.now c.in-Ok.schema c.args.id c.frame_at.result c.make_calls.result (seen c.args.store.now) (seen c.make_calls.new.store) same
    c.frame_at.ensures c.requires.after_origin c.make_calls.ensures.refused

pub returns-in-Err-clause-refused : goal.returns-in-Err-clause-refused
returns-in-Err-clause-refused g c = none-told c.args.schema.now c.args.id (g.F.FileStore.seen c.args.store.now)
