use Rattle.std.proofs.Common.{◌≡◌}
use Rattle.pm_base.proofs.Laws.{AllByRecursion-append}
use Rattle.pm_values.specs.declared.record.Stamped.{Stamped}
use Rattle.pm_model_history.specs.Merge.{key_of}
use Rattle.pm_model_history.specs.Merged.{primary_of}
use Rattle.pm_read_frame.specs.Reading.{ReadingView, reading_of}
use Rattle.pm_read_frame.proofs.AfterLemmas.{file_on, file_refused, read_order, read_own}
use Rattle.pm_read_frame.proofs.after.after_bytes.Goals as goal

pub read_on-requires-clause-own : goal.read_on-requires-clause-own
read_on-requires-clause-own c =
    let r = c.reading.inside in
    AllByRecursion-append (λ (x : Stamped). x.key ≡ key_of (primary_of r.schema) x.row) r.rows c.in-Ok.run' c.reading.invariant
    (read_own c.own_keys_law.ensures r.schema r.next c.args.bytes c.in-Ok.run' c.in-Ok.ensures.reads)

pub read_on-requires-clause-order : goal.read_on-requires-clause-order
read_on-requires-clause-order c =
    let r = c.reading.inside in
    read_order c.order_law.ensures.follow r.schema r.next c.args.bytes c.in-Ok.run' c.in-Ok.ensures.reads

pub returns-in-Ok-read_on-clause-goes : goal.returns-in-Ok-read_on-clause-goes
returns-in-Ok-read_on-clause-goes c =
    let r = c.reading.inside in
    let own : ReadingView = reading_of r.schema r.id r.rows r.next r.rest.items in
    file_on c.args.reading own c.args.bytes c.in-Ok.run' c.in-Ok-read_on.phase c.reading.view_is c.in-Ok.ensures.reads c.in-Ok-read_on.ensures.goes

pub returns-in-Err-clause-refuses : goal.returns-in-Err-clause-refuses
returns-in-Err-clause-refuses c =
    let r = c.reading.inside in
    let own : ReadingView = reading_of r.schema r.id r.rows r.next r.rest.items in
    file_refused c.args.reading own c.args.bytes c.in-Err.refusal c.reading.view_is c.in-Err.ensures.refuses
