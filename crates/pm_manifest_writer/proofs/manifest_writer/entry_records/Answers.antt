use Rattle.pm_avro_data.specs.Datum.{view}
use Rattle.pm_manifest.specs.Entries.{IsWithin, entry_data}
use Rattle.pm_manifest_writer.proofs.RecordLemmas.{all_next, record_next}
use Rattle.pm_manifest_writer.proofs.manifest_writer.entry_records.Goals as goal

pub loop-entry-preserved : goal.loop-entry-preserved
loop-entry-preserved c = record {
  records = record_next view (entry_data c.args.shape.now) c.args.entries.now c.loop-entry.entry-index c.entry-item.result c.loop-entry.records.items
      c.push.new.self.items c.in_ok-entry_datum.field-0 c.loop-entry-test.true c.entry-item.is c.in_ok-push.ensures.items c.in_ok-entry_datum.ensures.datum
      c.loop-entry.invariant.records;
  within = all_next (IsWithin c.args.shape.now) c.args.entries.now c.loop-entry.entry-index c.entry-item.result c.loop-entry-test.true c.entry-item.is
      c.loop-entry.invariant.within c.in_ok-entry_datum.ensures.within;
}
