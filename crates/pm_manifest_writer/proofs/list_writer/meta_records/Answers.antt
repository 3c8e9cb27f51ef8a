use Rattle.pm_avro_data.specs.Datum.{view}
use Rattle.pm_manifest.specs.Listed.{IsListed, meta_data}
use Rattle.pm_manifest_writer.proofs.RecordLemmas.{all_next, record_next}
use Rattle.pm_manifest_writer.proofs.list_writer.meta_records.Goals as goal

pub loop-meta-preserved : goal.loop-meta-preserved
loop-meta-preserved c = record {
  records = record_next view (meta_data c.args.shape.now.partition) c.args.metas.now c.loop-meta.meta-index c.meta-item.result c.loop-meta.records.items
      c.push.new.self.items c.in_ok-meta_datum.field-0 c.loop-meta-test.true c.meta-item.is c.in_ok-push.ensures.items c.in_ok-meta_datum.ensures.datum
      c.loop-meta.invariant.records;
  within = all_next IsListed c.args.metas.now c.loop-meta.meta-index c.meta-item.result c.loop-meta-test.true c.meta-item.is c.loop-meta.invariant.within
      c.in_ok-meta_datum.ensures.within;
}
