use Rattle.std.proofs.Common.{arith}
use Rattle.pm_record.proofs.ReadLemmas.{block_further, block_read}
use Rattle.pm_record.proofs.reading.read_records.Goals as goal

pub loop-all-smaller : goal.loop-all-smaller
loop-all-smaller g c =
    omega (
      arith,
      block_further (g.R.ReadRecord.reads c.args.records.now) c.args.file.now (λ v. v.items) c.args.path.now c.loop-all.offset (c.in-Some.more, c.in-Some.next)
          (rw c.in-Some.is at c.in_ok-more.ensures),
    )

pub loop-all-preserved : goal.loop-all-preserved
loop-all-preserved g c =
    let reads = g.R.ReadRecord.reads c.args.records.now in
    let file = c.args.file.now in
    let got = rw c.in-Some.is at c.in_ok-more.ensures in
    record {
      within = (block_further reads file (λ v. v.items) c.args.path.now c.loop-all.offset (c.in-Some.more, c.in-Some.next) got).1;
      read = rw c.in_ok-append.ensures.items
          (block_read reads file (λ v. v.items) c.args.path.now c.loop-all.offset c.loop-all.all.items c.loop-all.invariant.read (c.in-Some.more, c.in-Some.next) got);
    }
