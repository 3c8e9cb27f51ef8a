use Rattle.pm_run_writer.proofs.begun_file.BegunFile.reserve.Goals as goal

pub returns-clause-begun : goal.returns-clause-begun
returns-clause-begun c = λ f marker rows h. record {
  blocks = h.blocks;
  last = h.last;
  same = h.same;
  full = h.full;
  begun = rw c.try_reserve_exact.ensures.items h.begun;
  encoded = h.encoded;
  count = h.count;
  marked = h.marked;
  writable = h.writable;
}
