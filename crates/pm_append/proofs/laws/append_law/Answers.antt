use Rattle.pm_append.proofs.CommitLemmas.{published}
use Rattle.pm_append.proofs.laws.append_law.Goals as goal

pub returns : goal.returns
returns c = published (record {
  snapshots = record {
    one_contents = c.one_contents_law.ensures;
    contents_stay = c.kept_law.ensures;
    consistent = c.snapshot_law.ensures.consistent;
    bears = c.snapshot_law.ensures.id;
  };
  groups = record {
    newest = record {
      runs = c.newest_law.ensures.runs;
      named = c.newest_law.ensures.named;
      two = c.newest_law.ensures.two;
      disjoint = c.newest_law.ensures.disjoint;
    };
    found = c.found_law.ensures;
    one_runs = c.one_runs_law.ensures;
    goes_on = c.goes_on_law.ensures;
    rising = c.order_law.ensures.rising;
    covers = c.batch_law.ensures.covers;
  };
  live = c.live_law.ensures;
  held = c.batch_law.ensures.held;
  written = c.written_law.ensures.all;
  logs_written = c.written_law.ensures.logs;
  logs = c.batch_law.ensures.logs;
  quiet = c.batch_law.ensures.quiet;
  empty = c.batch_law.ensures.empty;
  buckets = c.batch_law.ensures.buckets;
  change = record { same = c.by_key_law.ensures.same; input = c.input_law.ensures; quiet = c.quiet_law.ensures };
}) c.made_law.ensures c.commit_law.ensures
