use Rattle.pm_scan.proofs.AllCallsLemmas.{AllLaws, own_history, passed_history, scanned_history}
use Rattle.pm_scan.proofs.laws.all_calls_law.Goals as goal

pub returns-clause-scan : goal.returns-clause-scan
returns-clause-scan c =
    let laws : AllLaws = record {
      scans = record {
        rows = record {
          one_rows = c.one_list_law.ensures.follow;
          in_order = c.order_law.ensures.follow;
          after_other = c.order_law.ensures.other;
          gives = c.reading_law.ensures.gives;
          opens = c.reading_law.ensures.opens;
        };
        one_runs = c.one_runs_law.ensures;
        scan = c.scan_law.ensures;
        passed = c.passed_law.ensures;
        kept = c.kept_law.ensures.table;
        start = c.start_law.ensures;
      };
      views = record {
        joined = (c.joined_law.ensures.left, c.joined_law.ensures.order);
        lists = c.one_reading_law.ensures;
        manifests = c.one_reading_law-2.ensures;
      };
      contents = c.one_contents_law.ensures;
    } in
    scanned_history laws

pub returns-clause-own : goal.returns-clause-own
returns-clause-own c =
    let laws : AllLaws = record {
      scans = record {
        rows = record {
          one_rows = c.one_list_law.ensures.follow;
          in_order = c.order_law.ensures.follow;
          after_other = c.order_law.ensures.other;
          gives = c.reading_law.ensures.gives;
          opens = c.reading_law.ensures.opens;
        };
        one_runs = c.one_runs_law.ensures;
        scan = c.scan_law.ensures;
        passed = c.passed_law.ensures;
        kept = c.kept_law.ensures.table;
        start = c.start_law.ensures;
      };
      views = record {
        joined = (c.joined_law.ensures.left, c.joined_law.ensures.order);
        lists = c.one_reading_law.ensures;
        manifests = c.one_reading_law-2.ensures;
      };
      contents = c.one_contents_law.ensures;
    } in
    own_history laws

pub returns-clause-passed : goal.returns-clause-passed
returns-clause-passed c =
    let laws : AllLaws = record {
      scans = record {
        rows = record {
          one_rows = c.one_list_law.ensures.follow;
          in_order = c.order_law.ensures.follow;
          after_other = c.order_law.ensures.other;
          gives = c.reading_law.ensures.gives;
          opens = c.reading_law.ensures.opens;
        };
        one_runs = c.one_runs_law.ensures;
        scan = c.scan_law.ensures;
        passed = c.passed_law.ensures;
        kept = c.kept_law.ensures.table;
        start = c.start_law.ensures;
      };
      views = record {
        joined = (c.joined_law.ensures.left, c.joined_law.ensures.order);
        lists = c.one_reading_law.ensures;
        manifests = c.one_reading_law-2.ensures;
      };
      contents = c.one_contents_law.ensures;
    } in
    passed_history laws
