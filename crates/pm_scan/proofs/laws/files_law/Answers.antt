use Rattle.pm_group_files.proofs.ViewLemmas.{OneContents}
use Rattle.pm_scan.proofs.KnownLemmas.{Tells, view-chosen, view-scan}
use Rattle.pm_scan.proofs.ScanLemmas.{Laws}
use Rattle.pm_scan.proofs.laws.files_law.Goals as goal

pub returns : goal.returns
returns c =
    let laws : Laws = record {
      rows = record {
        one_rows = c.one_list_law.ensures.follow;
        in_order = c.order_law.ensures.follow;
        after_other = c.order_law.ensures.other;
        gives = c.reading_law.ensures.gives;
        opens = c.reading_law.ensures.opens;
      };
      one_runs = c.one_runs_law.ensures;
      scan = c.scan_law.ensures;
      passed = c.passed_law.ensures;
      kept = c.kept_law.ensures.table;
      start = c.start_law.ensures;
    } in
    let one : OneContents = c.one_contents_law.ensures in
    let tells : Tells = record { exact = c.schema_law.ensures.exact; declared = c.declared_law.ensures.file } in
    record {
      chosen = λ k f p v job jobs stands is parts. view-chosen c.view_law.ensures f p v stands is k job jobs parts;
      all = view-scan laws one tells;
    }
