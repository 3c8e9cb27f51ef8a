use Rattle.pm_run_bytes.proofs.PlaceLemmas.{no_content_of}
use Rattle.pm_scan_rows.proofs.written_rows.only_where.Goals as goal

-- no bytes are known
pub returns : goal.returns
returns c = λ f row known. no_content_of f row
