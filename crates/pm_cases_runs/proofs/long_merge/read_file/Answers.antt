use Rattle.std.proofs.Common.{ap}
use Rattle.pm_cases_runs.proofs.OrderLemmas.{rising_first}
use Rattle.pm_cases_runs.proofs.long_merge.read_file.Goals as goal

pub returns : goal.returns
returns c =
    let appends = c.in_ok-append.ensures.appends in
    rising_first _ _ appends.0 c.new-run.ensures appends.1
    (rw (ap (λ v. v.opened.changes) c.in_ok-reader.ensures.opens.4) at
    (c.order_law.ensures.follow c.in_ok-reader.reader.opened c.in_ok-reader.reader.opened.file.first _ appends.0 _ appends.2))
