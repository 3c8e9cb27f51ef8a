use Rattle.pm_expire.proofs.ResumeLemmas.{resumes}
use Rattle.pm_expire.proofs.laws.resumes_law.Goals as goal

pub returns : goal.returns
returns c = resumes (record {
  is = c.one_end_law.ensures.is;
  only = c.one_end_law.ensures.only;
  end = c.end_law.ensures;
  more = c.more_law.ensures;
})
