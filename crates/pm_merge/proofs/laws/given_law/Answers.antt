use Rattle.pm_merge.proofs.GivenLemmas.{given_all, given_more, given_same, given_some}
use Rattle.pm_merge.proofs.PrefixLemmas.{given_prefix}
use Rattle.pm_merge.proofs.RefusalLemmas.{given_ended, given_memory, given_refused}
use Rattle.pm_merge.proofs.laws.given_law.Goals as goal

pub returns : goal.returns
returns c = record {
  more = given_more;
  some = given_some;
  all = given_all;
  same = given_same c.stored_law.ensures.one;
  prefix = given_prefix c.stored_law.ensures.one;
  ended = given_ended;
  refused = given_refused;
  memory = given_memory;
}
