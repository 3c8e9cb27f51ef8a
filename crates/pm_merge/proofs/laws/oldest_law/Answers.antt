use Rattle.pm_merge.proofs.MergeLemmas.{kept-numbers, kept-replaces, kept-rising, oldest-covers}
use Rattle.pm_merge.proofs.laws.oldest_law.Goals as goal

pub returns : goal.returns
returns c = record { rising = kept-rising; numbers = kept-numbers; replaces = kept-replaces; covers = oldest-covers }
