use Rattle.std.proofs.Common.{length, subst}
use Rattle.pm_levels.specs.Overlap.{IsFirstMeeting, IsFree}
use Rattle.pm_levels.proofs.OverlapLemmas.{disjoint, first-overlap}
use Rattle.pm_levels.proofs.RunLemmas.{are-runs}
use Rattle.pm_levels.proofs.levels.Levels.of_files.Goals as goal

pub returns-in-Some-clause-fault : goal.returns-in-Some-clause-fault
returns-in-Some-clause-fault c =
    let order = c.sorted-files.ensures in
    first-overlap c.args.files.items c.sorted-files.result.items order.same order.sorted c.in-Some.i
    (subst (λ fs. IsFirstMeeting fs c.in-Some.i) c.as_slice.ensures.value c.in-Some.ensures) c.swap_remove.result c.swap_remove.ensures.value

pub returns-in_ok-joined-in-None-clause-runs : goal.returns-in_ok-joined-in-None-clause-runs
returns-in_ok-joined-in-None-clause-runs c =
    are-runs c.args.files.items c.sorted-files.result.items _ c.sorted-files.ensures.same c.sorted-files.ensures.sorted c.in_ok-joined-in-None.ensures

pub returns-in_ok-joined-in-None-clause-disjoint : goal.returns-in_ok-joined-in-None-clause-disjoint
returns-in_ok-joined-in-None-clause-disjoint c =
    disjoint c.args.files.items c.sorted-files.result.items c.sorted-files.ensures.same
    (subst (λ fs. IsFree fs (length fs)) c.as_slice.ensures.value c.in-None.ensures)
