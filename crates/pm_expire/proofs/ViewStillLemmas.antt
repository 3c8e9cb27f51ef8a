-- The calls of a reader of a whole view change nothing.
use Rattle.std.proofs.Common.{inl, inr, List, ◌∷◌, sym, subst}
use Rattle.pm_values.specs.declared.refusal.Refusal.{Refusal}
use Rattle.pm_machine.specs.Trace.{Event}
use Rattle.pm_read_schema.proofs.StillLemmas.{AreStill}
use Rattle.pm_read_table.specs.declared.view.View.{View}
use Rattle.pm_read_table.proofs.StillLemmas.{still_join, view_shows_still, view_still}
use Rattle.pm_read_log.specs.Log.{LogAskedView}
use Rattle.pm_read_log.specs.LogTrace as log
use Rattle.pm_read_log.specs.declared.log_phase.LogPhase.TheVariants as logs
use Rattle.pm_read_log.proofs.LogStillLemmas.{log_shows_still, log_still}
use Rattle.pm_read_whole.specs.Trace as whole
use Rattle.pm_read_whole.specs.Trace.{Follows, read_first, view_asked}
use Rattle.pm_read_whole.specs.Whole as wholes_of
use Rattle.pm_read_whole.specs.declared.phase.Phase as whole_phase
use Rattle.pm_read_whole.specs.declared.phase.Phase.TheVariants as wholes

follows_still : (a : LogAskedView) (v : View) (P : List Event → Type 0) (own : List Event) → ((own : List Event) → P own → AreStill own) → Follows a v P own → AreStill own
follows_still a v P own still follows =
    subst AreStill (sym follows.is)
    (still_join (read_first a follows.bytes ∷ follows.rest) follows.later
    (view_still (view_asked a) v (read_first a follows.bytes ∷ follows.rest) follows.viewed.0)
    (still (read_first a follows.bytes ∷ follows.later) follows.logged).1)

pub whole_still : (a : LogAskedView) (m : whole_phase.Phase) (own : List Event) → wholes_of.IsReady m → whole.Did a m own → AreStill own
whole_still a (wholes.Ready v l) own ready follows = follows_still a v (log.Did a (logs.Ready l)) own (λ own has. log_still a l own has) follows
whole_still a (wholes.View r) own ready did = absurd ready
whole_still a (wholes.Log v r) own ready did = absurd ready
whole_still a wholes.Over own ready did = absurd ready

pub whole_shows_still : (a : LogAskedView) (refusal : Refusal) (own : List Event) → whole.Shows a refusal own → AreStill own
whole_shows_still a refusal own (inl shows) = view_shows_still (view_asked a) refusal own shows
whole_shows_still a refusal own (inr (v, follows)) = follows_still a v (log.Shows a refusal) own (λ own shows. log_shows_still a refusal own shows) follows
