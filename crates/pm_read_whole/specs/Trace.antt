-- The own calls of a reader of a whole view, and what they show.
use Rattle.std.specs.Prelude.{◌≡◌, ◌⊎◌, ℕ, List, ◌∷◌, ◌++◌, Some}
use Rattle.pm_values.specs.declared.refusal.Refusal.{Refusal}
use Rattle.pm_machine.specs.Trace.{Event}
use Rattle.pm_model_folder.specs.Paths.{snapshot_path}
use Rattle.pm_read_table.specs.Asked.{Asked, asked_of}
use Rattle.pm_read_log.specs.Log.{LogAskedView}
use Rattle.pm_read_log.specs.LogTrace as log
use Rattle.pm_read_table.specs.Trace as reader
use Rattle.pm_read_table.specs.Trace.{read_file}
use Rattle.pm_read_table.specs.declared.asked.Wanted.TheVariants as wants
use Rattle.pm_read_log.specs.declared.log_phase.LogPhase.TheVariants as logs
use Rattle.pm_read_table.specs.declared.phase.Phase.TheVariants as readers
use Rattle.pm_read_table.specs.declared.view.View.{View}
use Rattle.pm_read_whole.specs.declared.phase.Phase.{Phase}
use Rattle.pm_read_whole.specs.declared.phase.Phase.TheVariants as phases

-- what is asked of the view's reader, where this is asked
abbrev pub view_asked : LogAskedView → Asked
view_asked a = asked_of a.schema (wants.Whole a.id)

-- these bytes were found at the path of the snapshot
abbrev pub read_first : LogAskedView → List ℕ → Event
read_first a bytes = read_file (snapshot_path a.id) (Some bytes)

-- The view was read by calls of which the first read the snapshot. The calls after them are those of the changelog's
-- reader, of which this holds together with that first one.
pub record Follows (a : LogAskedView) (v : View) (P : List Event → Type 0) (own : List Event) : Type 0 where
  pub bytes : List ℕ
  pub rest : List Event
  pub later : List Event
  pub viewed : reader.Did (view_asked a) (readers.Ready v) (read_first a bytes ∷ rest)
  pub logged : P (read_first a bytes ∷ later)
  pub is : own ≡ (read_first a bytes ∷ rest) ++ later

-- which calls show a refusal: those of the view's reader, or those that came after it was ready
abbrev pub ShowsOfLog : LogAskedView → Refusal → List Event → Type 0
ShowsOfLog a refusal own = (v : View) × Follows a v (log.Shows a refusal) own

abbrev pub Shows : LogAskedView → Refusal → List Event → Type 0
Shows a refusal own = reader.Shows (view_asked a) refusal own ⊎ ShowsOfLog a refusal own

-- its calls so far, by its phase, where this was asked: at its end they show a refusal
abbrev pub Did : LogAskedView → Phase → List Event → Type 0
Did a (phases.View m) own = reader.Did (view_asked a) m own
Did a (phases.Log v m) own = Follows a v (log.Did a m) own
Did a (phases.Ready v l) own = Follows a v (log.Did a (logs.Ready l)) own
Did a phases.Over own = (refusal : Refusal) × Shows a refusal own
