-- When all that is asked for is handed out.
use Rattle.std.specs.Prelude.{◌≡◌, ◌⊎◌, Option, None, Some}
use Rattle.pm_values.specs.declared.refusal.Refusal.{Refusal}
use Rattle.pm_values.specs.declared.refusal.Refusal.TheVariants as refusals
use Rattle.pm_io.specs.Sink.{SinkView}
use Rattle.pm_command_consume.specs.Alone.{Beginning, HasFrames, PrintsFrames, frames_at}
use Rattle.pm_command_consume.specs.declared.consuming.Consuming.{Consuming}

-- The table tells its changes; where the consumer isn't settled its start isn't too high, and no floor exceeds it; and
-- the snapshot of the starting table, if that is printed, and each from the start to the newest are there.
abbrev pub MayHandOutAll : Consuming → Beginning → Type 0
MayHandOutAll c b = HasFrames c b (frames_at c b)

-- all was printed, or memory ran out
abbrev pub PrintsAll : Consuming → Beginning → SinkView → SinkView → Option Refusal → Type 0
PrintsAll c b before after answer =
    (answer ≡ Some refusals.Memory) ⊎ ((answer ≡ None) × PrintsFrames c b (frames_at c b) before after)
