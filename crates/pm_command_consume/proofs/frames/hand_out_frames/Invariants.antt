use Rattle.std.proofs.Common.{◌≡◌, ◌⊎◌, ◌≤◌, ◌+◌, ◌-◌, suc}
use Rattle.pm_io.specs.Sink.{SinkLater}
use Rattle.pm_store.specs.Store.{IsLater}
use Rattle.pm_model_folder.specs.Changes.{Actor}
use Rattle.pm_read_frame.specs.Meaning.{HasProducer}
use Rattle.pm_command_consume.specs.Pieces.{HasBrought, HasHandedOut, IsPlace}
use Rattle.pm_command_consume.proofs.PieceLemmas.{IsPlaceFrom}
use Rattle.pm_command_consume.proofs.frames.hand_out_frames.Given as goal

abbrev pub invariant-loop-place : goal.invariant-loop-place
invariant-loop-place g l =
    let seen = g.F.FileStore.seen in
    let sink = g.W.Sink.seen in
    record {
      from : IsPlaceFrom l.fn.place l.place;
      good : IsPlace l.place;
      bound : (l.place.next ≡ l.fn.place.next) ⊎ (l.place.next ≤ suc l.latest);
      handed : HasHandedOut l.schema l.consuming l.fn.place (l.place.next - l.fn.place.next) (sink l.fn.out) (sink l.out) (seen l.fn.store) (seen l.store);
      brought : (me : Actor) → HasProducer l.schema → HasBrought me l.schema l.consuming l.fn.place.next l.latest (l.place.next - l.fn.place.next) (sink l.fn.out) (sink l.out)
          (seen l.fn.store) (seen l.store);
      out_later : SinkLater (sink l.fn.out) (sink l.out);
      store_later : IsLater (seen l.fn.store) (seen l.store);
    }

abbrev pub decreases-loop-place : goal.decreases-loop-place
decreases-loop-place g l = l.latest + 1 - l.place.next
