use Rattle.pm_write.proofs.GroupLemmas.{no_batch}
use Rattle.pm_write.proofs.LawLemmas.{all_held, buckets, covers_held, empty_batch, few, folders, stored_held}
use Rattle.pm_write.proofs.LogLemmas.{logs-input, logs-quiet}
use Rattle.pm_write.proofs.RoomLemmas.{all_room}
use Rattle.pm_write.proofs.laws.batch_law.Goals as goal

pub returns : goal.returns
returns c = record {
  none = no_batch;
  empty = empty_batch;
  covers = covers_held;
  stored = stored_held;
  held = all_held;
  folders = folders c.groups_law.ensures.folder;
  buckets = buckets c.groups_law.ensures.bucket;
  few = few;
  room = all_room;
  logs = λ s rows batch input is. logs-input s rows batch is c.by_key_law.ensures.same input;
  quiet = λ s rows batch other is. logs-quiet s rows batch is other;
}
