use Rattle.pm_snapshot.proofs.SnapshotLemmas.{snapshot_in-id, snapshot_in-consistent, snapshot_in-one}
use Rattle.pm_snapshot.proofs.TextLemmas.{snapshot_in-snapshot_text, snapshot_text-injective}
use Rattle.pm_snapshot.proofs.laws.snapshot_law.Goals as goal

pub returns-clause-id : goal.returns-clause-id
returns-clause-id c = snapshot_in-id

pub returns-clause-consistent : goal.returns-clause-consistent
returns-clause-consistent c = snapshot_in-consistent

pub returns-clause-one : goal.returns-clause-one
returns-clause-one c = snapshot_in-one

pub returns-clause-again : goal.returns-clause-again
returns-clause-again c = snapshot_in-snapshot_text

pub returns-clause-different : goal.returns-clause-different
returns-clause-different c = snapshot_text-injective
