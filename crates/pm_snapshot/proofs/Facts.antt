-- The numbers in names and the ids in files, for other crates.
use Rattle.std.proofs.Common.{◌≡◌, ◌↔◌, ℕ, ◌≤◌, List, ◌++◌, codes, Some, Ok}
use Rattle.std.specs.Fmt.{decimal}
use Rattle.pm_snapshot.proofs.NameLemmas.{number_after-some, number_after-found}
use Rattle.pm_snapshot.proofs.SnapshotLemmas.{snapshot_in-id}
use Rattle.pm_snapshot.specs.Names.{greatest, id_in, number_after, snapshot_name}
use Rattle.pm_snapshot.specs.Snapshot.{snapshot_in}
use Rattle.pm_snapshot.specs.declared.snapshot.Snapshot.{Snapshot}

-- a name has a number after a prefix exactly where it is made of both
pub number_is : (prefix name : List ℕ) (n : ℕ)
    → (number_after prefix name ≡ Some n) ↔ ((n ≤ greatest) × (name ≡ prefix ++ decimal n))
number_is prefix name n = (number_after-some prefix name n, λ is. number_after-found prefix name n is.0 is.1)

-- and an id exactly where it is that of a snapshot
pub id_is : (name : List ℕ) (id : ℕ) → (id_in name ≡ Some id) ↔ ((id ≤ greatest) × (name ≡ snapshot_name id))
unfolding id_in
id_is name id = number_is (codes "snapshot-") name id

-- what a file reads as bears the id of the file
pub id_same : (id : ℕ) (text : List ℕ) (s : Snapshot) → snapshot_in id text ≡ Ok s → s.id ≡ id
id_same = snapshot_in-id
