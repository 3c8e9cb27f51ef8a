-- What was read of groups, without where it lies in memory.
use Rattle.std.specs.Prelude.{ℕ, List, map}
use Rattle.pm_engine.specs.Covers.{Run}
use Rattle.pm_scan_rows.specs.declared.read_group.ReadGroup.{ReadGroup}

-- the runs of a group of which all rows were read, the oldest first; and of older runs the bytes of their files, those
-- of the newest run first
pub record GroupRead : Type 0 where
  pub runs : List Run
  pub kept : List (List ℕ)

abbrev pub read_of : ReadGroup → GroupRead
read_of x = record { runs = x.runs.items; kept = x.kept.items }

abbrev pub reads_of : List ReadGroup → List GroupRead
reads_of xs = map read_of xs

-- the runs of which all rows were read, of each of the groups
abbrev pub runs_read : List GroupRead → List (List Run)
runs_read xs = map (λ (x : GroupRead). x.runs) xs
