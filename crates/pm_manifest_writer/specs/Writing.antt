-- Private: the data of a file in an entry, in the parts in which they are written.
use Rattle.std.specs.Prelude.{◌≤◌, ◌<◌, ◌^◌, List, [], ◌∷◌, pos}
use Rattle.pm_avro_data.specs.Datum.{Data, int, long, text}
use Rattle.pm_binrow.specs.Row.{IsShort}
use Rattle.pm_manifest.specs.Entries.{key_data, time_data}
use Rattle.pm_manifest.specs.Listed.{unknown_statistics}
use Rattle.pm_manifest.specs.Number.{most_counted, most_id, most_sequence}
use Rattle.pm_manifest.specs.Shape.{Shape, rest_of}
use Rattle.pm_values.specs.declared.file_meta.FileMeta.{FileMeta}

-- its name, its size, its rows, and its keys
abbrev pub content_data : Shape → FileMeta → List Data
content_data s f =
    text f.name ∷ long (pos f.size) ∷ long (pos f.rows) ∷ key_data s f.min_key ∷ key_data s f.max_key ∷ []

-- its statistics
abbrev pub statistics_data : Shape → List Data
statistics_data s = unknown_statistics s.rest ∷ unknown_statistics s.columns ∷ []

-- its numbers, and the moment of its creation
abbrev pub numbers_data : FileMeta → List Data
numbers_data f =
    long (pos f.min_seq) ∷ long (pos f.max_seq) ∷ long (pos f.schema_id) ∷ int (pos f.level) ∷ time_data f.created ∷ []

-- the first part is within its bounds
pub record HasContentWithin (s : Shape) (f : FileMeta) : Type 0 where
  pub size : f.size ≤ most_counted
  pub rows : f.rows ≤ most_counted
  pub least : IsShort s.rest (rest_of s.places f.min_key)
  pub greatest : IsShort s.rest (rest_of s.places f.max_key)

-- and so are its numbers
pub record HasNumbersWithin (f : FileMeta) : Type 0 where
  pub first : f.min_seq ≤ most_sequence
  pub last : f.max_seq ≤ most_sequence
  pub schema : f.schema_id ≤ most_id
  pub level : f.level < 2 ^ 31
