-- Blocks and metadata without where they lie in memory.
use Rattle.std.specs.Prelude.{ℕ, pos, List, [], map, Option, Some, None, if◌then◌else◌, Vec}
use Rattle.std.specs.declared.alloc.Global.{Global}
use Rattle.std.specs.Str.{bytes_eq}
use Rattle.pm_avro_data.specs.Datum.{Data, bytes, long, map_of, entries, view, entry_view}
use Rattle.pm_avro_data.specs.declared.datum.Datum.{Datum}
use Rattle.pm_avro_file.specs.Container.{Pairs}

-- the data of blocks
abbrev pub blocks_view : List (Vec Datum Global) → List (List Data)
blocks_view = map (λ v. map view v.items)

-- Private: the bytes of a datum that is bytes
abbrev pub content : Data → List ℕ
content (bytes bs) = bs
content d = []

-- Private: keys and values that are seen as a map's entries
abbrev pub pairs_of : List (List ℕ × Data) → Pairs
pairs_of = map (λ e. (e.0, content e.1))

-- Private: and as they are held
abbrev pub pairs_view : List (List ℕ × Datum) → Pairs
pairs_view entries = pairs_of (map entry_view entries)

-- Private: the size that a datum is: a long that isn't negative
abbrev pub size_in : Data → Option ℕ
size_in (long (pos n)) = Some n
size_in d = None

-- Private: the entries of a datum that is a map
abbrev pub entries_in : Data → Option (List (List ℕ × Data))
entries_in (map_of es) = Some (entries es)
entries_in d = None

-- Private: the value of an entry that has the key, or else what was found before it
abbrev pub newer : List ℕ → List ℕ × Data → Option (List ℕ) → Option (List ℕ)
newer key e found = if bytes_eq e.0 key then Some (content e.1) else found
