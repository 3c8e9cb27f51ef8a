-- The types that are written are ones that are read, and what is written is of them.
use Rattle.std.proofs.Common.{◌≡◌, ℕ, ◌+◌, ◌≤◌, false, true, List, [], ◌∷◌, map, Option, None, Some, refl, arith, rules, ℤ}
use Rattle.std.specs.List.{AllByRecursion}
use Rattle.pm_avro_schema.specs.Avro.{takes_no_byte, long}
use Rattle.pm_avro_schema.specs.Readable.{IsReadable, KeepsBounds}
use Rattle.pm_avro_data.specs.HasType.{HasType}
use Rattle.pm_values.specs.declared.column.ColType.{ColType}
use Rattle.pm_values.specs.declared.file_meta.FileMeta.{FileMeta}
use Rattle.pm_manifest.specs.declared.entry.Entry.{Entry}
use Rattle.pm_manifest.specs.declared.entry.ManifestMeta.{ManifestMeta}
use Rattle.pm_manifest.specs.Entries.{entry_data, file_data, time_data, has_entry_fields}
use Rattle.pm_manifest.specs.Listed.{has_meta_fields, meta_data, unknown_statistics}
use Rattle.pm_manifest.specs.Shape.{Shape}
use Rattle.pm_manifest.specs.«Type».{entry_type, file_type, meta_type, or_null, statistics_type}

-- ---- the types are read

statistics_bounds : (n : ℕ) → n ≤ 20 → KeepsBounds statistics_type n
statistics_bounds n le = (refl, tt, (refl, tt, (refl, (tt, ((omega arith, refl, (tt, (tt, tt))), tt)), tt)))

meta_bounds : KeepsBounds meta_type 0
meta_bounds =
    (refl, tt, (refl, tt, (refl, tt, (refl, tt, (refl, tt, (refl, statistics_bounds 1 (omega arith), (refl, tt, tt)))))))

file_bounds : (n : ℕ) → n ≤ 10 → KeepsBounds file_type n
file_bounds n le = let statistics = statistics_bounds (n + 1) (omega arith) in search rules depth 40

entry_bounds : KeepsBounds entry_type 0
entry_bounds = (refl, tt, (refl, tt, (refl, tt, (refl, tt, (refl, tt, (refl, file_bounds 1 (omega arith), tt))))))

pub meta_readable : IsReadable meta_type
meta_readable = record { bounds = meta_bounds; levels = omega arith }

pub entry_readable : IsReadable entry_type
entry_readable = record { bounds = entry_bounds; levels = omega arith }

pub meta_takes : takes_no_byte meta_type ≡ false
meta_takes = refl

pub entry_takes : takes_no_byte entry_type ≡ false
entry_takes = refl

pub meta_has : has_meta_fields meta_type ≡ true
meta_has = refl

pub entry_has : has_entry_fields entry_type ≡ true
entry_has = refl

-- ---- the data have the types

statistics_typed : (types : List ColType) → HasType statistics_type (unknown_statistics types)
statistics_typed types = (tt, (tt, ((omega arith, tt), tt)))

meta_typed : (types : List ColType) (m : ManifestMeta) → HasType meta_type (meta_data types m)
meta_typed types m = (tt, (tt, (tt, (tt, (tt, (statistics_typed types, (tt, tt)))))))

pub metas_typed : (types : List ColType) (ms : List ManifestMeta) → AllByRecursion (HasType meta_type) (map (meta_data types) ms)
metas_typed types [] = tt
metas_typed types (m ∷ ms) = (meta_typed types m, metas_typed types ms)

time_typed : (time : Option ℤ) → HasType (or_null long) (time_data time)
time_typed None = (omega arith, tt)
time_typed (Some z) = (omega arith, tt)

file_typed : (s : Shape) (f : FileMeta) → HasType file_type (file_data s f)
file_typed s f =
    (tt, (tt, (tt, (tt, (tt, (statistics_typed s.rest, (statistics_typed s.columns, (tt, (tt, (tt, (tt, (time_typed f.created, tt))))))))))))

entry_typed : (s : Shape) (e : Entry) → HasType entry_type (entry_data s e)
entry_typed s e = (tt, (tt, (tt, (tt, (tt, (file_typed s e.file, tt))))))

pub entries_typed : (s : Shape) (es : List Entry) → AllByRecursion (HasType entry_type) (map (entry_data s) es)
entries_typed s [] = tt
entries_typed s (e ∷ es) = (entry_typed s e, entries_typed s es)
