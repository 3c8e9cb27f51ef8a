-- The order in which a group's files stand: the files of a newer run first.
use Rattle.std.specs.Prelude.{if◌then◌else◌, ◌==◌}
use Rattle.std.specs.Ordering.{nat_cmp, ordering_then}
use Rattle.std.specs.Cmp.Lexicographic.{slice_cmp}
use Rattle.std.specs.declared.cmp.Ordering.{Ordering}
use Rattle.pm_values.specs.Order.{key_cmp}
use Rattle.pm_values.specs.declared.file_meta.FileMeta.{FileMeta}

-- of two files of one level: at level 0 by falling greatest sequence number, above it by rising least key
abbrev pub within_level : FileMeta → FileMeta → Ordering
within_level a b = if a.level == 0 then nat_cmp b.max_seq a.max_seq else key_cmp a.min_key b.min_key

-- by rising level, then within the level, and by rising name where that leaves them equal
abbrev pub file_cmp : FileMeta → FileMeta → Ordering
file_cmp a b =
    ordering_then (nat_cmp a.level b.level) (ordering_then (within_level a b) (slice_cmp nat_cmp a.name b.name))
