-- Files above level 0 that share keys, and which of them is named.
use Rattle.std.specs.Prelude.{◌≡◌, ℕ, ◌<◌, Bool, true, ◌&&◌, ◌==◌, nat_lt, List, slice_index_or, length}
use Rattle.std.specs.List.{AllPairs}
use Rattle.std.specs.Ordering.{is_le}
use Rattle.std.specs.declared.cmp.Ordering.TheVariants.{Less}
use Rattle.pm_values.specs.Order.{Values, key_cmp}
use Rattle.pm_values.specs.declared.file_meta.FileMeta.{FileMeta}
use Rattle.pm_levels.specs.declared.fault.LevelFault.{LevelFault}
use Rattle.pm_levels.specs.declared.fault.LevelFault.TheVariants.{Memory, Overlap}
use Rattle.pm_levels.specs.Order.{file_cmp}
use Rattle.pm_levels.specs.Runs.{AreTwoOf, RunView}

-- the first key isn't above the second
abbrev pub IsUpTo : Values → Values → Type 0
IsUpTo a b = is_le (key_cmp a b) ≡ true

-- the key lies in the key range of the file
abbrev pub IsInRange : Values → FileMeta → Type 0
IsInRange key file = IsUpTo file.min_key key × IsUpTo key file.max_key

-- two files of one level above 0 share a key range: a key lies in both
pub record Meet (a b : FileMeta) : Type 0 where
  pub level : a.level ≡ b.level
  pub above : 0 < a.level
  pub key : Values
  pub first : IsInRange key a
  pub second : IsInRange key b

-- no two of the files share a key range
abbrev pub AreDisjoint : List FileMeta → Type 0
AreDisjoint files = (a b : FileMeta) → AreTwoOf a b files → Meet a b → ⊥

-- the greatest key of each file of a run above level 0 is below the least key of each file after it that has a key
abbrev pub RangesRise : RunView → Type 0
RangesRise run =
    0 < run.level
    → AllPairs (λ (a b : FileMeta). IsUpTo b.min_key b.max_key → key_cmp a.max_key b.min_key ≡ Less) run.files

-- the file shares a key range with another one of the files that doesn't come after it
abbrev pub IsOverlap : List FileMeta → FileMeta → Type 0
IsOverlap files file =
    (other : FileMeta) × AreTwoOf other file files × Meet other file × (is_le (file_cmp other file) ≡ true)

-- of the files that do, the first: that of the lowest level, then of the least key, then of the least name
pub record IsFirstOverlap (files : List FileMeta) (file : FileMeta) : Type 0 where
  pub overlaps : IsOverlap files file
  pub least : (other : FileMeta) → IsOverlap files other → is_le (file_cmp file other) ≡ true

-- why files have no runs; memory may run out anywhere
abbrev pub IsFaultOf : List FileMeta → LevelFault → Type 0
IsFaultOf files Memory = Unit {0}
IsFaultOf files (Overlap file) = IsFirstOverlap files file

-- Private: the file is above level 0, and a key lies in its range
abbrev pub has_keys : FileMeta → Bool
has_keys file = nat_lt 0 file.level && is_le (key_cmp file.min_key file.max_key)

-- Private: the test of it
abbrev pub meet : FileMeta → FileMeta → Bool
meet a b =
    (a.level == b.level) && has_keys a && has_keys b && is_le (key_cmp a.min_key b.max_key)
    && is_le (key_cmp b.min_key a.max_key)

-- Private: no two of the first n files share a key range
abbrev pub IsFree : List FileMeta → ℕ → Type 0
IsFree files n =
    (i j : ℕ) (d : FileMeta) → i < j → j < n → Meet (slice_index_or files i d) (slice_index_or files j d) → ⊥

-- Private: the file at the index is the first that shares a key range with one before it
pub record IsFirstMeeting (files : List FileMeta) (n : ℕ) : Type 0 where
  pub within : n < length files
  pub free : IsFree files n
  pub other : ℕ
  pub before : other < n
  pub meets : (d : FileMeta) → Meet (slice_index_or files other d) (slice_index_or files n d)
