-- Which options settings can state.
use Rattle.std.specs.Prelude.{◌≡◌, ◌≢◌, ℕ, List, [], map, true, false, None, IfSome}
use Rattle.std.specs.Cmp.Lexicographic.{slice_cmp}
use Rattle.std.specs.Int.{IsInRange}
use Rattle.std.specs.List.{AllByRecursion}
use Rattle.std.specs.List.Sorted.{IsStrictlySortedBy}
use Rattle.std.specs.Ordering.{nat_cmp}
use Rattle.pm_options.specs.Entries.{Entries}
use Rattle.pm_options.specs.Fields.{has_comma}
use Rattle.pm_options.specs.Numbers.{longest}
use Rattle.pm_options.specs.Options.{is_kept}
use Rattle.pm_options.specs.Pairs.{pair_fault}
use Rattle.pm_options.specs.Reading.{setting_fault}
use Rattle.pm_options.specs.Table.{Setting, most_buckets}
use Rattle.pm_options.specs.declared.options.Options.{Options}

-- each key is below those after it
abbrev pub Rises : {A : Type 0} → Entries A → Type 0
Rises entries = IsStrictlySortedBy (slice_cmp nat_cmp) (map (λ e. e.0) entries)

-- a sequence group that a setting can state
pub record IsGroup (group : List ℕ × List (List ℕ)) : Type 0 where
  -- its column
  pub column : has_comma group.0 ≡ false
  -- the columns that it lists: one or more
  pub listed : group.1 ≢ []
  pub names : AllByRecursion (λ name. has_comma name ≡ false) group.1

-- a setting that is kept
pub record IsKept (s : Setting) : Type 0 where
  -- no option that has a field has its key
  pub key : is_kept s ≡ true
  -- its text is taken, where only one is
  pub taken : setting_fault s ≡ None

-- options that settings can state: their numbers are in the ranges of the table
pub record Stands (o : Options) : Type 0 where
  pub bucket : IsInRange 1 most_buckets o.bucket
  pub delta_commits : IfSome o.delta_commits (IsInRange 1 1000000)
  pub trigger : IsInRange 1 100 o.trigger
  pub levels : IsInRange 2 101 o.levels
  pub amplification : IsInRange 0 1000000 o.amplification
  pub ratio : IsInRange 0 1000000 o.ratio
  pub merge_min : IsInRange 2 1000 o.merge_min
  pub retained_millis : IsInRange 0 longest o.retained_millis
  pub retained_min : IsInRange 1 2147483647 o.retained_min
  pub retained_max : IsInRange 1 2147483647 o.retained_max
  -- what is said of columns, by rising column
  pub functions : Rises o.functions
  pub delimiters : Rises o.delimiters
  pub ignore_retract : Rises o.ignore_retract
  pub groups : Rises o.groups
  pub all_groups : AllByRecursion IsGroup o.groups
  -- what is kept, by rising key
  pub kept : Rises o.kept
  pub all_kept : AllByRecursion IsKept o.kept
  -- all go together
  pub pairs : pair_fault o ≡ None
