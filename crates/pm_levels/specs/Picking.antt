-- Which runs of a group a compaction takes, and what they become. Runs are given by their sizes, newest first.
use Rattle.std.specs.Prelude.{◌≡◌, ℕ, ◌+◌, ◌-◌, ◌*◌, ◌<◌, ◌≤◌, ◌⊎◌, min, nat_le, nat_lt}
use Rattle.std.specs.Prelude.{Bool, ◌&&◌, ◌||◌, ◌==◌, if◌then◌else◌}
use Rattle.std.specs.Prelude.{Option, Some, None, List, length, take, drop, slice_index_or}
use Rattle.std.specs.List.{AllByRecursion, count_by, position_or_len, range_with_len, sum_by}
use Rattle.std.specs.Option.{option_or}
use Rattle.pm_levels.specs.declared.choice.Asked.{Asked}
use Rattle.pm_levels.specs.declared.choice.Asked.TheVariants.{Full, LevelZero, No}
use Rattle.pm_levels.specs.declared.choice.Pick.{Pick}
use Rattle.pm_levels.specs.declared.choice.PickRule.{PickRule}
use Rattle.pm_levels.specs.declared.runs.RunSize.{RunSize}
use Rattle.pm_levels.specs.Runs.{RunView}

-- the highest level
abbrev pub top_of : PickRule → ℕ
top_of rule = rule.levels - 1

-- the sizes of runs together
abbrev pub bytes_in : List RunSize → ℕ
bytes_in runs = sum_by (λ (run : RunSize). run.bytes) runs

-- how many of the runs are at level 0
abbrev pub zeros_of : List RunSize → ℕ
zeros_of runs = count_by (λ (run : RunSize). run.level == 0) runs

-- the run at the index; where there is none, an empty one at level 0
abbrev pub run_at : List RunSize → ℕ → RunSize
run_at runs index = slice_index_or runs index (record { level = 0; bytes = 0 })

-- the run at the index exceeds the newer ones together by more than the ratio
abbrev pub is_large : List RunSize → PickRule → ℕ → Bool
is_large runs rule index = nat_lt (bytes_in (take index runs) * (100 + rule.ratio)) (100 * (run_at runs index).bytes)

-- how many runs are taken where at least so many are: those before the first large one from there on, or all
abbrev pub stretch : List RunSize → PickRule → ℕ → ℕ
stretch runs rule least = least + position_or_len (is_large runs rule) (range_with_len least (length runs - least))

-- all runs, to the highest level
abbrev pub all_of : List RunSize → PickRule → Pick
all_of runs rule = record { take = length runs; out = top_of rule }

-- those of level 0 and the next one, to the level of that one; where these are all, to the highest level
abbrev pub up_to_one : List RunSize → PickRule → Pick
up_to_one runs rule =
    let count = min (zeros_of runs + 1) (length runs) in
    if count == length runs then all_of runs rule else record { take = count; out = (run_at runs (count - 1)).level }

-- the first so many runs, to the level below that of the next one; where that is no level above 0, some more
abbrev pub close : List RunSize → PickRule → ℕ → Pick
close runs rule count =
    if count == length runs then all_of runs rule
    else if nat_le 2 (run_at runs count).level then record { take = count; out = (run_at runs count).level - 1 }
    else up_to_one runs rule

-- the runs but the oldest have together more than so many percent of its bytes
abbrev pub is_ample : List RunSize → PickRule → Bool
is_ample runs rule =
    let newer = length runs - 1 in
    nat_lt (rule.amplification * (run_at runs newer).bytes) (100 * bytes_in (take newer runs))

-- what is asked for in full: all runs, where they aren't one of the highest level
abbrev pub in_full : List RunSize → PickRule → Option Pick
in_full runs rule =
    let is_one = (length runs == 1) && ((run_at runs 0).level == top_of rule) in
    if (length runs == 0) || is_one then None else Some (all_of runs rule)

-- what the sizes ask for, the first of these that applies
abbrev pub by_size : List RunSize → PickRule → Option Pick
by_size runs rule =
    let n = length runs in
    if nat_le rule.trigger n && is_ample runs rule then Some (all_of runs rule)
    else if nat_le rule.trigger n && nat_lt 1 (stretch runs rule 1) then Some (close runs rule (stretch runs rule 1))
    else if nat_lt rule.trigger n then Some (close runs rule (stretch runs rule (n - rule.trigger + 1)))
    else None

-- the runs of level 0, if there are any
abbrev pub by_zeros : List RunSize → PickRule → Option Pick
by_zeros runs rule = if nat_lt 0 (zeros_of runs) then Some (close runs rule (zeros_of runs)) else None

-- the choice of a compaction, if there is one
abbrev pub picked : List RunSize → Asked → PickRule → Option Pick
picked runs Full rule = in_full runs rule
picked runs LevelZero rule = option_or (by_size runs rule) (by_zeros runs rule)
picked runs No rule = by_size runs rule

-- The newest of a group's runs, none of them above the level that they go to, and each of the others above it. They are
-- all runs exactly where that is the highest level.
pub record IsChoice (top : ℕ) (runs : List RunView) (pick : Pick) : Type 0 where
  pub some : 1 ≤ pick.take
  pub within : pick.take ≤ length runs
  pub positive : 1 ≤ pick.out
  pub low : AllByRecursion (λ (run : RunView). run.level ≤ pick.out) (take pick.take runs)
  pub high : AllByRecursion (λ (run : RunView). pick.out < run.level) (drop pick.take runs)
  pub whole : ((pick.take ≡ length runs) × (pick.out ≡ top)) ⊎ ((pick.take < length runs) × (pick.out < top))
