-- How much is asked of a compaction, and by which options runs are chosen.
use Rattle.std.specs.Prelude.{ℕ, ◌-◌, nat_le, Bool, false, ◌||◌, if◌then◌else◌, Option, None, Some}
use Rattle.pm_options.specs.declared.kinds.Producer.{Producer}
use Rattle.pm_options.specs.declared.kinds.Producer.TheVariants as producers
use Rattle.pm_schema.specs.declared.schema.TableSchema.{TableSchema}
use Rattle.pm_snapshot.specs.declared.snapshot.Snapshot.{Snapshot}
use Rattle.pm_levels.specs.declared.choice.Asked.{Asked}
use Rattle.pm_levels.specs.declared.choice.Asked.TheVariants.{Full, LevelZero, No}
use Rattle.pm_levels.specs.declared.choice.PickRule.{PickRule}

-- at least so many commits appended rows since the view of the last compaction that was asked for in full
abbrev pub is_due : Option ℕ → Option Snapshot → Bool
is_due (Some least) (Some x) = nat_le least (x.appends - x.full)
is_due commits snapshot = false

-- with the producer `lookup` the runs of level 0 are to go, too
abbrev pub by_producer : Producer → Asked
by_producer producers.Lookup = LevelZero
by_producer other = No

-- how much is asked of each group of a view at a snapshot, or at the origin, by the word or by the table's options
abbrev pub question : Bool → TableSchema → Option Snapshot → Asked
question full s snapshot =
    if full || is_due s.options.delta_commits snapshot then Full else by_producer s.options.producer

-- how many commits appended rows up to a view
abbrev pub appends_at : Option Snapshot → ℕ
appends_at None = 0
appends_at (Some x) = x.appends

-- that number where all runs are asked for, which the compaction's snapshot bears then
abbrev pub full_appends : Asked → Option Snapshot → Option ℕ
full_appends Full snapshot = Some (appends_at snapshot)
full_appends other snapshot = None

-- the options of a table by which runs are chosen
abbrev pub rule_of : TableSchema → PickRule
rule_of s = record {
  trigger = s.options.trigger;
  amplification = s.options.amplification;
  ratio = s.options.ratio;
  levels = s.options.levels;
}
