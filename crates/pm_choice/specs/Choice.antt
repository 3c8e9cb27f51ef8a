-- Which groups a compaction takes, which of their runs, and which files go with these.
use Rattle.std.specs.Prelude.{◌≡◌, ◌↔◌, ◌≤◌, ◌==◌, ℕ, Bool, true, List}
use Rattle.std.specs.Prelude.{[], ◌∷◌, length, map, drop, take, Option, None, Some}
use Rattle.std.specs.List.{AllByRecursion, flat_map}
use Rattle.pm_values.specs.declared.file_meta.FileMeta.{FileMeta}
use Rattle.pm_values.specs.declared.group.Group.{Group}
use Rattle.pm_options.specs.declared.kinds.Producer.{Producer}
use Rattle.pm_options.specs.declared.kinds.Producer.TheVariants as producers
use Rattle.pm_schema.specs.declared.schema.TableSchema.{TableSchema}
use Rattle.pm_manifest.specs.Live.{Live}
use Rattle.pm_manifest.specs.declared.entry.Entry.{Entry}
use Rattle.pm_levels.specs.Picking.{picked, top_of, IsChoice}
use Rattle.pm_levels.specs.Runs.{LevelsRise, RunView, files_of}
use Rattle.pm_levels.specs.Sizes.{size_of}
use Rattle.pm_levels.specs.declared.choice.Asked.{Asked}
use Rattle.pm_levels.specs.declared.choice.Pick.{Pick}
use Rattle.pm_levels.specs.declared.choice.PickRule.{PickRule}
use Rattle.pm_model_contents.specs.Runs.{IsLive}
use Rattle.pm_choice.specs.declared.choice.ChosenGroup.{ChosenGroup}

-- ---- the choice

-- a group with its runs, where there is a choice of them
abbrev pub of_pick : PickRule → Group → List RunView → Option Pick → List ChosenGroup
of_pick rule g runs None = []
of_pick rule g runs (Some p) =
    record { group = g; levels = runs; take = p.take; out = p.out; whole = p.out == top_of rule } ∷ []

-- where so much is asked of it
abbrev pub chosen_of : Asked → PickRule → Group × List RunView → List ChosenGroup
chosen_of asked rule e = of_pick rule e.0 e.1 (picked (map size_of e.1) asked rule)

-- the groups with a choice, in their order
abbrev pub choices : Asked → PickRule → List (Group × List RunView) → List ChosenGroup
choices asked rule groups = flat_map (chosen_of asked rule) groups

-- as an entry of a history names them: each with whether its runs go to the highest level
abbrev pub named_groups : List ChosenGroup → List (Group × Bool)
named_groups chosen = map (λ (c : ChosenGroup). (c.group, c.whole)) chosen

abbrev pub group_of : ChosenGroup → Group
group_of c = c.group

-- the levels of a group's runs rise up to the highest
pub record HaveLevels (top : ℕ) (runs : List RunView) : Type 0 where
  pub rise : LevelsRise runs
  pub within : AllByRecursion (λ (run : RunView). run.level ≤ top) runs

-- What goes are the newest of the group's runs, to a level between them and the others: the highest exactly where they
-- are all.
pub record IsChosen (rule : PickRule) (c : ChosenGroup) : Type 0 where
  pub choice : IsChoice (top_of rule) c.levels (record { take = c.take; out = c.out })
  pub whole : (c.whole ≡ true) ↔ (c.take ≡ length c.levels)

-- ---- what goes

-- the runs of a group that go, newest first
abbrev pub taken_runs : ChosenGroup → List RunView
taken_runs c = take c.take c.levels

-- those that stay, newest first
abbrev pub left_runs : ChosenGroup → List RunView
left_runs c = drop c.take c.levels

-- those of them in which old values are looked up, as the producer of look-ups does
abbrev pub looked_by : Producer → ChosenGroup → List RunView
looked_by producers.Lookup c = left_runs c
looked_by other c = []

abbrev pub looked_runs : TableSchema → ChosenGroup → List RunView
looked_runs s c = looked_by s.options.producer c

-- the entry of a live file of the table
abbrev pub live_entry : TableSchema → Group → FileMeta → Entry
live_entry s g m = record { add = true; group = g; buckets = s.options.bucket; file = m }

-- those of the files of runs of a group
abbrev pub run_entries : TableSchema → Group → List RunView → List Entry
run_entries s g runs = map (live_entry s g) (files_of runs)

-- those of all files that go: by group, and in each newest run first
abbrev pub removed_entries : TableSchema → List ChosenGroup → List Entry
removed_entries s chosen = flat_map (λ (c : ChosenGroup). run_entries s c.group (taken_runs c)) chosen

-- the entries of live files add them, and tell how many buckets the table has
abbrev pub TellLive : TableSchema → Live → Type 0
TellLive s live = (e : Entry) → IsLive live e → (e.add ≡ true) × (e.buckets ≡ s.options.bucket)
