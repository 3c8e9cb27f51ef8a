use Rattle.std.proofs.Common.{◌≡◌, ℕ, ◌≤◌, List, [], Option, None, Some, IsSome, IsSomeAnd, ap, subst, ◌∙◌, arith}
use Rattle.std.specs.FinMap as map
use Rattle.std.specs.Cmp.Lexicographic.{slice_cmp}
use Rattle.std.specs.Ordering.{nat_cmp}
use Rattle.pm_store.specs.Files.{Files}
use Rattle.pm_schema.specs.declared.schema.TableSchema.{TableSchema}
use Rattle.pm_model_history.specs.History.{History, no_table, table}
use Rattle.pm_model_folder.specs.Changes.{Actor}
use Rattle.pm_model_folder.specs.Folder.{Folder, HaveFiles, HasTable}
use Rattle.pm_model_folder.specs.Meaning.{HasSnapshotAt}
use Rattle.pm_model_folder.specs.Paths.{snapshot_file}
use Rattle.pm_words.specs.declared.command.Command.{Command}
use Rattle.pm_words.specs.declared.command.Command.TheVariants as commands
use Rattle.pm_cli.specs.Start.{IsNew, MayStart}
use Rattle.pm_cli.proofs.laws.base_law.Goals as goal

abbrev no_file : Files
no_file = map.empty

absent : (path : List ℕ) → map.get no_file path ≡ None
absent path = map.get-empty (slice_cmp nat_cmp) path

nothing : (o : Option (List ℕ)) → o ≡ None → IsSome o → ⊥
nothing o is there = cc

names : HaveFiles no_file
names = record {
  schemas = λ id path within there leads. absurd (nothing (map.get no_file path) (absent path) there);
  snapshots = λ id path within there leads. absurd (nothing (map.get no_file path) (absent path) there);
  floors = λ n path within there leads. absurd (nothing (map.get no_file path) (absent path) there);
  consumers = λ name path there leads. absurd (nothing (map.get no_file path) (absent path) there);
}

folder : Folder no_file no_table
folder = record {
  names = names;
  schemas = λ id within. absent _;
  snapshots = λ id within. absent _;
  consumers = λ name. absent _;
  tags = λ name. absent _;
  changelogs = λ id within. absent _;
}

pub returns-clause-empty : goal.returns-clause-empty
returns-clause-empty c = λ me. record { folder = folder; origin = tt; names = λ s id path is from to named by. absurd is }

new_starts : (command : Command) (me : Actor) (h : History) (f : Files) → IsNew me h f → MayStart command me h f
new_starts commands.Create me h f new = (new.folder, λ gone. new.origin)
new_starts (commands.Write user identifier) me h f new = (new.folder, new.names)
new_starts (commands.Scan at) me h f new = new.folder
new_starts commands.Snapshots me h f new = new.folder
new_starts (commands.Consumers dropped) me h f new = new.folder
new_starts (commands.Expire min max millis) me h f new = new.folder
new_starts (commands.Follow from consumer full) me h f new = new.folder
new_starts (commands.Generate batches rows seed) me h f new = (new.folder, λ gone. new.origin)
new_starts (commands.Compact full) me h f new = (new.folder, new.names)

pub returns-clause-new : goal.returns-clause-new
returns-clause-new c = new_starts

-- the origin of a table without entries is there
origin_there : (s : TableSchema) (f : Files) → HasTable f s [] → HasSnapshotAt f s 0
origin_there s f stands =
    let least = stands.snapshots.some in
    (stands.snapshots.exact 0 (omega arith)).1 (omega (arith, least), omega arith)

at_origin : (f : Files) (o : Option (List ℕ)) (name : List ℕ) → o ≡ Some name → IsSomeAnd o (λ origin. IsSome (map.get f (snapshot_file origin)))
    → IsSome (map.get f (snapshot_file name))
at_origin f None name is there = absurd there
at_origin f (Some other) name is there =
    let same : other ≡ name = cc in
    subst (λ (name : List ℕ). IsSome (map.get f (snapshot_file name))) same there

none_between : (id : ℕ) → 1 ≤ id → id ≤ 0 → ⊥
none_between id from to = omega (arith, from, to)

created_again : (me : Actor) (s : TableSchema) (f : Files) → HasTable f s [] → MayStart commands.Create me (table s []) f
created_again me s f stands = (
  stands,
  λ none name origin is.
      nothing (map.get f (snapshot_file name)) (ap (map.get f) is ∙ none) (at_origin f s.origin name origin (origin_there s f stands)),
)

created_start : (command : Command) (me : Actor) (s : TableSchema) (f : Files) → HasTable f s [] → MayStart command me (table s []) f
created_start (commands.Generate batches rows seed) me s f stands = created_again me s f stands
created_start commands.Create me s f stands = created_again me s f stands
created_start (commands.Write user identifier) me s f stands = (stands, λ t id path is from to has by. none_between id from to)
created_start (commands.Scan at) me s f stands = stands
created_start commands.Snapshots me s f stands = stands
created_start (commands.Consumers dropped) me s f stands = stands
created_start (commands.Expire min max millis) me s f stands = stands
created_start (commands.Follow from consumer full) me s f stands = stands
created_start (commands.Compact full) me s f stands = (stands, λ t id path is from to has by. none_between id from to)

pub returns-clause-created : goal.returns-clause-created
returns-clause-created c = created_start
