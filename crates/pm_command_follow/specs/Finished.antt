-- At which snapshots all of a table is passed on.
use Rattle.std.specs.Prelude.{◌≡◌, ℕ, List, take, true}
use Rattle.std.specs.List.{AllByRecursion}
use Rattle.pm_schema.specs.declared.schema.TableSchema.{TableSchema}
use Rattle.pm_model_history.specs.History.{Entry}
use Rattle.pm_model_following.specs.Following.{NumberedRow, is_passed, numbered_rows}

-- each row up to the snapshot is passed on there: no group has one behind the last that is
abbrev pub HasPassedAll : TableSchema → List Entry → ℕ → Type 0
HasPassedAll s entries n =
    AllByRecursion (λ (r : NumberedRow). is_passed s entries n r ≡ true) (numbered_rows (take n entries))
