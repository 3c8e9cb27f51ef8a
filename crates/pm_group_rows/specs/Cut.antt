-- The rows of each group among the rows of a table.
use Rattle.std.specs.Prelude.{ℕ, ◌+◌, List, [], ◌∷◌, ◌++◌, filter, length, Option, Some, None, unwrap_or}
use Rattle.std.specs.Prelude.{if◌then◌else◌}
use Rattle.std.specs.BTreeMap.{is_at}
use Rattle.std.specs.Ordering.{eq_by_cmp}
use Rattle.pm_values.specs.GroupOrder.{group_cmp}
use Rattle.pm_values.specs.declared.group.Group.{Group}
use Rattle.pm_values.specs.declared.record.Stamped.{Stamped}
use Rattle.pm_schema.specs.declared.schema.TableSchema.{TableSchema}
use Rattle.pm_model_following.specs.Groups.{group_of}

-- rows with other numbers, which count them from this one on
abbrev pub renumbered : ℕ → List Stamped → List Stamped
renumbered n [] = []
renumbered n (x ∷ rows) = record x { seq = n } ∷ renumbered (n + 1) rows

-- the rows that lie in a group, in their order
abbrev pub lying_in : TableSchema → Group → List Stamped → List Stamped
lying_in s g rows = filter (λ (x : Stamped). eq_by_cmp group_cmp (group_of s x.row) g) rows

-- rows where there are some
abbrev pub some_rows : List Stamped → Option (List Stamped)
some_rows [] = None
some_rows (x ∷ rows) = Some (x ∷ rows)

-- what a group has of rows: those that lie in it, in their order and numbered from 0, if there are some
abbrev pub cut_of : TableSchema → Group → List Stamped → Option (List Stamped)
cut_of s g rows = some_rows (renumbered 0 (lying_in s g rows))

-- Private: a row behind others, with the next number
abbrev pub put_last : Stamped → List Stamped → List Stamped
put_last x rows = rows ++ record x { seq = length rows } ∷ []

-- Private: what a group has, once a row was put to those of another group, or of its own: with the next number there
abbrev pub with_row : Group → Group → Stamped → Option (List Stamped) → Option (List Stamped)
with_row g group x own =
    if is_at (group_cmp group) g then Some (put_last x (unwrap_or own [])) else own

-- Private: the group of all rows of a table without partition columns that has one bucket
abbrev pub only_group : Group
only_group = record { partition = []; bucket = 0 }

-- Private: what a group has where all rows lie in that one
abbrev pub in_only_group : Group → List Stamped → Option (List Stamped)
in_only_group g rows = if is_at (group_cmp only_group) g then some_rows rows else None
