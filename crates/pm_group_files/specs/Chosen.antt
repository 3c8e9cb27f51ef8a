-- What a reader of files is asked for.
use Rattle.std.specs.Prelude.{ℕ, List}
use Rattle.pm_schema.specs.declared.schema.TableSchema.{TableSchema}
use Rattle.pm_scan_rows.specs.Group.{GroupRead}
use Rattle.pm_group_files.specs.Jobs.{Wanted}

-- groups of a table at a snapshot, each with what is wanted of it, and what was handed out of the first of these groups
pub record Chosen : Type 0 where
  pub schema : TableSchema
  pub id : ℕ
  pub groups : List Wanted
  pub given : List GroupRead

abbrev pub chosen_of : TableSchema → ℕ → List Wanted → List GroupRead → Chosen
chosen_of s id groups given = record { schema = s; id = id; groups = groups; given = given }
