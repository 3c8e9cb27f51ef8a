-- What is asked of a reader, and what it has found out before it reads a snapshot.
use Rattle.std.specs.Prelude.{ℕ, List}
use Rattle.pm_schema.specs.declared.schema.TableSchema.{TableSchema}
use Rattle.pm_read_table.specs.declared.asked.Wanted.{Wanted}
use Rattle.pm_read_table.specs.declared.asked.Wanted.TheVariants as wants

-- the snapshots are listed first: not where one is asked for whole
abbrev pub ListsFirst : Wanted → Type 0
ListsFirst (wants.Whole id) = ⊥
ListsFirst other = Unit {0}

-- the entries of the live files are asked for
abbrev pub KeepsEntries : Wanted → Type 0
KeepsEntries wants.Entries = Unit {0}
KeepsEntries (wants.Whole id) = Unit {0}
KeepsEntries other = ⊥

-- a table, by its schema, and which snapshot of it, with what of it
pub record Asked : Type 0 where
  pub schema : TableSchema
  pub wanted : Wanted

abbrev pub asked_of : TableSchema → Wanted → Asked
asked_of s wanted = record { schema = s; wanted = wanted }

-- what is asked, and the ids of the snapshots that were listed
pub record SoughtView : Type 0 where
  pub asked : Asked
  pub listed : List ℕ

abbrev pub sought_of : Asked → List ℕ → SoughtView
sought_of a listed = record { asked = a; listed = listed }
