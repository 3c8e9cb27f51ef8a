-- Who names the files of a try: at each of them the names that are left are the actor's.
use Rattle.std.proofs.Common.{◌≡◌, ℕ, suc, ◌+◌, ◌*◌, [], subst, arith}
use Rattle.pm_values.specs.Names.{Naming, counted}
use Rattle.pm_schema.specs.declared.schema.TableSchema.{TableSchema}
use Rattle.pm_model_folder.specs.Changes.{Actor}
use Rattle.pm_made.specs.Commit.{Attempt, MakesNames}
use Rattle.pm_made.specs.Files.{AreLists, AreManifests, IsMadeOf}
use Rattle.pm_made.specs.Delta.{entries_of}
use Rattle.pm_made.specs.Intent.{most_files}
use Rattle.pm_made.proofs.DeltaFilesLemmas.{delta-left, more_of, none-told}
use Rattle.pm_made.proofs.ListedLemmas.{base-left, changes-left, list-left, manifest-left, no-metas}
use Rattle.pm_made.proofs.MadeLemmas.{MayGive, give-next}

-- as many names, which are counted in another way
as-many : (me : Actor) (base j k : ℕ) (names : Naming) → j ≡ k → MayGive me base j names → MayGive me base k names
as-many me base j k names same may = subst (λ (k : ℕ). MayGive me base k names) same may

module _ (me : Actor) (s : TableSchema) (t : Attempt) (makes : MakesNames me t) (made : IsMadeOf s t.newest t.author t.intent t.names t.made) where
  abbrev base : ℕ
  base = t.author.base

  abbrev lists : AreManifests s t.newest made.left (entries_of made.delta) made.delta.changes made.lists made.list_files
  lists = made.are_manifests

  abbrev own : AreLists s lists.left (entries_of made.delta) made.delta.changes lists.base made.lists lists.list_files
  own = lists.are_lists

  pub first-names : MayGive me base (most_files t.intent) t.names
  first-names = record {
    maker = record { may = makes.may; session = makes.session; actor = makes.actor; based = makes.based };
    room = makes.room;
  }

  -- how many manifests of changelog files it may have
  abbrev more : ℕ
  more = more_of t.intent

  none : more ≡ 0 → made.delta.changes ≡ []
  none = none-told s t.newest t.names t.intent made.delta made.row_files made.left made.has_delta

  pub manifest-names : MayGive me base (4 + 2 * more) made.left
  manifest-names = delta-left s t.newest t.names me base t.intent made.delta made.row_files made.left made.has_delta first-names

  pub delta-names : MayGive me base (3 + 2 * more) lists.left
  delta-names = base-left me base s (3 + 2 * more) t.newest made.left lists.base lists.base_files lists.left lists.has_base
      (as-many me base (4 + 2 * more) (suc (3 + 2 * more)) made.left (omega arith) manifest-names)

  pub changes-names : MayGive me base (2 + 2 * more) own.after_delta
  changes-names = manifest-left me base s (2 + 2 * more) lists.left (entries_of made.delta) own.delta own.delta_files own.after_delta own.has_delta
      (as-many me base (3 + 2 * more) (suc (2 + 2 * more)) lists.left (omega arith) delta-names)

  pub delta_list-names : MayGive me base (2 + more) own.after_changes
  delta_list-names = changes-left me base s more own.after_delta made.delta.changes own.changes own.changes_files own.after_changes own.has_changes none changes-names

  pub changes_list-names : MayGive me base (1 + more) (counted own.after_changes)
  changes_list-names = give-next me base (1 + more) own.after_changes
      (as-many me base (2 + more) (suc (1 + more)) own.after_changes (omega arith) delta_list-names)

  pub base_list-names : MayGive me base 1 own.after_list
  base_list-names = list-left me base s more (counted own.after_changes) own.changes made.lists.changes own.changes_list own.after_list own.has_changes_list
      (λ no_more. no-metas s own.after_delta made.delta.changes own.changes own.changes_files own.after_changes own.has_changes (none no_more)) changes_list-names
