-- What the law of a published try says.
use Rattle.std.proofs.Common.{◌≡◌, suc, ◌++◌, List, [], ◌∷◌, length, None, Some}
use Rattle.std.specs.FinMap as finite
use Rattle.pm_store.specs.Files.{Files, Puts}
use Rattle.pm_values.specs.declared.group.Group.{Group}
use Rattle.pm_model_history.specs.History.{Entry}
use Rattle.pm_schema.specs.declared.schema.TableSchema.{TableSchema}
use Rattle.pm_model_folder.specs.Changes.{Actor}
use Rattle.pm_model_folder.specs.Commits.{IsCommit, live_in}
use Rattle.pm_model_folder.specs.Paths.{snapshot_path}
use Rattle.pm_model_folder.specs.Stored.{HasGroup, HoldsChange}
use Rattle.pm_made.specs.Commit.{Attempt, IsAsMade, IsReady}

abbrev pub CommitLaw : Type 0
CommitLaw = (me : Actor) (f after : Files) (s : TableSchema) (entries : List Entry) (e : Entry) (t : Attempt) → (ready : IsReady me f s entries e t)
    → finite.get f (snapshot_path (suc (length entries))) ≡ None → Puts f (snapshot_path (suc (length entries))) (Some t.made.text) after
    → (made : IsAsMade after s (suc (length entries)) t ready.made)
    → ((g : Group) → HasGroup after s (entries ++ e ∷ []) (suc (length entries)) (live_in made.contents) g)
    → HoldsChange after s (entries ++ e ∷ []) (suc (length entries)) made.contents.changes → IsCommit f after s entries e
