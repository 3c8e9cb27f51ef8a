-- What a try changes, piece by piece.
use Rattle.std.proofs.Common.{◌≡◌, true, List, [], ◌∷◌, ◌++◌, length, map, refl, sym, subst}
use Rattle.std.specs.List.{AllByRecursion}
use Rattle.pm_values.specs.Names.{Naming}
use Rattle.pm_schema.specs.declared.schema.TableSchema.{TableSchema}
use Rattle.pm_manifest.specs.declared.entry.Entry.{Entry}
use Rattle.pm_put.specs.declared.putting.CommitFile.{CommitFile}
use Rattle.pm_write.specs.Batch.{Groups}
use Rattle.pm_write.specs.Files.{after_names}
use Rattle.pm_write.specs.declared.files.NewFile.{NewFile}
use Rattle.pm_made.specs.Delta.{Delta, IsDeltaOf, added_entry, adding, deleted}
use Rattle.pm_made.specs.Files.{AreNumbered, HasDelta, appends, changes_of, compacts, data_file, data_of, delta_of_files, delta_of_plan}
use Rattle.pm_made.specs.Intent.{removed_of}
use Rattle.pm_made.specs.declared.intent.Intent.{Intent}
use Rattle.pm_made.specs.declared.intent.Intent.TheVariants as intents
use Rattle.pm_made.specs.declared.intent.Plan.{Plan}
use Rattle.pm_made.specs.declared.newest.Newest.{Newest}

-- entries of new files add them
all-added : (s : TableSchema) (xs : List NewFile) → AllByRecursion (λ (e : Entry). e.add ≡ true) (map (added_entry s) xs)
all-added s [] = tt
all-added s (x ∷ xs) = (refl, all-added s xs)

all-adding : (es : List Entry) → AllByRecursion (λ (e : Entry). e.add ≡ true) (map adding es)
all-adding [] = tt
all-adding (e ∷ es) = (refl, all-adding es)

-- the delta with these entries, for which these files are created
abbrev pub HasNewDelta : TableSchema → Newest → Naming → Intent → List Entry → List Entry → List CommitFile → Naming → Type 0
HasNewDelta s newest names intent entries changes files left =
    (d : Delta) × HasDelta s newest names intent d files left × IsDeltaOf (removed_of intent) entries changes d

-- of an append's new files
pub appended : (s : TableSchema) (newest : Newest) (names left : Naming) (batch : Groups) (xs : List NewFile) (entries changes : List Entry)
    (files : List CommitFile) → AreNumbered s newest.live.items names batch xs → left ≡ after_names (length xs) names
    → entries ≡ map (added_entry s) (data_of xs) → changes ≡ map (added_entry s) (changes_of xs) → files ≡ map (data_file s) xs
    → HasNewDelta s newest names (intents.Append batch) entries changes files left
appended s newest names left batch xs entries changes files numbered next are tell put = (
  delta_of_files s xs,
  subst (λ (left : Naming). HasDelta s newest names (intents.Append batch) (delta_of_files s xs) files left) (sym next)
      (subst (λ (files : List CommitFile). HasDelta s newest names (intents.Append batch) (delta_of_files s xs) files (after_names (length xs) names)) (sym put)
      (appends batch xs numbered)),
  record { goes = refl; whole = are; told = tell; adds = all-added s (data_of xs) },
)

-- of a compaction's plan
pub compacted : (s : TableSchema) (newest : Newest) (names : Naming) (plan : Plan) (entries changes : List Entry) (files : List CommitFile)
    → entries ≡ map deleted plan.removed.items ++ map adding plan.added.items → changes ≡ map adding plan.changes.items → files ≡ []
    → HasNewDelta s newest names (intents.Compact plan) entries changes files names
compacted s newest names plan entries changes files are tell none = (
  delta_of_plan plan,
  subst (λ (files : List CommitFile). HasDelta s newest names (intents.Compact plan) (delta_of_plan plan) files names) (sym none) (compacts plan),
  record { goes = refl; whole = are; told = tell; adds = all-adding plan.added.items },
)
