-- What a try to compact changes, and that its entries are such as are written.
use Rattle.std.proofs.Common.{◌≡◌, List, refl}
use Rattle.pm_values.specs.Names.{Naming}
use Rattle.pm_schema.specs.declared.schema.TableSchema.{TableSchema}
use Rattle.pm_put.specs.declared.putting.CommitFile.{CommitFile}
use Rattle.pm_made.specs.Delta.{Delta}
use Rattle.pm_made.specs.Files.{HasDelta, appends, compacts, delta_of_plan, fences}
use Rattle.pm_made.specs.declared.intent.Intent.{Intent}
use Rattle.pm_made.specs.declared.intent.Intent.TheVariants as intents
use Rattle.pm_made.specs.declared.newest.Newest.{Newest}

-- by what it is for
abbrev pub IsDeltaFor : Intent → Delta → Type 0
IsDeltaFor (intents.Compact plan) d = d ≡ delta_of_plan plan
IsDeltaFor other d = Unit {0}

pub delta-for : (s : TableSchema) (newest : Newest) (names left : Naming) (intent : Intent) (d : Delta) (made : List CommitFile) → HasDelta s newest names intent d made left
    → IsDeltaFor intent d
delta-for s newest names _ _ _ _ (appends batch xs numbered) = tt
delta-for s newest names _ _ _ _ (compacts plan) = refl
delta-for s newest names _ _ _ _ (fences number) = tt
