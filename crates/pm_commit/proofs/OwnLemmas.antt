-- What a commit is for.
use Rattle.std.proofs.Common.{◌≡◌, ℕ, ◌+◌, Bool, true, false, if◌then◌else◌, List, [], length, Option, None, Some}
use Rattle.pm_values.specs.declared.refusal.Refusal.{Refusal}
use Rattle.pm_values.specs.declared.refusal.Refusal.TheVariants as refusals
use Rattle.pm_model_history.specs.History.{Entry}
use Rattle.pm_schema.specs.declared.schema.TableSchema.{TableSchema}
use Rattle.pm_model_folder.specs.Changes.{Actor}
use Rattle.pm_model_folder.specs.Ledger.{Past}
use Rattle.pm_put.specs.declared.putting.CommitFile.{CommitFile}
use Rattle.pm_write.specs.Batch.{Groups}
use Rattle.pm_write.specs.Files.{no_sequence}
use Rattle.pm_made.specs.Intent.{Means}
use Rattle.pm_made.specs.Refusals.{above_files, above_id, above_numbers, is_fenced, no_files, no_id, passed, refusal_of}
use Rattle.pm_made.specs.declared.intent.Intent.{Intent}
use Rattle.pm_made.specs.declared.intent.Intent.TheVariants as intents
use Rattle.pm_made.specs.declared.newest.Author.{Author}
use Rattle.pm_made.specs.declared.newest.Newest.{Newest}
use Rattle.pm_commit.specs.Meaning.{PlannedIn}
use Rattle.pm_commit.specs.Own.{IsAppend, IsNoAppend}

-- ---- an append

-- it was given no files of rows
pub append-planned : (intent : Intent) (me : Actor) (base : ℕ) (given : List CommitFile) (p : Past) → IsAppend intent → given ≡ [] → PlannedIn intent me base given p
append-planned (intents.Append batch) me base given p is none = none
append-planned (intents.Compact plan) me base given p is none = absurd is
append-planned (intents.Fence number) me base given p is none = absurd is

-- its entry is the same with another base
pub based-means : (s : TableSchema) (author : Author) (base : ℕ) (intent : Intent) (e : Entry) → IsAppend intent → Means s author intent e
    → Means s (record author { base = base }) intent e
based-means s author base (intents.Append batch) e is means = means
based-means s author base (intents.Compact plan) e is means = absurd is
based-means s author base (intents.Fence number) e is means = absurd is

-- and takes no file away, so none was taken
not-it : (t : Bool) (one it : Refusal) (later : Option Refusal) → (one ≡ it → ⊥) → (later ≡ Some it → ⊥) → (if t then Some one else later) ≡ Some it → ⊥
not-it true one it later other none e = other (let same : one ≡ it = cc in same)
not-it false one it later other none e = none e

never-taken : (newest : Newest) (author : Author) (batch : Groups) (file : List ℕ)
    → refusal_of newest author (intents.Append batch) ≡ Some (refusals.CompactTaken file) → ⊥
never-taken newest author batch file =
    let it : Refusal = refusals.CompactTaken file in
    not-it (is_fenced newest author) (passed newest author) it _ (λ e. cc)
    (not-it (above_files (length newest.live.items + length batch)) no_files it _ (λ e. cc)
    (not-it (above_numbers newest.live.items batch) no_sequence it _ (λ e. cc)
    (not-it (above_id newest.id) no_id it None (λ e. cc) (λ e. cc))))

pub none-taken : (newest : Newest) (author : Author) (intent : Intent) (file : List ℕ) → refusal_of newest author intent ≡ Some (refusals.CompactTaken file)
    → IsNoAppend intent
none-taken newest author (intents.Append batch) file reason is = never-taken newest author batch file reason
none-taken newest author (intents.Compact plan) file reason is = is
none-taken newest author (intents.Fence number) file reason is = is
