-- What the answers of a store's calls say.
use Rattle.std.specs.Prelude.{◌≡◌, ◌≢◌, ℕ, List, Option, None, Some, Result, Ok, Err}
use Rattle.std.specs.Cmp.Lexicographic.{slice_cmp}
use Rattle.std.specs.FinMap as map
use Rattle.std.specs.List.Sorted.{IsStrictlySortedBy}
use Rattle.std.specs.Ordering.{nat_cmp}
use Rattle.pm_base.specs.Faults.{Rose}
use Rattle.pm_store.specs.declared.answer.Answer.{Answer}
use Rattle.pm_store.specs.declared.answer.Answer.TheVariants as answers
use Rattle.pm_store.specs.declared.answer.Made.{Made}
use Rattle.pm_store.specs.declared.answer.Made.TheVariants as made
use Rattle.pm_store.specs.declared.answer.Published.{Published}
use Rattle.pm_store.specs.declared.answer.Removed.{Removed}
use Rattle.pm_store.specs.declared.answer.Swapped.{Swapped}
use Rattle.pm_store.specs.declared.answer.Published.TheVariants as published
use Rattle.pm_store.specs.declared.answer.Removed.TheVariants as removed
use Rattle.pm_store.specs.declared.answer.Swapped.TheVariants as swaps
use Rattle.pm_store.specs.declared.call.Call.{Call}
use Rattle.pm_store.specs.declared.call.Call.TheVariants as calls
use Rattle.pm_store.specs.declared.call.Effect.{Effect}
use Rattle.pm_store.specs.declared.call.Effect.TheVariants as effects
use Rattle.pm_store.specs.declared.store.StoreFail.{StoreFail}
use Rattle.pm_store.specs.declared.store.StoreFail.TheVariants.{Memory, Failed}
use Rattle.pm_store.specs.Files.{Files, files_after, IsListing, Puts}
use Rattle.pm_store.specs.Store.{StoreView, Meanwhile, Steps, own_op, whole}

-- what a create answers at a path with this content
abbrev pub made_at : Option (List ℕ) → Made
made_at None = made.Created
made_at (Some found) = made.Exists

-- what a publish answers at a path with this content, after a path with that one
abbrev pub published_at : Option (List ℕ) → Option (List ℕ) → Published
published_at (Some found) after = published.Exists
published_at None None = published.AfterGone
published_at None (Some present) = published.Created

-- what a swap from the expected content answers at a path with this content
abbrev pub Swaps : Option (List ℕ) → Option (List ℕ) → Swapped → Type 0
Swaps expected found swaps.Swapped = found ≡ expected
Swaps expected found (swaps.Differs other) = (found ≡ other) × (other ≢ expected)

-- what a remove answers at a path with this content
abbrev pub removed_at : Option (List ℕ) → Removed
removed_at (Some found) = removed.Removed
removed_at None = removed.Absent

-- what a call answers where it is carried out on these files
abbrev pub Answers : Call → Answer → Files → Type 0
Answers (calls.List folder) (answers.Listed names) files = IsListing folder names.items files
Answers (calls.Read path) (answers.Found found) files = found ≡ map.get files path
Answers (calls.Create path bytes) (answers.Made answer) files = answer ≡ made_at (map.get files path)
Answers (calls.Publish after path bytes) (answers.Published answer) files =
    answer ≡ published_at (map.get files path) (map.get files after)
Answers (calls.Swap path expected bytes) (answers.Swapped answer) files = Swaps expected (map.get files path) answer
Answers (calls.Remove path) (answers.Removed answer) files = answer ≡ removed_at (map.get files path)
Answers call other files = ⊥

-- What an answer says of the files after the call: the path of a change has its content, and any other answer means
-- that nothing changed.
abbrev pub Changed : Call → Answer → Files → Files → Type 0
Changed (calls.Create path bytes) (answers.Made made.Created) files after = Puts files path (Some bytes) after
Changed (calls.Publish other path bytes) (answers.Published published.Created) files after =
    Puts files path (Some bytes) after
Changed (calls.Swap path expected bytes) (answers.Swapped swaps.Swapped) files after =
    Puts files path (Some bytes) after
Changed (calls.Remove path) (answers.Removed removed.Removed) files after = Puts files path None after
Changed call other files after = (path : List ℕ) → map.get after path ≡ map.get files path

-- an answer that a call may give, whatever the files are
abbrev pub MayAnswer : Call → Answer → Type 0
MayAnswer (calls.List folder) (answers.Listed names) = IsStrictlySortedBy (slice_cmp nat_cmp) names.items
MayAnswer (calls.Read path) (answers.Found found) = Unit {0}
MayAnswer (calls.Create path bytes) (answers.Made answer) = Unit {0}
MayAnswer (calls.Publish after path bytes) (answers.Published answer) = Unit {0}
MayAnswer (calls.Swap path expected bytes) (answers.Swapped swaps.Swapped) = Unit {0}
MayAnswer (calls.Swap path expected bytes) (answers.Swapped (swaps.Differs found)) = found ≢ expected
MayAnswer (calls.Remove path) (answers.Removed answer) = Unit {0}
MayAnswer call other = ⊥

-- how much of a call may have been carried out where it failed: nothing, all, or a part of a create of an absent path
abbrev pub MayHave : Call → Effect → Files → Type 0
MayHave (calls.Create path bytes) (effects.Part found) files = map.get files path ≡ None
MayHave call (effects.Part found) files = ⊥
MayHave call effect files = Unit {0}

-- the call came as an operation with some effect that it may have
abbrev pub StepsInPart : Call → StoreView → StoreView → Type 0
StepsInPart call before after =
    (effect : Effect)
    × Steps (own_op call effect) (λ ops. MayHave call effect (files_after ops)) before after

-- What a call says, its answer seen by view: it came as one operation, and its answer is that of the files before it. A
-- fault leaves open how much of it was carried out, and its count rose; out of memory, it was not made.
abbrev pub Tells : {X : Type 0} → Call → (X → Answer) → StoreView → StoreView → Result X StoreFail → Type 0
Tells call view before after (Ok x) =
    Steps (whole call) (λ ops. Answers call (view x) (files_after ops)) before after × MayAnswer call (view x)
Tells call view before after (Err Failed) = StepsInPart call before after × Rose before.faults after.faults
Tells call view before after (Err Memory) = Meanwhile before after
