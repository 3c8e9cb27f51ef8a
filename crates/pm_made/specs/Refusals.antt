-- Why a commit is refused, the first reason first.
use Rattle.std.specs.Prelude.{ℕ, ◌+◌, ◌-◌, ℤ, pos, negsuc, int_le, nat_le, nat_lt, List, [], ◌∷◌, length, max, codes, not, Bool, Option, Some, None, if◌then◌else◌, cond}
use Rattle.std.specs.List.{find, list_any}
use Rattle.std.specs.Ordering.{eq_by_cmp}
use Rattle.pm_values.specs.GroupOrder.{group_cmp}
use Rattle.pm_values.specs.declared.group.Group.{Group}
use Rattle.pm_values.specs.declared.refusal.Refusal.{Refusal}
use Rattle.pm_values.specs.declared.refusal.Refusal.TheVariants as refusals
use Rattle.pm_snapshot.specs.Names.{greatest}
use Rattle.pm_snapshot.specs.declared.snapshot.Snapshot.{Snapshot}
use Rattle.pm_manifest.specs.declared.entry.Entry.{Entry}
use Rattle.pm_run.specs.Row.{most_sequence}
use Rattle.pm_write.specs.Batch.{GroupRows, Groups}
use Rattle.pm_write.specs.Files.{no_sequence}
use Rattle.pm_made.specs.Delta.{is_of_any}
use Rattle.pm_made.specs.Intent.{batch_of, removed_of}
use Rattle.pm_made.specs.declared.intent.Intent.{Intent}
use Rattle.pm_made.specs.declared.intent.Intent.TheVariants as intents
use Rattle.pm_made.specs.declared.newest.Author.{Author}
use Rattle.pm_made.specs.declared.newest.Newest.{Newest}

-- ---- the fence

-- the fence of a snapshot, -1 for the origin
abbrev pub fence_of : Option Snapshot → ℤ
fence_of None = negsuc 0
fence_of (Some x) = x.fence

-- the base is at most the fence
abbrev pub is_fenced : Newest → Author → Bool
is_fenced newest author = int_le (pos author.base) (fence_of newest.snapshot)

abbrev pub passed : Newest → Author → Refusal
passed newest author = refusals.Fenced author.base (fence_of newest.snapshot)

-- ---- files that are live no more

-- the first of the files that are to go that isn't live
abbrev pub first_not_live : List Entry → List Entry → Option Entry
first_not_live live removed = find (λ (e : Entry). not (is_of_any live e)) removed

abbrev pub not_live : Entry → Refusal
not_live e = refusals.CompactTaken e.file.name

-- ---- limits

-- the greatest number of live files
abbrev pub most_live : ℕ
most_live = 10000

-- how many files are live after a commit, of so many
abbrev pub live_count : ℕ → Intent → ℕ
live_count live (intents.Append batch) = live + length batch
live_count live (intents.Compact plan) = live - length plan.removed.items + length plan.added.items
live_count live (intents.Fence number) = live

abbrev pub above_files : ℕ → Bool
above_files count = nat_lt most_live count

abbrev pub no_files : Refusal
no_files = refusals.Limit (codes "live-files") most_live

-- the number from which a group's next rows are counted: 1 above the greatest of its live files' numbers, or 0
abbrev pub next_number : List Entry → Group → ℕ
next_number [] g = 0
next_number (e ∷ live) g =
    cond (eq_by_cmp group_cmp e.group g) (max (e.file.max_seq + 1) (next_number live g)) (next_number live g)

-- the rows of some group of the batch need a number above the greatest
abbrev pub above_numbers : List Entry → Groups → Bool
above_numbers live batch =
    list_any (λ (e : Group × GroupRows). nat_lt (most_sequence + 1) (next_number live e.0 + e.1.count)) batch

-- the id after this one is above the greatest
abbrev pub above_id : ℕ → Bool
above_id id = nat_le greatest id

abbrev pub no_id : Refusal
no_id = refusals.Limit (codes "snapshot-id") greatest

-- the first limit that would be exceeded, if there is one
abbrev pub limit_of : Newest → Intent → Option Refusal
limit_of newest intent =
    if above_files (live_count (length newest.live.items) intent) then Some no_files
    else if above_numbers newest.live.items (batch_of intent) then Some no_sequence
    else if above_id newest.id then Some no_id
    else None

-- ---- all of them

-- a file that is live no more comes before a limit
abbrev pub not_live_or : Option Entry → Option Refusal → Option Refusal
not_live_or (Some e) limit = Some (not_live e)
not_live_or None limit = limit

-- the first reason, if there is one: the fence, a file that is live no more, a limit
abbrev pub refusal_of : Newest → Author → Intent → Option Refusal
refusal_of newest author intent =
    if is_fenced newest author then Some (passed newest author)
    else not_live_or (first_not_live newest.live.items (removed_of intent)) (limit_of newest intent)
