-- The search for an earlier commit of the same user.
use Rattle.std.specs.Prelude.{ℕ, int_lt, List, drop, reverse, not, Option, None, Some, if◌then◌else◌}
use Rattle.std.specs.Str.{bytes_eq}
use Rattle.pm_snapshot.specs.declared.snapshot.Snapshot.{Snapshot}
use Rattle.pm_made.specs.declared.newest.Author.{Author}
use Rattle.pm_commit.specs.declared.search.Seen.{Seen}
use Rattle.pm_commit.specs.declared.search.Seen.TheVariants as seen
use Rattle.pm_commit.specs.declared.found.Found.{Found}

-- what a snapshot says of a commit: it is another user's; or the same user's, with a smaller identifier or not
abbrev pub seen_of : Author → Snapshot → Seen
seen_of author x = if not (bytes_eq x.user author.user) then seen.Other
    else if int_lt x.ident author.identifier then seen.Below else seen.Reached

-- and what the newest one does; the origin is nobody's
abbrev pub seen_in : Author → Option Snapshot → Seen
seen_in author None = seen.Other
seen_in author (Some x) = seen_of author x

-- the snapshots below the newest, falling, of all that were listed, rising
abbrev pub older_ids : List ℕ → List ℕ
older_ids listed = drop 1 (reverse listed)

-- a search in older snapshots: what the try found, the next of them, and those after it
pub record SearchingView : Type 0 where
  pub found : Found
  pub id : ℕ
  pub left : List ℕ

abbrev pub searching_of : Found → ℕ → List ℕ → SearchingView
searching_of found id left = record { found = found; id = id; left = left }
