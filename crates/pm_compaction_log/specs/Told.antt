-- What is told of a key by its stored rows: the older one, if there is one, and the newer one upon it.
use Rattle.std.specs.Prelude.{◌≡◌, List, [], ◌∷◌, ◌++◌, map, Bool, Option, Some, None, if◌then◌else◌}
use Rattle.pm_values.specs.Order.{Values}
use Rattle.pm_values.specs.declared.record.Change.{Change}
use Rattle.pm_model_history.specs.Merge.{HistoryRow}
use Rattle.pm_model_following.specs.Following.{told}
use Rattle.pm_engine.specs.Meaning.{Meaning, SpeaksFor}
use Rattle.pm_engine.specs.Stored.{as_row}
use Rattle.pm_engine.specs.declared.stored.Stored.{Stored}

-- the row that a key shows, by the stored row that it has, if it has one
abbrev pub shown_by : Meaning → Option Stored → Option Values
shown_by m None = None
shown_by m (Some v) = if m.shows (as_row v ∷ []) then Some v.row else None

-- the changes of a key that tell rows
abbrev pub changes_of : Values → List HistoryRow → List Change
changes_of key rows = map (λ (r : HistoryRow). record { key = key; kind = r.0; row = r.1 }) rows

-- the stored row of a key speaks for these rows of it; a key without one has no rows
abbrev pub HasStored : Meaning → Values → Option Stored → List HistoryRow → Type 0
HasStored m key None rows = rows ≡ []
HasStored m key (Some v) rows = SpeaksFor m key (as_row v) rows

-- a newer stored row that is put upon the older one, if there is one: it speaks for what both speak for
abbrev pub IsUpon : Meaning → Option Stored → Stored → Stored → Type 0
IsUpon m None newer now = now ≡ newer
IsUpon m (Some older) newer now = (key : Values) (before after : List HistoryRow)
    → SpeaksFor m key (as_row older) before → SpeaksFor m key (as_row newer) after
    → SpeaksFor m key (as_row now) (before ++ after)

-- the stored row of a key by runs and by others upon them, each of which has one of it or none
abbrev pub IsOneOf : Meaning → Option Stored → Option Stored → Option Stored → Type 0
IsOneOf m older None one = one ≡ older
IsOneOf m older (Some newer) one = (now : Stored) × IsUpon m older newer now × (one ≡ Some now)

-- what is told of a key: what it showed with the older row, and what it shows with the newer one upon it
abbrev pub Tells : Meaning → Bool → Values → Option Stored → Stored → List Change → Type 0
Tells m equal_out key older newer more = (now : Stored) × IsUpon m older newer now
    × (more ≡ changes_of key (told equal_out (shown_by m older) (shown_by m (Some now))))

-- these changes were added to a log
abbrev pub Adds : (List Change → Type 0) → List Change → List Change → Type 0
Adds AreMore old new = (more : List Change) × (new ≡ old ++ more) × AreMore more
