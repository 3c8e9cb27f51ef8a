-- Private: what is printed of the next row.
use Rattle.std.specs.Prelude.{◌≡◌, ℕ, List, ◌++◌, option_to_list, Bool, Option, is_some}
use Rattle.pm_values.specs.declared.record.Stamped.{Stamped}
use Rattle.pm_engine.specs.Meaning.{Meaning}
use Rattle.pm_merge.specs.Merging.{GivesOne, HasLeft}
use Rattle.pm_merge.specs.Source.{Rest}
use Rattle.pm_merge.specs.declared.merging.Merging.{Merging}
use Rattle.pm_scan_rows.specs.Stored.{rest_of}
use Rattle.pm_scan_rows.specs.declared.rows.StoredRows.{StoredRows}
use Rattle.pm_scan_rows.specs.Shown.{lines_of, only_shown}

-- Private: the row of a place, which is seen as it
abbrev pub held : Option Stamped → Option Stamped
held row = row

-- Private: runs that are merged
abbrev pub Merged : Type 0
Merged = Merging (Option Stamped) StoredRows

-- Private: of the rests the next row was given, if there is one, and its line was added, if it shows
abbrev pub PrintsNext : Meaning → Merged → Merged → List ℕ → List ℕ → Bool → Type 0
PrintsNext m old new before after is = (rests : List Rest) → HasLeft m held rest_of old rests
    → (next : Option Stamped) × (left : List Rest) × GivesOne m rests next left × HasLeft m held rest_of new left
    × (is ≡ is_some next) × (after ≡ before ++ lines_of (only_shown m (option_to_list next)))
