-- Older runs, of which a key's row is found by the way, as keys are asked for that rise.
use Rattle.std.specs.Prelude.{◌≡◌, ◌⊎◌, ◌+◌, ℕ, List, Option, None, Some, length, option_to_list}
use Rattle.std.specs.List.{AllByRecursion}
use Rattle.std.specs.declared.cmp.Ordering.TheVariants.{Less}
use Rattle.pm_values.specs.Order.{Values, key_cmp}
use Rattle.pm_values.specs.declared.record.Stamped.{Stamped}
use Rattle.pm_engine.specs.Covers.{Run}
use Rattle.pm_engine.specs.Meaning.{Meaning}
use Rattle.pm_engine.specs.declared.stored.Stored.{Stored}
use Rattle.pm_merge.specs.Merging.{GaveFirst, GivesAll, GivesLeast, HasLeft, HaveNoRow, rows_left}
use Rattle.pm_merge.specs.Source.{Rest}
use Rattle.pm_lookup.specs.Lookup.{stored_part}
use Rattle.pm_compaction_log.specs.declared.older.OlderRows.{OlderRows}

-- the rows have keys below this one
abbrev pub AreBelow : Values → Run → Type 0
AreBelow key rows = AllByRecursion (λ (x : Stamped). key_cmp x.key key ≡ Less) rows

-- Private: the row of a place, which is seen as it
abbrev pub held : Option Stamped → Option Stamped
held row = row

-- Private: what the sources still give; their first row may stand in the place already
abbrev pub AreLeft : {S : Type 0} → Meaning → (S → Rest) → OlderRows S → List Rest → Type 0
AreLeft m rest o rests = GaveFirst m (held o.first.value) (HasLeft m held rest o.merging) rests

-- Private: how many rows are left at most
abbrev pub most_left : {S : Type 0} → (S → Rest) → OlderRows S → ℕ
most_left rest o = length (option_to_list (held o.first.value)) + rows_left held rest o.merging

-- no row that is left has the key or a lower one
abbrev pub AreAbove : Meaning → Values → List Rest → Type 0
AreAbove m key rests = HaveNoRow rests
    ⊎ ((x : Stamped) × (later : List Rest) × GivesLeast m rests x later × (key_cmp key x.key ≡ Less))

-- What the rests have of a key, once the rows with lower keys were given: the row with the key, which is given too; or
-- none, and no row that is left has the key or a lower one.
abbrev pub FindsOlder : Meaning → Values → List Rest → Option Stored → List Rest → Type 0
FindsOlder m key rests None left = (passed : Run) × AreBelow key passed × GivesAll m rests passed left
    × AreAbove m key left
FindsOlder m key rests (Some v) left = (passed : Run) × AreBelow key passed × (x : Stamped) × (mid : List Rest)
    × GivesAll m rests passed mid × GivesLeast m mid x left × (x.key ≡ key) × (v ≡ stored_part x)
