-- Which of two stored rows is needed: the one that they are combined to, but for its number.
use Rattle.std.specs.Prelude.{◌≡◌, ℕ, max}
use Rattle.pm_values.specs.declared.record.Stamped.{Stamped}
use Rattle.pm_engine.specs.Meaning.{Meaning}
use Rattle.pm_engine.specs.Reducing.{IsCombined}
use Rattle.pm_engine.specs.declared.needed.Needed.{Needed}
use Rattle.pm_engine.specs.declared.needed.Needed.TheVariants.{Older, Newer, Both}

-- the stored row, with the number where this is greater than its own
abbrev pub raised : ℕ → Stamped → Stamped
raised number s = record { key = s.key; seq = max s.seq number; kind = s.kind; row = s.row }

-- of two stored rows of a key, whichever they are, the one that is needed is what they are combined to, with the
-- greater number of both; where both are needed, nothing is said
abbrev pub IsNeeded : Meaning → Needed → Type 0
IsNeeded m Older = (older newer : Stamped) → older.key ≡ newer.key → IsCombined m older newer (raised newer.seq older)
IsNeeded m Newer = (older newer : Stamped) → older.key ≡ newer.key → IsCombined m older newer (raised older.seq newer)
IsNeeded m Both = Unit {0}
