-- A newer stored row upon an older one, and what is told by an answer.
use Rattle.std.proofs.Common.{◌≡◌, List, [], ◌++◌, IfOk, OnOk, Some, Result, Ok, Err, refl, sym, subst}
use Rattle.pm_values.specs.Order.{Values}
use Rattle.pm_values.specs.declared.record.Stamped.{Stamped}
use Rattle.pm_model_history.specs.Merge.{HistoryRow}
use Rattle.pm_engine.specs.Meaning.{Meaning, SpeaksFor}
use Rattle.pm_engine.specs.Needed.{IsNeeded}
use Rattle.pm_engine.specs.Stored.{as_row}
use Rattle.pm_engine.specs.declared.needed.Needed.TheVariants.{Older, Newer}
use Rattle.pm_engine.specs.declared.stored.Stored.{Stored}
use Rattle.pm_compaction_log.specs.Told.{IsUpon}

-- what follows from an answer's value follows of the answer
pub on-ok : {T E P Q : Type 0} (r : Result T E) → OnOk r P → (P → Q) → OnOk r Q
on-ok (Ok x) p f = f p
on-ok (Err e) p f = tt

-- a stored row with no key and no number of its own
abbrev stamped : Stored → Stamped
stamped v = record { key = []; seq = 0; kind = v.kind; row = v.row }

pub upon-newer : (m : Meaning) (older newer : Stored) → IsNeeded m Newer → IsUpon m (Some older) newer newer
upon-newer m older newer needed = λ key before after one two. (needed (stamped older) (stamped newer) refl).speaks key before after one two

pub upon-older : (m : Meaning) (older newer : Stored) → IsNeeded m Older → IsUpon m (Some older) newer older
upon-older m older newer needed = λ key before after one two. (needed (stamped older) (stamped newer) refl).speaks key before after one two

-- `combines` of an engine
pub upon-both : {E : Type 0} (m : Meaning) (older newer : Stored) (r : Result Stored E)
    → ((key : Values) (before after : List HistoryRow) → SpeaksFor m key (as_row older) before → SpeaksFor m key (as_row newer) after → IfOk r (λ (v : Stored). SpeaksFor m key (as_row v) (before ++ after)))
    → IfOk r (λ (v : Stored). IsUpon m (Some older) newer v)
upon-both m older newer (Ok v) combines = combines
upon-both m older newer (Err e) combines = tt

pub upon-copy : {E : Type 0} (m : Meaning) (older newer : Stored) (r : Result Stored E) → IfOk r (λ (v : Stored). v ≡ older) → IsUpon m (Some older) newer older
    → IfOk r (λ (v : Stored). IsUpon m (Some older) newer v)
upon-copy m older newer (Ok v) same upon = subst (λ (w : Stored). IsUpon m (Some older) newer w) (sym same) upon
upon-copy m older newer (Err e) same upon = tt
