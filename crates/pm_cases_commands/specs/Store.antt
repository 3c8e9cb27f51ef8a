-- What contracts see of a case's store.
use Rattle.std.specs.Prelude.{ℕ, None, Err}
use Rattle.pm_store.specs.Answers.{Tells}
use Rattle.pm_store.specs.Store.{StoreView}
use Rattle.pm_store.specs.declared.answer.Answer.{Answer}
use Rattle.pm_store.specs.declared.call.Call.{Call}
use Rattle.pm_store.specs.declared.store.StoreFail.{StoreFail}

-- its operations aren't known, and its faults are counted
abbrev pub case_seen : ℕ → StoreView
case_seen faults = record { ops = None; faults = faults }

-- a call may fail with this
abbrev pub Refuses : Call → StoreView → StoreView → StoreFail → Type 0
Refuses call before after e = Tells call (λ (answer : Answer). answer) before after (Err e)
