use Rattle.std.proofs.Common.{◌≡◌, Option, is_none, true, false, sym, ap, ◌∙◌}
use Rattle.std.proofs.lemmas.Result.{err_from_is_err_and}
use Rattle.pm_values.specs.declared.record.Stamped.{Stamped}
use Rattle.pm_merge.specs.Merging.{HasLeft}
use Rattle.pm_compaction_log.specs.Older.{held}
use Rattle.pm_compaction_log.proofs.OlderLemmas.{first-stands}
use Rattle.pm_compaction_log.proofs.PlaceLemmas.{none-stands}
use Rattle.pm_compaction_log.proofs.older.OlderRows.ready.Goals as goal

-- one stands there
pub returns-then-not-is_none-clause-left : goal.returns-then-not-is_none-clause-left
returns-then-not-is_none-clause-left g c = λ rests are.
    let some : is_none c.args.self.now.first.value ≡ false = ap (λ (p : Option Stamped). is_none p) (sym c.deref.ensures) ∙ sym c.is_none.ensures ∙ c.if-not-is_none.true in
    (are, λ none. let bad : true ≡ false = ap (λ (p : Option Stamped). is_none p) (sym none) ∙ some in cc)

-- none stands there
pub fill-requires : goal.fill-requires
fill-requires g c =
    none-stands c.args.self.now.first.value (ap (λ (p : Option Stamped). is_none p) (sym c.deref.ensures) ∙ sym c.is_none.ensures ∙ c.if-not-is_none.false)

pub returns-clause-left : goal.returns-clause-left
returns-clause-left g c = λ rests are.
    let m = g.E.MergeEngine.meaning c.args.engine.now in
    let none = none-stands c.args.self.now.first.value (ap (λ (p : Option Stamped). is_none p) (sym c.deref.ensures) ∙ sym c.is_none.ensures ∙ c.if-not-is_none.false) in
    let has = rw none at are in
    let (left, gives, new) = c.in_ok-fill.ensures.gives rests has in
    first-stands m (HasLeft m held g.S.RowSource.rest c.fill.new.self) rests c.fill.new.slot.value left gives new

pub returns-in_err-fill-clause-refuses : goal.returns-in_err-fill-clause-refuses
returns-in_err-fill-clause-refuses g c =
    let p = err_from_is_err_and c.from_residual.result c.from_residual.ensures.1 in
    let none = none-stands c.args.self.now.first.value (ap (λ (p : Option Stamped). is_none p) (sym c.deref.ensures) ∙ sym c.is_none.ensures ∙ c.if-not-is_none.false) in
    rw (p.1, p.2) (λ other rests are. c.in_err-fill.ensures.refuses other rests (rw none at are))
