-- A log to which a change is added.
use Rattle.std.proofs.Common.{◌≡◌, ◌≢◌, List, [], ◌∷◌, ◌++◌, true, not, OnErr, OnOk, Option, None, Some, Result, Ok, Err, refl, sym, subst}
use Rattle.std.specs.Ordering.{is_gt}
use Rattle.std.specs.declared.cmp.Ordering.{Ordering}
use Rattle.std.specs.declared.cmp.Ordering.TheVariants.{Less, Equal, Greater}
use Rattle.pm_values.specs.Order.{Values, key_cmp}
use Rattle.pm_values.specs.declared.record.Stamped.{Stamped}
use Rattle.pm_run.specs.Order.{are_in_order, may_follow}
use Rattle.pm_run.proofs.OrderLemmas.{both, in_order-first}
use Rattle.pm_changelog.specs.GroupLog.{AreOfLog, IsNext, without_numbers}

not-above : (o : Ordering) → o ≢ Greater → not (is_gt o) ≡ true
not-above Less n = refl
not-above Equal n = refl
not-above Greater n = absurd (n refl)

order-push : (before : Option Values) (rows : List Stamped) (x : Stamped) → may_follow true before x.key ≡ true → are_in_order true before rows ≡ true → IsNext (without_numbers rows) x.key
    → are_in_order true before (rows ++ x ∷ []) ≡ true
order-push before [] x first order next = both (may_follow true before x.key) true first refl
order-push before (y ∷ rows) x first order next =
    let parts = in_order-first true before y rows order in
    both (may_follow true before y.key) (are_in_order true (Some y.key) (rows ++ x ∷ [])) parts.0
    (order-push (Some y.key) rows x (not-above (key_cmp y.key x.key) next.0) parts.1 next.1)

of-log-push : (rows : List Stamped) (x : Stamped) → AreOfLog rows → IsNext (without_numbers rows) x.key → AreOfLog (rows ++ x ∷ [])
of-log-push rows x order next = order-push None rows x refl order next

-- one row more, or no change: it is a log
pub of-log-told : {T E : Type 0} (r : Result T E) (old new : List Stamped) (x : Stamped) → OnOk r (new ≡ old ++ x ∷ []) → OnErr r (new ≡ old) → AreOfLog old → IsNext (without_numbers old) x.key
    → AreOfLog new
of-log-told (Ok done) old new x added kept order next = subst AreOfLog (sym added) (of-log-push old x order next)
of-log-told (Err e) old new x added kept order next = subst AreOfLog (sym kept) order
