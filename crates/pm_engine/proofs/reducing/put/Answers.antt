use Rattle.std.proofs.Common.{◌≡◌, ℕ, ◌+◌, ◌-◌, [], ◌∷◌, ◌++◌, List, IfSome, None, Some, false, take, drop, get_or, refl, ap, sym, subst, ◌∙◌, arith}
use Rattle.std.specs.List.{last_or}
use Rattle.std.specs.Ordering.{eq_by_cmp, is_eq}
use Rattle.std.specs.declared.cmp.Ordering.{Ordering}
use Rattle.std.specs.declared.cmp.Ordering.TheVariants.{Less, Equal, Greater}
use Rattle.pm_base.proofs.Laws.{last_or-push}
use Rattle.pm_values.specs.Order.{key_cmp}
use Rattle.pm_values.specs.declared.record.Stamped.{Stamped}
use Rattle.pm_engine.specs.Covers.{Run}
use Rattle.pm_engine.specs.Meaning.{Meaning}
use Rattle.pm_engine.specs.Reducing.{EndsApart, Puts, begins, joins}
use Rattle.pm_engine.proofs.reducing.put.Goals as goal

-- a key that doesn't tie
other_key : (o : Ordering) → (o ≡ Equal → ⊥) → is_eq o ≡ false
other_key Less other = refl
other_key Equal other = absurd (other refl)
other_key Greater other = refl

-- the row goes to the last one
pub returns-in_ok-combined-in-Equal-clause-puts : goal.returns-in_ok-combined-in-Equal-clause-puts
returns-in_ok-combined-in-Equal-clause-puts g c = λ none.
    let rows : List Stamped = c.args.rows.now in
    let last : Stamped = c.args.last in
    let stored = c.in_ok-stored.stored in
    let lifted = c.in_ok-stored.ensures none in
    let same : key_cmp last.key (get_or rows c.args.index none).key ≡ Equal = ap (key_cmp last.key) (sym lifted.same_key) ∙ sym c.cmp.ensures ∙ c.in-Equal.is in
    joins (take c.args.count rows) last stored c.in_ok-combined-in-Equal.field-0 refl (ap is_eq same) lifted c.in_ok-combined-in-Equal.ensures

-- the row comes after another key, whose row is kept
pub returns-in_ok-keep-in_default : goal.returns-in_ok-keep-in_default
returns-in_ok-keep-in_default g c =
    record {
      puts = λ none. puts none;
      before = omega (arith, c.requires.before);
      later = later;
      as_many = c.in_ok-keep-in_default.ensures.as_many;
    }
  where
    m : Meaning
    m = g.E.MergeEngine.meaning c.args.engine.now

    old : Run
    old = take c.args.count c.args.rows.now ++ c.args.last ∷ []

    one : Stamped → Stamped
    one none = get_or c.args.rows.now c.args.index none

    puts : (none : Stamped) → Puts m old (one none) (take (c.args.count + 1) c.keep.new.rows ++ c.in_ok-stored.stored ∷ [])
    puts none =
        let last : Stamped = c.args.last in
        let stored = c.in_ok-stored.stored in
        let lifted = c.in_ok-stored.ensures none in
        let key = ap (key_cmp last.key) lifted.same_key in
        let other : eq_by_cmp key_cmp last.key (one none).key ≡ false = ap is_eq (sym key) ∙ other_key (key_cmp last.key stored.key) (λ e. c.in_default.not-Equal (c.cmp.ensures ∙ e)) in
        let ends : last_or None old ≡ Some last = last_or-push None (take c.args.count c.args.rows.now) last in
        let apart : EndsApart old (one none).key = subst (λ o. IfSome o (λ (s : Stamped). eq_by_cmp key_cmp s.key (one none).key ≡ false)) (sym ends) other in
        subst (λ (front : Run). Puts m old (one none) (front ++ stored ∷ [])) (sym {A = Run} c.in_ok-keep-in_default.ensures.front) (begins stored lifted apart)

    later : drop c.args.index c.keep.new.rows ≡ drop c.args.index c.args.rows.now
    later =
        let at : c.args.index - 1 + 1 ≡ c.args.index = omega (arith, c.requires.before) in
        subst (λ (k : ℕ). drop k c.keep.new.rows ≡ drop k c.args.rows.now) at c.in_ok-keep-in_default.ensures.later
