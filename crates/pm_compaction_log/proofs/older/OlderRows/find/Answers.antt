use Rattle.std.proofs.Common.{◌∷◌, [], ◌++◌, Option, Some, None, option_map, refl, ap, ◌∙◌, arith}
use Rattle.std.specs.declared.cmp.Ordering.TheVariants.{Less, Equal, Greater}
use Rattle.std.proofs.lemmas.Result.{err_from_is_err_and}
use Rattle.pm_values.specs.declared.record.Stamped.{Stamped}
use Rattle.pm_row_slots.specs.Slot.{OrdersFirst}
use Rattle.pm_merge.specs.Merging.{HasLeft}
use Rattle.pm_lookup.specs.Lookup.{stored_part}
use Rattle.pm_compaction_log.specs.Older.{held}
use Rattle.pm_compaction_log.proofs.OlderLemmas.{below-append, meets, one-stands, passes, stands-above, stands-beside}
use Rattle.pm_compaction_log.proofs.older.OlderRows.find.Goals as goal

pub loop-self-init : goal.loop-self-init
loop-self-init g c = record { so_far = λ x rests is left. ([], rests, tt, refl, left) }

-- the next row isn't known
pub returns-in_err-ready-clause-memory : goal.returns-in_err-ready-clause-memory
returns-in_err-ready-clause-memory g c =
    let m = g.E.MergeEngine.meaning c.args.engine.now in
    let p = err_from_is_err_and c.from_residual.result c.from_residual.ensures.1 in
    let e = c.in_err-ready.field-0.0 in
    rw (p.1, p.2)
    (λ x rests is first judged.
    let (passed, left, below, gave, are) = c.loop-self.invariant.so_far x rests is first in
    c.given_law.ensures.memory m rests left passed e gave judged (λ other. c.in_err-ready.ensures.refuses other left are))

-- a row with a lower key is given up
pub loop-self-preserved : goal.loop-self-preserved
loop-self-preserved g c = record {
  so_far = λ x rests is first.
      let m = g.E.MergeEngine.meaning c.args.engine.now in
      let (passed, left, below, gave, are) = c.loop-self.invariant.so_far x rests is first in
      let now = c.in_ok-ready.ensures.left left are in
      let order : OrdersFirst c.ready.new.self.first.value (Some x) (Some Less) = rw (c.in-Some-Less.field-0-is, c.deref.ensures, is) at c.in-Some-Less.ensures in
      let (y, later, stands, least, has, less) = passes m (HasLeft m held g.S.RowSource.rest c.ready.new.self.merging) left x c.ready.new.self.first.value order now.0 in (
        passed ++ y ∷ [],
        later,
        below-append x.key passed (y ∷ []) below (less, tt),
        c.given_law.ensures.more m rests left later passed y gave least,
        rw c.clear.ensures has,
      );
}

pub loop-self-smaller : goal.loop-self-smaller
loop-self-smaller g c =
    let order : OrdersFirst c.ready.new.self.first.value c.args.newer.now (Some Less) = rw (c.in-Some-Less.field-0-is, c.deref.ensures) at c.in-Some-Less.ensures in
    let one = one-stands c.ready.new.self.first.value c.args.newer.now order in
    let fewer = c.in_ok-ready.ensures.fewer in
    rw c.clear.ensures (omega (arith, fewer, one))

-- the row with the key
pub returns-in-Some-Equal-clause-finds : goal.returns-in-Some-Equal-clause-finds
returns-in-Some-Equal-clause-finds g c = λ x rests is first.
    let m = g.E.MergeEngine.meaning c.args.engine.now in
    let (passed, left, below, gave, are) = c.loop-self.invariant.so_far x rests is first in
    let now = c.in_ok-ready.ensures.left left are in
    let order : OrdersFirst c.ready.new.self.first.value (Some x) (Some Equal) = rw (c.in-Some-Equal.field-0-is, c.deref.ensures, is) at c.in-Some-Equal.ensures in
    let (y, later, stands, least, has, same) = meets m (HasLeft m held g.S.RowSource.rest c.ready.new.self.merging) left x c.ready.new.self.first.value order now.0 in
    let got = c.in_ok-taken-in-Some-Equal.ensures.row ∙ ap (λ (p : Option Stamped). option_map stored_part p) (c.deref_mut-in-Some-Equal.ensures.value ∙ stands) in
    rw (got, c.in_ok-taken-in-Some-Equal.ensures.none) (later, has, (passed, below, y, left, gave, least, same, refl))

-- none with it
pub returns-in-Some-Greater-clause-finds : goal.returns-in-Some-Greater-clause-finds
returns-in-Some-Greater-clause-finds g c = λ x rests is first.
    let m = g.E.MergeEngine.meaning c.args.engine.now in
    let (passed, left, below, gave, are) = c.loop-self.invariant.so_far x rests is first in
    let now = c.in_ok-ready.ensures.left left are in
    let order : OrdersFirst c.ready.new.self.first.value (Some x) (Some Greater) = rw (c.in-Some-Greater.field-0-is, c.deref.ensures, is) at c.in-Some-Greater.ensures in
    let above = stands-above m (HasLeft m held g.S.RowSource.rest c.ready.new.self.merging) left x c.ready.new.self.first.value order now.0 now.1 in
    (left, now.0, (passed, below, gave, above))

pub returns-in-None-clause-finds : goal.returns-in-None-clause-finds
returns-in-None-clause-finds g c = λ x rests is first.
    let order : OrdersFirst c.ready.new.self.first.value (Some x) None = rw (c.deref.ensures, is) at c.in-None.ensures in
    absurd (stands-beside c.ready.new.self.first.value x order)
