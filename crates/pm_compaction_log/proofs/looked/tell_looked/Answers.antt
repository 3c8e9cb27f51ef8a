use Rattle.std.proofs.Common.{◌≡◌, Some, Ok, Err, sym, subst, ◌∙◌}
use Rattle.std.proofs.lemmas.Result.{err_from_is_err_and}
use Rattle.pm_values.specs.declared.record.Stamped.{Stamped}
use Rattle.pm_model_following.specs.Following.{leaves_out_equal}
use Rattle.pm_lookup.specs.Lookup.{IsOldValue, looked_in, stored_part}
use Rattle.pm_compaction_log.specs.Told.{Adds, Tells}
use Rattle.pm_compaction_log.proofs.PlaceLemmas.{some-same}
use Rattle.pm_compaction_log.proofs.looked.tell_looked.Goals as goal

-- an older row isn't known
pub returns-in_err-near-clause-refuses : goal.returns-in_err-near-clause-refuses
returns-in_err-near-clause-refuses g c =
    let p = err_from_is_err_and c.from_residual.result c.from_residual.ensures.1 in
    rw (p.1, p.2) (λ other x rests is are judged. absurd (other (c.in_err-near.ensures.memory x rests (c.deref.ensures ∙ is) are judged)))

-- a row stood in the place
pub returns-in_default-clause-tells : goal.returns-in_default-clause-tells
returns-in_default-clause-tells g c = λ x rests is are. absurd (c.in_default.not-Some x (c.in_ok-row.ensures.row ∙ c.deref_mut.ensures.value ∙ is))

-- a file is looked in that doesn't read
pub returns-in_err-far-clause-refuses : goal.returns-in_err-far-clause-refuses
returns-in_err-far-clause-refuses g c =
    let m = g.E.MergeEngine.meaning c.args.engine.now in
    let s = c.args.schema.now in
    let p = err_from_is_err_and c.from_residual-in_err-far.result c.from_residual-in_err-far.ensures.1 in
    let e = c.in_err-far.field-0.0 in
    let taken : c.args.slot.now.value ≡ Some c.in-Some.row = sym c.deref_mut.ensures.value ∙ sym c.in_ok-row.ensures.row ∙ c.in-Some.is in
    rw (p.1, p.2)
    (λ other x rests is are judged.
    let same = some-same c.in-Some.row x (sym taken ∙ is) in
    subst (λ (y : Stamped). IsOldValue m s y.key (looked_in c.args.under.now) (Err e)) same c.in_err-far.ensures.old)

-- its key may come next
pub tell-requires : goal.tell-requires
tell-requires g c =
    let taken : c.args.slot.now.value ≡ Some c.in-Some.row = sym c.deref_mut.ensures.value ∙ sym c.in_ok-row.ensures.row ∙ c.in-Some.is in
    c.requires.next c.in-Some.row taken

pub returns-clause-tells : goal.returns-clause-tells
returns-clause-tells g c = λ x rests is are.
    let m = g.E.MergeEngine.meaning c.args.engine.now in
    let s = c.args.schema.now in
    let taken : c.args.slot.now.value ≡ Some c.in-Some.row = sym c.deref_mut.ensures.value ∙ sym c.in_ok-row.ensures.row ∙ c.in-Some.is in
    let same = some-same c.in-Some.row x (sym taken ∙ is) in
    let (left, are_now, finds) = c.in_ok-near.ensures.finds x rests (c.deref.ensures ∙ is) are in
    let looked = subst (λ (y : Stamped). IsOldValue m s y.key (looked_in c.args.under.now) (Ok c.in_ok-far.far)) same c.in_ok-far.ensures.old in
    let adds = rw c.leaves_out_equal-equal_out.ensures at c.in_ok-tell.ensures in (
      c.in_ok-old.old,
      left,
      are_now,
      (c.in_ok-far.far, c.in_ok-near.near, looked, finds, c.in_ok-old.ensures),
      subst (λ (y : Stamped). Adds (Tells m (leaves_out_equal s s.options.engine) y.key c.in_ok-old.old (stored_part y)) c.args.log.now c.tell.new.log) same adds,
    )
