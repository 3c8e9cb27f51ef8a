use Rattle.std.proofs.Common.{◌≡◌, Some, sym, subst, ◌∙◌}
use Rattle.std.proofs.lemmas.Result.{err_from_is_err_and}
use Rattle.pm_values.specs.declared.record.Stamped.{Stamped}
use Rattle.pm_model_following.specs.Following.{leaves_out_equal}
use Rattle.pm_lookup.specs.Lookup.{stored_part}
use Rattle.pm_compaction_log.specs.Told.{Adds, Tells}
use Rattle.pm_compaction_log.proofs.PlaceLemmas.{some-same}
use Rattle.pm_compaction_log.proofs.full.tell_beside.Goals as goal

-- an older row isn't known
pub returns-in_err-found-clause-memory : goal.returns-in_err-found-clause-memory
returns-in_err-found-clause-memory g c =
    let p = err_from_is_err_and c.from_residual.result c.from_residual.ensures.1 in
    rw (p.1, p.2) (λ x rests is are judged. c.in_err-found.ensures.memory x rests (c.deref.ensures ∙ is) are judged)

-- a row stood in the place
pub returns-in_default-clause-tells : goal.returns-in_default-clause-tells
returns-in_default-clause-tells g c = λ x rests is are. absurd (c.in_default.not-Some x (c.in_ok-row.ensures.row ∙ c.deref_mut.ensures.value ∙ is))

-- its key may come next
pub tell-requires : goal.tell-requires
tell-requires g c =
    let taken : c.args.slot.now.value ≡ Some c.in-Some.row = sym c.deref_mut.ensures.value ∙ sym c.in_ok-row.ensures.row ∙ c.in-Some.is in
    c.requires c.in-Some.row taken

pub returns-clause-tells : goal.returns-clause-tells
returns-clause-tells g c = λ x rests is are.
    let m = g.E.MergeEngine.meaning c.args.engine.now in
    let s = c.args.schema.now in
    let taken : c.args.slot.now.value ≡ Some c.in-Some.row = sym c.deref_mut.ensures.value ∙ sym c.in_ok-row.ensures.row ∙ c.in-Some.is in
    let same = some-same c.in-Some.row x (sym taken ∙ is) in
    let (left, are_now, finds) = c.in_ok-found.ensures.finds x rests (c.deref.ensures ∙ is) are in
    let adds = rw c.leaves_out_equal-equal_out.ensures at c.in_ok-tell.ensures in (
      c.in_ok-found.found,
      left,
      are_now,
      finds,
      subst (λ (y : Stamped). Adds (Tells m (leaves_out_equal s s.options.engine) y.key c.in_ok-found.found (stored_part y)) c.args.log.now c.tell.new.log) same adds,
    )
