use Rattle.std.proofs.Common.{◌≡◌, All, List, Some, None, refl, subst, sym, ◌∙◌}
use Rattle.std.proofs.lemmas.Result.{err_from_is_err_and}
use Rattle.pm_engine.specs.Covers.{IsRising}
use Rattle.pm_merge.specs.Merge.{IsMerge, runs_of}
use Rattle.pm_merge.specs.Merging.{HasLeft, rests_of}
use Rattle.pm_merge.specs.Source.{Rest, rest_in_memory}
use Rattle.pm_merge.proofs.MergingLemmas.{runs_back}
use Rattle.pm_merge.proofs.RefusalLemmas.{whole_none}
use Rattle.pm_merge.proofs.merge.merged.Goals as goal

-- no row yet
pub loop-slot-init : goal.loop-slot-init
loop-slot-init g c =
    let m = g.E.MergeEngine.meaning c.args.engine.now in
    let rests = rests_of (runs_of c.args.older_first.items) in
    record {
      given = rw c.in_ok-run.ensures.items
          (rests, refl, subst (λ (rs : List Rest). HasLeft m (λ s. s) rest_in_memory c.in_ok-merging.merging rs) c.in_ok-sources_of.ensures (c.in_ok-merging.ensures.left m));
      none = c.in_ok-slot.ensures.ok ∙ c.new.ensures;
    }

-- one row more
pub loop-slot-preserved : goal.loop-slot-preserved
loop-slot-preserved g c =
    let m = g.E.MergeEngine.meaning c.args.engine.now in
    let taken : c.fill.new.slot.value ≡ Some c.in-Some.row = sym c.deref_mut.ensures.value ∙ sym c.in_ok-row.ensures.row ∙ c.in-Some.is in
    let (left, given, has) = c.loop-slot.invariant.given in
    let (later, gives, new) = c.in_ok-fill.ensures.gives left has in
    record {
      given = rw c.in_ok-push-in-Some.ensures.items
          (later, c.given_law.ensures.more m (rests_of (runs_of c.args.older_first.items)) left later c.loop-slot.run.items c.in-Some.row given (rw taken at gives), new);
      none = c.in_ok-row.ensures.none;
    }

-- all rows
pub returns-in-None-clause-merged : goal.returns-in-None-clause-merged
returns-in-None-clause-merged g c =
    let m = g.E.MergeEngine.meaning c.args.engine.now in
    let runs = runs_of c.args.older_first.items in
    let none : c.fill.new.slot.value ≡ None = sym c.deref_mut.ensures.value ∙ sym c.in_ok-row.ensures.row ∙ c.in-None.is in
    let (left, given, has) = c.loop-slot.invariant.given in
    let (later, gives, new) = c.in_ok-fill.ensures.gives left has in
    let ended = rw none at gives in
    subst (λ rs. IsMerge m rs c.loop-slot.run.items) (runs_back runs)
    (c.given_law.ensures.all m (rests_of runs) left c.loop-slot.run.items (subst (All IsRising) (sym (runs_back runs)) c.requires) given ended.0)

-- rows in memory have no refusal
pub returns-in_err-fill-clause-memory : goal.returns-in_err-fill-clause-memory
returns-in_err-fill-clause-memory g c =
    let m = g.E.MergeEngine.meaning c.args.engine.now in
    let runs = runs_of c.args.older_first.items in
    let p = err_from_is_err_and c.from_residual-in_err-fill.result c.from_residual-in_err-fill.ensures.1 in
    let e = c.in_err-fill.field-0.0 in
    let (left, given, has) = c.loop-slot.invariant.given in
    rw (p.1, p.2)
    (c.given_law.ensures.memory m (rests_of runs) left c.loop-slot.run.items e given (whole_none runs) (λ other. c.in_err-fill.ensures.refuses other left has))
