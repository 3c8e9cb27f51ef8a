use Rattle.std.proofs.Common.{◌≡◌, ◌≢◌, IfErr}
use Rattle.pm_values.specs.declared.refusal.Refusal.TheVariants.{Memory}
use Rattle.pm_engine.specs.OfSchema.{meaning_of}
use Rattle.pm_merge.specs.Merging.{rests_of}
use Rattle.pm_compact.specs.Rewritten.{RefusesAfter}
use Rattle.pm_plan.proofs.MakeLemmas.{err-only, only-memory}
use Rattle.pm_plan.proofs.planned.Planned.make.Goals as goal

pub returns-clause-files : goal.returns-clause-files
returns-clause-files c = rw c.in_ok-engine.ensures.meaning at (rw c.in_ok-rows.ensures.rests at c.rewrite.ensures.files)

-- what was read has no refusal
pub returns-clause-memory : goal.returns-clause-memory
returns-clause-memory c =
    let m = meaning_of c.args.self.now.schema in
    let refuses : IfErr c.rewrite.result (λ e. e ≢ Memory → RefusesAfter m (rests_of c.args.runs.now) e) =
    rw c.in_ok-engine.ensures.meaning at (rw c.in_ok-rows.ensures.rests at c.rewrite.ensures.refuses) in
    err-only c.rewrite.result (λ e. e ≢ Memory → RefusesAfter m (rests_of c.args.runs.now) e) (λ e. e ≡ Memory)
    (only-memory c.given_law.ensures.memory m c.args.runs.now) refuses
