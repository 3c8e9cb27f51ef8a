use Rattle.std.proofs.Common.{◌≡◌, sym, subst}
use Rattle.pm_values.specs.declared.record.Stamped.{Stamped}
use Rattle.pm_model_history.specs.declared.verdict.Verdict.TheVariants.{Take}
use Rattle.pm_engine.proofs.reducing.stored_at.Goals as goal

-- the kind of the row is taken
pub lifted-requires : goal.lifted-requires
lifted-requires g c =
    let none = c.in_ok-own.own in
    subst (λ (s : Stamped). (g.E.MergeEngine.meaning c.args.engine.now).verdict s.kind ≡ Take) (sym (c.in_ok-own.ensures none)) (c.requires.taken none)
