use Rattle.std.proofs.Common.{Ok, subst, sym, ◌∙◌}
use Rattle.pm_commit.specs.Committer.{Begins, Makes, MayMake}
use Rattle.pm_commit.specs.Own.{OwnView}
use Rattle.pm_commit.specs.declared.phase.Phase.{Phase}
use Rattle.pm_commit.proofs.BeginLemmas.{begun-committer, plan-own}
use Rattle.pm_commit.proofs.committer.new_compaction.Goals as goal

pub make-requires : goal.make-requires
make-requires c =
    subst (λ (own : OwnView). MayMake own (record { schema = c.args.schema; newest = c.args.newest })) (sym c.of_plan-own.ensures) (record {
      own_of = plan-own c.args.schema c.args.author c.args.plan c.args.names c.requires.declared
          (c.requires.based.1 ∙ sym c.requires.based.0) c.requires.count;
      numbers = c.requires.numbers;
    })

pub new-requires : goal.new-requires
new-requires c =
    let begun : Begins c.args.schema c.args.newest c.args.author c.args.plan c.args.names c.in-Ok.phase =
    subst (λ (own : OwnView). Makes own (record { schema = c.args.schema; newest = c.args.newest }) (Ok c.in-Ok.phase)) c.of_plan-own.ensures c.in-Ok.ensures in
    let is = begun-committer c.args.schema c.args.newest c.args.author c.args.plan c.args.names c.in-Ok.phase
    (plan-own c.args.schema c.args.author c.args.plan c.args.names c.requires.declared (c.requires.based.1 ∙ sym c.requires.based.0) c.requires.count) begun in
    is.0

pub returns-in-Ok-clause-begins : goal.returns-in-Ok-clause-begins
returns-in-Ok-clause-begins c =
    let begun : Begins c.args.schema c.args.newest c.args.author c.args.plan c.args.names c.in-Ok.phase =
    subst (λ (own : OwnView). Makes own (record { schema = c.args.schema; newest = c.args.newest }) (Ok c.in-Ok.phase)) c.of_plan-own.ensures c.in-Ok.ensures in
    subst (λ (m : Phase). Begins c.args.schema c.args.newest c.args.author c.args.plan c.args.names m) (sym c.new.ensures) begun
