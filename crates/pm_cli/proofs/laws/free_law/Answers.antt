use Rattle.pm_store.specs.Files.{Files}
use Rattle.pm_store.proofs.ImageLaws.{Extends-weaker}
use Rattle.pm_model_history.specs.History.{History}
use Rattle.pm_cli.specs.Promise.{MayMake, StandsForOthers}
use Rattle.pm_cli.specs.Start.{MayStart}
use Rattle.pm_cli.proofs.Common.{StandsForSomeFreely, leaves_weaker}
use Rattle.pm_cli.proofs.laws.free_law.Goals as goal

pub returns : goal.returns
returns c = λ e h first other command kept names new.
    let starts : (later : History) (f : Files) → StandsForOthers e h first later f → MayStart command other later f =
    λ later f stands. c.base_law.ensures.new command other later f (stands.free other names new) in (
      leaves_weaker (StandsForOthers e h first kept.later) (MayStart command other kept.later) e.after.store (starts kept.later) kept.ends,
      Extends-weaker (StandsForSomeFreely e h first) (λ f. (later : History) × MayMake e h later × MayStart command other later f)
          first.ops e.after.store.ops (λ f some. (some.0, some.1, starts some.0 f some.2)) kept.images,
    )
