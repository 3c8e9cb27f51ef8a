use Rattle.std.proofs.Common.{refl, sym, true≢false}
use Rattle.pm_expire_paths.proofs.DroppingLemmas.{found, not_found}
use Rattle.pm_expire_paths.proofs.dropping.has.Goals as goal

pub returns-in-Ok : goal.returns-in-Ok
returns-in-Ok c = (
  λ is. found c.args.sorted.now c.args.path.now c.in-Ok.field-0 c.in-Ok.ensures.bound (c.in-Ok.ensures.ok c.args.path.now),
  λ among. refl,
)

pub returns-in-Err : goal.returns-in-Err
returns-in-Err c = (
  λ is. absurd (true≢false (sym is)),
  λ among. absurd (not_found c.args.sorted.now c.args.path.now c.in-Err.field-0 c.requires c.in-Err.ensures.position among),
)
