use Rattle.std.proofs.Common.{sym, ap, ◌∙◌}
use Rattle.pm_store.specs.Files.{some_name, name_after}
use Rattle.pm_store.proofs.NameLaws.{name_after-prefix, name_after-other, some_name-some, some_name-none, prefix_stripped}
use Rattle.pm_store.proofs.names.name_after.Goals as goal

pub returns-in_err-rest : goal.returns-in_err-rest
returns-in_err-rest c = rw c.from_residual.ensures (sym (name_after-other c.args.prefix.now c.args.path.now c.in_err-rest.ensures.cases))

pub returns-then-is_empty : goal.returns-then-is_empty
returns-then-is_empty c =
    sym (some_name-none c.first_part-name.result.now c.if-is_empty.ensures)
    ∙ ap some_name c.first_part-name.ensures
    ∙ sym (name_after-prefix c.args.prefix.now c.in_ok-rest.rest.now)
    ∙ ap (name_after c.args.prefix.now) (prefix_stripped _ _ _ c.in_ok-rest.ensures.cases)

pub returns-else-is_empty : goal.returns-else-is_empty
returns-else-is_empty c =
    sym (some_name-some c.first_part-name.result.now c.if-is_empty.ensures)
    ∙ ap some_name c.first_part-name.ensures
    ∙ sym (name_after-prefix c.args.prefix.now c.in_ok-rest.rest.now)
    ∙ ap (name_after c.args.prefix.now) (prefix_stripped _ _ _ c.in_ok-rest.ensures.cases)
