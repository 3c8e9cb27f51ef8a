use Rattle.std.proofs.Common.{◌≡◌, Some, rules}
use Rattle.pm_values.specs.declared.refusal.Refusal.{Refusal}
use Rattle.pm_model_contents.specs.Lists.{manifest_path}
use Rattle.pm_read_table.specs.declared.phase.Phase.{Phase}
use Rattle.pm_read_table.proofs.AfterLemmas.{delta_goes, delta_shown, if_ok, if_err}
use Rattle.pm_read_table.proofs.after.after_delta.Goals as goal

pub returns-in-Ok-read_list-clause-goes : goal.returns-in-Ok-read_list-clause-goes
returns-in-Ok-read_list-clause-goes c =
    let at : c.as_str.result.now ≡ manifest_path c.args.snapshot.delta_list = search rules in
    let is : c.args.found ≡ Some c.in-Some.bytes = search rules in
    if_ok c.after_lists.result _ _
    (λ (later : Phase) starts. delta_goes c.args.sought c.args.snapshot c.args.base c.args.found c.as_str.result.now c.in-Some.bytes
    c.in-Ok-read_list.delta.items later at is c.in-Ok-read_list.ensures starts)
    c.after_lists.ensures.goes

pub returns-in-Ok-read_list-clause-refuses : goal.returns-in-Ok-read_list-clause-refuses
returns-in-Ok-read_list-clause-refuses c =
    if_err c.after_lists.result _ _
    (λ (refusal : Refusal) memory. delta_shown c.args.sought c.args.snapshot c.args.base c.args.found refusal memory)
    c.after_lists.ensures.memory
