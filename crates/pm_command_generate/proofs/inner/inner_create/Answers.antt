use Rattle.std.proofs.Common.{◌≡◌, Some, refl, ap}
use Rattle.std.specs.Result.{result_err}
use Rattle.pm_io.specs.Memory.{source_view, sink_view}
use Rattle.pm_words.specs.declared.command.Command.TheVariants as commands
use Rattle.pm_command.specs.Outside.{Outside, outside}
use Rattle.pm_command_generate.proofs.inner.inner_create.Goals as goal

pub returns-clause-run : goal.returns-clause-run
returns-clause-run g c =
    let seen = g.F.FileStore.seen in
    let before : Outside = outside (source_view c.new-input.result) (sink_view c.args.out.now) (seen c.args.store.now) in
    let after : Outside = outside (source_view c.run_create.new.input) (sink_view c.run_create.new.out) (seen c.run_create.new.store) in
    let given : before.input.left ≡ Some c.args.draft.items = ap Some c.new-input.ensures.left in
    record {
      inner = record {
        command = commands.Create;
        input = c.args.draft.items;
        start = c.args.own.now;
        before = before;
        after = after;
        refusal = result_err c.run_create.result;
      };
      is = record {
        command = refl;
        input = refl;
        start = refl;
        found = refl;
        given = given;
        out = ap Some c.requires;
        executed = (c.run_create.ensures.command c.args.draft.items given, c.run_create.ensures.acts, c.run_create.ensures.history);
      };
      left = refl;
      printed = refl;
      refusal = refl;
    }
