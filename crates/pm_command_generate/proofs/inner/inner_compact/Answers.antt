use Rattle.std.proofs.Common.{false, [], ◌≡◌, Some, refl, ap}
use Rattle.std.specs.Result.{result_err}
use Rattle.pm_io.specs.Memory.{sink_view}
use Rattle.pm_words.specs.declared.command.Command.TheVariants as commands
use Rattle.pm_command.specs.Outside.{Outside, outside}
use Rattle.pm_io.specs.Source.{SourceView}
use Rattle.pm_command_compact.proofs.CompactLaws.{compacted_answers, compacted_serves}
use Rattle.pm_command_generate.proofs.inner.inner_compact.Goals as goal

pub returns-clause-run : goal.returns-clause-run
returns-clause-run g c =
    let seen = g.F.FileStore.seen in
    let nothing : SourceView = record { left = Some []; faults = 0 } in
    let before : Outside = outside nothing (sink_view c.args.out.now) (seen c.args.store.now) in
    let after : Outside = outside nothing (sink_view c.run_compact.new.out) (seen c.run_compact.new.store) in
    let given : before.input.left ≡ Some [] = refl in
    record {
      inner = record {
        command = commands.Compact false;
        input = [];
        start = c.args.own.now;
        before = before;
        after = after;
        refusal = result_err c.run_compact.result;
      };
      is = record {
        command = refl;
        input = refl;
        start = refl;
        found = refl;
        given = given;
        out = ap Some c.requires;
        executed = (
          compacted_answers c.args.own.now false before after (result_err c.run_compact.result) c.run_compact.ensures.compacted,
          compacted_serves c.args.own.now false before after (result_err c.run_compact.result) c.run_compact.ensures.compacted,
        );
      };
      left = refl;
      printed = refl;
      refusal = refl;
    }
