use Rattle.std.proofs.Common.{None, [], ◌≡◌, Some, refl, ap}
use Rattle.std.specs.Result.{result_err}
use Rattle.pm_io.specs.Memory.{sink_view}
use Rattle.pm_words.specs.declared.command.Command.TheVariants as commands
use Rattle.pm_command.specs.Outside.{Outside, outside}
use Rattle.pm_io.specs.Source.{SourceView}
use Rattle.pm_command_scan.proofs.ScanLaws.{scanned_answers, scanned_serves}
use Rattle.pm_command_generate.proofs.inner.inner_scan.Goals as goal

pub returns-clause-run : goal.returns-clause-run
returns-clause-run g c =
    let seen = g.F.FileStore.seen in
    let nothing : SourceView = record { left = Some []; faults = 0 } in
    let before : Outside = outside nothing (sink_view c.args.out.now) (seen c.args.store.now) in
    let after : Outside = outside nothing (sink_view c.run_scan.new.out) (seen c.run_scan.new.store) in
    let given : before.input.left ≡ Some [] = refl in
    record {
      inner = record {
        command = commands.Scan None;
        input = [];
        start = c.args.own.now;
        before = before;
        after = after;
        refusal = result_err c.run_scan.result;
      };
      is = record {
        command = refl;
        input = refl;
        start = refl;
        found = refl;
        given = given;
        out = ap Some c.requires;
        executed = (
          scanned_answers None before after (result_err c.run_scan.result) c.run_scan.ensures.scanned,
          scanned_serves None before after (result_err c.run_scan.result) c.run_scan.ensures.scanned,
        );
      };
      left = refl;
      printed = refl;
      refusal = refl;
    }
