use Rattle.std.proofs.Common.{refl}
use Rattle.pm_run.specs.Row.{row_data}
use Rattle.pm_run_writer.proofs.BegunLemmas.{adds_after, begun_more}
use Rattle.pm_run_writer.proofs.begun_file.BegunFile.add_written.Goals as goal

pub returns-clause-begun : goal.returns-clause-begun
returns-clause-begun c = λ f marker rows x writable added begun.
    begun_more f marker rows x c.make_room.new.self _ (c.in_ok-make_room.ensures.begun f marker rows begun)
    (adds_after (row_data f x) _ _ c.args.content.now c.in_ok-extend_from_slice.ensures.items added) writable refl refl refl
