use Rattle.std.proofs.Common.{refl}
use Rattle.pm_row_slots.specs.Slot.{placed_row}
use Rattle.pm_run_writer.proofs.BegunLemmas.{begun_more}
use Rattle.pm_run_writer.proofs.begun_file.BegunFile.add.Goals as goal

pub returns-clause-begun : goal.returns-clause-begun
returns-clause-begun c = λ marker rows begun.
    begun_more c.args.form.now marker rows (placed_row c.args.row) c.make_room.new.self _ (c.in_ok-make_room.ensures.begun c.args.form.now marker rows begun)
    c.in_ok-add_row.ensures.added c.in_ok-add_row.ensures.writable refl refl refl
