use Rattle.std.proofs.Common.{refl, ap, ◌∙◌}
use Rattle.pm_run_bytes.specs.declared.place.WrittenPlace.{WrittenPlace}
use Rattle.pm_run_writer.specs.Written.{IsWriterOf}
use Rattle.pm_run_writer.proofs.WrittenLemmas.{in_hand_none}
use Rattle.pm_run_writer.proofs.run_writer.RunWriter.begin.Goals as goal

pub returns-clause-none : goal.returns-clause-none
returns-clause-none c =
    let writer : IsWriterOf c.args.schema.now c.in_ok-writer.writer = record { form = c.in_ok-writer.ensures.form; id = c.in_ok-writer.ensures.id } in
    in_hand_none c.args.schema.now c.args.limit c.args.level c.args.names.now.session _ writer c.in_ok-writer.ensures.differ refl refl
    (rw c.session.ensures at (c.in_ok-file.ensures.begun c.args.schema.now writer)) c.none.ensures (ap (λ (p : WrittenPlace). p.slot) c.in_ok-new.ensures.ok ∙ c.no_row.ensures)
