use Rattle.std.proofs.Common.{◌≡◌, ◌∷◌, None, sym, ap, subst, ◌∙◌}
use Rattle.std.specs.Vec.Iter.{into_iter_items}
use Rattle.pm_run.specs.Reader.{RunView, StillGives}
use Rattle.pm_run.specs.Rows.{opened_as}
use Rattle.pm_run_reader.proofs.FindLemmas.{next_found}
use Rattle.pm_run_reader.proofs.reader.RunReader.next_in_file.Goals as goal

pub returns-in-Ok-Some-clause-next : goal.returns-in-Ok-Some-clause-next
returns-in-Ok-Some-clause-next c =
    let own = c.self.inside in
    let v : RunView = record {
      opened = opened_as own.path own.rows.form own.rows.changes own.file;
      left = into_iter_items own.left;
      refusal = own.refusal;
      last = own.last;
      next = own.next;
      over = own.over;
    } in
    let begun = ap (λ (w : RunView). w.over) c.self.view_is ∙ c.requires.over in
    let left = ap (λ (w : RunView). w.left) c.self.view_is ∙ c.requires.none in
    let refusal : own.refusal ≡ None = sym c.take.ensures.value ∙ c.in_default.is in
    let found = rw c.as_str.ensures at (rw c.in-Ok-Some.field-0-is at c.in-Ok-Some.ensures) in (
      begun,
      λ rows end g. subst (λ (w : RunView). StillGives w (c.in-Ok-Some.found.first ∷ rows) end) c.self.view_is
          (next_found v c.in-Ok-Some.found own.over left refusal begun found rows end g),
    )
