use Rattle.std.proofs.Common.{ℕ, List, ◌<◌, length, get_or, subst, sym, ap, ◌∙◌}
use Rattle.std.specs.List.{slice_set}
use Rattle.pm_values.specs.declared.record.Stamped.{Stamped}
use Rattle.pm_packed.specs.Rows.{row_at, rows_at}
use Rattle.pm_packed.specs.declared.rows.Place.{Place}
use Rattle.std.proofs.lemmas.List.{length-map}
use Rattle.pm_packed.proofs.RowLemmas.{rows-copied}
use Rattle.pm_packed.proofs.rows.PackedRows.copy_back.Goals as goal

pub returns : goal.returns
returns c = λ none.
    let b : List ℕ = c.self.inside.bytes.items in
    let places : List Place = c.self.inside.places.items in
    let place : Place = c.index.result.now in
    ap (λ (p : Place). rows_at b (slice_set places c.args.to p)) c.index.ensures
    ∙ rows-copied b places c.args.to c.args.from place none (subst (λ (n : ℕ). c.args.from < n) (sym (ap length c.self.view_is) ∙ length-map places (row_at b)) c.requires.within)
    ∙ ap (λ (ss : List Stamped). slice_set ss c.args.to (get_or ss c.args.from none)) c.self.view_is
