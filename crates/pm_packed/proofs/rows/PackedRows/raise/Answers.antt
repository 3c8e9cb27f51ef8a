use Rattle.std.proofs.Common.{ℕ, List, ◌<◌, length, get_or, subst, sym, ap, ◌∙◌}
use Rattle.std.specs.List.{slice_set}
use Rattle.std.proofs.lemmas.List.{length-map}
use Rattle.pm_values.specs.declared.record.Stamped.{Stamped}
use Rattle.pm_row_slots.specs.Slot.{raised}
use Rattle.pm_packed.specs.Rows.{row_at, rows_at}
use Rattle.pm_packed.specs.declared.rows.Place.{Place}
use Rattle.pm_packed.proofs.RowLemmas.{number-at, rows-raised}
use Rattle.pm_packed.proofs.rows.PackedRows.raise.Goals as goal

pub returns : goal.returns
returns c = λ none.
    let b : List ℕ = c.self.inside.bytes.items in
    let places : List Place = c.self.inside.places.items in
    let i : ℕ = c.args.index in
    let j : ℕ = c.args.other in
    let own : Place = c.index-place.result.now in
    let another : Place = c.index.result.now in
    let as_many = sym (ap (λ (ss : List Stamped). length ss) c.self.view_is) ∙ length-map places (row_at b) in
    rows-raised b places i another.head.seq own c.raised_place.result none (subst (λ (n : ℕ). i < n) as_many c.requires.index) c.index-place.ensures c.raised_place.ensures
    ∙ ap (λ (n : ℕ). slice_set (rows_at b places) i (raised n (get_or (rows_at b places) i none))) (number-at b places j another none (subst (λ (n : ℕ). j < n) as_many c.requires.other) c.index.ensures)
    ∙ ap (λ (ss : List Stamped). slice_set ss i (raised (get_or ss j none).seq (get_or ss i none))) c.self.view_is
