use Rattle.std.proofs.Common.{List, drop, subst, sym, ap, ◌∙◌}
use Rattle.std.specs.List.{slice_set}
use Rattle.pm_values.specs.declared.record.Stamped.{Stamped}
use Rattle.pm_packed.specs.Rows.{IsRowCode}
use Rattle.pm_packed.specs.declared.rows.Place.{Place}
use Rattle.pm_packed.proofs.RowLemmas.{on_err_from, all_whole-grown, all_whole-set, rows-grown, rows-set}
use Rattle.pm_packed.proofs.rows.PackedRows.set.Goals as goal

pub invariant_of-self-in_err-start : goal.invariant_of-self-in_err-start
invariant_of-self-in_err-start c = all_whole-grown c.self.inside.bytes.items c.find_or_add.new.bytes.items c.self.inside.places.items c.find_or_add.ensures.grows c.self.invariant

pub returns-in_err-start-clause-kept : goal.returns-in_err-start-clause-kept
returns-in_err-start-clause-kept c = on_err_from c.from_residual-in_err-start.result
    (rows-grown c.self.inside.bytes.items c.find_or_add.new.bytes.items c.self.inside.places.items c.find_or_add.ensures.grows c.self.invariant
    ∙ c.self.view_is)

pub invariant_of-self-2 : goal.invariant_of-self-2
invariant_of-self-2 c =
    let p : Place = record { start = c.in_ok-start.start; head = c.in_ok-packed.packed.head } in
    all_whole-set c.self.inside.bytes.items c.find_or_add.new.bytes.items c.split_at.result.1.now c.self.inside.places.items c.args.index c.args.row.now p c.find_or_add.ensures.grows c.self.invariant (subst (IsRowCode c.args.row.now p.head) (sym (c.split_at.ensures.back ∙ ap (drop c.in_ok-packed.packed.offset) c.deref.ensures.value)) c.in_ok-packed.ensures.code) c.in_ok-start.ensures.lies

pub returns-clause-set : goal.returns-clause-set
returns-clause-set c =
    let p : Place = record { start = c.in_ok-start.start; head = c.in_ok-packed.packed.head } in
    rows-set c.self.inside.bytes.items c.find_or_add.new.bytes.items c.split_at.result.1.now c.self.inside.places.items c.args.index c.args.row.now p c.find_or_add.ensures.grows c.self.invariant (subst (IsRowCode c.args.row.now p.head) (sym (c.split_at.ensures.back ∙ ap (drop c.in_ok-packed.packed.offset) c.deref.ensures.value)) c.in_ok-packed.ensures.code) c.in_ok-start.ensures.lies
    ∙ ap (λ (ss : List Stamped). slice_set ss c.args.index c.args.row.now) c.self.view_is
