use Rattle.std.proofs.Common.{List, [], ◌∷◌, ◌++◌, drop, subst, sym, ap, ◌∙◌}
use Rattle.std.specs.List.{AllByRecursion}
use Rattle.pm_values.specs.declared.record.Stamped.{Stamped}
use Rattle.pm_packed.specs.Rows.{IsRowCode, IsWhole, rows_at}
use Rattle.pm_packed.specs.declared.rows.Place.{Place}
use Rattle.pm_packed.proofs.RowLemmas.{on_err_from, all_whole-grown, all_whole-push, rows-grown, rows-push}
use Rattle.pm_packed.proofs.rows.PackedRows.push.Goals as goal

pub invariant_of-self-in_err-start : goal.invariant_of-self-in_err-start
invariant_of-self-in_err-start c =
    subst (AllByRecursion (IsWhole c.add_code.new.bytes.items)) (sym c.in_ok-try_reserve.ensures.items)
    (all_whole-grown c.self.inside.bytes.items c.add_code.new.bytes.items c.self.inside.places.items c.add_code.ensures.grows c.self.invariant)

pub returns-in_err-start-clause-kept : goal.returns-in_err-start-clause-kept
returns-in_err-start-clause-kept c = on_err_from c.from_residual-in_err-start.result
    (ap (rows_at c.add_code.new.bytes.items) c.in_ok-try_reserve.ensures.items
    ∙ rows-grown c.self.inside.bytes.items c.add_code.new.bytes.items c.self.inside.places.items c.add_code.ensures.grows c.self.invariant
    ∙ c.self.view_is)

pub invariant_of-self-2 : goal.invariant_of-self-2
invariant_of-self-2 c =
    let p : Place = record { start = c.in_ok-start.start; head = c.in_ok-packed.packed.head } in
    let places = c.push_reserved.ensures.items ∙ ap (λ (ps : List Place). ps ++ p ∷ []) c.in_ok-try_reserve.ensures.items in
    subst (AllByRecursion (IsWhole c.add_code.new.bytes.items)) (sym places)
    (all_whole-push c.self.inside.bytes.items c.add_code.new.bytes.items c.split_at.result.1.now c.self.inside.places.items c.args.row.now p c.add_code.ensures.grows c.self.invariant (subst (IsRowCode c.args.row.now p.head) (sym (c.split_at.ensures.back ∙ ap (drop c.in_ok-packed.packed.offset) c.deref.ensures.value)) c.in_ok-packed.ensures.code) c.in_ok-start.ensures.lies)

pub returns-clause-added : goal.returns-clause-added
returns-clause-added c =
    let p : Place = record { start = c.in_ok-start.start; head = c.in_ok-packed.packed.head } in
    let places = c.push_reserved.ensures.items ∙ ap (λ (ps : List Place). ps ++ p ∷ []) c.in_ok-try_reserve.ensures.items in
    ap (rows_at c.add_code.new.bytes.items) places
    ∙ rows-push c.self.inside.bytes.items c.add_code.new.bytes.items c.split_at.result.1.now c.self.inside.places.items c.args.row.now p c.add_code.ensures.grows c.self.invariant (subst (IsRowCode c.args.row.now p.head) (sym (c.split_at.ensures.back ∙ ap (drop c.in_ok-packed.packed.offset) c.deref.ensures.value)) c.in_ok-packed.ensures.code) c.in_ok-start.ensures.lies
    ∙ ap (λ (ss : List Stamped). ss ++ c.args.row.now ∷ []) c.self.view_is
