use Rattle.std.proofs.Common.{◌≡◌, [], ◌∷◌, ◌++◌, ap, sym, ◌∙◌, append_assoc}
use Rattle.std.proofs.lemmas.Result.{err_from_is_err_and}
use Rattle.std.specs.Vec.Iter.{into_iter_items}
use Rattle.indexmap.specs.IndexMap.{get}
use Rattle.pm_manifest.specs.FileId.{id_eq}
use Rattle.pm_manifest.proofs.LiveLemmas.{follows-left, AreInOrder-push, Leaves-append, Refuses-here}
use Rattle.pm_manifest.proofs.live.fold_entries.Goals as goal

pub loop-entry-preserved : goal.loop-entry-preserved
loop-entry-preserved c =
    let before = get id_eq c.args.live.now in
    let mid = get id_eq c.loop-entry.live in
    let done = c.loop-entry.yielded in
    let entry = c.in-Some.entry in
    let rest = into_iter_items c.next.new.self in
    let inv = c.loop-entry.invariant in
    let follows = (follows-left before done mid entry inv.left).0 c.in_ok-fold_entry.ensures.follows in
    record {
      joined = append_assoc done (entry ∷ []) rest ∙ ap (λ es. done ++ es) (sym c.in-Some.ensures.steps.0) ∙ inv.joined;
      order = AreInOrder-push before done entry inv.order follows;
      left = Leaves-append before done (entry ∷ []) mid (get id_eq c.fold_entry.new.live) inv.left c.in_ok-fold_entry.ensures.left;
    }

pub returns-in_err-fold_entry-clause-refused : goal.returns-in_err-fold_entry-clause-refused
returns-in_err-fold_entry-clause-refused c =
    let before = get id_eq c.args.live.now in
    let mid = get id_eq c.loop-entry.live in
    let after = get id_eq c.fold_entry.new.live in
    let done = c.loop-entry.yielded in
    let entry = c.in-Some.entry in
    let rest = into_iter_items c.next.new.self in
    let inv = c.loop-entry.invariant in
    let joined : done ++ entry ∷ rest ≡ c.args.entries.items = ap (λ es. done ++ es) (sym c.in-Some.ensures.steps.0) ∙ inv.joined in
    let p = err_from_is_err_and c.from_residual.result c.from_residual.ensures.1 in
    rw (p.1, p.2)
    (Refuses-here before c.args.path.now done entry rest c.args.entries.items mid after c.in_err-fold_entry.field-0.0 joined inv.order inv.left
    c.in_err-fold_entry.ensures.kept c.in_err-fold_entry.ensures.refused)
