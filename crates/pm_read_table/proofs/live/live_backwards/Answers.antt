use Rattle.std.proofs.Common.{◌≡◌, [], ◌∷◌, ◌++◌, ap, sym, ◌∙◌, append_assoc, reverse, subst}
use Rattle.std.proofs.lemmas.List.{reverse-append}
use Rattle.std.specs.Vec.Iter.{into_iter_items}
use Rattle.indexmap.specs.IndexMap.{get}
use Rattle.pm_manifest.specs.FileId.{id_eq}
use Rattle.pm_read_table.specs.View.{HaveIds, live_entries}
use Rattle.pm_read_table.proofs.live.live_backwards.Goals as goal

pub loop-entry-preserved : goal.loop-entry-preserved
loop-entry-preserved c =
    let done = c.loop-entry.yielded in
    let entry = c.in-Some.entry in
    let rest = into_iter_items c.next.new.self in
    let inv = c.loop-entry.invariant in
    let back : reverse (done ++ entry ∷ []) ≡ entry ∷ reverse done = reverse-append done (entry ∷ []) in
    let both = c.in_ok-take_before.ensures (reverse done) inv.have inv.live in
    record {
      joined = append_assoc done (entry ∷ []) rest ∙ ap (λ es. done ++ es) (sym c.in-Some.ensures.steps.0) ∙ inv.joined;
      have = subst (HaveIds (get id_eq c.take_before.new.later)) (sym back) both.0;
      live = ap live_entries back ∙ both.1;
    }
