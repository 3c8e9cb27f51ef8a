use Rattle.std.proofs.Common.{◌≡◌, true, false, sym, ap, ◌∙◌}
use Rattle.pm_engine.specs.Covers.{row_of}
use Rattle.pm_run_bytes.specs.declared.place.WrittenPlace.{WrittenPlace}
use Rattle.pm_compact.proofs.RewriteLemmas.{one_kept}
use Rattle.pm_compact.proofs.rewriting.write_placed.Goals as goal
use Rattle.pm_compact.proofs.rewriting.write_placed.Goals.{else-drop-via-then-drop+else-is_droppable, else-drop-via-else-drop}

-- the row is kept
pub returns-clause-more : goal.returns-clause-more
returns-clause-more g c = λ s limit level marker rows x stands has hand.
    let m = g.E.MergeEngine.meaning c.args.engine.now in
    let keeps : c.args.drop ≡ true → m.drops (row_of x) ≡ false =
    elim c.else-drop.branch [
      | else-drop-via-then-drop+else-is_droppable w ↦ λ drops. sym (w.is_droppable.ensures x (ap (λ (p : WrittenPlace). p.slot) w.deref.ensures ∙ stands)) ∙ w.if-is_droppable.false
      | else-drop-via-else-drop w ↦ λ drops. let no : false ≡ true = sym w.if-drop.false ∙ drops in cc
    ] in
    rw (one_kept m c.args.drop x keeps) (c.in_ok-full.ensures.more s limit level marker rows x stands has hand)
