use Rattle.std.proofs.Common.{Some, refl, sym, ap, subst, ◌∙◌, arith}
use Rattle.std.proofs.lemmas.Bool.Decides.{nat_tests}
use Rattle.pm_run.specs.Form.{Form}
use Rattle.pm_run_bytes.specs.Lying.{HasContentOf}
use Rattle.pm_run_bytes.specs.declared.place.WrittenPlace.{WrittenPlace}
use Rattle.pm_run_writer.proofs.WrittenLemmas.{in_hand_more}
use Rattle.pm_run_writer.proofs.run_writer.RunWriter.put.Goals as goal

pub write_row-requires-clause-room : goal.write_row-requires-clause-room
write_row-requires-clause-room c = omega (arith, c.requires.ready.room, c.requires.ready.begun.bits)

pub returns-clause-more : goal.returns-clause-more
returns-clause-more c = λ s limit level marker rows x stands has hand.
    let slot = ap (λ (p : WrittenPlace). p.slot) c.deref.ensures ∙ stands in
    let known = subst (λ (f : Form). HasContentOf f (Some x) c.args.place.now.value.content) (sym hand.writer.form) has in
    in_hand_more s limit level marker rows c.args.self.now hand x _ c.requires.ready.room refl refl refl
    (λ some begun. c.in_ok-write_row.ensures.begun marker some x slot (rw c.deref.ensures known) begun)
    (λ some summary. c.in_ok-write_row.ensures.summary some x slot summary)
    (ap (λ b. b.value.slot) c.swap.ensures.x_after ∙ stands)

pub returns-clause-full : goal.returns-clause-full
returns-clause-full c = λ is s limit level marker rows hand.
    let count = hand.summary.count in
    let limited = hand.limited in
    let within = hand.within in
    grind (arith, nat_tests)
