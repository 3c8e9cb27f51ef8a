use Rattle.std.proofs.Common.{◌≡◌, List, [], refl, rules, subst, sym}
use Rattle.pm_read_frame.specs.Reader.{ReadsOn}
use Rattle.pm_read_frame.specs.declared.file.ChangesFile.{ChangesFile}
use Rattle.pm_read_frame.specs.declared.phase.Phase.TheVariants as phases
use Rattle.pm_read_frame.proofs.after.begin.Goals as goal

pub returns-in_ok-text-in-None-clause-goes : goal.returns-in_ok-text-in-None-clause-goes
returns-in_ok-text-in-None-clause-goes c =
    let none : c.args.left.items ≡ [] = search rules in
    let text = c.in_ok-text-in-None.text in
    subst (λ (left : List ChangesFile). ReadsOn c.args.schema c.args.id [] left (phases.Ready c.args.id text)) (sym none)
    (text, c.in_ok-text-in-None.ensures c.args.schema, refl)
