use Rattle.std.proofs.Common.{◌≡◌, ◌∷◌, [], ◌++◌, ◌∙◌, List, ℕ, None, Some, ap, codes, decimal, subst}
use Rattle.std.specs.Result.{result_err}
use Rattle.pm_base.specs.Newline.{line}
use Rattle.pm_command.specs.Outside.{Prints}
use Rattle.pm_command.proofs.printing.print_snapshot.Goals as goal

pub returns-clause-prints : goal.returns-clause-prints
returns-clause-prints g c =
    let seen = g.W.Sink.seen in
    let first : c.hold.new.self ≡ codes "snapshot " = c.hold.ensures ∙ ap (λ (l : List ℕ). l ++ codes "snapshot ") c.new-text.ensures in
    let second : c.hold-2.new.self ≡ codes "snapshot " ++ decimal c.args.id =
    c.hold-2.ensures ∙ ap (λ (l : List ℕ). l ++ c.as_bytes.result.now) first
    ∙ ap (λ (l : List ℕ). codes "snapshot " ++ l) (c.as_bytes.ensures.value ∙ c.format-number.ensures.text) in
    let whole : c.bytes.result.now ≡ line (codes "snapshot " ++ decimal c.args.id) =
    c.bytes.ensures ∙ c.hold-3.ensures ∙ ap (λ (l : List ℕ). l ++ 10 ∷ []) second in
    subst (λ (text : List ℕ). Prints text (Some c.args.id) None (seen c.args.out.now) (seen c.print.new.out) (result_err c.print.result)) whole c.print.ensures.prints
