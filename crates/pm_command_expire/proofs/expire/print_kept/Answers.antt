use Rattle.std.proofs.Common.{◌≡◌, ◌∷◌, [], ◌++◌, ◌∙◌, List, ℕ, None, ap, append_assoc, codes, decimal, subst}
use Rattle.std.specs.Result.{result_err}
use Rattle.pm_command.specs.Outside.{Prints}
use Rattle.pm_command_expire.specs.Expire.{kept_text}
use Rattle.pm_command_expire.proofs.expire.print_kept.Goals as goal

pub returns-clause-prints : goal.returns-clause-prints
returns-clause-prints g c =
    let seen = g.W.Sink.seen in
    let one = decimal c.args.kept.first in
    let other = decimal c.args.kept.last in
    let first : c.hold.new.self ≡ codes "kept " = c.hold.ensures ∙ ap (λ (l : List ℕ). l ++ codes "kept ") c.new-text.ensures in
    let second : c.hold-2.new.self ≡ codes "kept " ++ one =
    c.hold-2.ensures ∙ ap (λ (l : List ℕ). l ++ c.as_bytes.result.now) first
    ∙ ap (λ (l : List ℕ). codes "kept " ++ l) (c.as_bytes.ensures.value ∙ c.format.ensures.text) in
    let third : c.hold-3.new.self ≡ codes "kept " ++ (one ++ codes " ") =
    c.hold-3.ensures ∙ ap (λ (l : List ℕ). l ++ codes " ") second ∙ append_assoc (codes "kept ") one (codes " ") in
    let fourth : c.hold-4.new.self ≡ codes "kept " ++ (one ++ (codes " " ++ other)) =
    c.hold-4.ensures ∙ ap (λ (l : List ℕ). l ++ c.as_bytes-2.result.now) third
    ∙ append_assoc (codes "kept ") (one ++ codes " ") c.as_bytes-2.result.now
    ∙ ap (λ (l : List ℕ). codes "kept " ++ l) (append_assoc one (codes " ") c.as_bytes-2.result.now)
    ∙ ap (λ (l : List ℕ). codes "kept " ++ (one ++ (codes " " ++ l))) (c.as_bytes-2.ensures.value ∙ c.format-2.ensures.text) in
    let whole : c.bytes.result.now ≡ kept_text c.args.kept =
    c.bytes.ensures ∙ c.hold-5.ensures ∙ ap (λ (l : List ℕ). l ++ 10 ∷ []) fourth in
    subst (λ (text : List ℕ). Prints text None None (seen c.args.out.now) (seen c.print.new.out) (result_err c.print.result)) whole c.print.ensures.prints
