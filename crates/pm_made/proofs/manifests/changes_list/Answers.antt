use Rattle.std.proofs.Common.{◌≡◌, ◌≢◌, [], ◌∷◌, length, Some, sym, ap, subst, append-nil, arith}
use Rattle.std.proofs.lemmas.Bool.Decides.{nat_tests}
use Rattle.std.proofs.lemmas.List.{nil_from_length}
use Rattle.pm_values.specs.Names.{Naming}
use Rattle.pm_made.specs.Files.{HasChangesList, no_list, one_list}
use Rattle.pm_made.proofs.manifests.changes_list.Goals as goal

pub returns-then-is_empty-clause-made : goal.returns-then-is_empty-clause-made
returns-then-is_empty-clause-made c =
    let metas = c.args.metas.now in
    let test = c.if-is_empty.ensures in
    let none : length metas ≡ 0 = grind (arith, nat_tests) in
    ([], no_list (nil_from_length metas none), sym (append-nil c.args.files.now.items))

pub returns-clause-made : goal.returns-clause-made
returns-clause-made c =
    let metas = c.args.metas.now in
    let test = c.if-is_empty.ensures in
    let some : length metas ≢ 0 = λ none. grind (arith, nat_tests) in
    let list = c.in_ok-name.field-0 in (
      list.file ∷ [],
      subst (λ (left : Naming). HasChangesList c.args.schema.now c.args.names.now metas (Some list.name) (list.file ∷ []) left) (sym c.in_ok-name.ensures.names)
          (one_list list.name list.file (λ none. some (ap length none)) c.in_ok-name.ensures.made),
      c.in_ok-push.ensures.items,
    )
