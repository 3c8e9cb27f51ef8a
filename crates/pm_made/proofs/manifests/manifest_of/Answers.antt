use Rattle.std.proofs.Common.{◌≡◌, ◌≢◌, [], ◌∷◌, ◌++◌, length, sym, ap, ◌∙◌, append-nil, arith}
use Rattle.std.proofs.lemmas.Bool.Decides.{nat_tests}
use Rattle.std.proofs.lemmas.List.{nil_from_length}
use Rattle.pm_made.proofs.ManifestLemmas.{no-manifest, one-manifest}
use Rattle.pm_made.proofs.manifests.manifest_of.Goals as goal

pub returns-then-is_empty-clause-made : goal.returns-then-is_empty-clause-made
returns-then-is_empty-clause-made c =
    let entries = c.args.entries.now in
    let test = c.if-is_empty.ensures in
    let none : length entries ≡ 0 = grind (arith, nat_tests) in (
      [],
      no-manifest c.args.schema.now c.args.names.now entries c.new-metas.result.items (nil_from_length entries none) c.new-metas.ensures.items,
      sym (append-nil c.args.files.now.items),
    )

pub returns-clause-made : goal.returns-clause-made
returns-clause-made c =
    let entries = c.args.entries.now in
    let test = c.if-is_empty.ensures in
    let some : length entries ≢ 0 = λ none. grind (arith, nat_tests) in
    let made = c.in_ok-meta.field-0 in (
      made.file ∷ [],
      one-manifest c.args.schema.now c.args.names.now c.new_manifest.new.names entries c.push-2.new.self.items made.meta made.file
          (λ none. some (ap length none)) c.in_ok-meta.ensures.made
          (c.in_ok-push-2.ensures.items ∙ ap (λ xs. xs ++ made.meta ∷ []) c.new-metas.ensures.items) c.in_ok-meta.ensures.names,
      c.in_ok-push.ensures.items,
    )
