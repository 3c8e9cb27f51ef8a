use Rattle.std.proofs.Common.{refl, subst, sym, ◌∙◌}
use Rattle.std.specs.FinMap as map
use Rattle.std.specs.BTreeMap.Range.{range_contains}
use Rattle.std.specs.Cmp.Lexicographic.{slice_cmp}
use Rattle.std.specs.Ordering.{nat_cmp}
use Rattle.std.proofs.lemmas.Result.{IfOk-weaker}
use Rattle.pm_store.specs.Files.{IsListing}
use Rattle.pm_store.proofs.NameLaws.{listing}
use Rattle.pm_store.proofs.names.names_in.Goals as goal

pub returns : goal.returns
returns c =
    let bounds = c.in_ok-bounds.bounds in
    IfOk-weaker c.listed.result _ _
    (λ names is. subst (λ names. IsListing c.args.folder.now names (map.from_entries {R = slice_cmp nat_cmp} c.args.files.now.entries)) (sym is)
    (listing c.args.folder.now c.as_str.result.now (range_contains (slice_cmp nat_cmp) bounds.0 bounds.1) c.args.files.now.entries
    _ c.in_ok-names.names.keys (c.as_str.ensures ∙ c.in_ok-prefix.ensures) refl c.in_ok-bounds.ensures.all c.listed.ensures.rising c.in_ok-names.ensures))
    c.listed.ensures.names
