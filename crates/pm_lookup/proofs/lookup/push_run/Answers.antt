use Rattle.std.proofs.Common.{◌≡◌, ℕ, List, [], ◌∷◌, ◌++◌, append_assoc, ap, map, refl, subst, sym, ◌∙◌}
use Rattle.std.specs.List.{AllByRecursion}
use Rattle.std.specs.Vec.Iter.{into_iter_items}
use Rattle.pm_values.specs.declared.file_meta.FileMeta.{FileMeta}
use Rattle.pm_lookup.specs.File.{IsFileFor, seen}
use Rattle.pm_lookup.specs.declared.file.FileBytes.TheVariants.{Closed}
use Rattle.pm_lookup.specs.declared.file.LookedFile.{LookedFile}
use Rattle.pm_lookup.proofs.WalkLemmas.{all_push, file_pushed}
use Rattle.pm_lookup.proofs.lookup.push_run.Goals as goal

-- one file more
pub loop-meta-preserved : goal.loop-meta-preserved
loop-meta-preserved c =
    let done = c.loop-meta.yielded in
    let meta = c.in-Some.meta in
    let bytes = c.in-Some.bytes in
    let folder : List ℕ = c.args.run.folder in
    let files = c.loop-meta.files.items in
    let inv = c.loop-meta.invariant in
    let file : LookedFile = record { path = c.push_str-in-loop-meta.new.self; meta = meta; bytes = Closed bytes } in
    let path : c.push_str-in-loop-meta.new.self ≡ folder ++ 47 ∷ meta.name =
    c.in_ok-push_str-2.ensures.pushed ∙ ap (λ (t : List ℕ). t ++ c.as_str.result.now) (c.in_ok-push_str.ensures.pushed ∙ ap (λ (t : List ℕ). t ++ 47 ∷ []) c.in_ok-path.ensures)
    ∙ append_assoc folder (47 ∷ []) c.as_str.result.now ∙ ap (λ (n : List ℕ). folder ++ 47 ∷ n) c.as_str.ensures in
    let same : seen file ≡ record { path = folder ++ 47 ∷ meta.name; meta = meta; bytes = bytes } = ap (λ (p : List ℕ). record { path = p; meta = meta; bytes = bytes }) path in
    record {
      parts = append_assoc done ((meta, bytes) ∷ []) (into_iter_items c.next.new.self) ∙ ap (λ (fs : List (FileMeta × List ℕ)). done ++ fs) (sym c.in-Some.ensures.steps.0) ∙ inv.parts;
      folder = refl;
      have = ap (map seen) c.in_ok-push.ensures.items ∙ file_pushed files file (map seen c.args.files.now.items) folder done (meta, bytes) inv.have same;
      opened = λ s all. subst (AllByRecursion (IsFileFor s)) (sym c.in_ok-push.ensures.items) (all_push (IsFileFor s) files file (inv.opened s all) tt);
    }
