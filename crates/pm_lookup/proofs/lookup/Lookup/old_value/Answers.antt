use Rattle.std.proofs.Common.{◌≡◌, ◌<◌, ◌≤◌, List, None, Option, Some, length, get_or, map, refl, take, sym, ap, subst, ◌∙◌, arith}
use Rattle.std.specs.List.{AllByRecursion}
use Rattle.std.proofs.Math.ListN.{set}
use Rattle.std.proofs.lemmas.List.{length-map, length-set, with_items_is}
use Rattle.std.proofs.lemmas.Result.{err_from_is_err_and}
use Rattle.pm_values.specs.declared.record.Stamped.{Stamped}
use Rattle.pm_lookup.specs.File.{IsFileFor, SeenFile, seen}
use Rattle.pm_lookup.specs.Lookup.{HaveOne}
use Rattle.pm_lookup.specs.declared.file.LookedFile.{LookedFile}
use Rattle.pm_lookup.proofs.WalkLemmas.{all_at, all_walked, kept_all, kept_map, map_at, walk_refused, walked}
use Rattle.pm_lookup.proofs.lookup.Lookup.old_value.Goals as goal

pub look_in-requires : goal.look_in-requires
look_in-requires g c = all_at (IsFileFor c.args.schema.now) c.loop-file.file-items c.loop-file.file-index c.file-item.result (omega arith) c.loop-file.invariant.opened

-- one file more
pub loop-file-preserved : goal.loop-file-preserved
loop-file-preserved g c =
    let m = g.E.MergeEngine.meaning c.args.engine.now in
    let files = c.loop-file.file-items in
    let i = c.loop-file.file-index in
    let file = c.file-item.result in
    let inv = c.loop-file.invariant in
    let all : List SeenFile = map seen c.args.self.now.files.items in
    let within : i < length all = omega (arith, ap length inv.same, length-map files seen) in
    let at : get_or all i (seen (get_or files i file)) ≡ seen (get_or files i file) =
    subst (λ (f : LookedFile). get_or all i (seen f) ≡ seen (get_or files i file)) c.file-item.is
    (subst (λ (fs : List SeenFile). get_or fs i (seen file) ≡ seen (get_or files i file)) inv.same (map_at seen files i file)) in
    record {
      same = kept_map seen files i file c.look_in.new.file (sym c.file-item.is) (c.in_ok-old.ensures.same ∙ ap seen (sym c.file-item.is)) ∙ inv.same;
      opened = kept_all (IsFileFor c.args.schema.now) files i c.look_in.new.file c.look_in.ensures.opened inv.opened;
      have = walked m c.args.schema.now c.args.key.now all i (seen (get_or files i file)) within at c.in_ok-old.old (c.in_ok-old.ensures.looks (take i all) inv.have);
    }

pub returns-in_err-old-clause-opened : goal.returns-in_err-old-clause-opened
returns-in_err-old-clause-opened g c =
    let v = c.args.self.now.files in
    let files = c.loop-file.file-items in
    let i = c.loop-file.file-index in
    let new = c.look_in.new.file in
    let long : length (set files i new) ≡ v.len = omega (arith, length-set files i new, ap length c.deref_mut-file-items.ensures.value, v.ok.0) in
    subst (AllByRecursion (IsFileFor c.args.schema.now)) (sym (with_items_is v (set files i new) long)) (kept_all (IsFileFor c.args.schema.now) files i new c.look_in.ensures.opened c.loop-file.invariant.opened)

pub returns-in_err-old-clause-old : goal.returns-in_err-old-clause-old
returns-in_err-old-clause-old g c =
    let m = g.E.MergeEngine.meaning c.args.engine.now in
    let files = c.loop-file.file-items in
    let i = c.loop-file.file-index in
    let file = c.file-item.result in
    let inv = c.loop-file.invariant in
    let all : List SeenFile = map seen c.args.self.now.files.items in
    let within : i < length all = omega (arith, ap length inv.same, length-map files seen) in
    let at : get_or all i (seen (get_or files i file)) ≡ seen (get_or files i file) =
    subst (λ (f : LookedFile). get_or all i (seen f) ≡ seen (get_or files i file)) c.file-item.is
    (subst (λ (fs : List SeenFile). get_or fs i (seen file) ≡ seen (get_or files i file)) inv.same (map_at seen files i file)) in
    let p = err_from_is_err_and c.from_residual.result c.from_residual.ensures.1 in
    rw (p.1, p.2)
    (walk_refused m c.args.schema.now c.args.key.now all i (seen (get_or files i file)) within at c.in_err-old.field-0.0 (c.in_err-old.ensures.looks (take i all) inv.have))

pub returns-in-Some-clause-old : goal.returns-in-Some-clause-old
returns-in-Some-clause-old g c =
    let m = g.E.MergeEngine.meaning c.args.engine.now in
    let i = c.loop-file.file-index in
    let all : List SeenFile = map seen c.args.self.now.files.items in
    let end : length all ≤ i = omega (arith, ap length c.loop-file.invariant.same, length-map c.loop-file.file-items seen) in
    let have : HaveOne m c.args.schema.now c.args.key.now (take i all) (Some c.in-Some.row) =
    subst (λ (one : Option Stamped). HaveOne m c.args.schema.now c.args.key.now (take i all) one) c.in-Some.is c.loop-file.invariant.have in
    (Some c.in-Some.row, all_walked m c.args.schema.now c.args.key.now all i (Some c.in-Some.row) end have, refl)

pub returns-in-None-clause-old : goal.returns-in-None-clause-old
returns-in-None-clause-old g c =
    let m = g.E.MergeEngine.meaning c.args.engine.now in
    let i = c.loop-file.file-index in
    let all : List SeenFile = map seen c.args.self.now.files.items in
    let end : length all ≤ i = omega (arith, ap length c.loop-file.invariant.same, length-map c.loop-file.file-items seen) in
    let have : HaveOne m c.args.schema.now c.args.key.now (take i all) None =
    subst (λ (one : Option Stamped). HaveOne m c.args.schema.now c.args.key.now (take i all) one) c.in-None.is c.loop-file.invariant.have in
    (None, all_walked m c.args.schema.now c.args.key.now all i None end have, refl)
