use Rattle.std.proofs.Common.{◌≡◌, ◌+◌, ◌≤◌, ℕ, List, [], ◌∷◌, ◌++◌, min, length, take, drop, sym, ap, subst, ◌∙◌, append_assoc, append-nil, arith}
use Rattle.std.proofs.lemmas.Bool.Decides.{nat_tests}
use Rattle.std.proofs.lemmas.List.{drop_min, length-append, nil_from_length, take_min}
use Rattle.pm_values.specs.Names.{Naming, counted, name_of, with_count}
use Rattle.pm_values.specs.declared.record.Stamped.{Stamped}
use Rattle.pm_run.specs.declared.run.RunFile.{RunFile}
use Rattle.pm_run.specs.Writing.{AreFilesOf, IsFileWith, data_prefix, suffix}
use Rattle.pm_run_writer.proofs.writer.FileWriter.write_files.Goals as goal

pub loop-left-preserved : goal.loop-left-preserved
loop-left-preserved c =
    let names = c.loop-left.names in
    let left = c.loop-left.left.now in
    let limit = c.args.limit in
    let level = c.args.level in
    let old = c.args.names.now in
    let test = c.loop-left-test.ensures in
    let some : 1 ≤ length left = grind (arith, nat_tests) in
    let many : c.min.result ≡ min limit (length left) = c.min.ensures in
    let step : c.take.new.self ≡ counted names = c.in_ok-name.ensures.counted in
    let one : c.take.new.self.count ≡ names.count + 1 = ap (λ (n : Naming). n.count) step in
    let part : c.split_at.result.0.now ≡ take limit left = c.split_at.ensures.front ∙ ap (λ (n : ℕ). take n left) many ∙ take_min limit left in
    let later : c.split_at.result.1.now ≡ drop limit left = c.split_at.ensures.back ∙ ap (λ (n : ℕ). drop n left) many ∙ drop_min limit left in
    let f : RunFile = c.in_ok-write_file.field-0 in
    record {
      named = step ∙ ap counted c.loop-left.invariant.named ∙ ap (with_count old.session old.actor old.base) (sym one);
      counted =
          let before = c.loop-left.invariant.counted in
          let back = c.split_at.ensures.back_len in
          let positive = c.requires.limit in
          omega arith;
      rising = let before = c.loop-left.invariant.rising in omega arith;
      taken =
          let before = c.loop-left.invariant.taken in
          let longer = ap length c.in_ok-push.ensures.items ∙ length-append c.loop-left.files.items (f ∷ []) in
          omega arith;
      files = λ s more form id rest.
          let file : IsFileWith s level names.session (name_of data_prefix suffix names) (take limit left) f =
          rw (c.session.ensures, ap (λ (n : Naming). n.session) step, c.in_ok-name.ensures.name, part) at (c.in_ok-write_file.ensures s form id) in
          let after : AreFilesOf s limit level (counted names) (drop limit left) more =
          subst (λ (n : Naming). AreFilesOf s limit level n (drop limit left) more) step
          (subst (λ (xs : List Stamped). AreFilesOf s limit level c.take.new.self xs more) later rest) in
          let all = c.loop-left.invariant.files s (f ∷ more) form id (some, file, after) in
          let pushed : c.push.new.self.items ++ more ≡ c.loop-left.files.items ++ f ∷ more =
          ap (λ (fs : List RunFile). fs ++ more) c.in_ok-push.ensures.items ∙ append_assoc c.loop-left.files.items (f ∷ []) more in
          subst (AreFilesOf s limit level old c.args.rows.now) (sym pushed) all;
    }

pub returns-clause-files : goal.returns-clause-files
returns-clause-files c = λ s form id.
    let left = c.loop-left.left.now in
    let test = c.loop-left-test.ensures in
    let none : length left ≡ 0 = grind (arith, nat_tests) in
    subst (AreFilesOf s c.args.limit c.args.level c.args.names.now c.args.rows.now) (append-nil c.loop-left.files.items)
    (c.loop-left.invariant.files s [] form id (nil_from_length left none))
