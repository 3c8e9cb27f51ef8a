use Rattle.std.proofs.Common.{◌≡◌, ℕ, ◌∷◌, ◌++◌, [], List, drop, length, map, rules, sym, ap, ◌∙◌, arith}
use Rattle.pm_schema.specs.Folder.{folder_text}
use Rattle.pm_lookup.specs.Lookup.{file_in}
use Rattle.pm_group_log.specs.Told.{files_with}
use Rattle.pm_group_log.proofs.BytesLemmas.{drop-none, drop-one, with-ended, with-next, with-none}
use Rattle.pm_group_log.proofs.kept.with_bytes.Goals as goal

-- no bytes are left
pub returns-in_default-clause-files : goal.returns-in_default-clause-files
returns-in_default-clause-files c = λ s g.
    let none : c.loop-file.bytes.items ≡ [] = search rules in
    with-none s g c.loop-file.paired.items (drop c.loop-file.file-index c.args.files.now) c.loop-file.bytes.items _ none (c.loop-file.invariant.files s g)

pub returns-in_default-clause-left : goal.returns-in_default-clause-left
returns-in_default-clause-left c =
    let none : c.loop-file.bytes.items ≡ [] = search rules in
    let after : c.pop_front.new.self.items ≡ [] = search rules in
    after ∙ drop-none c.args.bytes.now.items c.loop-file.file-index (length c.args.files.now) (sym none ∙ c.loop-file.invariant.left) c.loop-file-test.true

-- one more
pub loop-file-preserved : goal.loop-file-preserved
loop-file-preserved c =
    let split : c.loop-file.bytes.items ≡ c.in-Some.own ∷ c.pop_front.new.self.items = search rules in
    let pushed : c.push.new.self.items ≡ c.loop-file.paired.items ++ (c.file-item.result, c.in-Some.own) ∷ [] = search rules in
    record {
      files = λ s g. rw pushed (with-next s g c.loop-file.paired.items c.args.files.now c.loop-file.file-index c.file-item.result c.in-Some.own c.pop_front.new.self.items _
          c.loop-file-test.true c.file-item.is
          (ap (λ (kept : List (List ℕ)). map (file_in (folder_text s g)) c.loop-file.paired.items ++ files_with s g (drop c.loop-file.file-index c.args.files.now) kept) (sym split)
          ∙ c.loop-file.invariant.files s g));
      left = drop-one c.args.bytes.now.items c.loop-file.file-index c.in-Some.own c.pop_front.new.self.items (sym split ∙ c.loop-file.invariant.left);
      within = omega arith;
    }

-- all files have theirs
pub returns-clause-files : goal.returns-clause-files
returns-clause-files c = λ s g.
    with-ended s g c.loop-file.paired.items c.args.files.now c.loop-file.file-index c.loop-file.bytes.items _ c.loop-file-test.false (c.loop-file.invariant.files s g)

pub returns-clause-left : goal.returns-clause-left
returns-clause-left c =
    let within = c.loop-file.invariant.within in
    c.loop-file.invariant.left ∙ ap (λ (n : ℕ). drop n c.args.bytes.now.items) (omega arith)
