use Rattle.std.proofs.Common.{◌≡◌, ℕ, List, length, IfOk, ap, sym, subst, ◌∙◌, arith}
use Rattle.std.proofs.lemmas.Bool.Decides.{nat_tests}
use Rattle.std.proofs.lemmas.List.{nil_from_length}
use Rattle.pm_manifest.specs.declared.entry.Entry.{Entry}
use Rattle.pm_model_folder.specs.Entries.{rows_in_files}
use Rattle.pm_made.specs.Delta.{left_of}
use Rattle.pm_made.proofs.CountLemmas.{left-none, left-same}
use Rattle.pm_made.proofs.snapshot.rows_left.Goals as goal

pub returns-then-is_empty : goal.returns-then-is_empty
returns-then-is_empty c =
    let removed = c.args.removed.now in
    let live = c.args.live.now in
    let test = c.if-is_empty.ensures in
    let none : length removed ≡ 0 = grind (arith, nat_tests) in
    subst (λ (es : List Entry). IfOk c.rows_in_files.result (λ (count : ℕ). count ≡ rows_in_files es))
    (sym (ap (λ (gone : List Entry). left_of gone live) (nil_from_length removed none) ∙ left-none live)) c.rows_in_files.ensures

pub returns : goal.returns
returns c =
    subst (λ (es : List Entry). IfOk c.rows_without.result (λ (count : ℕ). count ≡ rows_in_files es))
    (left-same c.args.removed.now c.in_ok-gone.gone c.in_ok-gone.ensures c.args.live.now) c.rows_without.ensures
