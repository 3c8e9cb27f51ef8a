use Rattle.std.proofs.Common.{◌≡◌, List, [], ◌∷◌, ◌++◌, append-nil, ap, sym, ◌∙◌, arith}
use Rattle.std.proofs.lemmas.List.{nil_from_length}
use Rattle.pm_levels.specs.declared.runs.RunFiles.{RunFiles}
use Rattle.pm_levels.proofs.RunLemmas.{ends-apart, ends-none, puts-begins, puts-joins}
use Rattle.pm_levels.proofs.runs.put.Goals as goal

-- the file goes to the last run
pub returns-in_ok-push-in-Some : goal.returns-in_ok-push-in-Some
returns-in_ok-push-in-Some c =
    puts-joins c.args.runs.now.items _ _ c.in-Some.last c.in_ok-extended-in-Some.field-0 c.args.file c.in-Some.ensures.items (sym c.if-goes_on.ensures)
    c.in_ok-extended-in-Some.ensures c.in_ok-push-in-Some.ensures.items

-- the file begins a run after the last one
pub returns-in_ok-push-in-Some-3 : goal.returns-in_ok-push-in-Some-3
returns-in_ok-push-in-Some-3 c =
    let old : List RunFiles = c.args.runs.now.items in
    let others : List RunFiles = c.pop.new.self.items in
    let kept : List RunFiles = c.push-else-goes_on.new.self.items in
    let new : List RunFiles = c.push-else-goes_on-2.new.self.items in
    let last = c.in-Some.last in
    let more = c.in_ok-begun-in-Some.field-0 in
    let was : old ≡ others ++ last ∷ [] = c.in-Some.ensures.items in
    let back : kept ≡ others ++ last ∷ [] = c.in_ok-push-in-Some-2.ensures.items in
    let pushed : new ≡ kept ++ more ∷ [] = c.in_ok-push-in-Some-3.ensures.items in
    puts-begins old new more c.args.file (ends-apart old others last c.args.file was (sym c.if-goes_on.ensures)) c.in_ok-begun-in-Some.ensures
    (pushed ∙ ap (λ rs. rs ++ more ∷ []) (back ∙ sym was))

-- the file begins the first run
pub returns-in_ok-push-in-None : goal.returns-in_ok-push-in-None
returns-in_ok-push-in-None c =
    let old : List RunFiles = c.args.runs.now.items in
    let left : List RunFiles = c.pop.new.self.items in
    let new : List RunFiles = c.push-in-None.new.self.items in
    let more = c.in_ok-begun-in-None.field-0 in
    let none : old ≡ [] = nil_from_length old (omega (arith, c.args.runs.now.ok, c.in-None.ensures.cases)) in
    let same : old ≡ left = c.in-None.ensures.items ∙ append-nil left in
    let pushed : new ≡ left ++ more ∷ [] = c.in_ok-push-in-None.ensures.items in
    puts-begins old new more c.args.file (ends-none old c.args.file none) c.in_ok-begun-in-None.ensures (pushed ∙ ap (λ rs. rs ++ more ∷ []) (sym same))
