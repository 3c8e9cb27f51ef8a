use Rattle.std.proofs.Common.{◌≡◌, ◌+◌, ◌<◌, length, false, true, sym, subst, ◌∙◌, ap, arith}
use Rattle.std.proofs.lemmas.List.{get_or_read}
use Rattle.pm_levels.specs.Overlap.{has_keys}
use Rattle.pm_levels.proofs.OverlapLemmas.{Searched, first-meeting, free-all, searched-here, searched-kept, searched-none}
use Rattle.pm_levels.proofs.overlap.first_overlap.Goals as goal
use Rattle.pm_levels.proofs.overlap.first_overlap.Goals.{then-has_keys, else-has_keys}

pub loop-i-init : goal.loop-i-init
loop-i-init c = searched-none c.args.files.now

-- the file at i meets the last one
pub returns-then-meet : goal.returns-then-meet
returns-then-meet c =
    let within : c.loop-i.i < length c.args.files.now = omega arith in
    first-meeting c.args.files.now c.requires c.loop-i.last c.loop-i.i c.loop-i.invariant within c.index-files-last.result c.index-files-i.result
    c.index-files-last.is c.index-files-i.is (sym c.if-meet.ensures)

-- it doesn't; where it has keys, it is the last one
pub loop-i-preserved : goal.loop-i-preserved
loop-i-preserved c =
    let files = c.args.files.now in
    let i = c.loop-i.i in
    let within : i < length files = omega arith in
    let a = c.index-files-last.result in
    let b = c.index-files-i.result in
    let again = c.index-files-i-in-loop-i.result in
    let same : again ≡ b = get_or_read files i again within c.index-files-i-in-loop-i.is b ∙ sym c.index-files-i.is in
    let apart = sym c.if-meet.ensures in
    elim c.if-has_keys.branch [
      | then-has_keys w ↦
          let keys : has_keys b ≡ true = ap has_keys (sym same) ∙ sym w.if-has_keys.ensures in
          subst (λ n. Searched files n (i + 1)) (sym w.last-is)
          (searched-here files c.requires c.loop-i.last i c.loop-i.invariant within a b c.index-files-last.is c.index-files-i.is apart keys)
      | else-has_keys w ↦
          let keys : has_keys b ≡ false = ap has_keys (sym same) ∙ sym w.if-has_keys.ensures in
          subst (λ n. Searched files n (i + 1)) (sym w.last-is)
          (searched-kept files c.requires c.loop-i.last i c.loop-i.invariant within a b c.index-files-last.is c.index-files-i.is apart keys)
    ]

pub returns : goal.returns
returns c = free-all c.args.files.now c.loop-i.last c.loop-i.i c.loop-i.invariant (omega arith)
