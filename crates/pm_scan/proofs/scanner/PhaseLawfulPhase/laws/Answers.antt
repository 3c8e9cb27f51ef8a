use Rattle.pm_scan.proofs.CauseLemmas.{truthful}
use Rattle.pm_scan.proofs.Facts.{FileLaws, sound, recounts, goes, has_call}
use Rattle.pm_scan.proofs.scanner.PhaseLawfulPhase.laws.Goals as goal

pub returns-clause-sound : goal.returns-clause-sound
returns-clause-sound c =
    let files : FileLaws = record { chosen = c.files_law.ensures.chosen; all = c.files_law.ensures.all } in
    sound (c.joined_law.ensures.left, c.joined_law.ensures.order) c.one_reading_law.ensures files

pub returns-clause-truthful : goal.returns-clause-truthful
returns-clause-truthful c = truthful c.causes_law.ensures c.causes_law-2.ensures

pub returns-clause-recounts : goal.returns-clause-recounts
returns-clause-recounts c = recounts (c.joined_law.ensures.left, c.joined_law.ensures.order)

pub returns-clause-goes : goal.returns-clause-goes
returns-clause-goes c = goes

pub returns-clause-has_call : goal.returns-clause-has_call
returns-clause-has_call c = has_call
