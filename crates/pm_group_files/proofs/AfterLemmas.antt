-- What follows the answers to the calls of a reader of files.
use Rattle.std.proofs.Common.{◌≡◌, ℕ, List, Option, Some, sym, subst}
use Rattle.pm_store.specs.declared.answer.Answer.TheVariants as answers
use Rattle.pm_group_files.specs.Collected.{Collected, Takes}
use Rattle.pm_group_files.specs.Reader.{read_next, Goes}
use Rattle.pm_group_files.specs.Reading.{ReadingView}
use Rattle.pm_group_files.specs.declared.phase.Phase.{Phase}
use Rattle.pm_group_files.specs.declared.phase.Phase.TheVariants as phases

-- the next file was found, and its rows were taken
pub file_on : (r own : ReadingView) (found : Option (List ℕ)) (bytes : List ℕ) (c : Collected) (later : Phase) → own ≡ r → found ≡ Some bytes
    → Takes own.next bytes own.collected c → later ≡ read_next own.id c own.rest → Goes (phases.Files r) (answers.Found found) later
file_on r own found bytes c later is there takes on =
    let at : Goes (phases.Files own) (answers.Found (Some bytes)) later = (c, takes, on) in
    let from : Goes (phases.Files r) (answers.Found (Some bytes)) later =
    subst (λ (r : ReadingView). Goes (phases.Files r) (answers.Found (Some bytes)) later) is at in
    subst (λ (found : Option (List ℕ)). Goes (phases.Files r) (answers.Found found) later) (sym there) from
