-- What follows the answers to a committer's calls.
use Rattle.std.proofs.Common.{◌≡◌, inl, ◌+◌, length, None, Ok, Err, IfOk, IfErr, ap, ◌∙◌, subst}
use Rattle.pm_values.specs.declared.refusal.Refusal.TheVariants as refusals
use Rattle.pm_store.specs.declared.answer.Answer.{Answer}
use Rattle.pm_schema.specs.declared.schema.TableSchema.{TableSchema}
use Rattle.pm_read_table.specs.Reader as reader
use Rattle.pm_read_table.specs.declared.phase.Phase as view_phase
use Rattle.pm_made.specs.Files.{IsMadeOf}
use Rattle.pm_made.specs.Refusals.{refusal_of}
use Rattle.pm_made.specs.declared.newest.Made.{Made}
use Rattle.pm_commit.specs.Committer.{After, Goes, IsCommitter, IsViewing, Makes, Outcome, Reads, publishing_of}
use Rattle.pm_commit.specs.Own.{IsOwn, OwnView, with_named}
use Rattle.pm_commit.specs.declared.found.Found.{Found}
use Rattle.pm_put.specs.Putter.{create_next as put_next}
use Rattle.pm_put.specs.declared.putting.Publishing.{Publishing}
use Rattle.pm_commit.specs.declared.phase.Phase.{Phase}
use Rattle.pm_commit.specs.declared.phase.Phase.TheVariants as phases
use Rattle.pm_commit.proofs.ReadsLemmas.{EntriesRead, reads-on}

-- what was made is to be put
pub makes-put : (own next : OwnView) (found : Found) (made : Made) (outcome : Outcome) → IsMadeOf found.schema found.newest own.author own.intent own.names made
    → refusal_of found.newest own.author own.intent ≡ None → next ≡ with_named (own.names.count + length made.files.items) own
    → IfOk outcome (λ later. later ≡ phases.Put next found.schema made.id (put_next (publishing_of found.schema made.id made.text) made.files.items))
    → IfErr outcome (λ refusal. refusal ≡ refusals.Memory) → Makes own found outcome
makes-put own next found made (Ok later) is_made allowed named is memory =
    let x : Publishing = publishing_of found.schema made.id made.text in
    (made, is_made, allowed, is ∙ ap (λ (o : OwnView). phases.Put o found.schema made.id (put_next x made.files.items)) named)
makes-put own next found made (Err refusal) is_made allowed named is memory = inl memory

-- the reader of the view went on
pub still-reads : EntriesRead → (own : OwnView) (m : view_phase.Phase) (answer : Answer) (new : view_phase.Phase) → IsViewing own m → reader.Goes m answer new
    → (s : TableSchema) × Reads new s × IsOwn s own
still-reads law own m answer new (left, (s, reads, own_of), may) goes = (s, (reads-on law s m answer new reads goes).reads, own_of)

-- a phase that it goes on with is a committer's
pub ok-committer : ((m : Phase) (answer : Answer) (later : Phase) → IsCommitter m → Goes m answer later → IsCommitter later) → (m own : Phase) (answer : Answer) (outcome : Outcome)
    → m ≡ own → IsCommitter m → After own answer outcome → IfOk outcome IsCommitter
ok-committer law m own answer (Ok later) is known after = law own answer later (subst IsCommitter is known) after
ok-committer law m own answer (Err refusal) is known after = tt
