use Rattle.std.proofs.Common.{◌≡◌, ◌∙◌, inl, inr, ℕ, List, [], map, subst, Bor}
use Rattle.clap.specs.Faults.{fault_of}
use Rattle.clap.specs.Kinds.{IsAmong}
use Rattle.clap.specs.Values.{kind_of}
use Rattle.clap.specs.Words.{app_of}
use Rattle.pm_words.proofs.FindLemmas.{are_read, has_found, no_fault, read_from}
use Rattle.pm_words.proofs.ReadLemmas.{both}
use Rattle.pm_words.proofs.options.matches_in.Goals as goal

pub returns-in-Ok : goal.returns-in-Ok
returns-in-Ok c = λ declared has.
    let words = map (λ (word : Bor (List ℕ)). word.now) c.args.words.now in
    let read = read_from (app_of c.args.command) declared words has c.requires (c.in-Ok.ensures.kinds has.simple) in
    has_found declared words c.in-Ok.matches read.0 read.1 ((c.in-Ok.ensures.matches (both _ _ has.simple).0).0 ∙ read.2)

pub returns : goal.returns
returns c = λ declared has options are of all.
    let words = map (λ (word : Bor (List ℕ)). word.now) c.args.words.now in
    let none : fault_of (app_of c.args.command) words ≡ [] = no_fault (app_of c.args.command) declared words options has c.requires (are_read declared words options are of all) in
    elim (c.in-Err.ensures.kinds has.simple) as (λ _. ⊥) [
      | inl memory ↦ c.in_default.not-OutOfMemory (c.kind.ensures ∙ memory)
      | inr among ↦ subst (IsAmong (kind_of c.in-Err.error)) none among
    ]
