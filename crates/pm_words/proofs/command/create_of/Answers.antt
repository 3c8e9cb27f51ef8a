use Rattle.std.proofs.Common.{ℕ, List, map, refl, Bor, []}
use Rattle.clap.specs.Words.{app_of}
use Rattle.pm_words.proofs.CommandLemmas.{no_create}
use Rattle.pm_words.proofs.DeclareLemmas.{create_has}
use Rattle.pm_words.proofs.command.create_of.Goals as goal

abbrev words_of : Bor (List (Bor (List ℕ))) → List (List ℕ)
words_of words = map (λ (word : Bor (List ℕ)). word.now) words.now

pub returns-in_default : goal.returns-in_default
returns-in_default c =
    no_create (words_of c.args.words) (rw c.in_default.is at (c.in_ok-matches_in.ensures [] (create_has (app_of c.create_words.result) c.create_words.ensures)))

pub returns : goal.returns
returns c =
    let found = rw c.in-Some.is at (c.in_ok-matches_in.ensures [] (create_has (app_of c.create_words.result) c.create_words.ensures)) in
    record { options = found.options; are = found.are; of = record { first = refl; names = found.of; values = tt } }
